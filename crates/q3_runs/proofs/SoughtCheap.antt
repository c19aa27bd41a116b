-- What a seek asks of the demo's file.
use Rattle.std.proofs.Common.{◌≡◌, ◌≢◌, ℕ, ◌+◌, ◌*◌, ◌/◌, ◌≤◌, Bool, IsTrue, List, length, Option, Some, Result, Ok, refl, sym, ap, subst, ◌∙◌, arith}
use Rattle.std.specs.Prelude.{◌<◌, ◌^◌}
use Rattle.q3_io.specs.declared.sink.Failed.{Failed}
use Rattle.q3_io.specs.Told.{Told, contents_at, name_of, LooksUp}
use Rattle.q3_profile.specs.declared.profile.Profile.{Profile}
use Rattle.q3_profile.specs.Profile.{IsProfile, IsCodec}
use Rattle.q3_demo.specs.Playing.{records_of}
use Rattle.q3_demo.specs.Running.{OnlyAsks, AsksOf, asked_of}
use Rattle.q3_index.specs.Text.{spacing}
use Rattle.q3_index.specs.Opening.{Heads, open_at}
use Rattle.q3_index.specs.Seeking.{bytes_between}
use Rattle.q3_index.specs.Running.{IndexState, opened, Opens, AsksOfTwo, IsMade}
use Rattle.q3_runs.specs.Input.{asked_by_name, IsCounted, AsksOfName}
use Rattle.q3_runs.specs.Run.{SeekAsksFromCheckpoint}
use Rattle.q3_runs.proofs.Numbered.{named_two}
use Rattle.q3_runs.proofs.SoughtPlays.{Premises, found_made, carry, least_ring}
use Rattle.q3_runs.proofs.AskedByName.{AsksNothing, looks_up, others_named, within_named}

-- ---- where it ended before anything was asked of the demo

pub cheap_unloaded : (told now : Option Told) (profile demo index : List ℕ) (number : ℕ) → AsksOfName profile told now → SeekAsksFromCheckpoint told now profile demo index number
cheap_unloaded told now profile demo index number asks =
    λ counted apart away files other version bytes made is says of_demo of_index long tells whole few. omega (arith, (asks counted).1 demo (λ same. apart (sym same)))

pub name_then : (told mid now : Option Told) (name : List ℕ) → AsksOfName name told mid → AsksNothing mid now → AsksOfName name told now
name_then told mid now name first second counted =
    let one = first counted in
    let two = second one.0 in
    (two.0, λ other apart. two.1 other ∙ one.1 other apart)

pub cheap_unfound : (told t1 t2 : Option Told) (profile demo index : List ℕ) (number : ℕ) (found : Result ℕ Failed) → AsksOfName profile told t1 → LooksUp t1 t2 demo found
    → SeekAsksFromCheckpoint told t2 profile demo index number
cheap_unfound told t1 t2 profile demo index number found asks looks =
    cheap_unloaded told t2 profile demo index number (name_then told t1 t2 profile asks (looks_up t1 t2 demo found looks))

pub both_looked : (told t1 t2 t3 : Option Told) (profile demo index : List ℕ) (first second : Result ℕ Failed) → AsksOfName profile told t1 → LooksUp t1 t2 demo first → LooksUp t2 t3 index second
    → AsksOfName profile told t3
both_looked told t1 t2 t3 profile demo index first second asks looks next =
    name_then told t2 t3 profile (name_then told t1 t2 profile asks (looks_up t1 t2 demo first looks)) (looks_up t2 t3 index second next)

pub cheap_unlisted : (told t1 t2 t3 : Option Told) (profile demo index : List ℕ) (number : ℕ) (first second : Result ℕ Failed) → AsksOfName profile told t1 → LooksUp t1 t2 demo first → LooksUp t2 t3 index second
    → SeekAsksFromCheckpoint told t3 profile demo index number
cheap_unlisted told t1 t2 t3 profile demo index number first second asks looks next =
    cheap_unloaded told t3 profile demo index number (both_looked told t1 t2 t3 profile demo index first second asks looks next)

-- ---- the index was opened, or not

-- nothing was asked of the demo by then
opened_asks : (told t1 t2 t3 t4 : Option Told) (profile demo index : List ℕ) (first second : ℕ) (now : Told) → t3 ≡ Some now → IsCounted told → profile ≢ demo → index ≢ demo → AsksOfName profile told t1
    → LooksUp t1 t2 demo (Ok first) → LooksUp t2 t3 index (Ok second) → OnlyAsks t3 t4 → AsksOf second t3 t4 → asked_by_name t4 demo ≡ asked_by_name told demo
opened_asks told t1 t2 t3 t4 profile demo index first second now is counted apart away asks looks next only of =
    let names = named_two t1 t2 t3 demo index first second looks next now is in
    others_named t3 t4 now second demo is only of (λ same. away (sym names.1 ∙ same))
    ∙ (both_looked told t1 t2 t3 profile demo index (Ok first) (Ok second) asks looks next counted).1 demo (λ same. apart (sym same))

pub cheap_unopened : (told t1 t2 t3 t4 : Option Told) (profile demo index : List ℕ) (first second number : ℕ) (by : Profile) → Premises told t1 t2 t3 profile demo index first second by
    → AsksOfName profile told t1 → OnlyAsks t3 t4 → AsksOf second t3 t4 → SeekAsksFromCheckpoint told t4 profile demo index number
cheap_unopened told t1 t2 t3 t4 profile demo index first second number by p asks only of =
    λ counted apart away files other version bytes made is says of_demo of_index long tells whole few.
    let so = found_made told t1 t2 t3 profile demo index first second number by p files other version bytes made is says of_demo of_index long tells whole few in
    omega (arith, opened_asks told t1 t2 t3 t4 profile demo index first second so.now so.told counted apart away asks p.looks p.next only of)

-- ---- it was sought

-- where the index was made of the demo, no more is asked for than its records have from the last checkpoint on
abbrev pub CostsLittle : Bool → Option Told → Option Told → Profile → IndexState → ℕ → Type 0
CostsLittle whole before now by state number =
    IsTrue whole → state.demo ≢ state.index → (told : Told) → before ≡ Some told → IsMade by state (contents_at told state.demo) (contents_at told state.index)
    → number ≤ length (records_of by (contents_at told state.demo))
    → asked_of now state.demo ≤ asked_of before state.demo + bytes_between by (contents_at told state.demo) (spacing * (number / spacing)) number

-- the same of the bytes that were found
record CheapAt (t4 t5 : Option Told) (by : Profile) (demo index : List ℕ) (first second number : ℕ) : Type 0 where
  heads : Heads
  opens : open_at (length demo) by.mark by.entity.number_bits index ≡ Ok heads
  only : AsksOfTwo first second t4 t5
  costs : IsMade by (opened first second heads) demo index → number ≤ length (records_of by demo) → asked_of t5 first ≤ asked_of t4 first + bytes_between by demo (spacing * (number / spacing)) number

cheap_at : (whole : Bool) (t3 t4 t5 : Option Told) (by : Profile) (first second number : ℕ) (state : IndexState)
    → ((now : Told) → t3 ≡ Some now → Opens first second (open_at (length (contents_at now first)) by.mark by.entity.number_bits (contents_at now second)) (Ok state)) → OnlyAsks t3 t4
    → AsksOfTwo state.demo state.index t4 t5 → CostsLittle whole t4 t5 by state number → IsTrue whole → first ≢ second → (now : Told) → t3 ≡ Some now
    → CheapAt t4 t5 by (contents_at now first) (contents_at now second) first second number
cheap_at whole t3 t4 t5 by first second number state opens asks of costs reads apart now is =
    let only = subst (λ (t : Option Told). OnlyAsks t t4) is asks in
    let there = opens now is in
    record {
      heads = there.0;
      opens = there.1;
      only = subst (λ (i : IndexState). AsksOfTwo i.demo i.index t4 t5) there.2 of;
      costs = λ made few. subst (λ (i : IndexState). CostsLittle whole t4 t5 by i number) there.2 costs reads apart (record now { asked = only.0 }) only.1 made few;
    }

same_file : (now : Told) (first second : ℕ) (demo index : List ℕ) → name_of now first ≡ demo → name_of now second ≡ index → index ≢ demo → first ≢ second
same_file now first second demo index of_demo of_index away = λ same. away (sym of_index ∙ (ap (λ (n : ℕ). name_of now n) (sym same) ∙ of_demo))

pub cheap_sought : (whole : Bool) (told t1 t2 t3 t4 t5 : Option Told) (profile demo index : List ℕ) (first second number : ℕ) (by : Profile) (state : IndexState)
    → Premises told t1 t2 t3 profile demo index first second by → AsksOfName profile told t1
    → ((now : Told) → t3 ≡ Some now → Opens first second (open_at (length (contents_at now first)) by.mark by.entity.number_bits (contents_at now second)) (Ok state)) → OnlyAsks t3 t4 → AsksOf second t3 t4
    → OnlyAsks t4 t5 → AsksOfTwo state.demo state.index t4 t5 → CostsLittle whole t4 t5 by state number → IsTrue whole → SeekAsksFromCheckpoint told t5 profile demo index number
cheap_sought whole told t1 t2 t3 t4 t5 profile demo index first second number by state p asks opens only of later two costs reads =
    λ counted apart away files other version bytes made is says of_demo of_index long tells made_so few.
    let so = found_made told t1 t2 t3 profile demo index first second number by p files other version bytes made is says of_demo of_index long tells made_so few in
    let names = named_two t1 t2 t3 demo index first second p.looks p.next so.now so.told in
    let first_asks = opened_asks told t1 t2 t3 t4 profile demo index first second so.now so.told counted apart away asks p.looks p.next only of in
    let there = carry (λ q d i. CheapAt t4 t5 q d i first second number) by other (contents_at so.now first) bytes (contents_at so.now second) made so.same so.of_demo so.of_index
    (cheap_at whole t3 t4 t5 by first second number state opens only two costs reads (same_file so.now first second demo index names.0 names.1 away) so.now so.told) in
    let is_made : IsMade other (opened first second there.heads) bytes made = record {
      codec = subst IsCodec so.same p.codec;
      ring = least_ring other (subst IsProfile so.same p.is_profile);
      mark = subst (λ (q : Profile). q.mark < 2 ^ 64) so.same p.mark;
      long = long;
      version = version;
      tells = tells;
      made = made_so;
      heads = there.heads;
      opens = there.opens;
      is = refl;
    } in
    let mid : OnlyAsks (Some so.now) t4 = subst (λ (t : Option Told). OnlyAsks t t4) so.told only in
    let last = within_named t4 t5 (record so.now { asked = mid.0 }) first second (bytes_between other bytes (spacing * (number / spacing)) number) demo mid.1 later there.only
    (λ same. away (sym names.1 ∙ same)) (there.costs is_made few) in
    omega (arith, first_asks, last)
