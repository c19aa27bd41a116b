-- What is sought by the index that was made of a demo is what playing leaves.
use Rattle.std.proofs.Common.{◌≡◌, ℕ, ◌<◌, ◌≤◌, List, [], ◌∷◌, length, Option, Some, Result, Ok, Err, refl, sym, ap, subst, ◌∙◌, inl, inr, rules}
use Rattle.std.specs.Prelude.{◌⊎◌, ◌^◌}
use Rattle.q3_io.specs.Told.{Told, contents_of, contents_at, LooksUp}
use Rattle.q3_io.specs.Written.{Written}
use Rattle.q3_profile.specs.declared.profile.Profile.{Profile}
use Rattle.q3_profile.specs.Profile.{IsProfile, IsCodec}
use Rattle.q3_clstate.specs.State.{AppliedState}
use Rattle.q3_demo.specs.Playing as demos
use Rattle.q3_demo.specs.Report.{state_text}
use Rattle.q3_demo.specs.Running.{OnlyAsks}
use Rattle.q3_index.specs.declared.error.IndexError.{IndexError}
use Rattle.q3_index.specs.declared.error.SeekError.{SeekError}
use Rattle.q3_index.specs.declared.opening.Version.{Version}
use Rattle.q3_index.specs.Text.{Tells, index_by}
use Rattle.q3_index.specs.Laws.{IndexOpens, SeekingIsPlaying}
use Rattle.q3_index.specs.Opening.{Heads, open_at}
use Rattle.q3_index.specs.Seeking.{seek_at}
use Rattle.q3_index.specs.Running.{IndexState, opened, Opens, Seeks}
use Rattle.q3_runs.specs.declared.fault.Fault.{Fault}
use Rattle.q3_runs.specs.declared.fault.Fault.TheVariants as faults
use Rattle.q3_runs.specs.Faults.{index_fault, seek_fault}
use Rattle.q3_runs.specs.Input.{Holds, looked_up, LooksUpTold, Gives}
use Rattle.q3_runs.specs.Verdict.{profile_in, GetsFrom}
use Rattle.q3_runs.specs.Run.{PrintsAll, EndsWithPlayedState, SeekEndsWithPlayedState}
use Rattle.q3_runs.proofs.Looking.{got_ok, gave}
use Rattle.q3_runs.proofs.Early.{outside_of}
use Rattle.q3_runs.proofs.Numbered.{two_found}
use Rattle.q3_runs.proofs.Sought.{SoughtIn, sought_of, open_ends, seek_ends}

-- ---- what the laws say

pub record PlaysSo (by : Profile) (bytes made : List ℕ) (number : ℕ) : Type 0 where
  pub heads : Heads
  pub opens : open_at (length bytes) by.mark by.entity.number_bits made ≡ Ok heads
  pub played : demos.Played
  pub plays : demos.play_state by bytes number ≡ Ok played
  pub seeks : seek_at by bytes made heads.records heads.checkpoints number ≡ Ok played

pub least_ring : (by : Profile) → IsProfile by → 512 ≤ by.parse_ring
least_ring by is = let ring = is.parse_ring in search rules

plays_so : IndexOpens → SeekingIsPlaying → (version : Version) (by : Profile) (bytes made : List ℕ) (number : ℕ) → IsProfile by → IsCodec by → by.mark < 2 ^ 64 → length bytes < 2 ^ 64
    → Tells version by.entity.number_bits → index_by version by bytes ≡ Ok made → number ≤ length (demos.records_of by bytes) → PlaysSo by bytes made number
plays_so opening seeking version by bytes made number is codec mark long tells whole few =
    let opens = opening version by bytes made tells codec (least_ring by is) mark long whole in
    let found = seeking version by bytes made opens.0 number tells codec (least_ring by is) mark long whole opens.1 few in
    record { heads = opens.0; opens = opens.1; played = found.0; plays = found.1; seeks = found.2 }

pub carry : (P : Profile → List ℕ → List ℕ → Type 0) (by other : Profile) (d bytes i made : List ℕ) → by ≡ other → d ≡ bytes → i ≡ made → P by d i → P other bytes made
carry P by other d bytes i made one two three x = subst (λ (p : Profile). P p bytes made) one (subst (λ (b : List ℕ). P by b made) two (subst (λ (m : List ℕ). P by d m) three x))

-- ---- what the files hold

-- where the index was made of the demo, by the same profile, and both were found
pub record FoundMade (t3 : Option Told) (first second number : ℕ) (by other : Profile) (bytes made : List ℕ) : Type 0 where
  pub now : Told
  pub told : t3 ≡ Some now
  pub same : by ≡ other
  pub of_demo : contents_at now first ≡ bytes
  pub of_index : contents_at now second ≡ made
  pub plays : PlaysSo other bytes made number

same_profile : (a b : Profile) (says : Result Profile Fault) → says ≡ Ok a → says ≡ Ok b → a ≡ b
same_profile a b says first second = cc

same_bytes : (a b : List ℕ) (holds : Option (List ℕ)) → holds ≡ Some a → holds ≡ Some b → a ≡ b
same_bytes a b holds first second = cc

pub record Premises (told t1 t2 t3 : Option Told) (profile demo index : List ℕ) (first second : ℕ) (by : Profile) : Type 0 where
  pub opening : IndexOpens
  pub seeking : SeekingIsPlaying
  pub passes : GetsFrom profile_in told profile (Ok by)
  pub is_profile : IsProfile by
  pub codec : IsCodec by
  pub mark : by.mark < 2 ^ 64
  pub gives : Gives (Ok by) (profile ∷ []) told t1
  pub looks : LooksUp t1 t2 demo (Ok first)
  pub next : LooksUp t2 t3 index (Ok second)

pub found_made : (told t1 t2 t3 : Option Told) (profile demo index : List ℕ) (first second number : ℕ) (by : Profile) → Premises told t1 t2 t3 profile demo index first second by
    → (files : Told) (other : Profile) (version : Version) (bytes made : List ℕ) → told ≡ Some files → profile_in (contents_of files.files profile) ≡ Ok other
    → contents_of files.files demo ≡ Some bytes → contents_of files.files index ≡ Some made → length bytes < 2 ^ 64 → Tells version other.entity.number_bits → index_by version other bytes ≡ Ok made
    → number ≤ length (demos.records_of other bytes) → FoundMade t3 first second number by other bytes made
found_made told t1 t2 t3 profile demo index first second number by p files other version bytes made is says of_demo of_index long tells whole few =
    let leaves = subst (λ (t : Option Told). LooksUpTold t t1 (profile ∷ [])) is (gave by (profile ∷ []) told t1 p.gives) in
    let two = two_found files t1 t2 t3 (looked_up profile ∷ []) demo index first second leaves p.looks p.next in
    let holds : contents_of files.files profile ≡ p.passes.0 = subst (λ (t : Option Told). Holds t profile p.passes.0) is p.passes.1 in
    let same = same_profile by other (profile_in (contents_of files.files profile)) (ap profile_in holds ∙ got_ok (profile_in p.passes.0) by p.passes.2) says in
    record {
      now = two.0;
      told = two.1;
      same = same;
      of_demo = same_bytes (contents_at two.0 first) bytes (contents_of files.files demo) two.2.of_demo of_demo;
      of_index = same_bytes (contents_at two.0 second) made (contents_of files.files index) two.2.of_index of_index;
      plays = plays_so p.opening p.seeking version other bytes made number (subst IsProfile same p.is_profile) (subst IsCodec same p.codec) (subst (λ (q : Profile). q.mark < 2 ^ 64) same p.mark) long tells whole few;
    }

-- ---- how a seek ends then

is_early : (by : Profile) (bytes : List ℕ) (number : ℕ) (old now : Option Written) (e : Fault) → (e ≡ faults.NoMemory) ⊎ (e ≡ faults.Read) → EndsWithPlayedState by bytes number old now (Err e)
is_early by bytes number old now e outside = inr (elim outside [ inl memory ↦ inl (ap Err memory) | inr read ↦ inr (ap Err read) ])

pub plays_early : (told : Option Told) (profile demo index : List ℕ) (number : ℕ) (old now : Option Written) (e : Fault) → (e ≡ faults.NoMemory) ⊎ (e ≡ faults.Read)
    → SeekEndsWithPlayedState told profile demo index number old now (Err e)
plays_early told profile demo index number old now e outside =
    λ files by version bytes made is says of_demo of_index long tells whole few. is_early by bytes number old now e outside

not_both : {A : Type 0} (x : A) (e : Fault) (says : Result A Fault) → says ≡ Ok x → Err e ≡ says → ⊥
not_both x e says done refused = cc

pub plays_unprofiled : (told : Option Told) (profile demo index : List ℕ) (number : ℕ) (old now : Option Written) (e : Fault) → GetsFrom profile_in told profile (Err e)
    → SeekEndsWithPlayedState told profile demo index number old now (Err e)
plays_unprofiled told profile demo index number old now e gets =
    λ files by version bytes made is says of_demo of_index long tells whole few.
    let holds : contents_of files.files profile ≡ gets.0 = subst (λ (t : Option Told). Holds t profile gets.0) is gets.1 in
    elim gets.2 [
      | inl said ↦ absurd (not_both by e (profile_in gets.0) (ap profile_in (sym holds) ∙ says) said)
      | inr outside ↦ is_early by bytes number old now e (outside_of {A = Profile} (Err e) e refl outside)
    ]

not_refused : (whole : Result Heads IndexError) (heads : Heads) (e : IndexError) → whole ≡ Ok heads → whole ≡ Err e → ⊥
not_refused whole heads e done refused = cc

pub plays_unopened : (told t1 t2 t3 : Option Told) (profile demo index : List ℕ) (number : ℕ) (by : Profile) (first second : ℕ) (old now : Option Written) (e : IndexError)
    → Premises told t1 t2 t3 profile demo index first second by
    → ((now : Told) → t3 ≡ Some now → Opens first second (open_at (length (contents_at now first)) by.mark by.entity.number_bits (contents_at now second)) (Err e))
    → SeekEndsWithPlayedState told profile demo index number old now (Err (index_fault e))
plays_unopened told t1 t2 t3 profile demo index number by first second old now e p opens =
    λ files other version bytes made is says of_demo of_index long tells whole few.
    let so = found_made told t1 t2 t3 profile demo index first second number by p files other version bytes made is says of_demo of_index long tells whole few in
    elim (open_ends e) [
      | inl outside ↦ is_early other bytes number old now (index_fault e) outside
      | inr same ↦ absurd (not_refused (open_at (length bytes) other.mark other.entity.number_bits made) so.plays.heads e so.plays.opens
          (same first second (open_at (length bytes) other.mark other.entity.number_bits made)
          (carry (λ q d i. Opens first second (open_at (length d) q.mark q.entity.number_bits i) (Err e)) by other (contents_at so.now first) bytes (contents_at so.now second) made so.same so.of_demo so.of_index (opens so.now so.told))))
    ]

same_heads : (whole : Result Heads IndexError) (a b : Heads) → whole ≡ Ok a → whole ≡ Ok b → a ≡ b
same_heads whole a b first second = cc

-- what is sought where the index was made of the demo
made_sought : (t3 t4 : Option Told) (first second number : ℕ) (by other : Profile) (bytes made : List ℕ) (state : IndexState) (result : Result AppliedState SeekError)
    → (so : FoundMade t3 first second number by other bytes made)
    → ((now : Told) → t3 ≡ Some now → Opens first second (open_at (length (contents_at now first)) by.mark by.entity.number_bits (contents_at now second)) (Ok state)) → OnlyAsks t3 t4
    → ((now : Told) → t4 ≡ Some now → Seeks by state (contents_at now state.demo) (contents_at now state.index) number result)
    → Seeks other (opened first second so.plays.heads) bytes made number result
made_sought t3 t4 first second number by other bytes made state result so opens asks sought =
    let there = carry (λ q d i. SoughtIn q d i first second number result) by other (contents_at so.now first) bytes (contents_at so.now second) made so.same so.of_demo so.of_index
    (sought_of t3 t4 by first second number state result opens asks sought so.now so.told) in
    subst (λ (heads : Heads). Seeks other (opened first second heads) bytes made number result)
    (same_heads (open_at (length bytes) other.mark other.entity.number_bits made) there.heads so.plays.heads there.opens so.plays.opens) there.seeks

not_found : (found : Result demos.Played SeekError) (played : demos.Played) (e : SeekError) → found ≡ Ok played → found ≡ Err e → ⊥
not_found found played e done refused = cc

pub plays_refused : (told t1 t2 t3 t4 : Option Told) (profile demo index : List ℕ) (number : ℕ) (by : Profile) (first second : ℕ) (state : IndexState) (old now : Option Written) (e : SeekError)
    → Premises told t1 t2 t3 profile demo index first second by
    → ((now : Told) → t3 ≡ Some now → Opens first second (open_at (length (contents_at now first)) by.mark by.entity.number_bits (contents_at now second)) (Ok state)) → OnlyAsks t3 t4
    → ((now : Told) → t4 ≡ Some now → Seeks by state (contents_at now state.demo) (contents_at now state.index) number (Err e))
    → SeekEndsWithPlayedState told profile demo index number old now (Err (seek_fault e))
plays_refused told t1 t2 t3 t4 profile demo index number by first second state old now e p opens asks sought =
    λ files other version bytes made is says of_demo of_index long tells whole few.
    let so = found_made told t1 t2 t3 profile demo index first second number by p files other version bytes made is says of_demo of_index long tells whole few in
    elim (seek_ends e) [
      | inl outside ↦ is_early other bytes number old now (seek_fault e) outside
      | inr same ↦ absurd (not_found (seek_at other bytes made so.plays.heads.records so.plays.heads.checkpoints number) so.plays.played e so.plays.seeks
          (same other bytes made number (opened first second so.plays.heads) (made_sought t3 t4 first second number by other bytes made state (Err e) so opens asks sought)))
    ]

same_played : (found : Result demos.Played SeekError) (a b : demos.Played) → found ≡ Ok a → found ≡ Ok b → a ≡ b
same_played found a b first second = cc

pub plays_printed : (told t1 t2 t3 t4 : Option Told) (profile demo index : List ℕ) (number : ℕ) (by : Profile) (first second : ℕ) (state : IndexState) (left : AppliedState) (old now : Option Written)
    (ended : Result (Unit {0}) Fault) → Premises told t1 t2 t3 profile demo index first second by
    → ((now : Told) → t3 ≡ Some now → Opens first second (open_at (length (contents_at now first)) by.mark by.entity.number_bits (contents_at now second)) (Ok state)) → OnlyAsks t3 t4
    → ((now : Told) → t4 ≡ Some now → Seeks by state (contents_at now state.demo) (contents_at now state.index) number (Ok left)) → PrintsAll (state_text left number) old now ended
    → SeekEndsWithPlayedState told profile demo index number old now ended
plays_printed told t1 t2 t3 t4 profile demo index number by first second state left old now ended p opens asks sought prints =
    λ files other version bytes made is says of_demo of_index long tells whole few.
    let so = found_made told t1 t2 t3 profile demo index first second number by p files other version bytes made is says of_demo of_index long tells whole few in
    let there = made_sought t3 t4 first second number by other bytes made state (Ok left) so opens asks sought in
    let played = same_played (seek_at other bytes made so.plays.heads.records so.plays.heads.checkpoints number) there.0 so.plays.played there.1 so.plays.seeks in
    inl (
      so.plays.played,
      so.plays.plays,
      subst (λ (s : AppliedState). PrintsAll (state_text s number) old now ended) (there.2 ∙ ap (λ (q : demos.Played). q.state) played) prints,
    )
