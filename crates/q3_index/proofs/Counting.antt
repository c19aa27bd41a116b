-- All records of a demo are played, and counted.
use Rattle.std.proofs.Common.{◌≡◌, ◌≢◌, ℕ, zero, suc, ◌+◌, ◌-◌, ◌<◌, ◌≤◌, Bool, true, false, List, [], ◌∷◌, ◌++◌, length, drop, replicate, Option, Some, None, Result, Ok, Err, refl, sym, ap, subst, ◌∙◌, lt-ltb, le-ltb, inl, inr, arith}
use Rattle.std.specs.Prelude.{◌⊎◌, nat_lt, is_some}
use Rattle.std.proofs.lemmas.Bool.{cases_Bool, ltb-true, ltb-false}
use Rattle.std.proofs.lemmas.List.{drop_at, length-replicate}
use Rattle.q3_io.specs.Told.{Told, contents_at}
use Rattle.q3_profile.specs.declared.profile.Profile.{Profile}
use Rattle.q3_clstate.specs.declared.applied.Applied.{Applied}
use Rattle.q3_demo.specs.declared.error.DemoError.{DemoError}
use Rattle.q3_demo.specs.declared.error.DemoError.TheVariants.{ReadFault, Truncated, BadLength, BadNumber, Message as NoMessage, NoMemory, WriteFault}
use Rattle.q3_demo.specs.declared.record.Piece.{Piece}
use Rattle.q3_demo.specs.declared.record.Piece.TheVariants.{End, Message}
use Rattle.q3_demo.specs.Player.{PlayerState, PlaysOn, at_most_end, step_of_all}
use Rattle.q3_demo.specs.Playing.{Played, Stepped, unplayed, next_piece, step, most_records, at_most, play_step, play_from, play_of, next_records, records_from, records_of}
use Rattle.q3_demo.specs.Running.{OnlyAsks}
use Rattle.q3_demo.specs.Steps.{Leads}
use Rattle.q3_demo.proofs.Taking.{PlaysSo, refuses_quietly}
use Rattle.q3_index.specs.Steps.{Counts, CountsNext}
use Rattle.q3_index.proofs.Stepping.{one_more}
use Rattle.q3_index.proofs.Seeking.{told_later}

-- ---- the next of all

-- after the last record that may be played no more are
none_last : (now : Played) (found : Result Piece DemoError) (stepped : Stepped) → at_most_end now found ≡ Ok (Some stepped) → ⊥
none_last now (Ok End) stepped is = cc
none_last now (Ok (Message number size next)) stepped is = cc
none_last now (Err e) stepped is = cc

quiet_last : (now : Played) (found : Result Piece DemoError) → at_most_end now found ≡ Err WriteFault → ⊥
quiet_last now (Ok End) is = cc
quiet_last now (Ok (Message number size next)) is = cc
quiet_last now (Err e) is = cc

all_is : (demo : List ℕ) (now : Played) → now.records < most_records → step_of_all demo now ≡ step demo now
all_is demo now few = rw (lt-ltb now.records most_records few) refl

last_is : (demo : List ℕ) (now : Played) → most_records ≤ now.records → step_of_all demo now ≡ at_most_end now (next_piece demo now)
last_is demo now many = rw (le-ltb now.records most_records many) refl

few_or_many : (count : ℕ) → (count < most_records) ⊎ (most_records ≤ count)
few_or_many count = elim (cases_Bool (nat_lt count most_records)) [
  | inl is ↦ inl (ltb-true count most_records is)
  | inr not ↦ inr (ltb-false count most_records not)
]

some_of_all : (demo : List ℕ) (now : Played) (stepped : Stepped) → step_of_all demo now ≡ Ok (Some stepped) → (now.records < most_records) × (step demo now ≡ Ok (Some stepped))
some_of_all demo now stepped is = elim (few_or_many now.records) [
  | inl few ↦ (few, sym (all_is demo now few) ∙ is)
  | inr many ↦ absurd (none_last now (next_piece demo now) stepped (sym (last_is demo now many) ∙ is))
]

-- ---- what a player's call says of it

-- bytes that stand at a place, of some demo
pub bytes_at : ℕ → List ℕ → List ℕ
bytes_at at bytes = replicate at 0 ++ bytes

pub bytes_there : (at : ℕ) (bytes : List ℕ) → drop at (bytes_at at bytes) ≡ bytes
unfolding bytes_at
bytes_there at bytes = drop_at (replicate at 0) bytes at (length-replicate at 0)

-- the next record was played so in every demo that has these bytes there, after which no more than all are
abbrev pub PlaysAllSo : List ℕ → PlayerState → PlayerState → Result (Option Applied) DemoError → Type 0
PlaysAllSo bytes was now result = (demo : List ℕ) → drop was.played.at demo ≡ bytes → PlaysOn (step_of_all demo was.played) was now result

-- no demo is refused for a fault of writing
isnt_quiet : (bytes : List ℕ) (was now : PlayerState) → PlaysSo bytes was now (Err WriteFault) → ⊥
isnt_quiet bytes was now plays =
    let quiet = refuses_quietly 0 bytes was now WriteFault plays in
    elim quiet.1 [
      | inl less ↦ omega arith
      | inr last ↦ omega arith
    ]

pub isnt_write : (bytes : List ℕ) (was now : PlayerState) (e : DemoError) → PlaysSo bytes was now (Err e) → e ≢ WriteFault
isnt_write bytes was now e plays is = isnt_quiet bytes was now (subst (λ (d : DemoError). PlaysSo bytes was now (Err d)) is plays)

isnt_quiet_all : (bytes : List ℕ) (was now : PlayerState) → PlaysAllSo bytes was now (Err WriteFault) → ⊥
isnt_quiet_all bytes was now plays = elim (few_or_many was.played.records) [
  | inl few ↦ isnt_quiet bytes was now (λ demo there. sym (all_is demo was.played few) ∙ plays demo there)
  | inr many ↦
      let demo : List ℕ = bytes_at was.played.at bytes in
      quiet_last was.played (next_piece demo was.played) (sym (last_is demo was.played many) ∙ plays demo (bytes_there was.played.at bytes))
]

pub isnt_write_all : (bytes : List ℕ) (was now : PlayerState) (e : DemoError) → PlaysAllSo bytes was now (Err e) → e ≢ WriteFault
isnt_write_all bytes was now e plays is = isnt_quiet_all bytes was now (subst (λ (d : DemoError). PlaysAllSo bytes was now (Err d)) is plays)

-- whatever is told of files
rises_of_all : (bytes : List ℕ) (was now : PlayerState) (answer : Applied) → PlaysAllSo bytes was now (Ok (Some answer))
    → (now.played.records ≡ was.played.records + 1) × (was.played.records < most_records)
rises_of_all bytes was now answer plays =
    let demo : List ℕ = bytes_at was.played.at bytes in
    let on = plays demo (bytes_there was.played.at bytes) in
    let some = some_of_all demo was.played on.0 on.1 in
    (ap (λ (p : PlayerState). p.played.records) on.2 ∙ one_more demo was.played on.0 some.1, some.0)

stays_at_end : (bytes : List ℕ) (was now : PlayerState) → PlaysAllSo bytes was now (Ok None) → now.played ≡ was.played
stays_at_end bytes was now plays =
    let on = plays (bytes_at was.played.at bytes) (bytes_there was.played.at bytes) in
    ap (λ (p : PlayerState). p.played) on.1

-- by whether there was one
pub some_of_all_rises : (bytes : List ℕ) (was now : PlayerState) (answer : Option Applied) → PlaysAllSo bytes was now (Ok answer) → is_some answer ≡ true
    → (now.played.records ≡ was.played.records + 1) × (was.played.records < most_records)
some_of_all_rises bytes was now None plays some = absurd cc
some_of_all_rises bytes was now (Some answer) plays some = rises_of_all bytes was now answer plays

pub none_of_all_stays : (bytes : List ℕ) (was now : PlayerState) (answer : Option Applied) → PlaysAllSo bytes was now (Ok answer) → is_some answer ≡ false → now.played ≡ was.played
none_of_all_stays bytes was now None plays none = stays_at_end bytes was now plays
none_of_all_stays bytes was now (Some answer) plays none = absurd cc

-- ---- as far as a demo was played

-- what is left of it ends as all of it, and has the records that are missing
pub record GoesSo (profile : Profile) (demo : List ℕ) (now : Played) : Type 0 where
  pub few : now.records ≤ most_records
  pub ending : (play_of profile demo).ending ≡ (play_from (most_records - now.records) demo now).ending
  pub count : length (records_of profile demo) ≡ now.records + length (records_from (most_records - now.records) demo now)

pub goes_first : (profile : Profile) (demo : List ℕ) → GoesSo profile demo (unplayed profile)
goes_first profile demo = record { few = omega arith; ending = refl; count = omega arith }

-- one record more
ending_more : (left : ℕ) (demo : List ℕ) (was : Played) (stepped : Stepped) → step demo was ≡ Ok (Some stepped) → (play_from (suc left) demo was).ending ≡ (play_from left demo stepped.played).ending
unfolding play_from
ending_more left demo was stepped is = ap (λ (s : Result (Option Stepped) DemoError). (play_step was s (play_from left demo)).ending) is

pub records_more : (left : ℕ) (demo : List ℕ) (was : Played) (stepped : Stepped) → step demo was ≡ Ok (Some stepped) → records_from (suc left) demo was ≡ stepped ∷ records_from left demo stepped.played
unfolding records_from
records_more left demo was stepped is = ap (λ (s : Result (Option Stepped) DemoError). next_records s (records_from left demo)) is

pub goes_more : (profile : Profile) (demo : List ℕ) (was : Played) (stepped : Stepped) → GoesSo profile demo was → was.records < most_records → step demo was ≡ Ok (Some stepped) → GoesSo profile demo stepped.played
goes_more profile demo was stepped goes few is =
    let one : stepped.played.records ≡ was.records + 1 = one_more demo was stepped is in
    let left : ℕ = most_records - stepped.played.records in
    let all : most_records - was.records ≡ suc left = omega arith in
    let more : length (records_from (most_records - was.records) demo was) ≡ suc (length (records_from left demo stepped.played)) =
    ap (λ n. length (records_from n demo was)) all ∙ ap length (records_more left demo was stepped is) in
    let before = goes.count in
    record {
      few = omega arith;
      ending = goes.ending ∙ ap (λ n. (play_from n demo was).ending) all ∙ ending_more left demo was stepped is;
      count = omega (arith, before, more, one);
    }

leads_to : (next : Result (Option Stepped) DemoError) (now : Played) → Leads next now → (stepped : Stepped) × (next ≡ Ok (Some stepped)) × (stepped.played ≡ now)
leads_to (Ok (Some stepped)) now leads = (stepped, refl, leads)
leads_to (Ok None) now leads = absurd leads
leads_to (Err e) now leads = absurd leads

pub leads_step : (demo : List ℕ) (was now : Played) → Leads (step demo was) now → (stepped : Stepped) × (step demo was ≡ Ok (Some stepped)) × (stepped.played ≡ now)
leads_step demo was now leads = leads_to (step demo was) now leads

all_more : (profile : Profile) (demo : List ℕ) (was now : Played) → GoesSo profile demo was → Leads (step_of_all demo was) now → GoesSo profile demo now
all_more profile demo was now goes leads =
    let to = leads_to (step_of_all demo was) now leads in
    let some = some_of_all demo was to.0 to.1 in
    subst (λ (p : Played). GoesSo profile demo p) to.2 (goes_more profile demo was to.0 goes some.0 some.1)

-- the demo ends there, or what stands there is refused
ending_none : (left : ℕ) (demo : List ℕ) (was : Played) → step demo was ≡ Ok None → (play_from (suc left) demo was).ending ≡ Ok tt
unfolding play_from
ending_none left demo was is = ap (λ (s : Result (Option Stepped) DemoError). (play_step was s (play_from left demo)).ending) is

ending_err : (left : ℕ) (demo : List ℕ) (was : Played) (e : DemoError) → step demo was ≡ Err e → (play_from (suc left) demo was).ending ≡ Err e
unfolding play_from
ending_err left demo was e is = ap (λ (s : Result (Option Stepped) DemoError). (play_step was s (play_from left demo)).ending) is

records_none : (left : ℕ) (demo : List ℕ) (was : Played) → step demo was ≡ Ok None → records_from (suc left) demo was ≡ []
unfolding records_from
records_none left demo was is = ap (λ (s : Result (Option Stepped) DemoError). next_records s (records_from left demo)) is

ending_last : (demo : List ℕ) (was : Played) → (play_from zero demo was).ending ≡ (at_most was (next_piece demo was)).ending
unfolding play_from
ending_last demo was = refl

records_last : (demo : List ℕ) (was : Played) → records_from zero demo was ≡ []
unfolding records_from
records_last demo was = refl

records_err : (left : ℕ) (demo : List ℕ) (was : Played) (e : DemoError) → step demo was ≡ Err e → records_from (suc left) demo was ≡ []
unfolding records_from
records_err left demo was e is = ap (λ (s : Result (Option Stepped) DemoError). next_records s (records_from left demo)) is

-- where more are left, the next one is played
none_left : (profile : Profile) (demo : List ℕ) (was : Played) → GoesSo profile demo was → was.records < most_records → was.records < length (records_of profile demo)
    → records_from (suc (most_records - (was.records + 1))) demo was ≡ [] → ⊥
none_left profile demo was goes few more none =
    let all : most_records - was.records ≡ suc (most_records - (was.records + 1)) = omega arith in
    let long : length (records_from (most_records - was.records) demo was) ≡ 0 = ap (λ n. length (records_from n demo was)) all ∙ ap length none in
    let count = goes.count in
    omega (arith, count, long)

next_by : (profile : Profile) (demo : List ℕ) (was : Played) (next : Result (Option Stepped) DemoError) → GoesSo profile demo was → was.records < most_records → was.records < length (records_of profile demo)
    → step demo was ≡ next → (stepped : Stepped) × (step demo was ≡ Ok (Some stepped))
next_by profile demo was (Ok (Some stepped)) goes few more is = (stepped, is)
next_by profile demo was (Ok None) goes few more is = absurd (none_left profile demo was goes few more (records_none (most_records - (was.records + 1)) demo was is))
next_by profile demo was (Err e) goes few more is = absurd (none_left profile demo was goes few more (records_err (most_records - (was.records + 1)) demo was e is))

pub next_is : (profile : Profile) (demo : List ℕ) (was : Played) → GoesSo profile demo was → was.records < most_records → was.records < length (records_of profile demo)
    → (stepped : Stepped) × (step demo was ≡ Ok (Some stepped))
next_is profile demo was goes few more = next_by profile demo was (step demo was) goes few more refl

last_ends : (was : Played) (found : Result Piece DemoError) → at_most_end was found ≡ Ok None → (at_most was found).ending ≡ Ok tt
last_ends was (Ok End) is = refl
last_ends was (Ok (Message number size next)) is = absurd cc
last_ends was (Err e) is = absurd cc

last_refused : (was : Played) (found : Result Piece DemoError) (e : DemoError) → at_most_end was found ≡ Err e → (at_most was found).ending ≡ Err e
last_refused was (Ok End) e is = absurd cc
last_refused was (Ok (Message number size next)) e is =
    let fault : Truncated was.at ≡ e = cc in
    ap (λ (d : DemoError). let left : Result (Unit {0}) DemoError = Err d in left) fault
last_refused was (Err d) e is =
    let fault : Truncated was.at ≡ e = cc in
    ap (λ (d : DemoError). let left : Result (Unit {0}) DemoError = Err d in left) fault

all_ends : (profile : Profile) (demo : List ℕ) (now : Played) → GoesSo profile demo now → step_of_all demo now ≡ Ok None → ((play_of profile demo).ending ≡ Ok tt) × (now.records ≡ length (records_of profile demo))
all_ends profile demo now goes is = elim (few_or_many now.records) [
  | inl few ↦
      let left : ℕ = most_records - (now.records + 1) in
      let all : most_records - now.records ≡ suc left = omega arith in
      let ends : step demo now ≡ Ok None = sym (all_is demo now few) ∙ is in
      let none : length (records_from (most_records - now.records) demo now) ≡ 0 = ap (λ n. length (records_from n demo now)) all ∙ ap length (records_none left demo now ends) in
      let before = goes.count in
      (goes.ending ∙ ap (λ n. (play_from n demo now).ending) all ∙ ending_none left demo now ends, omega (arith, before, none))
  | inr many ↦
      let fits = goes.few in
      let all : most_records - now.records ≡ 0 = omega arith in
      let none : length (records_from (most_records - now.records) demo now) ≡ 0 = ap (λ n. length (records_from n demo now)) all ∙ ap length (records_last demo now) in
      let before = goes.count in
      (goes.ending ∙ ap (λ n. (play_from n demo now).ending) all ∙ ending_last demo now ∙ last_ends now (next_piece demo now) (sym (last_is demo now many) ∙ is), omega (arith, before, none))
]

all_refused : (profile : Profile) (demo : List ℕ) (now : Played) (e : DemoError) → GoesSo profile demo now → step_of_all demo now ≡ Err e → (play_of profile demo).ending ≡ Err e
all_refused profile demo now e goes is = elim (few_or_many now.records) [
  | inl few ↦
      let left : ℕ = most_records - (now.records + 1) in
      let all : most_records - now.records ≡ suc left = omega arith in
      goes.ending ∙ ap (λ n. (play_from n demo now).ending) all ∙ ending_err left demo now e (sym (all_is demo now few) ∙ is)
  | inr many ↦
      let fits = goes.few in
      let all : most_records - now.records ≡ 0 = omega arith in
      goes.ending ∙ ap (λ n. (play_from n demo now).ending) all ∙ ending_last demo now ∙ last_refused now (next_piece demo now) e (sym (last_is demo now many) ∙ is)
]

-- ---- where the files are told

-- so far, whatever is told of files at first
abbrev pub GoesAs : Option Told → ℕ → Profile → Played → Type 0
GoesAs before demo profile now = (told : Told) → before ≡ Some told → GoesSo profile (contents_at told demo) now

-- the next of all was played as files are told
abbrev pub NextAs : Option Told → ℕ → Played → Played → Result Bool DemoError → Type 0
NextAs mid demo was now result = (told : Told) → mid ≡ Some told → CountsNext (step_of_all (contents_at told demo) was) now result

pub as_first : (before : Option Told) (demo : ℕ) (profile : Profile) (first : Played) → first ≡ unplayed profile → GoesAs before demo profile first
as_first before demo profile first is told told_is = subst (λ (p : Played). GoesSo profile (contents_at told demo) p) (sym is) (goes_first profile (contents_at told demo))

pub as_more : (before mid : Option Told) (demo : ℕ) (profile : Profile) (was now : Played) → OnlyAsks before mid → GoesAs before demo profile was → NextAs mid demo was now (Ok true) → GoesAs before demo profile now
as_more before mid demo profile was now asks goes counts told is =
    let later = told_later before mid told asks is in
    all_more profile (contents_at told demo) was now (goes told is) (counts (record told { asked = later.0 }) later.1)

pub as_ends : (before mid : Option Told) (demo : ℕ) (profile : Profile) (was now : Played) (records : ℕ) → OnlyAsks before mid → GoesAs before demo profile was → NextAs mid demo was now (Ok false)
    → records ≡ was.records → (told : Told) → before ≡ Some told → Counts (play_of profile (contents_at told demo)).ending (length (records_of profile (contents_at told demo))) (Ok records)
as_ends before mid demo profile was now records asks goes counts same told is =
    let later = told_later before mid told asks is in
    let ends = all_ends profile (contents_at told demo) was (goes told is) (counts (record told { asked = later.0 }) later.1) in
    (ends.0, same ∙ ends.1)

refused_so : (ending : Result (Unit {0}) DemoError) (count : ℕ) (next : Result (Option Stepped) DemoError) (now : Played) (e : DemoError) → (next ≡ Err e → ending ≡ Err e)
    → CountsNext next now (Err e) → Counts ending count (Err e)
refused_so ending count next now ReadFault alike counts = tt
refused_so ending count next now (Truncated at) alike counts = alike counts
refused_so ending count next now (BadLength at) alike counts = alike counts
refused_so ending count next now (BadNumber at) alike counts = alike counts
refused_so ending count next now (NoMessage at cause) alike counts = alike counts
refused_so ending count next now NoMemory alike counts = tt
refused_so ending count next now WriteFault alike counts = alike counts

pub as_refused : (before mid : Option Told) (demo : ℕ) (profile : Profile) (was now : Played) (e : DemoError) → OnlyAsks before mid → GoesAs before demo profile was → NextAs mid demo was now (Err e)
    → (told : Told) → before ≡ Some told → Counts (play_of profile (contents_at told demo)).ending (length (records_of profile (contents_at told demo))) (Err e)
as_refused before mid demo profile was now e asks goes counts told is =
    let later = told_later before mid told asks is in
    let bytes : List ℕ = contents_at told demo in
    refused_so (play_of profile bytes).ending (length (records_of profile bytes)) (step_of_all bytes was) now e (all_refused profile bytes was e (goes told is)) (counts (record told { asked = later.0 }) later.1)
