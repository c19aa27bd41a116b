-- The index of a demo is made: its head, and then the checkpoints.
use Rattle.std.proofs.Common.{◌≡◌, ◌≢◌, ℕ, ◌/◌, List, [], ◌++◌, length, Option, Some, None, Result, Ok, Err, IsSome, unwrap_or, refl, sym, ap, subst, ◌∙◌, inl, inr}
use Rattle.std.proofs.lemmas.List.{append-nil}
use Rattle.q3_bits.specs.ResultBind.{◌>>=◌}
use Rattle.q3_io.specs.Told.{Told, Measures, contents_of, contents_at, name_of}
use Rattle.q3_profile.specs.declared.profile.Profile.{Profile}
use Rattle.q3_demo.specs.declared.error.DemoError.{DemoError}
use Rattle.q3_demo.specs.declared.error.DemoError.TheVariants.{ReadFault, Truncated, BadLength, BadNumber, Message as NoMessage, NoMemory, WriteFault}
use Rattle.q3_demo.specs.Playing.{records_of, play_of}
use Rattle.q3_demo.specs.Running.{OnlyAsks}
use Rattle.q3_index.specs.declared.build.Built.{Built}
use Rattle.q3_index.specs.declared.opening.Version.TheVariants.{Second}
use Rattle.q3_index.specs.Text.{spacing, head_bytes, index_text, index_of}
use Rattle.q3_index.specs.Running.{LeavesIndex, BeginsIndex, Builds}
use Rattle.q3_index.specs.Steps.{IsOutside, HasIndex, BreaksOff, Extends, Counts, checkpoints_bytes}
use Rattle.q3_index.proofs.Putting.{HasPut, ThenBreaks, ThenLeaves, none_put, leaves_asked, put_more, put_more_at, put_stops, put_stops_at, put_same, put_all, index_holds, others_hold, names_stay}

-- the index's file is empty, and another than the demo's
abbrev pub IsEmpty : Told → ℕ → Type 0
IsEmpty told index = contents_of told.files (name_of told index) ≡ Some []

abbrev pub Apart : Told → ℕ → ℕ → Type 0
Apart told demo index = name_of told demo ≢ name_of told index

-- ---- before its head

holds_none : (told : Told) (index : ℕ) → IsEmpty told index → contents_at told index ≡ []
holds_none told index empty = ap (λ (found : Option (List ℕ)). unwrap_or found []) empty

pub still_empty : (told : Told) (before now : Option Told) (index : ℕ) → before ≡ Some told → IsEmpty told index → OnlyAsks before now → LeavesIndex told now index []
still_empty told before now index is empty asks =
    let has : HasIndex told index = subst (λ (found : Option (List ℕ)). IsSome found) (sym empty) refl in
    leaves_asked told (Some told) now index [] (subst (λ (bytes : List ℕ). LeavesIndex told (Some told) index bytes) (holds_none told index empty) (none_put told index has))
    (subst (λ (was : Option Told). OnlyAsks was now) is asks)

-- the demo's size, and that the files are told as before
pub size_is : (before now : Option Told) (demo size : ℕ) → Measures before now demo (Ok size) → (told : Told) → before ≡ Some told → (now ≡ Some told) × (size ≡ length (contents_at told demo))
size_is before now demo size measures told is = subst (λ (was : Option Told). Measures was now demo (Ok size)) is measures

none_begun : (profile : Profile) (told : Told) (demo index : ℕ) (now : Option Told) → LeavesIndex told now index [] → BeginsIndex profile told demo index now
none_begun profile told demo index now leaves = ([], index_text profile (contents_at told demo), refl, leaves, inl refl)

pub size_fails : (profile : Profile) (told : Told) (demo index : ℕ) (now : Option Told) → LeavesIndex told now index [] → Builds profile told demo index now (Err ReadFault)
size_fails profile told demo index now leaves = none_begun profile told demo index now leaves

-- the demo is refused
refused : (profile : Profile) (demo : List ℕ) (e : DemoError) → (play_of profile demo).ending ≡ Err e → index_of profile demo ≡ Err e
refused profile demo e is = ap (λ (ending : Result (Unit {0}) DemoError). ending >>= λ (x : Unit {0}). let whole : Result (List ℕ) DemoError = Ok (index_text profile demo) in whole) is

pub count_fails : (profile : Profile) (told : Told) (demo index : ℕ) (now : Option Told) (e : DemoError) → LeavesIndex told now index []
    → Counts (play_of profile (contents_at told demo)).ending (length (records_of profile (contents_at told demo))) (Err e) → Builds profile told demo index now (Err e)
count_fails profile told demo index now ReadFault leaves counts = none_begun profile told demo index now leaves
count_fails profile told demo index now (Truncated at) leaves counts = (refused profile (contents_at told demo) (Truncated at) counts, leaves)
count_fails profile told demo index now (BadLength at) leaves counts = (refused profile (contents_at told demo) (BadLength at) counts, leaves)
count_fails profile told demo index now (BadNumber at) leaves counts = (refused profile (contents_at told demo) (BadNumber at) counts, leaves)
count_fails profile told demo index now (NoMessage at cause) leaves counts = (refused profile (contents_at told demo) (NoMessage at cause) counts, leaves)
count_fails profile told demo index now NoMemory leaves counts = none_begun profile told demo index now leaves
count_fails profile told demo index now WriteFault leaves counts = none_begun profile told demo index now leaves

-- ---- from its head on

by_outside : (profile : Profile) (told : Told) (demo index : ℕ) (now : Option Told) (e : DemoError) → IsOutside e → BeginsIndex profile told demo index now → Builds profile told demo index now (Err e)
by_outside profile told demo index now ReadFault outside begun = begun
by_outside profile told demo index now (Truncated at) outside begun = absurd outside
by_outside profile told demo index now (BadLength at) outside begun = absurd outside
by_outside profile told demo index now (BadNumber at) outside begun = absurd outside
by_outside profile told demo index now (NoMessage at cause) outside begun = absurd outside
by_outside profile told demo index now NoMemory outside begun = begun
by_outside profile told demo index now WriteFault outside begun = begun

-- every record may be played
may_be_made : (profile : Profile) (demo : List ℕ) → (play_of profile demo).ending ≡ Ok tt → index_of profile demo ≡ Ok (index_text profile demo)
may_be_made profile demo is = ap (λ (ending : Result (Unit {0}) DemoError). ending >>= λ (x : Unit {0}). let whole : Result (List ℕ) DemoError = Ok (index_text profile demo) in whole) is

breaks : (profile : Profile) (told : Told) (demo index : ℕ) (now : Option Told) (e : DemoError) → IsEmpty told index → (play_of profile (contents_at told demo)).ending ≡ Ok tt
    → BreaksOff told now index (index_text profile (contents_at told demo)) e → Builds profile told demo index now (Err e)
breaks profile told demo index now e empty ending off =
    by_outside profile told demo index now e off.0
    (off.1, off.2, off.3, subst (λ (before : List ℕ). LeavesIndex told now index (before ++ off.1)) (holds_none told index empty) off.4, inr (may_be_made profile (contents_at told demo) ending))

-- all of it is still to be put there
whole_waits : (profile : Profile) (told : Told) (demo index : ℕ) (mid : Option Told) → IsEmpty told index → LeavesIndex told mid index []
    → HasPut told mid index (index_text profile (contents_at told demo)) (index_text profile (contents_at told demo))
whole_waits profile told demo index mid empty leaves = record {
  done = [];
  joined = refl;
  leaves = subst (λ (before : List ℕ). LeavesIndex told mid index (before ++ [])) (sym (holds_none told index empty)) leaves;
}

-- the head, as the call that writes it is given it
abbrev pub Given : Profile → Told → ℕ → ℕ → ℕ → ℕ → Type 0
Given profile told demo size width records =
    (size ≡ length (contents_at told demo)) × (width ≡ profile.entity.number_bits) × (records ≡ length (records_of profile (contents_at told demo)))

abbrev head_of : Profile → List ℕ → List ℕ
head_of profile demo = head_bytes Second (length demo) profile.mark profile.entity.number_bits (length (records_of profile demo))

same_head : (profile : Profile) (told : Told) (demo size width records : ℕ) → Given profile told demo size width records
    → head_bytes Second size profile.mark width records ≡ head_of profile (contents_at told demo)
same_head profile told demo size width records given =
    ap (λ n. head_bytes Second n profile.mark width records) given.0 ∙ ap (λ n. head_bytes Second (length (contents_at told demo)) profile.mark n records) given.1
    ∙ ap (λ n. head_bytes Second (length (contents_at told demo)) profile.mark profile.entity.number_bits n) given.2

pub head_fails : (profile : Profile) (told : Told) (demo index : ℕ) (mid now : Option Told) (size width records : ℕ) (e : DemoError) → IsEmpty told index → LeavesIndex told mid index [] → Given profile told demo size width records
    → (play_of profile (contents_at told demo)).ending ≡ Ok tt → ThenBreaks mid now index (head_bytes Second size profile.mark width records) e → Builds profile told demo index now (Err e)
head_fails profile told demo index mid now size width records e empty leaves given ending off =
    let bytes : List ℕ = contents_at told demo in
    breaks profile told demo index now e empty ending
    (put_stops told mid now index (head_of profile bytes) (checkpoints_bytes profile (records_of profile bytes)) (index_text profile bytes) e (whole_waits profile told demo index mid empty leaves)
    (subst (λ (head : List ℕ). ThenBreaks mid now index head e) (same_head profile told demo size width records given) off))

-- it was put there
head_put : (profile : Profile) (told : Told) (demo index : ℕ) (mid now : Option Told) (size width records : ℕ) → IsEmpty told index → LeavesIndex told mid index [] → Given profile told demo size width records
    → ThenLeaves mid now index (head_bytes Second size profile.mark width records)
    → HasPut told now index (checkpoints_bytes profile (records_of profile (contents_at told demo))) (index_text profile (contents_at told demo))
head_put profile told demo index mid now size width records empty leaves given put =
    let bytes : List ℕ = contents_at told demo in
    put_more told mid now index (head_of profile bytes) (checkpoints_bytes profile (records_of profile bytes)) (index_text profile bytes) (whole_waits profile told demo index mid empty leaves)
    (subst (λ (head : List ℕ). ThenLeaves mid now index head) (same_head profile told demo size width records given) put)

-- what the call that writes the checkpoints says
abbrev pub PutsPoints : Profile → Option Told → Option Told → ℕ → ℕ → ℕ → Result (Unit {0}) DemoError → Type 0
PutsPoints profile mid now demo index count result =
    (told : Told) → mid ≡ Some told → HasIndex told index → Apart told demo index → count ≡ length (records_of profile (contents_at told demo)) / spacing
    → Extends told now index (checkpoints_bytes profile (records_of profile (contents_at told demo))) result

points_there : (profile : Profile) (told mid : Told) (now : Option Told) (demo index records : ℕ) (left all : List ℕ) (result : Result (Unit {0}) DemoError) → Apart told demo index → HasPut told (Some mid) index left all
    → records ≡ length (records_of profile (contents_at told demo)) → PutsPoints profile (Some mid) now demo index (records / spacing) result
    → Extends mid now index (checkpoints_bytes profile (records_of profile (contents_at told demo))) result
points_there profile told mid now demo index records left all result apart has records_is puts =
    let before : List ℕ = contents_at told index ++ has.done in
    let same : contents_at mid demo ≡ contents_at told demo = others_hold told mid index demo before has.leaves apart in
    let count : records / spacing ≡ length (records_of profile (contents_at mid demo)) / spacing =
    ap (λ n. n / spacing) records_is ∙ ap (λ (bytes : List ℕ). length (records_of profile bytes) / spacing) (sym same) in
    subst (λ (bytes : List ℕ). Extends mid now index (checkpoints_bytes profile (records_of profile bytes)) result) same
    (puts mid refl (index_holds told mid index before has.leaves).1 (names_stay told mid index demo before has.leaves apart) count)

-- they were put there, or a front of them
points_put : (profile : Profile) (told : Told) (mid now : Option Told) (demo index records : ℕ) (result : Result (Unit {0}) DemoError) → Apart told demo index
    → HasPut told mid index (checkpoints_bytes profile (records_of profile (contents_at told demo))) (index_text profile (contents_at told demo))
    → records ≡ length (records_of profile (contents_at told demo)) → PutsPoints profile mid now demo index (records / spacing) result
    → Extends told now index (index_text profile (contents_at told demo)) result
points_put profile told None now demo index records result apart has records_is puts = absurd has.leaves
points_put profile told (Some mid) now demo index records (Ok x) apart has records_is puts =
    let points : List ℕ = checkpoints_bytes profile (records_of profile (contents_at told demo)) in
    let all : List ℕ = index_text profile (contents_at told demo) in
    let left : HasPut told (Some mid) index (points ++ []) all = put_same told (Some mid) index points (points ++ []) all has (sym (append-nil points)) in
    put_all told now index all (put_more_at told mid now index points [] all left (points_there profile told mid now demo index records points all (Ok x) apart has records_is puts))
points_put profile told (Some mid) now demo index records (Err e) apart has records_is puts =
    let points : List ℕ = checkpoints_bytes profile (records_of profile (contents_at told demo)) in
    let all : List ℕ = index_text profile (contents_at told demo) in
    let left : HasPut told (Some mid) index (points ++ []) all = put_same told (Some mid) index points (points ++ []) all has (sym (append-nil points)) in
    put_stops_at told mid now index points [] all e left (points_there profile told mid now demo index records points all (Err e) apart has records_is puts)

pub points_fail : (profile : Profile) (told : Told) (demo index : ℕ) (mid written now : Option Told) (size width records : ℕ) (e : DemoError) → IsEmpty told index → Apart told demo index → LeavesIndex told mid index []
    → Given profile told demo size width records → (play_of profile (contents_at told demo)).ending ≡ Ok tt → ThenLeaves mid written index (head_bytes Second size profile.mark width records)
    → PutsPoints profile written now demo index (records / spacing) (Err e)
    → Builds profile told demo index now (Err e)
points_fail profile told demo index mid written now size width records e empty apart leaves given ending head puts =
    breaks profile told demo index now e empty ending
    (points_put profile told written now demo index records (Err e) apart (head_put profile told demo index mid written size width records empty leaves given head) given.2 puts)

-- the index was made
pub it_is_made : (profile : Profile) (told : Told) (demo index : ℕ) (mid written now : Option Told) (size width : ℕ) (built : Built) → IsEmpty told index → Apart told demo index → LeavesIndex told mid index []
    → Given profile told demo size width built.records → built.checkpoints ≡ built.records / spacing → (play_of profile (contents_at told demo)).ending ≡ Ok tt
    → ThenLeaves mid written index (head_bytes Second size profile.mark width built.records) → PutsPoints profile written now demo index (built.records / spacing) (Ok tt)
    → Builds profile told demo index now (Ok built)
it_is_made profile told demo index mid written now size width built empty apart leaves given points ending head puts =
    let bytes : List ℕ = contents_at told demo in
    let put = points_put profile told written now demo index built.records (Ok tt) apart (head_put profile told demo index mid written size width built.records empty leaves given head) given.2 puts in (
      may_be_made profile bytes ending,
      subst (λ (before : List ℕ). LeavesIndex told now index (before ++ index_text profile bytes)) (holds_none told index empty) put,
      given.2,
      points,
    )
