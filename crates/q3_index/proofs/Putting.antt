-- Bytes are put after those of the index.
use Rattle.std.proofs.Common.{◌≡◌, ◌≢◌, ℕ, ◌%◌, ◌<◌, List, [], ◌∷◌, ◌++◌, length, Option, Some, None, Result, Ok, Err, IsSome, unwrap_or, refl, sym, ap, ap₂, subst, ◌∙◌, append_assoc, arith}
use Rattle.std.specs.Prelude.{slice_index_or}
use Rattle.std.proofs.lemmas.List.{append-nil}
use Rattle.byteorder.specs.Endian.{little_bytes}
use Rattle.q3_io.specs.Told.{File, Told, contents_of, with_contents, name_of, contents_at}
use Rattle.q3_profile.specs.declared.profile.Profile.{Profile}
use Rattle.q3_demo.specs.declared.error.DemoError.{DemoError}
use Rattle.q3_demo.specs.Playing.{Played}
use Rattle.q3_demo.specs.Running.{OnlyAsks}
use Rattle.q3_index.specs.Text.{checkpoint_bytes, state_of}
use Rattle.q3_index.specs.Running.{Puts, LeavesIndex}
use Rattle.q3_index.specs.Steps.{IsOutside, HasIndex, BreaksOff, Extends, numbers_bytes}
use Rattle.q3_index.proofs.FilesByName.{same_name, others_name, twice_name}

-- what is there already changes nothing
kept_name : (files : List File) (name bytes : List ℕ) → contents_of files name ≡ Some bytes → with_contents files name bytes ≡ files
unfolding contents_of with_contents
kept_name [] name bytes is = absurd cc
kept_name (file ∷ files) name bytes is = grind (arith, kept_name files name bytes)

some_is : {X : Type 0} (found : Option X) (default : X) → IsSome found → found ≡ Some (unwrap_or found default)
some_is None default some = absurd cc
some_is (Some x) default some = refl

-- nothing is put after them
pub none_put : (told : Told) (index : ℕ) → HasIndex told index → LeavesIndex told (Some told) index (contents_at told index)
none_put told index has = record {
  files = sym (kept_name told.files (name_of told index) (contents_at told index) (some_is (contents_of told.files (name_of told index)) [] has));
  numbers = refl;
  named = refl;
}

-- ---- once and again

-- what the index holds after it
index_held : (told now : Told) (index : ℕ) (bytes : List ℕ) → Puts told now index bytes → contents_of now.files (name_of now index) ≡ Some bytes
index_held told now index bytes puts =
    ap₂ (λ (files : List File) (numbers : List (List ℕ)). contents_of files (slice_index_or numbers index [])) puts.files puts.numbers ∙ same_name told.files (name_of told index) bytes

pub index_holds : (told now : Told) (index : ℕ) (bytes : List ℕ) → Puts told now index bytes → (contents_at now index ≡ bytes) × HasIndex now index
index_holds told now index bytes puts =
    let held = index_held told now index bytes puts in
    (ap (λ (found : Option (List ℕ)). unwrap_or found []) held, subst (λ (found : Option (List ℕ)). IsSome found) (sym held) refl)

-- and what another file does
pub others_hold : (told now : Told) (index other : ℕ) (bytes : List ℕ) → Puts told now index bytes → name_of told other ≢ name_of told index → contents_at now other ≡ contents_at told other
others_hold told now index other bytes puts apart =
    ap₂ (λ (files : List File) (numbers : List (List ℕ)). unwrap_or (contents_of files (slice_index_or numbers other [])) []) puts.files puts.numbers
    ∙ ap (λ (found : Option (List ℕ)). unwrap_or found []) (others_name told.files (name_of told index) (name_of told other) bytes apart)

pub names_stay : (told now : Told) (index other : ℕ) (bytes : List ℕ) → Puts told now index bytes → name_of told other ≢ name_of told index → name_of now other ≢ name_of now index
names_stay told now index other bytes puts apart = subst (λ (numbers : List (List ℕ)). slice_index_or numbers other [] ≢ slice_index_or numbers index []) (sym puts.numbers) apart

again : (told mid now : Told) (index : ℕ) (first second : List ℕ) → Puts told mid index first → Puts mid now index second → Puts told now index second
again told mid now index first second was is = record {
  files = is.files
      ∙ ap₂ (λ (files : List File) (numbers : List (List ℕ)). with_contents files (slice_index_or numbers index []) second) was.files was.numbers
      ∙ twice_name told.files (name_of told index) first second;
  numbers = is.numbers ∙ was.numbers;
  named = is.named ∙ was.named;
}

leaves_again : (told mid : Told) (now : Option Told) (index : ℕ) (first second : List ℕ) → Puts told mid index first → LeavesIndex mid now index second → LeavesIndex told now index second
leaves_again told mid None index first second was is = is
leaves_again told mid (Some now) index first second was is = again told mid now index first second was is

-- the first of them breaks off
pub first_stops : (told : Told) (now : Option Told) (index : ℕ) (bytes left : List ℕ) (e : DemoError) → BreaksOff told now index bytes e → BreaksOff told now index (bytes ++ left) e
first_stops told now index bytes left e off =
    (off.0, off.1, off.2 ++ left, sym (append_assoc off.1 off.2 left) ∙ ap (λ (xs : List ℕ). xs ++ left) off.3, off.4)

-- what is asked for changes nothing of it
pub leaves_asked : (told : Told) (mid now : Option Told) (index : ℕ) (bytes : List ℕ) → LeavesIndex told mid index bytes → OnlyAsks mid now → LeavesIndex told now index bytes
leaves_asked told None now index bytes leaves asks = absurd leaves
leaves_asked told (Some mid) now index bytes leaves asks =
    subst (λ (after : Option Told). LeavesIndex told after index bytes) (sym asks.1) (record { files = leaves.files; numbers = leaves.numbers; named = leaves.named })

-- ---- in a row

-- of all bytes these are left to put after those of the index
pub record HasPut (told : Told) (now : Option Told) (index : ℕ) (left all : List ℕ) : Type 0 where
  pub done : List ℕ
  pub joined : done ++ left ≡ all
  pub leaves : LeavesIndex told now index (contents_at told index ++ done)

pub put_none : (told : Told) (now : Option Told) (index : ℕ) (all : List ℕ) → now ≡ Some told → HasIndex told index → HasPut told now index all all
put_none told now index all is has = record {
  done = [];
  joined = refl;
  leaves = subst (λ (after : Option Told). LeavesIndex told after index (contents_at told index ++ [])) (sym is)
      (subst (λ (bytes : List ℕ). LeavesIndex told (Some told) index bytes) (sym (append-nil (contents_at told index))) (none_put told index has));
}

pub put_first : {X : Type 0} (told : Told) (now : Option Told) (index : ℕ) (bytes left : List ℕ) (x : X) → Extends told now index bytes (Ok x) → HasPut told now index left (bytes ++ left)
put_first told now index bytes left x puts = record { done = bytes; joined = refl; leaves = puts }

pub put_asks : (told : Told) (mid now : Option Told) (index : ℕ) (left all : List ℕ) → HasPut told mid index left all → OnlyAsks mid now → HasPut told now index left all
put_asks told mid now index left all has asks =
    record { done = has.done; joined = has.joined; leaves = leaves_asked told mid now index (contents_at told index ++ has.done) has.leaves asks }

pub put_same : (told : Told) (now : Option Told) (index : ℕ) (left rest all : List ℕ) → HasPut told now index left all → left ≡ rest → HasPut told now index rest all
put_same told now index left rest all has same = subst (λ (bytes : List ℕ). HasPut told now index bytes all) same has

-- the index has a file then
pub put_has : (told mid : Told) (index : ℕ) (left all : List ℕ) → HasPut told (Some mid) index left all → HasIndex mid index
put_has told mid index left all has = (index_holds told mid index (contents_at told index ++ has.done) has.leaves).1

-- what a call puts there whose clause speaks of the files as they were told before it
abbrev pub ThenLeaves : Option Told → Option Told → ℕ → List ℕ → Type 0
ThenLeaves mid now index bytes = (told : Told) → mid ≡ Some told → LeavesIndex told now index (contents_at told index ++ bytes)

abbrev pub ThenBreaks : Option Told → Option Told → ℕ → List ℕ → DemoError → Type 0
ThenBreaks mid now index bytes e = (told : Told) → mid ≡ Some told → BreaksOff told now index bytes e

more_leaves : (told mid : Told) (now : Option Told) (index : ℕ) (done bytes : List ℕ) → Puts told mid index (contents_at told index ++ done) → LeavesIndex mid now index (contents_at mid index ++ bytes)
    → LeavesIndex told now index (contents_at told index ++ (done ++ bytes))
more_leaves told mid now index done bytes was is =
    let same : contents_at mid index ++ bytes ≡ contents_at told index ++ (done ++ bytes) =
    ap (λ (xs : List ℕ). xs ++ bytes) (index_holds told mid index (contents_at told index ++ done) was).0 ∙ append_assoc (contents_at told index) done bytes in
    subst (λ (xs : List ℕ). LeavesIndex told now index xs) same (leaves_again told mid now index (contents_at told index ++ done) (contents_at mid index ++ bytes) was is)

-- they were put, or a front of them
pub put_more_at : (told mid : Told) (now : Option Told) (index : ℕ) (bytes left all : List ℕ) → HasPut told (Some mid) index (bytes ++ left) all → LeavesIndex mid now index (contents_at mid index ++ bytes)
    → HasPut told now index left all
put_more_at told mid now index bytes left all has leaves = record {
  done = has.done ++ bytes;
  joined = append_assoc has.done bytes left ∙ has.joined;
  leaves = more_leaves told mid now index has.done bytes has.leaves leaves;
}

pub put_more : (told : Told) (mid now : Option Told) (index : ℕ) (bytes left all : List ℕ) → HasPut told mid index (bytes ++ left) all → ThenLeaves mid now index bytes → HasPut told now index left all
put_more told None now index bytes left all has then_leaves = absurd has.leaves
put_more told (Some mid) now index bytes left all has then_leaves = put_more_at told mid now index bytes left all has (then_leaves mid refl)

pub put_stops_at : (told mid : Told) (now : Option Told) (index : ℕ) (bytes left all : List ℕ) (e : DemoError) → HasPut told (Some mid) index (bytes ++ left) all → BreaksOff mid now index bytes e
    → BreaksOff told now index all e
put_stops_at told mid now index bytes left all e has off =
    let front : List ℕ = off.1 in
    let rest : List ℕ = off.2 in (
      off.0,
      has.done ++ front,
      rest ++ left,
      append_assoc has.done front (rest ++ left) ∙ ap (λ (xs : List ℕ). has.done ++ xs) (sym (append_assoc front rest left) ∙ ap (λ (xs : List ℕ). xs ++ left) off.3) ∙ has.joined,
      more_leaves told mid now index has.done front has.leaves off.4,
    )

pub put_stops : (told : Told) (mid now : Option Told) (index : ℕ) (bytes left all : List ℕ) (e : DemoError) → HasPut told mid index (bytes ++ left) all → ThenBreaks mid now index bytes e → BreaksOff told now index all e
put_stops told None now index bytes left all e has breaks = absurd has.leaves
put_stops told (Some mid) now index bytes left all e has breaks = put_stops_at told mid now index bytes left all e has (breaks mid refl)

-- something from outside ends it
pub put_ends : (told : Told) (now : Option Told) (index : ℕ) (left all : List ℕ) (e : DemoError) → HasPut told now index left all → IsOutside e → BreaksOff told now index all e
put_ends told now index left all e has outside = (outside, has.done, left, has.joined, has.leaves)

pub put_all : (told : Told) (now : Option Told) (index : ℕ) (all : List ℕ) → HasPut told now index [] all → LeavesIndex told now index (contents_at told index ++ all)
put_all told now index all has =
    subst (λ (bytes : List ℕ). LeavesIndex told now index (contents_at told index ++ bytes)) (sym (append-nil has.done) ∙ has.joined) has.leaves

-- the last call of a row answers for it
pub put_last : {X : Type 0} (told : Told) (mid now : Option Told) (index : ℕ) (bytes all : List ℕ) (result : Result X DemoError) → HasPut told mid index (bytes ++ []) all
    → ((t : Told) → mid ≡ Some t → Extends t now index bytes result) → Extends told now index all result
put_last told mid now index bytes all (Ok x) has extends = put_all told now index all (put_more told mid now index bytes [] all has extends)
put_last told mid now index bytes all (Err e) has extends = put_stops told mid now index bytes [] all e has extends

-- ---- a byte

-- it is a number of one byte
pub byte_is : (n : ℕ) → n < 256 → n ∷ [] ≡ little_bytes 1 n
byte_is n fits = let same : n ≡ n % 256 = omega arith in ap (λ (byte : ℕ). byte ∷ []) same

-- ---- a checkpoint

-- what stands in front of its state, and the state
pub point_is : (profile : Profile) (played : Played) (records place size : ℕ) (state : List ℕ) → records ≡ played.records → place ≡ played.at → size ≡ length state → state ≡ state_of profile played
    → numbers_bytes records place size ++ (state ++ []) ≡ checkpoint_bytes profile played
point_is profile played records place size state records_is place_is size_is state_is =
    ap (λ n. numbers_bytes n place size ++ (state ++ [])) records_is ∙ ap (λ n. numbers_bytes played.records n size ++ (state ++ [])) place_is
    ∙ ap (λ n. numbers_bytes played.records played.at n ++ (state ++ [])) size_is ∙ ap (λ (xs : List ℕ). numbers_bytes played.records played.at (length xs) ++ (xs ++ [])) state_is

pub point_breaks : (told : Told) (now : Option Told) (index : ℕ) (numbers state all : List ℕ) (e : DemoError) → numbers ++ (state ++ []) ≡ all → BreaksOff told now index numbers e → BreaksOff told now index all e
point_breaks told now index numbers state all e same off = subst (λ (bytes : List ℕ). BreaksOff told now index bytes e) same (first_stops told now index numbers (state ++ []) e off)

pub point_put : {X : Type 0} (told : Told) (mid now : Option Told) (index : ℕ) (numbers state all : List ℕ) (result : Result X DemoError) → numbers ++ (state ++ []) ≡ all
    → LeavesIndex told mid index (contents_at told index ++ numbers) → ((t : Told) → mid ≡ Some t → Extends t now index state result) → Extends told now index all result
point_put told mid now index numbers state all result same put extends =
    put_last told mid now index state all result (record { done = numbers; joined = same; leaves = put }) extends
