-- Files that were looked up or made, one after the other, and what their numbers stand for.
use Rattle.std.proofs.Common.{◌≡◌, ◌≢◌, ℕ, List, [], ◌∷◌, ◌++◌, length, Option, Some, None, Ok, Err, refl, sym, ap, ap₂, subst, ◌∙◌, append_assoc, inl, inr}
use Rattle.std.specs.Prelude.{unwrap_or, slice_index_or}
use Rattle.std.proofs.Math.Seq.{get_or-append_seam}
use Rattle.q3_io.specs.declared.sink.Failed.{Failed}
use Rattle.q3_io.specs.Acts.{FileAct, Makes, Extends, after_acts, ActsOn}
use Rattle.q3_io.specs.Told.{File, Told, Named, Lookup, Create, contents_of, with_contents, name_of, contents_at, after_named, after_given, after_written, LooksUp, Creates}
use Rattle.q3_demo.specs.Running.{OnlyAsks}
use Rattle.q3_index.specs.Running.{Puts}
use Rattle.q3_index.proofs.FilesByName.{same_name, others_name, twice_name}
use Rattle.q3_runs.specs.Input.{looked_up, Leaves, LeavesTold, LooksUpTold}
use Rattle.q3_runs.proofs.Reading.{some_held}

-- ---- numbers

-- the last number that was given, and the one before it
pub last_number : (numbers : List (List ℕ)) (name : List ℕ) → slice_index_or (numbers ++ name ∷ []) (length numbers) [] ≡ name
last_number numbers name = get_or-append_seam numbers name [] []

number_before : (numbers : List (List ℕ)) (name other : List ℕ) → slice_index_or ((numbers ++ name ∷ []) ++ other ∷ []) (length numbers) [] ≡ name
number_before numbers name other =
    ap (λ (all : List (List ℕ)). slice_index_or all (length numbers) []) (append_assoc numbers (name ∷ []) (other ∷ [])) ∙ get_or-append_seam numbers name (other ∷ []) []

same_some : (a b : Told) → Some a ≡ Some b → a ≡ b
same_some a b e = cc

-- a name was given, and has the next number
abbrev found_in : Told → List ℕ → Told
found_in told name = after_given (after_named told name Lookup) name

abbrev made_in : Told → List ℕ → Told
made_in told name = after_given (after_written (after_named told name Create) name []) name

pub found_one : (told : Told) (t1 t2 : Option Told) (names : List Named) (demo : List ℕ) (first : ℕ) → LeavesTold (Some told) t1 names [] → LooksUp t1 t2 demo (Ok first)
    → (bytes : List ℕ) × (contents_of told.files demo ≡ Some bytes)
unfolding after_acts
found_one told t1 t2 names demo first leaves looks =
    let one : LooksUp (Some leaves.0) t2 demo (Ok first) = subst (λ (t : Option Told). LooksUp t t2 demo (Ok first)) leaves.1 looks in (
      unwrap_or (contents_of leaves.0.files demo) [],
      ap (λ (files : List File). contents_of files demo) (sym leaves.2.files) ∙ some_held (contents_of leaves.0.files demo) one.0,
    )

-- ---- two files were looked up after a name

pub record TwoFound (told now : Told) (demo index : List ℕ) (first second : ℕ) : Type 0 where
  pub of_demo : contents_of told.files demo ≡ Some (contents_at now first)
  pub of_index : contents_of told.files index ≡ Some (contents_at now second)

two_so : (told mid : Told) (demo index : List ℕ) (first second : ℕ) → mid.files ≡ told.files → LooksUp (Some mid) (Some (found_in mid demo)) demo (Ok first)
    → LooksUp (Some (found_in mid demo)) (Some (found_in (found_in mid demo) index)) index (Ok second) → TwoFound told (found_in (found_in mid demo) index) demo index first second
two_so told mid demo index first second same looks next = record {
  of_demo = ap (λ (files : List File). contents_of files demo) (sym same) ∙ (some_held (contents_of mid.files demo) looks.0
      ∙ ap (λ (name : List ℕ). Some (unwrap_or (contents_of mid.files name) []))
      (sym (ap (λ (n : ℕ). slice_index_or ((mid.numbers ++ demo ∷ []) ++ index ∷ []) n []) looks.1 ∙ number_before mid.numbers demo index)));
  of_index = ap (λ (files : List File). contents_of files index) (sym same) ∙ (some_held (contents_of mid.files index) next.0
      ∙ ap (λ (name : List ℕ). Some (unwrap_or (contents_of mid.files name) []))
      (sym (ap (λ (n : ℕ). slice_index_or ((mid.numbers ++ demo ∷ []) ++ index ∷ []) n []) next.1 ∙ last_number (mid.numbers ++ demo ∷ []) index)));
}

pub two_found : (told : Told) (t1 t2 t3 : Option Told) (names : List Named) (demo index : List ℕ) (first second : ℕ) → LeavesTold (Some told) t1 names [] → LooksUp t1 t2 demo (Ok first)
    → LooksUp t2 t3 index (Ok second) → (now : Told) × (t3 ≡ Some now) × TwoFound told now demo index first second
unfolding after_acts
two_found told t1 t2 t3 names demo index first second leaves looks next =
    let mid = leaves.0 in
    let one : LooksUp (Some mid) t2 demo (Ok first) = subst (λ (t : Option Told). LooksUp t t2 demo (Ok first)) leaves.1 looks in
    let two : LooksUp (Some (found_in mid demo)) t3 index (Ok second) = subst (λ (t : Option Told). LooksUp t t3 index (Ok second)) one.2 next in (
      found_in (found_in mid demo) index,
      two.2,
      two_so told mid demo index first second leaves.2.files (one.0, one.1, refl) (two.0, two.1, refl),
    )

-- and what their numbers stand for
pub named_two : (t1 t2 t3 : Option Told) (demo index : List ℕ) (first second : ℕ) → LooksUp t1 t2 demo (Ok first) → LooksUp t2 t3 index (Ok second)
    → (now : Told) → t3 ≡ Some now → (name_of now first ≡ demo) × (name_of now second ≡ index)
named_two None t2 t3 demo index first second looks next now is =
    let none : t3 ≡ None = subst (λ (t : Option Told). LooksUp t t3 index (Ok second)) looks next in absurd cc
named_two (Some mid) t2 t3 demo index first second looks next now is =
    let two : LooksUp (Some (found_in mid demo)) t3 index (Ok second) = subst (λ (t : Option Told). LooksUp t t3 index (Ok second)) looks.2 next in
    let same : now ≡ found_in (found_in mid demo) index = same_some now (found_in (found_in mid demo) index) (sym is ∙ two.2) in (
      ap (λ (t : Told). name_of t first) same
          ∙ (ap (λ (n : ℕ). slice_index_or ((mid.numbers ++ demo ∷ []) ++ index ∷ []) n []) looks.1 ∙ number_before mid.numbers demo index),
      ap (λ (t : Told). name_of t second) same
          ∙ (ap (λ (n : ℕ). slice_index_or ((mid.numbers ++ demo ∷ []) ++ index ∷ []) n []) two.1 ∙ last_number (mid.numbers ++ demo ∷ []) index),
    )

-- ---- one was looked up, and another was made

pub record MadeAfter (told now : Told) (names : List Named) (demo index : List ℕ) (first second : ℕ) : Type 0 where
  pub of_demo : contents_of told.files demo ≡ Some (contents_at now first)
  pub demo_name : name_of now first ≡ demo
  pub index_name : name_of now second ≡ index
  pub files : now.files ≡ with_contents told.files index []
  pub named : now.named ≡ told.named ++ (names ++ looked_up demo ∷ record { name = index; call = Create } ∷ [])

made_so : (told mid : Told) (names : List Named) (demo index : List ℕ) (first second : ℕ) → index ≢ demo → Leaves told mid names [] → LooksUp (Some mid) (Some (found_in mid demo)) demo (Ok first)
    → second ≡ length (found_in mid demo).numbers → MadeAfter told (made_in (found_in mid demo) index) names demo index first second
unfolding after_acts
made_so told mid names demo index first second apart leaves looks is =
    let demo_is = ap (λ (n : ℕ). slice_index_or ((mid.numbers ++ demo ∷ []) ++ index ∷ []) n []) looks.1 ∙ number_before mid.numbers demo index in
    record {
      of_demo = ap (λ (files : List File). contents_of files demo) (sym leaves.files) ∙ (some_held (contents_of mid.files demo) looks.0
          ∙ (ap (λ (found : Option (List ℕ)). Some (unwrap_or found [])) (sym (others_name mid.files index demo [] (λ e. apart (sym e))))
          ∙ ap (λ (name : List ℕ). Some (unwrap_or (contents_of (with_contents mid.files index []) name) [])) (sym demo_is)));
      demo_name = demo_is;
      index_name = ap (λ (n : ℕ). slice_index_or ((mid.numbers ++ demo ∷ []) ++ index ∷ []) n []) is ∙ last_number (mid.numbers ++ demo ∷ []) index;
      files = ap (λ (files : List File). with_contents files index []) leaves.files;
      named = append_assoc mid.named (looked_up demo ∷ []) (record { name = index; call = Create } ∷ [])
          ∙ (ap (λ (given : List Named). given ++ looked_up demo ∷ record { name = index; call = Create } ∷ []) leaves.named
          ∙ append_assoc told.named names (looked_up demo ∷ record { name = index; call = Create } ∷ []));
    }

pub made_after : (told : Told) (t1 t2 t3 : Option Told) (names : List Named) (demo index : List ℕ) (first second : ℕ) → index ≢ demo → LeavesTold (Some told) t1 names [] → LooksUp t1 t2 demo (Ok first)
    → Creates t2 t3 index (Ok second) → (now : Told) × (t3 ≡ Some now) × MadeAfter told now names demo index first second
made_after told t1 t2 t3 names demo index first second apart leaves looks makes =
    let mid = leaves.0 in
    let one : LooksUp (Some mid) t2 demo (Ok first) = subst (λ (t : Option Told). LooksUp t t2 demo (Ok first)) leaves.1 looks in
    let two : Creates (Some (found_in mid demo)) t3 index (Ok second) = subst (λ (t : Option Told). Creates t t3 index (Ok second)) one.2 makes in
    (made_in (found_in mid demo) index, two.1, made_so told mid names demo index first second apart leaves.2 (one.0, one.1, refl) two.0)

pub untold_made : (t1 t2 t3 : Option Told) (demo index : List ℕ) (first second : ℕ) → t1 ≡ None → LooksUp t1 t2 demo (Ok first) → Creates t2 t3 index (Ok second) → t3 ≡ None
untold_made t1 t2 t3 demo index first second none looks makes =
    let one : t2 ≡ None = subst (λ (t : Option Told). LooksUp t t2 demo (Ok first)) none looks in
    subst (λ (t : Option Told). Creates t t3 index (Ok second)) one makes

-- the two are different files, and the one that was made is empty
pub record MayBuild (told : Told) (first second : ℕ) : Type 0 where
  pub apart : name_of told first ≢ name_of told second
  pub empty : contents_of told.files (name_of told second) ≡ Some []

may_build : (told now : Told) (names : List Named) (demo index : List ℕ) (first second : ℕ) → index ≢ demo → MadeAfter told now names demo index first second → MayBuild now first second
may_build told now names demo index first second apart made = record {
  apart = λ same. apart (sym made.index_name ∙ (sym same ∙ made.demo_name));
  empty = ap₂ (λ (files : List File) (name : List ℕ). contents_of files name) made.files made.index_name ∙ same_name told.files index [];
}

pub builds_apart : (told t1 t2 t3 : Option Told) (profile demo index : List ℕ) (first second : ℕ) → index ≢ demo → LooksUpTold told t1 (profile ∷ []) → LooksUp t1 t2 demo (Ok first)
    → Creates t2 t3 index (Ok second) → (now : Told) → t3 ≡ Some now → MayBuild now first second
builds_apart None t1 t2 t3 profile demo index first second apart leaves looks makes now is = absurd (let none = untold_made t1 t2 t3 demo index first second leaves looks makes in cc)
builds_apart (Some told) t1 t2 t3 profile demo index first second apart leaves looks makes now is =
    let made = made_after told t1 t2 t3 (looked_up profile ∷ []) demo index first second apart leaves looks makes in
    subst (λ (t : Told). MayBuild t first second) (same_some made.0 now (sym made.1 ∙ is)) (may_build told made.0 (looked_up profile ∷ []) demo index first second apart made.2)

-- ---- what it leaves that bytes were put into the one that was made

-- the acts of an index of which so much was written
abbrev pub made_with : List ℕ → List ℕ → List FileAct
made_with index bytes = Makes index ∷ Extends index bytes ∷ []

pub puts_leave : (told mid now : Told) (names : List Named) (demo index bytes : List ℕ) (first second : ℕ) → MadeAfter told mid names demo index first second → Puts mid now second bytes
    → Leaves told now (names ++ looked_up demo ∷ record { name = index; call = Create } ∷ []) (made_with index bytes)
unfolding after_acts
puts_leave told mid now names demo index bytes first second made puts = record {
  named = puts.named ∙ made.named;
  files = puts.files ∙ (ap₂ (λ (files : List File) (name : List ℕ). with_contents files name bytes) made.files made.index_name
      ∙ ap (λ (had : List ℕ). with_contents (with_contents told.files index []) index (had ++ bytes)) (sym (ap (λ (found : Option (List ℕ)). unwrap_or found []) (same_name told.files index []))));
}

-- nothing was put into it
pub none_left : (told mid now : Told) (names : List Named) (demo index : List ℕ) (first second : ℕ) → MadeAfter told mid names demo index first second → Puts mid now second []
    → Leaves told now (names ++ looked_up demo ∷ record { name = index; call = Create } ∷ []) (Makes index ∷ [])
unfolding after_acts
none_left told mid now names demo index first second made puts = record {
  named = puts.named ∙ made.named;
  files = puts.files ∙ (ap₂ (λ (files : List File) (name : List ℕ). with_contents files name []) made.files made.index_name ∙ twice_name told.files index [] []);
}

-- ---- what is asked for changes nothing of it

pub leaves_asked : (told mid now : Option Told) (names : List Named) → LeavesTold told mid names [] → OnlyAsks mid now → LeavesTold told now names []
leaves_asked None mid now names leaves asks = subst (λ (m : Option Told). OnlyAsks m now) leaves asks
leaves_asked (Some told) mid now names leaves asks =
    let only = subst (λ (m : Option Told). OnlyAsks m now) leaves.1 asks in
    (record leaves.0 { asked = only.0 }, only.1, record { named = leaves.2.named; files = leaves.2.files })

-- a file can't be made
pub made_none : (told now : Option Told) (name : List ℕ) (e : Failed) → Creates told now name (Err e) → ActsOn told now (Makes name ∷ []) (Err e)
unfolding after_acts
made_none None now name e makes = makes
made_none (Some told) now name e makes =
    elim makes [
      | inl same ↦ ([], Makes name, [], refl, told, same, inl refl)
      | inr named ↦ ([], Makes name, [], refl, after_named told name Create, named, inr refl)
    ]
