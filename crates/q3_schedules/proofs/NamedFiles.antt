-- What acts do to the file of a name.
use Rattle.std.proofs.Common.{◌≡◌, ◌≢◌, ℕ, List, [], ◌∷◌, ◌++◌, Option, Some, false, refl, sym, ap, ◌∙◌, inl, inr}
use Rattle.std.specs.Prelude.{if◌then◌else◌, unwrap_or}
use Rattle.std.specs.List.{AllByRecursion}
use Rattle.std.specs.Str.{bytes_eq}
use Rattle.std.proofs.lemmas.Bool.{cases_Bool, cond_both}
use Rattle.std.proofs.lemmas.List.{append-nil}
use Rattle.std.proofs.lemmas.Slice.Eq.{bytes_eq-Decides}
use Rattle.q3_io.specs.Acts.{FileAct, Makes, Extends, held_by, after_act, after_acts}
use Rattle.q3_io.specs.Told.{File, Told, contents_of, with_contents}
use Rattle.q3_ends.specs.Recording.{extends}

-- ---- what the file of a name holds

other_name : (n name : List ℕ) → n ≢ name → bytes_eq n name ≡ false
other_name n name ne = elim (cases_Bool (bytes_eq n name)) [
  | inl same ↦ absurd (ne ((bytes_eq-Decides n name).0 same))
  | inr not ↦ not
]

pub same_name : (files : List File) (name bytes : List ℕ) → contents_of (with_contents files name bytes) name ≡ Some bytes
unfolding contents_of with_contents
same_name [] name bytes = rw ((bytes_eq-Decides name name).1 refl) refl
same_name (file ∷ files) name bytes =
    cond_both (bytes_eq file.name name) (record { name = file.name; contents = bytes } ∷ files) (file ∷ with_contents files name bytes)
    (λ (all : List File). contents_of all name ≡ Some bytes) (λ is. rw is refl) (λ not. rw not (same_name files name bytes))

pub others_name : (files : List File) (n name bytes : List ℕ) → n ≢ name → contents_of (with_contents files n bytes) name ≡ contents_of files name
unfolding contents_of with_contents
others_name [] n name bytes ne = rw (other_name n name ne) refl
others_name (file ∷ files) n name bytes ne =
    cond_both (bytes_eq file.name n) (record { name = file.name; contents = bytes } ∷ files) (file ∷ with_contents files n bytes)
    (λ (all : List File). contents_of all name ≡ contents_of (file ∷ files) name)
    (λ is. rw (other_name file.name name (λ same. ne (sym ((bytes_eq-Decides file.name n).0 is) ∙ same))) refl)
    (λ not. ap (λ (found : Option (List ℕ)). if bytes_eq file.name name then Some file.contents else found) (others_name files n name bytes ne))

-- ---- acts

pub acts_over : (told : Told) (first second : List FileAct) → after_acts told (first ++ second) ≡ after_acts (after_acts told first) second
unfolding after_acts
acts_over told [] second = refl
acts_over told (act ∷ first) second = acts_over (after_act told act) first second

-- an act for a file of another name
abbrev pub Spares : List ℕ → FileAct → Type 0
Spares name (Makes n) = n ≢ name
Spares name (Extends n bytes) = n ≢ name

abbrev pub SparesAll : List ℕ → List FileAct → Type 0
SparesAll name acts = AllByRecursion (Spares name) acts

pub spared_one : (told : Told) (name : List ℕ) (act : FileAct) → Spares name act → contents_of (after_act told act).files name ≡ contents_of told.files name
spared_one told name (Makes n) ne = others_name told.files n name [] ne
spared_one told name (Extends n bytes) ne = others_name told.files n name (held_by told.files n ++ bytes) ne

pub spared : (told : Told) (name : List ℕ) (acts : List FileAct) → SparesAll name acts → contents_of (after_acts told acts).files name ≡ contents_of told.files name
unfolding after_acts
spared told name [] all = refl
spared told name (act ∷ acts) all = spared (after_act told act) name acts all.1 ∙ spared_one told name act all.0

pub spares_extended : (name n bytes : List ℕ) → n ≢ name → SparesAll name (extends n bytes)
spares_extended name n [] ne = tt
spares_extended name n (byte ∷ bytes) ne = (ne, tt)

pub spares_both : (name : List ℕ) (first second : List FileAct) → SparesAll name first → SparesAll name second → SparesAll name (first ++ second)
spares_both name [] second one two = two
spares_both name (act ∷ first) second one two = (one.0, spares_both name first second one.1 two)

-- the file is made, and bytes are put after its own
pub made : (told : Told) (name : List ℕ) → contents_of (after_acts told (Makes name ∷ [])).files name ≡ Some []
unfolding after_acts
made told name = same_name told.files name []

pub extended : (told : Told) (name bytes more : List ℕ) → contents_of told.files name ≡ Some bytes → contents_of (after_acts told (extends name more)).files name ≡ Some (bytes ++ more)
unfolding after_acts
extended told name bytes [] is = is ∙ ap (λ (b : List ℕ). Some b) (sym (append-nil bytes))
extended told name bytes (byte ∷ more) is =
    same_name told.files name (held_by told.files name ++ byte ∷ more) ∙ ap (λ (held : Option (List ℕ)). Some (unwrap_or held [] ++ byte ∷ more)) is
