-- What the files of names hold.
use Rattle.std.proofs.Common.{◌≡◌, ◌≢◌, ℕ, List, [], ◌∷◌, Option, Some, false, refl, sym, ap, ◌∙◌, inl, inr}
use Rattle.std.specs.Prelude.{if◌then◌else◌}
use Rattle.std.specs.Str.{bytes_eq}
use Rattle.std.proofs.lemmas.Bool.{cases_Bool, cond_both}
use Rattle.std.proofs.lemmas.Slice.Eq.{bytes_eq-Decides}
use Rattle.q3_io.specs.Told.{File, contents_of, with_contents}

other_name : (n name : List ℕ) → n ≢ name → bytes_eq n name ≡ false
other_name n name apart = elim (cases_Bool (bytes_eq n name)) [
  | inl same ↦ absurd (apart ((bytes_eq-Decides n name).0 same))
  | inr not ↦ not
]

pub same_name : (files : List File) (name bytes : List ℕ) → contents_of (with_contents files name bytes) name ≡ Some bytes
unfolding contents_of with_contents
same_name [] name bytes = rw ((bytes_eq-Decides name name).1 refl) refl
same_name (file ∷ files) name bytes =
    cond_both (bytes_eq file.name name) (record { name = file.name; contents = bytes } ∷ files) (file ∷ with_contents files name bytes)
    (λ (all : List File). contents_of all name ≡ Some bytes) (λ is. rw is refl) (λ not. rw not (same_name files name bytes))

pub others_name : (files : List File) (n name bytes : List ℕ) → name ≢ n → contents_of (with_contents files n bytes) name ≡ contents_of files name
unfolding contents_of with_contents
others_name [] n name bytes apart = rw (other_name n name (λ e. apart (sym e))) refl
others_name (file ∷ files) n name bytes apart =
    cond_both (bytes_eq file.name n) (record { name = file.name; contents = bytes } ∷ files) (file ∷ with_contents files n bytes)
    (λ (all : List File). contents_of all name ≡ contents_of (file ∷ files) name)
    (λ is. rw (other_name file.name name (λ same. apart (sym (sym ((bytes_eq-Decides file.name n).0 is) ∙ same)))) refl)
    (λ not. ap (λ (found : Option (List ℕ)). if bytes_eq file.name name then Some file.contents else found) (others_name files n name bytes apart))

-- the last of two counts
pub twice_name : (files : List File) (name first second : List ℕ) → with_contents (with_contents files name first) name second ≡ with_contents files name second
unfolding with_contents
twice_name [] name first second = rw ((bytes_eq-Decides name name).1 refl) refl
twice_name (file ∷ files) name first second =
    cond_both (bytes_eq file.name name) (record { name = file.name; contents = first } ∷ files) (file ∷ with_contents files name first)
    (λ (all : List File). with_contents all name second ≡ with_contents (file ∷ files) name second)
    (λ is. rw is refl) (λ not. rw not (ap (λ (others : List File). file ∷ others) (twice_name files name first second)))
