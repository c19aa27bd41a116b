-- What isn't wrong with config strings that a map sets.
use Rattle.std.proofs.Common.{◌≡◌, ℕ, ◌+◌, ◌<◌, ◌≤◌, ltb, List, [], ◌∷◌, length, map, set, replicate, Option, Some, None, inl, inr, refl, arith}
use Rattle.std.specs.Prelude.{not, find}
use Rattle.std.specs.List.{sum_by}
use Rattle.std.proofs.lemmas.Bool.{cases_Bool, lt-ltb, le-ltb, le-leb}
use Rattle.std.proofs.lemmas.List.{length-map, length-replicate}
use Rattle.std.proofs.lemmas.List.Sums.{sum_by-set, sum-map}
use Rattle.std.proofs.lemmas.List.Folds.{sum_by-replicate}
use Rattle.q3_text.specs.Texts.{translated}
use Rattle.q3_config.specs.declared.error.ConfigError.{ConfigError}
use Rattle.q3_config.specs.declared.error.ConfigError.TheVariants.{Index}
use Rattle.q3_config.specs.Strings.{Strings, places, longest_string, most_size, no_strings, size_of, config_size, is_config_byte, chars_fault, room_fault, set_fault, admit_fault}

some_fault : ConfigError → Option ConfigError
some_fault fault = Some fault

abbrev no_fault : Option ConfigError
no_fault = None

-- ---- a change that was admitted

found_none : (strings : Strings) (index : ℕ) (text : List ℕ) (found : Option ℕ) → chars_fault strings index text found ≡ None → room_fault strings index text ≡ None
found_none strings index text None none = none
found_none strings index text (Some byte) none = absurd (cc none)

pub settable : (strings : Strings) (index : ℕ) (text : List ℕ) → admit_fault strings index text ≡ None → set_fault strings index text ≡ None
unfolding admit_fault set_fault
settable strings index text none =
    elim (cases_Bool (ltb index places)) [
      | inl within ↦ rw within (found_none strings index text (find (λ byte. not (is_config_byte byte)) text) (rw within at none))
      | inr past ↦ let e : Some Index ≡ no_fault = rw past at none in absurd cc
    ]

-- ---- the text that tells an id

-- a string adds its length and one at most
size_of-le : (text : List ℕ) → size_of text ≤ length text + 1
size_of-le [] = omega arith
size_of-le (byte ∷ text) = omega arith

-- a short text alone is small
alone_small : (index : ℕ) (text : List ℕ) → index < places → length text ≤ 32 → config_size (set (replicate places []) index (map translated text)) ≤ most_size
unfolding config_size
alone_small index text within short =
    let none : List (List ℕ) = replicate places [] in
    let one = map translated text in
    let changed = sum_by-set size_of none index one [] (rw (length-replicate {A = List ℕ} places []) within) in
    let before : sum_by size_of none ≡ 0 = sum_by-replicate size_of places [] in
    omega (arith, changed, before, sum-map size_of (set none index one), size_of-le one, length-map text translated)

-- and fits
pub alone_fits : (index : ℕ) (text : List ℕ) → index < places → length text ≤ 32 → set_fault no_strings index text ≡ None
unfolding set_fault
alone_fits index text within short =
    rw (lt-ltb index places within, le-ltb longest_string (length text) (omega arith), le-leb _ most_size (alone_small index text within short)) refl
