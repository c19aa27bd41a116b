-- Words are the same exactly where none changed.
use Rattle.std.proofs.Common.{◌≡◌, ℕ, ◌+◌, eqb, List, [], ◌∷◌, length, refl, arith, inl, inr}
use Rattle.std.proofs.Math.Dec.{eqb-suc-zero}
use Rattle.std.proofs.lemmas.Bool.{cases_Bool}
use Rattle.q3_player.specs.Arrays.{changes_from}
use lib.Pointwise.{pointwise}

pub words-same : (place : ℕ) (from to : List ℕ) → length from ≡ length to → pointwise eqb from to ≡ eqb (length (changes_from place from to)) 0
unfolding changes_from
words-same place [] [] same = refl
words-same place [] (y ∷ to) same = absurd (omega arith)
words-same place (x ∷ from) [] same = absurd (omega arith)
words-same place (x ∷ from) (y ∷ to) same =
    elim (cases_Bool (eqb x y)) [
      | inl as_it_was ↦ rw as_it_was (words-same (place + 1) from to (omega arith))
      | inr differs ↦ rw (differs, eqb-suc-zero (length (changes_from (place + 1) from to))) refl
    ]
