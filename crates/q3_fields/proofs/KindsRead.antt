-- Reading kinds from widths one after the other, as a loop does.
use Rattle.std.proofs.Common.{◌≡◌, ℕ, ◌+◌, ◌≤◌, ◌<◌, List, [], ◌∷◌, ◌++◌, length, take, drop, get_or, set, ℤ, pos, Some, None, Result, Ok, Err, refl, sym, ap, ◌∙◌, append_assoc, append-nil, arith}
use Rattle.std.specs.List.{All}
use Rattle.std.proofs.lemmas.Bool.{le-leb}
use Rattle.std.proofs.lemmas.List.{drop_more, drop_all, take_more_set, length-set}
use Rattle.std.proofs.lemmas.List.Elements.{All-nil, All-same, All-push}
use Rattle.q3_fields.specs.declared.kind.Kind.{Kind}
use Rattle.q3_fields.specs.declared.table.TableError.{TableError}
use Rattle.q3_fields.specs.declared.table.TableError.TheVariants.{Width}
use Rattle.q3_bits.specs.ResultBind.{◌>>=◌}
use Rattle.q3_fields.specs.Kinds.{Layout, IsKind, kind_of, kinds_from, numbered_table}

-- what was read before, and what is still read
abbrev pub with_front : List Kind → Result (List Kind) TableError → Result (List Kind) TableError
with_front front (Ok kinds) = Ok (front ++ kinds)
with_front front (Err e) = Err e

-- so far as many kinds stand in the array, and what is left reads as all did at the start
pub record HasKinds (widths : List ℤ) (k : ℕ) (kinds : List Kind) : Type 0 where
  pub places : length kinds ≡ 64
  pub each : All IsKind (take k kinds)
  pub reads : with_front (take k kinds) (kinds_from k (drop k widths)) ≡ kinds_from 0 widths

-- nothing in front changes nothing
with_front-none : (read : Result (List Kind) TableError) → with_front [] read ≡ read
with_front-none (Ok kinds) = refl
with_front-none (Err e) = refl

-- at the start
pub HasKinds-none : (widths : List ℤ) (kinds : List Kind) → length kinds ≡ 64 → HasKinds widths 0 kinds
HasKinds-none widths kinds places = record {
  places = places;
  each = All-nil IsKind;
  reads = with_front-none (kinds_from 0 widths);
}

-- the first of what is still read goes to what was read before
regroup : (front : List Kind) (kind : Kind) (read : Result (List Kind) TableError) → with_front front (read >>= λ kinds. Ok (kind ∷ kinds)) ≡ with_front (front ++ kind ∷ []) read
regroup front kind (Ok kinds) = ap Ok (simp append_assoc)
regroup front kind (Err e) = refl

-- one width that is a kind
step_ok : (front : List Kind) (i : ℕ) (width : ℤ) (widths : List ℤ) (kind : Kind) → kind_of width ≡ Some kind
    → with_front front (kinds_from i (width ∷ widths)) ≡ with_front (front ++ kind ∷ []) (kinds_from (i + 1) widths)
unfolding kinds_from
step_ok front i width widths kind is = rw is (regroup front kind (kinds_from (i + 1) widths))

-- one width that is none
step_err : (front : List Kind) (i : ℕ) (width : ℤ) (widths : List ℤ) → kind_of width ≡ None → with_front front (kinds_from i (width ∷ widths)) ≡ Err (Width i)
unfolding kinds_from
step_err front i width widths is = rw is refl

-- one kind more
pub HasKinds-more : (widths : List ℤ) (k : ℕ) (kinds : List Kind) (kind : Kind) → HasKinds widths k kinds → k < length widths → k < 64
    → kind_of (get_or widths k (pos 0)) ≡ Some kind → IsKind kind → HasKinds widths (k + 1) (set kinds k kind)
HasKinds-more widths k kinds kind h more within is allowed =
    let within' : k < length kinds = omega (arith, h.places) in
    let front : take (k + 1) (set kinds k kind) ≡ take k kinds ++ kind ∷ [] = take_more_set kinds k kind within' in
    record {
      places = length-set kinds k kind ∙ h.places;
      each = All-same IsKind (take (k + 1) (set kinds k kind)) (take k kinds ++ kind ∷ []) front (All-push IsKind (take k kinds) kind h.each allowed);
      reads = rw front (sym (step_ok (take k kinds) k (get_or widths k (pos 0)) (drop (k + 1) widths) kind is) ∙ ap (λ ws. with_front (take k kinds) (kinds_from k ws)) (sym (drop_more widths k (pos 0) more)) ∙ h.reads);
    }

-- a width that isn't allowed ends it
pub HasKinds-ends : (widths : List ℤ) (k : ℕ) (kinds : List Kind) → HasKinds widths k kinds → k < length widths
    → kind_of (get_or widths k (pos 0)) ≡ None → kinds_from 0 widths ≡ Err (Width k)
HasKinds-ends widths k kinds h more is =
    sym h.reads ∙ ap (λ ws. with_front (take k kinds) (kinds_from k ws)) (drop_more widths k (pos 0) more) ∙ step_err (take k kinds) k (get_or widths k (pos 0)) (drop (k + 1) widths) is

-- all were read
pub HasKinds-all : (widths : List ℤ) (k : ℕ) (kinds : List Kind) → HasKinds widths k kinds → length widths ≤ k → kinds_from 0 widths ≡ Ok (take k kinds)
unfolding kinds_from
HasKinds-all widths k kinds h past =
    let none : drop k widths ≡ [] = drop_all k widths past in
    let one : with_front (take k kinds) (kinds_from k (drop k widths)) ≡ Ok (take k kinds) = rw none (ap Ok (append-nil (take k kinds))) in
    sym h.reads ∙ one

-- 1 to 64 widths are read from the first on
abbrev pub laid_out : ℕ → List Kind → Result Layout TableError
laid_out bits kinds = Ok (record { kinds = kinds; number_bits = bits })

pub numbered_table-some : (widths : List ℤ) (bits : ℕ) → 1 ≤ length widths → length widths ≤ 64 → numbered_table widths bits ≡ (kinds_from 0 widths >>= laid_out bits)
unfolding numbered_table
numbered_table-some widths bits some few = rw (le-leb 1 (length widths) some, le-leb (length widths) 64 few) refl
