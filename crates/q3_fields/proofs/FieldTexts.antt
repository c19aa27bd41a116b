-- The text of the first fields, as a loop writes it.
use Rattle.std.proofs.Common.{◌≡◌, ℕ, ◌+◌, ◌≤◌, ◌<◌, Bool, List, [], ◌∷◌, ◌++◌, length, take, drop, get_or, Some, slice_get, refl, ap, ◌∙◌, arith}
use Rattle.std.proofs.lemmas.List.{drop_more, drop_all, length-take-le, get_or-take}
use Rattle.std.proofs.lemmas.Option.{get_or_from_slice_get}
use Rattle.q3_fields.specs.declared.kind.Kind.{Kind}
use Rattle.q3_fields.specs.declared.delta.StateKind.{StateKind}
use Rattle.q3_fields.specs.Deltas.{marked_field_bits, fields_bits}

-- the first of the kinds that are left, so many in all
pub kinds-next : (table : List Kind) (count k : ℕ) (kind : Kind) → k < count → count ≤ length table → slice_get table k ≡ Some kind
    → drop k (take count table) ≡ kind ∷ drop (k + 1) (take count table)
kinds-next table count k kind more few is =
    let long : length (take count table) ≡ count = length-take-le count table few in
    let here : get_or (take count table) k kind ≡ kind = get_or-take count table k kind more ∙ get_or_from_slice_get table k kind kind is in
    drop_more (take count table) k kind (omega arith) ∙ ap (λ (x : Kind). x ∷ drop (k + 1) (take count table)) here

-- no kind is left
pub kinds-end : (table : List Kind) (count k : ℕ) → count ≤ k → count ≤ length table → drop k (take count table) ≡ []
kinds-end table count k past few =
    let long : length (take count table) ≡ count = length-take-le count table few in
    drop_all k (take count table) (omega arith)

-- what is left of the text, one field on
pub fields_bits-next : (state : StateKind) (words same : List (List Bool)) (table : List Kind) (count k : ℕ) (kind : Kind) (from to : List ℕ) → same ≡ words
    → k < count → count ≤ length table → slice_get table k ≡ Some kind → k < length from → k < length to
    → fields_bits state words (drop k (take count table)) (drop k from) (drop k to)
    ≡ marked_field_bits state same kind (get_or from k 0) (get_or to k 0) ++ fields_bits state words (drop (k + 1) (take count table)) (drop (k + 1) from) (drop (k + 1) to)
unfolding fields_bits
fields_bits-next state words same table count k kind from to is more few here within within' =
    rw (is, kinds-next table count k kind more few here, drop_more from k 0 within, drop_more to k 0 within') refl

-- nothing is left at the end
pub fields_bits-end : (state : StateKind) (words : List (List Bool)) (table : List Kind) (count k : ℕ) (from to : List ℕ) → count ≤ k → count ≤ length table
    → fields_bits state words (drop k (take count table)) from to ≡ []
unfolding fields_bits
fields_bits-end state words table count k from to past few = rw (kinds-end table count k past few) refl
