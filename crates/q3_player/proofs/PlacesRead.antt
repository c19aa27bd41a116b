-- The places of an array that a loop reads.
use Rattle.std.proofs.Common.{◌≡◌, ℕ, ◌+◌, ◌/◌, ◌^◌, ◌≤◌, ◌<◌, Bool, List, [], ◌∷◌, length, drop, get_or, Ok, Err, refl, sym}
use Rattle.std.proofs.lemmas.List.{drop_more, drop_all}
use Rattle.std.proofs.lemmas.Nat.{shr-shr}
use Rattle.q3_bits.specs.declared.reader.ReadError.{ReadError}
use Rattle.q3_fields.specs.declared.kind.Kind.{Kind}
use Rattle.q3_bits.specs.InPlace.{with_first}
use Rattle.q3_player.specs.Delta.{value_at, values_at}

-- one place more
pub values_at-next : (words same : List (List Bool)) (kind : Kind) (mask k : ℕ) (from : List ℕ) (x y : ℕ) (bits next : List Bool) → same ≡ words
    → k < length from → x ≡ get_or from k 0
    → Ok (y, next) ≡ value_at same kind (mask / 2 ^ k) x bits
    → values_at words kind (mask / 2 ^ k) (drop k from) bits ≡ with_first y (values_at words kind (mask / 2 ^ (k + 1)) (drop (k + 1) from) next)
unfolding values_at value_at
values_at-next words same kind mask k from x y bits next is within old read =
    let first : value_at words kind (mask / 2 ^ k) (get_or from k 0) bits ≡ Ok (y, next) = rw (← is, ← old) (sym read) in
    rw (drop_more from k 0 within, first, ← shr-shr mask k 1) refl

-- a fault in the next
pub values_at-fault : (words same : List (List Bool)) (kind : Kind) (mask k : ℕ) (from : List ℕ) (x : ℕ) (bits : List Bool) (e : ReadError) → same ≡ words
    → k < length from → x ≡ get_or from k 0
    → Err e ≡ value_at same kind (mask / 2 ^ k) x bits
    → values_at words kind (mask / 2 ^ k) (drop k from) bits ≡ Err e
unfolding values_at value_at
values_at-fault words same kind mask k from x bits e is within old read =
    let first : value_at words kind (mask / 2 ^ k) (get_or from k 0) bits ≡ Err e = rw (← is, ← old) (sym read) in
    rw (drop_more from k 0 within, first) refl

-- no place is left
pub values_at-end : (words : List (List Bool)) (kind : Kind) (mask k : ℕ) (from : List ℕ) (bits : List Bool) → length from ≤ k
    → values_at words kind (mask / 2 ^ k) (drop k from) bits ≡ Ok (drop k from, bits)
unfolding values_at
values_at-end words kind mask k from bits past = rw (drop_all k from past) refl

-- a mask of no places
pub places_after_none : (words : List (List Bool)) (kind : Kind) (from : List ℕ) (bits : List Bool) → values_at words kind 0 from bits ≡ Ok (from, bits)
unfolding values_at value_at
places_after_none words kind [] bits = refl
places_after_none words kind (x ∷ from) bits = rw (places_after_none words kind from bits) refl
