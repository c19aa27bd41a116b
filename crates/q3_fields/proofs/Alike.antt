-- What is read over other words ends at the same place, or is refused in the same way.
use Rattle.std.proofs.Common.{◌≡◌, ◌==◌, ℕ, Bool, nat_lt, if◌then◌else◌, List, [], ◌∷◌, length, take, Ok, Err, refl, arith}
use Rattle.q3_bits.specs.ResultBind.{◌>>=◌, left_of}
use Rattle.q3_bits.proofs.Binds.{bind_alike, bind_after, if_alike, map_err_alike}
use Rattle.q3_bits.specs.Words.{field_at}
use Rattle.q3_fields.specs.declared.kind.Kind.{Kind}
use Rattle.q3_fields.specs.declared.delta.StateKind.{StateKind}
use Rattle.q3_fields.specs.declared.delta.DeltaError.TheVariants.{Bits, Count}
use Rattle.q3_fields.specs.Deltas.{bits_read, changed_at, marked_field_at, fields_at, words_at}
use Rattle.q3_fields.specs.Laws.{WordsEndAlike}

field_alike : (state : StateKind) (words : List (List Bool)) (kind : Kind) (from other : ℕ) (bits : List Bool)
    → left_of (marked_field_at state words kind from bits) ≡ left_of (marked_field_at state words kind other bits)
unfolding marked_field_at
field_alike state words kind from other bits =
    bind_after (field_at words 1 bits) (λ mark. if mark.0 == 0 then Ok (from, mark.1) else changed_at state words kind mark.1)
    (λ mark. if mark.0 == 0 then Ok (other, mark.1) else changed_at state words kind mark.1)
    (λ mark. if_alike (mark.0 == 0) (Ok (from, mark.1)) (changed_at state words kind mark.1) (Ok (other, mark.1)) (changed_at state words kind mark.1) refl refl)

fields_alike : (state : StateKind) (words : List (List Bool)) (kinds : List Kind) (from other : List ℕ) (bits : List Bool) → length from ≡ length other
    → left_of (fields_at state words kinds from bits) ≡ left_of (fields_at state words kinds other bits)
unfolding fields_at
fields_alike state words [] from other bits long = refl
fields_alike state words (kind ∷ kinds) [] [] bits long = refl
fields_alike state words (kind ∷ kinds) [] (y ∷ other) bits long = absurd (omega arith)
fields_alike state words (kind ∷ kinds) (x ∷ from) [] bits long = absurd (omega arith)
fields_alike state words (kind ∷ kinds) (x ∷ from) (y ∷ other) bits long =
    bind_alike (marked_field_at state words kind x bits) (marked_field_at state words kind y bits)
    (λ first. fields_at state words kinds from first.1 >>= λ others. Ok (first.0 ∷ others.0, others.1))
    (λ first. fields_at state words kinds other first.1 >>= λ others. Ok (first.0 ∷ others.0, others.1))
    (field_alike state words kind x y bits)
    (λ p q rest.
    bind_alike (fields_at state words kinds from rest) (fields_at state words kinds other rest) (λ others. Ok (p ∷ others.0, others.1)) (λ others. Ok (q ∷ others.0, others.1))
    (fields_alike state words kinds from other rest (omega arith)) (λ ps qs left. refl))

pub words_alike : WordsEndAlike
unfolding words_at
words_alike state words table from other bits long =
    let some = λ (from : List ℕ) (count : ℕ × List Bool). bits_read (fields_at state words (take count.0 table) from count.1) in
    bind_after (bits_read (field_at words 8 bits)) (λ count. if nat_lt (length table) count.0 then Err (Count count.0) else some from count)
    (λ count. if nat_lt (length table) count.0 then Err (Count count.0) else some other count)
    (λ count.
    if_alike (nat_lt (length table) count.0) (Err (Count count.0)) (some from count) (Err (Count count.0)) (some other count) refl
    (map_err_alike Bits (fields_at state words (take count.0 table) from count.1) (fields_at state words (take count.0 table) other count.1)
    (fields_alike state words (take count.0 table) from other count.1 long)))
