-- What is read over another state ends at the same place, or is refused in the same way.
use Rattle.std.proofs.Common.{◌≡◌, ◌==◌, ◌%◌, ◌/◌, ℕ, Bool, if◌then◌else◌, List, [], ◌∷◌, length, map, Ok, refl, sym, ◌∙◌, arith}
use Rattle.std.proofs.lemmas.List.{length-map}
use Rattle.std.specs.Int.{w32, cast_unsigned}
use Rattle.q3_bits.specs.ResultBind.{◌>>=◌, left_of}
use Rattle.q3_bits.proofs.Binds.{bind_alike, bind_after, if_alike, map_err_alike}
use Rattle.q3_bits.specs.Words.{field_at}
use Rattle.q3_fields.specs.declared.kind.Kind.{Kind}
use Rattle.q3_fields.specs.declared.delta.StateKind.TheVariants.{Player}
use Rattle.q3_fields.specs.declared.delta.DeltaError.TheVariants.{Bits}
use Rattle.q3_fields.specs.Texts.{player_field_at}
use Rattle.q3_fields.specs.Deltas.{bits_read, words_at}
use Rattle.q3_fields.specs.Laws.{WordsEndAlike}
use Rattle.q3_player.specs.declared.state.PlayerState.{PlayerState}
use Rattle.q3_player.specs.State.{IsState, array_kinds, arrays_of, with_arrays}
use Rattle.q3_player.specs.Delta.{value_at, values_at, array_at, arrays_at, all_arrays_at, marked_arrays_at, player_at}
use Rattle.q3_player.specs.Laws.{PlayersEndAlike}

-- ---- arrays

place_alike : (words : List (List Bool)) (kind : Kind) (mask from other : ℕ) (bits : List Bool) → left_of (value_at words kind mask from bits) ≡ left_of (value_at words kind mask other bits)
unfolding value_at
place_alike words kind mask from other bits =
    if_alike (mask % 2 == 1) (player_field_at words kind bits) (Ok (from, bits)) (player_field_at words kind bits) (Ok (other, bits)) refl refl

places_alike : (words : List (List Bool)) (kind : Kind) (mask : ℕ) (from other : List ℕ) (bits : List Bool) → length from ≡ length other
    → left_of (values_at words kind mask from bits) ≡ left_of (values_at words kind mask other bits)
unfolding values_at
places_alike words kind mask [] [] bits long = refl
places_alike words kind mask [] (y ∷ other) bits long = absurd (omega arith)
places_alike words kind mask (x ∷ from) [] bits long = absurd (omega arith)
places_alike words kind mask (x ∷ from) (y ∷ other) bits long =
    bind_alike (value_at words kind mask x bits) (value_at words kind mask y bits)
    (λ first. values_at words kind (mask / 2) from first.1 >>= λ others. Ok (first.0 ∷ others.0, others.1))
    (λ first. values_at words kind (mask / 2) other first.1 >>= λ others. Ok (first.0 ∷ others.0, others.1))
    (place_alike words kind mask x y bits)
    (λ p q rest.
    bind_alike (values_at words kind (mask / 2) from rest) (values_at words kind (mask / 2) other rest) (λ others. Ok (p ∷ others.0, others.1)) (λ others. Ok (q ∷ others.0, others.1))
    (places_alike words kind (mask / 2) from other rest (omega arith)) (λ ps qs left. refl))

array_alike : (words : List (List Bool)) (kind : Kind) (from other : List ℕ) (bits : List Bool) → length from ≡ length other
    → left_of (array_at words kind from bits) ≡ left_of (array_at words kind other bits)
unfolding array_at
array_alike words kind from other bits long =
    let mask_at = λ (mark : ℕ × List Bool). if mark.0 == 0 then Ok (0, mark.1) else field_at words 16 mark.1 in
    bind_after (field_at words 1 bits) (λ mark. mask_at mark >>= λ mask. values_at words kind mask.0 from mask.1) (λ mark. mask_at mark >>= λ mask. values_at words kind mask.0 other mask.1)
    (λ mark.
    bind_after (mask_at mark) (λ mask. values_at words kind mask.0 from mask.1) (λ mask. values_at words kind mask.0 other mask.1)
    (λ mask. places_alike words kind mask.0 from other mask.1 long))

-- arrays of the same lengths
abbrev lengths : List (List ℕ) → List ℕ
lengths arrays = map (λ array. length array) arrays

arrays_alike : (words : List (List Bool)) (kinds : List Kind) (from other : List (List ℕ)) (bits : List Bool) → lengths from ≡ lengths other
    → left_of (arrays_at words kinds from bits) ≡ left_of (arrays_at words kinds other bits)
unfolding arrays_at
arrays_alike words [] from other bits long = refl
arrays_alike words (kind ∷ kinds) [] [] bits long = refl
arrays_alike words (kind ∷ kinds) [] (y ∷ other) bits long = absurd cc
arrays_alike words (kind ∷ kinds) (x ∷ from) [] bits long = absurd cc
arrays_alike words (kind ∷ kinds) (x ∷ from) (y ∷ other) bits long =
    let first : length x ≡ length y = cc in
    let others : lengths from ≡ lengths other = cc in
    bind_alike (array_at words kind x bits) (array_at words kind y bits)
    (λ first. arrays_at words kinds from first.1 >>= λ others. Ok (first.0 ∷ others.0, others.1))
    (λ first. arrays_at words kinds other first.1 >>= λ others. Ok (first.0 ∷ others.0, others.1))
    (array_alike words kind x y bits first)
    (λ p q rest.
    bind_alike (arrays_at words kinds from rest) (arrays_at words kinds other rest) (λ others. Ok (p ∷ others.0, others.1)) (λ others. Ok (q ∷ others.0, others.1))
    (arrays_alike words kinds from other rest others) (λ ps qs left. refl))

-- ---- states

marked_alike : (words : List (List Bool)) (from other : PlayerState) (bits : List Bool) → lengths (arrays_of from) ≡ lengths (arrays_of other)
    → left_of (marked_arrays_at words from bits) ≡ left_of (marked_arrays_at words other bits)
unfolding marked_arrays_at all_arrays_at
marked_alike words from other bits long =
    bind_after (field_at words 1 bits) (λ mark. if mark.0 == 0 then Ok (from, mark.1) else all_arrays_at words from mark.1)
    (λ mark. if mark.0 == 0 then Ok (other, mark.1) else all_arrays_at words other mark.1)
    (λ mark.
    if_alike (mark.0 == 0) (Ok (from, mark.1)) (all_arrays_at words from mark.1) (Ok (other, mark.1)) (all_arrays_at words other mark.1) refl
    (bind_alike (arrays_at words array_kinds (arrays_of from) mark.1) (arrays_at words array_kinds (arrays_of other) mark.1)
    (λ arrays. Ok (with_arrays from arrays.0, arrays.1)) (λ arrays. Ok (with_arrays other arrays.0, arrays.1))
    (arrays_alike words array_kinds (arrays_of from) (arrays_of other) mark.1 long) (λ p q rest. refl)))

-- the arrays of a state have 16 places each
sixteen : (player : PlayerState) → IsState player → lengths (arrays_of player) ≡ 16 ∷ 16 ∷ 16 ∷ 16 ∷ []
sixteen player is =
    rw (
      length-map player.stats (cast_unsigned w32),
      length-map player.persistant (cast_unsigned w32),
      length-map player.ammo (cast_unsigned w32),
      is.stats.count,
      is.persistant.count,
      is.ammo.count,
      is.powerups.count,
    ) refl

pub player_alike : WordsEndAlike → PlayersEndAlike
unfolding player_at
player_alike law words table from other bits is is' =
    bind_alike (words_at Player words table from.words bits) (words_at Player words table other.words bits)
    (λ fields. bits_read (marked_arrays_at words (record from { words = fields.0 }) fields.1)) (λ fields. bits_read (marked_arrays_at words (record other { words = fields.0 }) fields.1))
    (law Player words table from.words other.words bits (is.words.count ∙ sym is'.words.count))
    (λ p q rest.
    map_err_alike Bits (marked_arrays_at words (record from { words = p }) rest) (marked_arrays_at words (record other { words = q }) rest)
    (marked_alike words (record from { words = p }) (record other { words = q }) rest (sixteen from is ∙ sym (sixteen other is'))))
