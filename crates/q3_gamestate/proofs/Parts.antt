-- The text of a gamestate, part by part.
use Rattle.std.proofs.Common.{◌≡◌, ◌+◌, ◌-◌, ◌<◌, ◌≤◌, ℕ, suc, Bool, true, List, [], ◌∷◌, ◌++◌, length, Option, Some, None, unwrap_or, refl, sym, ap, ◌∙◌, arith}
use Rattle.std.specs.List.{flat_map, range_with_len}
use Rattle.std.specs.Option.{is_some}
use Rattle.q3_bits.specs.Words.{row_bits}
use Rattle.q3_strings.specs.Texts.{string_bits}
use Rattle.q3_fields.specs.Kinds.{Layout}
use Rattle.q3_entity.specs.declared.state.EntityState.{EntityState}
use Rattle.q3_entity.specs.Entities.{zero_entity}
use Rattle.q3_entity.specs.Delta.{entity_delta}
use Rattle.q3_gamestate.specs.Texts.{config_bits, baseline_bits, numbered}

-- a config string that isn't empty
pub config-some : (words : List (List Bool)) (index : ℕ) (text : List ℕ) → 0 < length text
    → config_bits words index text ≡ row_bits words ((3, 8) ∷ (index, 16) ∷ []) ++ string_bits words text
config-some words index [] some = absurd (omega (arith, some))
config-some words index (byte ∷ text) some = refl

-- a baseline that is set
pub baseline-some : (words : List (List Bool)) (table : Layout) (baseline : Option EntityState) (state : EntityState) → baseline ≡ Some state
    → baseline_bits words table baseline ≡ row_bits words ((4, 8) ∷ []) ++ entity_delta words table (zero_entity state.number) state true
baseline-some words table baseline state is = ap (baseline_bits words table) is

-- the text of the next number, and of the others
pub numbered-next : (k limit : ℕ) (text : ℕ → List Bool) (first : List Bool) → k < limit → first ≡ text k
    → numbered (limit - k) k text ≡ first ++ numbered (limit - (k + 1)) (k + 1) text
unfolding numbered
numbered-next k limit text first more is =
    let one : limit - k ≡ suc (limit - (k + 1)) = omega arith in
    ap (λ (n : ℕ). flat_map text (range_with_len k n)) one ∙ ap (λ (first : List Bool). first ++ flat_map text (range_with_len (k + 1) (limit - (k + 1)))) (sym is)

-- past the last there is none
pub numbered-end : (k limit : ℕ) (text : ℕ → List Bool) → limit ≤ k → numbered (limit - k) k text ≡ []
unfolding numbered
numbered-end k limit text past =
    let none : limit - k ≡ 0 = omega arith in
    ap (λ (n : ℕ). flat_map text (range_with_len k n)) none
