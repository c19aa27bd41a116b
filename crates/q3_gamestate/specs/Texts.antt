-- The text of a gamestate.
use Rattle.std.specs.Prelude.{ℕ, Bool, List, [], ◌∷◌, ◌++◌, true, Option, Some, None}
use Rattle.std.specs.List.{flat_map, range_with_len}
use Rattle.q3_bits.specs.Words.{row_bits}
use Rattle.q3_strings.specs.Texts.{string_bits}
use Rattle.q3_fields.specs.Kinds.{Layout}
use Rattle.q3_config.specs.Strings.{places, string_at}
use Rattle.q3_entity.specs.declared.state.EntityState.{EntityState}
use Rattle.q3_entity.specs.Entities.{zero_entity}
use Rattle.q3_entity.specs.Delta.{entity_delta}
use Rattle.q3_entity.specs.Baselines.{most_baselines, set_at}
use Rattle.q3_profile.specs.declared.profile.Profile.{Profile}
use Rattle.q3_gamestate.specs.Values.{Gamestate}

-- a config string: the operation 3, its index, and its string; an empty one isn't said
abbrev pub config_bits : List (List Bool) → ℕ → List ℕ → List Bool
config_bits words index [] = []
config_bits words index text = row_bits words ((3, 8) ∷ (index, 16) ∷ []) ++ string_bits words text

-- a baseline: the operation 4, and its state, by force and against the zero state; one that isn't set isn't said
abbrev pub baseline_bits : List (List Bool) → Layout → Option EntityState → List Bool
baseline_bits words table None = []
baseline_bits words table (Some state) =
    row_bits words ((4, 8) ∷ []) ++ entity_delta words table (zero_entity state.number) state true

-- the texts of so many numbers from one on, one after the other
unfoldable pub numbered : ℕ → ℕ → (ℕ → List Bool) → List Bool
numbered count from text = flat_map text (range_with_len from count)

-- a gamestate: the operation 2, the number of the last server command, the config strings by index and the baselines by
-- number, the operation 8, the slot, and the feed
unfoldable pub gamestate_bits : Profile → Gamestate → List Bool
gamestate_bits profile game =
    row_bits profile.code ((2, 8) ∷ (game.command, 32) ∷ [])
    ++ numbered places 0 (λ index. config_bits profile.code index (string_at game.strings index))
    ++ numbered most_baselines 0 (λ number. baseline_bits profile.code profile.entity (set_at game.baselines number))
    ++ row_bits profile.code ((8, 8) ∷ (game.slot, 32) ∷ (game.feed, 32) ∷ [])
