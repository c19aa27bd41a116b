-- The spellings of a gamestate that a reader accepts: settings in any order, strings of which bytes become `.`, and every
-- spelling of an entry.
use Rattle.std.specs.Prelude.{◌≡◌, ℕ, ◌^◌, ◌<◌, ◌≤◌, Bool, List, [], ◌∷◌, ◌++◌, replicate, Some, IsSome}
use Rattle.q3_bits.specs.Words.{row_bits}
use Rattle.q3_strings.specs.Spelling.{SpellsString}
use Rattle.q3_fields.specs.Kinds.{Layout, end_mark}
use Rattle.q3_entity.specs.declared.state.EntityState.{EntityState}
use Rattle.q3_entity.specs.Spelling.{SpellsEntry}
use Rattle.q3_entity.specs.Baselines.{Baselines, no_baselines, with_baseline}
use Rattle.q3_config.specs.Strings.{Strings, places, longest_string, most_size, no_strings, config_size, with_string, server_id}
use Rattle.q3_profile.specs.declared.profile.Profile.{Profile}
use Rattle.q3_gamestate.specs.Values.{Gamestate}

-- what a gamestate says of one config string or of one baseline
pub data Setting : Type 0 where
  ConfigString : ℕ → List ℕ → Setting
  Baseline : EntityState → Setting

-- its text: a big string after its index, or a baseline's entry against the zero state
abbrev pub SpellsSetting : List (List Bool) → Layout → Setting → List Bool → Type 0
SpellsSetting words table (ConfigString index text) bits =
    (string : List Bool) × (index < places) × SpellsString words longest_string text string
    × (bits ≡ row_bits words ((3, 8) ∷ (index, 16) ∷ []) ++ string)
SpellsSetting words table (Baseline state) bits =
    (entry : List Bool) × (state.number < end_mark table)
    × SpellsEntry words table (replicate 64 0) (record { number = state.number; words = Some state.words }) entry
    × (bits ≡ row_bits words ((4, 8) ∷ []) ++ entry)

-- settings, one after the other
abbrev pub SpellsSettings : List (List Bool) → Layout → List Setting → List Bool → Type 0
SpellsSettings words table [] bits = bits ≡ []
SpellsSettings words table (setting ∷ settings) bits =
    (first : List Bool) × (rest : List Bool) × (bits ≡ first ++ rest) × SpellsSetting words table setting first
    × SpellsSettings words table settings rest

-- the strings and the baselines after settings: a later one stands for an earlier
abbrev pub strings_after : Strings → List Setting → Strings
strings_after strings [] = strings
strings_after strings (ConfigString index text ∷ settings) = strings_after (with_string strings index text) settings
strings_after strings (Baseline state ∷ settings) = strings_after strings settings

abbrev pub baselines_after : Baselines → List Setting → Baselines
baselines_after baselines [] = baselines
baselines_after baselines (ConfigString index text ∷ settings) = baselines_after baselines settings
baselines_after baselines (Baseline state ∷ settings) = baselines_after (with_baseline baselines state) settings

-- the strings are never too large on the way
abbrev pub StayWithin : Strings → List Setting → Type 0
StayWithin strings [] = Unit {0}
StayWithin strings (ConfigString index text ∷ settings) =
    (config_size (with_string strings index text).texts ≤ most_size) × StayWithin (with_string strings index text) settings
StayWithin strings (Baseline state ∷ settings) = StayWithin strings settings

-- a gamestate: settings in any order, which give its strings, with a server id, and its baselines
pub record SpellsGamestate (profile : Profile) (game : Gamestate) (bits : List Bool) : Type 0 where
  pub command : game.command < 2 ^ 32
  pub slot : game.slot < 2 ^ 32
  pub feed : game.feed < 2 ^ 32
  pub settings : List Setting
  pub text : List Bool
  pub of_settings : SpellsSettings profile.code profile.entity settings text
  pub within : StayWithin no_strings settings
  pub strings : game.strings ≡ strings_after no_strings settings
  pub baselines : game.baselines ≡ baselines_after no_baselines settings
  pub id : IsSome (server_id game.strings)
  pub whole : bits ≡ row_bits profile.code ((2, 8) ∷ (game.command, 32) ∷ []) ++ text
      ++ row_bits profile.code ((8, 8) ∷ (game.slot, 32) ∷ (game.feed, 32) ∷ [])
