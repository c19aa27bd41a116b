-- What a reader of a gamestate answers: its value, or the first refusal in reading order.
use Rattle.std.specs.Prelude.{ℕ, zero, suc, ◌==◌, nat_lt, Bool, if◌then◌else◌, List, length, replicate, Option, Some, None, Result, Ok, Err}
use Rattle.std.specs.Option.{is_some}
use Rattle.q3_bits.specs.ResultBind.{◌>>=◌, fault_as}
use Rattle.q3_bits.specs.Words.{field_at}
use Rattle.q3_bits.specs.declared.reader.ReadError.TheVariants.{End}
use Rattle.q3_strings.specs.declared.error.StringError.{StringError}
use Rattle.q3_strings.specs.declared.error.StringError.TheVariants as strings
use Rattle.q3_strings.specs.Reading.{bounded_string_at}
use Rattle.q3_fields.specs.Kinds.{end_mark}
use Rattle.q3_entity.specs.declared.error.EntityError.TheVariants.{Order, Removes}
use Rattle.q3_entity.specs.declared.reading.Entry.{Entry}
use Rattle.q3_entity.specs.declared.reading.Entry.TheVariants.{Removed}
use Rattle.q3_entity.specs.Delta.{entity_at}
use Rattle.q3_entity.specs.Baselines.{Baselines, no_baselines, with_baseline}
use Rattle.q3_config.specs.declared.error.ConfigError.{ConfigError}
use Rattle.q3_config.specs.declared.error.ConfigError.TheVariants.{Index}
use Rattle.q3_config.specs.Strings.{Strings, places, longest_string, no_strings, with_string, set_fault, server_id}
use Rattle.q3_profile.specs.declared.profile.Profile.{Profile}
use Rattle.q3_gamestate.specs.declared.error.GamestateError.{GamestateError}
use Rattle.q3_gamestate.specs.declared.error.GamestateError.TheVariants.{Bits, BadOp, TextLong, Config, Entity, NoServerId}
use Rattle.q3_gamestate.specs.Values.{Gamestate}

-- a fault of a string, as one of a gamestate
abbrev pub string_error : StringError → GamestateError
string_error (strings.Bits e) = Bits e
string_error strings.Long = TextLong

-- a field of so many bits
abbrev pub field_read : List (List Bool) → ℕ → List Bool → Result (ℕ × List Bool) GamestateError
field_read words width bits = fault_as Bits (field_at words width bits)

-- a config string is set, unless it is too large with the others
abbrev pub config_set : Strings → ℕ → List ℕ → Option ConfigError → Result Strings GamestateError
config_set strings index text None = Ok (with_string strings index text)
config_set strings index text (Some fault) = Err (Config fault)

-- a config string after its operation: its index, which is refused above 1,023 before the text is read, and its string
unfoldable pub config_at : List (List Bool) → Strings → List Bool → Result (Strings × List Bool) GamestateError
config_at words strings bits = do
  index ← field_read words 16 bits
  if nat_lt index.0 places then (do
    text ← fault_as string_error (bounded_string_at words longest_string index.1)
    set ← config_set strings index.0 text.0 (set_fault strings index.0 text.0)
    Ok (set, text.1))
      else Err (Config Index)

-- a baseline that was read is set; one that is removed is refused
abbrev pub baseline_set : Baselines → ℕ → Entry → List ℕ → Result Baselines GamestateError
baseline_set baselines number Removed words = Err (Entity (Removes number))
baseline_set baselines number other words = Ok (with_baseline baselines (record { number = number; words = words }))

-- a baseline after its operation: its number, which is refused where it is the end mark before its text is read, and its
-- state against the zero state
unfoldable pub baseline_at : Profile → Baselines → List Bool → Result (Baselines × List Bool) GamestateError
baseline_at profile baselines bits = do
  number ← field_read profile.code profile.entity.number_bits bits
  if number.0 == end_mark profile.entity then Err (Entity (Order number.0)) else (do
    state ← fault_as Entity (entity_at profile.code profile.entity (replicate 64 0) number.1)
    set ← baseline_set baselines number.0 state.0.0 state.0.1
    Ok (set, state.1))

-- config strings and baselines in any order, a later one for an earlier, up to the operation 8; there are at most so many,
-- since each takes a bit
unfoldable pub settings_at : Profile → ℕ → Strings → Baselines → List Bool → Result ((Strings × Baselines) × List Bool) GamestateError
settings_at profile zero strings baselines bits = Err (Bits End)
settings_at profile (suc most) strings baselines bits = do
  operation ← field_read profile.code 8 bits
  if operation.0 == 8 then Ok ((strings, baselines), operation.1) else
      if operation.0 == 3 then (do
        config ← config_at profile.code strings operation.1
        settings_at profile most config.0 baselines config.1) else
      if operation.0 == 4 then (do
        baseline ← baseline_at profile baselines operation.1
        settings_at profile most strings baseline.0 baseline.1)
      else Err (BadOp operation.0)

-- a gamestate after its operation; one whose strings give no server id is refused before its slot is read
unfoldable pub gamestate_at : Profile → List Bool → Result (Gamestate × List Bool) GamestateError
gamestate_at profile bits = do
  command ← field_read profile.code 32 bits
  settings ← settings_at profile (length command.1) no_strings no_baselines command.1
  if is_some (server_id settings.0.0) then (do
    slot ← field_read profile.code 32 settings.1
    feed ← field_read profile.code 32 slot.1
    Ok (record { command = command.0; strings = settings.0.0; baselines = settings.0.1; slot = slot.0; feed = feed.0 }, feed.1))
      else Err NoServerId
