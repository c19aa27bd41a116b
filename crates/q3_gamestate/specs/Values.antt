-- What a gamestate says, as plain data.
use Rattle.std.specs.Prelude.{ℕ, Result, Ok, Err}
use Rattle.q3_config.specs.Strings.{Strings, no_strings}
use Rattle.q3_entity.specs.Baselines.{Baselines, no_baselines}
use Rattle.q3_gamestate.specs.declared.numbers.Numbers.{Numbers}
use Rattle.q3_gamestate.specs.declared.error.GamestateError.{GamestateError}

-- a gamestate: the number of the last server command issued, the config strings, the baselines, the client's slot, and the
-- checksum feed
pub record Gamestate : Type 0 where
  pub command : ℕ
  pub strings : Strings
  pub baselines : Baselines
  pub slot : ℕ
  pub feed : ℕ

-- the gamestate with nothing in it
abbrev pub empty_gamestate : Gamestate
empty_gamestate = record { command = 0; strings = no_strings; baselines = no_baselines; slot = 0; feed = 0 }

-- the gamestate of numbers, strings and baselines
abbrev pub gamestate_of : Numbers → Strings → Baselines → Gamestate
gamestate_of numbers strings baselines = record {
  command = numbers.command;
  strings = strings;
  baselines = baselines;
  slot = numbers.slot;
  feed = numbers.feed;
}

-- the answer of a reader that leaves strings and baselines in their places
abbrev pub with_settings : Strings → Baselines → Result Numbers GamestateError → Result Gamestate GamestateError
with_settings strings baselines (Ok numbers) = Ok (gamestate_of numbers strings baselines)
with_settings strings baselines (Err e) = Err e
