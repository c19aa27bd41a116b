-- What the messages that were applied left at a client, and what one more does.
use Rattle.std.specs.Prelude.{ℕ, zero, suc, ◌+◌, ◌==◌, ◌&&◌, nat_le, if◌then◌else◌, Bool, true, false, List, [], ◌∷◌, Option, Some, None, option_map, unwrap_or, Result, Ok, Err, is_ok}
use Rattle.q3_bits.specs.Bits.{bits_of}
use Rattle.q3_bits.specs.ResultBind.{◌>>=◌}
use Rattle.q3_text.specs.declared.text.Command.{Command}
use Rattle.q3_window.specs.Incoming.{IncomingState, new_incoming, fresh_of, executes, jump_at}
use Rattle.q3_config.specs.Strings.{Strings, no_strings, server_id}
use Rattle.q3_config.specs.Commands.{Change, change_in}
use Rattle.q3_config.specs.Changes.{Applied as Changed, after_command}
use Rattle.q3_profile.specs.declared.profile.Profile.{Profile}
use Rattle.q3_entity.specs.Baselines.{Baselines, no_baselines}
use Rattle.q3_gamestate.specs.Values.{Gamestate}
use Rattle.q3_svmsg.specs.declared.error.Illegible.{Illegible}
use Rattle.q3_svmsg.specs.Values as told
use Rattle.q3_svmsg.specs.Values.{base_from, Context, Told, Message}
use Rattle.q3_svmsg.specs.Reading.{server_message_in}
use Rattle.q3_entity_ring.specs.Snapshot.{Snapshot}
use Rattle.q3_rings.specs.declared.rings.NoBase.{NoBase}
use Rattle.q3_rings.specs.declared.rings.NoBase.TheVariants.{NeverHeld}
use Rattle.q3_rings.specs.Rings.{HeldSnapshots, no_snapshots, held_snapshot, view_at, accept_at}
use Rattle.q3_clstate.specs.declared.applied.Applied.{Applied}
use Rattle.q3_clstate.specs.declared.applied.SnapOutcome.{SnapOutcome}
use Rattle.q3_clstate.specs.declared.applied.SnapOutcome.TheVariants.{NoSnap, Accepted, Skipped, Stale}

-- by which profile messages are read; the number of the last one that was applied, 0 for none; the server's commands that were
-- executed; whether a gamestate was applied; the id of the map that config strings told last, and of that gamestate the client's slot and
-- the checksum feed, each 0 before it was told; the config strings and the baselines; and the snapshots that are held since then
pub record AppliedState : Type 0 where
  pub profile : Profile
  pub number : ℕ
  pub executed : IncomingState
  pub has_game : Bool
  pub id : ℕ
  pub slot : ℕ
  pub feed : ℕ
  pub strings : Strings
  pub baselines : Baselines
  pub held : HeldSnapshots

-- no message was applied
abbrev pub new_state : Profile → AppliedState
new_state profile = record {
  profile = profile;
  number = 0;
  executed = new_incoming;
  has_game = false;
  id = 0;
  slot = 0;
  feed = 0;
  strings = no_strings;
  baselines = no_baselines;
  held = no_snapshots profile.parse_ring;
}

-- ---- what a message is read against

-- the snapshots that are held, by number, and the baselines
abbrev pub context_of : HeldSnapshots → Baselines → Context
context_of held baselines = record { base = λ number. option_map base_from (view_at held number); baselines = baselines }

-- ---- what a message does

-- the state after a message, what became of it, the snapshot that was accepted, if one was, and the commands that were executed
pub record Application : Type 0 where
  pub state : AppliedState
  pub answer : Applied
  pub accepted : Option Snapshot
  pub heard : List Command

-- a message is applied of which no snapshot is accepted
abbrev pub passes : AppliedState → ℕ → SnapOutcome → Application
passes state number outcome = record {
  state = record state { number = number };
  answer = record { number = number; game = false; snap = outcome };
  accepted = None;
  heard = [];
}

-- a snapshot is accepted, against the base of a number, 0 for none
abbrev pub accepts : AppliedState → ℕ → ℕ → Snapshot → Application
accepts state number base snapshot = record {
  state = record state { number = number; held = accept_at state.held snapshot };
  answer = record { number = number; game = false; snap = Accepted base };
  accepted = Some snapshot;
  heard = [];
}

-- the id of the map that config strings tell, or the one known before
abbrev pub id_in : ℕ → Strings → ℕ
id_in id strings = unwrap_or (server_id strings) id

-- what a gamestate leaves: no snapshot of before is held any more, its id, slot, feed, strings and baselines take the place of others,
-- and the commands up to its number, and no others, count as executed
abbrev pub after_gamestate : AppliedState → Gamestate → AppliedState
after_gamestate state game = record state {
  executed = jump_at state.executed game.command;
  has_game = true;
  id = id_in state.id game.strings;
  slot = game.slot;
  feed = game.feed;
  strings = game.strings;
  baselines = game.baselines;
  held = no_snapshots state.held.ring;
}

-- a gamestate is applied
abbrev pub applies_game : AppliedState → ℕ → Gamestate → Application
applies_game state number game = record {
  state = record (after_gamestate state game) { number = number };
  answer = record { number = number; game = true; snap = NoSnap };
  accepted = None;
  heard = [];
}

-- whether a snapshot isn't newer than all that were accepted
abbrev pub is_stale : HeldSnapshots → ℕ → Bool
is_stale held number = nat_le number held.newest

-- why a snapshot was skipped: its base isn't held; none is skipped whose base is held, so that is never told
abbrev pub skipped_for : Result Snapshot NoBase → NoBase
skipped_for (Err cause) = cause
skipped_for (Ok snapshot) = NeverHeld

-- what the section of a message does, as it was read
abbrev pub apply_section : AppliedState → ℕ → Told → Application
apply_section state number told.Nothing = passes state number NoSnap
apply_section state number (told.Game game) = applies_game state number game
apply_section state number (told.Snap base head entities) =
    if is_stale state.held number then passes state number Stale
    else accepts state number base (record { head = head; entities = entities })
apply_section state number (told.Skipped base) =
    if is_stale state.held number then passes state number Stale
    else passes state number (Skipped base (skipped_for (held_snapshot state.held base)))

-- the config strings and the map's id
pub record Settings : Type 0 where
  pub strings : Strings
  pub id : ℕ

-- whether a change is one of string 1, which tells the id
abbrev pub is_of_info : Option Change → Bool
is_of_info None = false
is_of_info (Some change) = change.index == 1

-- whether a command's text has the shape of such a change
abbrev pub tells_id : List ℕ → Bool
tells_id text = is_of_info (change_in text)

-- what a command does to them: one that changes string 1 may tell another id
abbrev pub settled : ℕ → Bool → Changed → Settings
settled id tells changed = record { strings = changed.strings; id = if changed.changed && tells then id_in id changed.strings else id }

-- and what commands do, one after the other
unfoldable pub after_texts : Settings → List Command → Settings
after_texts settings [] = settings
after_texts settings (command ∷ commands) = after_texts (settled settings.id (tells_id command.text) (after_command settings.strings command.text)) commands

-- the config strings and the id after the commands of a message that are executed
abbrev pub settings_after : AppliedState → List Command → Settings
settings_after state commands =
    after_texts (record { strings = state.strings; id = state.id }) (fresh_of state.executed.executed commands)

-- the state once the commands of a message are executed: those above the last one executed, also across a gap
abbrev pub hearing : AppliedState → List Command → AppliedState
hearing state commands =
    let settings = settings_after state commands in
    record state { executed = executes state.executed commands; strings = settings.strings; id = settings.id }

-- what was applied after these commands, of which those above the last one executed were executed
abbrev pub heard_with : AppliedState → List Command → Application → Application
heard_with state commands applied = record applied { heard = fresh_of state.executed.executed commands }

-- what a message of a number does, as it was read: its commands are executed, whatever becomes of its section
abbrev pub apply_read : AppliedState → ℕ → Message → Application
apply_read state number message =
    heard_with state message.commands (apply_section (hearing state message.commands) number message.section)

-- what bytes do as a message of a number
abbrev pub apply_at : AppliedState → ℕ → List ℕ → Result Application Illegible
apply_at state number message = do
  read ← server_message_in state.profile (context_of state.held state.baselines) number (bits_of message)
  Ok (apply_read state number read)

-- the state after bytes: what isn't legible changes nothing
abbrev pub state_after_message : AppliedState → Result Application Illegible → AppliedState
state_after_message state (Ok applied) = applied.state
state_after_message state (Err e) = state

-- and what is answered
abbrev pub answered : Result Application Illegible → Result Applied Illegible
answered (Ok applied) = Ok applied.answer
answered (Err e) = Err e

-- and the commands that were executed
abbrev pub heard_in : Result Application Illegible → List Command
heard_in (Ok applied) = applied.heard
heard_in (Err e) = []

-- ---- the same of a message's whole value

-- whether a snapshot can be read against the base of a number: 0 is that of a whole one, which needs none
abbrev pub has_base : HeldSnapshots → ℕ → Bool
has_base held zero = true
has_base held (suc base) = is_ok (held_snapshot held (base + 1))

-- a section as a client reads it: of a snapshot whose base isn't held nothing is kept
abbrev pub received : HeldSnapshots → Told → Told
received held (told.Snap base head entities) = if has_base held base then told.Snap base head entities else told.Skipped base
received held section = section

-- what the whole value of a message of a number does
abbrev pub apply_message : AppliedState → ℕ → Message → Application
apply_message state number message =
    heard_with state message.commands (apply_section (hearing state message.commands) number (received state.held message.section))
