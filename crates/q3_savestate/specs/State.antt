-- A client's state as bytes.
use Rattle.std.specs.Prelude.{ℕ, ◌==◌, not, if◌then◌else◌, Bool, List, [], ◌∷◌, length, Result, Ok}
use Rattle.std.specs.List.{concat}
use Rattle.byteorder.specs.Endian.{little_bytes}
use Rattle.q3_bits.specs.ResultBind.{◌>>=◌}
use Rattle.q3_text.specs.Texts.{most_bytes}
use Rattle.q3_window.specs.Incoming.{IncomingState}
use Rattle.q3_config.specs.Strings.{Strings}
use Rattle.q3_entity.specs.Baselines.{Baselines}
use Rattle.q3_profile.specs.declared.profile.Profile.{Profile}
use Rattle.q3_rings.specs.Rings.{HeldSnapshots}
use Rattle.q3_savestate.specs.Cursor.{Cursor, Field, number_at, text_at, end_at}
use Rattle.q3_savestate.specs.Entities.{baselines_bytes, baselines_at}
use Rattle.q3_savestate.specs.Texts.{strings_bytes, strings_at, pending_bytes, pending_at}
use Rattle.q3_savestate.specs.Snapshots.{last_number, snapshots_bytes, snapshots_at}

-- the number of the last message; the server's commands that were executed; whether a gamestate was applied; the map's id, the client's slot
-- and the checksum feed; the config strings and the baselines; and the snapshots that are held
pub record Saved : Type 0 where
  pub number : ℕ
  pub executed : IncomingState
  pub has_game : Bool
  pub id : ℕ
  pub slot : ℕ
  pub feed : ℕ
  pub strings : Strings
  pub baselines : Baselines
  pub held : HeldSnapshots

-- ---- what is written

abbrev pub flag_bytes : Bool → List ℕ
flag_bytes flag = little_bytes 1 (if flag then 1 else 0)

abbrev pub start_bytes : Saved → List ℕ
start_bytes saved =
    concat (little_bytes 4 saved.number ∷ little_bytes 4 saved.id ∷ little_bytes 4 saved.slot ∷ little_bytes 4 saved.feed
    ∷ little_bytes 4 saved.executed.executed ∷ little_bytes 2 (length saved.executed.last) ∷ saved.executed.last ∷ [])

abbrev pub state_bytes : Profile → Saved → List ℕ
state_bytes profile saved =
    concat (start_bytes saved ∷ pending_bytes saved.strings.pending ∷ flag_bytes saved.has_game ∷ strings_bytes saved.strings.texts
    ∷ baselines_bytes profile.entity saved.baselines ∷ snapshots_bytes profile saved.held ∷ [])

-- ---- what is read

-- what stands in front of the pending text: numbers, and the last command's text
pub record Start : Type 0 where
  pub number : ℕ
  pub id : ℕ
  pub slot : ℕ
  pub feed : ℕ
  pub executed : IncomingState

unfoldable pub start_at : Cursor → Field Start
start_at cursor = do
  number ← number_at 4 0 last_number cursor
  id ← number_at 4 0 2147483647 number.1
  slot ← number_at 4 0 4294967295 id.1
  feed ← number_at 4 0 4294967295 slot.1
  command ← number_at 4 0 4294967295 feed.1
  length ← number_at 2 0 most_bytes command.1
  last ← text_at length.0 length.1
  Ok (record { number = number.0; id = id.0; slot = slot.0; feed = feed.0; executed = record { executed = command.0; last = last.0 } }, last.1)

abbrev pub flag_at : Cursor → Field Bool
flag_at cursor = do
  flag ← number_at 1 0 1 cursor
  Ok (not (flag.0 == 0), flag.1)

-- the state that follows a cursor, and no bytes after it; or the place of the first field that is cut short or breaks a rule, or of the first
-- byte after the state
abbrev pub whole_at : Profile → Cursor → Result Saved ℕ
whole_at profile cursor = do
  start ← start_at cursor
  pending ← pending_at start.1
  has_game ← flag_at pending.1
  texts ← strings_at has_game.1
  baselines ← baselines_at profile.entity texts.1
  held ← snapshots_at profile baselines.1
  none ← end_at held.1
  Ok (record {
    number = start.0.number;
    executed = start.0.executed;
    has_game = has_game.0;
    id = start.0.id;
    slot = start.0.slot;
    feed = start.0.feed;
    strings = record { texts = texts.0; pending = pending.0 };
    baselines = baselines.0;
    held = held.0;
  })

-- the state that bytes are
unfoldable pub state_at : Profile → List ℕ → Result Saved ℕ
state_at profile bytes = whole_at profile (record { at = 0; bytes = bytes })
