-- What a line of the game does at a server, and what a server makes of bytes.
use Rattle.std.specs.Prelude.{ℕ, if◌then◌else◌, List, Option, Some, None, Result, Ok, Err, nat_lt}
use Rattle.arrayvec.specs.ArrayVec.{ArrayVec}
use Rattle.q3_fields.specs.Kinds.{end_mark}
use Rattle.q3_map.specs.declared.map.Late.{Late}
use Rattle.q3_player.specs.declared.state.PlayerState.{PlayerState}
use Rattle.q3_entity.specs.declared.state.EntityState.{EntityState}
use Rattle.q3_script.specs.declared.event.Event.{Event}
use Rattle.q3_script.specs.declared.event.Event.TheVariants as events
use Rattle.q3_server.specs.Server.{ServerState, set_time_at, set_entity_at, remove_entity_at, set_player_at, set_area_at, new_map_at, set_baseline_at, set_config_at, say_at}
use Rattle.q3_server.specs.Taking.{Taken}
use Rattle.q3_report.specs.declared.answer.HandedIn.{HandedIn}
use Rattle.q3_report.specs.declared.answer.HandedIn.TheVariants as answers
use Rattle.q3_report.specs.declared.answer.Front.{Front}
use Rattle.q3_report.specs.declared.answer.BaselineRefused.{BaselineRefused}
use Rattle.q3_report.specs.declared.answer.BaselineRefused.TheVariants as unset
use Rattle.q3_report.specs.Answers.{Answered, Took, ByServer}

-- the server after something was handed in, and the answer
pub record ServerStep : Type 0 where
  pub server : ServerState
  pub answer : HandedIn

-- a map, a baseline and a config string
abbrev pub new_map : ServerState → ℕ → ℕ → ServerStep
new_map server id feed =
    let given = new_map_at server id feed in
    record { server = given.server; answer = answers.Map id given.answer }

abbrev pub unless_late : Result (Unit {0}) Late → Result (Unit {0}) BaselineRefused
unless_late (Ok x) = Ok x
unless_late (Err e) = Err unset.Late

abbrev pub set_baseline : ServerState → EntityState → ServerStep
set_baseline server state =
    let given = set_baseline_at server state in
    record { server = given.server; answer = answers.Baseline state.number (unless_late given.answer) }

abbrev pub set_config : ServerState → ℕ → List ℕ → ServerStep
set_config server index text =
    let given = set_config_at server index text in
    record { server = given.server; answer = answers.Config index given.answer }

-- the time, an entity, and one that is gone
abbrev pub set_time : ServerState → ℕ → ServerStep
set_time server time = record { server = set_time_at server time; answer = answers.Time }

abbrev pub set_entity : ServerState → EntityState → ServerStep
set_entity server state = record { server = set_entity_at server state; answer = answers.Entity state.number (Ok tt) }

abbrev pub remove_entity : ServerState → ℕ → ServerStep
remove_entity server number = record { server = remove_entity_at server number; answer = answers.Remove number (Ok tt) }

-- the player and the area of a client
abbrev pub set_player : ServerState → ℕ → PlayerState → ServerStep
set_player server c player =
    let given = set_player_at server c player in
    record { server = given.server; answer = answers.Player c given.answer }

abbrev pub set_area : ServerState → ℕ → ArrayVec ℕ → ServerStep
set_area server c area =
    let given = set_area_at server c area.items in
    record { server = given.server; answer = answers.Area c given.answer }

-- a command is issued to a client
abbrev pub say_command : ServerState → ℕ → List ℕ → ServerStep
say_command server c text =
    let said = say_at server c text in
    record { server = said.server; answer = answers.Say c said.answer }

-- a line about an entity of this number: where it isn't below the end mark of the profile's entity table the line is refused, and nothing changes
abbrev pub in_range : ServerState → ℕ → HandedIn → ServerStep → ServerStep
in_range server number refusal step =
    if nat_lt number (end_mark server.profile.entity) then step else record { server = server; answer = refusal }

abbrev pub baseline_line : ServerState → EntityState → ServerStep
baseline_line server state = in_range server state.number (answers.Baseline state.number (Err unset.OutOfRange)) (set_baseline server state)

abbrev pub entity_line : ServerState → EntityState → ServerStep
entity_line server state = in_range server state.number (answers.Entity state.number (Err (record {}))) (set_entity server state)

abbrev pub remove_line : ServerState → ℕ → ServerStep
remove_line server number = in_range server number (answers.Remove number (Err (record {}))) (remove_entity server number)

-- what a line does at a server, if it is one of the game
unfoldable pub server_line : ServerState → Event → Option ServerStep
server_line server (events.Map id feed) = Some (new_map server id feed)
server_line server (events.Baseline state) = Some (baseline_line server state)
server_line server (events.Config index text) = Some (set_config server index text)
server_line server (events.Entity state) = Some (entity_line server state)
server_line server (events.Remove number) = Some (remove_line server number)
server_line server (events.Player c player) = Some (set_player server c player)
server_line server (events.Area c area) = Some (set_area server c area)
server_line server (events.Time time) = Some (set_time server time)
server_line server (events.Say c text) = Some (say_command server c text)
server_line server other = None

-- the server after it
abbrev pub stepped_server : ServerState → Option ServerStep → ServerState
stepped_server server None = server
stepped_server server (Some step) = step.server

-- the answer of a server that took bytes
abbrev pub taken_by_server : Front → Taken → Answered
taken_by_server front taken = Took front (ByServer taken.answer taken.heard)
