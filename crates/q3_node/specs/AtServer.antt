-- What a server does at a line of its script, and at an arrival.
use Rattle.std.specs.Prelude.{ℕ, false, [], Option, Some, None, option_map}
use Rattle.q3_io.specs.declared.address.Address.{Address}
use Rattle.q3_io.specs.Traffic.{Parcel}
use Rattle.q3_script.specs.declared.event.Event.{Event}
use Rattle.q3_script.specs.declared.event.Event.TheVariants as events
use Rattle.q3_slot.specs.Slot.{SlotState}
use Rattle.q3_server.specs.Server.{ServerState, slot_at, add_client_at, emit_at}
use Rattle.q3_server.specs.Taking.{take_at}
use Rattle.q3_report.specs.declared.answer.HandedIn.TheVariants as handed
use Rattle.q3_report.specs.declared.answer.Front.TheVariants.{Arrive}
use Rattle.q3_report.specs.Answers.{Given, Served}
use Rattle.q3_ends.specs.AtServer.{ServerStep, server_line, taken_by_server}
use Rattle.q3_node.specs.Node.{LineDone, Arrived, Rules, answers, parcel_to}

-- a client joins
abbrev pub join : ServerState → ℕ → ℕ → ℕ → Address → LineDone ServerState
join server c challenge qport address =
    let given = add_client_at server c challenge qport address in
    answers given.server (Some (Given (handed.Client c given.answer)))

-- a datagram is made for a client, and sent to its address
abbrev pub serve : ServerState → ℕ → ℕ → LineDone ServerState
serve server c number =
    let emission = emit_at server c in
    record {
      end = emission.server;
      answer = Some (Served c emission.answer number);
      sends = parcel_to (option_map (λ (slot : SlotState). slot.address) (slot_at server c)) emission.piece;
      acts = [];
      memory = false;
    }

-- a line of the game; any other does nothing
abbrev pub game_done : ServerState → Option ServerStep → LineDone ServerState
game_done server None = answers server None
game_done server (Some step) = answers step.server (Some (Given step.answer))

abbrev pub line_done : ServerState → Event → ℕ → LineDone ServerState
line_done server (events.Client c challenge qport dup address) number = join server c challenge qport address
line_done server (events.Serve c) number = serve server c number
line_done server event number = game_done server (server_line server event)

-- an arrival is taken
abbrev pub arrived : ServerState → Parcel → Arrived ServerState
arrived server parcel =
    let taken = take_at server parcel.address parcel.bytes in
    record { end = taken.server; answer = taken_by_server Arrive taken; acts = [] }

abbrev pub server_rules : Rules ServerState
server_rules = record { line = line_done; arrives = arrived }
