-- A client's slot: what is kept of it, and what the game hands in for it alone.
use Rattle.std.specs.Prelude.{ℕ, ◌==◌, ◌&&◌, if◌then◌else◌, Bool, true, false, List, [], Option, Some, None, option_map}
use Rattle.arrayvec.specs.ArrayVec.{ArrayVec}
use Rattle.q3_io.specs.declared.address.Address.{Address}
use Rattle.q3_chan.specs.Checks.{check_for}
use Rattle.q3_chan.specs.Datagrams.{server_form, client_form}
use Rattle.q3_chan.specs.Gathering.{Gathering, new_gathering}
use Rattle.q3_chan.specs.Sending.{Sending, new_sending}
use Rattle.q3_window.specs.Outgoing.{OutgoingState, new_outgoing}
use Rattle.q3_window.specs.Incoming.{IncomingState, new_incoming}
use Rattle.q3_profile.specs.declared.profile.Profile.{Profile}
use Rattle.q3_player.specs.declared.state.PlayerState.{PlayerState}
use Rattle.q3_player.specs.State.{zero_player, normal_player}
use Rattle.q3_slot.specs.declared.stage.ClientStage.{ClientStage}
use Rattle.q3_slot.specs.declared.stage.ClientStage.TheVariants.{Connected, Primed, Active}

-- whether a client plays
abbrev pub is_active : ClientStage → Bool
is_active (Active game) = true
is_active other = false

-- whether no gamestate of the map was begun for it
abbrev pub is_connected : ClientStage → Bool
is_connected Connected = true
is_connected other = false

-- the message number of the last gamestate of the map that was begun for it, if one was
abbrev pub game_of : ClientStage → Option ℕ
game_of Connected = None
game_of (Primed game) = Some game
game_of (Active game) = Some game

-- a client at the server: how it joined and from where, how far it came on the map and by which gamestate, and whether one is owed to
-- it; what is being sent to it, what was gathered of what it sends, the commands that were issued to it, and those of its own that were
-- executed; the number of the snapshot that it asks to write the next one against, 0 for none, the time of its last move that was run, 0
-- for none, its player in normal form, its area bytes, and whether its snapshots are delayed by rate control
pub record SlotState : Type 0 where
  pub challenge : ℕ
  pub address : Address
  pub qport : ℕ
  pub stage : ClientStage
  pub owed : Bool
  pub sending : Sending
  pub gathering : Gathering
  pub issued : OutgoingState
  pub executed : IncomingState
  pub delta : ℕ
  pub last_run : ℕ
  pub player : PlayerState
  pub area : ArrayVec ℕ
  pub delayed : Bool

-- a client that just joined, by a protocol
abbrev pub new_slot : ℕ → ℕ → ℕ → Address → SlotState
new_slot protocol challenge qport address = record {
  challenge = challenge;
  address = address;
  qport = qport;
  stage = Connected;
  owed = false;
  sending = new_sending (server_form (check_for protocol challenge)) 0;
  gathering = new_gathering (client_form (check_for protocol challenge));
  issued = new_outgoing;
  executed = new_incoming;
  delta = 0;
  last_run = 0;
  player = zero_player;
  area = record { items = [] };
  delayed = false;
}

-- whether a slot's client has this host and qport
abbrev pub is_of : ℕ → ℕ → Option SlotState → Bool
is_of host qport None = false
is_of host qport (Some slot) = slot.address.host == host && slot.qport == qport

-- the slot with another player, in the normal form of the profile's table
abbrev pub with_player : Profile → SlotState → PlayerState → SlotState
with_player profile slot player = record slot { player = normal_player profile.player.kinds player }

-- the slot with other area bytes
abbrev pub with_area : SlotState → List ℕ → SlotState
with_area slot area = record slot { area = record { items = area } }

-- the slot whose snapshots are delayed by rate control, or aren't
abbrev pub with_delayed : SlotState → Bool → SlotState
with_delayed slot on = record slot { delayed = on }

-- the number of the message of which pieces are left, if there is one
abbrev pub sending_of : Option SlotState → Option ℕ
sending_of None = None
sending_of (Some slot) = option_map (λ left. slot.sending.number) slot.sending.under_way

-- the slot on a new map: its client is connected, no gamestate was begun for it and none is owed, it asks for no delta, and has no player
-- and no area. All else stays, so the time of its last move that was run too
abbrev pub on_new_map : SlotState → SlotState
on_new_map slot = record slot {
  stage = Connected;
  owed = false;
  delta = 0;
  player = zero_player;
  area = record { items = [] };
}

-- the snapshot against which the next one may be written: the one that the client asks for, as long as it plays
abbrev pub asked : SlotState → ℕ
asked slot = if is_active slot.stage then slot.delta else 0

-- the gamestate under which its client plays, if it does
abbrev pub plays_under : ClientStage → Option ℕ
plays_under (Active game) = Some game
plays_under other = None

-- the slot where the gamestate of a number is begun
abbrev pub primed : SlotState → ℕ → SlotState
primed slot number = record slot { stage = Primed number; owed = false }
