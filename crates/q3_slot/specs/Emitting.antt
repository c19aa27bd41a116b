-- What a slot emits: the next message of its client is built, begun and handed out piece by piece.
use Rattle.std.specs.Prelude.{ℕ, ◌+◌, ◌^◌, ◌||◌, if◌then◌else◌, Bool, List, [], length, take, nat_le, nat_lt, Option, Some, None}
use Rattle.q3_bits.specs.Bits.{message_bytes, message_length}
use Rattle.q3_chan.specs.Datagrams.{sequence_end, longest_message}
use Rattle.q3_chan.specs.Sending.{UnderWay, Piece, started, next_of}
use Rattle.q3_chan.specs.Keys.{server_key, server_scrambled}
use Rattle.q3_window.specs.Outgoing.{carried, issued_of}
use Rattle.q3_profile.specs.declared.profile.Profile.{Profile}
use Rattle.q3_entity.specs.Entities.{most_entities}
use Rattle.q3_player.specs.State.{zero_player}
use Rattle.q3_gamestate.specs.Values.{Gamestate}
use Rattle.q3_entity_ring.specs.Snapshot.{Snapshot}
use Rattle.q3_frames.specs.Frames.{FramesState, base_of, build_at}
use Rattle.q3_map.specs.Map.{MapState, begins_game}
use Rattle.q3_slot.specs.declared.answer.Emitted.{Emitted}
use Rattle.q3_slot.specs.declared.answer.Emitted.TheVariants as emitted
use Rattle.q3_built.specs.Built.{Built, Telling, number_of, built_of, built_bits, game_built_of, is_unclear}
use Rattle.q3_slot.specs.declared.stage.ClientStage.{ClientStage}
use Rattle.q3_slot.specs.Slot.{SlotState, is_active, plays_under, asked, primed}

-- the flags of a client's snapshots: 1 where they are delayed by rate control, 2 where it doesn't play, and 4 where the count bit is
-- set
abbrev pub snapshot_flags : Bool → Bool → ClientStage → ℕ
snapshot_flags count delayed stage = (if delayed then 1 else 0) + (if is_active stage then 0 else 2) + (if count then 4 else 0)

-- the snapshot of a client that plays: of more than 256 entities those of the lowest numbers
abbrev pub played_snapshot : MapState → SlotState → Snapshot
played_snapshot map slot = record {
  head = record { number = slot.sending.number + 1; time = map.time; flags = snapshot_flags map.count slot.delayed slot.stage; area = slot.area; player = slot.player };
  entities = take most_entities map.entities;
}

-- and that of one that doesn't, in which nothing is
abbrev pub waiting_snapshot : MapState → SlotState → Snapshot
waiting_snapshot map slot = record {
  head = record { number = slot.sending.number + 1; time = map.time; flags = snapshot_flags map.count slot.delayed slot.stage; area = record { items = [] }; player = zero_player };
  entities = [];
}

-- the snapshot that goes to a slot next
abbrev pub next_snapshot : MapState → SlotState → Snapshot
next_snapshot map slot = if is_active slot.stage then played_snapshot map slot else waiting_snapshot map slot

-- the frames with the next snapshot of a client's slot
abbrev pub next_frames : MapState → FramesState → ℕ → SlotState → FramesState
next_frames map frames c slot = build_at frames c (next_snapshot map slot)

-- what a message of a number says besides: all commands that aren't acknowledged
abbrev pub telling_under : Profile → SlotState → ℕ → Telling
telling_under profile slot number = record {
  ack = slot.executed.executed;
  commands = carried slot.issued;
  last = issued_of slot.issued;
  under = plays_under slot.stage;
  key = server_key profile.protocol slot.challenge number slot.executed.last;
}

-- and of the next message
abbrev pub telling_of : Profile → SlotState → Telling
telling_of profile slot = telling_under profile slot (slot.sending.number + 1)

-- the message that goes to a client next: its snapshot, against the base that these frames have for it
abbrev pub next_built : Profile → MapState → FramesState → ℕ → SlotState → Built
next_built profile map frames c slot = built_of (telling_of profile slot) map.baselines (base_of frames c (slot.sending.number + 1) (asked slot)) (next_snapshot map slot)

-- and once its frame was built
abbrev pub begun_next : Profile → MapState → FramesState → ℕ → SlotState → Built
begun_next profile map frames c slot = next_built profile map (next_frames map frames c slot) c slot

-- the gamestate that goes to a client next
abbrev pub next_game : MapState → ℕ → SlotState → Gamestate
next_game map c slot = record {
  command = issued_of slot.issued;
  strings = map.strings;
  baselines = map.baselines;
  slot = c;
  feed = map.feed;
}

-- and the message with it
abbrev pub next_game_built : Profile → MapState → ℕ → SlotState → Built
next_game_built profile map c slot = game_built_of (telling_of profile slot) map.baselines (next_game map c slot)

-- what an emit of a slot gives: the slot after it, the map and the frames, the answer, the message that it began, and the datagram
-- that it hands out
pub record SlotEmission : Type 0 where
  pub slot : SlotState
  pub map : MapState
  pub frames : FramesState
  pub answer : Emitted
  pub began : Option Built
  pub piece : Option Piece

-- no message was begun, and nothing is handed out
abbrev pub nothing : SlotState → MapState → FramesState → Emitted → SlotEmission
nothing slot map frames answer = record { slot = slot; map = map; frames = frames; answer = answer; began = None; piece = None }

-- the piece at an index of the message under way is handed out
abbrev pub hand_out : SlotState → MapState → FramesState → ℕ → Emitted → Option Built → SlotEmission
hand_out slot map frames index answer began = record {
  slot = record slot { sending = (next_of slot.sending).sending };
  map = map;
  frames = frames;
  answer = answer;
  began = began;
  piece = Some (record { number = slot.sending.number; index = index; bytes = (next_of slot.sending).datagram });
}

-- whether a message of these bits is too long
abbrev pub is_overlong : List Bool → Bool
is_overlong bits = nat_lt longest_message (message_length (length bits))

-- a message of these bits is begun, with this answer, and its first piece is handed out
abbrev pub begin : SlotState → MapState → FramesState → Emitted → Built → List Bool → SlotEmission
begin slot map frames answer built bits =
    hand_out (record slot { sending = started slot.sending (server_scrambled built.key (message_bytes bits)) }) map frames 0 answer (Some built)

-- a message with a snapshot, unless it is too long
abbrev pub emit_bits : SlotState → MapState → FramesState → Built → List Bool → SlotEmission
emit_bits slot map frames built bits =
    if is_overlong bits then nothing slot map frames emitted.Overlong
    else begin slot map frames (emitted.Snapshot (slot.sending.number + 1) (number_of built.base) (message_length (length bits))) built bits

abbrev pub emit_built : Profile → SlotState → MapState → FramesState → Built → SlotEmission
emit_built profile slot map frames built = emit_bits slot map frames built (built_bits profile built)

-- a message with the gamestate, unless it is too long, which changes nothing; with it one of the map was begun, and the client is
-- primed
abbrev pub emit_game_bits : SlotState → MapState → FramesState → Built → List Bool → SlotEmission
emit_game_bits slot map frames built bits =
    if is_overlong bits then nothing slot map frames emitted.Overlong
    else begin (primed slot (slot.sending.number + 1)) (begins_game map) frames (emitted.Game (slot.sending.number + 1) (message_length (length bits))) built bits

abbrev pub emit_game : Profile → SlotState → MapState → FramesState → Built → SlotEmission
emit_game profile slot map frames built = emit_game_bits slot map frames built (built_bits profile built)

-- how many entities may have been placed where a message is begun
abbrev pub most_placed : ℕ
most_placed = 2 ^ 62

-- the next message of a client: the gamestate where one is owed, else a snapshot, whose frame is built before its base is chosen,
-- and stays where the message proves too long
abbrev pub emit_next : Profile → MapState → FramesState → ℕ → SlotState → SlotEmission
emit_next profile map frames c slot =
    if slot.owed then emit_game profile slot map frames (next_game_built profile map c slot)
    else emit_built profile slot map (next_frames map frames c slot) (begun_next profile map frames c slot)

-- and none where message numbers have ended or too many entities were placed, or where its leading long would be hidden
abbrev pub emit_new : Profile → MapState → FramesState → ℕ → SlotState → SlotEmission
emit_new profile map frames c slot =
    if nat_le sequence_end (slot.sending.number + 1) || nat_lt most_placed frames.placed then nothing slot map frames emitted.SequenceEnd
    else if is_unclear profile slot.executed.executed then nothing slot map frames emitted.Unclear
    else emit_next profile map frames c slot

-- what is left of a message goes before another is begun
abbrev pub emit_slot : Profile → MapState → FramesState → ℕ → SlotState → Option UnderWay → SlotEmission
emit_slot profile map frames c slot None = emit_new profile map frames c slot
emit_slot profile map frames c slot (Some left) = hand_out slot map frames left.next (emitted.Fragment slot.sending.number) None
