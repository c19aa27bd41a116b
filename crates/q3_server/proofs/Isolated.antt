-- What a datagram does to a slot depends on the map, the slot, and who the clients are.
use Rattle.std.proofs.Common.{◌≡◌, ◌+◌, ◌<◌, ℕ, Bool, true, false, cond, List, length, map, Option, Some, None, Result, Ok, Err, refl, sym, ap, ap₂, subst, ◌∙◌}
use Rattle.std.specs.Prelude.{◌==◌, ◌&&◌, not}
use Rattle.std.specs.List.{position_or_len}
use Rattle.std.proofs.lemmas.List.{get_or-set_same, length-map}
use Rattle.std.proofs.lemmas.List.Recursion.{is_position_or_len}
use Rattle.std.proofs.lemmas.List.Quantifiers.{position-Some}
use Rattle.q3_profile.specs.declared.profile.Profile.{Profile}
use Rattle.q3_io.specs.declared.address.Address.{Address}
use Rattle.q3_chan.specs.declared.qport.NoQport.{NoQport}
use Rattle.q3_chan.specs.declared.qport.NoQport.TheVariants as no
use Rattle.q3_chan.specs.Checks.{is_checked}
use Rattle.q3_chan.specs.Senders.{qport_of}
use Rattle.q3_slot.specs.Slot.{SlotState, is_of}
use Rattle.q3_slot.specs.Taking.{SlotTaken, take_slot}
use Rattle.q3_server.specs.Server.{ServerState, slot_at}
use Rattle.q3_server.specs.Taking as hears
use Rattle.q3_server.specs.Taking.{Taken}
use Rattle.q3_server.specs.Apart.{SlotsApart, found_by, taker_of}
use Rattle.q3_server.specs.Isolated.{sender, Agree, TakeAlike, SlotsIsolated}

-- ---- which slot is found

sent_by : ℕ → ℕ → Option (ℕ × ℕ) → Bool
sent_by host qport None = false
sent_by host qport (Some both) = both.0 == host && both.1 == qport

turned : (b : Bool) (n : ℕ) → cond (not b) (1 + n) 0 ≡ cond b 0 (1 + n)
turned false n = refl
turned true n = refl

same_step : (host qport : ℕ) (slot : Option SlotState) (n : ℕ) → cond (not (sent_by host qport (sender slot))) (1 + n) 0 ≡ cond (is_of host qport slot) 0 (1 + n)
unfolding sent_by
same_step host qport None n = refl
same_step host qport (Some slot) n = turned (slot.address.host == host && slot.qport == qport) n

by_senders : (host qport : ℕ) (slots : List (Option SlotState)) → position_or_len (sent_by host qport) (map sender slots) ≡ position_or_len (is_of host qport) slots
by_senders host qport slots =
    is_position_or_len (λ (all : List (Option SlotState)). position_or_len (sent_by host qport) (map sender all)) (is_of host qport) refl
    (λ slot others. same_step host qport slot (position_or_len (sent_by host qport) (map sender others))) slots

same_sender : (one other : ServerState) (host qport : ℕ) → map sender one.slots ≡ map sender other.slots → hears.sender_of one host qport ≡ hears.sender_of other host qport
same_sender one other host qport same =
    let place : position_or_len (is_of host qport) one.slots ≡ position_or_len (is_of host qport) other.slots =
    sym (by_senders host qport one.slots) ∙ ap (position_or_len (sent_by host qport)) same ∙ by_senders host qport other.slots in
    let long : length one.slots ≡ length other.slots = sym (length-map one.slots sender) ∙ ap length same ∙ length-map other.slots sender in
    rw (place, long) refl

found_headed : (one other : ServerState) (from : Address) (qport : Result ℕ NoQport) → map sender one.slots ≡ map sender other.slots → found_by one from qport ≡ found_by other from qport
found_headed one other from (Ok qport) same = same_sender one other from.host qport same
found_headed one other from (Err e) same = refl

found : (one other : ServerState) (d : ℕ) (from : Address) (bytes : List ℕ) → Agree d one other → taker_of one from bytes ≡ taker_of other from bytes
found one other d from bytes agree =
    found_headed one other from (qport_of (is_checked one.profile.protocol) bytes) agree.senders
    ∙ ap (λ (p : Profile). found_by other from (qport_of (is_checked p.protocol) bytes)) agree.profile

-- ---- what it takes

-- the slot that a server finds is one of its places
sender_within : (server : ServerState) (host qport d : ℕ) → hears.sender_of server host qport ≡ Some d → d < length server.slots
sender_within server host qport d is = (position-Some (is_of host qport) server.slots d None is).0

-- a client's slot took it at both
taken_alike : (one other : ServerState) (d : ℕ) (taken : SlotTaken) → one.map ≡ other.map → d < length one.slots → d < length other.slots
    → TakeAlike d (hears.taken_at one d taken) (hears.taken_at other d taken)
taken_alike one other d taken maps within within' = record {
  answer = refl;
  heard = refl;
  maps = maps;
  slot = get_or-set_same one.slots d (Some taken.slot) None within ∙ sym (get_or-set_same other.slots d (Some taken.slot) None within');
}

by_alike : (one other : ServerState) (d : ℕ) (from : Address) (bytes : List ℕ) (slot : Option SlotState) → Agree d one other → slot_at one d ≡ slot → d < length one.slots → d < length other.slots
    → TakeAlike d (hears.take_by one d from bytes slot) (hears.take_by other d from bytes slot)
by_alike one other d from bytes None agree is within within' = record {
  answer = refl;
  heard = refl;
  maps = agree.maps;
  slot = agree.slot;
}
by_alike one other d from bytes (Some slot) agree is within within' =
    subst (λ (taken : SlotTaken). TakeAlike d (hears.taken_at one d (take_slot one.profile one.map d from bytes slot)) (hears.taken_at other d taken))
    (ap₂ (λ profile game. take_slot profile game d from bytes slot) agree.profile agree.maps)
    (taken_alike one other d (take_slot one.profile one.map d from bytes slot) agree.maps within within')

headed_alike : (one other : ServerState) (d : ℕ) (from : Address) (bytes : List ℕ) (qport : Result ℕ NoQport) → Agree d one other → found_by one from qport ≡ Some d
    → TakeAlike d (hears.take_headed one from bytes qport) (hears.take_headed other from bytes qport)
headed_alike one other d from bytes (Ok qport) agree is =
    let there : hears.sender_of other from.host qport ≡ Some d = sym (same_sender one other from.host qport agree.senders) ∙ is in
    rw (is, there)
    (subst (λ (slot : Option SlotState). TakeAlike d (hears.take_by one d from bytes (slot_at one d)) (hears.take_by other d from bytes slot)) agree.slot
    (by_alike one other d from bytes (slot_at one d) agree refl (sender_within one from.host qport d is) (sender_within other from.host qport d there)))
headed_alike one other d from bytes (Err e) agree is = absurd cc

alike : (one other : ServerState) (d : ℕ) (from : Address) (bytes : List ℕ) → Agree d one other → taker_of one from bytes ≡ Some d
    → TakeAlike d (hears.take_at one from bytes) (hears.take_at other from bytes)
unfolding hears.take_at
alike one other d from bytes agree is =
    subst (λ (p : Profile). TakeAlike d (hears.take_at one from bytes) (hears.take_headed other from bytes (qport_of (is_checked p.protocol) bytes))) agree.profile
    (headed_alike one other d from bytes (qport_of (is_checked one.profile.protocol) bytes) agree is)

-- ---- what it leaves

record LeavesShared (server now : ServerState) : Type 0 where
  map : now.map ≡ server.map
  frames : now.frames ≡ server.frames

by_leaves : (server : ServerState) (c : ℕ) (from : Address) (bytes : List ℕ) (slot : Option SlotState) → LeavesShared server (hears.take_by server c from bytes slot).server
by_leaves server c from bytes None = record { map = refl; frames = refl }
by_leaves server c from bytes (Some slot) = record { map = refl; frames = refl }

from_leaves : (server : ServerState) (from : Address) (bytes : List ℕ) (place : Option ℕ) → LeavesShared server (hears.take_from server from bytes place).server
from_leaves server from bytes None = record { map = refl; frames = refl }
from_leaves server from bytes (Some c) = by_leaves server c from bytes (slot_at server c)

headed_leaves : (server : ServerState) (from : Address) (bytes : List ℕ) (qport : Result ℕ NoQport) → LeavesShared server (hears.take_headed server from bytes qport).server
headed_leaves server from bytes (Ok qport) = from_leaves server from bytes (hears.sender_of server from.host qport)
headed_leaves server from bytes (Err no.Runt) = record { map = refl; frames = refl }
headed_leaves server from bytes (Err no.Connectionless) = record { map = refl; frames = refl }

leaves : (server : ServerState) (from : Address) (bytes : List ℕ) → LeavesShared server (hears.take_at server from bytes).server
unfolding hears.take_at
leaves server from bytes = headed_leaves server from bytes (qport_of (is_checked server.profile.protocol) bytes)

pub slots_isolated : SlotsApart → SlotsIsolated
slots_isolated apart = record {
  found = found;
  alike = alike;
  maps = λ server from bytes. (leaves server from bytes).map;
  frames = λ server from bytes. (leaves server from bytes).frames;
  slots = λ server d from bytes other. (apart.takes server d from bytes other).slot;
}
