-- What either end begins may be sent.
use Rattle.std.proofs.Common.{◌≡◌, ℕ, ◌+◌, ◌^◌, ◌<◌, ◌≤◌, Bool, false, List, length, Option, Some, None, sym, ap, subst, ◌∙◌, inl, inr, arith}
use Rattle.std.specs.Int.Bits.{bit_xor}
use Rattle.std.specs.Prelude.{IfSome, ◌%◌, nat_le, nat_lt}
use Rattle.std.proofs.lemmas.Bool.{cases_Bool, cond_both, leb-false, ltb-false}
use Rattle.q3_bits.specs.Bits.{message_bytes, message_length}
use Rattle.q3_bits.specs.Laws.{MessageIsBytes}
use Rattle.q3_text.specs.Texts.{IsText}
use Rattle.q3_chan.specs.declared.side.Side.{Side}
use Rattle.q3_chan.specs.declared.side.Side.TheVariants.{Server, Client}
use Rattle.q3_chan.specs.Checks.{is_checked}
use Rattle.q3_chan.specs.Datagrams.{sequence_end, longest_message}
use Rattle.q3_chan.specs.Keys.{Key, start_by, side_scrambled}
use Rattle.q3_chan.specs.Laws.{IsSendable, SideFrontStays, SideBytesStay}
use Rattle.q3_chan.specs.Sending.{UnderWay}
use Rattle.q3_profile.specs.declared.profile.Profile.{Profile}
use Rattle.q3_svmsg.specs.declared.error.Illegible.{Illegible}
use Rattle.q3_map.specs.Map.{MapState}
use Rattle.q3_frames.specs.Frames.{FramesState}
use Rattle.q3_built.specs.Built.{Built, IsBuilt, built_bits, built_bytes, is_unclear}
use Rattle.q3_slot.specs.Slot.{SlotState}
use Rattle.q3_slot.specs.Emitting.{SlotEmission, next_frames, begun_next, next_game_built, is_overlong, most_placed, emit_built, emit_game, emit_new, emit_slot}
use Rattle.q3_server.specs.Server.{ServerState, slot_at, emit_from, emit_at}
use Rattle.q3_server.specs.Standing.{BeginsBuilt}
use Rattle.q3_client.specs.Client.{ClientState}
use Rattle.q3_client.specs.Sending as says
use Rattle.q3_client.specs.Sending.{Said, IsSaid, Emission, next_message, next_said, said_bits, said_bytes}
use Rattle.q3_messages.specs.MessageLaws.{MayBeSent, BegunMayBeSent}

-- ---- its bytes

record Scrambling : Type 0 where
  bits : MessageIsBytes
  front : SideFrontStays
  bytes : SideBytesStay

sendable : Scrambling → (bits : List Bool) (side : Side) (key : Key) → IfSome key.start (λ start. start < 2 ^ 8) → IsText key.text
    → message_length (length bits) ≤ longest_message → IsSendable (side_scrambled side key (message_bytes bits))
sendable laws bits side key begins is short =
    let bytes = laws.bits bits in
    let many = (laws.front side key (message_bytes bits)).0 ∙ bytes.0 in
    record {
      some = subst (λ (k : ℕ). 1 ≤ k) (sym many) (omega arith);
      most = subst (λ (k : ℕ). k ≤ longest_message) (sym many) short;
      bytes = laws.bytes side key (message_bytes bits) begins is bytes.1;
    }

-- keys start from a byte, if they do
low_byte : (protocol number : ℕ) → IfSome (start_by protocol (number % 256)) (λ start. start < 2 ^ 8)
low_byte protocol number =
    cond_both (is_checked protocol) None (Some (number % 256)) (λ (o : Option ℕ). IfSome o (λ start. start < 2 ^ 8)) (λ e. tt) (λ e. omega arith)

key_byte : (protocol number : ℕ) (key : Key) → key.start ≡ start_by protocol (number % 256) → IfSome key.start (λ start. start < 2 ^ 8)
key_byte protocol number key is = subst (λ (o : Option ℕ). IfSome o (λ start. start < 2 ^ 8)) (sym is) (low_byte protocol number)

-- ---- a message as a server builds it, and as a client begins it

built_key : (profile : Profile) (challenge n : ℕ) (built : Built) (is : IsBuilt profile challenge n built) → built.key ≡ is.telling.key
built_key profile challenge n built is =
    elim is.section [
      | inl snapshot ↦ ap (λ (b : Built). b.key) snapshot.is
      | inr game ↦ ap (λ (b : Built). b.key) game.is
    ]

of_built : Scrambling → (profile : Profile) (challenge n : ℕ) (built : Built) → IsBuilt profile challenge n built
    → message_length (length (built_bits profile built)) ≤ longest_message → IsSendable (built_bytes profile built)
of_built laws profile challenge n built is short =
    let key = built_key profile challenge n built is in
    let start = ap (λ (k : Key). k.start) key ∙ ap (λ (k : Key). k.start) is.tells.key in
    let text : IsText built.key.text = subst (λ (k : Key). IsText k.text) (sym key) is.tells.text in
    sendable laws (built_bits profile built) Server built.key (key_byte profile.protocol (bit_xor challenge n) built.key start) text short

of_said : Scrambling → (profile : Profile) (challenge : ℕ) (said : Said) → IsSaid profile challenge said
    → message_length (length (said_bits profile said)) ≤ longest_message → IsSendable (said_bytes profile said)
of_said laws profile challenge said is short =
    let start = ap (λ (k : Key). k.start) is.key in
    sendable laws (said_bits profile said) Client said.key (key_byte profile.protocol (bit_xor (bit_xor challenge said.message.id) said.message.acknowledged) said.key start) is.text short

-- ---- a server's message is short enough, and its number isn't the last

module _ (profile : Profile) (map : MapState) (slot : SlotState) where
  record IsShort (built : Built) : Type 0 where
    fits : slot.sending.number + 1 < sequence_end
    short : is_overlong (built_bits profile built) ≡ false

  abbrev Short : SlotEmission → Type 0
  Short emission = IfSome emission.began IsShort

  short_built : (made : FramesState) (built : Built) → slot.sending.number + 1 < sequence_end → Short (emit_built profile slot map made built)
  short_built made built fits =
      elim (cases_Bool (is_overlong (built_bits profile built))) [
        | inl long ↦ rw long tt
        | inr short ↦ let is : IsShort built = record { fits = fits; short = short } in rw short is
      ]

  short_game : (frames : FramesState) (built : Built) → slot.sending.number + 1 < sequence_end → Short (emit_game profile slot map frames built)
  short_game frames built fits =
      elim (cases_Bool (is_overlong (built_bits profile built))) [
        | inl long ↦ rw long tt
        | inr short ↦ let is : IsShort built = record { fits = fits; short = short } in rw short is
      ]

  short_new : (frames : FramesState) (c : ℕ) → Short (emit_new profile map frames c slot)
  short_new frames c =
      elim (cases_Bool (nat_le sequence_end (slot.sending.number + 1))) [
        | inl ended ↦ rw ended tt
        | inr goes ↦ elim (cases_Bool (nat_lt most_placed frames.placed)) [
          | inl full ↦ rw (goes, full) tt
          | inr room ↦ elim (cases_Bool (is_unclear profile slot.executed.executed)) [
            | inl hidden ↦ rw (goes, room, hidden) tt
            | inr clear ↦
                let fits = leb-false sequence_end (slot.sending.number + 1) goes in
                rw (goes, room, clear) (cond_both slot.owed (emit_game profile slot map frames (next_game_built profile map c slot))
                (emit_built profile slot map (next_frames map frames c slot) (begun_next profile map frames c slot)) Short
                (λ owed. short_game frames (next_game_built profile map c slot) fits)
                (λ none. short_built (next_frames map frames c slot) (begun_next profile map frames c slot) fits))
          ]
        ]
      ]

  short_slot : (frames : FramesState) (c : ℕ) (left : Option UnderWay) → Short (emit_slot profile map frames c slot left)
  short_slot frames c None = short_new frames c
  short_slot frames c (Some left) = tt

  -- so it may be sent, if it is one that a server builds
  built_may : Scrambling → (began : Option Built) → IfSome began IsShort → IfSome began (IsBuilt profile slot.challenge (slot.sending.number + 1))
      → IfSome began (λ built. MayBeSent (slot.sending.number + 1) (built_bytes profile built))
  built_may laws None short is = tt
  built_may laws (Some built) short is = record {
    fits = short.fits;
    sendable = of_built laws profile slot.challenge (slot.sending.number + 1) built is (ltb-false _ _ short.short);
  }

server_may : Scrambling → (server : ServerState) (c : ℕ) → BeginsBuilt server c
    → IfSome (slot_at server c) (λ slot. IfSome (emit_at server c).began (λ built. MayBeSent (slot.sending.number + 1) (built_bytes server.profile built)))
unfolding emit_at
server_may laws server c began = of_slot (slot_at server c) began
  where
    of_slot : (found : Option SlotState) → IfSome found (λ slot. IfSome (emit_from server c found).began (IsBuilt server.profile slot.challenge (slot.sending.number + 1)))
        → IfSome found (λ slot. IfSome (emit_from server c found).began (λ built. MayBeSent (slot.sending.number + 1) (built_bytes server.profile built)))
    of_slot None began = tt
    of_slot (Some slot) began =
        built_may server.profile server.map slot laws (emit_from server c (Some slot)).began (short_slot server.profile server.map slot server.frames c slot.sending.under_way) began

-- ---- and so is a client's

record IsShortSaid (client : ClientState) (said : Said) : Type 0 where
  fits : client.sending.number + 1 < sequence_end
  short : nat_lt longest_message (message_length (length (said_bits client.state.profile said))) ≡ false

abbrev ShortSaid : ClientState → Emission → Type 0
ShortSaid client emission = IfSome emission.began (IsShortSaid client)

said_new : (client : ClientState) → ShortSaid client (says.emit_new client)
said_new client =
    let next = next_said client in
    let bits = said_bits client.state.profile next in
    elim (cases_Bool (nat_le sequence_end (client.sending.number + 1))) [
      | inl ended ↦ rw ended tt
      | inr goes ↦ elim (cases_Bool (says.is_unclear client.state.profile (next_message client))) [
        | inl hidden ↦ rw (goes, hidden) tt
        | inr clear ↦ elim (cases_Bool (nat_lt longest_message (message_length (length bits)))) [
          | inl long ↦ rw (goes, clear, long) tt
          | inr short ↦
              let is : IsShortSaid client next = record { fits = leb-false sequence_end (client.sending.number + 1) goes; short = short } in
              rw (goes, clear, short) is
        ]
      ]
    ]

said_left : (client : ClientState) (left : Option UnderWay) → ShortSaid client (says.emit_left client left)
said_left client None = said_new client
said_left client (Some left) = tt

said_unless : (client : ClientState) (cause : Option Illegible) → ShortSaid client (says.emit_unless client cause)
said_unless client None = said_left client client.sending.under_way
said_unless client (Some cause) = tt

said_may : Scrambling → (client : ClientState) (began : Option Said) → IfSome began (IsShortSaid client) → IfSome began (IsSaid client.state.profile client.challenge)
    → IfSome began (λ said. MayBeSent (client.sending.number + 1) (said_bytes client.state.profile said))
said_may laws client None short is = tt
said_may laws client (Some said) short is = record { fits = short.fits; sendable = of_said laws client.state.profile client.challenge said is (ltb-false _ _ short.short) }

client_may : Scrambling → (client : ClientState) → IfSome (says.emit_at client).began (IsSaid client.state.profile client.challenge)
    → IfSome (says.emit_at client).began (λ said. MayBeSent (client.sending.number + 1) (said_bytes client.state.profile said))
unfolding says.emit_at
client_may laws client began = said_may laws client (says.emit_unless client client.dropped).began (said_unless client client.dropped) began

pub begun_may_be_sent : MessageIsBytes → SideFrontStays → SideBytesStay → BegunMayBeSent
begun_may_be_sent bits front bytes =
    let laws : Scrambling = record { bits = bits; front = front; bytes = bytes } in
    record { of_built = of_built laws; of_said = of_said laws; built = server_may laws; said = client_may laws }
