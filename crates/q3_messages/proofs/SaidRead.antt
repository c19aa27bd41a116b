-- What a client said is read back by the server.
use Rattle.std.proofs.Common.{◌≡◌, ◌*◌, ◌-◌, ◌^◌, ◌<◌, Bool, false, List, [], ◌∷◌, ◌++◌, length, drop, replicate, Result, Ok, refl, sym, ap, subst, ◌∙◌, inl, inr, append_assoc, ℕ}
use Rattle.std.proofs.lemmas.Bool.{cases_Bool}
use Rattle.q3_bits.specs.Bits.{bits_of, message_bytes, message_length}
use Rattle.q3_bits.specs.ResultBind.{◌>>=◌, fault_as}
use Rattle.q3_bits.specs.Words.{IsCode, row_bits}
use Rattle.q3_bits.specs.Laws.{PutIsRead, MessageHoldsBits}
use Rattle.q3_bits.specs.declared.reader.ReadError.{ReadError}
use Rattle.q3_strings.specs.Commands.{commands_bits}
use Rattle.q3_strings.proofs.FieldRows.{row-first, row-last}
use Rattle.q3_window.specs.declared.outgoing.BadAck.{BadAck}
use Rattle.q3_window.specs.Outgoing.{acknowledge_at, text_at}
use Rattle.q3_chan.specs.declared.side.Side.TheVariants.{Client}
use Rattle.q3_chan.specs.Keys.{Key, client_scrambled, client_start}
use Rattle.q3_chan.specs.Laws.{SideTwiceIsNone, SideFrontStays}
use Rattle.q3_profile.specs.declared.profile.Profile.{Profile}
use Rattle.q3_clmsg.specs.declared.error.ClientIllegible.{ClientIllegible}
use Rattle.q3_clmsg.specs.declared.heads.Heads.{Heads}
use Rattle.q3_clmsg.specs.Moves.{message_key}
use Rattle.q3_clmsg.specs.Values.{Message}
use Rattle.q3_clmsg.specs.Texts.{move_section_bits, client_message_bits}
use Rattle.q3_clmsg.specs.declared.error.ClientIllegible.TheVariants.{Bits}
use Rattle.q3_clmsg.specs.Reading.{heads_at, heads_in, client_message_in}
use Rattle.q3_clmsg.specs.Laws.{WrittenIsRead}
use Rattle.q3_slot.specs.Slot.{SlotState}
use Rattle.q3_map.specs.Map.{MapState, is_other}
use Rattle.q3_slot.specs.Taking.{Came, came_as, ack_taken, cleared, with_heads, said_under, of_map, came_under, said_by}
use Rattle.q3_client.specs.Sending.{said_bits, said_bytes}
use Rattle.q3_messages.specs.MessageLaws.{SaidIsRead}
use Rattle.q3_messages.proofs.BitFronts.{stays_in_sight}
use Rattle.q3_messages.proofs.MessageKeys.{message_key_fits}

-- ---- the leading longs

abbrev longs : List (List Bool) → Message → List Bool
longs words message = row_bits words ((message.id, 32) ∷ (message.acknowledged, 32) ∷ (message.command, 32) ∷ [])

-- a message's text begins with them, also with what follows it
begins_with_longs : (words : List (List Bool)) (key : ℕ) (message : Message) (rest : List Bool)
    → (left : List Bool) × (client_message_bits words key message ++ rest ≡ longs words message ++ left)
unfolding client_message_bits
begins_with_longs words key message rest =
    ((commands_bits words 4 message.commands ++ move_section_bits words key message.delta message.moves ++ row_bits words ((5, 8) ∷ [])) ++ rest, simp append_assoc)

-- they are read, whatever follows them
longs_are_read : PutIsRead → (words : List (List Bool)) → IsCode words → (id acknowledged command : ℕ) (rest : List Bool) → id < 2 ^ 32 → acknowledged < 2 ^ 32 → command < 2 ^ 32
    → (bits : ℕ) × (heads_in words (row_bits words ((id, 32) ∷ (acknowledged, 32) ∷ (command, 32) ∷ []) ++ rest)
    ≡ Ok (record { id = id; acknowledged = acknowledged; command = command; bits = bits }))
unfolding heads_at
longs_are_read put words code id acknowledged command rest fits fits' fits'' = (
  length (row_bits words ((id, 32) ∷ (acknowledged, 32) ∷ (command, 32) ∷ []) ++ rest) - length rest,
  rw (
    row-first words code put id 32 ((acknowledged, 32) ∷ (command, 32) ∷ []) rest fits,
    row-first words code put acknowledged 32 ((command, 32) ∷ []) rest fits',
    row-last words code put command 32 rest fits'',
  ) refl,
)

-- ---- a message that was begun

-- what came, after what is read of the leading longs, after the acknowledgement, and by a text
abbrev by_heads : Profile → MapState → SlotState → List ℕ → Result Heads ReadError → Result Came ClientIllegible
by_heads profile map slot bytes found = fault_as Bits found >>= λ heads.
    ack_taken heads.command (acknowledge_at slot.issued heads.command).answer >>= λ taken.
    came_under profile map slot.challenge heads (text_at slot.issued heads.command) bytes

abbrev by_ack : Profile → MapState → SlotState → List ℕ → Heads → Result (Unit {0}) BadAck → Result Came ClientIllegible
by_ack profile map slot bytes heads answer = ack_taken heads.command answer >>= λ taken.
    came_under profile map slot.challenge heads (text_at slot.issued heads.command) bytes

-- with these heads, it came as what it is by its text
came_by : (profile : Profile) (map : MapState) (slot : SlotState) (bytes text : List ℕ) (heads : Heads) (came : Came) → heads_in profile.code (bits_of bytes) ≡ Ok heads
    → (acknowledge_at slot.issued heads.command).answer ≡ Ok tt → text_at slot.issued heads.command ≡ text
    → came_under profile map slot.challenge heads text bytes ≡ Ok came → said_by profile map slot bytes ≡ Ok came
came_by profile map slot bytes text heads came found taken known is =
    ap (by_heads profile map slot bytes) found
    ∙ (ap (by_ack profile map slot bytes heads) taken
    ∙ (ap (λ (t : List ℕ). came_under profile map slot.challenge heads t bytes) known ∙ is))

-- the leading longs of a message, which took so many bits
abbrev heads_with : Message → ℕ → Heads
heads_with message bits = record { id = message.id; acknowledged = message.acknowledged; command = message.command; bits = bits }

-- of another map no more is read; one of the map is read by its feed
came_is : (profile : Profile) (map : MapState) (challenge bits : ℕ) (text bytes : List ℕ) (message : Message)
    → (is_other map message.id ≡ false → said_under profile map.feed challenge (heads_with message bits) text bytes ≡ Ok message)
    → came_under profile map challenge (heads_with message bits) text bytes ≡ Ok (came_as map message)
came_is profile map challenge bits text bytes message is =
    elim (cases_Bool (is_other map message.id)) [
      | inl other ↦ rw other refl
      | inr own ↦ rw own (ap (λ (r : Result Message ClientIllegible). of_map r) (is own))
    ]

-- what is read of the bits that a message has once it is cleared
abbrev by_bits : List (List Bool) → ℕ → Heads → List Bool → Result Message ClientIllegible
by_bits words key heads bits = client_message_in words key bits >>= λ message. Ok (with_heads heads message)

abbrev by_rest : Heads → Result (Message × List Bool) ClientIllegible → Result Message ClientIllegible
by_rest heads read = (read >>= λ one. Ok one.0) >>= λ message. Ok (with_heads heads message)

pub said_is_read : PutIsRead → MessageHoldsBits → SideTwiceIsNone → SideFrontStays → WrittenIsRead → SaidIsRead
said_is_read put holds twice front written profile codec map slot said is taken known feeds =
    let words = profile.code in
    let message = said.message in
    let key = message_key said.feed message.acknowledged said.key.text in
    let text = said_bits profile said in
    let plain = message_bytes text in
    let bytes = said_bytes profile said in
    let rest = replicate (8 * message_length (length text) - length text) false in
    let row = longs words message in
    let begins = begins_with_longs words key message rest in
    let left = stays_in_sight front profile.protocol Client said.key (client_start slot.challenge message.id message.acknowledged) row begins.0 plain is.clear (ap (λ (k : Key). k.start) is.key) (holds text ∙ begins.1) in
    let found = longs_are_read put words codec.code message.id message.acknowledged message.command (drop (length row) (bits_of bytes)) is.message.id is.message.acknowledged is.message.command in
    let heads = heads_with message found.0 in
    let clear : cleared profile.protocol slot.challenge heads said.key.text bytes ≡ plain =
    ap (λ (key : Key). client_scrambled key bytes) (sym is.key) ∙ twice Client said.key plain in
    let fits = message_key_fits said.feed message.acknowledged said.key.text is.feed is.message.acknowledged is.text in
    let by_feed : said_under profile said.feed slot.challenge heads said.key.text bytes ≡ Ok message =
    ap (λ (l : List ℕ). by_bits words key heads (bits_of l)) clear
    ∙ (ap (by_bits words key heads) (holds text)
    ∙ ap (by_rest heads) (written words key message rest codec.code fits is.message)) in
    came_by profile map slot bytes said.key.text heads (came_as map message) (ap (heads_in words) left ∙ found.1) taken known
    (came_is profile map slot.challenge found.0 said.key.text bytes message
    (λ own. subst (λ (feed : ℕ). said_under profile feed slot.challenge heads said.key.text bytes ≡ Ok message) (feeds own) by_feed))
