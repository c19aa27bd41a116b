-- A message that was built is read back from its bytes.
use Rattle.std.proofs.Common.{◌≡◌, ◌-◌, ◌*◌, ◌^◌, ◌<◌, Bool, false, List, [], ◌∷◌, ◌++◌, length, drop, replicate, Option, Result, Ok, refl, sym, ap, subst, ◌∙◌, inl, inr, append_assoc, ℕ}
use Rattle.std.specs.Prelude.{IfSome, option_map}
use Rattle.q3_bits.specs.Bits.{bits_of, message_bytes, message_length}
use Rattle.q3_bits.specs.ResultBind.{◌>>=◌, fault_as}
use Rattle.q3_bits.specs.declared.reader.ReadError.{ReadError}
use Rattle.q3_bits.specs.Words.{IsCode, row_bits}
use Rattle.q3_bits.specs.Laws.{PutIsRead, MessageHoldsBits}
use Rattle.q3_strings.specs.Commands.{commands_bits}
use Rattle.q3_strings.proofs.FieldRows.{row-last}
use Rattle.q3_window.specs.declared.outgoing.BadAck.{BadAck}
use Rattle.q3_window.specs.Outgoing.{acknowledge_at, text_at}
use Rattle.q3_chan.specs.declared.side.Side.TheVariants.{Server}
use Rattle.q3_chan.specs.Keys.{Key, server_key, server_scrambled, server_start}
use Rattle.q3_chan.specs.Laws.{SideTwiceIsNone, SideFrontStays}
use Rattle.q3_profile.specs.declared.profile.Profile.{Profile}
use Rattle.q3_profile.specs.Profile.{IsCodec}
use Rattle.q3_entity.specs.Baselines.{Baselines}
use Rattle.q3_svmsg.specs.declared.error.Illegible.{Illegible}
use Rattle.q3_svmsg.specs.Values.{Base, base_from, Message}
use Rattle.q3_svmsg.specs.Texts.{section_bits, server_message_bits}
use Rattle.q3_svmsg.specs.declared.error.Illegible.TheVariants.{Bits}
use Rattle.q3_svmsg.specs.Reading.{ack_at, server_message_at, server_message_in}
use Rattle.q3_svmsg.specs.Laws.{IsContext, WrittenIsRead, ReadIsSkipped}
use Rattle.q3_clstate.specs.State.{Application, context_of, received, apply_read, apply_at}
use Rattle.q3_clstate.specs.Laws.{AppliedIsContext}
use Rattle.q3_built.specs.Built.{Built, is_unclear, IsSnapshot, IsNear, IsBuilt, built_bits, built_bytes, plain_bytes}
use Rattle.q3_client.specs.Client.{ClientState, Reception, receive_message, receive_bytes, ack_taken, cleared}
use Rattle.q3_messages.specs.MessageLaws.{HoldsThis, BuiltIsRead}
use Rattle.q3_messages.proofs.BitFronts.{stays_in_sight}
use Rattle.q3_messages.proofs.Options.{if_some_then, three_some}
use Rattle.q3_messages.proofs.BuiltText.{value_of, read_so, text_is_received, text_alike, game_is_received}

-- the leading long of a message
abbrev long_of : Profile → Message → List Bool
long_of profile message = row_bits profile.code ((message.ack, 32) ∷ [])

-- a message's text begins with it, also with what follows it
begins_with_long : (profile : Profile) (baselines : Baselines) (against : Option Base) (message : Message) (rest : List Bool)
    → (left : List Bool) × (server_message_bits profile baselines against message ++ rest ≡ long_of profile message ++ left)
unfolding server_message_bits
begins_with_long profile baselines against message rest =
    ((commands_bits profile.code 5 message.commands ++ section_bits profile baselines against message.section ++ row_bits profile.code ((8, 8) ∷ [])) ++ rest, simp append_assoc)

-- it is read, whatever follows it
long_is_read : PutIsRead → (words : List (List Bool)) → IsCode words → (ack : ℕ) (rest : List Bool) → ack < 2 ^ 32
    → (bits : ℕ) × (ack_at words (row_bits words ((ack, 32) ∷ []) ++ rest) ≡ Ok (ack, bits))
long_is_read put words code ack rest fits = (
  length (row_bits words ((ack, 32) ∷ []) ++ rest) - length rest,
  rw (row-last words code put ack 32 rest fits) refl,
)

-- bytes cleared by the text of the command that they acknowledge
abbrev cleared_at : ClientState → ℕ → ℕ → List ℕ → List ℕ
cleared_at client n ack bytes = cleared client.state.profile.protocol client.challenge n (text_at client.issued ack) bytes

-- what is received after what is read of the leading long, after the acknowledgement, and after what is read of the rest
abbrev with_application : ClientState → ℕ → List ℕ → Result Application Illegible → Result Reception Illegible
with_application client ack plain applied =
    applied >>= λ application. Ok (record { message = plain; issued = (acknowledge_at client.issued ack).window; application = application })

abbrev by_long : ClientState → ℕ → List ℕ → Result (ℕ × ℕ) ReadError → Result Reception Illegible
by_long client n bytes found = fault_as Bits found >>= λ ack.
    ack_taken ack.0 (acknowledge_at client.issued ack.0).answer >>= λ taken.
    apply_at client.state n (cleared_at client n ack.0 bytes) >>= λ application.
    Ok (record { message = cleared_at client n ack.0 bytes; issued = (acknowledge_at client.issued ack.0).window; application = application })

abbrev by_ack : ClientState → ℕ → List ℕ → ℕ → Result (Unit {0}) BadAck → Result Reception Illegible
by_ack client n bytes ack answer = ack_taken ack answer >>= λ taken. with_application client ack (cleared_at client n ack bytes) (apply_at client.state n (cleared_at client n ack bytes))

abbrev by_read : ClientState → ℕ → ℕ → List ℕ → Result Message Illegible → Result Reception Illegible
by_read client n ack plain read = with_application client ack plain (read >>= λ one. Ok (apply_read client.state n one))

-- a message whose leading long is read is received as what is read of the rest
received_by : (client : ClientState) (n bits : ℕ) (bytes plain : List ℕ) (message : Message) → cleared_at client n message.ack bytes ≡ plain → ack_at client.state.profile.code (bits_of bytes) ≡ Ok (message.ack, bits)
    → (acknowledge_at client.issued message.ack).answer ≡ Ok tt
    → server_message_in client.state.profile (context_of client.state.held client.state.baselines) n (bits_of (cleared_at client n message.ack bytes))
    ≡ Ok (record message { section = received client.state.held message.section })
    → receive_bytes client n bytes ≡ Ok (receive_message client n message plain)
received_by client n bits bytes plain message clear found taken is =
    ap (by_long client n bytes) found
    ∙ (ap (by_ack client n bytes message.ack) taken
    ∙ (ap (by_read client n message.ack (cleared_at client n message.ack bytes)) is ∙ ap (λ (l : List ℕ). Ok (receive_message client n message l)) clear))

-- what is read of bytes by a profile
abbrev read_with : ClientState → ℕ → List ℕ → Profile → Result Message Illegible
read_with client n bytes profile = server_message_in profile (context_of client.state.held client.state.baselines) n (bits_of bytes)

-- ---- a message that was built

-- by what it is scrambled: its leading long stays in sight
record IsHeaded (profile : Profile) (challenge n : ℕ) (built : Built) : Type 0 where
  ack : built.message.ack < 2 ^ 32
  key : built.key ≡ server_key profile.protocol challenge n built.key.text
  clear : is_unclear profile built.message.ack ≡ false

is_headed : (profile : Profile) (challenge n : ℕ) (built : Built) → IsBuilt profile challenge n built → IsHeaded profile challenge n built
is_headed profile challenge n built is =
    let tells = is.tells in
    elim is.section [
      | inl one ↦ subst (IsHeaded profile challenge n) (sym one.is) (record { ack = tells.ack; key = tells.key; clear = tells.clear })
      | inr made ↦ subst (IsHeaded profile challenge n) (sym made.is) (record { ack = tells.ack; key = tells.key; clear = tells.clear })
    ]

-- its bits are read against all that a client has, whatever follows them
abbrev AreRead : Profile → ClientState → ℕ → Built → Type 0
AreRead profile client n built = (rest : List Bool)
    → server_message_at profile (context_of client.state.held client.state.baselines) n (built_bits profile built ++ rest) ≡ read_so client.state.held built.message rest

bits_are_read : WrittenIsRead → ReadIsSkipped → (profile : Profile) → IsCodec profile → (client : ClientState) (n : ℕ) (built : Built) → IsBuilt profile client.challenge n built
    → IsContext profile (context_of client.state.held client.state.baselines) → IfSome built.under (λ game. client.state.baselines ≡ built.baselines)
    → IfSome built.base (HoldsThis client.state.held) → AreRead profile client n built
bits_are_read law skips profile codec client n built is context same known =
    let held = client.state.held in
    let baselines = client.state.baselines in
    let telling = is.telling in
    let base = built.base in
    elim is.section [
      | inl one ↦
          let under = subst (λ (o : Option ℕ). IfSome o (λ game. baselines ≡ built.baselines)) (ap (λ (b : Built). b.under) one.is) same in
          let bases = three_some base (IsNear n) (IsSnapshot profile) (HoldsThis held)
          (if_some_then base (λ b. IsNear n b × IsSnapshot profile b) (IsNear n) (λ b two. two.0) one.base_is)
          (if_some_then base (λ b. IsNear n b × IsSnapshot profile b) (IsSnapshot profile) (λ b two. two.1) one.base_is) known in
          subst (AreRead profile client n) (sym one.is)
          (λ rest. ap (λ (bits : List Bool). server_message_at profile (context_of held baselines) n (bits ++ rest))
          (text_alike profile built.baselines baselines telling base one.snapshot telling.under under one.waits)
          ∙ text_is_received profile client.challenge law skips codec held baselines n telling base one.snapshot rest context is.tells one.are one.number bases)
      | inr made ↦
          subst (AreRead profile client n) (sym made.is)
          (λ rest. game_is_received profile client.challenge law codec held baselines built.baselines n telling made.game rest context is.tells made.are)
    ]

module _ (put : PutIsRead) (holds : MessageHoldsBits) (twice : SideTwiceIsNone) (front : SideFrontStays) where
  -- a message whose bits are read is received from its bytes
  bytes_are_received : (profile : Profile) → IsCodec profile → (client : ClientState) (n : ℕ) (built : Built) → IsHeaded profile client.challenge n built → client.state.profile ≡ profile
      → (acknowledge_at client.issued built.message.ack).answer ≡ Ok tt → text_at client.issued built.message.ack ≡ built.key.text → AreRead profile client n built
      → receive_bytes client n (built_bytes profile built) ≡ Ok (receive_message client n built.message (plain_bytes profile built))
  bytes_are_received profile codec client n built headed of_profile taken same are_read =
      let words = profile.code in
      let message = built.message in
      let bits = built_bits profile built in
      let plain = message_bytes bits in
      let bytes = built_bytes profile built in
      let rest = replicate (8 * message_length (length bits) - length bits) false in
      let row = long_of profile message in
      let begins = begins_with_long profile built.baselines (option_map base_from built.base) message rest in
      let left = stays_in_sight front profile.protocol Server built.key (server_start client.challenge n) row begins.0 plain headed.clear (ap (λ (k : Key). k.start) headed.key) (holds bits ∙ begins.1) in
      let found = long_is_read put words codec.code message.ack (drop (length row) (bits_of bytes)) headed.ack in
      let clear : cleared_at client n message.ack bytes ≡ plain =
      ap (λ (p : Profile). server_scrambled (server_key p.protocol client.challenge n (text_at client.issued message.ack)) bytes) of_profile
      ∙ (ap (λ (t : List ℕ). server_scrambled (server_key profile.protocol client.challenge n t) bytes) same
      ∙ (ap (λ (key : Key). server_scrambled key bytes) (sym headed.key) ∙ twice Server built.key plain)) in
      received_by client n found.0 bytes plain message clear (ap (λ (p : Profile). ack_at p.code (bits_of bytes)) of_profile ∙ (ap (ack_at words) left ∙ found.1)) taken
      (ap (read_with client n (cleared_at client n message.ack bytes)) of_profile
      ∙ (ap (λ (l : List ℕ). read_with client n l profile) clear
      ∙ (ap (server_message_in profile (context_of client.state.held client.state.baselines) n) (holds bits)
      ∙ ap value_of (are_read rest))))

  pub built_is_read : AppliedIsContext → WrittenIsRead → ReadIsSkipped → BuiltIsRead
  built_is_read contexts law skips profile codec client n built is of_profile applied under taken same known =
      let context = subst (λ (p : Profile). IsContext p (context_of client.state.held client.state.baselines)) of_profile (contexts client.state applied) in
      bytes_are_received profile codec client n built (is_headed profile client.challenge n built is) of_profile taken same
      (bits_are_read law skips profile codec client n built is context under known)
