-- Commands on their way between both ends of a client, and what the messages of both ends tell of them.
use Rattle.std.proofs.Common.{◌≡◌, ℕ, zero, suc, ◌+◌, ◌-◌, ◌^◌, ◌<◌, ◌≤◌, List, [], ◌∷◌, ◌++◌, length, get_or, Ok, None, sym, ap, subst, ◌∙◌, inl, inr, arith}
use Rattle.std.specs.Prelude.{All}
use Rattle.std.proofs.lemmas.List.{length-map, map_push, get_or-map, get_or_past, length-drop}
use Rattle.std.proofs.lemmas.List.Elements.{All-nil, All-take, All-get_or}
use Rattle.std.proofs.lemmas.Bool.{cases_lt}
use Rattle.q3_text.specs.declared.text.Command.{Command}
use Rattle.q3_text.specs.Commands.{numbered}
use Rattle.q3_text.specs.Texts.{IsText, IsTextByte}
use Rattle.q3_window.specs.Outgoing.{OutgoingState, IsOutgoing, acknowledge_at, text_at}
use Rattle.q3_window.specs.Incoming.{IncomingState, fresh_of, gap_in, executes}
use Rattle.q3_window.specs.Issued.{issued_text, OutgoingStandsFor}
use Rattle.q3_window.specs.Flow.{no_command, acknowledgement_of, acknowledged_by, Carriage, no_carriage, carriage_of, Flow, FlowLaws}
use Rattle.q3_built.specs.Built.{Built}
use Rattle.q3_slot.specs.Slot.{SlotState}
use Rattle.q3_client.specs.Client.{ClientState}
use Rattle.q3_client.specs.Sending.{Said}
use Rattle.q3_world.specs.World.{History, no_message, no_said, built_at, said_at, texts_of}
use Rattle.q3_world.specs.StandsFor.{carried_built, acks_built, carried_said, acks_said, AreCommanded}

-- ---- what a message may tell

no_text : IsText []
no_text = record { short = omega arith; each = All-nil IsTextByte }

-- the text of a number among texts is one
text_is : (texts : List (List ℕ)) (number : ℕ) → All IsText texts → IsText (issued_text texts number)
text_is texts zero are = no_text
text_is texts (suc k) are =
    elim (cases_lt k (length texts)) [
      | inl within ↦ All-get_or IsText texts k [] within are
      | inr past ↦ subst IsText (sym (get_or_past texts k [] past)) no_text
    ]

-- a window's last number is the count of all that were issued
last_is_count : (window : OutgoingState) (issued : List (List ℕ)) → OutgoingStandsFor window issued → window.acknowledged + length window.waiting ≡ length issued
last_is_count window issued stands =
    let within = stands.within in
    let waiting = ap (λ (texts : List (List ℕ)). length texts) stands.waiting in
    omega (arith, within, waiting, length-drop window.acknowledged issued)

-- the command that was executed last is one that a message can name
pub record MayName (window : IncomingState) : Type 0 where
  pub number : window.executed < 2 ^ 32
  pub text : IsText window.last

pub may_name : (outgoing : OutgoingState) (incoming : IncomingState) (issued executed : List (List ℕ)) (carries : List Carriage) (acks : List Command) (taken came : ℕ)
    → IsOutgoing outgoing → All IsText issued → Flow outgoing incoming issued executed carries acks taken came → MayName incoming
may_name outgoing incoming issued executed carries acks taken came is texts flow =
    let numbers : outgoing.acknowledged + length outgoing.waiting ≤ 2 ^ 31 - 1 = is.numbers in
    let count = last_is_count outgoing issued flow.stands in
    let number = flow.runs.executed in
    let few = flow.few in
    let are : All IsText executed = subst (λ (all : List (List ℕ)). All IsText all) (sym flow.front) (All-take IsText (length executed) issued texts) in
    record {
      number = omega (arith, numbers, count, number, few);
      text = subst IsText (sym flow.runs.last) (text_is executed (length executed) are);
    }

-- ---- a message more

-- what a message acknowledges
abbrev pub ack_built : Built → Command
ack_built b = record { number = b.message.ack; text = b.key.text }

abbrev pub ack_said : Said → Command
ack_said s = record { number = s.message.command; text = s.key.text }

abbrev pub carriage_built : Built → Carriage
carriage_built b = record { last = b.last; commands = b.message.commands }

abbrev pub carriage_said : Said → Carriage
carriage_said s = record { last = s.last; commands = s.message.commands }

-- the server began one, which carries what waits and acknowledges what was executed last
pub AreCommanded-built : FlowLaws → (slot : SlotState) (client : ClientState) (history : History) (next : Built) → carriage_built next ≡ carriage_of slot.issued
    → ack_built next ≡ acknowledgement_of slot.executed → AreCommanded slot client history → AreCommanded slot client (record history { built = history.built ++ next ∷ [] })
AreCommanded-built laws slot client history next commands ack are =
    let h = history in
    let carries : carried_built (h.built ++ next ∷ []) ≡ carried_built h.built ++ carriage_of slot.issued ∷ [] =
    map_push carriage_built h.built next ∙ ap (λ (c : Carriage). carried_built h.built ++ c ∷ []) commands in
    let acks : acks_built (h.built ++ next ∷ []) ≡ acks_built h.built ++ acknowledgement_of slot.executed ∷ [] =
    map_push ack_built h.built next ∙ ap (λ (c : Command). acks_built h.built ++ c ∷ []) ack in
    record {
      to_client = subst (λ (all : List Carriage). Flow slot.issued client.state.executed h.server_commands h.client_executed all (acks_said h.said) slot.gathering.taken client.gathering.taken) (sym carries)
          (laws.carries slot.issued client.state.executed h.server_commands h.client_executed (carried_built h.built) (acks_said h.said) slot.gathering.taken client.gathering.taken are.to_client);
      to_server = subst (λ (all : List Command). Flow client.issued slot.executed h.client_commands h.server_executed (carried_said h.said) all client.gathering.taken slot.gathering.taken) (sym acks)
          (laws.acknowledges client.issued slot.executed h.client_commands h.server_executed (carried_said h.said) (acks_built h.built) client.gathering.taken slot.gathering.taken are.to_server);
    }

-- and so did the client
pub AreCommanded-said : FlowLaws → (slot : SlotState) (client : ClientState) (history : History) (next : Said) → carriage_said next ≡ carriage_of client.issued
    → ack_said next ≡ acknowledgement_of client.state.executed → AreCommanded slot client history → AreCommanded slot client (record history { said = history.said ++ next ∷ [] })
AreCommanded-said laws slot client history next commands ack are =
    let h = history in
    let carries : carried_said (h.said ++ next ∷ []) ≡ carried_said h.said ++ carriage_of client.issued ∷ [] =
    map_push carriage_said h.said next ∙ ap (λ (c : Carriage). carried_said h.said ++ c ∷ []) commands in
    let acks : acks_said (h.said ++ next ∷ []) ≡ acks_said h.said ++ acknowledgement_of client.state.executed ∷ [] =
    map_push ack_said h.said next ∙ ap (λ (c : Command). acks_said h.said ++ c ∷ []) ack in
    record {
      to_client = subst (λ (all : List Command). Flow slot.issued client.state.executed h.server_commands h.client_executed (carried_built h.built) all slot.gathering.taken client.gathering.taken) (sym acks)
          (laws.acknowledges slot.issued client.state.executed h.server_commands h.client_executed (carried_built h.built) (acks_said h.said) slot.gathering.taken client.gathering.taken are.to_client);
      to_server = subst (λ (all : List Carriage). Flow client.issued slot.executed h.client_commands h.server_executed all (acks_built h.built) client.gathering.taken slot.gathering.taken) (sym carries)
          (laws.carries client.issued slot.executed h.client_commands h.server_executed (carried_said h.said) (acks_built h.built) client.gathering.taken slot.gathering.taken are.to_server);
    }

-- ---- a message is taken

-- what the message under a number acknowledges
ack_under : (acks : List Command) (number : ℕ) → 1 ≤ number → acknowledged_by acks number ≡ (get_or acks (number - 1) no_command).number
ack_under acks zero some = absurd (omega (arith, some))
ack_under acks (suc k) some = let place : k ≡ suc k - 1 = omega arith in ap (λ (j : ℕ). (get_or acks j no_command).number) place

-- a window takes what a newer message acknowledges, and has the text that came with it
record HearsAck (outgoing : OutgoingState) (incoming : IncomingState) (issued executed : List (List ℕ)) (carries : List Carriage) (acks : List Command) (number came : ℕ) (ack : Command) : Type 0 where
  takes : (acknowledge_at outgoing ack.number).answer ≡ Ok tt
  text : text_at outgoing ack.number ≡ ack.text
  flow : Flow (acknowledge_at outgoing ack.number).window incoming issued executed carries acks number came

hears_ack : FlowLaws → (outgoing : OutgoingState) (incoming : IncomingState) (issued executed : List (List ℕ)) (carries : List Carriage) (acks : List Command) (taken came number : ℕ) (ack : Command)
    → taken < number → number ≤ length acks → get_or acks (number - 1) no_command ≡ ack → Flow outgoing incoming issued executed carries acks taken came
    → HearsAck outgoing incoming issued executed carries acks number came ack
hears_ack laws outgoing incoming issued executed carries acks taken came number ack newer within is flow =
    let heard = laws.hears outgoing incoming issued executed carries acks taken came number newer within flow in
    let named : acknowledged_by acks number ≡ ack.number = ack_under acks number (omega (arith, newer)) ∙ ap (λ (c : Command). c.number) is in
    record {
      takes = subst (λ (k : ℕ). (acknowledge_at outgoing k).answer ≡ Ok tt) named heard.0;
      text = ap (λ (k : ℕ). text_at outgoing k) (sym named) ∙ (heard.1 ∙ ap (λ (c : Command). c.text) is);
      flow = subst (λ (k : ℕ). Flow (acknowledge_at outgoing k).window incoming issued executed carries acks number came) named heard.2;
    }

-- what a newer message of the other end carries is executed without a gap, goes on where its end stood, and ends with the last command
-- that was issued when the message was begun
record ExecutesNext (outgoing : OutgoingState) (incoming : IncomingState) (issued executed : List (List ℕ)) (carries : List Carriage) (acks : List Command) (taken n : ℕ) (carriage : Carriage) : Type 0 where
  gap : gap_in incoming.executed carriage.commands ≡ None
  numbers : fresh_of incoming.executed carriage.commands ≡ numbered (length executed + 1) (texts_of (fresh_of incoming.executed carriage.commands))
  last : (executes incoming carriage.commands).executed ≡ carriage.last
  flow : Flow outgoing (executes incoming carriage.commands) issued (executed ++ texts_of (fresh_of incoming.executed carriage.commands)) carries acks taken n

executes_next : FlowLaws → (outgoing : OutgoingState) (incoming : IncomingState) (issued executed : List (List ℕ)) (carries : List Carriage) (acks : List Command) (taken came n : ℕ) (carriage : Carriage)
    → came < n → n ≤ length carries → get_or carries (n - 1) no_carriage ≡ carriage → Flow outgoing incoming issued executed carries acks taken came
    → ExecutesNext outgoing incoming issued executed carries acks taken n carriage
executes_next laws outgoing incoming issued executed carries acks taken came n carriage newer within is flow =
    let next = laws.executes_next outgoing incoming issued executed carries acks taken came (n - 1) (omega (arith, newer)) (omega (arith, newer, within)) flow in
    let place : n - 1 + 1 ≡ n = omega (arith, newer) in
    subst (λ (k : ℕ). ExecutesNext outgoing incoming issued executed carries acks taken k carriage) place
    (subst (λ (c : Carriage). ExecutesNext outgoing incoming issued executed carries acks taken (n - 1 + 1) c) is
    (record { gap = next.0; numbers = next.1; last = next.2; flow = next.3 }))

-- a client takes a newer message that was built
pub record ClientHears (slot : SlotState) (client : ClientState) (history : History) (n : ℕ) (built : Built) : Type 0 where
  pub takes : (acknowledge_at client.issued built.message.ack).answer ≡ Ok tt
  pub text : text_at client.issued built.message.ack ≡ built.key.text
  pub numbers : fresh_of client.state.executed.executed built.message.commands
      ≡ numbered (length history.client_executed + 1) (texts_of (fresh_of client.state.executed.executed built.message.commands))
  pub last : (executes client.state.executed built.message.commands).executed ≡ built.last
  pub to_client : Flow slot.issued (executes client.state.executed built.message.commands) history.server_commands
      (history.client_executed ++ texts_of (fresh_of client.state.executed.executed built.message.commands)) (carried_built history.built) (acks_said history.said) slot.gathering.taken n
  pub to_server : Flow (acknowledge_at client.issued built.message.ack).window slot.executed history.client_commands history.server_executed (carried_said history.said)
      (acks_built history.built) n slot.gathering.taken

pub client_hears : FlowLaws → (slot : SlotState) (client : ClientState) (history : History) (n : ℕ) → client.gathering.taken < n → n ≤ length history.built
    → AreCommanded slot client history → ClientHears slot client history n (built_at history.built n)
client_hears laws slot client history n newer within are =
    let h = history in
    let built = built_at h.built n in
    let place : n - 1 < length h.built = omega (arith, newer, within) in
    let ack : get_or (acks_built h.built) (n - 1) no_command ≡ ack_built built = get_or-map ack_built h.built (n - 1) no_message no_command place in
    let commands : get_or (carried_built h.built) (n - 1) no_carriage ≡ carriage_built built = get_or-map carriage_built h.built (n - 1) no_message no_carriage place in
    let hears = hears_ack laws client.issued slot.executed h.client_commands h.server_executed (carried_said h.said) (acks_built h.built) client.gathering.taken slot.gathering.taken n (ack_built built)
    newer (omega (arith, within, length-map h.built ack_built)) ack are.to_server in
    let next = executes_next laws slot.issued client.state.executed h.server_commands h.client_executed (carried_built h.built) (acks_said h.said) slot.gathering.taken client.gathering.taken n (carriage_built built)
    newer (omega (arith, within, length-map h.built carriage_built)) commands are.to_client in
    record { takes = hears.takes; text = hears.text; numbers = next.numbers; last = next.last; to_client = next.flow; to_server = hears.flow }

-- and a slot takes a newer one of its client, which it runs, or which is of another map
pub record SlotHears (slot : SlotState) (client : ClientState) (history : History) (n : ℕ) (said : Said) : Type 0 where
  pub takes : (acknowledge_at slot.issued said.message.command).answer ≡ Ok tt
  pub text : text_at slot.issued said.message.command ≡ said.key.text
  pub gap : gap_in slot.executed.executed said.message.commands ≡ None
  pub numbers : fresh_of slot.executed.executed said.message.commands
      ≡ numbered (length history.server_executed + 1) (texts_of (fresh_of slot.executed.executed said.message.commands))
  pub to_client : Flow (acknowledge_at slot.issued said.message.command).window client.state.executed history.server_commands history.client_executed (carried_built history.built)
      (acks_said history.said) n client.gathering.taken
  pub to_server : Flow client.issued (executes slot.executed said.message.commands) history.client_commands
      (history.server_executed ++ texts_of (fresh_of slot.executed.executed said.message.commands)) (carried_said history.said) (acks_built history.built) client.gathering.taken n
  pub passes : Flow client.issued slot.executed history.client_commands history.server_executed (carried_said history.said) (acks_built history.built) client.gathering.taken n

pub slot_hears : FlowLaws → (slot : SlotState) (client : ClientState) (history : History) (n : ℕ) → slot.gathering.taken < n → n ≤ length history.said
    → AreCommanded slot client history → SlotHears slot client history n (said_at history.said n)
slot_hears laws slot client history n newer within are =
    let h = history in
    let said = said_at h.said n in
    let place : n - 1 < length h.said = omega (arith, newer, within) in
    let ack : get_or (acks_said h.said) (n - 1) no_command ≡ ack_said said = get_or-map ack_said h.said (n - 1) no_said no_command place in
    let commands : get_or (carried_said h.said) (n - 1) no_carriage ≡ carriage_said said = get_or-map carriage_said h.said (n - 1) no_said no_carriage place in
    let hears = hears_ack laws slot.issued client.state.executed h.server_commands h.client_executed (carried_built h.built) (acks_said h.said) slot.gathering.taken client.gathering.taken n (ack_said said)
    newer (omega (arith, within, length-map h.said ack_said)) ack are.to_client in
    let next = executes_next laws client.issued slot.executed h.client_commands h.server_executed (carried_said h.said) (acks_built h.built) client.gathering.taken slot.gathering.taken n (carriage_said said)
    newer (omega (arith, within, length-map h.said carriage_said)) commands are.to_server in
    record {
      takes = hears.takes;
      text = hears.text;
      gap = next.gap;
      numbers = next.numbers;
      to_client = hears.flow;
      to_server = next.flow;
      passes = laws.passes client.issued slot.executed h.client_commands h.server_executed (carried_said h.said) (acks_built h.built) client.gathering.taken slot.gathering.taken n
          (omega (arith, newer)) are.to_server;
    }
