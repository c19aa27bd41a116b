-- The commands of one end on their way to the other: what was issued and executed, and what the messages of both ends say of it.
use Rattle.std.specs.Prelude.{◌≡◌, ℕ, zero, suc, ◌+◌, ◌-◌, ◌<◌, ◌≤◌, List, [], ◌∷◌, ◌++◌, length, map, take, slice_index_or, All, Ok, None}
use Rattle.q3_text.specs.declared.text.Command.{Command}
use Rattle.q3_text.specs.Commands.{numbered}
use Rattle.q3_window.specs.Outgoing.{OutgoingState, new_outgoing, issued_of, with_texts, text_at, acknowledge_at, carried as carried_by}
use Rattle.q3_window.specs.Incoming.{IncomingState, new_incoming, fresh_of, gap_in, executes}
use Rattle.q3_window.specs.Issued.{issued_text, OutgoingStandsFor, carried_of}
use Rattle.q3_window.specs.Executed.{IncomingStandsFor}

-- where no command was executed
abbrev pub no_command : Command
no_command = record { number = 0; text = [] }

-- the command that a message acknowledges: the last one that its end executed, with its text
abbrev pub acknowledgement_of : IncomingState → Command
acknowledgement_of window = record { number = window.executed; text = window.last }

-- the number that the message under a number acknowledges, 0 before the first
abbrev pub acknowledged_by : List Command → ℕ → ℕ
acknowledged_by acks zero = 0
acknowledged_by acks (suc k) = (slice_index_or acks k no_command).number

-- what a message carries: the number of the last command that its end had issued when it was begun, and the commands
pub record Carriage : Type 0 where
  pub last : ℕ
  pub commands : List Command

-- nothing
abbrev pub no_carriage : Carriage
no_carriage = record { last = 0; commands = [] }

-- what the next message of an end carries
abbrev pub carriage_of : OutgoingState → Carriage
carriage_of window = record { last = issued_of window; commands = carried_by window }

-- the last command that its end had issued when the message under a number was begun, 0 before the first
abbrev pub last_carried : List Carriage → ℕ → ℕ
last_carried carried zero = 0
last_carried carried (suc k) = (slice_index_or carried k no_carriage).last

-- a message carries all that was issued above a number that was executed, up to the last one issued when it was begun
pub record IsCarried (issued : List (List ℕ)) (executed : ℕ) (carriage : Carriage) : Type 0 where
  pub above : ℕ
  pub known : above ≤ executed
  pub within : carriage.last ≤ length issued
  pub are : carriage.commands ≡ carried_of issued above carriage.last

-- later messages carry no less
abbrev pub LastsRise : List Carriage → Type 0
LastsRise carried = (j k : ℕ) → j ≤ k → k ≤ length carried → last_carried carried j ≤ last_carried carried k

-- a message acknowledges a command that was executed, with its text
pub record IsAcknowledged (issued : List (List ℕ)) (executed : ℕ) (ack : Command) : Type 0 where
  pub known : ack.number ≤ executed
  pub text : ack.text ≡ issued_text issued ack.number

-- later messages acknowledge no less
abbrev pub AcksRise : List Command → Type 0
AcksRise acks = (j k : ℕ) → j ≤ k → k ≤ length acks → acknowledged_by acks j ≤ acknowledged_by acks k

-- one end's window stands for all that it issued, the other's for all that it executed, which is a front of that; so are the
-- commands that each message of the one carries, and what each message of the other acknowledges, up to the newest that the one
-- took: that is what its window counts as acknowledged. Each message above the newest that the other took carries, or had before it,
-- all that was executed
pub record Flow (outgoing : OutgoingState) (incoming : IncomingState) (issued executed : List (List ℕ)) (carried : List Carriage) (acks : List Command) (taken came : ℕ) : Type 0 where
  pub stands : OutgoingStandsFor outgoing issued
  pub runs : IncomingStandsFor incoming executed
  pub few : length executed ≤ length issued
  pub front : executed ≡ take (length executed) issued
  pub each : All (IsCarried issued (length executed)) carried
  pub lasts : LastsRise carried
  pub ahead : (n : ℕ) → came < n → n ≤ length carried → length executed ≤ last_carried carried n
  pub known : All (IsAcknowledged issued (length executed)) acks
  pub rise : AcksRise acks
  pub within : taken ≤ length acks
  pub newest : outgoing.acknowledged ≡ acknowledged_by acks taken

-- what becomes of it
pub record FlowLaws : Type 0 where
  -- at first nothing was issued, and no message was begun
  pub opens : Flow new_outgoing new_incoming [] [] [] [] 0 0
  -- commands are issued, one after the other
  pub issues : (outgoing : OutgoingState) (incoming : IncomingState) (issued executed : List (List ℕ)) (carried : List Carriage) (acks : List Command) (taken came : ℕ) (texts : List (List ℕ))
      → Flow outgoing incoming issued executed carried acks taken came
      → Flow (with_texts outgoing texts) incoming (issued ++ texts) executed carried acks taken came × (issued_of outgoing ≡ length issued)
  -- its end begins a message, which carries all that isn't acknowledged
  pub carries : (outgoing : OutgoingState) (incoming : IncomingState) (issued executed : List (List ℕ)) (carried : List Carriage) (acks : List Command) (taken came : ℕ)
      → Flow outgoing incoming issued executed carried acks taken came
      → Flow outgoing incoming issued executed (carried ++ carriage_of outgoing ∷ []) acks taken came
  -- the other end begins one, which acknowledges the last command that it executed
  pub acknowledges : (outgoing : OutgoingState) (incoming : IncomingState) (issued executed : List (List ℕ)) (carried : List Carriage) (acks : List Command) (taken came : ℕ)
      → Flow outgoing incoming issued executed carried acks taken came
      → Flow outgoing incoming issued executed carried (acks ++ acknowledgement_of incoming ∷ []) taken came
  -- the other end takes a newer message and runs nothing of it
  pub passes : (outgoing : OutgoingState) (incoming : IncomingState) (issued executed : List (List ℕ)) (carried : List Carriage) (acks : List Command) (taken came number : ℕ)
      → came ≤ number → Flow outgoing incoming issued executed carried acks taken came
      → Flow outgoing incoming issued executed carried acks taken number
  -- it takes a newer message and executes its commands: no gap is left, what it executes goes on where it stood, and then all that was
  -- issued when the message was begun is executed, and no more
  pub executes_next : (outgoing : OutgoingState) (incoming : IncomingState) (issued executed : List (List ℕ)) (carried : List Carriage) (acks : List Command) (taken came k : ℕ)
      → came ≤ k → k < length carried → Flow outgoing incoming issued executed carried acks taken came
      → (gap_in incoming.executed (slice_index_or carried k no_carriage).commands ≡ None)
      × (fresh_of incoming.executed (slice_index_or carried k no_carriage).commands
      ≡ numbered (length executed + 1) (map (λ (c : Command). c.text) (fresh_of incoming.executed (slice_index_or carried k no_carriage).commands)))
      × ((executes incoming (slice_index_or carried k no_carriage).commands).executed ≡ (slice_index_or carried k no_carriage).last)
      × Flow outgoing (executes incoming (slice_index_or carried k no_carriage).commands) issued
      (executed ++ map (λ (c : Command). c.text) (fresh_of incoming.executed (slice_index_or carried k no_carriage).commands)) carried acks taken (k + 1)
  -- the one takes a newer message of the other: its window takes the acknowledgement, and has the text that came with it
  pub hears : (outgoing : OutgoingState) (incoming : IncomingState) (issued executed : List (List ℕ)) (carried : List Carriage) (acks : List Command) (taken came number : ℕ)
      → taken < number → number ≤ length acks → Flow outgoing incoming issued executed carried acks taken came
      → ((acknowledge_at outgoing (acknowledged_by acks number)).answer ≡ Ok tt)
      × (text_at outgoing (acknowledged_by acks number) ≡ (slice_index_or acks (number - 1) no_command).text)
      × Flow (acknowledge_at outgoing (acknowledged_by acks number)).window incoming issued executed carried acks number came
