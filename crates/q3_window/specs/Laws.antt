-- Laws of the windows.
use Rattle.std.specs.Prelude.{◌≡◌, ◌⊎◌, ℕ, ◌+◌, ◌≤◌, max, true, List, [], ◌∷◌, ◌++◌, length, take, drop, All, Ok, None}
use Rattle.q3_text.specs.declared.text.Command.{Command}
use Rattle.q3_text.specs.Commands.{numbered}
use Rattle.q3_text.specs.Texts.{IsText}
use Rattle.q3_window.specs.Outgoing.{OutgoingState, IsOutgoing, new_outgoing, issued_of, total_of, fits, issue_at, with_texts, acknowledge_at, text_at, carried}
use Rattle.q3_window.specs.Incoming.{IncomingState, new_incoming, fresh_of, gap_in, executes}
use Rattle.q3_window.specs.Issued.{issued_text, OutgoingStandsFor, carried_of}
use Rattle.q3_window.specs.Executed.{IncomingStandsFor, takes, takes_any, RiseAbove}

-- ---- of the commands that an end issues

-- where none was issued
abbrev pub NoneStands : Type 0
NoneStands = OutgoingStandsFor new_outgoing []

-- what is issued is one more of all that were issued, and its number is their count
abbrev pub IssuedIsAdded : Type 0
IssuedIsAdded = (window : OutgoingState) (issued : List (List ℕ)) (text : List ℕ) (number : ℕ) → OutgoingStandsFor window issued
    → (issue_at window text).answer ≡ Ok number
    → OutgoingStandsFor (issue_at window text).window (issued ++ text ∷ []) × (number ≡ length issued + 1)

-- an acknowledgement changes nothing of what was issued
abbrev pub AcknowledgedIsIssued : Type 0
AcknowledgedIsIssued = (window : OutgoingState) (issued : List (List ℕ)) (number : ℕ) → OutgoingStandsFor window issued
    → (acknowledge_at window number).answer ≡ Ok tt
    → OutgoingStandsFor (acknowledge_at window number).window issued × ((acknowledge_at window number).window.acknowledged ≡ number)

-- the last number issued is the count of all that were issued
abbrev pub LastIsCount : Type 0
LastIsCount = (window : OutgoingState) (issued : List (List ℕ)) → OutgoingStandsFor window issued → issued_of window ≡ length issued

-- a text that is kept is that of its number among all
abbrev pub KeptIsIssued : Type 0
KeptIsIssued = (window : OutgoingState) (issued : List (List ℕ)) (number : ℕ) → OutgoingStandsFor window issued
    → (number ≡ 0) ⊎ ((window.acknowledged ≤ number) × (number ≤ length issued)) → text_at window number ≡ issued_text issued number

-- what a message carries is what was issued above the last acknowledged one
abbrev pub CarriedIsIssued : Type 0
CarriedIsIssued = (window : OutgoingState) (issued : List (List ℕ)) → OutgoingStandsFor window issued
    → carried window ≡ carried_of issued window.acknowledged (length issued)

-- what every window is stays so where a command is issued, where several are that fit together, and where one is acknowledged
pub record StaysOutgoing : Type 0 where
  pub opens : IsOutgoing new_outgoing
  pub issues : (window : OutgoingState) (text : List ℕ) → IsOutgoing window → IsText text → IsOutgoing (issue_at window text).window
  pub tells : (window : OutgoingState) (texts : List (List ℕ)) → IsOutgoing window → fits window (length texts) (total_of texts) ≡ true → All IsText texts
      → IsOutgoing (with_texts window texts)
  pub acknowledges : (window : OutgoingState) (number : ℕ) → IsOutgoing window → IsOutgoing (acknowledge_at window number).window

-- ---- of the commands that the other end executes

-- where none was executed
abbrev pub NoneExecuted : Type 0
NoneExecuted = IncomingStandsFor new_incoming []

-- what was carried above a number that isn't above the executed one is executed without a gap, each command once and in order
abbrev pub CarriedAreExecuted : Type 0
CarriedAreExecuted = (issued : List (List ℕ)) (window : IncomingState) (acknowledged last executed : ℕ) → acknowledged ≤ executed
    → executed ≤ length issued → last ≤ length issued → IncomingStandsFor window (take executed issued)
    → (gap_in window.executed (carried_of issued acknowledged last) ≡ None)
    × (fresh_of window.executed (carried_of issued acknowledged last) ≡ numbered (executed + 1) (drop executed (take last issued)))
    × IncomingStandsFor (executes window (carried_of issued acknowledged last)) (take (max executed last) issued)

-- commands that are taken one by one are executed as all at once
abbrev pub TakenAreExecuted : Type 0
TakenAreExecuted = (window : IncomingState) (commands : List Command) → takes_any window commands ≡ executes window commands

-- and where none leaves a gap they are so too if each that does is refused
abbrev pub TakenWithoutGap : Type 0
TakenWithoutGap = (window : IncomingState) (commands : List Command) → gap_in window.executed commands ≡ None
    → takes window commands ≡ executes window commands

-- the numbers of what is executed rise
abbrev pub ExecutedRise : Type 0
ExecutedRise = (executed : ℕ) (commands : List Command) → RiseAbove executed (fresh_of executed commands)
