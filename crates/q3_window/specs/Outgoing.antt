-- The commands that an end issued, as far as it keeps them.
use Rattle.std.specs.Prelude.{◌≡◌, ℕ, zero, suc, ◌+◌, ◌-◌, ◌^◌, ◌≤◌, ◌&&◌, ◌||◌, Bool, if◌then◌else◌, nat_lt, nat_le, List, [], ◌∷◌, ◌++◌, length, drop, sum_by, slice_index_or, All, Result, Ok, Err}
use Rattle.q3_text.specs.declared.text.Command.{Command}
use Rattle.q3_text.specs.Commands.{numbered}
use Rattle.q3_text.specs.Texts.{IsText}
use Rattle.q3_window.specs.declared.outgoing.WindowFull.{WindowFull}
use Rattle.q3_window.specs.declared.outgoing.BadAck.{BadAck}

-- how many commands may wait for their acknowledgement
abbrev pub most_waiting : ℕ
most_waiting = 63

-- how many bytes their texts may have together
abbrev pub most_text : ℕ
most_text = 10000

-- the greatest number of a command
abbrev pub last_number : ℕ
last_number = 2 ^ 31 - 1

-- the number of the last command that the other end acknowledged, 0 for none, its text, and the texts of those issued since
pub record OutgoingState : Type 0 where
  pub acknowledged : ℕ
  pub text : List ℕ
  pub waiting : List (List ℕ)

-- none was issued
abbrev pub new_outgoing : OutgoingState
new_outgoing = record { acknowledged = 0; text = []; waiting = [] }

-- the number of the last one issued
abbrev pub issued_of : OutgoingState → ℕ
issued_of window = window.acknowledged + length window.waiting

-- how many bytes texts have together
abbrev pub total_of : List (List ℕ) → ℕ
total_of texts = sum_by length texts

-- whether so many more commands, with so many bytes together, may be issued
abbrev pub fits : OutgoingState → ℕ → ℕ → Bool
fits window count bytes =
    nat_le (length window.waiting + count) most_waiting && nat_le (total_of window.waiting + bytes) most_text
    && nat_le (issued_of window + count) last_number

-- the window after a command, and its number, or that there is no room
pub record Issuing : Type 0 where
  pub window : OutgoingState
  pub answer : Result ℕ WindowFull

-- a command is issued where it fits
abbrev pub issue_at : OutgoingState → List ℕ → Issuing
issue_at window text =
    if fits window 1 (length text)
    then record { window = record window { waiting = window.waiting ++ text ∷ [] }; answer = Ok (issued_of window + 1) }
    else record { window = window; answer = Err (record {}) }

-- the window after texts that are issued one by one, all of which fit
abbrev pub with_texts : OutgoingState → List (List ℕ) → OutgoingState
with_texts window texts = record window { waiting = window.waiting ++ texts }

-- the text of a command that is kept; that of the number 0 is empty
abbrev pub text_at : OutgoingState → ℕ → List ℕ
text_at window zero = []
text_at window (suc k) = slice_index_or (window.text ∷ window.waiting) (k + 1 - window.acknowledged) []

-- the window once all up to a number are acknowledged
abbrev pub acknowledged_to : OutgoingState → ℕ → OutgoingState
acknowledged_to window number =
    record { acknowledged = number; text = text_at window number; waiting = drop (number - window.acknowledged) window.waiting }

-- the window after an acknowledgement, or that it can't be one
pub record Acknowledging : Type 0 where
  pub window : OutgoingState
  pub answer : Result (Unit {0}) BadAck

-- an acknowledgement names a command from the last acknowledged one to the last issued one
abbrev pub acknowledge_at : OutgoingState → ℕ → Acknowledging
acknowledge_at window number =
    if nat_lt number window.acknowledged || nat_lt (issued_of window) number
    then record { window = window; answer = Err (record {}) }
    else record { window = acknowledged_to window number; answer = Ok tt }

-- the commands that every message carries: all that aren't acknowledged
abbrev pub carried : OutgoingState → List Command
carried window = numbered (window.acknowledged + 1) window.waiting

-- what every such window is
pub record IsOutgoing (window : OutgoingState) : Type 0 where
  pub few : length window.waiting ≤ most_waiting
  pub bytes : total_of window.waiting ≤ most_text
  pub numbers : issued_of window ≤ last_number
  pub texts : All IsText window.waiting
  pub is_text : IsText window.text
  pub none : window.acknowledged ≡ 0 → window.text ≡ []
