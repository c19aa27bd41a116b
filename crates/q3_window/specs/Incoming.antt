-- The commands of the other end that an end executed.
use Rattle.std.specs.Prelude.{ℕ, ◌+◌, ◌==◌, if◌then◌else◌, nat_lt, nat_le, List, [], ◌∷◌, Option, Some, None}
use Rattle.q3_text.specs.declared.text.Command.{Command}
use Rattle.q3_window.specs.declared.incoming.Taken.{Taken}
use Rattle.q3_window.specs.declared.incoming.Taken.TheVariants.{Fresh, Known, Gap}

-- the number of the last command that was executed, 0 for none, and its text
pub record IncomingState : Type 0 where
  pub executed : ℕ
  pub last : List ℕ

-- none was executed
abbrev pub new_incoming : IncomingState
new_incoming = record { executed = 0; last = [] }

-- the window after a command that was executed
abbrev pub executing : Command → IncomingState
executing command = record { executed = command.number; last = command.text }

-- the window after a command that came, and what became of it
pub record Taking : Type 0 where
  pub window : IncomingState
  pub answer : Taken

-- one that was executed before changes nothing, nor does one that leaves a gap
abbrev pub take_at : IncomingState → Command → Taking
take_at window command =
    if nat_le command.number window.executed then record { window = window; answer = Known }
    else if nat_lt (window.executed + 1) command.number then record { window = window; answer = Gap }
    else record { window = executing command; answer = Fresh }

-- one that was executed before changes nothing; any other is executed, also across a gap
abbrev pub take_any_at : IncomingState → Command → Taking
take_any_at window command =
    if nat_le command.number window.executed then record { window = window; answer = Known }
    else record { window = executing command; answer = Fresh }

-- the window once another number counts as executed
abbrev pub jump_at : IncomingState → ℕ → IncomingState
jump_at window number = if number == window.executed then window else record { executed = number; last = [] }

-- of commands in order those that are executed, across gaps
unfoldable pub fresh_of : ℕ → List Command → List Command
fresh_of executed [] = []
fresh_of executed (command ∷ commands) =
    if nat_lt executed command.number then command ∷ fresh_of command.number commands else fresh_of executed commands

-- of commands in order the number of the first that leaves a gap, if one does
unfoldable pub gap_in : ℕ → List Command → Option ℕ
gap_in executed [] = None
gap_in executed (command ∷ commands) =
    if nat_le command.number executed then gap_in executed commands
    else if command.number == executed + 1 then gap_in command.number commands
    else Some command.number

-- the window after commands that were executed
unfoldable pub executing_all : IncomingState → List Command → IncomingState
executing_all window [] = window
executing_all window (command ∷ commands) = executing_all (executing command) commands

-- the window after commands in order
abbrev pub executes : IncomingState → List Command → IncomingState
executes window commands = executing_all window (fresh_of window.executed commands)
