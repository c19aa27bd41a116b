-- All that an end ever executed, and commands that are taken one by one.
use Rattle.std.specs.Prelude.{◌≡◌, ℕ, ◌<◌, List, [], ◌∷◌, length}
use Rattle.q3_text.specs.declared.text.Command.{Command}
use Rattle.q3_window.specs.Incoming.{IncomingState, take_at, take_any_at}
use Rattle.q3_window.specs.Issued.{issued_text}

-- a window stands for all texts that it executed
pub record IncomingStandsFor (window : IncomingState) (texts : List (List ℕ)) : Type 0 where
  pub executed : window.executed ≡ length texts
  pub last : window.last ≡ issued_text texts (length texts)

-- the window after commands that are taken one by one, none across a gap
unfoldable pub takes : IncomingState → List Command → IncomingState
takes window [] = window
takes window (command ∷ commands) = takes (take_at window command).window commands

-- the window after commands that are taken one by one, also across gaps
unfoldable pub takes_any : IncomingState → List Command → IncomingState
takes_any window [] = window
takes_any window (command ∷ commands) = takes_any (take_any_at window command).window commands

-- the numbers of commands rise, from above one on
unfoldable pub RiseAbove : ℕ → List Command → Type 0
RiseAbove number [] = Unit {0}
RiseAbove number (command ∷ commands) = (number < command.number) × RiseAbove command.number commands
