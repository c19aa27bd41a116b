-- All that an end ever issued, and what a window shows of it.
use Rattle.std.specs.Prelude.{◌≡◌, ℕ, zero, suc, ◌+◌, ◌≤◌, List, [], length, take, drop, slice_index_or}
use Rattle.q3_text.specs.declared.text.Command.{Command}
use Rattle.q3_text.specs.Commands.{numbered}
use Rattle.q3_window.specs.Outgoing.{OutgoingState}

-- the text of a number among all that were issued; that of 0 is empty
abbrev pub issued_text : List (List ℕ) → ℕ → List ℕ
issued_text issued zero = []
issued_text issued (suc k) = slice_index_or issued k []

-- a window stands for all texts that its end ever issued
pub record OutgoingStandsFor (window : OutgoingState) (issued : List (List ℕ)) : Type 0 where
  pub within : window.acknowledged ≤ length issued
  pub waiting : window.waiting ≡ drop window.acknowledged issued
  pub text : window.text ≡ issued_text issued window.acknowledged

-- the commands above one number and up to another, of all that were issued
abbrev pub carried_of : List (List ℕ) → ℕ → ℕ → List Command
carried_of issued acknowledged last = numbered (acknowledged + 1) (drop acknowledged (take last issued))
