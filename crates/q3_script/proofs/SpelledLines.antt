-- What each line spells, in a script of any kind that has it.
use Rattle.std.proofs.Common.{ℕ, List}
use Rattle.q3_script.specs.declared.event.Event.{Event}
use Rattle.q3_script.specs.Grammar.{IsInRange, HasWords}

-- the words of a line spell an event
pub record IsLine (words : List (List ℕ)) (event : Event) : Type 0 where
  pub in_range : IsInRange event
  pub whole : HasWords words event
