-- Commands with their numbers, in rows.
use Rattle.std.specs.Prelude.{ℕ, ◌+◌, List, [], ◌∷◌, ◌++◌}
use Rattle.q3_text.specs.declared.text.Command.{Command}
use Rattle.q3_text.specs.declared.text.CommandRun.{CommandRun}

-- the commands of a run: two pieces, one after the other
abbrev pub commands_of : CommandRun → List Command
commands_of run = run.head.now ++ run.tail.now

-- texts as commands, by rising number from one on
unfoldable pub numbered : ℕ → List (List ℕ) → List Command
numbered first [] = []
numbered first (text ∷ texts) = record { number = first; text = text } ∷ numbered (first + 1) texts
