-- How a list of commands lends its next place.
use Rattle.std.specs.Prelude.{List, [], ◌∷◌, ◌++◌}
use Rattle.std.specs.Borrow.{Lends, MutBor, Fml}
use Rattle.q3_text.specs.declared.text.Command.{Command}
use Rattle.q3_text.specs.contracts.text.Command as command
use Rattle.q3_text.specs.contracts.commands.Commands as commands

-- what is last written through r stands after all others
abbrev pub LendsNext : MutBor (List Command) → MutBor Command → Fml
LendsNext all r = Lends commands.the_row command.the_row all r (λ one. all.now ++ one ∷ [])
