-- The commands that were executed, as reports print them.
use Rattle.std.specs.Prelude.{ℕ, List, [], ◌∷◌, codes, decimal}
use Rattle.std.specs.List.{concat, flat_map}
use Rattle.q3_io.specs.Quoted.{quoted}
use Rattle.q3_text.specs.declared.text.Command.{Command}

-- the line of a command that was executed
abbrev pub command_text : Command → List ℕ
command_text command = concat (codes "+ command " ∷ decimal command.number ∷ codes " " ∷ quoted command.text ∷ codes "\n" ∷ [])

-- the lines of commands
abbrev pub commands_text : List Command → List ℕ
commands_text commands = flat_map command_text commands
