use Rattle.std.proofs.Common.{◌≡◌, length}
use Rattle.q3_text.proofs.commands.Commands.new.Given as goal

-- so many places were made
abbrev pub invariant-loop : goal.invariant-loop
invariant-loop l = length l.places.items ≡ l.counter
