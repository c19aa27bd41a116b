use Rattle.q3_strings.proofs.Turns.{turns_are_taken}
use Rattle.q3_strings.proofs.laws.turns_are_taken.Goals as goal

pub returns : goal.returns
returns c = turns_are_taken c.read_was_put.ensures c.ends_cut_short.ensures
