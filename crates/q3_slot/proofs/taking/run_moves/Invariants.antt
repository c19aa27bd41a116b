use Rattle.q3_slot.proofs.Runs.{HasRun}
use Rattle.q3_slot.proofs.taking.run_moves.Given as goal

-- so many moves were run, or not
abbrev pub invariant-loop-one : goal.invariant-loop-one
invariant-loop-one l = HasRun l.fn.last l.moves l.one-index l.last l.into.items
