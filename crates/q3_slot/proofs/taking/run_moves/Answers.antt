use Rattle.std.proofs.Common.{arith}
use Rattle.q3_slot.proofs.Runs.{HasRun-begin, HasRun-later, HasRun-none, HasRun-all}
use Rattle.q3_slot.proofs.taking.run_moves.Goals as goal
use Rattle.q3_slot.proofs.taking.run_moves.Goals.{then-one-last, else-one-last}

pub push-requires : goal.push-requires
push-requires c = (omega arith, omega (arith, c.loop-one.invariant.few, c.requires.few, c.loop-one-test.true))

pub loop-one-init : goal.loop-one-init
loop-one-init c = HasRun-begin c.args.last c.args.moves.now c.args.into.now.items c.requires.empty

pub loop-one-preserved : goal.loop-one-preserved
loop-one-preserved c =
    let h = c.loop-one.invariant in
    elim c.if-one-last.branch [
      | then-one-last w ↦ rw (w.into-is, w.last-is, w.push.ensures.items) (HasRun-later _ _ _ _ _ _ h c.loop-one-test.true w.if-one-last.true)
      | else-one-last w ↦ rw (w.into-is, w.last-is) (HasRun-none _ _ _ _ _ _ h c.loop-one-test.true w.if-one-last.false)
    ]

pub returns-clause-moves : goal.returns-clause-moves
returns-clause-moves c = (HasRun-all _ _ _ _ _ c.loop-one.invariant c.loop-one-test.false).0

pub returns-clause-last : goal.returns-clause-last
returns-clause-last c = (HasRun-all _ _ _ _ _ c.loop-one.invariant c.loop-one-test.false).1
