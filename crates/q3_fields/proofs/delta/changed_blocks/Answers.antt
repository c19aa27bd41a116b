use Rattle.std.proofs.Common.{◌-◌, ◌∙◌, arith}
use Rattle.q3_fields.proofs.LastChanged.{last_changed-block}
use Rattle.q3_fields.proofs.delta.changed_blocks.Goals as goal

pub loop-left-preserved : goal.loop-left-preserved
loop-left-preserved c =
    let left = c.loop-left.left in
    let test = c.loop-left-test.true in
    record {
      changed =
          last_changed-block c.args.from.now c.args.to.now (left - 16) left (omega arith) (omega arith) (omega arith) (c.agree.ensures.0 c.if-not-agree.false)
          ∙ c.loop-left.invariant.changed;
      most = omega arith;
    }
