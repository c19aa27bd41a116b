use Rattle.std.proofs.Common.{arith}
use Rattle.q3_make.specs.Generated.{joins}
use Rattle.q3_make.proofs.Rows.{one_more}
use Rattle.q3_make.proofs.make.push_clients.Goals as goal

pub loop-c-preserved : goal.loop-c-preserved
loop-c-preserved c =
    rw c.in_ok-push.ensures.items
    (one_more joins 0 c.loop-c.c c.loop-c.c c.args.events.now.items c.loop-c.events.items c.joins.result (omega arith) c.loop-c.invariant c.joins.ensures)
