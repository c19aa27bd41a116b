use Rattle.std.proofs.Common.{◌+◌, ◌*◌, refl, arith}
use Rattle.q3_make.specs.Generated.{last_turn}
use Rattle.q3_make.proofs.Rows.{some_more}
use Rattle.q3_make.proofs.make.push_twenty.Goals as goal

pub loop-k-preserved : goal.loop-k-preserved
loop-k-preserved c =
    let k = c.loop-k.k in
    rw c.in_ok-push_turn.ensures
    (some_more (λ k. last_turn c.args.c (c.args.made + 2 * k) (1000001 + k)) 0 k k c.args.events.now.items c.loop-k.events.items (last_turn c.args.c (c.args.made + 2 * k) (1000001 + k)) (omega arith) c.loop-k.invariant refl)
