use Rattle.std.proofs.Common.{refl, arith}
use Rattle.q3_window.specs.Cells.{texts_from}
use Rattle.q3_window.proofs.Round.{bytes_more}
use Rattle.q3_window.proofs.outgoing.bytes_of.Goals as goal

pub loop-passed-init : goal.loop-passed-init
unfolding texts_from
loop-passed-init c = record { total = refl; few = omega arith }

pub loop-passed-preserved : goal.loop-passed-preserved
loop-passed-preserved c =
    let more =
    bytes_more c.args.cells.now.items c.args.first c.loop-passed.passed c.index.result.now c.requires.places c.requires.some c.index.ensures in
    record { total = omega (arith, more); few = omega arith }
