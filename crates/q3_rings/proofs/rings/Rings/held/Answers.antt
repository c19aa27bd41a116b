use Rattle.std.proofs.Common.{None, Some}
use Rattle.q3_rings.proofs.Kept.{head_at}
use Rattle.q3_rings.proofs.rings.Rings.held.Goals as goal

pub returns-in_err-kept : goal.returns-in_err-kept
returns-in_err-kept c =
    rw c.from_residual.ensures (head_at c.self.inside c.args.self.now c.args.place c.from.result None c.self.view_is c.requires c.from.ensures c.in_err-kept.ensures.kept)

pub returns : goal.returns
returns c =
    rw c.placed.ensures (head_at c.self.inside c.args.self.now c.args.place c.from.result (Some c.in_ok-kept.kept.now) c.self.view_is c.requires c.from.ensures c.in_ok-kept.ensures.kept)
