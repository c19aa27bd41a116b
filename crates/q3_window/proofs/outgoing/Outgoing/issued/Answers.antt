use Rattle.std.proofs.Common.{sym, ap, ◌∙◌}
use Rattle.q3_window.specs.Outgoing.{issued_of}
use Rattle.q3_window.proofs.Held.{issued-window}
use Rattle.q3_window.proofs.outgoing.Outgoing.issued.Goals as goal

pub returns-clause-issued : goal.returns-clause-issued
returns-clause-issued c =
    let inside = c.self.inside in
    sym (issued-window inside.cells.items inside.acknowledged inside.issued c.self.invariant.kept.within) ∙ ap issued_of c.self.view_is
