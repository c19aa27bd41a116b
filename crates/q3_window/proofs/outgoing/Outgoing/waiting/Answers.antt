use Rattle.std.proofs.Common.{◌≡◌, ◌+◌, ◌-◌, ◌%◌, length, sym, ap, ◌∙◌, length-take-le, arith}
use Rattle.q3_window.specs.Outgoing.{carried}
use Rattle.q3_window.specs.Cells.{places}
use Rattle.q3_window.proofs.Round.{lent_within, lent_past, length-texts_from}
use Rattle.q3_window.proofs.outgoing.Outgoing.waiting.Goals as goal

pub returns-then-count-after-clause-waiting : goal.returns-then-count-after-clause-waiting
returns-then-count-after-clause-waiting c =
    let inside = c.self.inside in
    let cells = inside.cells.items in
    let kept = c.self.invariant.kept in
    let within = kept.within in
    let counted : length cells ≡ places = kept.count in
    lent_within cells c.deref.result.now (inside.acknowledged + 1) (inside.issued - inside.acknowledged) c.deref.ensures.value counted (omega arith) (omega arith)
    (λ number least below. kept.numbers number (omega arith) (omega arith))
    ∙ ap carried c.self.view_is

pub slice_bounds-result-length-3 : goal.slice_bounds-result-length-3
slice_bounds-result-length-3 c =
    let inside = c.self.inside in
    let kept = c.self.invariant.kept in
    let few = kept.is.few in
    let waiting = length-texts_from inside.cells.items (inside.acknowledged + 1) (inside.issued - inside.acknowledged) in
    let counted : length inside.cells.items ≡ places = kept.count in
    let count = inside.issued - inside.acknowledged - (c.len.result - (inside.acknowledged + 1) % 64) in
    sym (length-take-le count c.deref-3.result.now (omega arith))

pub returns-clause-waiting : goal.returns-clause-waiting
returns-clause-waiting c =
    let inside = c.self.inside in
    let cells = inside.cells.items in
    let kept = c.self.invariant.kept in
    let within = kept.within in
    let few = kept.is.few in
    let waiting = length-texts_from cells (inside.acknowledged + 1) (inside.issued - inside.acknowledged) in
    let counted : length cells ≡ places = kept.count in
    lent_past cells c.deref-2.result.now c.deref-3.result.now (inside.acknowledged + 1) (inside.issued - inside.acknowledged)
    (c.len.result - (inside.acknowledged + 1) % 64) c.deref-2.ensures.value c.deref-3.ensures.value counted (omega arith) (omega arith) (omega arith) (omega arith)
    (λ number least below. kept.numbers number (omega arith) (omega arith))
    ∙ ap carried c.self.view_is
