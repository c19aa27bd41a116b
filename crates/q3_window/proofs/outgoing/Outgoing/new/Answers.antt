use Rattle.std.proofs.Common.{◌≡◌, length, refl, ap, ◌∙◌, arith}
use Rattle.std.proofs.lemmas.List.{length-replicate}
use Rattle.q3_window.specs.Cells.{places, blank, texts_from}
use Rattle.q3_window.proofs.Held.{new_are_kept}
use Rattle.q3_window.proofs.outgoing.Outgoing.new.Goals as goal

pub invariant_of-result : goal.invariant_of-result
invariant_of-result c =
    let count : length c.loop.cells.items ≡ places = ap length c.loop.invariant ∙ length-replicate c.loop.counter blank ∙ omega arith in
    record { kept = new_are_kept c.loop.cells.items count; empty = c.new.ensures }

pub returns : goal.returns
unfolding texts_from
returns c = refl
