use Rattle.std.proofs.Common.{[], sym, ◌∙◌}
use Rattle.q3net.proofs.Totals.{totals_script}
use Rattle.q3net.proofs.generated.try_script.Goals as goal

pub returns-clause-counts : goal.returns-clause-counts
returns-clause-counts c =
    λ profile total to. totals_script profile total c.args.world.now c.step_part.new.world c.step_drawn.new.world c.step_part-2.new.world c.args.draws.number c.args.draws.seed
    c.deref.result.now c.deref-2.result.now c.new-drawn.result c.step_drawn.new.drawn
    (c.deref.ensures.value ∙ c.in_ok-opening.ensures.lines) (c.new-drawn.ensures.rest c.args.draws.number) (c.in_ok-closing.ensures.rest ∙ sym c.deref-2.ensures.value)
    (c.in_ok-step_part.ensures.counts profile total _) (c.in_ok-step_drawn.ensures.counts profile total) (c.in_ok-step_part-2.ensures.counts profile total []) to
