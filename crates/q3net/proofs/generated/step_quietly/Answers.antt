use Rattle.q3net.proofs.Totals.{totals_next}
use Rattle.q3net.proofs.generated.step_quietly.Goals as goal

pub returns-in-Ok-clause-counts : goal.returns-in-Ok-clause-counts
returns-in-Ok-clause-counts c =
    λ profile total after to. totals_next profile total c.args.world.now c.step.new.self c.args.event.now after (c.in-Ok.ensures.stands profile) (c.in-Ok.ensures.counts_whole profile) to
