use Rattle.std.proofs.Common.{◌≡◌, ℕ, ◌+◌, refl, ap, ◌∙◌}
use Rattle.q3_script.specs.declared.event.Event.TheVariants.{Baseline}
use Rattle.q3_make.specs.Generated.{entity_with}
use Rattle.q3_make.proofs.Rows.{one_more}
use Rattle.q3_make.proofs.make.push_baselines.Goals as goal

pub loop-k-preserved : goal.loop-k-preserved
loop-k-preserved c =
    let n = 1 + c.loop-k.k in
    let is : c.in_ok-of.field-0 ≡ entity_with n 1 n = c.in_ok-of.ensures ∙ c.entity_with.ensures ∙ ap (λ (word : ℕ). entity_with n 1 word) c.from.ensures in
    rw c.in_ok-push.ensures.items
    (one_more (λ n. Baseline (entity_with n 1 n)) 1 c.loop-k.k n c.args.events.now.items c.loop-k.events.items (Baseline c.in_ok-of.field-0) refl c.loop-k.invariant (ap Baseline is))
