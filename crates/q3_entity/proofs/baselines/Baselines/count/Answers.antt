use Rattle.std.proofs.Common.{◌≡◌, ◌∙◌, ap, length, rules, arith}
use Rattle.q3_entity.specs.Baselines.{Baselines, set_baselines}
use Rattle.q3_entity.proofs.Placed.{few, counts}
use Rattle.q3_entity.proofs.baselines.Baselines.count.Goals as goal

pub overflow_cast-result : goal.overflow_cast-result
overflow_cast-result c =
    let len : c.len.result ≡ length c.self.inside.states.items = search rules in
    omega (arith, len, few c.self.inside.places.items c.self.inside.states.items c.self.invariant.0)

pub returns : goal.returns
returns c =
    let len : c.len.result ≡ length c.self.inside.states.items = search rules in
    len ∙ counts c.self.inside.places.items c.self.inside.states.items c.self.invariant.0 ∙ ap (λ (all : Baselines). length (set_baselines all)) c.self.view_is
