use Rattle.std.proofs.Common.{◌≤◌, ◌∙◌, ap, List, ℕ, rules, subst, sym}
use Rattle.std.specs.Prelude.{vec_capacity}
use Rattle.q3_entity.specs.declared.state.EntityState.{EntityState}
use Rattle.q3_entity.specs.Baselines.{most_baselines}
use Rattle.q3_entity.specs.KeptBaselines.{unplaced, baselines_in, AreKept}
use Rattle.q3_entity.proofs.Placed.{none_in, none_kept}
use Rattle.q3_entity.proofs.baselines.Baselines.clear.Goals as goal

pub invariant_of-self : goal.invariant_of-self
invariant_of-self c =
    let room : most_baselines ≤ vec_capacity c.clear.new.self = search rules in
    (subst (λ (ps : List ℕ). AreKept ps c.clear.new.self.items) (sym c.forget.ensures) (subst (AreKept (unplaced most_baselines)) (sym c.clear.ensures.items) none_kept), room)

pub returns : goal.returns
returns c =
    ap (λ (ps : List ℕ). baselines_in ps c.clear.new.self.items) c.forget.ensures ∙ ap (λ (ss : List EntityState). baselines_in (unplaced most_baselines) ss) c.clear.ensures.items ∙ none_in
