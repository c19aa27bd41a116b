use Rattle.std.proofs.Common.{◌≡◌, ◌≤◌, ◌∙◌, ap, List, ℕ, [], rules, subst, sym}
use Rattle.std.specs.Prelude.{vec_capacity}
use Rattle.q3_entity.specs.declared.state.EntityState.{EntityState}
use Rattle.q3_entity.specs.Baselines.{most_baselines}
use Rattle.q3_entity.specs.KeptBaselines.{unplaced, baselines_in, AreKept}
use Rattle.q3_entity.proofs.Placed.{none_in, none_kept}
use Rattle.q3_entity.proofs.baselines.Baselines.new.Goals as goal

pub invariant_of-result : goal.invariant_of-result
invariant_of-result c =
    let places : c.in_ok-places.places.items ≡ unplaced most_baselines = search rules in
    let states : c.in_ok-states.states.items ≡ [] = search rules in
    let room : most_baselines ≤ vec_capacity c.in_ok-states.states = search rules in
    (subst (λ (ps : List ℕ). AreKept ps c.in_ok-states.states.items) (sym places) (subst (AreKept (unplaced most_baselines)) (sym states) none_kept), room)

pub returns : goal.returns
returns c =
    let places : c.in_ok-places.places.items ≡ unplaced most_baselines = search rules in
    let states : c.in_ok-states.states.items ≡ [] = search rules in
    ap (λ (ps : List ℕ). baselines_in ps c.in_ok-states.states.items) places ∙ ap (λ (ss : List EntityState). baselines_in (unplaced most_baselines) ss) states ∙ none_in
