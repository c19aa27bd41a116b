-- Baselines of which none is set, and those with one more.
use Rattle.std.proofs.Common.{◌≡◌, ℕ, ◌<◌, length, replicate, Option, Some, None, IfSome, unwrap_or, refl, sym, ap, subst, ◌∙◌, arith, inl, inr}
use Rattle.std.proofs.lemmas.Bool.{cases_lt, cases_eq}
use Rattle.std.proofs.lemmas.List.{length-replicate, get_or-replicate, get_or_past, length-set, set_past, get_or-set_same, get_or-set_other}
use Rattle.q3_entity.specs.declared.state.EntityState.{EntityState}
use Rattle.q3_entity.specs.Entities.{zero_entity, IsNormal}
use Rattle.q3_entity.specs.Baselines.{Baselines, AreBaselines, most_baselines, no_baselines, set_at, with_baseline}
use Rattle.q3_fields.specs.Kinds.{end_mark}
use Rattle.q3_fields.specs.States.{AreWords}
use Rattle.q3_entity.specs.Laws.{NoneAreBaselines, BaselineIsAdded}
use Rattle.q3_entity.specs.Lists.{words_from}

-- no number has a state
pub none_set : (number : ℕ) → set_at no_baselines number ≡ None
none_set number =
    elim (cases_lt number most_baselines) [
      | inl within ↦ get_or-replicate most_baselines number None None within
      | inr past ↦ get_or_past no_baselines number None (omega (arith, past))
    ]

-- so an entity of which nothing is known changed from zeros
pub zeros_there : (number : ℕ) → words_from no_baselines number None ≡ replicate 64 0
unfolding zero_entity
zeros_there number = ap (λ (set : Option EntityState). (unwrap_or set (zero_entity number)).words) (none_set number)

-- they are baselines of any table
pub none_are_baselines : NoneAreBaselines
none_are_baselines table = record {
  places = length-replicate {A = Option EntityState} most_baselines None;
  numbers = λ number. rw (none_set number) tt;
  below = λ number. rw (none_set number) tt;
  states = λ number. rw (none_set number) tt;
  normal = λ number. rw (none_set number) tt;
}

-- what is true of each baseline and of a state is true of each with that state set
added : (P : ℕ → EntityState → Type 0) (baselines : Baselines) (state : EntityState) → state.number < length baselines → ((number : ℕ) → IfSome (set_at baselines number) (P number)) → P state.number state
    → (number : ℕ) → IfSome (set_at (with_baseline baselines state) number) (P number)
added P baselines state within each one number =
    elim (cases_eq number state.number) [
      | inl here ↦
          let at : set_at (with_baseline baselines state) number ≡ Some state = rw here (get_or-set_same baselines state.number (Some state) None within) in
          rw at (subst (λ (n : ℕ). P n state) (sym here) one)
      | inr other ↦ rw (get_or-set_other baselines state.number number (Some state) None other) (each number)
    ]

pub baseline_is_added : BaselineIsAdded
baseline_is_added table baselines state are below words normal =
    elim (cases_lt state.number (length baselines)) [
      | inl within ↦
          record {
            places = length-set baselines state.number (Some state) ∙ are.places;
            numbers = added (λ number state. state.number ≡ number) baselines state within are.numbers refl;
            below = added (λ number state. state.number < end_mark table) baselines state within are.below below;
            states = added (λ number state. AreWords 64 state.words) baselines state within are.states words;
            normal = added (λ number. IsNormal table) baselines state within are.normal normal;
          }
      | inr past ↦ subst (AreBaselines table) (sym (set_past baselines state.number (Some state) past)) are
    ]
