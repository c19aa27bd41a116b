-- One number of a list that is read: its entry, or the base's entity that stays.
use Rattle.std.proofs.Common.{◌≡◌, ◌⊎◌, ℕ, suc, ◌+◌, Bool, true, false, eqb, List, Ok, inl, inr}
use Rattle.std.proofs.lemmas.Bool.{cases_Bool}
use Rattle.std.specs.Option.{is_some}
use Rattle.q3_bits.specs.ResultBind.{◌>>=◌}
use Rattle.q3_bits.proofs.Binds.{bind_ok}
use Rattle.q3_fields.specs.Kinds.{Layout}
use Rattle.q3_entity.specs.declared.state.EntityState.{EntityState}
use Rattle.q3_entity.specs.declared.reading.Entry.{Entry}
use Rattle.q3_entity.specs.Entities.{with_number}
use Rattle.q3_entity.specs.Baselines.{Baselines}
use Rattle.q3_entity.specs.Delta.{entity_at}
use Rattle.q3_entity.specs.Lists.{number_at, stays, entered, words_from, numbers_at}

-- the number's entry is read, and what follows it
pub record ReadHere (words : List (List Bool)) (table : Layout) (baselines : Baselines) (base : List EntityState) (left number next : ℕ) (entities : List EntityState) (bits : List Bool)
    (found : List EntityState × List Bool) : Type 0 where
  pub here : eqb number next ≡ true
  pub entry : (Entry × List ℕ) × List Bool
  pub now : List EntityState
  pub more : ℕ × List Bool
  pub entry_is : entity_at words table (words_from baselines number (with_number number base)) bits ≡ Ok entry
  pub now_is : entered entities (is_some (with_number number base)) number entry.0.0 entry.0.1 ≡ Ok now
  pub more_is : number_at words table (number + 1) entry.1 ≡ Ok more
  pub others : numbers_at words table baselines base left (number + 1) more.0 now more.1 ≡ Ok found

-- the base's entity stays, and what follows it is read
pub record ReadThere (words : List (List Bool)) (table : Layout) (baselines : Baselines) (base : List EntityState) (left number next : ℕ) (entities : List EntityState) (bits : List Bool)
    (found : List EntityState × List Bool) : Type 0 where
  pub there : eqb number next ≡ false
  pub kept : List EntityState
  pub kept_is : stays entities (with_number number base) ≡ Ok kept
  pub others : numbers_at words table baselines base left (number + 1) next kept bits ≡ Ok found

pub number_step : (words : List (List Bool)) (table : Layout) (baselines : Baselines) (base : List EntityState) (left number next : ℕ) (entities : List EntityState) (bits : List Bool)
    (found : List EntityState × List Bool) → numbers_at words table baselines base (suc left) number next entities bits ≡ Ok found
    → ReadHere words table baselines base left number next entities bits found ⊎ ReadThere words table baselines base left number next entities bits found
unfolding numbers_at
number_step words table baselines base left number next entities bits found e =
    let from = with_number number base in
    elim (cases_Bool (eqb number next)) [
      | inl here ↦
          let entry = bind_ok (entity_at words table (words_from baselines number from) bits)
          (λ entry. entered entities (is_some from) number entry.0.0 entry.0.1 >>= λ now. (number_at words table (number + 1) entry.1 >>= λ more. numbers_at words table baselines base left (number + 1) more.0 now more.1))
          found (rw here at e) in
          let now = bind_ok (entered entities (is_some from) number entry.0.0.0 entry.0.0.1)
          (λ now. number_at words table (number + 1) entry.0.1 >>= λ more. numbers_at words table baselines base left (number + 1) more.0 now more.1) found entry.2 in
          let more = bind_ok (number_at words table (number + 1) entry.0.1) (λ more. numbers_at words table baselines base left (number + 1) more.0 now.0 more.1) found now.2 in
          inl (record { here = here; entry = entry.0; now = now.0; more = more.0; entry_is = entry.1; now_is = now.1; more_is = more.1; others = more.2 })
      | inr there ↦
          let kept = bind_ok (stays entities from) (λ kept. numbers_at words table baselines base left (number + 1) next kept bits) found (rw there at e) in
          inr (record { there = there; kept = kept.0; kept_is = kept.1; others = kept.2 })
    ]
