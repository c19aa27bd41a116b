use Rattle.std.proofs.Common.{◌≡◌, ℕ, ◌+◌, ◌^◌, ◌≤◌, List, [], ◌∷◌, ◌++◌, length, ap, sym, subst, ◌∙◌, arith}
use Rattle.std.proofs.lemmas.List.{length-append}
use Rattle.q3_entity.specs.declared.state.EntityState.{EntityState}
use Rattle.q3_entity.specs.Entities.{RiseFrom, zero_entity}
use Rattle.q3_tests.proofs.snapshots.entities.Goals as goal

rise-more : (limit more least : ℕ) (xs : List EntityState) → limit ≤ more → RiseFrom limit least xs → RiseFrom more least xs
rise-more limit more least [] most rise = tt
rise-more limit more least (x ∷ xs) most rise = (rise.0, omega arith, rise-more limit more (x.number + 1) xs most rise.2)

rise-push : (limit least : ℕ) (xs : List EntityState) (x : EntityState) → least ≤ limit → RiseFrom limit least xs → x.number ≡ limit
    → RiseFrom (limit + 1) least (xs ++ x ∷ [])
rise-push limit least [] x low rise is = (omega arith, omega arith, tt)
rise-push limit least (y ∷ xs) x low rise is = (rise.0, omega arith, rise-push limit (y.number + 1) xs x (omega arith) rise.2 is)

pub loop-number-preserved : goal.loop-number-preserved
unfolding zero_entity
loop-number-preserved c =
    let list = c.loop-number.list.items in
    let named : c.zero.result.number ≡ c.loop-number.number + 1 = ap (λ (state : EntityState). state.number) c.zero.ensures in
    record {
      count = ap (λ (xs : List EntityState). length xs) c.push.ensures.items ∙ simp length-append (omega (arith, c.loop-number.invariant.count));
      rise = subst (RiseFrom (c.loop-number.number + 1 + 1) 0) (sym c.push.ensures.items) (rise-push (c.loop-number.number + 1) 0 list _ (omega arith) c.loop-number.invariant.rise named);
    }

pub returns : goal.returns
returns c = record {
  rise = rise-more (c.loop-number.number + 1) (2 ^ 16) 0 c.loop-number.list.items (omega arith) c.loop-number.invariant.rise;
  few = omega arith;
}
