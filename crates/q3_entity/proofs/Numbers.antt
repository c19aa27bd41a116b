-- The entities of a rising list, by their numbers.
use Rattle.std.proofs.Common.{◌≡◌, ◌≢◌, ℕ, suc, ◌+◌, ◌<◌, ◌≤◌, List, [], ◌∷◌, ◌++◌, length, All, Some, Result, Ok, Err, refl, sym, ap, subst, ◌∙◌, append_assoc, length-append, arith, inl, inr}
use Rattle.std.proofs.lemmas.Bool.{cases_lt, eq-eqb, lt-ltb, le-ltb}
use Rattle.std.proofs.lemmas.List.{append-nil}
use Rattle.q3_bits.specs.ResultBind.{◌>>=◌}
use Rattle.q3_bits.proofs.Binds.{bind_ok}
use Rattle.q3_entity.specs.declared.state.EntityState.{EntityState}
use Rattle.q3_entity.specs.declared.error.EntityError.{EntityError}
use Rattle.q3_entity.specs.declared.error.EntityError.TheVariants.{Many}
use Rattle.q3_entity.specs.Entities.{RiseFrom, with_number, most_entities}
use Rattle.q3_entity.specs.Lists.{one_more}
use Rattle.q3_entity.specs.Runs.{IsFrom}
use Rattle.q3_entity.specs.Walking.{kept_below, KeepsFront}

-- the first entity is that of its number
pub with_number-named : (x : EntityState) (xs : List EntityState) (number : ℕ) → x.number ≡ number → with_number number (x ∷ xs) ≡ Some x
with_number-named x xs number same = rw (eq-eqb x.number number same) refl

-- below the first number no entity is kept
pub kept_below-none : (limit number : ℕ) (entities base : List EntityState) → RiseFrom limit number base → kept_below number entities base ≡ Ok (entities, base)
unfolding kept_below
kept_below-none limit number entities [] rise = refl
kept_below-none limit number entities (x ∷ xs) rise = rw (le-ltb x.number number rise.0) refl

-- one below is kept, and then the others
pub kept_below-more : (number : ℕ) (entities : List EntityState) (x : EntityState) (xs : List EntityState) → x.number < number
    → kept_below number entities (x ∷ xs) ≡ (one_more entities x >>= λ more. kept_below number more xs)
unfolding kept_below
kept_below-more number entities x xs below = rw (lt-ltb x.number number below) refl

-- the value of an answer
ok_value : (x y : List EntityState × List EntityState) → (let r : Result (List EntityState × List EntityState) EntityError = Ok x in r) ≡ Ok y → x ≡ y
ok_value x y e = cc

-- those that are left rise from the number on
pub kept_below-rises : (limit least number : ℕ) (entities base : List EntityState) (kept : List EntityState × List EntityState) → RiseFrom limit least base
    → kept_below number entities base ≡ Ok kept → RiseFrom limit number kept.1
unfolding kept_below
kept_below-rises limit least number entities [] kept rise e =
    let left : [] ≡ kept.1 = ap (λ (k : List EntityState × List EntityState). k.1) (ok_value (entities, []) kept e) in
    subst (RiseFrom limit number) left tt
kept_below-rises limit least number entities (x ∷ xs) kept rise e =
    elim (cases_lt x.number number) [
      | inl below ↦
          let more = bind_ok (one_more entities x) (λ more. kept_below number more xs) kept (rw (lt-ltb x.number number below) at e) in
          kept_below-rises limit (x.number + 1) number more.0 xs kept rise.2 more.2
      | inr above ↦
          let left : x ∷ xs ≡ kept.1 = ap (λ (k : List EntityState × List EntityState). k.1) (ok_value (entities, x ∷ xs) kept (rw (le-ltb x.number number above) at e)) in
          subst (RiseFrom limit number) left (above, rise.1, rise.2)
    ]

-- the first is below a number, and the others are
below-first : (number : ℕ) (x : EntityState) (xs : List EntityState) → All (λ entity. entity.number < number) (x ∷ xs) → x.number < number
below-first number x xs below = below 0 x (omega arith)

below-others : (number : ℕ) (x : EntityState) (xs : List EntityState) → All (λ entity. entity.number < number) (x ∷ xs) → All (λ entity. entity.number < number) xs
below-others number x xs below = λ k d within. below (suc k) d (omega (arith, within))

-- entities below the number stay, as far as there is room for all
pub kept_below-fits : (number : ℕ) (entities front after : List EntityState) → All (λ entity. entity.number < number) front
    → length entities + length front ≤ most_entities
    → kept_below number entities (front ++ after) ≡ kept_below number (entities ++ front) after
kept_below-fits number entities [] after below fit = ap (λ xs. kept_below number xs after) (sym (append-nil entities))
kept_below-fits number entities (x ∷ front) after below fit =
    kept_below-more number entities x (front ++ after) (below-first number x front below)
    ∙ rw (lt-ltb (length entities) most_entities (omega arith)) (kept_below-fits number (entities ++ x ∷ []) front after (below-others number x front below) (omega (arith, length-append entities (x ∷ []))))
    ∙ ap (λ xs. kept_below number xs after) (append_assoc entities (x ∷ []) front)

-- and are refused where there isn't
pub kept_below-many : (number : ℕ) (entities front after : List EntityState) → All (λ entity. entity.number < number) front
    → length entities ≤ most_entities → most_entities < length entities + length front
    → kept_below number entities (front ++ after) ≡ Err Many
kept_below-many number entities [] after below few many = absurd (omega arith)
kept_below-many number entities (x ∷ front) after below few many =
    kept_below-more number entities x (front ++ after) (below-first number x front below)
    ∙ elim (cases_lt (length entities) most_entities) [
      | inl room ↦
          rw (lt-ltb (length entities) most_entities room)
          (kept_below-many number (entities ++ x ∷ []) front after (below-others number x front below) (omega (arith, length-append entities (x ∷ []))) (omega (arith, length-append entities (x ∷ []))))
      | inr full ↦ rw (le-ltb (length entities) most_entities full) refl
    ]

-- what isn't below the number is left
kept_below-stays : (number : ℕ) (entities left : List EntityState) → IsFrom number left → kept_below number entities left ≡ Ok (entities, left)
unfolding kept_below
kept_below-stays number entities [] from = refl
kept_below-stays number entities (x ∷ xs) from = rw (le-ltb x.number number from) refl

-- of a part something is left, or all stay
pub kept_below-left : (number : ℕ) (entities part kept left after : List EntityState) → KeepsFront number entities part kept left → length left ≢ 0
    → kept_below number entities (part ++ after) ≡ Ok (kept, left ++ after)
kept_below-left number entities part kept [] after keeps some = absurd (some refl)
kept_below-left number entities part kept (x ∷ xs) after keeps some = keeps.goes_on after ∙ kept_below-stays number kept (x ∷ (xs ++ after)) keeps.from

pub kept_below-part : (number : ℕ) (entities part kept left : List EntityState) → KeepsFront number entities part kept left
    → kept_below number entities part ≡ Ok (kept, left)
kept_below-part number entities part kept left keeps =
    ap (kept_below number entities) (sym (append-nil part)) ∙ keeps.goes_on [] ∙ ap (kept_below number kept) (append-nil left) ∙ kept_below-stays number kept left keeps.from

-- an answer's fault
pub refused : {e d : EntityError} → e ≡ d → (let r : Result (List EntityState × List EntityState) EntityError = Err d in r) ≡ Err e
refused same = rw (sym same) refl
