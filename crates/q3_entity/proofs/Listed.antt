-- What is read of a list is one: its numbers rise, and it has at most 256 entities.
use Rattle.std.proofs.Common.{◌≡◌, ℕ, zero, suc, ◌+◌, ◌^◌, ◌<◌, ◌≤◌, Bool, true, false, List, [], ◌∷◌, ◌++◌, length, Option, Some, None, Result, Ok, refl, subst, inl, inr, arith, ltb, length-append}
use Rattle.std.proofs.lemmas.Bool.{cases_Bool, ltb-true}
use Rattle.std.proofs.Math.Pow.{pow_mono}
use Rattle.std.specs.Option.{is_some}
use Rattle.q3_bits.proofs.Binds.{bind_ok}
use Rattle.q3_fields.specs.Kinds.{Layout, end_mark}
use Rattle.q3_entity.specs.declared.state.EntityState.{EntityState}
use Rattle.q3_entity.specs.declared.reading.Entry.{Entry}
use Rattle.q3_entity.specs.declared.reading.Entry.TheVariants.{Removed, Changed, Same}
use Rattle.q3_entity.specs.declared.error.EntityError.{EntityError}
use Rattle.q3_entity.specs.Entities.{RiseFrom, IsList, most_entities, with_number}
use Rattle.q3_entity.specs.Baselines.{Baselines}
use Rattle.q3_entity.specs.Laws.{ListRises}
use Rattle.q3_entity.proofs.ListWritten.{found-number}
use Rattle.q3_entity.proofs.Steps.{number_step}
use Rattle.q3_entity.specs.Lists.{number_at, one_more, stays, entered, numbers_at, entity_list_at}

-- numbers below a limit are below a larger one
pub rise-more : (limit more least : ℕ) (xs : List EntityState) → limit ≤ more → RiseFrom limit least xs → RiseFrom more least xs
rise-more limit more least [] below rise = tt
rise-more limit more least (x ∷ xs) below rise = (rise.0, omega (arith, rise.1), rise-more limit more (x.number + 1) xs below rise.2)

-- a list rises
pub list_rises : ListRises
list_rises table entities is_table list =
    let most : 2 ^ table.number_bits ≤ 2 ^ 16 = pow_mono is_table.number_bits.1 in
    record { rise = rise-more (end_mark table) (2 ^ 16) 0 entities (omega (arith, most)) list.rise; few = list.few }

-- one more after them
pub rise-push : (limit least : ℕ) (xs : List EntityState) (x : EntityState) → least ≤ limit → RiseFrom limit least xs → x.number ≡ limit → RiseFrom (limit + 1) least (xs ++ x ∷ [])
rise-push limit least [] x below rise is = (omega arith, omega arith, tt)
rise-push limit least (y ∷ ys) x below rise is = (rise.0, omega (arith, rise.1), rise-push limit (y.number + 1) ys x (omega (arith, rise.1)) rise.2 is)

-- entities whose numbers are below one, and not too many
record IsBelow (number : ℕ) (xs : List EntityState) : Type 0 where
  rise : RiseFrom number 0 xs
  few : length xs ≤ most_entities

-- one more that was taken
one_more-below : (number : ℕ) (xs : List EntityState) (x : EntityState) (now : List EntityState) → IsBelow number xs → x.number ≡ number → one_more xs x ≡ Ok now → IsBelow (number + 1) now
one_more-below number xs x now below is e =
    elim (cases_Bool (ltb (length xs) 256)) [
      | inl room ↦
          let made = rw room at e in
          let same : xs ++ x ∷ [] ≡ now = cc in
          let few : length xs < 256 = ltb-true (length xs) 256 room in
          subst (IsBelow (number + 1)) same (record { rise = rise-push number 0 xs x (omega arith) below.rise is; few = rw (length-append xs (x ∷ [])) (omega arith) })
      | inr full ↦ absurd (let wrong = rw full at e in cc)
    ]

-- nothing more
none-below : (number : ℕ) (xs now : List EntityState) → IsBelow number xs → (let r : Result (List EntityState) EntityError = Ok xs in r) ≡ Ok now → IsBelow (number + 1) now
none-below number xs now below e =
    let same : xs ≡ now = cc in
    subst (IsBelow (number + 1)) same (record { rise = rise-more number (number + 1) 0 xs (omega arith) below.rise; few = below.few })

stays-below : (number : ℕ) (xs : List EntityState) (from : Option EntityState) (now : List EntityState) → IsBelow number xs → ((x : EntityState) → from ≡ Some x → x.number ≡ number)
    → stays xs from ≡ Ok now → IsBelow (number + 1) now
stays-below number xs None now below named e = none-below number xs now below e
stays-below number xs (Some x) now below named e = one_more-below number xs x now below (named x refl) e

entered-below : (number : ℕ) (xs : List EntityState) (in_base : Bool) (kind : Entry) (words : List ℕ) (now : List EntityState) → IsBelow number xs
    → entered xs in_base number kind words ≡ Ok now → IsBelow (number + 1) now
entered-below number xs true Removed words now below e = none-below number xs now below e
entered-below number xs false Removed words now below e = absurd cc
entered-below number xs in_base Changed words now below e = one_more-below number xs _ now below refl e
entered-below number xs in_base Same words now below e = one_more-below number xs _ now below refl e

numbers_below : (words : List (List Bool)) (table : Layout) (baselines : Baselines) (base : List EntityState) (left number next : ℕ) (entities : List EntityState) (bits : List Bool)
    (found : List EntityState × List Bool) → IsBelow number entities → numbers_at words table baselines base left number next entities bits ≡ Ok found → IsBelow (number + left) found.0
unfolding numbers_at
numbers_below words table baselines base zero number next entities bits found below e =
    let same : (entities, bits) ≡ found = cc in
    let all : number + 0 ≡ number = omega arith in
    rw all (subst (λ (f : List EntityState × List Bool). IsBelow number f.0) same below)
numbers_below words table baselines base (suc left) number next entities bits found below e =
    let sum : number + 1 + left ≡ number + suc left = omega arith in
    subst (λ (n : ℕ). IsBelow n found.0) sum
    (elim (number_step words table baselines base left number next entities bits found e) [
      | inl r ↦
          numbers_below words table baselines base left (number + 1) r.more.0 r.now r.more.1 found (entered-below number entities (is_some (with_number number base)) r.entry.0.0 r.entry.0.1 r.now below r.now_is) r.others
      | inr r ↦
          numbers_below words table baselines base left (number + 1) next r.kept bits found (stays-below number entities (with_number number base) r.kept below (found-number number base) r.kept_is) r.others
    ])

pub list_is_listed : (words : List (List Bool)) (table : Layout) (baselines : Baselines) (base : List EntityState) (bits : List Bool) (now : List EntityState) (rest : List Bool)
    → entity_list_at words table baselines base bits ≡ Ok (now, rest) → IsList table now
unfolding entity_list_at
list_is_listed words table baselines base bits now rest e =
    let first = bind_ok (number_at words table 0 bits) (λ first. numbers_at words table baselines base (end_mark table) 0 first.0 [] first.1) (now, rest) e in
    let below = numbers_below words table baselines base (end_mark table) 0 first.0.0 [] first.0.1 (now, rest) (record { rise = tt; few = omega arith }) first.2 in
    let all : 0 + end_mark table ≡ end_mark table = omega arith in
    record { rise = subst (λ (n : ℕ). RiseFrom n 0 now) all below.rise; few = below.few }
