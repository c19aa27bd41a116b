-- Steps that did not fail.
use Rattle.std.proofs.Common.{◌≡◌, ℕ, ◌^◌, ◌<◌, ◌≤◌, Bool, true, false, cond, ltb, List, ◌++◌, Result, Ok, Err, refl, subst, arith}
use Rattle.std.proofs.lemmas.Bool.{ltb-false, le-ltb}
use Rattle.std.proofs.lemmas.Nat.{pow_pos}
use Rattle.q3_bits.proofs.Binds.{bind_ok, map_err_ok}
use Rattle.q3_bits.specs.Words.{IsCode, field_bits, field_at}
use Rattle.q3_bits.specs.Laws.{ReadWasPut, PutIsRead}
use Rattle.q3_fields.specs.Kinds.{Layout, end_mark}
use Rattle.q3_entity.specs.declared.error.EntityError.{EntityError}
use Rattle.q3_entity.specs.declared.error.EntityError.TheVariants.{Bits, Order}
use Rattle.q3_entity.specs.Delta.{bits_read}
use Rattle.q3_entity.specs.Lists.{number_at}

-- a test that let pass
pub guard_ok : {A : Type 0} (b : Bool) (d : EntityError) (x y : A) → (let r : Result A EntityError = cond b (Err d) (Ok x) in r) ≡ Ok y → (b ≡ false) × (x ≡ y)
guard_ok true d x y e = absurd cc
guard_ok false d x y e = (refl, cc)

-- a number that was read: it is one that may come, and its text stands at the front
pub number_was_read : ReadWasPut → (words : List (List Bool)) (table : Layout) (least : ℕ) (bits : List Bool) (found : ℕ × List Bool) → IsCode words → number_at words table least bits ≡ Ok found
    → (least ≤ found.0) × (found.0 ≤ end_mark table) × (bits ≡ field_bits words table.number_bits found.0 ++ found.1)
unfolding number_at
number_was_read law words table least bits found code e =
    let read = bind_ok (bits_read (field_at words table.number_bits bits)) (λ number. cond (ltb number.0 least) (Err (Order number.0)) (Ok number)) found e in
    let high = guard_ok (ltb read.0.0 least) (Order read.0.0) read.0 found read.2 in
    let put = law words table.number_bits read.0.0 bits read.0.1 code (map_err_ok Bits (field_at words table.number_bits bits) read.0 read.1) in
    subst (λ (x : ℕ × List Bool). (least ≤ x.0) × (x.0 ≤ end_mark table) × (bits ≡ field_bits words table.number_bits x.0 ++ x.1)) high.1
    (ltb-false read.0.0 least high.0, omega (arith, put.0), put.1)

-- a number that may come is read
pub number_is_read : PutIsRead → (words : List (List Bool)) (table : Layout) (least number : ℕ) (rest : List Bool) → IsCode words → least ≤ number → number ≤ end_mark table
    → number_at words table least (field_bits words table.number_bits number ++ rest) ≡ Ok (number, rest)
unfolding number_at
number_is_read law words table least number rest code low high =
    let fits : number < 2 ^ table.number_bits = omega (arith, pow_pos table.number_bits) in
    rw (law words table.number_bits number rest code fits, le-ltb number least low) refl
