-- A list that is passed over, turn by turn.
use Rattle.std.proofs.Common.{◌≡◌, ℕ, zero, suc, ◌+◌, ◌-◌, ◌<◌, ◌≤◌, Bool, List, Result, Ok, Err, refl, sym, ◌∙◌, arith, replicate, inl, inr}
use Rattle.std.proofs.lemmas.Bool.{cases_eq, eq-eqb, ne_eqb}
use Rattle.q3_bits.specs.ResultBind.{◌>>=◌}
use Rattle.q3_bits.proofs.Binds.{bind_same, bind_assoc}
use Rattle.q3_fields.specs.Kinds.{Layout, end_mark}
use Rattle.q3_entity.specs.declared.error.EntityError.{EntityError}
use Rattle.q3_entity.specs.Delta.{entity_at}
use Rattle.q3_entity.specs.Lists.{number_at, numbers_skipped, list_skipped}
use Rattle.q3_entity.specs.Walking.{skipped_at}
use Rattle.q3_entity.proofs.Turns.{number_at-least}

abbrev pub Skipped : Type 0
Skipped = Result (Unit {0} × List Bool) EntityError

-- from the number of an entry on
abbrev pub skipped_from : List (List Bool) → Layout → ℕ × List Bool → Skipped
skipped_from words table next = numbers_skipped words table (end_mark table - next.0) next.0 next.0 next.1

-- numbers without an entry are passed over
skip_jump : (words : List (List Bool)) (table : Layout) (left number next : ℕ) (bits : List Bool) → left + number ≡ end_mark table → number ≤ next
    → numbers_skipped words table left number next bits ≡ skipped_from words table (next, bits)
unfolding numbers_skipped
skip_jump words table zero number next bits sum below =
    let none : end_mark table - next ≡ 0 = omega arith in
    rw none refl
skip_jump words table (suc left) number next bits sum below =
    elim (cases_eq number next) [
      | inl same ↦
          let all : end_mark table - number ≡ suc left = omega arith in
          rw (← same, all) refl
      | inr other ↦ rw (ne_eqb number next other) (skip_jump words table left (number + 1) next bits (omega arith) (omega arith))
    ]

-- a whole list, from its first number on
pub skip_begins : (words : List (List Bool)) (table : Layout) (bits : List Bool) → list_skipped words table bits ≡ (number_at words table 0 bits >>= skipped_from words table)
unfolding list_skipped
skip_begins words table bits =
    bind_same (number_at words table 0 bits) (λ first. numbers_skipped words table (end_mark table) 0 first.0 first.1) (skipped_from words table)
    (λ first is. skip_jump words table (end_mark table) 0 first.0 first.1 (omega arith) (omega arith))

-- a turn: the entry, and the number after it
pub skip_turns : (words : List (List Bool)) (table : Layout) (next : ℕ) (bits : List Bool) → next < end_mark table
    → skipped_from words table (next, bits) ≡ (skipped_at words table (replicate 64 0) next bits >>= skipped_from words table)
unfolding numbers_skipped skipped_at
skip_turns words table next bits below =
    let rest = end_mark table - (next + 1) in
    let all : end_mark table - next ≡ suc rest = omega arith in
    let read = entity_at words table (replicate 64 0) bits in
    rw (all, eq-eqb next next refl)
    (bind_same read (λ entry. number_at words table (next + 1) entry.1 >>= λ more. numbers_skipped words table rest (next + 1) more.0 more.1)
    (λ entry. number_at words table (next + 1) entry.1 >>= skipped_from words table)
    (λ entry is.
    bind_same (number_at words table (next + 1) entry.1) (λ more. numbers_skipped words table rest (next + 1) more.0 more.1) (skipped_from words table)
    (λ more is'. skip_jump words table rest (next + 1) more.0 more.1 (omega arith) (number_at-least words table (next + 1) entry.1 more is')))
    ∙ sym (bind_assoc read (λ entry. number_at words table (next + 1) entry.1) (skipped_from words table)))

-- what the code passes over, as a whole list is passed over: its beginning
pub skip_begun : (words : List (List Bool)) (table : Layout) (bits : List Bool) (next : ℕ) (left : List Bool) → Ok (next, left) ≡ number_at words table 0 bits
    → skipped_from words table (next, left) ≡ list_skipped words table bits
skip_begun words table bits next left e = rw (skip_begins words table bits, ← e) refl

pub skip_refused : (words : List (List Bool)) (table : Layout) (bits : List Bool) (e : EntityError) → Err e ≡ number_at words table 0 bits → Err e ≡ list_skipped words table bits
skip_refused words table bits e is = rw (skip_begins words table bits, ← is) refl

-- a turn
pub skip_goes_on : (words same : List (List Bool)) (table : Layout) (from : List ℕ) (next : ℕ) (bits : List Bool) (more : ℕ) (left : List Bool) → same ≡ words → from ≡ replicate 64 0
    → next < end_mark table → Ok (more, left) ≡ skipped_at same table from next bits → skipped_from words table (more, left) ≡ skipped_from words table (next, bits)
skip_goes_on words same table from next bits more left is all below e = rw (skip_turns words table next bits below, ← is, ← all, ← e) refl

pub skip_stops : (words same : List (List Bool)) (table : Layout) (from : List ℕ) (next : ℕ) (bits : List Bool) (e : EntityError) → same ≡ words → from ≡ replicate 64 0
    → next < end_mark table → Err e ≡ skipped_at same table from next bits → Err e ≡ skipped_from words table (next, bits)
skip_stops words same table from next bits e is all below stop = rw (skip_turns words table next bits below, ← is, ← all, ← stop) refl

-- and its end
pub skip_ends : (words : List (List Bool)) (table : Layout) (next : ℕ) (bits : List Bool) → end_mark table ≤ next → skipped_from words table (next, bits) ≡ Ok (tt, bits)
unfolding numbers_skipped
skip_ends words table next bits past =
    let none : end_mark table - next ≡ 0 = omega arith in
    rw none refl
