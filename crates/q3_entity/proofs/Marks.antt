-- The two marks of an entry, of a removal and of a change, as a run.
use Rattle.std.proofs.Common.{◌≡◌, ℕ, zero, suc, Bool, true, false, List, [], ◌∷◌, Result, Ok, Err, refl, sym, ap}
use Rattle.q3_bits.specs.Words.{run_at}
use Rattle.q3_bits.specs.Laws.{MarksAreBits}
use Rattle.q3_bits.specs.declared.reader.ReadError.{ReadError}
use Rattle.q3_fields.specs.Kinds.{Layout}
use Rattle.q3_fields.specs.declared.delta.StateKind.TheVariants.{Entity}
use Rattle.q3_fields.specs.declared.delta.DeltaError.{DeltaError}
use Rattle.q3_fields.specs.Deltas.{words_at}
use Rattle.q3_entity.specs.declared.reading.Entry.{Entry}
use Rattle.q3_entity.specs.declared.reading.Entry.TheVariants.{Removed, Changed, Same}
use Rattle.q3_entity.specs.declared.error.EntityError.{EntityError}
use Rattle.q3_entity.specs.declared.error.EntityError.TheVariants.{Bits}
use Rattle.q3_entity.specs.Delta.{entity_at, delta_at, entity_error}

-- what follows so many marks of 0
unfoldable pub after_marks : List (List Bool) → Layout → List ℕ → ℕ → List Bool → Result ((Entry × List ℕ) × List Bool) EntityError
after_marks words table from zero bits = Ok ((Removed, from), bits)
after_marks words table from (suc zero) bits = delta_at words table from bits
after_marks words table from (suc (suc n)) bits = Ok ((Same, from), bits)

abbrev run_told : ℕ → List Bool → Result (ℕ × List Bool) ReadError
run_told n rest = Ok (n, rest)

told_parts : (x y : ℕ) (rest other : List Bool) → run_told x rest ≡ run_told y other → (x ≡ y) × (rest ≡ other)
told_parts x y rest other e =
    let whole : (λ (p : ℕ × List Bool). p) (x, rest) ≡ (y, other) = cc in
    (ap (λ (p : ℕ × List Bool). p.0) whole, ap (λ (p : ℕ × List Bool). p.1) whole)

pub entry_marked : MarksAreBits → (words : List (List Bool)) (table : Layout) (from : List ℕ) (bits rest : List Bool) (n : ℕ) → run_told n rest ≡ run_at 2 bits
    → after_marks words table from n rest ≡ entity_at words table from bits
unfolding run_at entity_at after_marks
entry_marked marks words table from [] rest n read = absurd cc
entry_marked marks words table from (true ∷ bits) rest n read =
    let parts = told_parts n 0 rest bits read in
    rw (marks.here words true bits, parts.0, parts.1) refl
entry_marked marks words table from (false ∷ []) rest n read = absurd cc
entry_marked marks words table from (false ∷ true ∷ bits) rest n read =
    let parts = told_parts n 1 rest bits read in
    rw (marks.here words false (true ∷ bits), marks.here words true bits, parts.0, parts.1) refl
entry_marked marks words table from (false ∷ false ∷ bits) rest n read =
    let parts = told_parts n 2 rest bits read in
    rw (marks.here words false (false ∷ bits), marks.here words false bits, parts.0, parts.1) refl

-- the bits end in the marks
pub entry_unmarked : MarksAreBits → (words : List (List Bool)) (table : Layout) (from : List ℕ) (bits : List Bool) (e : ReadError)
    → (let r : Result (ℕ × List Bool) ReadError = Err e in r) ≡ run_at 2 bits
    → (let r : Result ((Entry × List ℕ) × List Bool) EntityError = Err (Bits e) in r) ≡ entity_at words table from bits
unfolding run_at entity_at
entry_unmarked marks words table from [] e read = rw (marks.none words) cc
entry_unmarked marks words table from (true ∷ bits) e read = absurd cc
entry_unmarked marks words table from (false ∷ []) e read = rw (marks.here words false [], marks.none words) cc
entry_unmarked marks words table from (false ∷ true ∷ bits) e read = absurd cc
entry_unmarked marks words table from (false ∷ false ∷ bits) e read = absurd cc

-- the delta after the marks, where the reader's words are the same
pub delta_read : (words words' : List (List Bool)) (table : Layout) (from to : List ℕ) (bits rest : List Bool) → words' ≡ words
    → (let r : Result (List ℕ × List Bool) DeltaError = Ok (to, rest) in r) ≡ words_at Entity words' table.kinds from bits
    → (let r : Result ((Entry × List ℕ) × List Bool) EntityError = Ok ((Changed, to), rest) in r) ≡ delta_at words table from bits
delta_read words words' table from to bits rest same read = rw (sym same, sym read) refl

pub delta_fault : (words words' : List (List Bool)) (table : Layout) (from : List ℕ) (bits : List Bool) (e : DeltaError) → words' ≡ words
    → (let r : Result (List ℕ × List Bool) DeltaError = Err e in r) ≡ words_at Entity words' table.kinds from bits
    → (let r : Result ((Entry × List ℕ) × List Bool) EntityError = Err (entity_error e) in r) ≡ delta_at words table from bits
delta_fault words words' table from bits e same read = rw (sym same, sym read) refl
