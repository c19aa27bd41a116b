-- The fields that a loop reads, of which those that didn't change are passed over in runs.
use Rattle.std.proofs.Common.{◌≡◌, ℕ, zero, suc, ◌+◌, ◌-◌, ◌≤◌, ◌<◌, Bool, true, false, List, [], ◌∷◌, length, take, drop, Some, slice_get, Result, Ok, Err, refl, sym, ap, ◌∙◌, arith}
use Rattle.std.proofs.lemmas.List.{drop_more, drop-drop, length-drop, length-take-le}
use Rattle.q3_bits.specs.ResultBind.{◌>>=◌}
use Rattle.q3_bits.proofs.Binds.{bind_ok}
use Rattle.q3_bits.specs.Words.{run_at}
use Rattle.q3_bits.specs.Laws.{MarksAreBits}
use Rattle.q3_bits.specs.InPlace.{ListRead, with_front, with_first}
use Rattle.q3_bits.specs.declared.reader.ReadError.{ReadError}
use Rattle.q3_bits.specs.declared.reader.ReadError.TheVariants.{End}
use Rattle.q3_fields.specs.declared.kind.Kind.{Kind}
use Rattle.q3_fields.specs.declared.delta.StateKind.{StateKind}
use Rattle.q3_fields.specs.Deltas.{changed_at, marked_field_at, fields_at}
use Rattle.q3_fields.proofs.FieldTexts.{kinds-next, kinds-end}

-- the fields of these kinds, where the mark of change of the first was read
unfoldable pub marked_after : StateKind → List (List Bool) → List Kind → List ℕ → List Bool → ListRead
marked_after state words (kind ∷ kinds) (x ∷ from) bits = changed_at state words kind bits >>= λ first. with_first first.0 (fields_at state words kinds from first.1)
marked_after state words kinds from bits = Ok (from, bits)

-- nothing in front changes nothing
front-none : (read : ListRead) → with_front [] read ≡ read
front-none (Ok x) = refl
front-none (Err e) = refl

-- a value in front of a front
front-first : (x : ℕ) (front : List ℕ) (read : ListRead) → with_first x (with_front front read) ≡ with_front (x ∷ front) read
front-first x front (Ok y) = refl
front-first x front (Err e) = refl

-- a field, and those after it
fields-same : MarksAreBits → (state : StateKind) (words : List (List Bool)) (kind : Kind) (kinds : List Kind) (x : ℕ) (from : List ℕ) (bits : List Bool)
    → fields_at state words (kind ∷ kinds) (x ∷ from) (false ∷ bits) ≡ with_first x (fields_at state words kinds from bits)
unfolding fields_at marked_field_at
fields-same marks state words kind kinds x from bits = rw (marks.here words false bits) refl

fields-changed : MarksAreBits → (state : StateKind) (words : List (List Bool)) (kind : Kind) (kinds : List Kind) (x : ℕ) (from : List ℕ) (bits : List Bool)
    → fields_at state words (kind ∷ kinds) (x ∷ from) (true ∷ bits) ≡ marked_after state words (kind ∷ kinds) (x ∷ from) bits
unfolding fields_at marked_field_at marked_after
fields-changed marks state words kind kinds x from bits = rw (marks.here words true bits) refl

fields-ended : MarksAreBits → (state : StateKind) (words : List (List Bool)) (kind : Kind) (kinds : List Kind) (x : ℕ) (from : List ℕ)
    → fields_at state words (kind ∷ kinds) (x ∷ from) [] ≡ Err End
unfolding fields_at marked_field_at
fields-ended marks state words kind kinds x from = rw (marks.none words) refl

-- the parts of an answer
abbrev told : ℕ → List Bool → Result (ℕ × List Bool) ReadError
told count rest = Ok (count, rest)

told-parts : (x y : ℕ) (rest other : List Bool) → told x rest ≡ told y other → (x ≡ y) × (rest ≡ other)
told-parts x y rest other e =
    let whole : (λ (p : ℕ × List Bool). p) (x, rest) ≡ (y, other) = cc in
    (ap (λ (p : ℕ × List Bool). p.0) whole, ap (λ (p : ℕ × List Bool). p.1) whole)

told-same : (x y : ℕ) (rest other : List Bool) → x ≡ y → rest ≡ other → told x rest ≡ told y other
told-same x y rest other same after = rw (same, after) refl

-- a run that goes on
run-on : (n : ℕ) (bits : List Bool) → run_at (suc n) (false ∷ bits) ≡ (run_at n bits >>= λ others. told (others.0 + 1) others.1)
unfolding run_at
run-on n bits = refl

run-marked : (n : ℕ) (bits : List Bool) → run_at (suc n) (true ∷ bits) ≡ told 0 bits
unfolding run_at
run-marked n bits = refl

run-nothing : (bits : List Bool) → run_at 0 bits ≡ told 0 bits
unfolding run_at
run-nothing bits = refl

run-ended : (n : ℕ) → run_at (suc n) [] ≡ Err End
unfolding run_at
run-ended n = refl

-- all of so many fields are as they were
pub run-kept : MarksAreBits → (state : StateKind) (words : List (List Bool)) (n : ℕ) (kinds : List Kind) (from : List ℕ) (bits rest : List Bool) → n ≤ length kinds → n ≤ length from
    → run_at n bits ≡ told n rest → fields_at state words kinds from bits ≡ with_front (take n from) (fields_at state words (drop n kinds) (drop n from) rest)
run-kept marks state words zero kinds from bits rest few few' e =
    let parts = told-parts 0 0 bits rest (sym (run-nothing bits) ∙ e) in
    ap (fields_at state words kinds from) parts.1 ∙ sym (front-none (fields_at state words kinds from rest))
run-kept marks state words (suc n) [] from bits rest few few' e = absurd (omega arith)
run-kept marks state words (suc n) (kind ∷ kinds) [] bits rest few few' e = absurd (omega arith)
run-kept marks state words (suc n) (kind ∷ kinds) (x ∷ from) [] rest few few' e = absurd (let bad = sym (run-ended n) ∙ e in cc)
run-kept marks state words (suc n) (kind ∷ kinds) (x ∷ from) (true ∷ bits) rest few few' e =
    let parts = told-parts 0 (suc n) bits rest (sym (run-marked n bits) ∙ e) in
    absurd (omega (arith, parts.0))
run-kept marks state words (suc n) (kind ∷ kinds) (x ∷ from) (false ∷ bits) rest few few' e =
    let others = bind_ok (run_at n bits) (λ others. told (others.0 + 1) others.1) (suc n, rest) (sym (run-on n bits) ∙ e) in
    let parts = told-parts (others.0.0 + 1) (suc n) others.0.1 rest others.2 in
    let count : others.0.0 ≡ n = omega (arith, parts.0) in
    let read : run_at n bits ≡ told n rest = others.1 ∙ told-same others.0.0 n others.0.1 rest count parts.1 in
    fields-same marks state words kind kinds x from bits
    ∙ ap (with_first x) (run-kept marks state words n kinds from bits rest (omega arith) (omega arith) read)
    ∙ front-first x (take n from) (fields_at state words (drop n kinds) (drop n from) rest)

-- fewer of them are, and the next one changed
pub run-changed : MarksAreBits → (state : StateKind) (words : List (List Bool)) (n z : ℕ) (kinds : List Kind) (from : List ℕ) (bits rest : List Bool) → n ≤ length kinds → n ≤ length from → z < n
    → run_at n bits ≡ told z rest → fields_at state words kinds from bits ≡ with_front (take z from) (marked_after state words (drop z kinds) (drop z from) rest)
run-changed marks state words zero z kinds from bits rest few few' short e = absurd (omega arith)
run-changed marks state words (suc n) z [] from bits rest few few' short e = absurd (omega arith)
run-changed marks state words (suc n) z (kind ∷ kinds) [] bits rest few few' short e = absurd (omega arith)
run-changed marks state words (suc n) z (kind ∷ kinds) (x ∷ from) [] rest few few' short e = absurd (let bad = sym (run-ended n) ∙ e in cc)
run-changed marks state words (suc n) z (kind ∷ kinds) (x ∷ from) (true ∷ bits) rest few few' short e =
    let parts = told-parts 0 z bits rest (sym (run-marked n bits) ∙ e) in
    rw (← parts.0, ← parts.1) (fields-changed marks state words kind kinds x from bits ∙ sym (front-none (marked_after state words (kind ∷ kinds) (x ∷ from) bits)))
run-changed marks state words (suc n) zero (kind ∷ kinds) (x ∷ from) (false ∷ bits) rest few few' short e =
    let others = bind_ok (run_at n bits) (λ others. told (others.0 + 1) others.1) (zero, rest) (sym (run-on n bits) ∙ e) in
    let parts = told-parts (others.0.0 + 1) zero others.0.1 rest others.2 in
    absurd (omega (arith, parts.0))
run-changed marks state words (suc n) (suc z) (kind ∷ kinds) (x ∷ from) (false ∷ bits) rest few few' short e =
    let others = bind_ok (run_at n bits) (λ others. told (others.0 + 1) others.1) (suc z, rest) (sym (run-on n bits) ∙ e) in
    let parts = told-parts (others.0.0 + 1) (suc z) others.0.1 rest others.2 in
    let count : others.0.0 ≡ z = omega (arith, parts.0) in
    let read : run_at n bits ≡ told z rest = others.1 ∙ told-same others.0.0 z others.0.1 rest count parts.1 in
    fields-same marks state words kind kinds x from bits
    ∙ ap (with_first x) (run-changed marks state words n z kinds from bits rest (omega arith) (omega arith) (omega arith) read)
    ∙ front-first x (take z from) (marked_after state words (drop z kinds) (drop z from) rest)

-- the bits end in the run
ended : (e : ReadError) → (λ (r : Result (ℕ × List Bool) ReadError). r) (Err End) ≡ Err e → (λ (r : ListRead). r) (Err End) ≡ Err e
ended e is =
    let same : End ≡ e = cc in
    ap (λ (d : ReadError). (λ (r : ListRead). r) (Err d)) same

stopped : (r : Result (ℕ × List Bool) ReadError) (e : ReadError) → (r >>= λ others. told (others.0 + 1) others.1) ≡ Err e → r ≡ Err e
stopped (Ok x) e is = absurd cc
stopped (Err d) e is = cc

pub run-fault : MarksAreBits → (state : StateKind) (words : List (List Bool)) (n : ℕ) (kinds : List Kind) (from : List ℕ) (bits : List Bool) (e : ReadError) → n ≤ length kinds → n ≤ length from
    → run_at n bits ≡ Err e → fields_at state words kinds from bits ≡ Err e
run-fault marks state words zero kinds from bits e few few' is = absurd (let bad = sym (run-nothing bits) ∙ is in cc)
run-fault marks state words (suc n) [] from bits e few few' is = absurd (omega arith)
run-fault marks state words (suc n) (kind ∷ kinds) [] bits e few few' is = absurd (omega arith)
run-fault marks state words (suc n) (kind ∷ kinds) (x ∷ from) [] e few few' is = fields-ended marks state words kind kinds x from ∙ ended e (sym (run-ended n) ∙ is)
run-fault marks state words (suc n) (kind ∷ kinds) (x ∷ from) (true ∷ bits) e few few' is = absurd (let bad = sym (run-marked n bits) ∙ is in cc)
run-fault marks state words (suc n) (kind ∷ kinds) (x ∷ from) (false ∷ bits) e few few' is =
    let read = stopped (run_at n bits) e (sym (run-on n bits) ∙ is) in
    fields-same marks state words kind kinds x from bits
    ∙ ap (with_first x) (run-fault marks state words n kinds from bits e (omega arith) (omega arith) read)

-- what the loop has left: the fields from k on
abbrev pub left_at : StateKind → List (List Bool) → List Kind → ℕ → ℕ → List ℕ → List Bool → ListRead
left_at state words table count k from bits = fields_at state words (drop k (take count table)) (drop k from) bits

abbrev pub marked_at : StateKind → List (List Bool) → List Kind → ℕ → ℕ → List ℕ → List Bool → ListRead
marked_at state words table count k from bits = marked_after state words (drop k (take count table)) (drop k from) bits

long-left : (table : List Kind) (count k : ℕ) → k ≤ count → count ≤ length table → length (drop k (take count table)) ≡ count - k
long-left table count k within few = omega (arith, length-drop k (take count table), length-take-le count table few)

-- a run that all of the next fields are in
pub left-kept : MarksAreBits → (state : StateKind) (words : List (List Bool)) (table : List Kind) (count k n : ℕ) (from : List ℕ) (bits rest : List Bool) → k + n ≤ count → count ≤ length table → count ≤ length from
    → run_at n bits ≡ told n rest → left_at state words table count k from bits ≡ with_front (take n (drop k from)) (left_at state words table count (k + n) from rest)
left-kept marks state words table count k n from bits rest within few few' e =
    run-kept marks state words n (drop k (take count table)) (drop k from) bits rest (omega (arith, long-left table count k (omega arith) few)) (omega (arith, length-drop k from)) e
    ∙ rw (drop-drop n k (take count table), drop-drop n k from) refl

-- a shorter one
pub left-changed : MarksAreBits → (state : StateKind) (words : List (List Bool)) (table : List Kind) (count k n z : ℕ) (from : List ℕ) (bits rest : List Bool) → k + n ≤ count → count ≤ length table → count ≤ length from → z < n
    → run_at n bits ≡ told z rest → left_at state words table count k from bits ≡ with_front (take z (drop k from)) (marked_at state words table count (k + z) from rest)
left-changed marks state words table count k n z from bits rest within few few' short e =
    run-changed marks state words n z (drop k (take count table)) (drop k from) bits rest (omega (arith, long-left table count k (omega arith) few)) (omega (arith, length-drop k from)) short e
    ∙ rw (drop-drop z k (take count table), drop-drop z k from) refl

pub left-fault : MarksAreBits → (state : StateKind) (words : List (List Bool)) (table : List Kind) (count k n : ℕ) (from : List ℕ) (bits : List Bool) (e : ReadError) → k + n ≤ count → count ≤ length table → count ≤ length from
    → run_at n bits ≡ Err e → left_at state words table count k from bits ≡ Err e
left-fault marks state words table count k n from bits e within few few' is =
    run-fault marks state words n (drop k (take count table)) (drop k from) bits e (omega (arith, long-left table count k (omega arith) few)) (omega (arith, length-drop k from)) is

-- a changed field
pub marked-next : (state : StateKind) (words : List (List Bool)) (table : List Kind) (count k : ℕ) (kind : Kind) (from : List ℕ) (y : ℕ) (bits next : List Bool)
    → k < count → count ≤ length table → slice_get table k ≡ Some kind → k < length from → told y next ≡ changed_at state words kind bits
    → marked_at state words table count k from bits ≡ with_first y (left_at state words table count (k + 1) from next)
unfolding marked_after
marked-next state words table count k kind from y bits next more few here within read =
    rw (kinds-next table count k kind more few here, drop_more from k 0 within, ← read) refl

-- a fault in it
pub marked-fault : (state : StateKind) (words : List (List Bool)) (table : List Kind) (count k : ℕ) (kind : Kind) (from : List ℕ) (bits : List Bool) (e : ReadError)
    → k < count → count ≤ length table → slice_get table k ≡ Some kind → k < length from → Err e ≡ changed_at state words kind bits
    → marked_at state words table count k from bits ≡ Err e
unfolding marked_after
marked-fault state words table count k kind from bits e more few here within read =
    rw (kinds-next table count k kind more few here, drop_more from k 0 within, ← read) refl

-- no field is left
pub fields_at-end : (state : StateKind) (words : List (List Bool)) (table : List Kind) (count k : ℕ) (from : List ℕ) (bits : List Bool) → count ≤ k → count ≤ length table
    → fields_at state words (drop k (take count table)) from bits ≡ Ok (from, bits)
unfolding fields_at
fields_at-end state words table count k from bits past few = rw (kinds-end table count k past few) refl
