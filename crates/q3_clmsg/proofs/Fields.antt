-- The fields of a move, one after the other.
use Rattle.std.proofs.Common.{◌≡◌, ℕ, zero, suc, ◌+◌, ◌^◌, ◌≤◌, ◌<◌, Bool, List, [], ◌∷◌, ◌++◌, length, drop, set, get_or, Ok, Err, refl, sym, arith}
use Rattle.std.proofs.lemmas.List.{drop_more, drop_all}
use Rattle.q3_bits.specs.declared.reader.ReadError.{ReadError}
use Rattle.q3_bits.specs.InPlace.{with_first}
use Rattle.q3_clmsg.specs.Moves.{AreFields, field_delta, fields_bits, field_over, fields_at}

-- three values are those at their places
pub three_values : (xs : List ℕ) → length xs ≡ 3 → xs ≡ get_or xs 0 0 ∷ get_or xs 1 0 ∷ get_or xs 2 0 ∷ []
three_values [] long = absurd (omega (arith, long))
three_values (a ∷ []) long = absurd (omega (arith, long))
three_values (a ∷ b ∷ []) long = absurd (omega (arith, long))
three_values (a ∷ b ∷ c ∷ []) long = refl
three_values (a ∷ b ∷ c ∷ d ∷ xs) long = absurd (omega (arith, long))

-- each field fits its width
pub field_fits : (widths fields : List ℕ) (k : ℕ) → AreFields widths fields → k < length widths → k < length fields → get_or fields k 0 < 2 ^ get_or widths k 0
field_fits [] fields k are within within' = absurd (omega (arith, within))
field_fits (width ∷ widths) [] k are within within' = absurd (omega (arith, within'))
field_fits (width ∷ widths) (field ∷ fields) zero are within within' = are.0
field_fits (width ∷ widths) (field ∷ fields) (suc k) are within within' = field_fits widths fields k are.1 (omega arith) (omega arith)

-- with another that fits, each still does
pub fields_set : (widths fields : List ℕ) (k y : ℕ) → AreFields widths fields → y < 2 ^ get_or widths k 0 → AreFields widths (set fields k y)
fields_set [] fields k y are fits = tt
fields_set (width ∷ widths) [] k y are fits = tt
fields_set (width ∷ widths) (field ∷ fields) zero y are fits = (fits, are.1)
fields_set (width ∷ widths) (field ∷ fields) (suc k) y are fits = (are.0, fields_set widths fields k y are.1 fits)

-- ---- what is written

-- what is left of the text, one field on
pub fields_bits-next : (words same : List (List Bool)) (key : ℕ) (widths from to : List ℕ) (k : ℕ) → same ≡ words
    → k < length widths → k < length from → k < length to
    → fields_bits words key (drop k widths) (drop k from) (drop k to)
    ≡ field_delta same key (get_or widths k 0) (get_or from k 0) (get_or to k 0) ++ fields_bits words key (drop (k + 1) widths) (drop (k + 1) from) (drop (k + 1) to)
unfolding fields_bits
fields_bits-next words same key widths from to k is more within within' =
    rw (is, drop_more widths k 0 more, drop_more from k 0 within, drop_more to k 0 within') refl

-- nothing is left at the end
pub fields_bits-end : (words : List (List Bool)) (key : ℕ) (widths from to : List ℕ) (k : ℕ) → length widths ≤ k → fields_bits words key (drop k widths) from to ≡ []
unfolding fields_bits
fields_bits-end words key widths from to k past = rw (drop_all k widths past) refl

-- ---- what is read

-- one field more
pub fields_at-next : (words same : List (List Bool)) (key : ℕ) (widths from : List ℕ) (k x y : ℕ) (bits next : List Bool) → same ≡ words
    → k < length widths → k < length from → x ≡ get_or from k 0 → Ok (y, next) ≡ field_over same key (get_or widths k 0) x bits
    → fields_at words key (drop k widths) (drop k from) bits ≡ with_first y (fields_at words key (drop (k + 1) widths) (drop (k + 1) from) next)
unfolding fields_at
fields_at-next words same key widths from k x y bits next is more within old read =
    let first : field_over words key (get_or widths k 0) (get_or from k 0) bits ≡ Ok (y, next) = rw (← is, ← old) (sym read) in
    rw (drop_more widths k 0 more, drop_more from k 0 within, first) refl

-- a fault in the next
pub fields_at-fault : (words same : List (List Bool)) (key : ℕ) (widths from : List ℕ) (k x : ℕ) (bits : List Bool) (e : ReadError) → same ≡ words
    → k < length widths → k < length from → x ≡ get_or from k 0 → Err e ≡ field_over same key (get_or widths k 0) x bits
    → fields_at words key (drop k widths) (drop k from) bits ≡ Err e
unfolding fields_at
fields_at-fault words same key widths from k x bits e is more within old read =
    let first : field_over words key (get_or widths k 0) (get_or from k 0) bits ≡ Err e = rw (← is, ← old) (sym read) in
    rw (drop_more widths k 0 more, drop_more from k 0 within, first) refl

-- no field is left
pub fields_at-end : (words : List (List Bool)) (key : ℕ) (widths from : List ℕ) (k : ℕ) (bits : List Bool) → length widths ≤ k → length from ≤ k
    → fields_at words key (drop k widths) (drop k from) bits ≡ Ok (drop k from, bits)
unfolding fields_at
fields_at-end words key widths from k bits past past' = rw (drop_all k widths past, drop_all k from past') refl
