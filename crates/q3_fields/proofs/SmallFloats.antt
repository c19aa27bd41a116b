-- Small floats: a pattern is that of one number, and a search for it finds this number.
use Rattle.std.proofs.Common.{◌≡◌, ◌≢◌, ℕ, zero, suc, ◌+◌, ◌%◌, ◌≤◌, ◌<◌, Bool, true, false, eqb, List, map, ℤ, pos, negsuc, ◌-ℤ◌, Option, Some, None, refl, sym, ap, ◌∙◌, arith, inl, inr}
use Rattle.std.specs.List.{find, range_with_len}
use Rattle.std.proofs.lemmas.Bool.{cases_Bool, eqb-true, eqb-false, ne_eqb}
use Rattle.std.proofs.lemmas.Int.{ints}
use Rattle.q3_fields.specs.Floats.{magnitude, pattern, small_numbers, small_float}
use Rattle.q3_fields.specs.Texts.{biased, unbiased}
use Rattle.q3_fields.specs.Laws.{IsSmall}
use Rattle.q3_fields.proofs.Magnitudes.{magnitude-leading, magnitude-below, magnitude-low}

-- ---- patterns

magnitude-same : (m n : ℕ) → 1 ≤ m → m ≤ 4096 → 1 ≤ n → n ≤ 4096 → magnitude m ≡ magnitude n → m ≡ n
magnitude-same m n some most some' most' same = sym (magnitude-leading m (magnitude n) some most same) ∙ magnitude-leading n (magnitude n) some' most' refl

-- a number at its size
positive-small : (k : ℕ) → IsSmall (pos (suc k)) → k + 1 ≤ 4096
positive-small k h = omega (arith, ints, h.most)

negative-small : (k : ℕ) → IsSmall (negsuc k) → k + 1 ≤ 4096
negative-small k h = omega (arith, ints, h.least)

-- a pattern is that of one small number
pub pattern-same : (j k : ℤ) → IsSmall j → IsSmall k → pattern j ≡ pattern k → j ≡ k
unfolding pattern
pattern-same (pos zero) (pos zero) h h' e = refl
pattern-same (pos zero) (pos (suc k)) h h' e = absurd (omega (arith, (magnitude-below (k + 1) (omega arith) (positive-small k h')).0))
pattern-same (pos zero) (negsuc k) h h' e = absurd (omega arith)
pattern-same (pos (suc j)) (pos zero) h h' e = absurd (omega (arith, (magnitude-below (j + 1) (omega arith) (positive-small j h)).0))
pattern-same (pos (suc j)) (pos (suc k)) h h' e =
    let same = magnitude-same (j + 1) (k + 1) (omega arith) (positive-small j h) (omega arith) (positive-small k h') e in
    let one : j ≡ k = omega (arith, same) in
    ap (λ n. pos (suc n)) one
pattern-same (pos (suc j)) (negsuc k) h h' e = absurd (omega (arith, (magnitude-below (j + 1) (omega arith) (positive-small j h)).1))
pattern-same (negsuc j) (pos zero) h h' e = absurd (omega arith)
pattern-same (negsuc j) (pos (suc k)) h h' e = absurd (omega (arith, (magnitude-below (k + 1) (omega arith) (positive-small k h')).1))
pattern-same (negsuc j) (negsuc k) h h' e =
    let same = magnitude-same (j + 1) (k + 1) (omega arith) (negative-small j h) (omega arith) (negative-small k h') (omega arith) in
    let one : j ≡ k = omega (arith, same) in
    ap negsuc one

-- no pattern is that of a negative zero
pub pattern-no_negative_zero : (k : ℤ) → IsSmall k → pattern k ≢ 2147483648
unfolding pattern
pattern-no_negative_zero (pos zero) h e = absurd (omega arith)
pattern-no_negative_zero (pos (suc k)) h e = absurd (omega (arith, (magnitude-below (k + 1) (omega arith) (positive-small k h)).1))
pattern-no_negative_zero (negsuc k) h e = absurd (omega (arith, (magnitude-below (k + 1) (omega arith) (negative-small k h)).0))

-- the lowest bits of a pattern are 0
pattern-low : (k : ℤ) → IsSmall k → pattern k % 2048 ≡ 0
unfolding pattern
pattern-low (pos zero) h = refl
pattern-low (pos (suc k)) h = magnitude-low (k + 1) (omega arith) (positive-small k h)
pattern-low (negsuc k) h = omega (arith, magnitude-low (k + 1) (omega arith) (negative-small k h))

-- a pattern is a word
pub pattern-fits : (k : ℤ) → IsSmall k → pattern k < 4294967296
unfolding pattern
pattern-fits (pos zero) h = omega arith
pattern-fits (pos (suc k)) h = omega (arith, (magnitude-below (k + 1) (omega arith) (positive-small k h)).1)
pattern-fits (negsuc k) h = omega (arith, (magnitude-below (k + 1) (omega arith) (negative-small k h)).1)

-- ---- a search

-- so many numbers from a start on, as a function gives them
abbrev given : (ℕ → ℤ) → ℕ → ℕ → List ℤ
given f j count = map f (range_with_len j count)

-- what is found is given by one of them
find_some : (p : ℤ → Bool) (f : ℕ → ℤ) (j count : ℕ) (x : ℤ) → find p (given f j count) ≡ Some x
    → (n : ℕ) × (j ≤ n) × (n < j + count) × (f n ≡ x) × (p x ≡ true)
find_some p f j zero x e = absurd cc
find_some p f j (suc count) x e =
    elim (cases_Bool (p (f j))) [
      | inl passes ↦
          let is : f j ≡ x = (let found : Some (f j) ≡ Some x = rw passes at e in cc) in
          (j, omega arith, omega arith, is, rw (← is) passes)
      | inr fails ↦
          let more = find_some p f (j + 1) count x (rw fails at e) in
          (more.0, omega (arith, more.1), omega (arith, more.2), more.3, more.4)
    ]

-- where nothing is found, none of them passes
find_none : (p : ℤ → Bool) (f : ℕ → ℤ) (j count : ℕ) → find p (given f j count) ≡ None → (n : ℕ) → j ≤ n → n < j + count → p (f n) ≡ false
find_none p f j zero e n least most = absurd (omega arith)
find_none p f j (suc count) e n least most =
    elim (cases_Bool (p (f j))) [
      | inl passes ↦ let found : Some (f j) ≡ None = rw passes at e in absurd cc
      | inr fails ↦
          elim (cases_Bool (eqb j n)) [
            | inl here ↦ rw (← eqb-true j n here) fails
            | inr later ↦ find_none p f (j + 1) count (rw fails at e) n (omega (arith, eqb-false j n later)) (omega arith)
          ]
    ]

-- the small numbers, so many
unfoldable numbers : ℕ → List ℤ
numbers count = map (λ n. pos n -ℤ pos 4096) (range_with_len 0 count)

small_numbers-are : small_numbers ≡ numbers 8192
unfolding small_numbers numbers
small_numbers-are = refl

-- ---- the numbers that 13 bits carry

pub unbiased-small : (value : ℕ) → value < 8192 → IsSmall (unbiased value)
unbiased-small value h = record { least = omega (arith, ints); most = omega (arith, ints) }

pub biased-unbiased : (value : ℕ) → biased (unbiased value) ≡ value
biased-unbiased value = omega (arith, ints)

pub unbiased-biased : (k : ℤ) → IsSmall k → unbiased (biased k) ≡ k
unbiased-biased k h = omega (arith, ints, h.least)

pub biased-fits : (k : ℤ) → IsSmall k → biased k < 8192
biased-fits k h = omega (arith, ints, h.least, h.most)

-- ---- the number of a pattern

small_float-search : (word : ℕ) → word ≢ 2147483648 → small_float word ≡ find (λ k. eqb (pattern k) word) (numbers 8192)
unfolding small_float
small_float-search word other = rw (ne_eqb word 2147483648 other) (ap (find (λ k. eqb (pattern k) word)) small_numbers-are)

-- the number that is found is small, and has the pattern
pub small_float-some : (word : ℕ) (k : ℤ) → word ≢ 2147483648 → small_float word ≡ Some k → IsSmall k × (pattern k ≡ word)
unfolding numbers
small_float-some word k other e =
    let found = find_some (λ k. eqb (pattern k) word) unbiased 0 8192 k (sym (small_float-search word other) ∙ e) in
    (rw (← found.3) (unbiased-small found.0 found.2), eqb-true (pattern k) word found.4)

-- where none is found, no small number has the pattern
pub small_float-none : (word : ℕ) → word ≢ 2147483648 → small_float word ≡ None → (k : ℤ) → IsSmall k → pattern k ≢ word
unfolding numbers
small_float-none word other e k h same =
    let fails = find_none (λ k. eqb (pattern k) word) unbiased 0 8192 (sym (small_float-search word other) ∙ e) (biased k) (omega arith) (biased-fits k h) in
    eqb-false (pattern k) word (rw (unbiased-biased k h) at fails) same

-- the number of a pattern is found
pub small_float-pattern : (k : ℤ) → IsSmall k → small_float (pattern k) ≡ Some k
small_float-pattern k h = go (small_float (pattern k)) refl
  where
    go : (o : Option ℤ) → small_float (pattern k) ≡ o → small_float (pattern k) ≡ Some k
    go (Some j) e =
        let found = small_float-some (pattern k) j (pattern-no_negative_zero k h) e in
        e ∙ ap Some (pattern-same j k found.0 h found.1)
    go None e = absurd (small_float-none (pattern k) (pattern-no_negative_zero k h) e k h refl)

-- the only number that may have the pattern has it, or none has
pub small_float-only : (word : ℕ) (k : ℤ) → word ≢ 2147483648 → ((j : ℤ) → IsSmall j → pattern j ≡ word → j ≡ k) → pattern k ≢ word → small_float word ≡ None
small_float-only word k other only differs = go (small_float word) refl
  where
    go : (o : Option ℤ) → small_float word ≡ o → small_float word ≡ None
    go (Some j) e =
        let found = small_float-some word j other e in
        absurd (differs (ap pattern (sym (only j found.0 found.1)) ∙ found.1))
    go None e = e

-- a float whose lowest bits aren't 0 isn't small
pub small_float_low : (word : ℕ) → word % 2048 ≢ 0 → small_float word ≡ None
unfolding pattern
small_float_low word some =
    small_float-only word (pos zero) (λ e. some (ap (λ (w : ℕ). w % 2048) e)) (λ j h e. absurd (some (ap (λ (w : ℕ). w % 2048) (sym e) ∙ pattern-low j h)))
    (λ e. some (ap (λ (w : ℕ). w % 2048) (sym e)))

-- a negative zero is 0
pub small_float-negative_zero : small_float 2147483648 ≡ Some (pos 0)
unfolding small_float
small_float-negative_zero = refl

-- so is the pattern without bits
pub small_float-zero : small_float 0 ≡ Some (pos 0)
unfolding pattern
small_float-zero = small_float-pattern (pos 0) (record { least = omega (arith, ints); most = omega (arith, ints) })

-- the number that is found is small, whatever the word
pub small_float-within : (word : ℕ) (k : ℤ) → small_float word ≡ Some k → IsSmall k
small_float-within word k e =
    elim (cases_Bool (eqb word 2147483648)) [
      | inl zero_word ↦
          let none : Some k ≡ Some (pos 0) = sym e ∙ ap small_float (eqb-true word 2147483648 zero_word) ∙ small_float-negative_zero in
          let is : k ≡ pos 0 = cc in
          rw is (record { least = omega (arith, ints); most = omega (arith, ints) })
      | inr other ↦ (small_float-some word k (eqb-false word 2147483648 other) e).0
    ]

-- ---- the number that a word may be the pattern of

pub nearest-negative : (word number : ℕ) → 2147483648 ≤ word → ((m : ℕ) → 1 ≤ m → m ≤ 4096 → magnitude m ≡ word % 2147483648 → m ≡ number)
    → (k : ℤ) → IsSmall k → pattern k ≡ word → k ≡ pos 0 -ℤ pos number
unfolding pattern
nearest-negative word number sign only (pos zero) h e = absurd (omega arith)
nearest-negative word number sign only (pos (suc k)) h e = absurd (omega (arith, (magnitude-below (k + 1) (omega arith) (positive-small k h)).1))
nearest-negative word number sign only (negsuc k) h e =
    let below = magnitude-below (k + 1) (omega arith) (negative-small k h) in
    let is : k + 1 ≡ number = only (k + 1) (omega arith) (negative-small k h) (omega (arith, below.1)) in
    omega (arith, ints, is)

pub nearest-positive : (word number : ℕ) → word < 2147483648 → (word % 2147483648 ≡ 0 → number ≡ 0) → ((m : ℕ) → 1 ≤ m → m ≤ 4096 → magnitude m ≡ word % 2147483648 → m ≡ number)
    → (k : ℤ) → IsSmall k → pattern k ≡ word → k ≡ pos number
unfolding pattern
nearest-positive word number sign none only (pos zero) h e =
    let is : number ≡ 0 = none (omega arith) in
    ap pos (sym is)
nearest-positive word number sign none only (pos (suc k)) h e =
    let is : k + 1 ≡ number = only (k + 1) (omega arith) (positive-small k h) (omega arith) in
    omega (arith, ints, is)
nearest-positive word number sign none only (negsuc k) h e = absurd (omega arith)
