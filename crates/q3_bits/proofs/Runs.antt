-- Runs of marks.
use Rattle.std.proofs.Common.{◌≡◌, ◌⊎◌, ℕ, zero, suc, ◌+◌, ◌-◌, ◌/◌, ◌%◌, ◌^◌, ◌<◌, ◌≤◌, eqb, Bool, true, false, List, [], ◌∷◌, ◌++◌, length, min, Ok, Err, refl, ap, ◌∙◌, inl, inr, arith}
use Rattle.std.proofs.lemmas.Bool.{cases_lt}
use Rattle.std.proofs.lemmas.Nat.{shr-shr}
use Rattle.std.proofs.lemmas.List.{append-nil, nil_from_length}
use Rattle.std.specs.Int.Count.{count_trailing_zeros, under}
use Rattle.q3_bits.specs.declared.reader.ReadError.{ReadError}
use Rattle.q3_bits.specs.declared.reader.ReadError.TheVariants.{End}
use Rattle.q3_bits.specs.Bits.{low_bits, bits_of}
use Rattle.q3_bits.specs.Words.{run_at}
use Rattle.q3_bits.proofs.Numbers.{low_bits-zero, low_bits-suc, bits_of-nil}

-- how a run goes on
run-zero : (bits : List Bool) → run_at 0 bits ≡ Ok (0, bits)
unfolding run_at
run-zero bits = refl

run-end : (limit : ℕ) → run_at (suc limit) [] ≡ Err End
unfolding run_at
run-end limit = refl

run-one : (limit : ℕ) (bits : List Bool) → run_at (suc limit) (true ∷ bits) ≡ Ok (0, bits)
unfolding run_at
run-one limit bits = refl

run-more : (limit zeros : ℕ) (bits rest : List Bool) → run_at limit bits ≡ Ok (zeros, rest) → run_at (suc limit) (false ∷ bits) ≡ Ok (zeros + 1, rest)
unfolding run_at
run-more limit count bits rest is = rw is refl

run-short : (limit : ℕ) (bits : List Bool) (e : ReadError) → run_at limit bits ≡ Err e → run_at (suc limit) (false ∷ bits) ≡ Err e
unfolding run_at
run-short limit bits e is = rw is refl

-- how the zeros of a number go on
zeros-odd : (k n : ℕ) → n % 2 ≡ 1 → count_trailing_zeros (suc k) n ≡ 0
unfolding count_trailing_zeros
zeros-odd k n odd = ap (λ (d : ℕ). under d (count_trailing_zeros k (n / 2))) odd

zeros-even : (k n : ℕ) → n % 2 ≡ 0 → count_trailing_zeros (suc k) n ≡ suc (count_trailing_zeros k (n / 2))
unfolding count_trailing_zeros
zeros-even k n even = ap (λ (d : ℕ). under d (count_trailing_zeros k (n / 2))) even

bits-odd : (count n : ℕ) (rest : List Bool) → n % 2 ≡ 1 → low_bits (suc count) n ++ rest ≡ true ∷ (low_bits count (n / 2) ++ rest)
bits-odd count n rest odd = ap (λ (xs : List Bool). xs ++ rest) (low_bits-suc count n ∙ ap (λ (d : ℕ). eqb d 1 ∷ low_bits count (n / 2)) odd)

bits-even : (count n : ℕ) (rest : List Bool) → n % 2 ≡ 0 → low_bits (suc count) n ++ rest ≡ false ∷ (low_bits count (n / 2) ++ rest)
bits-even count n rest even = ap (λ (xs : List Bool). xs ++ rest) (low_bits-suc count n ∙ ap (λ (d : ℕ). eqb d 1 ∷ low_bits count (n / 2)) even)

-- a run in the bits of a number
pub run-found : (limit count k n z l : ℕ) (rest : List Bool) → count ≤ k → z ≡ min (count_trailing_zeros k n) limit → l ≡ min (count_trailing_zeros k n + 1) limit → l ≤ count
    → run_at limit (low_bits count n ++ rest) ≡ Ok (z, low_bits (count - l) (n / 2 ^ l) ++ rest)
run-found zero count k n z l rest few zs ls within =
    let none : z ≡ 0 = omega arith in
    let nothing : l ≡ 0 = omega arith in
    let whole : count - 0 ≡ count = omega arith in
    let same : n / 2 ^ 0 ≡ n = omega arith in
    rw (none, nothing, whole, same) (run-zero (low_bits count n ++ rest))
run-found (suc limit) zero k n z l rest few zs ls within = absurd (omega arith)
run-found (suc limit) (suc count) zero n z l rest few zs ls within = absurd (omega arith)
run-found (suc limit) (suc count) (suc k) n z l rest few zs ls within =
    elim (cases_lt (n % 2) 1) [
      | inl low ↦
          let even : n % 2 ≡ 0 = omega arith in
          let more = zeros-even k n even in
          let some : z ≡ (z - 1) + 1 = omega (arith, more) in
          let left : suc count - l ≡ count - (l - 1) = omega (arith, more) in
          let high : n / 2 / 2 ^ (l - 1) ≡ n / 2 ^ l = shr-shr n 1 (l - 1) ∙ ap (λ (j : ℕ). n / 2 ^ j) (omega (arith, more)) in
          let others = run-found limit count k (n / 2) (z - 1) (l - 1) rest (omega arith) (omega (arith, more)) (omega (arith, more)) (omega (arith, more)) in
          ap (run_at (suc limit)) (bits-even count n rest even)
          ∙ run-more limit (z - 1) (low_bits count (n / 2) ++ rest) (low_bits (count - (l - 1)) (n / 2 / 2 ^ (l - 1)) ++ rest) others
          ∙ rw (← some, left, high) refl
      | inr high ↦
          let odd : n % 2 ≡ 1 = omega arith in
          let none = zeros-odd k n odd in
          let no : z ≡ 0 = omega (arith, none) in
          let one : l ≡ 1 = omega (arith, none) in
          let whole : suc count - 1 ≡ count = omega arith in
          ap (run_at (suc limit)) (bits-odd count n rest odd) ∙ run-one limit (low_bits count (n / 2) ++ rest) ∙ rw (no, one, whole) refl
    ]

-- bits that end in a run
pub run-ended : (limit count k n : ℕ) → count ≤ k → count < min (count_trailing_zeros k n + 1) limit → run_at limit (low_bits count n) ≡ Err End
run-ended zero count k n few past = absurd (omega arith)
run-ended (suc limit) zero k n few past = ap (run_at (suc limit)) (low_bits-zero n) ∙ run-end limit
run-ended (suc limit) (suc count) zero n few past = absurd (omega arith)
run-ended (suc limit) (suc count) (suc k) n few past =
    elim (cases_lt (n % 2) 1) [
      | inl low ↦
          let even : n % 2 ≡ 0 = omega arith in
          let more = zeros-even k n even in
          let here : low_bits (suc count) n ≡ false ∷ low_bits count (n / 2) = low_bits-suc count n ∙ ap (λ (d : ℕ). eqb d 1 ∷ low_bits count (n / 2)) even in
          ap (run_at (suc limit)) here ∙ run-short limit (low_bits count (n / 2)) End (run-ended limit count k (n / 2) (omega arith) (omega (arith, more)))
      | inr high ↦
          let odd : n % 2 ≡ 1 = omega arith in
          absurd (omega (arith, zeros-odd k n odd))
    ]

-- and bytes that do
pub run-none : (limit count n : ℕ) (bytes : List ℕ) → count < 64 → count < min (count_trailing_zeros 64 n + 1) limit → limit ≤ 56 → (56 ≤ count) ⊎ (length bytes ≡ 0)
    → run_at limit (low_bits count n ++ bits_of bytes) ≡ Err End
run-none limit count n bytes few past short (inl many) = absurd (omega arith)
run-none limit count n bytes few past short (inr none) =
    let nothing : bits_of bytes ≡ [] = ap bits_of (nil_from_length bytes none) ∙ bits_of-nil in
    ap (run_at limit) (ap (λ (xs : List Bool). low_bits count n ++ xs) nothing ∙ append-nil (low_bits count n)) ∙ run-ended limit count 64 n (omega arith) past
