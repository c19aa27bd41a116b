-- Bits that are stored as eight bytes at once.
use Rattle.std.proofs.Common.{◌≡◌, ℕ, zero, suc, ◌+◌, ◌-◌, ◌*◌, ◌/◌, ◌%◌, ◌^◌, ◌<◌, ◌≤◌, List, [], ◌∷◌, ◌++◌, length, get_or, take, drop, refl, sym, ap, subst, ◌∙◌, inl, inr, append_assoc, arith}
use Rattle.std.proofs.lemmas.Bool.{cases_lt}
use Rattle.std.proofs.lemmas.Nat.{shr_below, shr-shr, le_bytes_8}
use Rattle.std.proofs.Math.Nat.{mod-eq_of_lt, pow-le-pow_right}
use Rattle.std.proofs.lemmas.List.{length-take-le, take-take, get_or-take, get_or-drop, get_or-append-add}
use Rattle.std.proofs.lemmas.List.Concat.{flat_map-append}
use Rattle.std.proofs.Math.Seq.{take-append-add}
use Rattle.std.specs.Int.{w64, to_le_bytes}
use Rattle.q3_bits.specs.Bits.{low_bits, bits_of}
use Rattle.q3_bits.specs.Buffer.{bits_within, IsClear}
use Rattle.q3_bits.proofs.Numbers.{low_bits-zero, low_bits-add, low_bits-mod, bits_of-nil, bits_of-cons}
use Rattle.q3_bits.proofs.Written.{HasStored-none, stored-fits}

-- the bytes of a number, so many, least byte first
unfoldable pub number_bytes : ℕ → ℕ → List ℕ
number_bytes zero n = []
number_bytes (suc m) n = n % 256 ∷ number_bytes m (n / 256)

bytes_small : (m n i : ℕ) → get_or (number_bytes m n) i 0 < 256
unfolding number_bytes
bytes_small zero n i = omega arith
bytes_small (suc m) n zero = omega arith
bytes_small (suc m) n (suc i) = bytes_small m (n / 256) i

-- those that the program writes
eight : (n : ℕ) → n < 2 ^ 64 → to_le_bytes w64 n ≡ number_bytes 8 n
unfolding number_bytes
eight n fits = le_bytes_8 (number_bytes 8 n) n refl (bytes_small 8 n) (omega arith)

-- the first of them
bytes_take : (m q n : ℕ) → q ≤ m → take q (number_bytes m n) ≡ number_bytes q n
unfolding number_bytes
bytes_take m zero n few = refl
bytes_take zero (suc q) n few = absurd (omega arith)
bytes_take (suc m) (suc q) n few = ap (λ (xs : List ℕ). n % 256 ∷ xs) (bytes_take m q (n / 256) (omega arith))

-- a number shifted by a byte is shifted by more
shifted : (n q : ℕ) → n / 256 / 2 ^ (8 * q) ≡ n / 2 ^ (8 * suc q)
shifted n q = shr-shr n 8 (8 * q) ∙ ap (λ (k : ℕ). n / 2 ^ k) (omega arith)

-- one of them
bytes_get : (m q n : ℕ) → q < m → get_or (number_bytes m n) q 0 ≡ n / 2 ^ (8 * q) % 256
unfolding number_bytes
bytes_get zero q n few = absurd (omega arith)
bytes_get (suc m) zero n few = let same : n / 2 ^ (8 * 0) ≡ n = omega arith in ap (λ (k : ℕ). k % 256) (sym same)
bytes_get (suc m) (suc q) n few = bytes_get m q (n / 256) (omega arith) ∙ ap (λ (k : ℕ). k % 256) (shifted n q)

-- those above the number are 0
bytes_none : (m j n : ℕ) → n < 2 ^ (8 * j) → get_or (number_bytes m n) j 0 ≡ 0
unfolding number_bytes
bytes_none zero j n fits = refl
bytes_none (suc m) zero n fits = let none : n < 1 = fits in omega arith
bytes_none (suc m) (suc j) n fits =
    let more : 8 * suc j ≡ 8 * j + 8 = omega arith in
    let below : n / 256 < 2 ^ (8 * j) = shr_below n (8 * j) 8 (subst (λ (k : ℕ). n < 2 ^ k) more fits) in
    bytes_none m j (n / 256) below

-- their bits are the number's
bytes_bits : (m n : ℕ) → bits_of (number_bytes m n) ≡ low_bits (8 * m) n
unfolding number_bytes
bytes_bits zero n = bits_of-nil ∙ sym (low_bits-zero n)
bytes_bits (suc m) n =
    let more : 8 * suc m ≡ 8 + 8 * m = omega arith in
    let cut : low_bits (8 + 8 * m) n ≡ low_bits 8 n ++ low_bits (8 * m) (n / 256) = low_bits-add 8 (8 * m) n in
    let low : low_bits 8 (n % 256) ≡ low_bits 8 n = low_bits-mod 8 n in
    rw (more, bits_of-cons, cut, bytes_bits m (n / 256), low) refl

bits_of-append : (a b : List ℕ) → bits_of (a ++ b) ≡ bits_of a ++ bits_of b
unfolding bits_of
bits_of-append a b = flat_map-append (low_bits 8) a b

-- a list whose front is another's, and the bytes of a number after it
record Fronted (front now : List ℕ) (first rest : ℕ) : Type 0 where
  is : take (first + 8) now ≡ front ++ number_bytes 8 rest
  long : length front ≡ first

fronted-take : (front now : List ℕ) (first rest q : ℕ) → Fronted front now first rest → q ≤ 8 → take (first + q) now ≡ front ++ number_bytes q rest
fronted-take front now first rest q f few =
    let cut : take (first + q) (front ++ number_bytes 8 rest) ≡ front ++ take q (number_bytes 8 rest) =
    subst (λ (k : ℕ). take (k + q) (front ++ number_bytes 8 rest) ≡ front ++ take q (number_bytes 8 rest)) f.long (take-append-add front (number_bytes 8 rest) q) in
    sym (take-take (first + q) (first + 8) now (omega arith)) ∙ ap (take (first + q)) f.is ∙ cut ∙ ap (λ (xs : List ℕ). front ++ xs) (bytes_take 8 q rest few)

fronted-get : (front now : List ℕ) (first rest j : ℕ) → Fronted front now first rest → j < 8 → get_or now (first + j) 0 ≡ get_or (number_bytes 8 rest) j 0
fronted-get front now first rest j f few =
    let at : get_or (front ++ number_bytes 8 rest) (first + j) 0 ≡ get_or (number_bytes 8 rest) j 0 =
    subst (λ (k : ℕ). get_or (front ++ number_bytes 8 rest) (k + j) 0 ≡ get_or (number_bytes 8 rest) j 0) f.long (get_or-append-add front (number_bytes 8 rest) j 0) in
    sym (get_or-take (first + 8) now (first + j) 0 (omega arith)) ∙ ap (λ (xs : List ℕ). get_or xs (first + j) 0) f.is ∙ at

-- the bits up to a place in those bytes
fronted-bits : (front now : List ℕ) (first rest q r : ℕ) → Fronted front now first rest → q < 8 → r < 8 → rest < 2 ^ (8 * q + r)
    → bits_of (take (first + q) now) ++ low_bits r (get_or now (first + q) 0) ≡ bits_of front ++ low_bits (8 * q + r) rest
fronted-bits front now first rest q r f few short fits =
    let turned : 8 * q + r ≡ r + 8 * q = omega arith in
    let small : rest / 2 ^ (8 * q) < 2 ^ r = shr_below rest r (8 * q) (subst (λ (k : ℕ). rest < 2 ^ k) turned fits) in
    let byte : 2 ^ r ≤ 256 = pow-le-pow_right {n = 2} (omega arith) {i = r} {j = 8} (omega arith) in
    let whole : rest / 2 ^ (8 * q) % 256 ≡ rest / 2 ^ (8 * q) = mod-eq_of_lt (omega (arith, small, byte)) in
    let here : get_or now (first + q) 0 ≡ rest / 2 ^ (8 * q) = fronted-get front now first rest q f few ∙ bytes_get 8 q rest few ∙ whole in
    rw (fronted-take front now first rest q f (omega arith), here, bits_of-append front (number_bytes q rest), bytes_bits q rest, append_assoc, ← low_bits-add (8 * q) r rest) refl

fronted-part : (front now : List ℕ) (first rest q r : ℕ) → Fronted front now first rest → q < 8 → r < 8 → rest < 2 ^ (8 * q + r) → get_or now (first + q) 0 < 2 ^ r
fronted-part front now first rest q r f few short fits =
    let turned : 8 * q + r ≡ r + 8 * q = omega arith in
    let small : rest / 2 ^ (8 * q) < 2 ^ r = shr_below rest r (8 * q) (subst (λ (k : ℕ). rest < 2 ^ k) turned fits) in
    omega (arith, small, fronted-get front now first rest q f few, bytes_get 8 q rest few)

-- after them the list is as it was
fronted-after : (start now front : List ℕ) (first rest q r k : ℕ) → Fronted front now first rest → drop (first + 8) now ≡ drop (first + 8) start → r < 8 → rest < 2 ^ (8 * q + r)
    → ((j : ℕ) → first < j → get_or start j 0 ≡ 0) → first + q < k → get_or now k 0 ≡ 0
fronted-after start now front first rest q r k f same short fits none past =
    let at : first + (k - first) ≡ k = omega arith in
    elim (cases_lt (k - first) 8) [
      | inl near ↦
          let more : 2 ^ (8 * q + r) ≤ 2 ^ (8 * (k - first)) = pow-le-pow_right {n = 2} (omega arith) {i = 8 * q + r} {j = 8 * (k - first)} (omega arith) in
          ap (λ (j : ℕ). get_or now j 0) (sym at) ∙ fronted-get front now first rest (k - first) f near ∙ bytes_none 8 (k - first) rest (omega (arith, fits, more))
      | inr far ↦
          let beyond : first + 8 + (k - first - 8) ≡ k = omega arith in
          ap (λ (j : ℕ). get_or now j 0) (sym beyond) ∙ sym (get_or-drop (first + 8) now (k - first - 8) 0) ∙ ap (λ (xs : List ℕ). get_or xs (k - first - 8) 0) same
          ∙ get_or-drop (first + 8) start (k - first - 8) 0 ∙ ap (λ (j : ℕ). get_or start j 0) beyond ∙ none k (omega arith)
    ]

-- bits after those that lie in the bytes
pub record StoredAtOnce (start now : List ℕ) (place bits count : ℕ) : Type 0 where
  pub stored : bits_within now (place + count) ≡ bits_within start place ++ low_bits count bits
  pub clear : IsClear now (place + count)

pub stored_at_once : (start now : List ℕ) (place bits count first rest : ℕ) → IsClear start place → bits < 2 ^ count → count ≤ 56 → first ≡ place / 8 → first + 8 ≤ length start
    → rest ≡ get_or start first 0 + bits * 2 ^ (place % 8) % 2 ^ 64 → take (first + 8) now ≡ take first start ++ to_le_bytes w64 rest → drop (first + 8) now ≡ drop (first + 8) start
    → StoredAtOnce start now place bits count
stored_at_once start now place bits count first rest clear fits few at room is written after =
    let end = place + count in
    let left = end - 8 * first in
    let q = left / 8 in
    let r = left % 8 in
    let whole : 8 * q + r ≡ left = omega arith in
    let all = stored-fits (get_or start (place / 8) 0) place bits count clear.part fits few in
    let part : rest ≡ get_or start (place / 8) 0 + bits * 2 ^ (place % 8) = subst (λ (k : ℕ). rest ≡ get_or start k 0 + bits * 2 ^ (place % 8) % 2 ^ 64) at is ∙ omega (arith, all.0) in
    let begun = HasStored-none start place bits count clear fits in
    let small : rest < 2 ^ 64 = rw part all.1 in
    let below : rest < 2 ^ left = subst (λ (k : ℕ). rest < 2 ^ (end - 8 * k)) (sym at) (rw part begun.fits) in
    let fits' : rest < 2 ^ (8 * q + r) = subst (λ (k : ℕ). rest < 2 ^ k) (sym whole) below in
    let f : Fronted (take first start) now first rest = record {
      is = written ∙ ap (λ (xs : List ℕ). take first start ++ xs) (eight rest small);
      long = length-take-le first start (omega arith);
    } in
    let q-few : q < 8 = omega arith in
    let r-few : r < 8 = omega arith in
    let place-is : first + q ≡ end / 8 = omega arith in
    let bit-is : r ≡ end % 8 = omega arith in
    let texts : bits_of (take first start) ++ low_bits left rest ≡ bits_within start place ++ low_bits count bits =
    subst (λ (k : ℕ). bits_of (take k start) ++ low_bits (end - 8 * k) rest ≡ bits_within start place ++ low_bits count bits) (sym at) (rw part begun.bits) in
    record {
      stored =
          subst (λ (k : ℕ). bits_of (take k now) ++ low_bits (end % 8) (get_or now k 0) ≡ bits_within start place ++ low_bits count bits) place-is
          (subst (λ (j : ℕ). bits_of (take (first + q) now) ++ low_bits j (get_or now (first + q) 0) ≡ bits_within start place ++ low_bits count bits) bit-is
          (fronted-bits (take first start) now first rest q r f q-few r-few fits' ∙ ap (λ (k : ℕ). bits_of (take first start) ++ low_bits k rest) whole ∙ texts));
      clear = record {
        part =
            subst (λ (k : ℕ). get_or now k 0 < 2 ^ (end % 8)) place-is
            (subst (λ (j : ℕ). get_or now (first + q) 0 < 2 ^ j) bit-is (fronted-part (take first start) now first rest q r f q-few r-few fits'));
        after = λ k past.
            fronted-after start now (take first start) first rest q r k f after r-few fits' (λ j later. clear.after j (omega (arith, at, later))) (omega (arith, place-is, past));
      };
    }
