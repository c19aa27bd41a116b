-- Exponents and fractions of the numbers from 1 to 4096, and the patterns of whole numbers.
use Rattle.std.proofs.Common.{◌≡◌, ℕ, zero, suc, ◌+◌, ◌-◌, ◌*◌, ◌/◌, ◌%◌, ◌^◌, ◌≤◌, ◌<◌, leb, refl, sym, ap, ◌∙◌, add-one, mod-eq_of_lt, arith, inl, inr}
use Rattle.std.proofs.lemmas.Bool.{cases_Bool, leb-true, leb-false}
use Rattle.std.proofs.lemmas.Nat.{shl_below, shl-shr, div-mul-add, mod-mul-add, pow-add, one_shl, leading_top}
use Rattle.std.proofs.Math.Pow.{pow_mono}
use Rattle.std.specs.Int.Count.{count_leading_zeros}
use Rattle.q3_fields.specs.Floats.{exponent_up_to, magnitude}

-- the exponent of a number from 1 to 4096
pub record HasExponent (m e : ℕ) : Type 0 where
  pub few : e ≤ 12
  pub least : 2 ^ e ≤ m
  pub most : m < 2 ^ (e + 1)

exponent-few : (e m : ℕ) → exponent_up_to e m ≤ e
unfolding exponent_up_to
exponent-few zero m = omega arith
exponent-few (suc e) m =
    elim (cases_Bool (leb (2 ^ (e + 1)) m)) [
      | inl fits ↦ rw fits (omega arith)
      | inr over ↦ rw over (omega (arith, exponent-few e m))
    ]

exponent-least : (e m : ℕ) → 1 ≤ m → 2 ^ exponent_up_to e m ≤ m
unfolding exponent_up_to
exponent-least zero m some = some
exponent-least (suc e) m some =
    elim (cases_Bool (leb (2 ^ (e + 1)) m)) [
      | inl fits ↦ rw fits (leb-true (2 ^ (e + 1)) m fits)
      | inr over ↦ rw over (exponent-least e m some)
    ]

exponent-most : (e m : ℕ) → m < 2 ^ (e + 1) → m < 2 ^ (exponent_up_to e m + 1)
unfolding exponent_up_to
exponent-most zero m most = most
exponent-most (suc e) m most =
    let same : suc e + 1 ≡ e + 1 + 1 = omega arith in
    elim (cases_Bool (leb (2 ^ (e + 1)) m)) [
      | inl fits ↦ rw fits (rw same at most)
      | inr over ↦ rw over (exponent-most e m (leb-false (2 ^ (e + 1)) m over))
    ]

-- the exponent is the one with these bounds
pub exponent_up_to-is : (m : ℕ) → 1 ≤ m → m ≤ 4096 → HasExponent m (exponent_up_to 12 m)
exponent_up_to-is m some most = record {
  few = exponent-few 12 m;
  least = exponent-least 12 m some;
  most = exponent-most 12 m (omega arith);
}

-- no other exponent has them
exponent-one : (m d e : ℕ) → 2 ^ d ≤ m → m < 2 ^ (d + 1) → HasExponent m e → d ≡ e
exponent-one m d e least most h =
    let under : d + 1 ≤ e → 2 ^ (d + 1) ≤ 2 ^ e = λ p. pow_mono p in
    let over : e + 1 ≤ d → 2 ^ (e + 1) ≤ 2 ^ d = λ p. pow_mono p in
    grind (arith, h.least, h.most)

-- it is what the zeros in front leave
pub leading_zeros-is : (m : ℕ) → 1 ≤ m → m ≤ 4096 → 31 - count_leading_zeros 32 m ≡ exponent_up_to 12 m
leading_zeros-is m some most =
    let top = leading_top 32 m some (omega arith) in
    let is : 31 - count_leading_zeros 32 m ≡ top.0 = omega (arith, top.1) in
    is ∙ exponent-one m top.0 (exponent_up_to 12 m) top.2 (rw add-one top.3) (exponent_up_to-is m some most)

-- the parts of a magnitude
pub record HasParts (m : ℕ) : Type 0 where
  pub exponent : ℕ
  pub fraction : ℕ
  pub few : exponent ≤ 12
  pub small : fraction < 2 ^ 23
  pub is : magnitude m ≡ (127 + exponent) * 2 ^ 23 + fraction
  pub whole : 2 ^ 23 + fraction ≡ m * 2 ^ (23 - exponent)

-- what is over the power of two, moved up to the point
fraction-small : (m e : ℕ) → HasExponent m e → (m - 2 ^ e) * 2 ^ (23 - e) < 2 ^ 23
fraction-small m e h =
    let twice : 2 ^ (e + 1) ≡ 2 ^ e * 2 ^ 1 = pow-add 2 e 1 in
    let over : m - 2 ^ e < 2 ^ e = omega (arith, h.most) in
    let all : e + (23 - e) ≡ 23 = omega (arith, h.few) in
    rw all at (shl_below (m - 2 ^ e) e (23 - e) over)

-- a sum of two numbers, each moved
regroup : (m q p a w : ℕ) → m ≡ q + a → w ≡ q * p → w + a * p ≡ m * p
regroup m q p a w sum product = rw (sum, product) (omega arith)

-- with the power of two it is the number, moved so
fraction-whole : (m e : ℕ) → HasExponent m e → 2 ^ 23 + (m - 2 ^ e) * 2 ^ (23 - e) ≡ m * 2 ^ (23 - e)
fraction-whole m e h =
    let all : e + (23 - e) ≡ 23 = omega (arith, h.few) in
    let power : 2 ^ (e + (23 - e)) ≡ 2 ^ e * 2 ^ (23 - e) = pow-add 2 e (23 - e) in
    let power' : 2 ^ 23 ≡ 2 ^ e * 2 ^ (23 - e) = rw all at power in
    regroup m (2 ^ e) (2 ^ (23 - e)) (m - 2 ^ e) (2 ^ 23) (omega (arith, h.least)) power'

pub magnitude-parts : (m : ℕ) → 1 ≤ m → m ≤ 4096 → HasParts m
unfolding magnitude
magnitude-parts m some most =
    let h = exponent_up_to-is m some most in
    let e = exponent_up_to 12 m in
    record {
      exponent = e;
      fraction = (m - 2 ^ e) * 2 ^ (23 - e);
      few = h.few;
      small = fraction-small m e h;
      is = refl;
      whole = fraction-whole m e h;
    }

-- the bits above the point
abbrev pub leading : ℕ → ℕ
leading word = (2 ^ 23 + word % 2 ^ 23) / 2 ^ (150 - word / 2 ^ 23)

-- the exponent of a magnitude is in bounds
pub magnitude-exponent : (m word : ℕ) → 1 ≤ m → m ≤ 4096 → magnitude m ≡ word → (127 ≤ word / 2 ^ 23) × (word / 2 ^ 23 ≤ 139)
magnitude-exponent m word some most is =
    let h = magnitude-parts m some most in
    let at : word / 2 ^ 23 ≡ 127 + h.exponent = ap (λ w. w / 2 ^ 23) (sym is ∙ h.is) ∙ div-mul-add (127 + h.exponent) (2 ^ 23) h.fraction h.small in
    (omega (arith, h.few), omega (arith, h.few))

-- and its leading bits are the number
pub magnitude-leading : (m word : ℕ) → 1 ≤ m → m ≤ 4096 → magnitude m ≡ word → leading word ≡ m
magnitude-leading m word some most is =
    let h = magnitude-parts m some most in
    let at : word / 2 ^ 23 ≡ 127 + h.exponent = ap (λ w. w / 2 ^ 23) (sym is ∙ h.is) ∙ div-mul-add (127 + h.exponent) (2 ^ 23) h.fraction h.small in
    let under : word % 2 ^ 23 ≡ h.fraction = ap (λ w. w % 2 ^ 23) (sym is ∙ h.is) ∙ mod-mul-add (127 + h.exponent) (2 ^ 23) h.fraction h.small in
    let shift : 150 - word / 2 ^ 23 ≡ 23 - h.exponent = omega arith in
    rw (shift, under, h.whole) (shl-shr m (23 - h.exponent))

-- a magnitude leaves the sign free
pub magnitude-below : (m : ℕ) → 1 ≤ m → m ≤ 4096 → (0 < magnitude m) × (magnitude m < 2 ^ 31)
magnitude-below m some most =
    let h = magnitude-parts m some most in
    (omega (arith, h.is, h.few, h.small), omega (arith, h.is, h.few, h.small))

-- its lowest bits are 0
moved-low : (m p : ℕ) → m * (2048 * p) ≡ 2048 * (m * p)
moved-low m p = omega arith

pub magnitude-low : (m : ℕ) → 1 ≤ m → m ≤ 4096 → magnitude m % 2048 ≡ 0
magnitude-low m some most =
    let h = magnitude-parts m some most in
    let all : 11 + (12 - h.exponent) ≡ 23 - h.exponent = omega (arith, h.few) in
    let power : 2 ^ (23 - h.exponent) ≡ 2048 * 2 ^ (12 - h.exponent) = ap (λ n. 2 ^ n) (sym all) ∙ pow-add 2 11 (12 - h.exponent) in
    let whole : 2 ^ 23 + h.fraction ≡ 2048 * (m * 2 ^ (12 - h.exponent)) = h.whole ∙ ap (λ n. m * n) power ∙ moved-low m (2 ^ (12 - h.exponent)) in
    omega (arith, h.is, whole)

-- a magnitude as shifts make it
pub magnitude-shifted : (m e : ℕ) → 1 ≤ m → m ≤ 4096 → e ≡ exponent_up_to 12 m
    → ((127 + e) * 8388608) % 4294967296 + ((m - (1 * 2 ^ e) % 4294967296) * 2 ^ (23 - e)) % 4294967296 ≡ magnitude m
unfolding magnitude
magnitude-shifted m e some most is =
    let h : HasExponent m e = rw is (exponent_up_to-is m some most) in
    let power : (1 * 2 ^ e) % 2 ^ 32 ≡ 2 ^ e = one_shl e 32 (omega (arith, h.few)) in
    let high : ((127 + e) * 8388608) % 4294967296 ≡ (127 + e) * 8388608 = omega (arith, h.few) in
    let low : ((m - 2 ^ e) * 2 ^ (23 - e)) % 4294967296 ≡ (m - 2 ^ e) * 2 ^ (23 - e) = mod-eq_of_lt (omega (arith, fraction-small m e h)) in
    rw (power, high, low, is) refl
