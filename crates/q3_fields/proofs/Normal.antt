-- The normal form of a word is its own normal form, and has the word's text.
use Rattle.std.proofs.Common.{◌≡◌, ℕ, ◌+◌, ◌-◌, ◌*◌, ◌%◌, ◌^◌, ◌<◌, Bool, false, cond, eqb, ltb, List, Result, Ok, Err, IfOk, refl, sym, subst, arith, inl, inr}
use Rattle.std.proofs.lemmas.Bool.{cases_Bool, eqb-true}
use Rattle.std.proofs.Math.Nat.{mod-mod, mod-le, mod-eq_of_lt, zero-mod}
use Rattle.std.proofs.lemmas.Nat.{mod_below, mod-mul-add}
use Rattle.q3_fields.specs.declared.kind.Kind.{Kind}
use Rattle.q3_fields.specs.declared.kind.Kind.TheVariants.{Float, Unsigned, Signed}
use Rattle.q3_fields.specs.Kinds.{IsKind, sign_extended, norm}
use Rattle.q3_bits.specs.Words.{field_at}
use Rattle.q3_bits.specs.Streams.{Reading, Reads}
use Rattle.q3_bits.specs.declared.reader.ReadError.{ReadError}
use Rattle.q3_fields.specs.Texts.{player_field, entity_field, integer_at}
use Rattle.q3_fields.proofs.FieldBits.{field_bits-cut, field_bits-same}
use Rattle.q3_fields.proofs.SmallFloats.{small_float-zero, small_float-negative_zero}

-- ---- signs

-- a word cut below a power of two, and above its half extended to 32 bits
abbrev extended : ℕ → ℕ → ℕ → ℕ
extended power half word = cond (ltb (word % power) half) (word % power) (word % power + 4294967296 - power)

-- it is cut to what the word is
extended-cut : (power half others word : ℕ) → 0 < power → others * power + power ≡ 4294967296 → extended power half word % power ≡ word % power
extended-cut power half others word some whole =
    elim (cases_Bool (ltb (word % power) half)) [
      | inl low ↦ rw low (mod-mod word power)
      | inr high ↦
          let parts : word % power + 4294967296 - power ≡ others * power + word % power = omega (arith, whole) in
          rw (high, parts) (mod-mul-add others power (word % power) (mod_below word power some))
    ]

-- and is a word
extended-below : (power half others word : ℕ) → 0 < power → others * power + power ≡ 4294967296 → extended power half word < 4294967296
extended-below power half others word some whole =
    let below = mod_below word power some in
    elim (cases_Bool (ltb (word % power) half)) [
      | inl low ↦ rw low (omega (arith, whole, below))
      | inr high ↦ rw high (omega (arith, whole, below))
    ]

-- the widths of signed fields
pub sign_extended-cut : (width word : ℕ) → IsKind (Signed width) → sign_extended width word % 2 ^ width ≡ word % 2 ^ width
sign_extended-cut width word (inl is) = rw is (extended-cut 256 128 16777215 word (omega arith) refl)
sign_extended-cut width word (inr (inl is)) = rw is (extended-cut 65536 32768 65535 word (omega arith) refl)
sign_extended-cut width word (inr (inr is)) = rw is (extended-cut 16777216 8388608 255 word (omega arith) refl)

sign_extended-below : (width word : ℕ) → IsKind (Signed width) → sign_extended width word < 4294967296
sign_extended-below width word (inl is) = rw is (extended-below 256 128 16777215 word (omega arith) refl)
sign_extended-below width word (inr (inl is)) = rw is (extended-below 65536 32768 65535 word (omega arith) refl)
sign_extended-below width word (inr (inr is)) = rw is (extended-below 16777216 8388608 255 word (omega arith) refl)

-- words that are cut to the same are extended to the same
sign_extended-same : (width a b : ℕ) → a % 2 ^ width ≡ b % 2 ^ width → sign_extended width a ≡ sign_extended width b
sign_extended-same width a b same = rw same refl

sign_extended-zero : (width : ℕ) → IsKind (Signed width) → sign_extended width 0 ≡ 0
sign_extended-zero width (inl is) = rw is refl
sign_extended-zero width (inr (inl is)) = rw is refl
sign_extended-zero width (inr (inr is)) = rw is refl

-- ---- the normal form

pub norm-below : (kind : Kind) (word : ℕ) → IsKind kind → word < 4294967296 → norm kind word < 4294967296
unfolding norm
norm-below Float word allowed below =
    elim (cases_Bool (eqb word 2147483648)) [
      | inl negative_zero ↦ rw negative_zero (omega arith)
      | inr other ↦ rw other below
    ]
norm-below (Unsigned width) word allowed below = omega (arith, mod-le word (2 ^ width))
norm-below (Signed width) word allowed below = sign_extended-below width word allowed

pub norm-twice : (kind : Kind) (word : ℕ) → IsKind kind → norm kind (norm kind word) ≡ norm kind word
unfolding norm
norm-twice Float word allowed =
    elim (cases_Bool (eqb word 2147483648)) [
      | inl negative_zero ↦ rw negative_zero refl
      | inr other ↦ rw (other, other) refl
    ]
norm-twice (Unsigned width) word allowed = mod-mod word (2 ^ width)
norm-twice (Signed width) word allowed = sign_extended-same width (sign_extended width word) word (sign_extended-cut width word allowed)

pub norm-zero : (kind : Kind) → IsKind kind → norm kind 0 ≡ 0
unfolding norm
norm-zero Float allowed = refl
norm-zero (Unsigned width) allowed = zero-mod (2 ^ width)
norm-zero (Signed width) allowed = sign_extended-zero width allowed

-- a pattern other than a negative zero's stays
pub norm-float : (word : ℕ) → eqb word 2147483648 ≡ false → norm Float word ≡ word
unfolding norm
norm-float word other = rw other refl

pub norm-negative_zero : norm Float 2147483648 ≡ 0
unfolding norm
norm-negative_zero = refl

-- an integer's normal form is that of its low bits
pub norm-unsigned_cut : (width word : ℕ) → norm (Unsigned width) word ≡ norm (Unsigned width) (word % 2 ^ width)
unfolding norm
norm-unsigned_cut width word = sym (mod-mod word (2 ^ width))

pub norm-signed_cut : (width word : ℕ) → norm (Signed width) word ≡ norm (Signed width) (word % 2 ^ width)
unfolding norm
norm-signed_cut width word = sign_extended-same width word (word % 2 ^ width) (sym (mod-mod word (2 ^ width)))

-- ---- texts

pub player_field-norm : (words : List (List Bool)) (kind : Kind) (word : ℕ) → IsKind kind → player_field words kind (norm kind word) ≡ player_field words kind word
unfolding norm player_field
player_field-norm words Float word allowed =
    elim (cases_Bool (eqb word 2147483648)) [
      | inl negative_zero ↦
          rw (negative_zero, eqb-true word 2147483648 negative_zero, small_float-zero, small_float-negative_zero) refl
      | inr other ↦ rw other refl
    ]
player_field-norm words (Unsigned width) word allowed = field_bits-cut words width word
player_field-norm words (Signed width) word allowed = field_bits-same words width (sign_extended width word) word (sign_extended-cut width word allowed)

pub entity_field-norm : (words : List (List Bool)) (kind : Kind) (word : ℕ) → IsKind kind → entity_field words kind (norm kind word) ≡ entity_field words kind word
unfolding entity_field
entity_field-norm words kind word allowed = rw (norm-twice kind word allowed, player_field-norm words kind word allowed) refl

-- what is read of an unsigned field is in normal form
unsigned-at : (words : List (List Bool)) (width : ℕ) (old new : Reading) (result : Result ℕ ReadError) → Reads old new (field_at words width old.left) result → IfOk result (λ value. value < 2 ^ width)
    → Reads old new (integer_at words (Unsigned width) width old.left) result
unfolding norm
unsigned-at words width old new (Ok value) h fits =
    let same : value % 2 ^ width ≡ value = mod-eq_of_lt fits in
    record {
      value = rw (← h.value, same) refl;
      words = h.words;
      place = h.place;
    }
unsigned-at words width old new (Err e) h fits = record {
  value = rw (← h.value) refl;
  words = h.words;
  place = h.place;
}

pub unsigned-read : (words : List (List Bool)) (width bits : ℕ) (old new : Reading) (result : Result ℕ ReadError) → bits ≡ width → Reads old new (field_at words bits old.left) result → IfOk result (λ value. value < 2 ^ bits)
    → Reads old new (integer_at words (Unsigned width) width old.left) result
unsigned-read words width bits old new result is h fits =
    subst (λ (k : ℕ). Reads {T = ℕ} {E = ReadError} old new (integer_at words (Unsigned k) k old.left) result) is (unsigned-at words bits old new result h fits)
