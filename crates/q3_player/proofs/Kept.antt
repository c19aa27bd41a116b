-- What the arrays hold is normal: a signed value of 16 bits as a word of 32, and a word of 32 bits.
use Rattle.std.proofs.Common.{◌≡◌, ℕ, ◌%◌, ◌^◌, ◌<◌, List, [], ◌∷◌, length, refl, ◌∙◌, arith}
use Rattle.std.proofs.Math.Nat.{mod-eq_of_lt}
use Rattle.std.proofs.lemmas.Bool.Decides.{nat_tests}
use Rattle.std.proofs.lemmas.Int.{ints}
use Rattle.std.proofs.lemmas.List.{length-map}
use Rattle.std.proofs.lemmas.List.Elements.{All-nil, All-cons, All-head, All-tail, All-map, All-weaker}
use Rattle.std.specs.List.{All}
use Rattle.std.specs.Int.{cast_unsigned, cast_signed}
use Rattle.q3_fields.specs.declared.kind.Kind.{Kind}
use Rattle.q3_fields.specs.Kinds.{norm}
use Rattle.q3_fields.specs.declared.kind.Kind.TheVariants.{Unsigned, Signed}
use Rattle.q3_player.specs.State.{IsShort, AreShorts, patterns_of, shorts_of}
use lib.IntN.{ℤ, pos, negsuc}
use mir.Syntax.{w16, w32}

-- a word of 32 bits in its field's normal form
pub record IsKept (kind : Kind) (word : ℕ) : Type 0 where
  pub fits : word < 2 ^ 32
  pub normal : norm kind word ≡ word

-- a word of the powerups
pub powerup-kept : (word : ℕ) → word < 2 ^ 32 → IsKept (Unsigned 32) word
unfolding norm
powerup-kept word fits = record { fits = fits; normal = mod-eq_of_lt fits }

-- a signed value
pub short-kept : (z : ℤ) → IsShort z → IsKept (Signed 16) (cast_unsigned w32 z)
unfolding norm
short-kept (pos n) short =
    let few : n < 2 ^ 15 = omega (arith, ints) in
    record { fits = omega arith; normal = grind (arith, nat_tests) }
short-kept (negsuc n) short =
    let few : n < 2 ^ 15 = omega (arith, ints) in
    record { fits = omega arith; normal = grind (arith, nat_tests) }

-- the low 16 bits are a signed value
pub short-of : (word : ℕ) → IsShort (cast_signed w16 (word % 2 ^ 16))
short-of word =
    let few : word % 2 ^ 16 < 2 ^ 16 = omega arith in
    (grind (arith, ints), grind (arith, ints))

-- which is the word where that is normal
pub short-kept_back : (word : ℕ) → IsKept (Signed 16) word → cast_unsigned w32 (cast_signed w16 (word % 2 ^ 16)) ≡ word
unfolding norm
short-kept_back word kept =
    let normal = kept.normal in
    grind (arith, nat_tests)

-- and a value is that of its word
pub short-back : (z : ℤ) → IsShort z → cast_signed w16 (cast_unsigned w32 z % 2 ^ 16) ≡ z
short-back (pos n) short =
    let few : n < 2 ^ 15 = omega (arith, ints) in
    grind (arith, nat_tests)
short-back (negsuc n) short =
    let few : n < 2 ^ 15 = omega (arith, ints) in
    grind (arith, nat_tests)

-- ---- lists of them

pub patterns-kept : (values : List ℤ) → All IsShort values → All (IsKept (Signed 16)) (patterns_of values)
patterns-kept values short =
    All-map (IsKept (Signed 16)) (cast_unsigned w32) values (All-weaker IsShort (λ z. IsKept (Signed 16) (cast_unsigned w32 z)) short-kept values short)

pub powerups-kept : (words : List ℕ) → All (λ word. word < 2 ^ 32) words → All (IsKept (Unsigned 32)) words
powerups-kept words fits = All-weaker (λ word. word < 2 ^ 32) (IsKept (Unsigned 32)) powerup-kept words fits

pub kept-fits : (kind : Kind) (words : List ℕ) → All (IsKept kind) words → All (λ word. word < 2 ^ 32) words
kept-fits kind words kept = All-weaker (IsKept kind) (λ word. word < 2 ^ 32) (λ word k. k.fits) words kept

pub shorts-back : (values : List ℤ) → All IsShort values → shorts_of (patterns_of values) ≡ values
shorts-back [] short = refl
shorts-back (z ∷ values) short = rw (short-back z (All-head IsShort z values short), shorts-back values (All-tail IsShort z values short)) refl

pub patterns-back : (words : List ℕ) → All (IsKept (Signed 16)) words → patterns_of (shorts_of words) ≡ words
patterns-back [] kept = refl
patterns-back (word ∷ words) kept =
    rw (short-kept_back word (All-head (IsKept (Signed 16)) word words kept), patterns-back words (All-tail (IsKept (Signed 16)) word words kept)) refl

-- the values of any words are short
all-short : (words : List ℕ) → All IsShort (shorts_of words)
all-short [] = All-nil IsShort
all-short (word ∷ words) = All-cons IsShort (cast_signed w16 (word % 2 ^ 16)) (shorts_of words) (short-of word) (all-short words)

pub are-shorts : (words : List ℕ) → length words ≡ 16 → AreShorts (shorts_of words)
are-shorts words long = record { count = length-map words (λ word. cast_signed w16 (word % 2 ^ 16)) ∙ long; each = all-short words }

-- the words of signed values are as many
pub length-patterns : (values : List ℤ) → length (patterns_of values) ≡ length values
length-patterns values = length-map values (cast_unsigned w32)
