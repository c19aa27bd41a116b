-- Signed numbers in a move: what is read was spelled so, and what is spelled so is read.
use Rattle.std.proofs.Common.{◌≡◌, ℕ, zero, suc, ◌≤◌, true, List, ◌∷◌, ◌++◌, Option, Some, None, Ok, refl, sym, ap, subst, ◌∙◌, arith}
use Rattle.std.specs.Prelude.{codes, ℤ, pos, negsuc, neg_ℤ, option_map}
use Rattle.std.specs.Fmt.{decimal, signed_decimal}
use Rattle.std.specs.Option.{option_map_or}
use Rattle.std.proofs.lemmas.Int.{ints}
use Rattle.std.proofs.lemmas.Option.{same_Some}
use Rattle.q3_words.specs.declared.cause.LineCause.TheVariants as causes
use Rattle.q3_text.specs.Decimals.{number_at}
use Rattle.q3_text.specs.Cuts.{lacks}
use Rattle.q3_words.specs.Words.{after_prefix}
use Rattle.q3_script.specs.Lines.{signed_byte_at, signed_byte_word}
use Rattle.q3_clmsg.specs.Moves.{IsSignedByte}
use Rattle.q3_script.proofs.Values.{ok_or-ok}
use Rattle.q3_words.specs.Laws.{WordLaws}

-- the value of a step that found something
map_some : {A B : Type 0} (f : A → B) (o : Option A) (y : B) → option_map f o ≡ Some y → (x : A) × (o ≡ Some x) × (f x ≡ y)
map_some f (Some x) y e = (x, refl, same_Some (f x) y e)
map_some f None y e = absurd cc

-- a value, and the word that spells it
pub record SpellsSignedByte (word : List ℕ) (value : ℤ) : Type 0 where
  pub fits : IsSignedByte value
  pub whole : word ≡ signed_decimal value

-- a number so far below 0
below_zero : (n : ℕ) → 1 ≤ n → n ≤ 128 → SpellsSignedByte (codes "-" ++ decimal n) (neg_ℤ (pos n))
below_zero zero some few = absurd (omega arith)
below_zero (suc n) some few = record { fits = (omega (arith, ints), omega (arith, ints)); whole = refl }

-- the steps of reading a value, by what follows a `-`
abbrev value_of : List ℕ → Option (List ℕ) → Option ℤ
value_of word (Some digits) = option_map (λ size. neg_ℤ (pos size)) (number_at 1 128 digits)
value_of word None = option_map pos (number_at 0 127 word)

-- a value that is read so was spelled so
value_is : (laws : WordLaws) (word : List ℕ) (o : Option (List ℕ)) (value : ℤ) → after_prefix (codes "-") word ≡ o → value_of word o ≡ Some value → SpellsSignedByte word value
value_is laws word (Some digits) value front e =
    let n = map_some (λ (size : ℕ). neg_ℤ (pos size)) (number_at 1 128 digits) value e in
    let is = laws.below.numbers.spelled 1 128 digits n.0 (omega arith) n.1 in
    let text : word ≡ codes "-" ++ decimal n.0 = laws.prefixes.spelled (codes "-") word digits front ∙ ap (λ (x : List ℕ). codes "-" ++ x) is.2 in
    subst (λ (x : ℤ). SpellsSignedByte word x) n.2 (subst (λ (w : List ℕ). SpellsSignedByte w (neg_ℤ (pos n.0))) (sym text) (below_zero n.0 is.0 is.1))
value_is laws word None value front e =
    let n = map_some pos (number_at 0 127 word) value e in
    let is = laws.below.numbers.spelled 0 127 word n.0 (omega arith) n.1 in
    subst (λ (x : ℤ). SpellsSignedByte word x) n.2 (record { fits = (omega (arith, ints), omega (arith, ints)); whole = is.2 })

-- a value in those steps
signed_byte_at-is : (word : List ℕ) → signed_byte_at word ≡ value_of word (after_prefix (codes "-") word)
unfolding signed_byte_at
signed_byte_at-is word = of_front (after_prefix (codes "-") word)
  where
    of_front : (o : Option (List ℕ)) → option_map_or (λ digits. option_map (λ size. neg_ℤ (pos size)) (number_at 1 128 digits)) o (option_map pos (number_at 0 127 word)) ≡ value_of word o
    of_front (Some digits) = refl
    of_front None = refl

-- a word that is read as a signed value was spelled so
pub signed_byte_word-spelled : (laws : WordLaws) (word : List ℕ) (value : ℤ) → signed_byte_word word ≡ Ok value → SpellsSignedByte word value
signed_byte_word-spelled laws word value e =
    value_is laws word (after_prefix (codes "-") word) value refl (sym (signed_byte_at-is word) ∙ ok_or-ok (signed_byte_at word) causes.Number value e)

-- decimals have no `-` in front
no_front : (laws : WordLaws) (word : List ℕ) (o : Option (List ℕ)) → after_prefix (codes "-") word ≡ o → lacks 45 word ≡ true → o ≡ None
no_front laws word None front e = refl
no_front laws word (Some rest) front e =
    let text = laws.prefixes.spelled (codes "-") word rest front in
    let has : lacks 45 (codes "-" ++ rest) ≡ true = rw text at e in
    absurd cc

-- and what is spelled so is read
pub signed_byte_word-again : (laws : WordLaws) (value : ℤ) → IsSignedByte value → signed_byte_word (signed_decimal value) ≡ Ok value
signed_byte_word-again laws (pos n) fits =
    let few : n ≤ 127 = omega (arith, ints) in
    let none = no_front laws (decimal n) (after_prefix (codes "-") (decimal n)) refl (laws.below.numbers.others 45 n refl (omega arith)) in
    rw (signed_byte_at-is (decimal n), none, laws.below.numbers.read 0 127 n (omega arith) (omega arith) few) refl
signed_byte_word-again laws (negsuc n) fits =
    let few : suc n ≤ 128 = omega (arith, ints) in
    let some : after_prefix (codes "-") (45 ∷ decimal (suc n)) ≡ Some (decimal (suc n)) = laws.prefixes.read (codes "-") (decimal (suc n)) in
    rw (signed_byte_at-is (45 ∷ decimal (suc n)), some, laws.below.numbers.read 1 128 (suc n) (omega arith) (omega arith) few) refl
