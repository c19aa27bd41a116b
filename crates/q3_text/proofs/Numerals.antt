-- Numbers against their grammar: what is read was spelled so, and what is spelled so is read.
use Rattle.std.proofs.Common.{◌≡◌, ℕ, ◌+◌, ◌*◌, ◌-◌, ◌^◌, ◌<◌, ◌≤◌, true, false, leb, ltb, eqb, List, [], ◌∷◌, length, get_or, Some, inl, inr, refl, sym, ap, ◌∙◌, arith}
use Rattle.std.specs.Prelude.{◌&&◌, ◌||◌}
use Rattle.std.specs.Fmt.{decimal}
use Rattle.std.specs.List.{list_all, fold}
use Rattle.std.proofs.lemmas.Bool.{leb-true, ltb-true, lt-ltb, le-leb, and_parts, and_from, or_cases, or_right, cases_eq, ne_eqb, false≢true}
use Rattle.std.proofs.lemmas.Option.{cond_some}
use Rattle.std.proofs.lemmas.Fmt.{decimal-digits_value, digits_decimal, digits_value-decimal, decimal_nonempty, first_decimal, decimal_digit}
use Rattle.std.proofs.lemmas.Str.Parse.{IsDigitsTest, IsNumeralModel, numerals_by_fold}
use Rattle.q3_text.specs.Decimals.{is_digit, value_of, is_decimal, number_at}
use Rattle.q3_text.specs.Cuts.{lacks}
use Rattle.q3_text.specs.Laws.{DecimalsAreNumbers}

-- the digits of a decimal are those of std
digits_test : IsDigitsTest (λ word. list_all is_digit word ≡ true)
digits_test = record {
  empty = refl;
  parts = λ c cs all.
      let both = and_parts (is_digit c) (list_all is_digit cs) all in
      let range = and_parts (leb 48 c) (leb c 57) both.0 in
      ((leb-true 48 c range.0, leb-true c 57 range.1), both.1);
  more = λ c cs range all. and_from (is_digit c) (list_all is_digit cs) (and_from _ _ (le-leb 48 c range.0) (le-leb c 57 range.1)) all;
}

-- and so is their value
own : IsNumeralModel (λ word. list_all is_digit word ≡ true) (λ word. fold (λ value digit. 10 * value + (digit - 48)) 0 word)
own = numerals_by_fold _ digits_test (λ start word. fold (λ value digit. 10 * value + (digit - 48)) start word) (record { empty = λ n. refl; more = λ n c cs range. ap (λ start. fold (λ value digit. 10 * value + (digit - 48)) start cs) (omega arith) })

-- digits alone with no 0 before others are what is written of their value
decimal-value_of : (word : List ℕ) → is_decimal word ≡ true → value_of word < 2 ^ 64 → decimal (value_of word) ≡ word
decimal-value_of word e small =
    let parts = and_parts (ltb 0 (length word) && list_all is_digit word) (leb (length word) 1 || ltb 48 (get_or word 0 0)) e in
    let front = and_parts (ltb 0 (length word)) (list_all is_digit word) parts.0 in
    let some = ltb-true 0 (length word) front.0 in
    let head : get_or word 0 0 ≡ 48 → length word ≡ 1 = λ zero. elim (or_cases (leb (length word) 1) (ltb 48 (get_or word 0 0)) parts.1) [
      | inl short ↦ let one = leb-true (length word) 1 short in omega arith
      | inr other ↦ let lt = ltb-true 48 (get_or word 0 0) other in absurd (omega arith)
    ] in
    decimal-digits_value own word front.1 some head small

-- what is written of a number is digits alone with no 0 before others
is_decimal-decimal : (n : ℕ) → n < 2 ^ 64 → is_decimal (decimal n) ≡ true
is_decimal-decimal n small =
    let digits : list_all is_digit (decimal n) ≡ true = digits_decimal own n small in
    let some = decimal_nonempty n small in
    let head : (leb (length (decimal n)) 1 || ltb 48 (get_or (decimal n) 0 0)) ≡ true = elim (cases_eq n 0) [
      | inl zero ↦ rw (zero, decimal_digit 0 (omega arith)) refl
      | inr other ↦ or_right _ _ (lt-ltb 48 (get_or (decimal n) 0 0) (first_decimal n (omega arith) small))
    ] in
    and_from _ _ (and_from _ _ (lt-ltb _ _ some) digits) head

-- a number was spelled in decimal
number_at-spelled : (low high : ℕ) (word : List ℕ) (n : ℕ) → high < 2 ^ 64 → number_at low high word ≡ Some n → (low ≤ n) × (n ≤ high) × (word ≡ decimal n)
unfolding number_at
number_at-spelled low high word n small e =
    let both = cond_some (is_decimal word && leb low (value_of word) && leb (value_of word) high) (value_of word) n e in
    let outer = and_parts (is_decimal word && leb low (value_of word)) (leb (value_of word) high) both.0 in
    let inner = and_parts (is_decimal word) (leb low (value_of word)) outer.0 in
    let upper = leb-true (value_of word) high outer.1 in
    let lower = leb-true low (value_of word) inner.1 in
    let text = decimal-value_of word inner.0 (omega arith) in
    (omega arith, omega arith, sym text ∙ ap decimal both.1)

-- and what is spelled in decimal is a number
number_at-again : (low high n : ℕ) → high < 2 ^ 64 → low ≤ n → n ≤ high → number_at low high (decimal n) ≡ Some n
unfolding number_at
number_at-again low high n small lower upper =
    let value : value_of (decimal n) ≡ n = digits_value-decimal own n (omega arith) in
    let text = is_decimal-decimal n (omega arith) in
    let least : leb low n ≡ true = le-leb _ _ lower in
    let most : leb n high ≡ true = le-leb _ _ upper in
    rw (text, value, least, most) refl

-- digits lack what is no digit
lacks-digits : (byte : ℕ) (text : List ℕ) → is_digit byte ≡ false → list_all is_digit text ≡ true → lacks byte text ≡ true
lacks-digits byte [] other digits = refl
lacks-digits byte (x ∷ text) other digits =
    let parts = and_parts (is_digit x) (list_all is_digit text) digits in
    let differs : eqb x byte ≡ false = ne_eqb x byte (λ same. false≢true (sym other ∙ ap is_digit (sym same) ∙ parts.0)) in
    rw (differs, lacks-digits byte text other parts.1) refl

-- decimals have only digits
lacks-decimal : (byte n : ℕ) → is_digit byte ≡ false → n < 2 ^ 64 → lacks byte (decimal n) ≡ true
lacks-decimal byte n other small = lacks-digits byte (decimal n) other (digits_decimal own n small)

pub decimals-are-numbers : DecimalsAreNumbers
decimals-are-numbers = record { spelled = number_at-spelled; read = number_at-again; digits = digits_decimal own; others = lacks-decimal }
