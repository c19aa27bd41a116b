-- Texts: what comes of bytes is one, and it stays as it is.
use Rattle.std.proofs.Common.{◌≡◌, ◌≢◌, ℕ, ◌≤◌, Bool, true, false, eqb, ltb, List, length, get_or, map, Option, Some, None, Ok, refl, sym, arith, inl, inr}
use Rattle.std.specs.Prelude.{not}
use Rattle.std.specs.List.{All, position}
use Rattle.std.proofs.lemmas.Bool.{cases_Bool, ltb-false, le-ltb, eqb-false, ne_eqb, not-true}
use Rattle.std.proofs.lemmas.List.{length-map}
use Rattle.std.proofs.lemmas.List.Folds.{map_fixed}
use Rattle.std.proofs.lemmas.List.Elements.{All-map, All-get_or, All-from_get_or, All-weaker}
use Rattle.std.proofs.lemmas.List.Sums.{AllPass-from_list_all}
use Rattle.q3_text.specs.declared.text.TextError.{TextError}
use Rattle.q3_text.specs.declared.text.TextError.TheVariants.{Long}
use Rattle.q3_text.specs.Texts.{most_bytes, translated, IsTextByte, IsText, zero_fault, text_fault, text_or, text_of}
use Rattle.q3_text.specs.Cuts.{lacks}
use Rattle.q3_text.proofs.Places.{no_place, none_pass, none_passes}

abbrev is_zero : ℕ → Bool
is_zero byte = eqb byte 0

-- a byte that isn't 0 becomes one of a text
translated-is : (byte : ℕ) → is_zero byte ≡ false → IsTextByte (translated byte)
translated-is byte some =
    elim (cases_Bool (ltb 127 byte)) [
      | inl high ↦ rw high (record { some = omega arith; seven_bits = omega arith; no_percent = omega arith })
      | inr low ↦ elim (cases_Bool (eqb byte 37)) [
        | inl percent ↦ rw (low, percent) (record { some = omega arith; seven_bits = omega arith; no_percent = omega arith })
        | inr other ↦
            let few = ltb-false 127 byte low in
            let positive : byte ≢ 0 = eqb-false byte 0 some in
            let differs : byte ≢ 37 = eqb-false byte 37 other in
            rw (low, other) (record { some = omega arith; seven_bits = omega arith; no_percent = differs })
      ]
    ]

-- and a byte of a text is its own
translated-same : (byte : ℕ) → IsTextByte byte → translated byte ≡ byte
translated-same byte is =
    let low : ltb 127 byte ≡ false = le-ltb 127 byte (let few = is.seven_bits in omega arith) in
    let other : eqb byte 37 ≡ false = ne_eqb byte 37 is.no_percent in
    rw (low, other) refl

-- bytes that are few and none of them 0, translated
pub IsText-translated : (bytes : List ℕ) → length bytes ≤ 1023 → no_place ≡ position is_zero bytes → IsText (map translated bytes)
IsText-translated bytes few none = record {
  short = omega (arith, length-map bytes translated);
  each = All-map IsTextByte translated bytes (All-from_get_or (λ x. IsTextByte (translated x)) bytes 0 (λ i lt. translated-is (get_or bytes i 0) (All-get_or (λ x. is_zero x ≡ false) bytes i 0 lt (none_pass is_zero bytes none))));
}

abbrev no_fault : Option TextError
no_fault = None

-- where a text comes of bytes, nothing is wrong with them
text-ok : (bytes text : List ℕ) (fault : Option TextError) → text_or bytes fault ≡ Ok text → (fault ≡ no_fault) × (map translated bytes ≡ text)
text-ok bytes text None e = (refl, cc)
text-ok bytes text (Some fault) e = absurd cc

no_zero : (place : Option ℕ) → zero_fault place ≡ no_fault → no_place ≡ place
no_zero None e = refl
no_zero (Some place) e = absurd cc

fault-none : (bytes : List ℕ) → text_fault bytes ≡ no_fault → (length bytes ≤ 1023) × (no_place ≡ position is_zero bytes)
unfolding text_fault
fault-none bytes e =
    elim (cases_Bool (ltb most_bytes (length bytes))) [
      | inl long ↦ let f : Some Long ≡ no_fault = rw long at e in absurd cc
      | inr short ↦
          let f : zero_fault (position is_zero bytes) ≡ no_fault = rw short at e in
          (ltb-false _ _ short, no_zero (position is_zero bytes) f)
    ]

-- what comes of bytes is a text
pub texts : (bytes text : List ℕ) → text_of bytes ≡ Ok text → IsText text
unfolding text_of
texts bytes text e =
    let ok = text-ok bytes text (text_fault bytes) e in
    let none = fault-none bytes ok.0 in
    rw (sym ok.1) (IsText-translated bytes none.0 none.1)

-- and a text is its own
pub stays : (text : List ℕ) → IsText text → text_of text ≡ Ok text
unfolding text_of text_fault
stays text is =
    let short : ltb most_bytes (length text) ≡ false = le-ltb _ _ is.short in
    let zero : position is_zero text ≡ no_place = none_passes is_zero text (All-from_get_or (λ x. is_zero x ≡ false) text 0 (λ i lt. ne_eqb (get_or text i 0) 0 (let each = All-get_or IsTextByte text i 0 lt is.each in let some = each.some in omega arith))) in
    let same : map translated text ≡ text = map_fixed translated text (All-from_get_or (λ x. translated x ≡ x) text 0 (λ i lt. translated-same (get_or text i 0) (All-get_or IsTextByte text i 0 lt is.each))) in
    rw (short, zero, same) refl

-- a text that lacks a byte has it nowhere
All-lacks : (text : List ℕ) → lacks 0 text ≡ true → All (λ byte. is_zero byte ≡ false) text
All-lacks text none = All-weaker (λ byte. not (is_zero byte) ≡ true) (λ byte. is_zero byte ≡ false) (λ byte e. not-true (is_zero byte) e) text (AllPass-from_list_all (λ byte. not (is_zero byte)) text none)

-- few bytes, none of them 0, make a text
pub made : (bytes : List ℕ) → length bytes ≤ most_bytes → lacks 0 bytes ≡ true → text_of bytes ≡ Ok (map translated bytes)
unfolding text_of text_fault
made bytes few none =
    let short : ltb most_bytes (length bytes) ≡ false = le-ltb _ _ few in
    let zero : position is_zero bytes ≡ no_place = none_passes is_zero bytes (All-lacks bytes none) in
    rw (short, zero) refl
