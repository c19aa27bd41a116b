-- The spelling of one byte at the front of a text: what is read was spelled so, and what is spelled so is read.
use Rattle.std.proofs.Common.{◌≡◌, ℕ, zero, suc, ◌/◌, ◌%◌, ◌<◌, Bool, true, false, cond, eqb, leb, is_err, List, [], ◌∷◌, ◌++◌, length, Option, Some, None, Result, Ok, Err, inl, inr, refl, sym, ap, subst, ◌∙◌, arith}
use Rattle.std.specs.Prelude.{◌||◌, codes, slice_index, option_map, MatchResult}
use Rattle.std.specs.List.{list_any}
use Rattle.std.specs.Result.{result_ok}
use Rattle.std.proofs.lemmas.Bool.{cases_Bool, not-true, or_parts, and_parts, eqb-true, eqb-false, ne_eqb, leb-true}
use Rattle.std.proofs.lemmas.Option.{same_Some, cond_some}
use Rattle.hex.specs.declared.error.FromHexError.{FromHexError}
use Rattle.hex.specs.Hex.{◌>>=◌, lower_digits, encode_with, encode_lower, pair_value, decode_pairs, IsBytes}
use Rattle.hex.proofs.HexLemmas.{IsDigits-lower_digits, decode_pairs-encode_with, decode_pairs-ok}
use Rattle.q3_io.specs.Quoted.{byte_spelling}
use Rattle.q3_words.specs.Hex.{is_capital}
use Rattle.q3_words.specs.Quotes.{is_printed, is_coded, hex_byte, coded_byte, coded_at, escaped_at, front_at}
use Rattle.q3_words.proofs.Addresses.{bind_some}
use Rattle.q3_words.proofs.Digits.{done_is, bind_done, pairs_spelled, pairs_small}

-- a byte and what follows it, and what may be missing
abbrev pub some_front : ℕ × List ℕ → Option (ℕ × List ℕ)
some_front front = Some front

abbrev pub no_front : Option (ℕ × List ℕ)
no_front = None

abbrev some_byte : ℕ → Option ℕ
some_byte byte = Some byte

abbrev no_byte : Option ℕ
no_byte = None

-- ---- spellings

-- a byte that is spelled in hex is spelled in no other way
record IsCoded (byte : ℕ) : Type 0 where
  some : eqb byte 0 ≡ false
  no_newline : eqb byte 10 ≡ false
  unseen : is_printed byte ≡ false
  no_quote : eqb byte 34 ≡ false
  no_backslash : eqb byte 92 ≡ false

-- what doesn't print isn't one that does
other_than : (byte printed : ℕ) → is_printed byte ≡ false → is_printed printed ≡ true → eqb byte printed ≡ false
other_than byte printed unseen prints = ne_eqb byte printed (λ same. (let both : false ≡ true = sym unseen ∙ ap is_printed same ∙ prints in absurd cc))

coded_is : (byte : ℕ) → is_coded byte ≡ true → IsCoded byte
coded_is byte coded =
    let outer = or_parts (eqb byte 0 || eqb byte 10) (is_printed byte) (not-true (eqb byte 0 || eqb byte 10 || is_printed byte) coded) in
    let inner = or_parts (eqb byte 0) (eqb byte 10) outer.0 in
    record {
      some = inner.0;
      no_newline = inner.1;
      unseen = outer.1;
      no_quote = other_than byte 34 outer.1 refl;
      no_backslash = other_than byte 92 outer.1 refl;
    }

spelling_coded : (byte : ℕ) → IsCoded byte → byte_spelling byte ≡ codes "\\x" ++ encode_lower (byte ∷ [])
spelling_coded byte coded =
    let unseen = coded.unseen in
    rw (coded.no_quote, coded.no_backslash, coded.no_newline, coded.unseen) refl

-- a byte that prints is no newline
printed_other : (byte : ℕ) → is_printed byte ≡ true → eqb byte 10 ≡ false
printed_other byte printed =
    let least = leb-true 32 byte (and_parts (leb 32 byte) (leb byte 126) printed).0 in
    ne_eqb byte 10 (λ same. absurd (omega arith))

spelling_printed : (byte : ℕ) → eqb byte 92 ≡ false → eqb byte 34 ≡ false → is_printed byte ≡ true → byte_spelling byte ≡ byte ∷ []
spelling_printed byte no_backslash no_quote printed = rw (no_quote, no_backslash, printed_other byte printed, printed) refl

-- a spelling has some byte
pub spelling_some : (byte : ℕ) → 0 < length (byte_spelling byte)
unfolding encode_with
spelling_some byte =
    elim (cases_Bool (eqb byte 34)) [
      | inl quote ↦ rw quote (omega arith)
      | inr no_quote ↦ elim (cases_Bool (eqb byte 92)) [
        | inl backslash ↦ rw (no_quote, backslash) (omega arith)
        | inr no_backslash ↦ elim (cases_Bool (eqb byte 10)) [
          | inl newline ↦ rw (no_quote, no_backslash, newline) (omega arith)
          | inr no_newline ↦ elim (cases_Bool (is_printed byte)) [
            | inl printed ↦ rw (no_quote, no_backslash, no_newline, printed) (omega arith)
            | inr unseen ↦ rw (no_quote, no_backslash, no_newline, unseen) (omega arith)
          ]
        ]
      ]
    ]

-- ---- two digits

-- a test that let something pass
guard_some : (test : Bool) (o : Option ℕ) (byte : ℕ) → cond test None o ≡ Some byte → (test ≡ false) × (o ≡ Some byte)
guard_some true o byte e = absurd cc
guard_some false o byte e = (refl, e)

pair_is : (r : Result ℕ FromHexError) (byte : ℕ) → result_ok r ≡ Some byte → r ≡ Ok byte
pair_is (Ok value) byte e = ap (λ (x : ℕ). Ok x) (same_Some value byte e)
pair_is (Err fault) byte e = absurd cc

-- digits that were read as a byte
record WereDigits (high low byte : ℕ) : Type 0 where
  spelled : high ∷ low ∷ [] ≡ encode_lower (byte ∷ [])
  coded : is_coded byte ≡ true
  small : byte < 256

pair_spelled : (high low byte : ℕ) → pair_value high low 0 ≡ Ok byte → decode_pairs 0 (high ∷ low ∷ []) ≡ Ok (byte ∷ [])
unfolding decode_pairs
pair_spelled high low byte e = rw e refl

hex_byte-spelled : (high low byte : ℕ) → hex_byte high low ≡ Some byte → (high ∷ low ∷ [] ≡ encode_lower (byte ∷ [])) × (byte < 256)
unfolding hex_byte
hex_byte-spelled high low byte e =
    let small = guard_some (list_any is_capital (high ∷ low ∷ [])) (result_ok (pair_value high low 0)) byte e in
    let pair = pair_spelled high low byte (pair_is (pair_value high low 0) byte small.1) in
    (pairs_spelled 0 (high ∷ low ∷ []) (byte ∷ []) pair small.0, (decode_pairs-ok 0 (high ∷ low ∷ []) (byte ∷ []) pair).2 0)

coded_byte-spelled : (high low byte : ℕ) → coded_byte high low ≡ Some byte → WereDigits high low byte
unfolding coded_byte
coded_byte-spelled high low byte e =
    let value = bind_some (hex_byte high low) (λ value. cond (is_coded value) (some_byte value) no_byte) byte e in
    let both = cond_some (is_coded value.0) value.0 byte value.2 in
    let digits = hex_byte-spelled high low value.0 value.1 in
    subst (λ (x : ℕ). WereDigits high low x) both.1 (record { spelled = digits.0; coded = both.0; small = digits.1 })

one_byte : (byte : ℕ) → byte < 256 → IsBytes (byte ∷ [])
one_byte byte small zero = small
one_byte byte small (suc i) = omega arith

pair_again : (high low byte : ℕ) → decode_pairs 0 (high ∷ low ∷ []) ≡ Ok (byte ∷ []) → pair_value high low 0 ≡ Ok byte
unfolding decode_pairs
pair_again high low byte e =
    let value = bind_done (pair_value high low 0) (λ value. decode_pairs 2 [] >>= λ bytes. Ok (value ∷ bytes)) (byte ∷ []) e in
    let same : value.0 ∷ [] ≡ byte ∷ [] = done_is (value.0 ∷ []) (byte ∷ []) value.2 in
    let is : value.0 ≡ byte = cc in
    value.1 ∙ ap (λ (x : ℕ). Ok x) is

hex_byte-again : (byte : ℕ) → byte < 256 → hex_byte (slice_index lower_digits (byte / 16)) (slice_index lower_digits (byte % 16)) ≡ Some byte
unfolding hex_byte encode_with
hex_byte-again byte small =
    let are = one_byte byte small in
    let pair = pair_again (slice_index lower_digits (byte / 16)) (slice_index lower_digits (byte % 16)) byte (decode_pairs-encode_with lower_digits IsDigits-lower_digits 0 (byte ∷ []) are) in
    let none : list_any is_capital (slice_index lower_digits (byte / 16) ∷ slice_index lower_digits (byte % 16) ∷ []) ≡ false = pairs_small (byte ∷ []) are in
    rw (none, pair) refl

coded_byte-again : (byte : ℕ) → byte < 256 → is_coded byte ≡ true → coded_byte (slice_index lower_digits (byte / 16)) (slice_index lower_digits (byte % 16)) ≡ Some byte
unfolding coded_byte
coded_byte-again byte small coded = rw (hex_byte-again byte small, coded) refl

-- what a decoder of two digits left
abbrev pub IsLeft : Result Unit FromHexError → List ℕ → Result (List ℕ) FromHexError → Type 0
IsLeft answer out decoded = MatchResult decoded (λ bytes. (answer ≡ Ok tt) × (out ≡ bytes)) (λ fault. answer ≡ Err fault)

-- of a pair, as one byte
abbrev alone : Result ℕ FromHexError → Result (List ℕ) FromHexError
alone pair = pair >>= λ byte. Ok (byte ∷ [])

pair_refused : (pair : Result ℕ FromHexError) (answer : Result Unit FromHexError) (out : List ℕ) → IsLeft answer out (alone pair) → is_err answer ≡ true → no_byte ≡ result_ok pair
pair_refused (Ok byte) answer out left refused = let nothing : false ≡ true = rw left.0 at refused in absurd cc
pair_refused (Err fault) answer out left refused = refl

pair_taken : (pair : Result ℕ FromHexError) (answer : Result Unit FromHexError) (out : List ℕ) → IsLeft answer out (alone pair) → is_err answer ≡ false → some_byte (slice_index out 0) ≡ result_ok pair
pair_taken (Ok byte) answer out left taken = rw left.1 refl
pair_taken (Err fault) answer out left taken = let nothing : true ≡ false = rw left at taken in absurd cc

-- a capital is no digit
pub capital_refused : (high low : ℕ) → list_any is_capital (high ∷ low ∷ []) ≡ true → no_byte ≡ hex_byte high low
unfolding hex_byte
capital_refused high low capital = rw capital refl

-- two digits that aren't decoded
pub digits_refused : (high low : ℕ) (answer : Result Unit FromHexError) (out : List ℕ) → list_any is_capital (high ∷ low ∷ []) ≡ false → IsLeft answer out (decode_pairs 0 (high ∷ low ∷ [])) → is_err answer ≡ true → no_byte ≡ hex_byte high low
unfolding hex_byte decode_pairs
digits_refused high low answer out none left refused = rw none (pair_refused (pair_value high low 0) answer out left refused)

-- and two that are
pub digits_taken : (high low : ℕ) (answer : Result Unit FromHexError) (out : List ℕ) → list_any is_capital (high ∷ low ∷ []) ≡ false → IsLeft answer out (decode_pairs 0 (high ∷ low ∷ [])) → is_err answer ≡ false → some_byte (slice_index out 0) ≡ hex_byte high low
unfolding hex_byte decode_pairs
digits_taken high low answer out none left taken = rw none (pair_taken (pair_value high low 0) answer out left taken)

-- ---- fronts

-- a byte that a text began with
pub record WasFront (text : List ℕ) (byte : ℕ) (rest : List ℕ) : Type 0 where
  pub spelled : text ≡ byte_spelling byte ++ rest
  pub some : 0 < byte
  pub small : byte < 256

-- a byte that is escaped by one letter
was_letter : (text : List ℕ) (letter first byte : ℕ) (rest : List ℕ) → some_front (first, text) ≡ some_front (byte, rest) → WasFront (92 ∷ letter ∷ text) first text → WasFront (92 ∷ letter ∷ text) byte rest
was_letter text letter first byte rest e was = subst (λ (front : ℕ × List ℕ). WasFront (92 ∷ letter ∷ text) front.0 front.1) (same_Some (first, text) (byte, rest) e) was

was_coded : (high low value : ℕ) (text : List ℕ) → coded_byte high low ≡ Some value → WasFront (92 ∷ 120 ∷ high ∷ low ∷ text) value text
was_coded high low value text e =
    let were = coded_byte-spelled high low value e in
    let coded = coded_is value were.coded in
    let spelling = spelling_coded value coded in
    let not_zero = eqb-false value 0 coded.some in
    record {
      spelled = ap (λ (digits : List ℕ). 92 ∷ 120 ∷ digits ++ text) were.spelled ∙ ap (λ (spelled : List ℕ). spelled ++ text) (sym spelling);
      some = omega (arith, not_zero);
      small = were.small;
    }

-- a byte with the text after it
abbrev with_text : List ℕ → ℕ → ℕ × List ℕ
with_text text byte = (byte, text)

coded_from : (high low : ℕ) (text : List ℕ) (o : Option ℕ) (byte : ℕ) (rest : List ℕ) → coded_byte high low ≡ o → option_map (with_text text) o ≡ Some (byte, rest) → WasFront (92 ∷ 120 ∷ high ∷ low ∷ text) byte rest
coded_from high low text (Some value) byte rest is e =
    subst (λ (front : ℕ × List ℕ). WasFront (92 ∷ 120 ∷ high ∷ low ∷ text) front.0 front.1) (same_Some (value, text) (byte, rest) e) (was_coded high low value text is)
coded_from high low text None byte rest is e = absurd cc

coded_at-spelled : (text : List ℕ) (byte : ℕ) (rest : List ℕ) → coded_at text ≡ Some (byte, rest) → WasFront (92 ∷ 120 ∷ text) byte rest
coded_at-spelled [] byte rest e = absurd cc
coded_at-spelled (high ∷ []) byte rest e = absurd cc
coded_at-spelled (high ∷ low ∷ text) byte rest e = coded_from high low text (coded_byte high low) byte rest refl e

escaped_at-spelled : (text : List ℕ) (byte : ℕ) (rest : List ℕ) → escaped_at text ≡ Some (byte, rest) → WasFront (92 ∷ text) byte rest
escaped_at-spelled [] byte rest e = absurd cc
escaped_at-spelled (letter ∷ text) byte rest e =
    elim (cases_Bool (eqb letter 34)) [
      | inl quote ↦ was_letter text letter 34 byte rest (rw quote at e) (record { spelled = rw (eqb-true letter 34 quote) refl; some = omega arith; small = omega arith })
      | inr no_quote ↦ elim (cases_Bool (eqb letter 92)) [
        | inl backslash ↦ was_letter text letter 92 byte rest (rw (no_quote, backslash) at e) (record { spelled = rw (eqb-true letter 92 backslash) refl; some = omega arith; small = omega arith })
        | inr no_backslash ↦ elim (cases_Bool (eqb letter 110)) [
          | inl newline ↦ was_letter text letter 10 byte rest (rw (no_quote, no_backslash, newline) at e) (record { spelled = rw (eqb-true letter 110 newline) refl; some = omega arith; small = omega arith })
          | inr no_newline ↦ elim (cases_Bool (eqb letter 120)) [
            | inl hex ↦ subst (λ (x : ℕ). WasFront (92 ∷ x ∷ text) byte rest) (sym (eqb-true letter 120 hex)) (coded_at-spelled text byte rest (rw (no_quote, no_backslash, no_newline, hex) at e))
            | inr other ↦ let nothing : no_front ≡ some_front (byte, rest) = rw (no_quote, no_backslash, no_newline, other) at e in absurd cc
          ]
        ]
      ]
    ]

-- what is read at the front of a text was spelled so
pub front_at-spelled : (text : List ℕ) (byte : ℕ) (rest : List ℕ) → front_at text ≡ Some (byte, rest) → WasFront text byte rest
unfolding front_at
front_at-spelled [] byte rest e = absurd cc
front_at-spelled (first ∷ text) byte rest e =
    elim (cases_Bool (eqb first 92)) [
      | inl backslash ↦ subst (λ (x : ℕ). WasFront (x ∷ text) byte rest) (sym (eqb-true first 92 backslash)) (escaped_at-spelled text byte rest (rw backslash at e))
      | inr no_backslash ↦ elim (cases_Bool (eqb first 34)) [
        | inl quote ↦ let nothing : no_front ≡ some_front (byte, rest) = rw (no_backslash, quote) at e in absurd cc
        | inr no_quote ↦ elim (cases_Bool (is_printed first)) [
          | inl printed ↦
              let is : some_front (first, text) ≡ some_front (byte, rest) = rw (no_backslash, no_quote, printed) at e in
              let least = leb-true 32 first (and_parts (leb 32 first) (leb first 126) printed).0 in
              let most = leb-true first 126 (and_parts (leb 32 first) (leb first 126) printed).1 in
              let was : WasFront (first ∷ text) first text = record {
                spelled = ap (λ (spelled : List ℕ). spelled ++ text) (sym (spelling_printed first no_backslash no_quote printed));
                some = omega arith;
                small = omega arith;
              } in
              subst (λ (front : ℕ × List ℕ). WasFront (first ∷ text) front.0 front.1) (same_Some (first, text) (byte, rest) is) was
          | inr unseen ↦ let nothing : no_front ≡ some_front (byte, rest) = rw (no_backslash, no_quote, unseen) at e in absurd cc
        ]
      ]
    ]

-- what is spelled in hex is read
coded_again : (byte : ℕ) (rest : List ℕ) → byte < 256 → is_coded byte ≡ true → front_at (byte_spelling byte ++ rest) ≡ Some (byte, rest)
unfolding front_at encode_with
coded_again byte rest small coded = rw (spelling_coded byte (coded_is byte coded), coded_byte-again byte small coded) refl

-- and what is spelled so is read
pub front_at-again : (byte : ℕ) (rest : List ℕ) → 0 < byte → byte < 256 → front_at (byte_spelling byte ++ rest) ≡ Some (byte, rest)
unfolding front_at
front_at-again byte rest some small =
    elim (cases_Bool (eqb byte 34)) [
      | inl quote ↦ rw (eqb-true byte 34 quote) refl
      | inr no_quote ↦ elim (cases_Bool (eqb byte 92)) [
        | inl backslash ↦ rw (eqb-true byte 92 backslash) refl
        | inr no_backslash ↦ elim (cases_Bool (eqb byte 10)) [
          | inl newline ↦ rw (eqb-true byte 10 newline) refl
          | inr no_newline ↦ elim (cases_Bool (is_printed byte)) [
            | inl printed ↦ rw (spelling_printed byte no_backslash no_quote printed, no_backslash, no_quote, printed) refl
            | inr unseen ↦
                let not_zero : eqb byte 0 ≡ false = ne_eqb byte 0 (λ none. absurd (omega arith)) in
                coded_again byte rest small (rw (not_zero, no_newline, unseen) refl)
          ]
        ]
      ]
    ]
