-- The strings of a new map tell its id.
use Rattle.std.proofs.Common.{◌≡◌, ℕ, zero, suc, ◌+◌, ◌-◌, ◌/◌, ◌%◌, ◌^◌, ◌<◌, ◌≤◌, Bool, true, false, cond, eqb, leb, ltb, List, [], ◌∷◌, ◌++◌, length, map, replicate, Some, refl, subst, ap, ◌∙◌, rules, arith, length-append}
use Rattle.std.specs.Prelude.{codes}
use Rattle.std.specs.List.{All}
use Rattle.std.specs.Fmt.{decimal, digit_glyph, digits_onto}
use Rattle.std.proofs.lemmas.Bool.{le-ltb, ltb-true, ne_eqb, and_parts, leb-true}
use Rattle.std.proofs.lemmas.Fmt.{length-decimal-le}
use Rattle.std.proofs.DigitsParse.{digits_onto-nil}
use Rattle.std.proofs.lemmas.List.{map-append, get_or-set_same, length-replicate}
use Rattle.std.proofs.lemmas.List.Elements.{All-append, All-nil, All-cons, All-weaker}
use Rattle.std.proofs.lemmas.List.Folds.{map_fixed}
use Rattle.std.proofs.lemmas.List.Splits.{slice_split_none, slice_split_at}
use Rattle.std.proofs.lemmas.List.Sums.{AllPass-from_list_all}
use Rattle.q3_text.specs.Texts.{translated}
use Rattle.q3_text.specs.Decimals.{is_digit}
use Rattle.q3_text.specs.Info.{parts_of, paired, info_pairs, value_in, info_of}
use Rattle.q3_config.specs.Strings.{places, no_strings, with_string, string_at, server_id}
use Rattle.q3_map.specs.Map.{id_text}
use Rattle.q3_map.specs.Laws.{NewMapsTell}
use Rattle.q3_map.proofs.Strings.{alone_fits}
use Rattle.q3_text.specs.Laws.{TextLaws}

abbrev AboveZero : ℕ → Type 0
AboveZero byte = 0 < byte

-- ---- the bytes of the text

glyph_some : (digit : ℕ) → 0 < digit_glyph false digit
glyph_some digit = either (ltb digit 10)
  where
    either : (low : Bool) → 0 < cond low (48 + digit) (87 + digit)
    either true = omega arith
    either false = omega arith

digits_some : (count n : ℕ) (after : List ℕ) → All AboveZero after → All AboveZero (digits_onto count 10 false n after)
digits_some zero n after some = some
digits_some (suc count) n after some =
    let more : All AboveZero (digit_glyph false (n % 10) ∷ after) = All-cons AboveZero (digit_glyph false (n % 10)) after (glyph_some (n % 10)) some in
    either (eqb (n / 10) 0) _ _ more (digits_some count (n / 10) (digit_glyph false (n % 10) ∷ after) more)
  where
    either : (last : Bool) (xs ys : List ℕ) → All AboveZero xs → All AboveZero ys → All AboveZero (cond last xs ys)
    either true xs ys first other = first
    either false xs ys first other = other

-- a number in decimal has no byte 0
decimal_some : (n : ℕ) → All AboveZero (decimal n)
decimal_some n = subst (λ (text : List ℕ). All AboveZero text) (digits_onto-nil 10 false n) (digits_some 64 n [] (All-nil AboveZero))

key_some : All AboveZero (codes "\\sv_serverid\\")
key_some = All-weaker (λ byte. ltb 0 byte ≡ true) AboveZero (λ byte more. ltb-true 0 byte more) (codes "\\sv_serverid\\") (AllPass-from_list_all (λ byte. ltb 0 byte) (codes "\\sv_serverid\\") refl)

-- and so has the text
id_text_some : (id : ℕ) → All AboveZero (id_text id)
id_text_some id = All-append AboveZero (codes "\\sv_serverid\\") (decimal id) key_some (decimal_some id)

-- the text is short
id_text_short : (id : ℕ) → id < 2 ^ 31 → length (id_text id) ≤ 32
id_text_short id small = omega (arith, length-append (codes "\\sv_serverid\\") (decimal id), length-decimal-le 10 id (omega arith) (omega arith) (omega arith))

-- ---- what it tells

-- a digit is kept as it is, and is no backslash
digit_kept : (byte : ℕ) → is_digit byte ≡ true → translated byte ≡ byte
digit_kept byte digit =
    let range = and_parts (leb 48 byte) (leb byte 57) digit in
    let low = leb-true 48 byte range.0 in
    let high = leb-true byte 57 range.1 in
    let seven : ltb 127 byte ≡ false = le-ltb 127 byte (omega arith) in
    let other : eqb byte 37 ≡ false = ne_eqb byte 37 (λ same. omega arith) in
    rw (seven, other) refl

digit_within : (byte : ℕ) → is_digit byte ≡ true → eqb byte 92 ≡ false
digit_within byte digit =
    let range = and_parts (leb 48 byte) (leb byte 57) digit in
    let high = leb-true byte 57 range.1 in
    ne_eqb byte 92 (λ same. omega arith)

digits_of_decimal : (laws : TextLaws) (id : ℕ) → id < 2 ^ 31 → All (λ byte. is_digit byte ≡ true) (decimal id)
digits_of_decimal laws id small = AllPass-from_list_all is_digit (decimal id) (laws.numbers.digits id (omega arith))

-- the text stays as it is
id_text_kept : (laws : TextLaws) (id : ℕ) → id < 2 ^ 31 → map translated (id_text id) ≡ id_text id
id_text_kept laws id small =
    map-append translated (codes "\\sv_serverid\\") (decimal id)
    ∙ ap (λ (digits : List ℕ). codes "\\sv_serverid\\" ++ digits)
    (map_fixed translated (decimal id) (All-weaker (λ byte. is_digit byte ≡ true) (λ byte. translated byte ≡ byte) digit_kept (decimal id) (digits_of_decimal laws id small)))

key_within : All (λ byte. eqb byte 92 ≡ false) (codes "sv_serverid")
key_within = search rules

-- it has one pair
parts_of_id : (laws : TextLaws) (id : ℕ) → id < 2 ^ 31 → parts_of (codes "sv_serverid" ++ 92 ∷ decimal id) ≡ codes "sv_serverid" ∷ decimal id ∷ []
parts_of_id laws id small =
    slice_split_at (λ byte. eqb byte 92) (codes "sv_serverid") 92 (decimal id) key_within refl
    ∙ ap (λ (parts : List (List ℕ)). codes "sv_serverid" ∷ parts)
    (slice_split_none (λ byte. eqb byte 92) (decimal id)
    (All-weaker (λ byte. is_digit byte ≡ true) (λ byte. eqb byte 92 ≡ false) digit_within (decimal id) (digits_of_decimal laws id small)))

info_of_id : (laws : TextLaws) (id : ℕ) → id < 2 ^ 31 → info_of (id_text id) (codes "sv_serverid") ≡ Some (decimal id)
unfolding info_pairs paired value_in
info_of_id laws id small =
    let said : value_in (paired (codes "sv_serverid" ∷ decimal id ∷ [])) (codes "sv_serverid") ≡ Some (decimal id) = refl in
    ap (λ (parts : List (List ℕ)). value_in (paired parts) (codes "sv_serverid")) (parts_of_id laws id small) ∙ said

string_is : (laws : TextLaws) (id : ℕ) → id < 2 ^ 31 → string_at (with_string no_strings 1 (id_text id)) 1 ≡ id_text id
string_is laws id small =
    get_or-set_same (replicate places []) 1 (map translated (id_text id)) [] (omega (arith, length-replicate {A = List ℕ} places []))
    ∙ id_text_kept laws id small

told_id : (laws : TextLaws) (id : ℕ) → id < 2 ^ 31 → server_id (with_string no_strings 1 (id_text id)) ≡ Some id
unfolding server_id
told_id laws id small =
    rw (string_is laws id small, info_of_id laws id small) (laws.numbers.read 0 (2 ^ 31 - 1) id (omega arith) (omega arith) (omega arith))

pub new_maps_tell : (laws : TextLaws) → NewMapsTell
new_maps_tell laws = record {
  bytes = id_text_some;
  fits = λ id small. alone_fits 1 (id_text id) (omega arith) (id_text_short id small);
  told = told_id laws;
}
