-- Bytes in hex against their grammar: what is read was spelled so, and what is spelled so is read.
use Rattle.std.proofs.Common.{◌≡◌, ℕ, zero, suc, ◌/◌, ◌%◌, ◌<◌, ◌≤◌, true, false, cond, leb, eqb, is_err, take, drop, List, [], ◌∷◌, ◌++◌, length, Option, Some, None, Result, Ok, Err, inl, inr, refl, sym, ap, subst, ◌∙◌, arith}
use Rattle.std.specs.Prelude.{◌||◌, codes, option_map, All, MatchResult}
use Rattle.std.specs.List.{list_any, refill}
use Rattle.std.specs.Result.{result_ok}
use Rattle.std.specs.Str.{bytes_eq}
use Rattle.std.proofs.Math.Seq.{take-append_seam}
use Rattle.std.proofs.lemmas.List.{length-take-le}
use Rattle.std.proofs.lemmas.Bool.{cases_Bool, cases_eq, or_parts, or_right, ne_eqb, eq-eqb, leb-true, le-leb, lt-leb}
use Rattle.std.proofs.lemmas.Option.{same_Some, cond_some}
use Rattle.std.proofs.lemmas.List.Elements.{All-head, All-tail, All-from_get_or}
use Rattle.std.proofs.lemmas.Slice.Eq.{bytes_eq-Decides}
use Rattle.hex.specs.declared.error.FromHexError.{FromHexError}
use Rattle.hex.specs.Hex.{lower_digits, encode_lower, decode_of, decode_sized, IsBytes}
use Rattle.hex.proofs.HexLemmas.{length-encode_with, decode_of-encode_lower, decode_of-even, decode_of-ok, decode_of-odd, decode_sized-twice, decode_sized-odd, decode_sized-ok}
use Rattle.arrayvec.specs.ArrayVec.{ArrayVec}
use Rattle.q3_bits.specs.OptionBind.{◌>>=◌}
use Rattle.q3_io.specs.Print.{hex_word}
use Rattle.q3_words.specs.Hex.{is_capital, hex_at, hex_within, most_area, area_at, SpellsHex}
use Rattle.q3_words.proofs.Addresses.{bind_some}
use Rattle.q3_words.proofs.Digits.{pairs_spelled, pairs_small}
use Rattle.q3_words.specs.Laws.{WereFew}

-- ---- words

abbrev pub some_bytes : List ℕ → Option (List ℕ)
some_bytes bytes = Some bytes

abbrev no_bytes : Option (List ℕ)
no_bytes = None

are_bytes : (bytes : List ℕ) → All (λ byte. byte < 256) bytes → IsBytes bytes
are_bytes [] each i = omega arith
are_bytes (byte ∷ bytes) each zero = All-head (λ byte. byte < 256) byte bytes each
are_bytes (byte ∷ bytes) each (suc i) = are_bytes bytes (All-tail (λ byte. byte < 256) byte bytes each) i

hex_text_some : (bytes : List ℕ) → 0 < length bytes → hex_word bytes ≡ encode_lower bytes
hex_text_some [] some = absurd (omega arith)
hex_text_some (byte ∷ bytes) some = refl

ok_is_some : (r : Result (List ℕ) FromHexError) (bytes : List ℕ) → result_ok r ≡ Some bytes → r ≡ Ok bytes
ok_is_some (Ok x) bytes e = ap (λ (y : List ℕ). Ok y) (same_Some x bytes e)
ok_is_some (Err fault) bytes e = absurd cc

-- bytes that a word spells
record WereBytes (word bytes : List ℕ) : Type 0 where
  spelled : SpellsHex word bytes
  each : All (λ byte. byte < 256) bytes

-- were spelled so
hex_at-spelled : (word bytes : List ℕ) → hex_at word ≡ Some bytes → WereBytes word bytes
unfolding hex_at
hex_at-spelled word bytes e =
    elim (cases_Bool (bytes_eq (codes "-") word)) [
      | inl dash ↦
          let same : [] ≡ bytes = same_Some [] bytes (rw dash at e) in
          rw (← same) (record { spelled = sym ((bytes_eq-Decides (codes "-") word).0 dash); each = All-from_get_or (λ byte. byte < 256) [] 0 (λ i lt. omega arith) })
      | inr other ↦ elim (cases_Bool (eqb (length word) 0 || list_any is_capital word)) [
        | inl refused ↦ let nothing : no_bytes ≡ some_bytes bytes = rw (other, refused) at e in absurd cc
        | inr good ↦
            let decoded = ok_is_some (decode_of word) bytes (rw (other, good) at e) in
            let both = or_parts (eqb (length word) 0) (list_any is_capital word) good in
            let ok = decode_of-ok word bytes decoded in
            let text = pairs_spelled 0 word bytes (sym (decode_of-even word ok.0) ∙ decoded) both.1 in
            let some : 0 < length bytes = grind (arith) in
            record { spelled = text ∙ sym (hex_text_some bytes some); each = All-from_get_or (λ byte. byte < 256) bytes 0 (λ i lt. ok.3 i) }
      ]
    ]

-- and what is spelled so is read
hex_at-again : (bytes : List ℕ) → All (λ byte. byte < 256) bytes → hex_at (hex_word bytes) ≡ Some bytes
unfolding hex_at
hex_at-again [] each = refl
hex_at-again (byte ∷ bytes) each =
    let are = are_bytes (byte ∷ bytes) each in
    let size = length-encode_with lower_digits (byte ∷ bytes) in
    let other : bytes_eq (codes "-") (encode_lower (byte ∷ bytes)) ≡ false = elim (cases_Bool (bytes_eq (codes "-") (encode_lower (byte ∷ bytes)))) [
      | inl dash ↦ let one = ap (λ (text : List ℕ). length text) ((bytes_eq-Decides (codes "-") (encode_lower (byte ∷ bytes))).0 dash) in absurd (omega arith)
      | inr other ↦ other
    ] in
    let some : eqb (length (encode_lower (byte ∷ bytes))) 0 ≡ false = ne_eqb _ 0 (λ none. absurd (omega arith)) in
    let small = pairs_small (byte ∷ bytes) are in
    rw (other, some, small, decode_of-encode_lower (byte ∷ bytes) are) refl

-- ---- bytes up to a limit

-- few enough bytes that a word spells were spelled so
pub hex_within-spelled : (limit : ℕ) (word bytes : List ℕ) → hex_within limit word ≡ Some bytes → WereFew limit word bytes
unfolding hex_within
hex_within-spelled limit word bytes e =
    let read = bind_some (hex_at word) (λ bytes. cond (leb (length bytes) limit) (some_bytes bytes) no_bytes) bytes e in
    let both = cond_some (leb (length read.0) limit) read.0 bytes read.2 in
    let were = hex_at-spelled word read.0 read.1 in
    subst (λ (x : List ℕ). WereFew limit word x) both.1 (record { spelled = were.spelled; few = leb-true (length read.0) limit both.0; each = were.each })

-- and what is spelled so is read
pub hex_within-again : (limit : ℕ) (word bytes : List ℕ) → SpellsHex word bytes → length bytes ≤ limit → All (λ byte. byte < 256) bytes → hex_within limit word ≡ Some bytes
unfolding hex_within
hex_within-again limit word bytes spelled few each =
    let fits : leb (length bytes) limit ≡ true = le-leb _ _ few in
    ap (hex_within limit) spelled ∙ rw (hex_at-again bytes each, fits) refl

-- ---- area bytes

abbrev some_area : List ℕ → Option (ArrayVec ℕ)
some_area bytes = Some (record { items = bytes })

-- what is read of area bytes was spelled so
pub area_at-spelled : (word : List ℕ) (area : ArrayVec ℕ) → area_at word ≡ Some area → WereFew most_area word area.items
unfolding area_at
area_at-spelled word area e =
    let bytes = bind_some (hex_within most_area word) some_area area e in
    subst (λ (x : ArrayVec ℕ). WereFew most_area word x.items) (same_Some (record { items = bytes.0 }) area bytes.2) (hex_within-spelled most_area word bytes.0 bytes.1)

-- and what is spelled so is read
pub area_at-again : (word : List ℕ) (area : ArrayVec ℕ) → SpellsHex word area.items → length area.items ≤ most_area → All (λ byte. byte < 256) area.items → area_at word ≡ Some area
unfolding area_at
area_at-again word area spelled few each = rw (hex_within-again most_area word area.items spelled few each) refl

-- area bytes are those of the word
pub area_within : (word : List ℕ) (area : Option (ArrayVec ℕ)) → option_map (λ bytes. bytes.items) area ≡ hex_within most_area word → area ≡ area_at word
unfolding area_at
area_within word (Some area) e = rw (← e) refl
area_within word None e = rw (← e) refl

-- ---- the steps of reading bytes up to a limit

-- a `-` is none
pub dash_is_none : (limit : ℕ) (word bytes : List ℕ) → bytes_eq (codes "-") word ≡ true → bytes ≡ [] → some_bytes bytes ≡ hex_within limit word
unfolding hex_within hex_at
dash_is_none limit word bytes dash none =
    let fits : leb 0 limit ≡ true = le-leb 0 limit (omega arith) in
    rw (dash, none, fits) refl

-- a word that may be some: it is no `-`, it isn't empty, and has no capital
pub record MaySpell (word : List ℕ) : Type 0 where
  pub other : bytes_eq (codes "-") word ≡ false
  pub some : 0 < length word
  pub small : list_any is_capital word ≡ false

-- what was decoded, if it is few enough
abbrev few_of : ℕ → Result (List ℕ) FromHexError → Option (List ℕ)
few_of limit answer = result_ok answer >>= λ bytes. cond (leb (length bytes) limit) (some_bytes bytes) no_bytes

-- is what it decodes to
few_is : (limit : ℕ) (word : List ℕ) → MaySpell word → hex_within limit word ≡ few_of limit (decode_of word)
unfolding hex_within hex_at
few_is limit word may =
    let some : eqb (length word) 0 ≡ false = ne_eqb (length word) 0 (λ none. (let more = may.some in absurd (omega arith))) in
    rw (may.other, some, may.small) refl

-- the empty word is none
pub none_empty : (limit : ℕ) (word : List ℕ) → bytes_eq (codes "-") word ≡ false → length word ≡ 0 → no_bytes ≡ hex_within limit word
unfolding hex_within hex_at
none_empty limit word other none = let empty : eqb (length word) 0 ≡ true = eq-eqb (length word) 0 none in rw (other, empty) refl

-- nor is one with a capital
pub none_capital : (limit : ℕ) (word : List ℕ) → bytes_eq (codes "-") word ≡ false → list_any is_capital word ≡ true → no_bytes ≡ hex_within limit word
unfolding hex_within hex_at
none_capital limit word other capital =
    let refused : (eqb (length word) 0 || list_any is_capital word) ≡ true = or_right _ _ capital in
    rw (other, refused) refl

-- nor a word of too many pairs
pub none_above : (limit : ℕ) (word : List ℕ) → MaySpell word → limit < length word / 2 → no_bytes ≡ hex_within limit word
none_above limit word may above = rw (few_is limit word may) (of_answer (decode_of word) (λ bytes e. (let size = (decode_of-ok word bytes e).2 in lt-leb _ _ (omega arith))))
  where
    of_answer : (r : Result (List ℕ) FromHexError) → ((bytes : List ℕ) → r ≡ Ok bytes → leb (length bytes) limit ≡ false) → no_bytes ≡ few_of limit r
    of_answer (Ok bytes) above = rw (above bytes refl) refl
    of_answer (Err fault) above = refl

-- decoded to half as many places as it has digits
sized : (limit : ℕ) (word : List ℕ) (n : ℕ) → MaySpell word → n ≡ length word / 2 → hex_within limit word ≡ few_of limit (decode_sized word n)
sized limit word n may half =
    few_is limit word may ∙ elim (cases_eq (length word % 2) 1) [
      | inl odd ↦ rw (decode_of-odd word odd, decode_sized-odd word n odd) refl
      | inr even ↦ ap (few_of limit) (sym (decode_sized-twice word n (omega arith)))
    ]

size_is : (word : List ℕ) (n : ℕ) (bytes : List ℕ) → decode_sized word n ≡ Ok bytes → length bytes ≡ n
size_is word n bytes e =
    let digits = decode_sized-ok word n bytes e in
    let size = (decode_of-ok word bytes (sym (decode_sized-twice word n digits) ∙ e)).2 in
    omega arith

-- what a decoder of an answer left
abbrev IsLeft : Result Unit FromHexError → List ℕ → Result (List ℕ) FromHexError → Type 0
IsLeft answer out decoded = MatchResult decoded (λ bytes. (answer ≡ Ok tt) × (out ≡ bytes)) (λ fault. answer ≡ Err fault)

none_left : (limit : ℕ) (few : Option (List ℕ)) (decoded : Result (List ℕ) FromHexError) (answer : Result Unit FromHexError) (out : List ℕ) → few ≡ few_of limit decoded → IsLeft answer out decoded → is_err answer ≡ true → no_bytes ≡ few
none_left limit few (Ok bytes) answer out is left refused = let nothing : false ≡ true = rw left.0 at refused in absurd cc
none_left limit few (Err fault) answer out is left refused = sym is

-- a word that isn't decoded spells none
pub none_refused : (limit : ℕ) (word : List ℕ) (n : ℕ) (answer : Result Unit FromHexError) (out : List ℕ) → MaySpell word → n ≡ length word / 2 → IsLeft answer out (decode_sized word n) → is_err answer ≡ true → no_bytes ≡ hex_within limit word
none_refused limit word n answer out may half left refused = none_left limit (hex_within limit word) (decode_sized word n) answer out (sized limit word n may half) left refused

-- and one that is decoded spells what is left in the places
pub record WasDecoded (limit : ℕ) (word : List ℕ) (n : ℕ) (out : List ℕ) : Type 0 where
  pub is : some_bytes out ≡ hex_within limit word
  pub size : length out ≡ n

some_left : (limit : ℕ) (found : Option (List ℕ)) (decoded : Result (List ℕ) FromHexError) (answer : Result Unit FromHexError) (out : List ℕ) (n : ℕ) → n ≤ limit → ((bytes : List ℕ) → decoded ≡ Ok bytes → length bytes ≡ n)
    → found ≡ few_of limit decoded → IsLeft answer out decoded → is_err answer ≡ false → (some_bytes out ≡ found) × (length out ≡ n)
some_left limit found (Ok bytes) answer out n few size is left taken =
    let same = size bytes refl in
    let fits : leb (length bytes) limit ≡ true = le-leb _ _ (omega arith) in
    (rw (left.1, is, fits) refl, rw left.1 same)
some_left limit found (Err fault) answer out n few size is left taken = let nothing : true ≡ false = rw left at taken in absurd cc

pub some_decoded : (limit : ℕ) (word : List ℕ) (n : ℕ) (answer : Result Unit FromHexError) (out : List ℕ) → MaySpell word → n ≡ length word / 2 → n ≤ limit → IsLeft answer out (decode_sized word n) → is_err answer ≡ false → WasDecoded limit word n out
some_decoded limit word n answer out may half few left taken =
    let both = some_left limit (hex_within limit word) (decode_sized word n) answer out n few (size_is word n) (sized limit word n may half) left taken in
    record { is = both.0; size = both.1 }

-- so many places hold what was put into all of them
pub refilled : (places out : List ℕ) → length out ≡ length places → refill (length places) places out ≡ out
refilled places out size = rw (← size) (take-append_seam out (drop (length out) places))

-- so do so many that are all there are
pub all_of : (n : ℕ) (out rest : List ℕ) → n ≡ length out → take n (out ++ rest) ≡ out
all_of n out rest e = rw e (take-append_seam out rest)

-- places that were cut to so many
pub size_of_cut : (n : ℕ) (places cut : List ℕ) → cut ≡ take n places → n ≤ length places → length cut ≡ n
size_of_cut n places cut is fits = ap (λ (xs : List ℕ). length xs) is ∙ length-take-le n places fits
