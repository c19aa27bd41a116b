-- Fields: what was written is read, and what is read stood there.
use Rattle.std.proofs.Common.{◌≡◌, ℕ, zero, suc, ◌+◌, ◌*◌, ◌/◌, ◌^◌, ◌<◌, ◌≤◌, Bool, true, false, if◌then◌else◌, List, [], ◌∷◌, ◌++◌, length, take, Ok, Err, inl, inr, refl, sym, ap, subst, ◌∙◌, arith}
use Rattle.std.specs.Prelude.{◌&&◌, ◌==◌, not, nat_lt, nat_le, All}
use Rattle.std.specs.List.{flat_map, list_all}
use Rattle.std.specs.Int.{byte_at, bytes_low_first}
use Rattle.std.proofs.Math.Nat.{div-div-eq-div-mul, div-one, pow-suc}
use Rattle.std.proofs.lemmas.Bool.{cases_lt, and_parts, and_from, leb-true, le-leb, le-ltb, ltb-true, ltb-false, lt-ltb, eqb-false, ne_eqb, not-true, not_from_false}
use Rattle.std.proofs.lemmas.List.{append-nil, append_assoc, drop_at, get_or_past, length-append, length-take-le, take-append-drop, take_at}
use Rattle.std.proofs.lemmas.List.Elements.{All-cons, All-drop, All-get_or, All-head, All-nil, All-tail, All-take}
use Rattle.byteorder.specs.Endian.{little_bytes, little_from, little_number}
use Rattle.byteorder.specs.Numbers.{length-bytes_low_first, little_from-cons, little_from-lt, little_number-reads_back}
use Rattle.q3_text.specs.Texts.{IsTextByte}
use Rattle.q3_savestate.specs.Cursor.{Cursor, Field, cursor_after, field_at, number_at, is_text_byte, text_at}
use Rattle.q3_savestate.specs.Entities.{counted}

-- ---- what stands in front

-- bytes that stood in front of a cursor's, and it after them
pub record Took (cursor : Cursor) (bytes : List ℕ) (rest : Cursor) : Type 0 where
  pub stood : cursor.bytes ≡ bytes ++ rest.bytes
  pub place : rest.at ≡ cursor.at + length bytes
  pub fit : All (λ byte. byte < 256) rest.bytes

-- nothing
pub took_none : (cursor : Cursor) → All (λ byte. byte < 256) cursor.bytes → Took cursor [] cursor
took_none cursor fit = record { stood = refl; place = omega arith; fit = fit }

-- some, and others after them
pub took_both : (cursor next rest : Cursor) (first others : List ℕ) → Took cursor first next → Took next others rest → Took cursor (first ++ others) rest
took_both cursor next rest first others one more = record {
  stood = one.stood ∙ ap (λ bytes. first ++ bytes) more.stood ∙ sym (append_assoc first others rest.bytes);
  place = omega (arith, one.place, more.place, length-append first others);
  fit = more.fit;
}

-- items after their number
pub took_counted : {X : Type 0} (item : X → List ℕ) (count : ℕ) (cursor next rest : Cursor) (items : List X) → Took cursor (little_bytes 2 count) next → Took next (flat_map item items) rest
    → length items ≡ count → Took cursor (counted item items) rest
took_counted item count cursor next rest items one more long = rw long (took_both cursor next rest (little_bytes 2 count) (flat_map item items) one more)

-- ---- any field

-- what stands in front is read
pub field_back : {X : Type 0} (count : ℕ) (value : List ℕ → X) (rule : X → Bool) (x : X) (bytes rest : List ℕ) (at : ℕ) → length bytes ≡ count → value bytes ≡ x → rule x ≡ true
    → field_at count value rule (record { at = at; bytes = bytes ++ rest }) ≡ Ok (x, record { at = at + count; bytes = rest })
field_back count value rule x bytes rest at long is holds =
    let there : nat_lt (length (bytes ++ rest)) count ≡ false = le-ltb (length (bytes ++ rest)) count (omega (arith, length-append bytes rest, long)) in
    rw (there, take_at bytes rest count long, drop_at bytes rest count long, is, holds) refl

-- two answers of a field are the same in both parts
pub both_same : {X : Type 0} (a x : X) (b y : Cursor) → ◌≡◌ {A = Field X} (Ok (a, b)) (Ok (x, y)) → (a ≡ x) × (b ≡ y)
both_same {X = X} a x b y e =
    let pair : ◌≡◌ {A = X × Cursor} (a, b) (x, y) = cc in
    (ap (λ p. p.0) pair, ap (λ p. p.1) pair)

-- so what is true of one is true of the other
pub carried : {X : Type 0} (P : X → Cursor → Type 0) (a x : X) (b y : Cursor) → ◌≡◌ {A = Field X} (Ok (a, b)) (Ok (x, y)) → P a b → P x y
carried {X = X} P a x b y e is =
    let same = both_same a x b y e in
    subst (λ (rest : Cursor). P x rest) same.1 (subst (λ (z : X). P z b) same.0 is)

-- a field by what its two tests say
abbrev field_by : {X : Type 0} → Bool → Bool → ℕ → X → Cursor → Field X
field_by short holds at y next = if short then Err at else if holds then Ok (y, next) else Err at

-- an answer came from there, with both tests passed
by_tests : {X : Type 0} (short holds : Bool) (at : ℕ) (y x : X) (next rest : Cursor) → field_by short holds at y next ≡ Ok (x, rest)
    → (short ≡ false) × (holds ≡ true) × (x ≡ y) × (rest ≡ next)
by_tests true holds at y x next rest e = absurd cc
by_tests false false at y x next rest e = absurd cc
by_tests false true at y x next rest e =
    let same = both_same y x next rest e in
    (refl, refl, sym same.0, sym same.1)

-- what is read is what stood in front
pub field_was : {X : Type 0} (count : ℕ) (value : List ℕ → X) (rule : X → Bool) (cursor : Cursor) (x : X) (rest : Cursor) → field_at count value rule cursor ≡ Ok (x, rest)
    → (count ≤ length cursor.bytes) × (x ≡ value (take count cursor.bytes)) × (rule x ≡ true) × (rest ≡ cursor_after count cursor)
field_was count value rule cursor x rest e =
    let is = by_tests (nat_lt (length cursor.bytes) count) (rule (value (take count cursor.bytes))) cursor.at (value (take count cursor.bytes)) x (cursor_after count cursor) rest e in
    (ltb-false (length cursor.bytes) count is.0, is.2, ap rule is.2 ∙ is.1, is.3)

-- and it is taken
pub took_field : (count : ℕ) (cursor : Cursor) (rest : Cursor) → All (λ byte. byte < 256) cursor.bytes → count ≤ length cursor.bytes → rest ≡ cursor_after count cursor → Took cursor (take count cursor.bytes) rest
took_field count cursor rest fit there is = record {
  stood = sym (take-append-drop count cursor.bytes) ∙ ap (λ (next : Cursor). take count cursor.bytes ++ next.bytes) (sym is);
  place = ap (λ (next : Cursor). next.at) is ∙ ap (λ n. cursor.at + n) (sym (length-take-le count cursor.bytes there));
  fit = subst (λ (next : Cursor). All (λ byte. byte < 256) next.bytes) (sym is) (All-drop (λ byte. byte < 256) count cursor.bytes fit);
}

-- ---- numbers

-- a byte of a number
this_byte : (x j byte n : ℕ) → byte < 256 → x / 256 ^ j ≡ byte + 256 * n → byte_at j x ≡ byte
this_byte x zero byte n below is = rw (sym (div-one x), is) (omega arith)
this_byte x (suc j) byte n below is = rw is (omega arith)

-- and the number after the byte
next_byte : (x j byte n : ℕ) → byte < 256 → x / 256 ^ j ≡ byte + 256 * n → x / 256 ^ suc j ≡ n
next_byte x j byte n below is = ap (λ (p : ℕ). x / p) (pow-suc 256 j) ∙ sym (div-div-eq-div-mul x (256 ^ j) 256) ∙ rw is (omega arith)

-- bytes of a number, from one of them on
bytes_of : (j x : ℕ) (bytes : List ℕ) → All (λ byte. byte < 256) bytes → x / 256 ^ j ≡ little_from 0 (length bytes) bytes → bytes_low_first j (length bytes) x ≡ bytes
bytes_of j x [] fit is = refl
bytes_of j x (byte ∷ bytes) fit is =
    let below : byte < 256 = All-head (λ byte. byte < 256) byte bytes fit in
    let whole : x / 256 ^ j ≡ byte + 256 * little_from 0 (length bytes) bytes = is ∙ ap (λ n. byte + 256 * n) (little_from-cons 0 (length bytes) byte bytes) in
    let others : x / 256 ^ suc j ≡ little_from 0 (length bytes) bytes = next_byte x j byte (little_from 0 (length bytes) bytes) below whole in
    rw (this_byte x j byte (little_from 0 (length bytes) bytes) below whole, bytes_of (suc j) x bytes (All-tail (λ byte. byte < 256) byte bytes fit) others) refl

-- bytes are those of the number that they are
pub bytes_of_number : (bytes : List ℕ) → All (λ byte. byte < 256) bytes → little_bytes (length bytes) (little_number (length bytes) bytes) ≡ bytes
bytes_of_number bytes fit = bytes_of 0 (little_number (length bytes) bytes) bytes fit (div-one (little_number (length bytes) bytes))

-- and it is below the power of so many bytes
number_below : (bytes : List ℕ) → All (λ byte. byte < 256) bytes → little_number (length bytes) bytes < 256 ^ length bytes
number_below bytes fit = little_from-lt 0 (length bytes) bytes (λ k. elim (cases_lt k (length bytes)) [
  | inl within ↦ All-get_or (λ byte. byte < 256) bytes k 0 within fit
  | inr past ↦ rw (get_or_past bytes k 0 past) (omega arith)
])

-- a number of so many bytes is that of its bytes
pub number_of_bytes : (count n : ℕ) → n < 256 ^ count → little_number count (little_bytes count n) ≡ n
number_of_bytes count n fits = sym (ap (little_number count) (append-nil (little_bytes count n))) ∙ little_number-reads_back count n [] fits

-- a number in its range is read
pub number_back : (count least most n at : ℕ) (rest : List ℕ) → n < 256 ^ count → least ≤ n → n ≤ most
    → number_at count least most (record { at = at; bytes = little_bytes count n ++ rest }) ≡ Ok (n, record { at = at + count; bytes = rest })
number_back count least most n at rest fits above below =
    let long : length (little_bytes count n) ≡ count = length-bytes_low_first 0 count n in
    field_back count (little_number count) (λ number. nat_le least number && nat_le number most) n (little_bytes count n) rest at long (number_of_bytes count n fits)
    (and_from (nat_le least n) (nat_le n most) (le-leb least n above) (le-leb n most below))

-- what is read stood there as its bytes
pub word_was : (count : ℕ) (cursor : Cursor) (n : ℕ) (rest : Cursor) → All (λ byte. byte < 256) cursor.bytes → count ≤ length cursor.bytes → n ≡ little_number count (take count cursor.bytes)
    → rest ≡ cursor_after count cursor → Took cursor (little_bytes count n) rest × (n < 256 ^ count)
word_was count cursor n rest fit there is left =
    let bytes : List ℕ = take count cursor.bytes in
    let long : length bytes ≡ count = length-take-le count cursor.bytes there in
    let fits : All (λ byte. byte < 256) bytes = All-take (λ byte. byte < 256) count cursor.bytes fit in
    let same : little_bytes count n ≡ bytes = ap (little_bytes count) is ∙ subst (λ k. little_bytes k (little_number k bytes) ≡ bytes) long (bytes_of_number bytes fits) in (
      subst (λ taken. Took cursor taken rest) (sym same) (took_field count cursor rest fit there left),
      rw is (subst (λ k. little_number k bytes < 256 ^ k) long (number_below bytes fits)),
    )

-- a number that is read
pub record Numbered (count least most : ℕ) (cursor : Cursor) (n : ℕ) (rest : Cursor) : Type 0 where
  pub took : Took cursor (little_bytes count n) rest
  pub above : least ≤ n
  pub below : n ≤ most
  pub fits : n < 256 ^ count

-- it stood there
pub numbered : (count least most : ℕ) (cursor : Cursor) (n : ℕ) (rest : Cursor) → All (λ byte. byte < 256) cursor.bytes → number_at count least most cursor ≡ Ok (n, rest)
    → Numbered count least most cursor n rest
numbered count least most cursor n rest fit e =
    let was = field_was count (little_number count) (λ number. nat_le least number && nat_le number most) cursor n rest e in
    let range = and_parts (nat_le least n) (nat_le n most) was.2 in
    let word = word_was count cursor n rest fit was.0 was.1 was.3 in
    record { took = word.0; above = leb-true least n range.0; below = leb-true n most range.1; fits = word.1 }

-- its parts
pub number_was : (count least most : ℕ) (cursor : Cursor) (n : ℕ) (rest : Cursor) → All (λ byte. byte < 256) cursor.bytes → number_at count least most cursor ≡ Ok (n, rest)
    → (cursor.bytes ≡ little_bytes count n ++ rest.bytes) × (rest.at ≡ cursor.at + count) × (least ≤ n) × (n ≤ most) × (n < 256 ^ count) × All (λ byte. byte < 256) rest.bytes
number_was count least most cursor n rest fit e =
    let is = numbered count least most cursor n rest fit e in
    (is.took.stood, is.took.place ∙ ap (λ k. cursor.at + k) (length-bytes_low_first 0 count n), is.above, is.below, is.fits, is.took.fit)

-- ---- texts

-- a byte that a text may hold passes the test
byte_passes : (byte : ℕ) → IsTextByte byte → is_text_byte byte ≡ true
byte_passes byte is =
    and_from (nat_lt 0 byte && nat_lt byte 128) (not (byte == 37)) (and_from (nat_lt 0 byte) (nat_lt byte 128) (lt-ltb 0 byte is.some) (lt-ltb byte 128 is.seven_bits))
    (not_from_false (byte == 37) (ne_eqb byte 37 is.no_percent))

-- and only such a byte
byte_was : (byte : ℕ) → is_text_byte byte ≡ true → IsTextByte byte
byte_was byte passes =
    let parts = and_parts (nat_lt 0 byte && nat_lt byte 128) (not (byte == 37)) passes in
    let range = and_parts (nat_lt 0 byte) (nat_lt byte 128) parts.0 in
    record {
      some = ltb-true 0 byte range.0;
      seven_bits = ltb-true byte 128 range.1;
      no_percent = eqb-false byte 37 (not-true (byte == 37) parts.1);
    }

-- so do bytes
bytes_pass : (text : List ℕ) → All IsTextByte text → list_all is_text_byte text ≡ true
bytes_pass [] each = refl
bytes_pass (byte ∷ text) each =
    and_from (is_text_byte byte) (list_all is_text_byte text) (byte_passes byte (All-head IsTextByte byte text each)) (bytes_pass text (All-tail IsTextByte byte text each))

-- and only such bytes
bytes_were : (text : List ℕ) → list_all is_text_byte text ≡ true → All IsTextByte text
bytes_were [] pass = All-nil IsTextByte
bytes_were (byte ∷ text) pass =
    let parts = and_parts (is_text_byte byte) (list_all is_text_byte text) pass in
    All-cons IsTextByte byte text (byte_was byte parts.0) (bytes_were text parts.1)

-- a text is read
pub text_back : (text : List ℕ) (at : ℕ) (rest : List ℕ) → All IsTextByte text
    → text_at (length text) (record { at = at; bytes = text ++ rest }) ≡ Ok (text, record { at = at + length text; bytes = rest })
text_back text at rest each = field_back (length text) (λ bytes. bytes) (list_all is_text_byte) text text rest at refl refl (bytes_pass text each)

-- a text that is read
pub record Worded (count : ℕ) (cursor : Cursor) (text : List ℕ) (rest : Cursor) : Type 0 where
  pub took : Took cursor text rest
  pub long : length text ≡ count
  pub each : All IsTextByte text

-- it stood there
pub worded : (count : ℕ) (cursor : Cursor) (text : List ℕ) (rest : Cursor) → All (λ byte. byte < 256) cursor.bytes → text_at count cursor ≡ Ok (text, rest) → Worded count cursor text rest
worded count cursor text rest fit e =
    let was = field_was count (λ bytes. bytes) (list_all is_text_byte) cursor text rest e in
    record {
      took = subst (λ taken. Took cursor taken rest) (sym was.1) (took_field count cursor rest fit was.0 was.3);
      long = ap length was.1 ∙ length-take-le count cursor.bytes was.0;
      each = bytes_were text was.2;
    }

-- its parts
pub text_was : (count : ℕ) (cursor : Cursor) (text : List ℕ) (rest : Cursor) → All (λ byte. byte < 256) cursor.bytes → text_at count cursor ≡ Ok (text, rest)
    → (cursor.bytes ≡ text ++ rest.bytes) × (rest.at ≡ cursor.at + count) × (length text ≡ count) × All IsTextByte text × All (λ byte. byte < 256) rest.bytes
text_was count cursor text rest fit e =
    let is = worded count cursor text rest fit e in
    (is.took.stood, is.took.place ∙ ap (λ k. cursor.at + k) is.long, is.long, is.each, is.took.fit)
