-- What stands at a place of a demo, by its bytes from there on.
use Rattle.std.proofs.Common.{◌≡◌, ℕ, ◌+◌, ◌<◌, ◌≤◌, Bool, true, false, if◌then◌else◌, List, ◌++◌, length, take, drop, Result, Ok, Err, refl, sym, ap, ap₂, ◌∙◌, inl, inr, arith}
use Rattle.std.specs.Prelude.{◌⊎◌, ◌||◌, ◌==◌, nat_le, nat_lt}
use Rattle.std.proofs.lemmas.Bool.{cases_Bool, ltb-true, ltb-false, leb-false, lt-ltb, le-ltb, lt-leb, ne_eqb, or_parts, or_from, or_left, or_right}
use Rattle.std.proofs.lemmas.List.{length-take, length-drop, length-append, take_at, take-append-drop, drop-append-le, drop-take}
use Rattle.byteorder.specs.Numbers.{little_from-append}
use Rattle.q3_demo.specs.declared.error.DemoError.{DemoError}
use Rattle.q3_demo.specs.declared.error.DemoError.TheVariants.{Truncated, BadLength, BadNumber}
use Rattle.q3_demo.specs.declared.record.Piece.{Piece}
use Rattle.q3_demo.specs.declared.record.Piece.TheVariants as piece
use Rattle.q3_demo.specs.Records.{head_bytes, number_of, length_of, end_mark, longest_record, number_end, most_bytes, piece_of}

-- by what each of the tests says
abbrev pub piece_by : Bool → Bool → Bool → Bool → ℕ → ℕ → ℕ → Result Piece DemoError
piece_by ends long low cut at number length =
    if ends then Ok piece.End
    else if long then Err (BadLength at)
    else if low then Err (BadNumber at)
    else if cut then Err (Truncated at)
    else Ok (piece.Message number length (at + head_bytes + length))

abbrev pub ends_in : List ℕ → Bool
ends_in bytes = nat_lt (length bytes) head_bytes || (length_of bytes == end_mark)

abbrev pub long_in : List ℕ → Bool
long_in bytes = nat_lt longest_record (length_of bytes)

abbrev pub low_in : List ℕ → ℕ → Bool
low_in bytes last = nat_le (number_of bytes) last || nat_le number_end (number_of bytes)

abbrev pub cut_in : List ℕ → ℕ → Bool
cut_in bytes at = nat_lt (length bytes) (head_bytes + length_of bytes) || nat_lt most_bytes (at + head_bytes + length_of bytes)

by_tests : (bytes : List ℕ) (at last : ℕ) (ends long low cut : Bool) → ends_in bytes ≡ ends → long_in bytes ≡ long → low_in bytes last ≡ low → cut_in bytes at ≡ cut
    → piece_of bytes at last ≡ piece_by ends long low cut at (number_of bytes) (length_of bytes)
by_tests bytes at last ends long low cut e f g h = rw (e, f, g, h) refl

-- ---- a head

-- bytes that begin with a head of this number and this length of its message
pub record HasHead (bytes : List ℕ) (number size : ℕ) : Type 0 where
  pub some : head_bytes ≤ length bytes
  pub number_is : number ≡ number_of bytes
  pub size_is : size ≡ length_of bytes

goes_on : (bytes : List ℕ) (number size : ℕ) → HasHead bytes number size → (size ≡ end_mark → ⊥) → ends_in bytes ≡ false
goes_on bytes number size head is =
    or_from (nat_lt (length bytes) head_bytes) (length_of bytes == end_mark) (le-ltb (length bytes) head_bytes head.some)
    (ne_eqb (length_of bytes) end_mark (λ e. is (head.size_is ∙ e)))

fits_so : (bytes : List ℕ) (number size : ℕ) → HasHead bytes number size → size ≤ longest_record → long_in bytes ≡ false
fits_so bytes number size head short = le-ltb longest_record (length_of bytes) (omega (arith, head.size_is))

rises_so : (bytes : List ℕ) (last number size : ℕ) → HasHead bytes number size → last < number → number < number_end → low_in bytes last ≡ false
rises_so bytes last number size head above below =
    or_from (nat_le (number_of bytes) last) (nat_le number_end (number_of bytes)) (lt-leb (number_of bytes) last (omega (arith, head.number_is)))
    (lt-leb number_end (number_of bytes) (omega (arith, head.number_is)))

whole_so : (bytes : List ℕ) (at number size : ℕ) → HasHead bytes number size → head_bytes + size ≤ length bytes → at + head_bytes + size ≤ most_bytes → cut_in bytes at ≡ false
whole_so bytes at number size head there within =
    or_from (nat_lt (length bytes) (head_bytes + length_of bytes)) (nat_lt most_bytes (at + head_bytes + length_of bytes))
    (le-ltb (length bytes) (head_bytes + length_of bytes) (omega (arith, head.size_is)))
    (le-ltb most_bytes (at + head_bytes + length_of bytes) (omega (arith, head.size_is)))

-- ---- what stands there

pub too_short : (bytes : List ℕ) (at last number size : ℕ) → HasHead bytes number size → size ≤ longest_record → last < number → number < number_end
    → (length bytes < head_bytes + size) ⊎ (most_bytes < at + head_bytes + size) → piece_of bytes at last ≡ Err (Truncated at)
too_short bytes at last number size head short above below cut =
    let there : Bool = nat_lt (length bytes) (head_bytes + length_of bytes) in
    let within : Bool = nat_lt most_bytes (at + head_bytes + length_of bytes) in
    let test : cut_in bytes at ≡ true =
    elim cut [
      | inl lt ↦ or_left there within (lt-ltb (length bytes) (head_bytes + length_of bytes) (omega (arith, head.size_is)))
      | inr lt ↦ or_right there within (lt-ltb most_bytes (at + head_bytes + length_of bytes) (omega (arith, head.size_is)))
    ] in
    by_tests bytes at last false false false true (goes_on bytes number size head (λ e. omega arith)) (fits_so bytes number size head short)
    (rises_so bytes last number size head above below) test

-- bytes that begin with a record
pub record HasRecord (bytes : List ℕ) (at last number size next : ℕ) : Type 0 where
  pub head : HasHead bytes number size
  pub short : size ≤ longest_record
  pub above : last < number
  pub below : number < number_end
  pub there : head_bytes + size ≤ length bytes
  pub within : at + head_bytes + size ≤ most_bytes
  pub next_is : next ≡ at + head_bytes + size

pub record_is : (bytes : List ℕ) (at last number size next : ℕ) → HasRecord bytes at last number size next → piece_of bytes at last ≡ Ok (piece.Message number size next)
record_is bytes at last number size next has =
    by_tests bytes at last false false false false (goes_on bytes number size has.head (λ e. omega (arith, has.short))) (fits_so bytes number size has.head has.short)
    (rises_so bytes last number size has.head has.above has.below) (whole_so bytes at number size has.head has.there has.within)
    ∙ rw (← has.head.number_is, ← has.head.size_is, ← has.next_is) refl

-- what the tests say where a record is there
record Passes (ends long low cut : Bool) (at number size n s x : ℕ) : Type 0 where
  goes : ends ≡ false
  fits : long ≡ false
  rises : low ≡ false
  whole : cut ≡ false
  number_is : n ≡ number
  size_is : s ≡ size
  next_is : x ≡ at + head_bytes + size

passes : (ends long low cut : Bool) (at number size n s x : ℕ) → piece_by ends long low cut at number size ≡ Ok (piece.Message n s x) → Passes ends long low cut at number size n s x
passes true long low cut at number size n s x is = absurd cc
passes false true low cut at number size n s x is = absurd cc
passes false false true cut at number size n s x is = absurd cc
passes false false false true at number size n s x is = absurd cc
passes false false false false at number size n s x is = record { goes = refl; fits = refl; rises = refl; whole = refl; number_is = cc; size_is = cc; next_is = cc }

pub was_record : (bytes : List ℕ) (at last number size next : ℕ) → piece_of bytes at last ≡ Ok (piece.Message number size next) → HasRecord bytes at last number size next
was_record bytes at last number size next is =
    let p = passes (ends_in bytes) (long_in bytes) (low_in bytes last) (cut_in bytes at) at (number_of bytes) (length_of bytes) number size next is in
    let goes = or_parts (nat_lt (length bytes) head_bytes) (length_of bytes == end_mark) p.goes in
    let rises = or_parts (nat_le (number_of bytes) last) (nat_le number_end (number_of bytes)) p.rises in
    let whole = or_parts (nat_lt (length bytes) (head_bytes + length_of bytes)) (nat_lt most_bytes (at + head_bytes + length_of bytes)) p.whole in
    record {
      head = record { some = ltb-false (length bytes) head_bytes goes.0; number_is = p.number_is; size_is = p.size_is };
      short = omega (arith, ltb-false longest_record (length_of bytes) p.fits, p.size_is);
      above = omega (arith, leb-false (number_of bytes) last rises.0, p.number_is);
      below = omega (arith, leb-false number_end (number_of bytes) rises.1, p.number_is);
      there = omega (arith, ltb-false (length bytes) (head_bytes + length_of bytes) whole.0, p.size_is);
      within = omega (arith, ltb-false most_bytes (at + head_bytes + length_of bytes) whole.1, p.size_is);
      next_is = p.next_is ∙ ap (λ (n : ℕ). at + head_bytes + n) (sym p.size_is);
    }

-- ---- nothing after it counts

number_before : (front rest : List ℕ) → head_bytes ≤ length front → number_of (front ++ rest) ≡ number_of front
number_before front rest long = little_from-append 4 front rest (omega arith)

length_before : (front rest : List ℕ) → head_bytes ≤ length front → length_of (front ++ rest) ≡ length_of front
length_before front rest long =
    ap (λ (xs : List ℕ). number_of xs) (drop-append-le 4 front rest (omega arith)) ∙ little_from-append 4 (drop 4 front) rest (omega (arith, length-drop 4 front))

-- the first bytes keep their head, whatever follows them
pub head_stays : (bytes rest : List ℕ) (count number size : ℕ) → head_bytes ≤ count → HasHead bytes number size → HasHead (take count bytes ++ rest) number size
head_stays bytes rest count number size some head =
    let front : List ℕ = take count bytes in
    let long : head_bytes ≤ length front = omega (arith, length-take count bytes, head.some) in
    record {
      some = omega (arith, length-append front rest);
      number_is = head.number_is ∙ ap (λ (xs : List ℕ). number_of xs) (sym (take-append-drop count bytes)) ∙ number_before front (drop count bytes) long ∙ sym (number_before front rest long);
      size_is = head.size_is ∙ ap (λ (xs : List ℕ). length_of xs) (sym (take-append-drop count bytes)) ∙ length_before front (drop count bytes) long ∙ sym (length_before front rest long);
    }

-- and so does a record
pub record_stays : (bytes rest : List ℕ) (at last number size next : ℕ) → HasRecord bytes at last number size next → HasRecord (take (head_bytes + size) bytes ++ rest) at last number size next
record_stays bytes rest at last number size next has = record {
  head = head_stays bytes rest (head_bytes + size) number size (omega arith) has.head;
  short = has.short;
  above = has.above;
  below = has.below;
  there = omega (arith, length-append (take (head_bytes + size) bytes) rest, length-take (head_bytes + size) bytes, has.there);
  within = has.within;
  next_is = has.next_is;
}

-- and its message
pub message_stays : (bytes rest : List ℕ) (size : ℕ) → head_bytes + size ≤ length bytes
    → take size (drop head_bytes (take (head_bytes + size) bytes ++ rest)) ≡ take size (drop head_bytes bytes)
message_stays bytes rest size there =
    let front : List ℕ = take (head_bytes + size) bytes in
    ap (take size) (drop-append-le head_bytes front rest (omega (arith, length-take (head_bytes + size) bytes)) ∙ ap (λ (xs : List ℕ). xs ++ rest) (drop-take head_bytes size bytes))
    ∙ take_at (take size (drop head_bytes bytes)) rest size (omega (arith, length-take size (drop head_bytes bytes), length-drop head_bytes bytes))

-- ---- a front of the bytes

-- in a front the bytes end within a head, or within a message, or the same stands there as in all of them
abbrev pub StandsBefore : List ℕ → Result Piece DemoError → Result Piece DemoError → ℕ → Type 0
StandsBefore bytes front whole at =
    ((front ≡ Ok piece.End) × (length bytes < head_bytes))
    ⊎ (((front ≡ Err (Truncated at)) × (head_bytes ≤ length bytes) × (length bytes < head_bytes + length_of bytes)) ⊎ (front ≡ whole))

-- after a head that ends no demo
after_head : (front rest : List ℕ) (at last : ℕ) → head_bytes ≤ length front → (length_of front == end_mark) ≡ false → StandsBefore front (piece_of front at last) (piece_of (front ++ rest) at last) at
after_head front rest at last some marked =
    let all : List ℕ = front ++ rest in
    let longer : length all ≡ length front + length rest = length-append front rest in
    let number : number_of all ≡ number_of front = number_before front rest some in
    let size : length_of all ≡ length_of front = length_before front rest some in
    let goes : ends_in front ≡ false = or_from (nat_lt (length front) head_bytes) (length_of front == end_mark) (le-ltb (length front) head_bytes some) marked in
    let goes_all : ends_in all ≡ false =
    or_from (nat_lt (length all) head_bytes) (length_of all == end_mark) (le-ltb (length all) head_bytes (omega arith)) (ap (λ (n : ℕ). n == end_mark) size ∙ marked) in
    let long_same : long_in all ≡ long_in front = ap (λ (n : ℕ). nat_lt longest_record n) size in
    let low_same : low_in all last ≡ low_in front last = ap (λ (n : ℕ). nat_le n last || nat_le number_end n) number in
    let within : Bool = nat_lt most_bytes (at + head_bytes + length_of front) in
    let within_same : nat_lt most_bytes (at + head_bytes + length_of all) ≡ within = ap (λ (n : ℕ). nat_lt most_bytes (at + head_bytes + n)) size in
    elim (cases_Bool (long_in front)) [
      | inl long ↦
          inr (inr (by_tests front at last false true (low_in front last) (cut_in front at) goes long refl refl
          ∙ sym (by_tests all at last false true (low_in all last) (cut_in all at) goes_all (long_same ∙ long) refl refl)))
      | inr fits ↦ elim (cases_Bool (low_in front last)) [
        | inl low ↦
            inr (inr (by_tests front at last false false true (cut_in front at) goes fits low refl
            ∙ sym (by_tests all at last false false true (cut_in all at) goes_all (long_same ∙ fits) (low_same ∙ low) refl)))
        | inr rises ↦ elim (cases_Bool (nat_lt (length front) (head_bytes + length_of front))) [
          | inl short ↦
              inr (inl (
                by_tests front at last false false false true goes fits rises (or_left (nat_lt (length front) (head_bytes + length_of front)) within short),
                some,
                ltb-true (length front) (head_bytes + length_of front) short,
              ))
          | inr there ↦ (
              let there_all : nat_lt (length all) (head_bytes + length_of all) ≡ false =
              le-ltb (length all) (head_bytes + length_of all) (omega (arith, ltb-false (length front) (head_bytes + length_of front) there)) in
              elim (cases_Bool within) [
                | inl beyond ↦
                    inr (inr (by_tests front at last false false false true goes fits rises (or_right (nat_lt (length front) (head_bytes + length_of front)) within beyond)
                    ∙ sym (by_tests all at last false false false true goes_all (long_same ∙ fits) (low_same ∙ rises)
                    (or_right (nat_lt (length all) (head_bytes + length_of all)) (nat_lt most_bytes (at + head_bytes + length_of all)) (within_same ∙ beyond)))))
                | inr inside ↦
                    inr (inr (by_tests front at last false false false false goes fits rises (or_from (nat_lt (length front) (head_bytes + length_of front)) within there inside)
                    ∙ ap₂ (λ (n l : ℕ). piece_by false false false false at n l) (sym number) (sym size)
                    ∙ sym (by_tests all at last false false false false goes_all (long_same ∙ fits) (low_same ∙ rises)
                    (or_from (nat_lt (length all) (head_bytes + length_of all)) (nat_lt most_bytes (at + head_bytes + length_of all)) there_all (within_same ∙ inside)))))
              ]
              )
        ]
      ]
    ]

pub piece_before : (front rest : List ℕ) (at last : ℕ) → StandsBefore front (piece_of front at last) (piece_of (front ++ rest) at last) at
piece_before front rest at last =
    elim (cases_Bool (nat_lt (length front) head_bytes)) [
      | inl short ↦
          inl (
            by_tests front at last true (long_in front) (low_in front last) (cut_in front at) (or_left (nat_lt (length front) head_bytes) (length_of front == end_mark) short) refl refl refl,
            ltb-true (length front) head_bytes short,
          )
      | inr long ↦ (
          let some : head_bytes ≤ length front = ltb-false (length front) head_bytes long in
          let all : List ℕ = front ++ rest in
          elim (cases_Bool (length_of front == end_mark)) [
            | inl marked ↦
                inr (inr (by_tests front at last true (long_in front) (low_in front last) (cut_in front at) (or_right (nat_lt (length front) head_bytes) (length_of front == end_mark) marked) refl refl refl
                ∙ sym (by_tests all at last true (long_in all) (low_in all last) (cut_in all at)
                (or_right (nat_lt (length all) head_bytes) (length_of all == end_mark) (ap (λ (n : ℕ). n == end_mark) (length_before front rest some) ∙ marked)) refl refl refl)))
            | inr goes ↦ after_head front rest at last some goes
          ]
          )
    ]
