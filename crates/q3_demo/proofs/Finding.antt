-- What is found at a place of a demo, by its head and then by its message.
use Rattle.std.proofs.Common.{◌≡◌, ℕ, ◌+◌, ◌<◌, ◌≤◌, List, ◌++◌, length, take, drop, Option, Some, Ok, Err, refl, sym, ap, subst, ◌∙◌, inl, inr, arith}
use Rattle.std.proofs.lemmas.List.{length-take, length-append, drop_at, take_all, take-append-drop}
use Rattle.q3_io.specs.Told.{Told}
use Rattle.q3_demo.specs.declared.error.DemoError.TheVariants.{Truncated}
use Rattle.q3_demo.specs.declared.record.Head.{Head}
use Rattle.q3_demo.specs.declared.record.Piece.TheVariants as piece
use Rattle.q3_demo.specs.Records.{head_bytes, number_of, length_of, longest_record, number_end, most_bytes}
use Rattle.q3_demo.specs.Running.{HasFrom, OnlyAsks, FindsPiece}
use Rattle.q3_demo.specs.Steps.{Fills, FindsHead}
use Rattle.q3_demo.proofs.Whole.{has_before, has_joined}
use Rattle.q3_demo.proofs.Pieces.{HasHead, HasRecord, too_short, record_is, head_stays}

-- a head was found
pub record Found (told : Option Told) (file at number size : ℕ) : Type 0 where
  pub bytes : List ℕ
  pub has : HasFrom told file at bytes
  pub head : HasHead bytes number size

pub head_found : (told : Option Told) (file at : ℕ) (bytes : List ℕ) (head : Head) → HasFrom told file at bytes → FindsHead bytes (Ok (Some head)) → Found told file at head.number head.length
head_found told file at bytes head has finds = record { bytes = bytes; has = has; head = record { some = finds.0; number_is = finds.1; size_is = finds.2 } }

-- what is read of it from a buffer that begins with it
pub head_read : (bytes buffer : List ℕ) (count : ℕ) → Fills bytes buffer (Ok count) → head_bytes ≤ length buffer → head_bytes ≤ count → HasHead bytes (number_of buffer) (length_of buffer)
head_read bytes buffer count fills room least =
    let same : take count buffer ++ drop count bytes ≡ bytes = ap (λ (front : List ℕ). front ++ drop count bytes) fills.1 ∙ take-append-drop count bytes in
    subst (λ (xs : List ℕ). HasHead xs (number_of buffer) (length_of buffer)) same
    (head_stays buffer (drop count bytes) count (number_of buffer) (length_of buffer) least (record { some = room; number_is = refl; size_is = refl }))

pub far : (told : Option Told) (file at last number size : ℕ) (buffer : List ℕ) → Found told file at number size → size ≤ longest_record → last < number → number < number_end
    → most_bytes < at + head_bytes + size → (bytes : List ℕ) × HasFrom told file at bytes × FindsPiece bytes at last buffer (Err (Truncated at))
far told file at last number size buffer found short above below is =
    (found.bytes, found.has, (sym (too_short found.bytes at last number size found.head short above below (inr is)), tt))

-- ---- the message after it

long_both : (told : Option Told) (file at number size : ℕ) (found : Found told file at number size) (after : List ℕ) → length (take head_bytes found.bytes ++ after) ≡ head_bytes + length after
long_both told file at number size found after = omega (arith, length-append (take head_bytes found.bytes) after, length-take head_bytes found.bytes, found.head.some)

both_has : (told mid : Option Told) (file at number size : ℕ) (found : Found told file at number size) (after : List ℕ) → OnlyAsks told mid → HasFrom mid file (at + head_bytes) after
    → HasFrom told file at (take head_bytes found.bytes ++ after)
both_has told mid file at number size found after asks has =
    has_joined told file at head_bytes found.bytes after found.has (has_before told mid file (at + head_bytes) after asks has)

both_head : (told : Option Told) (file at number size : ℕ) (found : Found told file at number size) (after : List ℕ) → HasHead (take head_bytes found.bytes ++ after) number size
both_head told file at number size found after = head_stays found.bytes after head_bytes number size (omega arith) found.head

pub cut : (told mid : Option Told) (file at last number size count : ℕ) (part buffer after : List ℕ) → Found told file at number size → size ≤ longest_record → last < number → number < number_end
    → OnlyAsks told mid → HasFrom mid file (at + head_bytes) after → Fills after part (Ok count) → length part ≡ size → count < size
    → (bytes : List ℕ) × HasFrom told file at bytes × FindsPiece bytes at last buffer (Err (Truncated at))
cut told mid file at last number size count part buffer after found short above below asks has fills room less = (
  take head_bytes found.bytes ++ after,
  both_has told mid file at number size found after asks has,
  (
    sym (too_short (take head_bytes found.bytes ++ after) at last number size (both_head told file at number size found after) short above below
        (inl (omega (arith, long_both told file at number size found after, fills.0)))),
    tt,
  ),
)

pub whole : (told mid : Option Told) (file at last number size next count : ℕ) (part buffer after : List ℕ) → Found told file at number size → size ≤ longest_record → last < number → number < number_end
    → OnlyAsks told mid → HasFrom mid file (at + head_bytes) after → Fills after part (Ok count) → length part ≡ size → size ≤ count → take size buffer ≡ part
    → next ≡ at + head_bytes + size → next ≤ most_bytes
    → (bytes : List ℕ) × HasFrom told file at bytes × FindsPiece bytes at last buffer (Ok (piece.Message number size next))
whole told mid file at last number size next count part buffer after found short above below asks has fills room all is next_is within =
    let bytes : List ℕ = take head_bytes found.bytes ++ after in
    let came : size ≡ count = omega (arith, fills.0) in
    let there : HasRecord bytes at last number size next = record {
      head = both_head told file at number size found after;
      short = short;
      above = above;
      below = below;
      there = omega (arith, long_both told file at number size found after, fills.0);
      within = omega arith;
      next_is = next_is;
    } in (
      bytes,
      both_has told mid file at number size found after asks has,
      (
        sym (record_is bytes at last number size next there),
        is ∙ sym (take_all size part (omega arith)) ∙ ap (λ n. take n part) came ∙ fills.1 ∙ ap (λ n. take n after) (sym came)
            ∙ ap (take size) (sym (drop_at (take head_bytes found.bytes) after head_bytes (omega (arith, length-take head_bytes found.bytes, found.head.some)))),
      ),
    )
