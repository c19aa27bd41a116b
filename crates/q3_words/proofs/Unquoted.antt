-- Words in quotes: what is read was spelled so, and what is spelled so is read.
use Rattle.std.proofs.Common.{◌≡◌, ℕ, zero, suc, ◌+◌, ◌<◌, ◌≤◌, Bool, true, false, cond, leb, List, [], ◌∷◌, ◌++◌, length, Option, Some, None, Result, Ok, Err, inl, inr, refl, sym, ap, subst, ◌∙◌, arith, append_assoc, length-append}
use Rattle.std.specs.Prelude.{codes, All}
use Rattle.std.specs.List.{flat_map, join_with_byte}
use Rattle.std.specs.Result.{result_ok}
use Rattle.std.specs.Str.{bytes_eq}
use Rattle.std.proofs.lemmas.Bool.{cases_Bool, leb-true, le-leb}
use Rattle.std.proofs.lemmas.Option.{same_Some}
use Rattle.std.proofs.lemmas.List.Elements.{All-nil, All-cons, All-head, All-tail}
use Rattle.std.proofs.lemmas.List.Splits.{join_with_byte-slice_split}
use Rattle.std.proofs.lemmas.Slice.Eq.{bytes_eq-Decides}
use Rattle.q3_io.specs.Quoted.{byte_spelling, quoted}
use Rattle.q3_text.specs.declared.text.TextError.{TextError}
use Rattle.q3_text.specs.Texts.{text_of}
use Rattle.q3_words.specs.declared.cause.LineCause.TheVariants as causes
use Rattle.q3_bits.specs.OptionBind.{◌>>=◌}
use Rattle.q3_words.specs.Words.{after_prefix, words_of}
use Rattle.q3_words.specs.Quotes.{front_at, bytes_at, unquoted_at, few_at, bytes_word, text_at, text_word, SpellsBytes, SpellsText}
use Rattle.q3_words.proofs.Prefixes.{after_prefix-spelled, after_prefix-again}
use Rattle.q3_words.proofs.Addresses.{bind_some}
use Rattle.q3_words.proofs.NumberWords.{ok_or-ok}
use Rattle.q3_words.proofs.Fronts.{some_front, no_front, spelling_some, front_at-spelled, front_at-again}

abbrev pub some_bytes : List ℕ → Option (List ℕ)
some_bytes bytes = Some bytes

abbrev pub no_bytes : Option (List ℕ)
no_bytes = None

-- a byte that a text in quotes may spell
abbrev pub IsSpelled : ℕ → Type 0
IsSpelled byte = (0 < byte) × (byte < 256)

-- the text after the first quote
abbrev ended : List ℕ → List ℕ
ended bytes = flat_map byte_spelling bytes ++ codes "\""

-- the spelling of a byte in front of others
more : (byte : ℕ) (bytes : List ℕ) → byte_spelling byte ++ ended bytes ≡ ended (byte ∷ bytes)
more byte bytes = sym (append_assoc (byte_spelling byte) (flat_map byte_spelling bytes) (codes "\""))

-- bytes that a text spelled up to a quote at its end
record WereBytes (text bytes : List ℕ) : Type 0 where
  spelled : text ≡ ended bytes
  each : All IsSpelled bytes

-- were spelled so
bytes_at-spelled : (most : ℕ) (text bytes : List ℕ) → bytes_at most text ≡ Some bytes → WereBytes text bytes
unfolding bytes_at
bytes_at-spelled zero text bytes e = absurd cc
bytes_at-spelled (suc most) text bytes e =
    elim (cases_Bool (bytes_eq (codes "\"") text)) [
      | inl end ↦
          let none : [] ≡ bytes = same_Some [] bytes (rw end at e) in
          rw (← none) (record { spelled = sym ((bytes_eq-Decides (codes "\"") text).0 end); each = All-nil IsSpelled })
      | inr other ↦
          let front = bind_some (front_at text) (λ front. bytes_at most front.1 >>= λ bytes. some_bytes (front.0 ∷ bytes)) bytes (rw other at e) in
          let others = bind_some (bytes_at most front.0.1) (λ bytes. some_bytes (front.0.0 ∷ bytes)) bytes front.2 in
          let was = front_at-spelled text front.0.0 front.0.1 front.1 in
          let were = bytes_at-spelled most front.0.1 others.0 others.1 in
          let whole : WereBytes text (front.0.0 ∷ others.0) = record {
            spelled = was.spelled ∙ ap (λ (rest : List ℕ). byte_spelling front.0.0 ++ rest) were.spelled ∙ more front.0.0 others.0;
            each = All-cons IsSpelled front.0.0 others.0 (was.some, was.small) were.each;
          } in
          rw (← same_Some (front.0.0 ∷ others.0) bytes others.2) whole
    ]

-- a text that begins with a spelling isn't the last quote
not_ended : (text : List ℕ) (front : ℕ × List ℕ) → front_at text ≡ Some front → bytes_eq (codes "\"") text ≡ false
unfolding front_at
not_ended text front e =
    elim (cases_Bool (bytes_eq (codes "\"") text)) [
      | inl end ↦
          let last = (bytes_eq-Decides (codes "\"") text).0 end in
          let nothing : no_front ≡ some_front front = ap front_at last ∙ e in
          absurd cc
      | inr other ↦ other
    ]

-- and what is spelled so is read
bytes_at-again : (most : ℕ) (bytes : List ℕ) → All IsSpelled bytes → length (ended bytes) ≤ most → bytes_at most (ended bytes) ≡ Some bytes
unfolding bytes_at
bytes_at-again zero bytes each enough = absurd (omega (arith, length-append (flat_map byte_spelling bytes) (codes "\"")))
bytes_at-again (suc most) [] each enough = refl
bytes_at-again (suc most) (byte ∷ bytes) each enough =
    let here = All-head IsSpelled byte bytes each in
    let text = more byte bytes in
    let front : front_at (ended (byte ∷ bytes)) ≡ Some (byte, ended bytes) = ap front_at (sym text) ∙ front_at-again byte (ended bytes) here.0 here.1 in
    let some = spelling_some byte in
    let size : length (ended (byte ∷ bytes)) ≡ length (byte_spelling byte) + length (ended bytes) = ap (λ (x : List ℕ). length x) (sym text) ∙ length-append (byte_spelling byte) (ended bytes) in
    let others = bytes_at-again most bytes (All-tail IsSpelled byte bytes each) (omega arith) in
    rw (not_ended (ended (byte ∷ bytes)) (byte, ended bytes) front, front, others) refl

-- bytes that a word spelled in quotes
pub record WereQuoted (word bytes : List ℕ) : Type 0 where
  pub spelled : word ≡ quoted bytes
  pub each : All IsSpelled bytes

-- were spelled so
pub unquoted_at-spelled : (word bytes : List ℕ) → unquoted_at word ≡ Some bytes → WereQuoted word bytes
unfolding unquoted_at
unquoted_at-spelled word bytes e =
    let text = bind_some (after_prefix (codes "\"") word) (λ text. bytes_at (length text) text) bytes e in
    let were = bytes_at-spelled (length text.0) text.0 bytes text.2 in
    record { spelled = after_prefix-spelled (codes "\"") word text.0 text.1 ∙ ap (λ (rest : List ℕ). codes "\"" ++ rest) were.spelled; each = were.each }

-- and what is spelled so is read
pub unquoted_at-again : (bytes : List ℕ) → All IsSpelled bytes → unquoted_at (quoted bytes) ≡ Some bytes
unfolding unquoted_at
unquoted_at-again bytes each =
    let text : after_prefix (codes "\"") (quoted bytes) ≡ Some (ended bytes) = after_prefix-again (codes "\"") (ended bytes) in
    rw text (bytes_at-again (length (ended bytes)) bytes each (omega arith))

-- ---- bytes up to a limit

-- bytes that passed a test
guard_some : (b : Bool) (x y : List ℕ) → cond b (some_bytes x) no_bytes ≡ Some y → (b ≡ true) × (x ≡ y)
guard_some true x y e = (refl, same_Some x y e)
guard_some false x y e = absurd cc

-- bytes that are read are few enough, and were spelled so
pub bytes_word-spelled : (limit : ℕ) (word bytes : List ℕ) → bytes_word limit word ≡ Ok bytes → (length bytes ≤ limit) × SpellsBytes (words_of word) bytes
bytes_word-spelled limit word bytes e =
    let read = bind_some (unquoted_at word) (λ bytes. cond (leb (length bytes) limit) (some_bytes bytes) no_bytes) bytes (ok_or-ok (few_at limit word) causes.Text bytes e) in
    let few = guard_some (leb (length read.0) limit) read.0 bytes read.2 in
    let were = unquoted_at-spelled word read.0 read.1 in
    subst (λ (x : List ℕ). (length x ≤ limit) × SpellsBytes (words_of word) x) few.1 (leb-true (length read.0) limit few.0, record { are_bytes = were.each; whole = ap words_of were.spelled })

-- and what is spelled so is read, if it is few enough
pub bytes_word-again : (limit : ℕ) (words : List (List ℕ)) (bytes : List ℕ) → length bytes ≤ limit → SpellsBytes words bytes → bytes_word limit (join_with_byte 32 words) ≡ Ok bytes
bytes_word-again limit words bytes short spelled =
    let word : join_with_byte 32 words ≡ quoted bytes = ap (join_with_byte 32) spelled.whole ∙ join_with_byte-slice_split 32 (quoted bytes) in
    rw (word, unquoted_at-again bytes spelled.are_bytes, le-leb (length bytes) limit short) refl

-- ---- texts

-- a text of bytes that has no fault
text_is : (r : Result (List ℕ) TextError) (text : List ℕ) → result_ok r ≡ Some text → r ≡ Ok text
text_is (Ok x) text e = ap (λ (y : List ℕ). Ok y) (same_Some x text e)
text_is (Err fault) text e = absurd cc

-- a text that is read was spelled so
pub text_word-spelled : (word text : List ℕ) → text_word word ≡ Ok text → SpellsText (words_of word) text
unfolding text_at
text_word-spelled word text e =
    let bytes = bind_some (unquoted_at word) (λ bytes. result_ok (text_of bytes)) text (ok_or-ok (text_at word) causes.Text text e) in
    let were = unquoted_at-spelled word bytes.0 bytes.1 in
    record { bytes = bytes.0; are_bytes = were.each; becomes = text_is (text_of bytes.0) text bytes.2; whole = ap words_of were.spelled }

-- and what is spelled so is read
pub text_word-again : (words : List (List ℕ)) (text : List ℕ) → SpellsText words text → text_word (join_with_byte 32 words) ≡ Ok text
unfolding text_at
text_word-again words text spelled =
    let word : join_with_byte 32 words ≡ quoted spelled.bytes = ap (join_with_byte 32) spelled.whole ∙ join_with_byte-slice_split 32 (quoted spelled.bytes) in
    rw (word, unquoted_at-again spelled.bytes spelled.are_bytes, spelled.becomes) refl
