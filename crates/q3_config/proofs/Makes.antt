-- A change that is made in pieces.
use Rattle.std.proofs.Common.{◌≡◌, ◌≢◌, ℕ, zero, suc, ◌+◌, ◌*◌, ◌<◌, ◌≤◌, true, false, cond, eqb, ltb, leb, List, [], ◌++◌, length, get_or, set, take, drop, map, Option, Some, None, inl, inr, refl, sym, ap, ◌∙◌, arith}
use Rattle.std.specs.Prelude.{IsTrue, not, ◌||◌, ◌&&◌}
use Rattle.std.specs.List.{All, range_with_len}
use Rattle.std.specs.Str.{bytes_eq}
use Rattle.std.proofs.Math.Seq.{take-add}
use Rattle.std.proofs.lemmas.Bool.{cases_Bool, ltb-true, ltb-false, lt-ltb, le-ltb, le-leb, eq-eqb, ne_eqb, and_parts, not-true, eqb-false}
use Rattle.std.proofs.lemmas.List.{length-map, take-map, drop-map, take_all, set-get_or, length-take}
use Rattle.std.proofs.lemmas.List.Folds.{map_fixed}
use Rattle.std.proofs.lemmas.List.Elements.{All-map, All-weaker, All-from_get_or}
use Rattle.std.proofs.lemmas.Slice.Eq.{bytes_eq-Decides}
use Rattle.q3_text.specs.Texts.{translated}
use Rattle.q3_config.specs.declared.error.ConfigError.{ConfigError}
use Rattle.q3_config.specs.Strings.{Strings, AreStrings, places, longest_string, most_size, config_size, is_config_byte, string_at, with_string, fits, set_fault, admit_fault}
use Rattle.q3_config.specs.Commands.{Word, Whole, First, Middle, Last, Change, piece_count, word_of, change_text, config_piece}
use Rattle.q3_config.specs.Changes.{Applied, without_pending, with_pending, change_or, make_change, go_on, finish, after_change, after_shape, after_command, after_commands}
use Rattle.q3_config.specs.Laws.{IsChange, piece_texts, HasRoom, Admitted}
use Rattle.q3_config.proofs.Faults.{set_fault-within, admitted}
use Rattle.q3_config.proofs.Texts.{part, carried-part}
use Rattle.q3_config.proofs.ReadTexts.{spelled-is-read}
use Rattle.q3_text.specs.Laws.{TextLaws}

-- ---- a text as it is kept

-- a byte that is kept stays so
translated-again : (byte : ℕ) → translated (translated byte) ≡ translated byte
translated-again byte = elim (cases_Bool (ltb 127 byte || eqb byte 37)) [
  | inl other ↦ rw other refl
  | inr same ↦ rw same (rw same refl)
]

kept-again : (text : List ℕ) → map translated (map translated text) ≡ map translated text
kept-again text = map_fixed translated (map translated text) (All-map (λ x. translated x ≡ x) translated text (All-from_get_or (λ x. translated (translated x) ≡ translated x) text 0 (λ i lt. translated-again (get_or text i 0))))

-- a byte that a command may carry isn't kept as a quote
no_quote : (byte : ℕ) → IsTrue (is_config_byte byte) → translated byte ≢ 34
no_quote byte carried = elim (cases_Bool (ltb 127 byte || eqb byte 37)) [
  | inl other ↦ rw other (λ e. omega arith)
  | inr same ↦ rw same (eqb-false byte 34 (not-true (eqb byte 34) (and_parts (leb 32 byte && leb byte 126) (not (eqb byte 34)) carried).1))
]

no_quotes : (text : List ℕ) → All (λ byte. IsTrue (is_config_byte byte)) text → All (λ byte. byte ≢ 34) (map translated text)
no_quotes text carried = All-map (λ x. x ≢ 34) translated text (All-weaker (λ x. IsTrue (is_config_byte x)) (λ x. translated x ≢ 34) no_quote text carried)

-- ---- a change that may be made is made

change-none : (strings : Strings) (index : ℕ) (text : List ℕ) (fault : Option ConfigError) → fault ≡ None → (change_or strings index text fault).strings ≡ with_string strings index text
change-none strings index text None is = refl
change-none strings index text (Some fault) is = absurd cc

-- the text of a change is one that is kept already
pub made : (strings : Strings) (index : ℕ) (text kept : List ℕ) → kept ≡ map translated text → index < places → HasRoom strings index text → (make_change strings index kept).strings ≡ with_string strings index text
made strings index text kept is within fit =
    let again : map translated kept ≡ map translated text = ap (λ (bytes : List ℕ). map translated bytes) is ∙ kept-again text in
    let same_string : with_string strings index kept ≡ with_string strings index text = ap (λ (bytes : List ℕ). record strings { texts = set strings.texts index bytes }) again in
    elim (cases_Bool (bytes_eq (string_at strings index) (map translated kept))) [
      | inl same ↦
          let there : string_at strings index ≡ map translated text = (bytes_eq-Decides (string_at strings index) (map translated kept)).0 same ∙ again in
          let stays : strings.texts ≡ set strings.texts index (map translated text) = sym (set-get_or strings.texts index []) ∙ ap (λ (bytes : List ℕ). set strings.texts index bytes) there in
          rw same (ap (λ (texts : List (List ℕ)). record strings { texts = texts }) stays)
      | inr other ↦
          let few : ltb longest_string (length kept) ≡ false = le-ltb _ _ (let short = fit.short in omega (arith, ap (λ (bytes : List ℕ). length bytes) is, length-map text translated)) in
          let room : fits strings index kept ≡ true = ap (λ (s : Strings). leb (config_size s.texts) most_size) same_string ∙ le-leb _ _ fit.room in
          let none : set_fault strings index kept ≡ None = set_fault-within strings index kept within ∙ rw (few, room) refl in
          rw other (change-none strings index kept (set_fault strings index kept) none ∙ same_string)
    ]

-- ---- a piece at the client

-- a piece of a text that may be carried is a change that a command spells
pub piece_is_change : (index : ℕ) (text : List ℕ) (k : ℕ) → index < places → All (λ byte. IsTrue (is_config_byte byte)) text → IsChange (config_piece index text k)
unfolding config_piece
piece_is_change index text k within carried = record { index = within; no_quote = no_quotes (part text k) (carried-part text k carried) }

-- what a piece does, as it is read
step : (laws : TextLaws) (strings : Strings) (index : ℕ) (text : List ℕ) (k : ℕ) → index < places → All (λ byte. IsTrue (is_config_byte byte)) text
    → after_command strings (change_text (config_piece index text k)) ≡ after_change strings (word_of (piece_count (length text)) k) index (map translated (part text k))
unfolding after_command config_piece
step laws strings index text k within carried =
    let piece = config_piece index text k in
    ap (λ (change : Option Change). after_shape strings change) (spelled-is-read laws piece (change_text piece) (piece_is_change index text k within carried) (inl refl))

-- the words of pieces, where there is more than one
word-first : (count : ℕ) → 1 < count → word_of count 0 ≡ First
unfolding word_of
word-first count more = rw (ne_eqb count 1 (λ e. omega arith)) refl

word-middle : (count k : ℕ) → 0 < k → k + 1 < count → word_of count k ≡ Middle
unfolding word_of
word-middle count k after before = rw (ne_eqb count 1 (λ e. omega arith), ne_eqb k 0 (λ e. omega arith), ne_eqb (k + 1) count (λ e. omega arith)) refl

word-last : (count k : ℕ) → 0 < k → k + 1 ≡ count → word_of count k ≡ Last
unfolding word_of
word-last count k after end = rw (ne_eqb count 1 (λ e. omega arith), ne_eqb k 0 (λ e. omega arith), eq-eqb (k + 1) count end) refl

-- a short text goes in one
count-one : (bytes : ℕ) → bytes < 1000 → piece_count bytes ≡ 1
unfolding piece_count
count-one bytes few = rw (lt-ltb bytes 1000 few) refl

-- a longer one in at least two, which have all its bytes
count-many : (bytes : ℕ) → 1000 ≤ bytes → (1 < piece_count bytes) × (bytes ≤ 999 * piece_count bytes)
unfolding piece_count
count-many bytes many = rw (le-ltb bytes 1000 many) (omega arith, omega arith)

-- so many pieces of a text, put together again
abbrev front : List ℕ → ℕ → List ℕ
front text k = take (999 * k) (map translated text)

front-more : (text : List ℕ) (k : ℕ) → 1000 ≤ length text → front text k ++ map translated (part text k) ≡ front text (k + 1)
front-more text k many =
    let long : ltb (length text) 1000 ≡ false = le-ltb _ _ many in
    let piece : map translated (part text k) ≡ take 999 (drop (999 * k) (map translated text)) = rw long (sym (take-map translated 999 (drop (999 * k) text)) ∙ ap (λ (bytes : List ℕ). take 999 bytes) (sym (drop-map translated (999 * k) text))) in
    let next : 999 * (k + 1) ≡ 999 * k + 999 = omega arith in
    ap (λ (bytes : List ℕ). front text k ++ bytes) piece ∙ sym (take-add (999 * k) 999 (map translated text)) ∙ ap (λ n. take n (map translated text)) (sym next)

front-short : (text : List ℕ) (k : ℕ) → length text ≤ longest_string → length (front text k) ≤ longest_string
front-short text k short = omega (arith, length-take (999 * k) (map translated text), length-map text translated)

-- ---- the pieces, one after the other

-- the strings while the first pieces of a text are pending
abbrev state : Strings → ℕ → List ℕ → ℕ → Strings
state strings index text k = with_pending strings index (front text k)

-- a piece of one of several goes after those before it
pieces-grow : (strings : Strings) (index : ℕ) (text : List ℕ) (word : Word) (k : ℕ) → 1000 ≤ length text → length text ≤ longest_string
    → go_on (state strings index text k) word index (map translated (part text k)) (state strings index text k).pending ≡ finish (state strings index text k) word index (front text (k + 1))
pieces-grow strings index text word k many short =
    let next = front-more text k many in
    let few : ltb longest_string (length (front text k ++ map translated (part text k))) ≡ false = le-ltb _ _ (rw next (front-short text (k + 1) short)) in
    rw (eq-eqb index index refl, few) (ap (λ (bytes : List ℕ). finish (state strings index text k) word index bytes) next)

-- what several pieces are made for: the text is too long for one, and the change may be made
record Pieced (strings : Strings) (index : ℕ) (text : List ℕ) : Type 0 where
  many : 1000 ≤ length text
  may : Admitted strings index text

abbrev count_of : List ℕ → ℕ
count_of text = piece_count (length text)

abbrev piece_at : ℕ → List ℕ → ℕ → List ℕ
piece_at index text k = change_text (config_piece index text k)

first-step : (laws : TextLaws) (strings : Strings) (index : ℕ) (text : List ℕ) → Pieced strings index text → (after_command strings (piece_at index text 0)).strings ≡ state strings index text 1
first-step laws strings index text is =
    let word = word-first (count_of text) (count-many (length text) is.many).0 in
    ap (λ (a : Applied). a.strings) (step laws strings index text 0 is.may.within is.may.carried ∙ ap (λ (word : Word). after_change strings word index (map translated (part text 0))) word)
    ∙ ap (λ (bytes : List ℕ). with_pending strings index bytes) (front-more text 0 is.many)

middle-step : (laws : TextLaws) (strings : Strings) (index : ℕ) (text : List ℕ) (k : ℕ) → Pieced strings index text → 0 < k → k + 1 < count_of text
    → (after_command (state strings index text k) (piece_at index text k)).strings ≡ state strings index text (k + 1)
middle-step laws strings index text k is after before =
    let now = state strings index text k in
    ap (λ (a : Applied). a.strings) (step laws now index text k is.may.within is.may.carried
    ∙ ap (λ (word : Word). after_change now word index (map translated (part text k))) (word-middle (count_of text) k after before)
    ∙ pieces-grow strings index text Middle k is.many is.may.fits.short)

last-step : (laws : TextLaws) (strings : Strings) (index : ℕ) (text : List ℕ) (k : ℕ) → Pieced strings index text → 0 < k → k + 1 ≡ count_of text
    → (after_command (state strings index text k) (piece_at index text k)).strings ≡ with_string (without_pending strings) index text
last-step laws strings index text k is after end =
    let now = state strings index text k in
    let all : front text (k + 1) ≡ map translated text = take_all (999 * (k + 1)) (map translated text) (omega (arith, length-map text translated, (count-many (length text) is.many).1)) in
    let fit = is.may.fits in
    ap (λ (a : Applied). a.strings) (step laws now index text k is.may.within is.may.carried
    ∙ ap (λ (word : Word). after_change now word index (map translated (part text k))) (word-last (count_of text) k after end)
    ∙ pieces-grow strings index text Last k is.many fit.short)
    ∙ made (without_pending strings) index text (front text (k + 1)) all is.may.within (record { short = fit.short; room = fit.room })

-- those from one on
others : (laws : TextLaws) (strings : Strings) (index : ℕ) (text : List ℕ) (left k : ℕ) → Pieced strings index text → 0 < k → k + suc left ≡ count_of text
    → after_commands (state strings index text k) (map (λ k. piece_at index text k) (range_with_len k (suc left))) ≡ with_string (without_pending strings) index text
unfolding after_commands
others laws strings index text zero k is after end = last-step laws strings index text k is after (omega arith)
others laws strings index text (suc left) k is after end =
    ap (λ (s : Strings). after_commands s (map (λ k. piece_at index text k) (range_with_len (k + 1) (suc left)))) (middle-step laws strings index text k is after (omega arith))
    ∙ others laws strings index text left (k + 1) is (omega arith) (omega arith)

-- all of them
several : (laws : TextLaws) (strings : Strings) (index : ℕ) (text : List ℕ) (count : ℕ) → Pieced strings index text → count ≡ count_of text → 1 < count
    → after_commands strings (map (λ k. piece_at index text k) (range_with_len 0 count)) ≡ with_string (without_pending strings) index text
unfolding after_commands
several laws strings index text zero is same more = absurd (omega arith)
several laws strings index text (suc zero) is same more = absurd (omega arith)
several laws strings index text (suc (suc left)) is same more =
    ap (λ (s : Strings). after_commands s (map (λ k. piece_at index text k) (range_with_len 1 (suc left)))) (first-step laws strings index text is)
    ∙ others laws strings index text left 1 is (omega arith) (omega arith)

-- ---- a text that goes in one

word-whole : (count : ℕ) → count ≡ 1 → word_of count 0 ≡ Whole
unfolding word_of
word-whole count one = rw (eq-eqb count 1 one) refl

part-whole : (text : List ℕ) → length text < 1000 → part text 0 ≡ text
part-whole text few = rw (lt-ltb (length text) 1000 few) refl

single : (laws : TextLaws) (strings : Strings) (index : ℕ) (text : List ℕ) (count : ℕ) → count ≡ 1 → length text < 1000 → Admitted strings index text
    → after_commands strings (map (λ k. piece_at index text k) (range_with_len 0 count)) ≡ with_string strings index text
unfolding after_commands
single laws strings index text count one few may =
    ap (λ n. after_commands strings (map (λ k. piece_at index text k) (range_with_len 0 n))) one
    ∙ ap (λ (a : Applied). a.strings) (step laws strings index text 0 may.within may.carried
    ∙ ap (λ (word : Word). after_change strings word index (map translated (part text 0))) (word-whole (count_of text) (count-one (length text) few)))
    ∙ made strings index text (map translated (part text 0)) (ap (λ (bytes : List ℕ). map translated bytes) (part-whole text few)) may.within may.fits

pub pieces-make-change : (laws : TextLaws) (strings : Strings) (index : ℕ) (text : List ℕ) → AreStrings strings → admit_fault strings index text ≡ None
    → after_commands strings (piece_texts index text) ≡ record (with_string strings index text) { pending = cond (eqb (count_of text) 1) strings.pending None }
pieces-make-change laws strings index text are none =
    let may = admitted strings index text none in
    elim (cases_Bool (ltb (length text) 1000)) [
      | inl few ↦
          let below = ltb-true _ _ few in
          let one = count-one (length text) below in
          single laws strings index text (count_of text) one below may ∙ rw (eq-eqb (count_of text) 1 one) refl
      | inr long ↦
          let many = ltb-false _ _ long in
          let more = (count-many (length text) many).0 in
          several laws strings index text (count_of text) (record { many = many; may = may }) refl more ∙ rw (ne_eqb (count_of text) 1 (λ e. omega arith)) refl
    ]
