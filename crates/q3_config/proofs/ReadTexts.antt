-- What is spelled as a change is read as it, and what is read as one was spelled so.
use Rattle.std.proofs.Common.{◌≡◌, ◌≢◌, ℕ, Bool, true, eqb, List, [], ◌∷◌, ◌++◌, Option, Some, None, ◌⊎◌, inl, inr, refl, sym, ap, subst, ◌∙◌, arith, append_assoc}
use Rattle.std.specs.Prelude.{codes, ◌||◌}
use Rattle.std.specs.Fmt.{decimal}
use Rattle.std.specs.List.{All}
use Rattle.std.specs.Str.{bytes_eq}
use Rattle.std.proofs.lemmas.Bool.{cases_Bool, ne_eqb, eqb-true, or_cases}
use Rattle.std.proofs.lemmas.Option.{same_Some, cond_some}
use Rattle.std.proofs.lemmas.List.{append_cancel_right}
use Rattle.std.proofs.lemmas.List.Elements.{All-head, All-tail}
use Rattle.std.proofs.lemmas.Slice.Eq.{bytes_eq-Decides}
use Rattle.q3_bits.specs.OptionBind.{◌>>=◌}
use Rattle.q3_text.specs.Cuts.{cut_at, lacks}
use Rattle.q3_text.specs.Decimals.{number_at}
use Rattle.q3_config.specs.Commands.{Word, Whole, First, Middle, Last, Change, spelled, change_text, word_in, closed_in, quoted_in, change_in}
use Rattle.q3_config.specs.Laws.{IsChange}
use Rattle.q3_config.proofs.Texts.{lacks-space}
use Rattle.q3_text.specs.Laws.{TextLaws}

-- a text has a byte nowhere, so it lacks it
pub lacks-none : (byte : ℕ) (text : List ℕ) → All (λ x. x ≢ byte) text → lacks byte text ≡ true
lacks-none byte [] none = refl
lacks-none byte (x ∷ text) none = rw (ne_eqb x byte (All-head (λ x. x ≢ byte) x text none), lacks-none byte text (All-tail (λ x. x ≢ byte) x text none)) refl

-- what may follow the quote: nothing, or a newline
abbrev pub is_end : List ℕ → Bool
is_end end = bytes_eq end [] || bytes_eq end (codes "\n")

-- a change, with this after the quote
abbrev pub shaped : Change → List ℕ → List ℕ
shaped change end = spelled change.word ++ 32 ∷ (decimal change.index ++ 32 ∷ (34 ∷ (change.text ++ 34 ∷ end)))

-- the text of a change has a newline there
shaped-newline : (change : Change) → change_text change ≡ shaped change (codes "\n")
unfolding change_text
shaped-newline change = refl

shaped-more : (change : Change) → shaped change [] ++ codes "\n" ≡ change_text change
unfolding change_text
shaped-more change = simp append_assoc

-- ---- what is spelled is read

word-again : (word : Word) → word_in (spelled word) ≡ Some word
unfolding word_in
word-again Whole = refl
word-again First = refl
word-again Middle = refl
word-again Last = refl

quoted-again : (laws : TextLaws) (text end : List ℕ) → is_end end ≡ true → All (λ x. x ≢ 34) text → quoted_in (34 ∷ (text ++ 34 ∷ end)) ≡ Some text
unfolding quoted_in
quoted-again laws text end ends none = rw (laws.cuts.again 34 text end (lacks-none 34 text none), ends) refl

shaped-again : (laws : TextLaws) (change : Change) (end : List ℕ) → IsChange change → is_end end ≡ true → change_in (shaped change end) ≡ Some change
unfolding change_in
shaped-again laws change end is ends =
    let within = is.index in
    rw (
      laws.cuts.again 32 (spelled change.word) (decimal change.index ++ 32 ∷ (34 ∷ (change.text ++ 34 ∷ end))) (lacks-space change.word),
      word-again change.word,
      laws.cuts.again 32 (decimal change.index) (34 ∷ (change.text ++ 34 ∷ end)) (laws.numbers.others 32 change.index refl (omega arith)),
      laws.numbers.read 0 1023 change.index (omega arith) (omega arith) (omega arith),
      quoted-again laws change.text end ends is.no_quote,
    ) refl

pub spelled-is-read : (laws : TextLaws) (change : Change) (text : List ℕ) → IsChange change → (text ≡ change_text change) ⊎ (text ++ codes "\n" ≡ change_text change) → change_in text ≡ Some change
spelled-is-read laws change text is spelt = elim spelt [
  | inl whole ↦ ap change_in (whole ∙ shaped-newline change) ∙ shaped-again laws change (codes "\n") is refl
  | inr short ↦ ap change_in (append_cancel_right text (shaped change []) (codes "\n") (short ∙ sym (shaped-more change))) ∙ shaped-again laws change [] is refl
]

-- ---- what is read was spelled so

abbrev some_word : Word → Option Word
some_word word = Some word

abbrev no_word : Option Word
no_word = None

abbrev some_body : List ℕ → Option (List ℕ)
some_body body = Some body

abbrev no_body : Option (List ℕ)
no_body = None

word-spelled : (text : List ℕ) (word : Word) → word_in text ≡ Some word → text ≡ spelled word
unfolding word_in
word-spelled text word e = elim (cases_Bool (bytes_eq text (codes "cs"))) [
  | inl is ↦ let f : some_word Whole ≡ some_word word = rw is at e in (bytes_eq-Decides text (codes "cs")).0 is ∙ ap spelled (same_Some Whole word f)
  | inr not_whole ↦ elim (cases_Bool (bytes_eq text (codes "bcs0"))) [
    | inl is ↦ let f : some_word First ≡ some_word word = rw (not_whole, is) at e in (bytes_eq-Decides text (codes "bcs0")).0 is ∙ ap spelled (same_Some First word f)
    | inr not_first ↦ elim (cases_Bool (bytes_eq text (codes "bcs1"))) [
      | inl is ↦ let f : some_word Middle ≡ some_word word = rw (not_whole, not_first, is) at e in (bytes_eq-Decides text (codes "bcs1")).0 is ∙ ap spelled (same_Some Middle word f)
      | inr not_middle ↦ elim (cases_Bool (bytes_eq text (codes "bcs2"))) [
        | inl is ↦ let f : some_word Last ≡ some_word word = rw (not_whole, not_first, not_middle, is) at e in (bytes_eq-Decides text (codes "bcs2")).0 is ∙ ap spelled (same_Some Last word f)
        | inr not_last ↦ let f : no_word ≡ some_word word = rw (not_whole, not_first, not_middle, not_last) at e in absurd cc
      ]
    ]
  ]
]

-- what was read between the quotes, and what followed
record Quoted (text body : List ℕ) : Type 0 where
  pub end : List ℕ
  is : text ≡ 34 ∷ (body ++ 34 ∷ end)
  ends : is_end end ≡ true
  none : All (λ x. x ≢ 34) body

closed-spelled : (laws : TextLaws) (first : ℕ) (text body : List ℕ) (cut : Option (List ℕ × List ℕ)) → first ≡ 34 → cut_at 34 text ≡ cut → closed_in cut ≡ Some body → Quoted (first ∷ text) body
closed-spelled laws first text body None quote is e = absurd cc
closed-spelled laws first text body (Some cut) quote is e =
    let parts = cond_some (is_end cut.1) cut.0 body e in
    record {
      end = cut.1;
      is = rw (quote, laws.cuts.parts 34 text cut is, parts.1) refl;
      ends = parts.0;
      none = subst (λ (body : List ℕ). All (λ x. x ≢ 34) body) parts.1 (laws.cuts.before 34 text cut is);
    }

quoted-spelled : (laws : TextLaws) (text body : List ℕ) → quoted_in text ≡ Some body → Quoted text body
unfolding quoted_in
quoted-spelled laws [] body e = absurd cc
quoted-spelled laws (first ∷ text) body e = elim (cases_Bool (eqb first 34)) [
  | inl quote ↦ let f : closed_in (cut_at 34 text) ≡ Some body = rw quote at e in closed-spelled laws first text body (cut_at 34 text) (eqb-true first 34 quote) refl f
  | inr other ↦ let f : no_body ≡ some_body body = rw other at e in absurd cc
]

-- the value of a step that found something
bind_some : {A B : Type 0} (o : Option A) (f : A → Option B) (y : B) → (o >>= f) ≡ Some y → (x : A) × (o ≡ Some x) × (f x ≡ Some y)
bind_some (Some x) f y e = (x, refl, e)
bind_some None f y e = absurd cc

-- the steps of reading a change, from the last on
abbrev with_body : Word → ℕ → List ℕ → Option Change
with_body word index text = quoted_in text >>= λ body. Some (record { word = word; index = index; text = body })

abbrev with_index : Word → List ℕ × List ℕ → Option Change
with_index word second = number_at 0 1023 second.0 >>= λ index. with_body word index second.1

abbrev with_word : List ℕ → Word → Option Change
with_word text word = cut_at 32 text >>= λ second. with_index word second

abbrev with_parts : List ℕ × List ℕ → Option Change
with_parts first = word_in first.0 >>= λ word. with_word first.1 word

-- the parts of a change that was read
pub record Parts (text : List ℕ) (change : Change) : Type 0 where
  pub end : List ℕ
  pub is : text ≡ shaped change end
  pub ends : is_end end ≡ true
  pub fine : IsChange change

-- they are those of the same change
parts-same : (text : List ℕ) (read change : Change) → read ≡ change → Parts text read → Parts text change
parts-same text read change same parts = subst (λ (change : Change). Parts text change) same parts

-- the parts, put together again
joined : (text first rest second after end : List ℕ) (change : Change) → text ≡ first ++ 32 ∷ rest → first ≡ spelled change.word → rest ≡ second ++ 32 ∷ after → second ≡ decimal change.index
    → after ≡ 34 ∷ (change.text ++ 34 ∷ end) → text ≡ shaped change end
joined text first rest second after end change at_first is_word at_second is_index is_body = rw (at_first, is_word, at_second, is_index, is_body) refl

pub parts_of : (laws : TextLaws) (text : List ℕ) (change : Change) → change_in text ≡ Some change → Parts text change
unfolding change_in
parts_of laws text change e =
    let first = bind_some (cut_at 32 text) (λ first. with_parts first) change e in
    let word = bind_some (word_in first.0.0) (λ word. with_word first.0.1 word) change first.2 in
    let second = bind_some (cut_at 32 first.0.1) (λ second. with_index word.0 second) change word.2 in
    let index = bind_some (number_at 0 1023 second.0.0) (λ index. with_body word.0 index second.0.1) change second.2 in
    let body = bind_some (quoted_in second.0.1) (λ body. Some (record { word = word.0; index = index.0; text = body })) change index.2 in
    let number = laws.numbers.spelled 0 1023 second.0.0 index.0 (omega arith) index.1 in
    let quoted = quoted-spelled laws second.0.1 body.0 body.1 in
    let read : Change = record { word = word.0; index = index.0; text = body.0 } in
    let same : read ≡ change = same_Some read change body.2 in
    let fine : IsChange read = record { index = omega (arith, number.1); no_quote = quoted.none } in
    let is : text ≡ shaped read quoted.end = joined text first.0.0 first.0.1 second.0.0 second.0.1 quoted.end read (laws.cuts.parts 32 text first.0 first.1) (word-spelled first.0.0 word.0 word.1) (laws.cuts.parts 32 first.0.1 second.0 second.1) number.2 quoted.is in
    parts-same text read change same (record { end = quoted.end; is = is; ends = quoted.ends; fine = fine })

pub read-is-spelled : (laws : TextLaws) (change : Change) (text : List ℕ) → change_in text ≡ Some change → IsChange change × ((text ≡ change_text change) ⊎ (text ++ codes "\n" ≡ change_text change))
read-is-spelled laws change text e =
    let parts = parts_of laws text change e in (
      parts.fine,
      elim (or_cases (bytes_eq parts.end []) (bytes_eq parts.end (codes "\n")) parts.ends) [
        | inl nothing ↦ inr (ap (λ (text : List ℕ). text ++ codes "\n") (parts.is ∙ ap (λ (end : List ℕ). shaped change end) ((bytes_eq-Decides parts.end []).0 nothing)) ∙ shaped-more change)
        | inr newline ↦ inl (parts.is ∙ ap (λ (end : List ℕ). shaped change end) ((bytes_eq-Decides parts.end (codes "\n")).0 newline) ∙ sym (shaped-newline change))
      ],
    )
