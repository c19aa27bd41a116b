use Rattle.std.proofs.Common.{◌≡◌, ◌∙◌, ◌⊎◌, List, Some, None, ℕ, length, map, inl, inr, sym, ap, subst}
use Rattle.std.proofs.lemmas.List.{length-map}
use Rattle.std.proofs.lemmas.Result.{err_from_is_err_and}
use Rattle.q3_bits.specs.declared.words.CodeError.{CodeError}
use Rattle.q3_bits.specs.declared.words.CodeError.TheVariants as errors
use Rattle.q3_bits.specs.CodeWords.{texts_of, bits_of_text, code_fault, words_fault, first_clash}
use Rattle.q3_bits.specs.declared.code.Word.{Word}
use Rattle.q3_bits.specs.Table.{words_of, IsIndex}
use Rattle.q3_bits.proofs.WordTexts.{code_from_no_clash, code_fault-count, code_fault-word, code_fault-clash, code_fault-none, only_memory, length-texts_of}
use Rattle.q3_bits.proofs.code.Code.from_words.Goals as goal

pub returns-then-words-ne256-clause-exact : goal.returns-then-words-ne256-clause-exact
returns-then-words-ne256-clause-exact c =
    inr (code_fault-count (texts_of c.args.words.now) (λ e. c.if-words-ne256.true (sym (length-texts_of c.args.words.now) ∙ e)))

pub returns-then-words-ne256-clause-ok : goal.returns-then-words-ne256-clause-ok
returns-then-words-ne256-clause-ok c =
    only_memory (code_fault (texts_of c.args.words.now)) errors.Count (returns-then-words-ne256-clause-exact c)

-- an error of a word is that of the code
word_error : (texts : List (List ℕ)) (e : CodeError) → length texts ≡ 256 → (e ≡ errors.NoMemory) ⊎ (words_fault 0 texts ≡ Some e) → (e ≡ errors.NoMemory) ⊎ (code_fault texts ≡ Some e)
word_error texts e count (inl is) = inl is
word_error texts e count (inr is) = inr (code_fault-word texts e count is)

pub returns-in_err-words-clause-exact : goal.returns-in_err-words-clause-exact
returns-in_err-words-clause-exact c =
    let texts = texts_of c.args.words.now in
    let p = err_from_is_err_and c.from_residual.result c.from_residual.ensures.1 in
    rw (p.1, p.2) (word_error texts c.in_err-words.field-0.0 (length-texts_of c.args.words.now ∙ c.if-words-ne256.false) c.in_err-words.ensures.exact)

pub returns-in_err-words-clause-ok : goal.returns-in_err-words-clause-ok
returns-in_err-words-clause-ok c =
    let texts = texts_of c.args.words.now in
    let p = err_from_is_err_and c.from_residual.result c.from_residual.ensures.1 in
    rw (p.1, p.2) (only_memory (code_fault texts) c.in_err-words.field-0.0 (word_error texts c.in_err-words.field-0.0 (length-texts_of c.args.words.now ∙ c.if-words-ne256.false) c.in_err-words.ensures.exact))

pub returns-in-Some-clause-exact : goal.returns-in-Some-clause-exact
returns-in-Some-clause-exact c =
    let texts = texts_of c.args.words.now in
    let words : words_of c.deref.result.now ≡ map bits_of_text texts = ap words_of c.deref.ensures.value ∙ c.in_ok-words.ensures.words in
    let clash : first_clash (map bits_of_text texts) ≡ Some (c.in-Some.i, c.in-Some.j) = sym (c.in-Some.ensures ∙ ap first_clash words) in
    inr (code_fault-clash texts c.in-Some.i c.in-Some.j (length-texts_of c.args.words.now ∙ c.if-words-ne256.false) c.in_ok-words.ensures.exact clash)

pub returns-in-Some-clause-ok : goal.returns-in-Some-clause-ok
returns-in-Some-clause-ok c =
    only_memory (code_fault (texts_of c.args.words.now)) (errors.Clash c.in-Some.i c.in-Some.j) (returns-in-Some-clause-exact c)

pub returns-clause-exact : goal.returns-clause-exact
returns-clause-exact c =
    let texts = texts_of c.args.words.now in
    let words : words_of c.deref.result.now ≡ map bits_of_text texts = ap words_of c.deref.ensures.value ∙ c.in_ok-words.ensures.words in
    let none : first_clash (map bits_of_text texts) ≡ None = sym (c.in_default.ensures ∙ ap first_clash words) in
    code_fault-none texts (length-texts_of c.args.words.now ∙ c.if-words-ne256.false) c.in_ok-words.ensures.exact none

pub returns-clause-is_code : goal.returns-clause-is_code
returns-clause-is_code c =
    let texts = texts_of c.args.words.now in
    let words : words_of c.in_ok-words.words.items ≡ map bits_of_text texts = c.in_ok-words.ensures.words in
    let none : first_clash (words_of c.in_ok-words.words.items) ≡ None = ap first_clash (ap words_of (sym c.deref.ensures.value)) ∙ sym c.in_default.ensures in
    let count : length (words_of c.in_ok-words.words.items) ≡ 256 = ap length words ∙ length-map texts bits_of_text ∙ length-texts_of c.args.words.now ∙ c.if-words-ne256.false in
    code_from_no_clash (words_of c.in_ok-words.words.items) count none

pub invariant_of-result : goal.invariant_of-result
invariant_of-result c = record {
  each = c.in_ok-words.ensures.each;
  is_code = returns-clause-is_code c;
  index = subst (λ (ws : List Word). IsIndex ws c.in_ok-index_of.field-0.items) c.deref-2.ensures.value c.in_ok-index_of.ensures;
}
