use Rattle.std.proofs.Common.{◌∙◌, [], ℕ, Bor, List, inr, sym}
use Rattle.std.proofs.lemmas.Result.{err_from_is_err_and}
use Rattle.std.proofs.lemmas.List.Elements.{All-push}
use Rattle.q3_bits.specs.Table.{IsWord}
use Rattle.q3_bits.proofs.WordTexts.{words_fault-more, words_fault-stop, words_fault-end, words-push}
use Rattle.q3_bits.proofs.words.read_words.Goals as goal

pub returns-in_err-read_word-clause-exact : goal.returns-in_err-read_word-clause-exact
returns-in_err-read_word-clause-exact c =
    let texts = c.args.texts.now in
    let none : Bor (List ℕ) = record { ref_ptr = (0, 0); now = [] } in
    let p = err_from_is_err_and c.from_residual-in_err-read_word.result c.from_residual-in_err-read_word.ensures.1 in
    rw (p.1, p.2) (inr (sym c.loop-place.invariant.faults ∙ words_fault-stop texts c.loop-place.place none c.in_err-read_word.field-0.0 c.loop-place-test.true c.in_err-read_word.ensures.exact))

pub loop-place-preserved : goal.loop-place-preserved
loop-place-preserved c =
    let texts = c.args.texts.now in
    let none : Bor (List ℕ) = record { ref_ptr = (0, 0); now = [] } in
    let i = c.loop-place.place in
    let items = c.loop-place.words.items in
    let word = c.in_ok-read_word.field-0 in
    let before = c.loop-place.invariant in
    rw c.in_ok-push.ensures.items (record {
      faults = sym (words_fault-more texts i none c.loop-place-test.true c.in_ok-read_word.ensures.exact) ∙ before.faults;
      words = words-push items word texts i none c.loop-place-test.true before.words c.in_ok-read_word.ensures.bits;
      each = All-push IsWord items word before.each c.in_ok-read_word.ensures.word;
    })

pub returns-clause-exact : goal.returns-clause-exact
returns-clause-exact c = sym c.loop-place.invariant.faults ∙ words_fault-end c.args.texts.now c.loop-place.place c.loop-place-test.false
