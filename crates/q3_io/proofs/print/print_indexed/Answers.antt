use Rattle.std.proofs.Common.{false, refl, rules, arith}
use Rattle.std.proofs.lemmas.Result.{err_from_is_err_and}
use Rattle.q3_io.proofs.Sinks.{nothing, follow, ends_early}
use Rattle.q3_io.proofs.Words.{words_text-nil, words_text-more, words_text-split}
use Rattle.q3_io.proofs.print.print_indexed.Goals as goal

pub loop-index-init : goal.loop-index-init
loop-index-init g c = (rw (words_text-nil c.args.letter.now) nothing, search rules)

pub returns-in_err-print_word-clause-adds : goal.returns-in_err-print_word-clause-adds
returns-in_err-print_word-clause-adds g c =
    let p = err_from_is_err_and c.from_residual.result c.from_residual.ensures.1 in
    rw p.1 (ends_early _ (follow {all = false} c.loop-index.invariant.0 c.in_err-print_word.ensures.adds refl) (words_text-split c.args.letter.now c.args.words.now c.loop-index.index (omega arith)))

pub loop-index-preserved : goal.loop-index-preserved
loop-index-preserved g c =
    (follow c.loop-index.invariant.0 c.in_ok-print_word.ensures.adds (words_text-more c.args.letter.now c.args.words.now c.loop-index.index (omega arith)), search rules)
