use Rattle.std.proofs.Common.{refl}
use Rattle.std.proofs.lemmas.Result.{err_from_is_err_and}
use Rattle.q3_savestate.specs.Snapshots.{numbers_at}
use Rattle.q3_savestate.proofs.Numbers.{words_begin, more, stops, all}
use Rattle.q3_savestate.proofs.snapshots.read_longs.Goals as goal

pub loop-k-init : goal.loop-k-init
loop-k-init c = words_begin c.args.cursor.now c.args.words.now c.told-words

pub returns-in_err-words : goal.returns-in_err-words
returns-in_err-words c =
    let p = err_from_is_err_and c.from_residual.result c.from_residual.ensures.1 in
    rw (p.1, p.2) (stops (λ word. word) 4 4294967295 _ c.loop-k.k (numbers_at 4 16 c.args.cursor.now) c.loop-k.cursor c.loop-k.words c.loop-k.invariant c.loop-k-test.true refl c.in_err-words.ensures)

pub loop-k-preserved : goal.loop-k-preserved
loop-k-preserved c =
    more (λ word. word) 4 4294967295 c.in_ok-words.field-0 c.loop-k.k (numbers_at 4 16 c.args.cursor.now) c.loop-k.cursor c.long.new.self c.loop-k.words c.in_ok-words.field-0 c.loop-k.invariant
    c.loop-k-test.true refl c.in_ok-words.ensures refl

pub returns : goal.returns
returns c = all (λ word. word) 4 c.loop-k.k (numbers_at 4 16 c.args.cursor.now) c.loop-k.cursor c.loop-k.words c.loop-k.invariant c.loop-k-test.false
