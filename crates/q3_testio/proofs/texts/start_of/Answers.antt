use Rattle.std.proofs.Common.{◌≡◌, take, ap, ◌∙◌, arith}
use Rattle.std.specs.List.{sum}
use Rattle.q3_testio.proofs.TextPlaces.{starts, sum_within}
use Rattle.q3_testio.proofs.texts.start_of.Goals as goal

pub overflow_add-start : goal.overflow_add-start
overflow_add-start c = omega (arith, c.loop-k.invariant, sum_within c.args.lengths.now c.args.bytes.now c.loop-k.k c.requires.lie (omega arith))

pub returns : goal.returns
returns c =
    let at : c.loop-k.k ≡ c.args.place = omega arith in
    starts c.args.lengths.now c.args.bytes.now c.args.place c.loop-k.start c.requires.lie c.requires.within (c.loop-k.invariant ∙ ap (λ n. sum (take n c.args.lengths.now)) at)
