use Rattle.std.proofs.Common.{refl, arith}
use Rattle.q3_words.proofs.Placed.{gives}
use Rattle.q3_words.proofs.kept_entity.KeptEntity.of.Goals as goal

pub invariant_of-result : goal.invariant_of-result
invariant_of-result c =
    let kept = rw c.in_ok-words.ensures.items at c.in_ok-push_words.ensures in
    (gives c.arrays_are_kept.ensures 64 c.push_words.new.kept.items c.args.state.now.words (omega arith) kept).are_kept

pub returns : goal.returns
returns c =
    let kept = rw c.in_ok-words.ensures.items at c.in_ok-push_words.ensures in
    let given = gives c.arrays_are_kept.ensures 64 c.push_words.new.kept.items c.args.state.now.words (omega arith) kept in
    rw given.values refl
