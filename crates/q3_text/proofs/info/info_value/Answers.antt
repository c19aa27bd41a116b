use Rattle.std.proofs.Common.{length, option_map, refl, sym, ◌∙◌, arith}
use Rattle.std.proofs.lemmas.Bool.{cond-true, cond-false}
use Rattle.q3_text.specs.Info.{parts_after, info_pairs, info_of}
use Rattle.q3_text.proofs.Pairs.{found-next, found-last, value-none, size-le}
use Rattle.q3_text.proofs.info.info_value.Goals as goal

pub loop-left-init : goal.loop-left-init
unfolding info_pairs
loop-left-init c = rw c.after_backslash.ensures refl

pub returns-in_err-after : goal.returns-in_err-after
returns-in_err-after c =
    let here = rw c.in-Some.is at c.loop-left.invariant in
    let only = rw c.in_err-after.was at c.first_part.ensures.parts in
    rw c.from_residual.ensures (found-last c.in-Some.pairs.now c.first_part.result.0.now c.args.key.now (info_of c.args.text.now c.args.key.now) here only)

pub returns-then-eq : goal.returns-then-eq
returns-then-eq c =
    let here = rw c.in-Some.is at c.loop-left.invariant in
    let cut = rw c.in_ok-after.was at c.first_part.ensures.parts in
    let others = parts_after (option_map (λ x. x.now) c.first_part-in-Some.result.1) in
    let found = found-next c.in-Some.pairs.now c.first_part.result.0.now c.in_ok-after.field-0.now c.first_part-in-Some.result.0.now c.args.key.now others (info_of c.args.text.now c.args.key.now) here cut c.first_part-in-Some.ensures.parts in
    sym (cond-true _ _ _ (sym c.eq.ensures ∙ c.if-eq.true)) ∙ found

pub loop-left-smaller : goal.loop-left-smaller
loop-left-smaller c =
    let after = size-le (λ x. x.now) c.first_part-in-Some.result.1 (length c.in_ok-after.field-0.now) c.first_part-in-Some.ensures.shorter in
    let middle = rw c.in_ok-after.was at c.first_part.ensures.shorter in
    rw c.in-Some.is (omega arith)

pub loop-left-preserved : goal.loop-left-preserved
loop-left-preserved c =
    let here = rw c.in-Some.is at c.loop-left.invariant in
    let cut = rw c.in_ok-after.was at c.first_part.ensures.parts in
    let others = parts_after (option_map (λ x. x.now) c.first_part-in-Some.result.1) in
    let found = found-next c.in-Some.pairs.now c.first_part.result.0.now c.in_ok-after.field-0.now c.first_part-in-Some.result.0.now c.args.key.now others (info_of c.args.text.now c.args.key.now) here cut c.first_part-in-Some.ensures.parts in
    sym (cond-false _ _ _ (sym c.eq.ensures ∙ c.if-eq.false)) ∙ found

pub returns : goal.returns
returns c =
    let here = rw c.in_default.is at c.loop-left.invariant in
    sym (value-none c.args.key.now) ∙ here
