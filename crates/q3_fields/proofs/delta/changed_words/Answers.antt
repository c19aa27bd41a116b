use Rattle.std.proofs.Common.{◌≡◌, ◌+◌, ◌-◌, sym, ap, ◌∙◌, take, arith}
use Rattle.q3_fields.specs.Deltas.{last_changed}
use Rattle.q3_fields.proofs.LastChanged.{last_changed-differs, last_changed-same}
use Rattle.q3_fields.proofs.delta.changed_words.Goals as goal

pub returns-then-from-left-clause-changed : goal.returns-then-from-left-clause-changed
returns-then-from-left-clause-changed c =
    let left = c.loop-left.left in
    let last : left - 1 + 1 ≡ left = omega (arith, c.loop-left-test.true) in
    let counted = last_changed-differs c.args.from.now c.args.to.now (left - 1) (omega arith) (omega arith) c.if-from-left.true in
    sym (rw last at counted) ∙ c.loop-left.invariant.changed

pub loop-left-preserved : goal.loop-left-preserved
loop-left-preserved c =
    let left = c.loop-left.left in
    let last : left - 1 + 1 ≡ left = omega (arith, c.loop-left-test.true) in
    let same = last_changed-same c.args.from.now c.args.to.now (left - 1) (omega arith) (omega arith) c.if-from-left.false in
    record {
      changed = sym (rw last at same) ∙ c.loop-left.invariant.changed;
      most = omega arith;
    }

pub returns-clause-changed : goal.returns-clause-changed
unfolding last_changed
returns-clause-changed c =
    let none : c.loop-left.left ≡ 0 = omega arith in
    let from = c.args.from.now in
    let to = c.args.to.now in
    ap (λ n. last_changed (take n from) (take n to)) (sym none) ∙ c.loop-left.invariant.changed
