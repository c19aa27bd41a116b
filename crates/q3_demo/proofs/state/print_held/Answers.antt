use Rattle.std.proofs.Common.{true, false, rules, arith}
use Rattle.std.proofs.lemmas.Result.{err_from_is_err_and}
use Rattle.q3_demo.proofs.Printed.{held_texts-zero, held_texts-more, held_texts-after}
use Rattle.q3_demo.proofs.state.print_held.Goals as goal

pub loop-last-init : goal.loop-last-init
loop-last-init g c = (rw (held_texts-zero c.args.state.now.held) c.texts_follow.ensures.none, search rules, omega arith)

pub loop-last-preserved : goal.loop-last-preserved
loop-last-preserved g c =
    let next = c.next_number-last in
    let none = rw c.rings-rings.ensures at next.ensures.least in
    let most = rw c.rings-rings.ensures at next.ensures.most in (
      c.texts_follow.ensures.more {all = true} c.loop-last.invariant.0 c.in_ok-print_age.ensures.adds
          (held_texts-more c.args.state.now.held c.loop-last.last next.result next.ensures.above none),
      search rules,
      omega (arith, most, c.requires),
    )

pub returns-in_err-print_age-clause-adds : goal.returns-in_err-print_age-clause-adds
returns-in_err-print_age-clause-adds g c =
    let p = err_from_is_err_and c.from_residual.result c.from_residual.ensures.1 in
    let law = c.texts_follow.ensures in
    let held = c.args.state.now.held in
    let next = c.next_number-last in
    let none = rw c.rings-rings.ensures at next.ensures.least in
    let most = rw c.rings-rings.ensures at next.ensures.most in
    let after = held_texts-after held next.result c.args.newest (omega (arith, most, c.requires)) in
    let here = held_texts-more held c.loop-last.last next.result next.ensures.above none in
    rw p.1 (law.early after.0 (law.more {all = false} c.loop-last.invariant.0 c.in_err-print_age.ensures.adds here) after.1)
