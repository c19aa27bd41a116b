use Rattle.std.proofs.Common.{◌≡◌, ◌≤◌, length, get_or, ℤ, pos, w64, SFits, refl, sym, ◌∙◌, rules, arith}
use Rattle.std.proofs.lemmas.Int.{to_z-of_z}
use Rattle.std.proofs.lemmas.Bool.{eqb-false}
use Rattle.q3_fields.proofs.KindsRead.{HasKinds-more, HasKinds-ends, HasKinds-all, numbered_table-some}
use Rattle.q3_fields.proofs.table.Table.numbered.Goals as goal

pub returns-in_default-clause-exact : goal.returns-in_default-clause-exact
returns-in_default-clause-exact c =
    let width : ℤ = get_or c.args.widths.now c.loop-i.i (pos 0) in
    let fits : SFits w64 width = search rules in
    let none = sym c.kind_of.ensures.kind ∙ c.in_default.is in
    let ends = HasKinds-ends c.args.widths.now c.loop-i.i c.loop-i.kinds c.loop-i.invariant c.loop-i-test.true (simp to_z-of_z at none) in
    rw (numbered_table-some c.args.widths.now c.args.bits (omega arith) (omega arith), ends) refl

pub loop-i-preserved : goal.loop-i-preserved
loop-i-preserved c =
    let width : ℤ = get_or c.args.widths.now c.loop-i.i (pos 0) in
    let fits : SFits w64 width = search rules in
    let some = sym c.kind_of.ensures.kind ∙ c.in-Some.is in
    HasKinds-more c.args.widths.now c.loop-i.i c.loop-i.kinds c.in-Some.kind c.loop-i.invariant c.loop-i-test.true (omega arith) (simp to_z-of_z at some) c.in-Some.ensures.allowed

pub returns-clause-exact : goal.returns-clause-exact
returns-clause-exact c =
    let some : 1 ≤ length c.args.widths.now = omega (arith, eqb-false (length c.args.widths.now) 0 (sym c.if-is_empty.ensures)) in
    let at : c.loop-i.i ≡ length c.args.widths.now = omega arith in
    let all = HasKinds-all c.args.widths.now c.loop-i.i c.loop-i.kinds c.loop-i.invariant c.loop-i-test.false in
    rw (numbered_table-some c.args.widths.now c.args.bits some (omega arith), all, at) refl
