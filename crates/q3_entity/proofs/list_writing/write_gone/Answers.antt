use Rattle.std.proofs.Common.{◌++◌, refl, sym, ap, ◌∙◌, arith}
use Rattle.std.proofs.lemmas.Result.{err_from_is_err_and}
use Rattle.q3_entity.specs.Delta.{removal}
use Rattle.q3_entity.specs.Entities.{run_of}
use Rattle.q3_entity.specs.Runs.{from_number}
use Rattle.q3_entity.specs.Merging.{removals}
use Rattle.q3_entity.proofs.Gone.{removals-next, removals-stay, removals-none, from_number-next, from_number-stay, from_number-none}
use Rattle.q3_entity.proofs.list_writing.write_gone.Goals as goal

pub loop-gone-init : goal.loop-gone-init
loop-gone-init c =
    record { written = c.texts_are_written.ensures.begin _ _ (λ over. omega (arith, c.length.ensures.length, c.length.ensures.within, over)); left = refl }

pub returns-then-gone-number-clause-writes : goal.returns-then-gone-number-clause-writes
returns-then-gone-number-clause-writes c =
    let words = c.args.w.now.words in
    let none = ap (removals words c.args.table.now c.args.number) c.in-Some.ensures ∙ removals-stay words c.args.table.now c.args.number c.in-Some.gone.now (run_of c.in-Some.others) c.if-gone-number.true in
    c.texts_are_written.ensures.all _ _ _ (rw none at c.loop-gone.invariant.written)

pub returns-then-gone-number-clause-left : goal.returns-then-gone-number-clause-left
returns-then-gone-number-clause-left c =
    c.in-Some.ensures ∙ sym (from_number-stay c.args.number c.in-Some.gone.now (run_of c.in-Some.others) c.if-gone-number.true) ∙ ap (from_number c.args.number) (sym c.in-Some.ensures) ∙ c.loop-gone.invariant.left

pub returns-in_err-write_removal-clause-writes : goal.returns-in_err-write_removal-clause-writes
returns-in_err-write_removal-clause-writes c =
    let law = c.texts_are_written.ensures in
    let table = c.args.table.now in
    let words = c.args.w.now.words in
    let p = err_from_is_err_and c.from_residual.result c.from_residual.ensures.1 in
    let same = law.words _ _ _ _ c.loop-gone.invariant.written in
    let next = ap (removals words table c.args.number) c.in-Some.ensures ∙ removals-next words table c.args.number c.in-Some.gone.now (run_of c.in-Some.others) c.if-gone-number.false
    ∙ ap (λ ws. removal ws table c.in-Some.gone.now.number ++ removals words table c.args.number (run_of c.in-Some.others)) (sym same) in
    rw (p.1, p.2) (law.stops _ _ _ _ _ _ _ _ c.loop-gone.invariant.written next c.in_err-write_removal.ensures)

pub loop-gone-preserved : goal.loop-gone-preserved
loop-gone-preserved c =
    let law = c.texts_are_written.ensures in
    let table = c.args.table.now in
    let words = c.args.w.now.words in
    let same = law.words _ _ _ _ c.loop-gone.invariant.written in
    let next = ap (removals words table c.args.number) c.in-Some.ensures ∙ removals-next words table c.args.number c.in-Some.gone.now (run_of c.in-Some.others) c.if-gone-number.false
    ∙ ap (λ ws. removal ws table c.in-Some.gone.now.number ++ removals words table c.args.number (run_of c.in-Some.others)) (sym same) in
    record {
      written = law.more _ _ _ _ _ _ _ c.loop-gone.invariant.written next c.in_ok-write_removal.ensures;
      left = sym (from_number-next c.args.number c.in-Some.gone.now (run_of c.in-Some.others) c.if-gone-number.false) ∙ ap (from_number c.args.number) (sym c.in-Some.ensures) ∙ c.loop-gone.invariant.left;
    }

pub returns-clause-writes : goal.returns-clause-writes
returns-clause-writes c =
    let words = c.args.w.now.words in
    let none = ap (removals words c.args.table.now c.args.number) c.in_default.ensures ∙ removals-none words c.args.table.now c.args.number in
    c.texts_are_written.ensures.all _ _ _ (rw none at c.loop-gone.invariant.written)

pub returns-clause-left : goal.returns-clause-left
returns-clause-left c =
    c.in_default.ensures ∙ sym (from_number-none c.args.number) ∙ ap (from_number c.args.number) (sym c.in_default.ensures) ∙ c.loop-gone.invariant.left
