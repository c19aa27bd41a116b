use Rattle.std.proofs.Common.{◌≡◌, [], length, sym, ◌∙◌, arith}
use Rattle.std.proofs.lemmas.Bool.{eqb-true}
use Rattle.std.proofs.lemmas.List.{drop_all}
use Rattle.q3_entity.proofs.Shared.{share-both}
use Rattle.q3_entity.proofs.run.skip_piece.Goals as goal

pub returns : goal.returns
returns c =
    let head = c.after_same.result.0.now in
    let none : length head ≡ 0 = eqb-true (length head) 0 (sym c.is_empty.ensures ∙ c.if-not-is_empty.false) in
    let empty : head ≡ [] = drop_all 0 head (omega arith) in
    rw empty
    (share-both c.args.base.head.now c.args.now.now c.after_same.result.1.now c.args.base.tail.now c.after_same-2.result.0.now c.after_same-2.result.1.now
    (rw empty at c.after_same.ensures) c.after_same-2.ensures)
