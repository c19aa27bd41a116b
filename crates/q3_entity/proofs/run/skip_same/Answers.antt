use Rattle.std.proofs.Common.{◌≡◌, [], length, sym, ◌∙◌, arith}
use Rattle.std.proofs.lemmas.Bool.{eqb-true}
use Rattle.std.proofs.lemmas.List.{drop_all}
use Rattle.q3_entity.specs.Entities.{run_of}
use Rattle.q3_entity.proofs.Shared.{share-more, share-on}
use Rattle.q3_entity.proofs.run.skip_same.Goals as goal

pub returns-then-not-is_empty : goal.returns-then-not-is_empty
returns-then-not-is_empty c =
    share-more (run_of c.args.base) c.args.now.head.now (run_of c.skip_piece.result.0) c.skip_piece.result.1.now c.args.now.tail.now c.skip_piece.ensures

pub returns : goal.returns
returns c =
    let head = c.skip_piece.result.1.now in
    let none : length head ≡ 0 = eqb-true (length head) 0 (sym c.is_empty.ensures ∙ c.if-not-is_empty.false) in
    let empty : head ≡ [] = drop_all 0 head (omega arith) in
    rw empty
    (share-on (run_of c.args.base) (run_of c.skip_piece.result.0) (run_of c.skip_piece-2.result.0) c.args.now.head.now c.args.now.tail.now c.skip_piece-2.result.1.now
    (rw empty at c.skip_piece.ensures) c.skip_piece-2.ensures)
