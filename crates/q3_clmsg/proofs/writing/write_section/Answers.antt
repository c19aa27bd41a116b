use Rattle.std.proofs.Common.{◌≡◌, ◌<◌, ◌==◌, length, false, sym, ◌∙◌, arith}
use Rattle.std.proofs.lemmas.Bool.Decides.{nat_tests}
use Rattle.std.proofs.lemmas.Result.{err_from_is_err_and}
use Rattle.q3_clmsg.specs.Moves.{no_move, moves_bits}
use Rattle.q3_clmsg.proofs.Sections.{section_some}
use Rattle.q3_clmsg.proofs.writing.write_section.Goals as goal

pub returns-in_err-put_all : goal.returns-in_err-put_all
returns-in_err-put_all c =
    let p = err_from_is_err_and c.from_residual.result c.from_residual.ensures.1 in
    let words = c.args.w.now.words in
    let moves = c.args.moves.now in
    let test : (length moves == 0) ≡ false = sym c.is_empty.ensures ∙ c.if-is_empty.false in
    let some : 0 < length moves = grind (arith, nat_tests, test) in
    rw (section_some words c.args.key c.args.delta moves some, p.1, p.2)
    (c.texts_are_written.ensures.refused (moves_bits words c.args.key no_move moves) (rw c.operation_of.ensures at c.in_err-put_all.ensures))

pub returns : goal.returns
returns c =
    let words = c.args.w.now.words in
    let moves = c.args.moves.now in
    let test : (length moves == 0) ≡ false = sym c.is_empty.ensures ∙ c.if-is_empty.false in
    let some : 0 < length moves = grind (arith, nat_tests, test) in
    rw (section_some words c.args.key c.args.delta moves some)
    (c.texts_are_written.ensures.next (λ ws. moves_bits ws c.args.key no_move moves) (rw c.operation_of.ensures at c.in_ok-put_all.ensures) c.write_moves.ensures)
