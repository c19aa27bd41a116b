use Rattle.std.proofs.Common.{[], rules, arith}
use Rattle.std.proofs.lemmas.Result.{err_from_is_err_and}
use Rattle.q3_io.specs.declared.print.Piece.{Piece}
use Rattle.q3_io.specs.declared.print.Piece.TheVariants.{Text}
use Rattle.q3_io.specs.Print.{piece_text}
use Rattle.q3_io.proofs.Sinks.{each_follows, each_ends_early}
use Rattle.q3_io.proofs.print.print_all.Goals as goal

abbrev none : Piece
none = Text (record { ref_ptr = (0, 0); now = [] })

pub returns-in_err-print_piece-clause-adds : goal.returns-in_err-print_piece-clause-adds
returns-in_err-print_piece-clause-adds g c =
    let p = err_from_is_err_and c.from_residual.result c.from_residual.ensures.1 in
    rw p.1 (each_ends_early piece_text c.args.pieces.now c.loop-piece.piece-index none (omega arith) c.loop-piece.invariant.0 c.in_err-print_piece.ensures.adds)

pub loop-piece-preserved : goal.loop-piece-preserved
loop-piece-preserved g c =
    (each_follows piece_text c.args.pieces.now c.loop-piece.piece-index none (omega arith) c.loop-piece.invariant.0 c.in_ok-print_piece.ensures.adds, search rules)
