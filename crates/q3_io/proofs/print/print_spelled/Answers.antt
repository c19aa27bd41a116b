use Rattle.std.proofs.Common.{rules, arith}
use Rattle.std.proofs.lemmas.Result.{err_from_is_err_and}
use Rattle.q3_io.specs.Quoted.{byte_spelling}
use Rattle.q3_io.proofs.Sinks.{each_follows, each_ends_early}
use Rattle.q3_io.proofs.print.print_spelled.Goals as goal

pub returns-in_err-print_byte-clause-adds : goal.returns-in_err-print_byte-clause-adds
returns-in_err-print_byte-clause-adds g c =
    let p = err_from_is_err_and c.from_residual.result c.from_residual.ensures.1 in
    rw p.1 (each_ends_early byte_spelling c.args.text.now c.loop-byte.byte-index 0 (omega arith) c.loop-byte.invariant.0 c.in_err-print_byte.ensures.adds)

pub loop-byte-preserved : goal.loop-byte-preserved
loop-byte-preserved g c =
    (each_follows byte_spelling c.args.text.now c.loop-byte.byte-index 0 (omega arith) c.loop-byte.invariant.0 c.in_ok-print_byte.ensures.adds, search rules)
