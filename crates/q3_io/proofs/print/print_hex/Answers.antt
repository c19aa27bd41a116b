use Rattle.std.proofs.Common.{rules, arith}
use Rattle.std.proofs.lemmas.Result.{err_from_is_err_and}
use Rattle.q3_io.specs.Print.{digits_text}
use Rattle.q3_io.proofs.Sinks.{each_follows, each_ends_early}
use Rattle.q3_io.proofs.print.print_hex.Goals as goal

pub returns-in_err-print_digits-clause-adds : goal.returns-in_err-print_digits-clause-adds
returns-in_err-print_digits-clause-adds g c =
    let p = err_from_is_err_and c.from_residual.result c.from_residual.ensures.1 in
    rw p.1 (each_ends_early digits_text c.args.bytes.now c.loop-byte.byte-index 0 (omega arith) c.loop-byte.invariant.0 c.in_err-print_digits.ensures.adds)

pub loop-byte-preserved : goal.loop-byte-preserved
loop-byte-preserved g c =
    (each_follows digits_text c.args.bytes.now c.loop-byte.byte-index 0 (omega arith) c.loop-byte.invariant.0 c.in_ok-print_digits.ensures.adds, search rules)
