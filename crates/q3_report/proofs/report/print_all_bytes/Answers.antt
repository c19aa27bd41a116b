use Rattle.std.proofs.Common.{◌++◌, codes, refl}
use Rattle.std.proofs.lemmas.Result.{err_from_is_err_and}
use Rattle.q3_io.specs.Print.{hex_word}
use Rattle.q3_report.proofs.Printing.{bytes_in_parts}
use Rattle.q3_report.proofs.report.print_all_bytes.Goals as goal

pub returns-in_err-print_line-clause-adds : goal.returns-in_err-print_line-clause-adds
returns-in_err-print_line-clause-adds g c =
    let p = err_from_is_err_and c.from_residual.result c.from_residual.ensures.1 in
    rw p.1 (c.texts_follow.ensures.early (hex_word c.args.bytes.now ++ codes "\n") c.in_err-print_line.ensures.adds (bytes_in_parts c.args.datagram (hex_word c.args.bytes.now)))

pub returns-in_err-print_hex_word-clause-adds : goal.returns-in_err-print_hex_word-clause-adds
returns-in_err-print_hex_word-clause-adds g c =
    let p = err_from_is_err_and c.from_residual-in_err-print_hex_word.result c.from_residual-in_err-print_hex_word.ensures.1 in
    let law = c.texts_follow.ensures in
    rw p.1 (law.more c.in_ok-print_line.ensures.adds (law.early (codes "\n") c.in_err-print_hex_word.ensures.adds refl) (bytes_in_parts c.args.datagram (hex_word c.args.bytes.now)))

pub returns-clause-adds : goal.returns-clause-adds
returns-clause-adds g c =
    let law = c.texts_follow.ensures in
    law.more c.in_ok-print_line.ensures.adds (law.more c.in_ok-print_hex_word.ensures.adds c.write_all.ensures.adds refl) (bytes_in_parts c.args.datagram (hex_word c.args.bytes.now))
