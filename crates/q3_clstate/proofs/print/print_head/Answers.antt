use Rattle.std.proofs.Common.{◌++◌, codes, refl}
use Rattle.std.proofs.lemmas.Result.{err_from_is_err_and}
use Rattle.q3_io.specs.Print.{hex_word}
use Rattle.q3_rings.specs.Loans.{snapshot_of}
use Rattle.q3_clstate.proofs.Printing.{head_in_parts}
use Rattle.q3_clstate.proofs.print.print_head.Goals as goal

pub returns-in_err-print_start-clause-adds : goal.returns-in_err-print_start-clause-adds
returns-in_err-print_start-clause-adds g c =
    let p = err_from_is_err_and c.from_residual.result c.from_residual.ensures.1 in
    let snapshot = snapshot_of c.args.snapshot in
    rw p.1 (c.texts_follow.ensures.early (hex_word snapshot.head.area.items ++ codes "\n+ player") c.in_err-print_start.ensures.adds (head_in_parts snapshot.head))

pub returns-in_err-print_hex_word-clause-adds : goal.returns-in_err-print_hex_word-clause-adds
returns-in_err-print_hex_word-clause-adds g c =
    let p = err_from_is_err_and c.from_residual-in_err-print_hex_word.result c.from_residual-in_err-print_hex_word.ensures.1 in
    let law = c.texts_follow.ensures in
    rw p.1 (law.more c.in_ok-print_start.ensures.adds (law.early (codes "\n+ player") c.in_err-print_hex_word.ensures.adds refl) (head_in_parts (snapshot_of c.args.snapshot).head))

pub returns-clause-adds : goal.returns-clause-adds
returns-clause-adds g c =
    let law = c.texts_follow.ensures in
    law.more c.in_ok-print_start.ensures.adds (law.more c.in_ok-print_hex_word.ensures.adds c.write_all.ensures.adds refl) (head_in_parts (snapshot_of c.args.snapshot).head)
