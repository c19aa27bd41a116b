use Rattle.std.proofs.Common.{ℕ, List, ◌<◌, length, subst, arith}
use Rattle.std.proofs.lemmas.Bool.Decides.{nat_tests}
use Rattle.std.specs.Result.{is_ok}
use Rattle.q3_io.specs.Written.{Wrote}
use Rattle.q3_io.proofs.HexWords.{hex_in_digits}
use Rattle.q3_io.proofs.print.print_hex_word.Goals as goal

pub returns-clause-adds : goal.returns-clause-adds
returns-clause-adds g c =
    let text : List ℕ → Type 0 = λ text. Wrote (g.O.Sink.written c.args.out.now) (g.O.Sink.written c.print_hex.new.out) text (is_ok c.print_hex.result) in
    let some : 0 < length c.args.bytes.now = grind (arith, nat_tests) in
    subst text (hex_in_digits c.args.bytes.now some) c.print_hex.ensures.adds
