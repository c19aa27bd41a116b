use Rattle.std.proofs.Common.{ℕ, List, decimal, FitsSigned, w8, rules, subst}
use Rattle.std.specs.Result.{is_ok}
use Rattle.q3_io.specs.Written.{Wrote}
use Rattle.q3_clmsg.proofs.PrintedMoves.{signed_in_pieces, three_in_pieces}
use Rattle.q3_clmsg.proofs.print.print_steps.Goals as goal

pub returns-clause-adds : goal.returns-clause-adds
returns-clause-adds g c =
    let text : List ℕ → Type 0 = λ text. Wrote (g.O.Sink.written c.args.out.now) (g.O.Sink.written c.print_all.new.out) text (is_ok c.print_all.result) in
    let fits : FitsSigned w8 c.args.one.forward = search rules in
    let fits' : FitsSigned w8 c.args.one.right = search rules in
    let fits'' : FitsSigned w8 c.args.one.up = search rules in
    let forward = signed_in_pieces _ _ _ _ fits c.from.ensures c.unsigned_abs.ensures.value c.sign.ensures in
    let right = signed_in_pieces _ _ _ _ fits' c.from-2.ensures c.unsigned_abs-2.ensures.value c.sign-2.ensures in
    let up = signed_in_pieces _ _ _ _ fits'' c.from-3.ensures c.unsigned_abs-3.ensures.value c.sign-3.ensures in
    subst text (three_in_pieces c.sign.result.now (decimal c.from.result) c.sign-2.result.now (decimal c.from-2.result) c.sign-3.result.now (decimal c.from-3.result)
    _ _ _ forward right up) c.print_all.ensures.adds
