use Rattle.std.proofs.Common.{[], ◌∷◌, ◌++◌, decimal, refl}
use Rattle.std.specs.Fmt.{signed_decimal}
use Rattle.std.proofs.lemmas.Result.{err_from_is_err_and}
use Rattle.q3_clmsg.specs.Report.{spaced}
use Rattle.q3_clmsg.proofs.PrintedMoves.{move_in_parts}
use Rattle.q3_clmsg.proofs.print.print_move.Goals as goal

pub returns-in_err-print_view-clause-adds : goal.returns-in_err-print_view-clause-adds
returns-in_err-print_view-clause-adds g c =
    let p = err_from_is_err_and c.from_residual.result c.from_residual.ensures.1 in
    let one = c.args.one in
    rw p.1 (c.texts_follow.ensures.early
    (spaced (signed_decimal one.forward ∷ signed_decimal one.right ∷ signed_decimal one.up ∷ []) ++ spaced (decimal one.buttons ∷ decimal one.weapon ∷ []))
    c.in_err-print_view.ensures.adds (move_in_parts one))

pub returns-in_err-print_steps-clause-adds : goal.returns-in_err-print_steps-clause-adds
returns-in_err-print_steps-clause-adds g c =
    let p = err_from_is_err_and c.from_residual-in_err-print_steps.result c.from_residual-in_err-print_steps.ensures.1 in
    let law = c.texts_follow.ensures in
    let one = c.args.one in
    rw p.1 (law.more c.in_ok-print_view.ensures.adds (law.early (spaced (decimal one.buttons ∷ decimal one.weapon ∷ [])) c.in_err-print_steps.ensures.adds refl)
    (move_in_parts one))

pub returns-clause-adds : goal.returns-clause-adds
returns-clause-adds g c =
    let law = c.texts_follow.ensures in
    law.more c.in_ok-print_view.ensures.adds (law.more c.in_ok-print_steps.ensures.adds c.print_hands.ensures.adds refl) (move_in_parts c.args.one)
