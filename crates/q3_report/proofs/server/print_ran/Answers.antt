use Rattle.std.proofs.Common.{◌≡◌, [], ◌∷◌, ◌++◌, List, ℕ, refl}
use Rattle.std.specs.List.{concat, flat_map}
use Rattle.std.proofs.lemmas.List.{append_assoc, append-nil}
use Rattle.std.proofs.lemmas.Result.{err_from_is_err_and}
use Rattle.q3_clmsg.specs.Report.{move_text}
use Rattle.q3_window.specs.Report.{commands_text}
use Rattle.q3_report.specs.ServerLines.{entered_text, ran_text}
use Rattle.q3_report.proofs.server.print_ran.Goals as goal

in_parts : (line commands entered moves : List ℕ) → line ++ concat (commands ∷ entered ∷ moves ∷ []) ≡ (line ++ commands) ++ (entered ++ moves)
in_parts line commands entered moves = simp (append_assoc, append-nil)

pub returns-in_err-print_front-clause-adds : goal.returns-in_err-print_front-clause-adds
returns-in_err-print_front-clause-adds g c =
    let p = err_from_is_err_and c.from_residual.result c.from_residual.ensures.1 in
    let moves = flat_map move_text c.args.moves.now in
    rw p.1 (c.texts_follow.ensures.early (entered_text c.args.entered ++ moves) c.in_err-print_front.ensures.adds
    (in_parts (ran_text c.args.slot c.args.number) (commands_text c.args.commands.now) (entered_text c.args.entered) moves))

pub returns-in_err-print_entered-clause-adds : goal.returns-in_err-print_entered-clause-adds
returns-in_err-print_entered-clause-adds g c =
    let p = err_from_is_err_and c.from_residual-in_err-print_entered.result c.from_residual-in_err-print_entered.ensures.1 in
    let law = c.texts_follow.ensures in
    let moves = flat_map move_text c.args.moves.now in
    rw p.1 (law.more c.in_ok-print_front.ensures.adds (law.early moves c.in_err-print_entered.ensures.adds refl)
    (in_parts (ran_text c.args.slot c.args.number) (commands_text c.args.commands.now) (entered_text c.args.entered) moves))

pub returns-clause-adds : goal.returns-clause-adds
returns-clause-adds g c =
    let law = c.texts_follow.ensures in
    let moves = flat_map move_text c.args.moves.now in
    law.more c.in_ok-print_front.ensures.adds (law.more c.in_ok-print_entered.ensures.adds c.print_moves.ensures.adds refl)
    (in_parts (ran_text c.args.slot c.args.number) (commands_text c.args.commands.now) (entered_text c.args.entered) moves)
