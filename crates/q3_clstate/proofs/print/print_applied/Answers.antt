use Rattle.std.proofs.Common.{rules, ◌≡◌, [], List, ℕ, ◌++◌, refl, ap}
use Rattle.std.proofs.lemmas.List.{append-nil}
use Rattle.std.proofs.lemmas.Result.{err_from_is_err_and}
use Rattle.q3_clstate.specs.Report.{outcome_text, game_text}
use Rattle.q3_clstate.proofs.print.print_applied.Goals as goal

pub returns-in_err-print_game-clause-adds : goal.returns-in_err-print_game-clause-adds
returns-in_err-print_game-clause-adds g c =
    let p = err_from_is_err_and c.from_residual-in_err-print_game.result c.from_residual-in_err-print_game.ensures.1 in
    let commands : c.as_slice.result.now ≡ c.args.log.now.commands = search rules in
    let outcome = outcome_text c.args.applied.now.number c.args.applied.now.snap in
    rw (p.1, ← commands) (c.texts_follow.ensures.more c.in_ok-print_commands.ensures.adds (c.texts_follow.ensures.early (outcome ++ []) c.in_err-print_game.ensures.adds refl) refl)

pub returns-clause-adds : goal.returns-clause-adds
returns-clause-adds g c =
    let commands : c.as_slice.result.now ≡ c.args.log.now.commands = search rules in
    let game = game_text c.args.state.now c.args.applied.now.game in
    let outcome = outcome_text c.args.applied.now.number c.args.applied.now.snap in
    let last = ap (λ (text : List ℕ). game ++ text) (append-nil outcome) in
    rw (← commands) (c.texts_follow.ensures.more c.in_ok-print_commands.ensures.adds (c.texts_follow.ensures.more c.in_ok-print_game.ensures.adds c.print_outcome.ensures.adds last) refl)
