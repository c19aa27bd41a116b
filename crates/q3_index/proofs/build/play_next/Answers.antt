use Rattle.std.proofs.Common.{sym, subst, ◌∙◌}
use Rattle.std.proofs.lemmas.Result.{err_from_is_err_and}
use Rattle.q3_clstate.specs.State.{AppliedState}
use Rattle.q3_clstate.specs.Standing.{IsApplied}
use Rattle.q3_index.proofs.Counting.{isnt_write}
use Rattle.q3_index.proofs.Writing.{some_rises}
use Rattle.q3_index.proofs.build.play_next.Goals as goal

pub returns-in_err-next-clause-reads : goal.returns-in_err-next-clause-reads
returns-in_err-next-clause-reads g c =
    let p = err_from_is_err_and c.from_residual.result c.from_residual.ensures.1 in
    let plays = c.in_err-next.ensures.plays in
    rw (p.1, p.2) (isnt_write plays.0 c.args.player.now c.next.new.self c.in_err-next.field-0.0 plays.2)

pub returns-clause-more : goal.returns-clause-more
returns-clause-more g c =
    let plays = c.in_ok-next.ensures.plays in
    let applied : IsApplied c.args.player.now.played.state = subst (λ (state : AppliedState). IsApplied state) c.state.ensures c.stands.ensures in
    λ is.
    let some = some_rises c.within_stays.ensures plays.0 c.args.player.now c.next.new.self c.in_ok-next.field-0 applied c.requires.aged plays.2 (sym c.is_some.ensures ∙ cc) in
    (some.records, some.aged, some.by)
