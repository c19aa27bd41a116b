use Rattle.std.proofs.Common.{sym, ◌∙◌}
use Rattle.std.proofs.lemmas.Result.{err_from_is_err_and}
use Rattle.q3_index.proofs.Counting.{isnt_write_all, some_of_all_rises, none_of_all_stays}
use Rattle.q3_index.proofs.build.count_next.Goals as goal

pub returns-in_err-next_of_all-clause-reads : goal.returns-in_err-next_of_all-clause-reads
returns-in_err-next_of_all-clause-reads g c =
    let p = err_from_is_err_and c.from_residual.result c.from_residual.ensures.1 in
    let plays = c.in_err-next_of_all.ensures.plays in
    rw (p.1, p.2) (isnt_write_all plays.0 c.args.player.now c.next_of_all.new.self c.in_err-next_of_all.field-0.0 plays.2)

pub returns-clause-more : goal.returns-clause-more
returns-clause-more g c =
    let plays = c.in_ok-next_of_all.ensures.plays in
    λ is. some_of_all_rises plays.0 c.args.player.now c.next_of_all.new.self c.in_ok-next_of_all.field-0 plays.2 (sym c.is_some.ensures ∙ cc)

pub returns-clause-end : goal.returns-clause-end
returns-clause-end g c =
    let plays = c.in_ok-next_of_all.ensures.plays in
    λ is. none_of_all_stays plays.0 c.args.player.now c.next_of_all.new.self c.in_ok-next_of_all.field-0 plays.2 (sym c.is_some.ensures ∙ cc)
