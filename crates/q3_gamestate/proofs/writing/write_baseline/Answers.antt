use Rattle.std.proofs.Common.{◌≡◌, Some, true, sym, ap, ◌∙◌}
use Rattle.std.specs.Option.{option_copied}
use Rattle.std.proofs.lemmas.Result.{err_from_is_err_and}
use Rattle.q3_entity.specs.Entities.{zero_entity}
use Rattle.q3_entity.specs.Delta.{entity_delta}
use Rattle.q3_entity.specs.Baselines.{set_at}
use Rattle.q3_gamestate.proofs.Parts.{baseline-some}
use Rattle.q3_gamestate.proofs.writing.write_baseline.Goals as goal

pub returns-in_err-put_all : goal.returns-in_err-put_all
returns-in_err-put_all c =
    let p = err_from_is_err_and c.from_residual.result c.from_residual.ensures.1 in
    let state = c.in-Some.state.now in
    let there : set_at c.args.baselines.now c.args.number ≡ Some state = sym c.get.ensures.set ∙ ap option_copied c.in-Some.is in
    rw (baseline-some c.args.w.now.words c.args.table.now (set_at c.args.baselines.now c.args.number) state there, p.1, p.2)
    (c.texts_are_written.ensures.refused (entity_delta c.args.w.now.words c.args.table.now (zero_entity state.number) state true) c.in_err-put_all.ensures)

pub returns : goal.returns
returns c =
    let state = c.in-Some.state.now in
    let there : set_at c.args.baselines.now c.args.number ≡ Some state = sym c.get.ensures.set ∙ ap option_copied c.in-Some.is in
    let delta = rw c.zero.ensures at c.write_entity.ensures in
    rw (baseline-some c.args.w.now.words c.args.table.now (set_at c.args.baselines.now c.args.number) state there)
    (c.texts_are_written.ensures.next (λ ws. entity_delta ws c.args.table.now (zero_entity state.number) state true) c.in_ok-put_all.ensures delta)
