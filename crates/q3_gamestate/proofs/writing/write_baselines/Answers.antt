use Rattle.std.proofs.Common.{List, Bool, ap, arith}
use Rattle.std.proofs.lemmas.Result.{err_from_is_err_and}
use Rattle.q3_entity.specs.Baselines.{most_baselines, set_at}
use Rattle.q3_gamestate.specs.Texts.{baseline_bits}
use Rattle.q3_gamestate.proofs.Parts.{numbered-next, numbered-end}
use Rattle.q3_gamestate.proofs.writing.write_baselines.Goals as goal

pub returns-in_err-write_baseline : goal.returns-in_err-write_baseline
returns-in_err-write_baseline c =
    let law = c.texts_are_written.ensures in
    let h = c.loop-number.invariant in
    let p = err_from_is_err_and c.from_residual.result c.from_residual.ensures.1 in
    let words = law.words _ _ _ _ h in
    let next = numbered-next c.loop-number.number most_baselines (λ number. baseline_bits c.args.w.now.words c.args.table.now (set_at c.args.baselines.now number)) (baseline_bits c.loop-number.w.words c.args.table.now (set_at c.args.baselines.now c.loop-number.number)) (omega arith)
    (ap (λ (ws : List (List Bool)). baseline_bits ws c.args.table.now (set_at c.args.baselines.now c.loop-number.number)) words) in
    rw (p.1, p.2) (law.stops _ _ _ _ _ _ _ _ h next (c.in_err-write_baseline.ensures))

pub loop-number-preserved : goal.loop-number-preserved
loop-number-preserved c =
    let law = c.texts_are_written.ensures in
    let h = c.loop-number.invariant in
    let words = law.words _ _ _ _ h in
    let next = numbered-next c.loop-number.number most_baselines (λ number. baseline_bits c.args.w.now.words c.args.table.now (set_at c.args.baselines.now number)) (baseline_bits c.loop-number.w.words c.args.table.now (set_at c.args.baselines.now c.loop-number.number)) (omega arith)
    (ap (λ (ws : List (List Bool)). baseline_bits ws c.args.table.now (set_at c.args.baselines.now c.loop-number.number)) words) in
    law.more _ _ _ _ _ _ _ h next (c.in_ok-write_baseline.ensures)

pub returns : goal.returns
returns c =
    let end = numbered-end c.loop-number.number most_baselines (λ number. baseline_bits c.args.w.now.words c.args.table.now (set_at c.args.baselines.now number)) (omega arith) in
    c.texts_are_written.ensures.all _ _ _ (rw end at c.loop-number.invariant)
