use Rattle.std.proofs.Common.{List, Bool, ap, arith}
use Rattle.std.proofs.lemmas.Result.{err_from_is_err_and}
use Rattle.q3_config.specs.Strings.{places, string_at}
use Rattle.q3_gamestate.specs.Texts.{config_bits}
use Rattle.q3_gamestate.proofs.Parts.{numbered-next, numbered-end}
use Rattle.q3_gamestate.proofs.writing.write_configs.Goals as goal

pub returns-in_err-write_config : goal.returns-in_err-write_config
returns-in_err-write_config c =
    let law = c.texts_are_written.ensures in
    let h = c.loop-index.invariant in
    let p = err_from_is_err_and c.from_residual.result c.from_residual.ensures.1 in
    let words = law.words _ _ _ _ h in
    let next = numbered-next c.loop-index.index places (λ index. config_bits c.args.w.now.words index (string_at c.args.configs.now index)) (config_bits c.loop-index.w.words c.loop-index.index (string_at c.args.configs.now c.loop-index.index)) (omega arith)
    (ap (λ (ws : List (List Bool)). config_bits ws c.loop-index.index (string_at c.args.configs.now c.loop-index.index)) words) in
    rw (p.1, p.2) (law.stops _ _ _ _ _ _ _ _ h next (rw c.get.ensures.string at c.in_err-write_config.ensures))

pub loop-index-preserved : goal.loop-index-preserved
loop-index-preserved c =
    let law = c.texts_are_written.ensures in
    let h = c.loop-index.invariant in
    let words = law.words _ _ _ _ h in
    let next = numbered-next c.loop-index.index places (λ index. config_bits c.args.w.now.words index (string_at c.args.configs.now index)) (config_bits c.loop-index.w.words c.loop-index.index (string_at c.args.configs.now c.loop-index.index)) (omega arith)
    (ap (λ (ws : List (List Bool)). config_bits ws c.loop-index.index (string_at c.args.configs.now c.loop-index.index)) words) in
    law.more _ _ _ _ _ _ _ h next (rw c.get.ensures.string at c.in_ok-write_config.ensures)

pub returns : goal.returns
returns c =
    let end = numbered-end c.loop-index.index places (λ index. config_bits c.args.w.now.words index (string_at c.args.configs.now index)) (omega arith) in
    c.texts_are_written.ensures.all _ _ _ (rw end at c.loop-index.invariant)
