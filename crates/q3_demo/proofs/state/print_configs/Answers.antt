use Rattle.std.proofs.Common.{◌≡◌, false, [], get_or, refl, rules, arith}
use Rattle.std.proofs.lemmas.Result.{err_from_is_err_and}
use Rattle.q3_demo.proofs.Printed.{configs_text-nil, configs_text-more, configs_text-split, configs_after}
use Rattle.q3_demo.proofs.state.print_configs.Goals as goal

pub loop-index-init : goal.loop-index-init
loop-index-init g c = (rw configs_text-nil c.texts_follow.ensures.none, search rules)

pub returns-in_err-print_config-clause-adds : goal.returns-in_err-print_config-clause-adds
returns-in_err-print_config-clause-adds g c =
    let p = err_from_is_err_and c.from_residual.result c.from_residual.ensures.1 in
    let law = c.texts_follow.ensures in
    let texts = c.args.state.now.strings.texts in
    let index = c.loop-index.index in
    let here : c.get.result.now ≡ get_or texts index [] = search rules in
    rw p.1 (law.early (configs_after texts index) (law.more {all = false} c.loop-index.invariant.0 (rw here at c.in_err-print_config.ensures.adds) refl) (configs_text-split texts index (omega arith)))

pub loop-index-preserved : goal.loop-index-preserved
loop-index-preserved g c =
    let texts = c.args.state.now.strings.texts in
    let index = c.loop-index.index in
    let here : c.get.result.now ≡ get_or texts index [] = search rules in
    (c.texts_follow.ensures.more c.loop-index.invariant.0 (rw here at c.in_ok-print_config.ensures.adds) (configs_text-more texts index (omega arith)), search rules)
