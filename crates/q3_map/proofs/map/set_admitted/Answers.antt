use Rattle.std.proofs.Common.{ap, ◌∙◌}
use Rattle.q3_config.specs.Strings.{after_set}
use Rattle.q3_map.proofs.Strings.{settable}
use Rattle.q3_map.proofs.map.set_admitted.Goals as goal

pub returns : goal.returns
returns c =
    let strings = c.args.configs.now in
    c.set.ensures.strings ∙ ap (after_set strings c.args.index c.args.text.now) (settable strings c.args.index c.args.text.now c.requires)
