use Rattle.std.proofs.Common.{◌≡◌, [], get_or, ap, ◌∙◌, arith}
use Rattle.q3_config.specs.Strings.{size_of, config_size}
use Rattle.q3_config.proofs.Sizes.{sized}
use Rattle.q3_config.proofs.table.Table.size_with.Goals as goal

pub overflow_sub-result : goal.overflow_sub-result
overflow_sub-result c =
    let changed = sized c.args.self.now c.args.index c.args.text.now c.requires in
    let size : c.self.inside.size ≡ config_size c.args.self.now = rw (← c.self.view_is) c.self.invariant.1 in
    let old : c.size_of-2.result ≡ size_of (get_or c.args.self.now c.args.index []) = c.size_of-2.ensures ∙ ap size_of c.get.ensures in
    omega (arith, c.size_of.ensures)

pub returns : goal.returns
returns c =
    let changed = sized c.args.self.now c.args.index c.args.text.now c.requires in
    let size : c.self.inside.size ≡ config_size c.args.self.now = rw (← c.self.view_is) c.self.invariant.1 in
    let old : c.size_of-2.result ≡ size_of (get_or c.args.self.now c.args.index []) = c.size_of-2.ensures ∙ ap size_of c.get.ensures in
    omega (arith, c.size_of.ensures)
