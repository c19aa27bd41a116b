use Rattle.std.proofs.Common.{sym, ap, ◌∙◌, arith, rules}
use Rattle.q3_config.specs.Strings.{places, config_size}
use Rattle.q3_config.proofs.Places.{nowhere}
use Rattle.q3_config.proofs.Sizes.{config_size-empty}
use Rattle.q3_config.proofs.table.Table.new.Goals as goal

pub invariant_of-result : goal.invariant_of-result
invariant_of-result c =
    let lie = nowhere c.in_ok-with_capacity.field-0.items c.in_ok-vec.field-0.items places (c.in_ok-vec.ensures.items_if_clones_equal (λ y e. e)) in
    (lie.within, sym (ap config_size lie.same ∙ config_size-empty places), search rules, omega (arith, c.in_ok-with_capacity.ensures.exact), omega (arith, c.in_ok-with_capacity-2.ensures.exact))

pub returns : goal.returns
returns c = (nowhere c.in_ok-with_capacity.field-0.items c.in_ok-vec.field-0.items places (c.in_ok-vec.ensures.items_if_clones_equal (λ y e. e))).same
