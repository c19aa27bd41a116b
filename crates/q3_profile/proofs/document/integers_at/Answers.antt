use Rattle.std.proofs.Common.{◌+◌, None, inr, rules, SFits, w64, ◌++◌, ◌∷◌, []}
use Rattle.std.proofs.lemmas.Int.{to_z-of_z}
use Rattle.toml.specs.Data.{as_integer}
use Rattle.toml.specs.View.{items_view}
use Rattle.q3_profile.proofs.Items.{HasItems, HasItems-more, HasItems-other, HasItems-all, array_at-items}
use Rattle.q3_profile.proofs.document.integers_at.Goals as goal

pub returns-in_default : goal.returns-in_default
returns-in_default c =
    let items = c.in_ok-items.items.now in
    let other = HasItems-other as_integer items c.loop-item.item-index c.loop-item.numbers.items c.item-item.result c.loop-item-test.true c.loop-item.invariant c.item-item.is c.in_default.ensures in
    inr (array_at-items as_integer _ _ (items_view items) None c.in_ok-items.ensures other)

pub loop-item-preserved : goal.loop-item-preserved
loop-item-preserved c =
    let items = c.in_ok-items.items.now in
    let more : HasItems as_integer items (c.loop-item.item-index + 1) (c.loop-item.numbers.items ++ c.in-Some.number ∷ []) =
    HasItems-more as_integer items c.loop-item.item-index c.loop-item.numbers.items c.item-item.result c.in-Some.number c.loop-item-test.true c.loop-item.invariant c.item-item.is c.in-Some.ensures in
    let fits : SFits w64 c.in-Some.number = search rules in
    rw (c.in_ok-push.ensures.items, to_z-of_z w64 c.in-Some.number fits) more

pub returns : goal.returns
returns c =
    let items = c.in_ok-items.items.now in
    array_at-items as_integer _ _ (items_view items) _ c.in_ok-items.ensures (HasItems-all as_integer items c.loop-item.item-index c.loop-item.numbers.items c.loop-item-test.false c.loop-item.invariant)
