use Rattle.std.proofs.Common.{◌+◌, None, inr, ◌++◌, ◌∷◌, []}
use Rattle.std.proofs.lemmas.List.{map-append}
use Rattle.toml.specs.Data.{as_str}
use Rattle.q3_bits.specs.CodeWords.{texts_of}
use Rattle.toml.specs.View.{items_view}
use Rattle.q3_profile.proofs.Items.{HasItems, HasItems-more, HasItems-other, HasItems-all, array_at-items}
use Rattle.q3_profile.proofs.document.texts_at.Goals as goal

pub returns-in_default : goal.returns-in_default
returns-in_default c =
    let items = c.in_ok-items.items.now in
    let other = HasItems-other as_str items c.loop-item.item-index (texts_of c.loop-item.texts.items) c.item-item.result c.loop-item-test.true c.loop-item.invariant c.item-item.is c.in_default.ensures in
    inr (array_at-items as_str _ _ (items_view items) None c.in_ok-items.ensures other)

pub loop-item-preserved : goal.loop-item-preserved
loop-item-preserved c =
    let items = c.in_ok-items.items.now in
    let more : HasItems as_str items (c.loop-item.item-index + 1) (texts_of c.loop-item.texts.items ++ c.in-Some.text.now ∷ []) =
    HasItems-more as_str items c.loop-item.item-index (texts_of c.loop-item.texts.items) c.item-item.result c.in-Some.text.now c.loop-item-test.true c.loop-item.invariant c.item-item.is c.in-Some.ensures in
    rw c.in_ok-push.ensures.items (rw map-append more)

pub returns : goal.returns
returns c =
    let items = c.in_ok-items.items.now in
    array_at-items as_str _ _ (items_view items) _ c.in_ok-items.ensures (HasItems-all as_str items c.loop-item.item-index (texts_of c.loop-item.texts.items) c.loop-item-test.false c.loop-item.invariant)
