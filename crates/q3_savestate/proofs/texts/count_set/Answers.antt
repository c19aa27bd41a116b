use Rattle.std.proofs.Common.{◌≡◌, ◌<◌, length, get_or, [], arith, ap, ◌∙◌, sym}
use Rattle.std.proofs.lemmas.Grind.{common_steps}
use Rattle.q3_savestate.proofs.SetStrings.{some_bytes, no_bytes, set_none, set_more, unset_more}
use Rattle.q3_savestate.proofs.texts.count_set.Goals as goal
use Rattle.q3_savestate.proofs.texts.count_set.Goals.{then-not-is_empty, else-not-is_empty}

pub loop-index-init : goal.loop-index-init
loop-index-init c = record { count = ap length (sym set_none); few = omega arith; places = λ h. absurd (omega arith) }

pub loop-index-preserved : goal.loop-index-preserved
loop-index-preserved c =
    let texts = c.args.configs.now.texts in
    let index = c.loop-index.index in
    let lt : index < length texts = omega (arith, c.get.ensures.strings.count) in
    let here : c.get.result.now ≡ get_or texts index [] = c.get.ensures.string ∙ ap (λ n. get_or texts n []) c.from.ensures in
    elim c.if-not-is_empty.branch [
      | then-not-is_empty w ↦
          let some = some_bytes c.get.result.now (get_or texts index []) c.is_empty.result c.is_empty.ensures here w.if-not-is_empty.true in
          record { count = grind (arith, common_steps, set_more texts index lt some); few = omega arith; places = λ h. c.get.ensures.strings.count }
      | else-not-is_empty w ↦
          let none = no_bytes c.get.result.now (get_or texts index []) c.is_empty.result c.is_empty.ensures here w.if-not-is_empty.false in
          record { count = grind (arith, common_steps, unset_more texts index lt none); few = omega arith; places = λ h. c.get.ensures.strings.count }
    ]
