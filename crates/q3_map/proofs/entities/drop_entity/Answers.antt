use Rattle.std.proofs.Common.{List, sym, subst, ◌∙◌}
use Rattle.q3_entity.specs.declared.state.EntityState.{EntityState}
use Rattle.q3_entity.specs.Entities.{RiseFrom}
use Rattle.q3_fields.specs.Kinds.{most_end}
use Rattle.q3_map.proofs.Rising.{without_rises, remove_is, stays_is, none_is_gone}
use Rattle.q3_map.proofs.entities.drop_entity.Goals as goal

pub returns-in_default-clause-items : goal.returns-in_default-clause-items
returns-in_default-clause-items c =
    sym (none_is_gone c.args.number c.args.entities.now.items c.place_from.result
    (c.deref.result.now, c.place_from.ensures, c.deref.ensures.value, c.in_default.is))

pub returns-then-index-number-clause-items : goal.returns-then-index-number-clause-items
returns-then-index-number-clause-items c =
    c.remove.ensures.items ∙ sym (remove_is most_end c.args.number c.index.result.now c.args.entities.now.items c.place_from.result c.in-Some.place c.requires.rise
    (c.deref.result.now, c.place_from.ensures, c.deref.ensures.value, c.in-Some.is) c.index.ensures c.if-index-number.true)

pub returns-then-index-number-clause-rise : goal.returns-then-index-number-clause-rise
returns-then-index-number-clause-rise c =
    subst (λ (es : List EntityState). RiseFrom most_end 0 es) (sym (returns-then-index-number-clause-items c))
    (without_rises most_end 0 c.args.number c.args.entities.now.items c.requires.rise)

pub returns-else-index-number-clause-items : goal.returns-else-index-number-clause-items
returns-else-index-number-clause-items c =
    sym (stays_is most_end c.args.number c.index.result.now c.args.entities.now.items c.place_from.result c.in-Some.place c.requires.rise
    (c.deref.result.now, c.place_from.ensures, c.deref.ensures.value, c.in-Some.is) c.index.ensures c.if-index-number.false)
