use Rattle.std.proofs.Common.{length, List, sym, ap, subst, ◌∙◌, arith}
use Rattle.q3_entity.specs.declared.state.EntityState.{EntityState}
use Rattle.q3_entity.specs.Entities.{RiseFrom}
use Rattle.q3_fields.specs.Kinds.{most_end}
use Rattle.q3_map.proofs.Rising.{put_rises, push_is, set_is, insert_is}
use Rattle.q3_map.proofs.entities.put_entity.Goals as goal

pub unwrap-requires : goal.unwrap-requires
unwrap-requires c =
    let items = c.args.entities.now.items in
    let pushed = push_is most_end c.args.entity items c.place_from.result c.requires.rise c.requires.number
    (c.deref.result.now, c.place_from.ensures, c.deref.ensures.value, c.in_default.is) in
    c.push.ensures.succeeds (omega (arith, pushed.1, c.requires.room, c.deref.ensures.len, ap (λ (es : List EntityState). length es) c.deref.ensures.value))

pub returns-in_default-clause-items : goal.returns-in_default-clause-items
returns-in_default-clause-items c =
    let items = c.args.entities.now.items in
    let pushed = push_is most_end c.args.entity items c.place_from.result c.requires.rise c.requires.number
    (c.deref.result.now, c.place_from.ensures, c.deref.ensures.value, c.in_default.is) in
    rw c.unwrap.ensures at c.push.ensures.items ∙ sym pushed.0

pub returns-in_default-clause-rise : goal.returns-in_default-clause-rise
returns-in_default-clause-rise c =
    subst (λ (es : List EntityState). RiseFrom most_end 0 es) (sym (returns-in_default-clause-items c))
    (put_rises most_end 0 c.args.entity c.args.entities.now.items (omega arith) c.requires.number c.requires.rise)

pub returns-then-index-entity-clause-items : goal.returns-then-index-entity-clause-items
returns-then-index-entity-clause-items c =
    sym (set_is c.args.entity c.index.result.now c.args.entities.now.items c.place_from.result c.in-Some.place
    (c.deref.result.now, c.place_from.ensures, c.deref.ensures.value, c.in-Some.is) c.index.ensures c.if-index-entity.true)

pub returns-then-index-entity-clause-rise : goal.returns-then-index-entity-clause-rise
returns-then-index-entity-clause-rise c =
    subst (λ (es : List EntityState). RiseFrom most_end 0 es) (sym (returns-then-index-entity-clause-items c))
    (put_rises most_end 0 c.args.entity c.args.entities.now.items (omega arith) c.requires.number c.requires.rise)

pub unwrap-requires-2 : goal.unwrap-requires-2
unwrap-requires-2 c =
    let put = insert_is most_end c.args.entity c.index.result.now c.args.entities.now.items c.place_from.result c.in-Some.place c.requires.rise c.requires.number
    (c.deref.result.now, c.place_from.ensures, c.deref.ensures.value, c.in-Some.is) c.index.ensures c.if-index-entity.false in
    c.insert.ensures.succeeds (omega (arith, put.1, c.requires.room, c.deref.ensures.len, ap (λ (es : List EntityState). length es) c.deref.ensures.value))

pub returns-clause-items : goal.returns-clause-items
returns-clause-items c =
    let put = insert_is most_end c.args.entity c.index.result.now c.args.entities.now.items c.place_from.result c.in-Some.place c.requires.rise c.requires.number
    (c.deref.result.now, c.place_from.ensures, c.deref.ensures.value, c.in-Some.is) c.index.ensures c.if-index-entity.false in
    rw c.unwrap-2.ensures at c.insert.ensures.items ∙ sym put.0

pub returns-clause-rise : goal.returns-clause-rise
returns-clause-rise c =
    subst (λ (es : List EntityState). RiseFrom most_end 0 es) (sym (returns-clause-items c))
    (put_rises most_end 0 c.args.entity c.args.entities.now.items (omega arith) c.requires.number c.requires.rise)
