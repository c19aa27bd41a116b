use Rattle.std.proofs.Common.{ℕ, List, length, ap, ◌∙◌, arith, rules}
use Rattle.std.proofs.lemmas.List.{length-append}
use Rattle.q3_testio.proofs.TextPlaces.{pushed}
use Rattle.q3_testio.proofs.texts.Texts.push.Goals as goal

pub invariant_of-self : goal.invariant_of-self
invariant_of-self c =
    let more = pushed c.self.inside.lengths.items c.self.inside.bytes.items c.args.text.now c.self.invariant.0 in
    let room = rw (← c.self.view_is) at c.requires.room in
    let longer = ap (λ (z : List ℕ). length z) c.extend.ensures.items ∙ length-append c.self.inside.bytes.items c.args.text.now in
    (rw (c.push_reserved.ensures.items, c.extend.ensures.items) more.lie, omega (arith, room, longer), search rules, search rules, search rules)

pub returns-clause-texts : goal.returns-clause-texts
returns-clause-texts c =
    let more = pushed c.self.inside.lengths.items c.self.inside.bytes.items c.args.text.now c.self.invariant.0 in
    rw (c.push_reserved.ensures.items, c.extend.ensures.items, ← c.self.view_is) more.same
