use Rattle.std.proofs.Common.{◌≡◌, ◌<◌, None, ap, subst, sym, ◌∙◌}
use Rattle.q3_rings.specs.Rings.{RingsState, accept_in}
use Rattle.q3_rings.proofs.Kept.{accepted_is, accepted_stays}
use Rattle.q3_rings.proofs.PuttingBack.{none_is_begun}
use Rattle.q3_rings.proofs.rings.Rings.accept.Goals as goal

pub invariant_of-self : goal.invariant_of-self
invariant_of-self c =
    let newer : c.self.inside.newest < c.args.head.now.number = subst (λ (rings : RingsState). rings.held.newest < c.args.head.now.number) (sym c.self.view_is) c.requires.newer in
    let none : c.self.inside.begun ≡ None = none_is_begun c.self.inside c.args.self.now c.self.view_is c.requires.none in
    rw (c.place.ensures, c.keep.ensures, c.placed-first.ensures)
    (accepted_stays c.placed_is_there.ensures c.others_stay.ensures c.self.inside c.args.head.now c.args.entities.now c.self.invariant none newer c.requires.rises)

pub returns : goal.returns
returns c =
    let none : c.self.inside.begun ≡ None = none_is_begun c.self.inside c.args.self.now c.self.view_is c.requires.none in
    rw (c.place.ensures, c.keep.ensures, c.placed-first.ensures)
    (accepted_is c.placed_is_there.ensures c.others_stay.ensures c.self.inside c.args.head.now c.args.entities.now c.self.invariant none c.requires.rises.few
    ∙ ap (λ (rings : RingsState). accept_in rings (record { head = c.args.head.now; entities = c.args.entities.now })) c.self.view_is)
