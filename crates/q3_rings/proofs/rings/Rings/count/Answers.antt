use Rattle.std.proofs.Common.{◌≡◌, length, sym, ap, ◌∙◌, arith}
use Rattle.std.specs.Prelude.{is_some}
use Rattle.std.specs.List.{count_by}
use Rattle.std.proofs.lemmas.List.{take_all}
use Rattle.q3_entity_ring.specs.Places.{most_places}
use Rattle.q3_rings.proofs.Numbered.{count_held}
use Rattle.q3_rings.proofs.rings.Rings.count.Goals as goal

pub returns : goal.returns
returns c =
    let count : length c.args.self.now.held.places ≡ most_places = c.newest-newest.ensures.held.count in
    c.loop-place.invariant ∙ ap (count_by is_some) (take_all c.loop-place.place c.args.self.now.held.places (omega arith))
    ∙ sym (count_held c.args.self.now.held c.newest-newest.ensures.held)
