use Rattle.std.proofs.Common.{refl}
use Rattle.q3_entity_ring.specs.Places.{most_places, place_of}
use Rattle.q3_rings.proofs.Accepting.{none_at, none_are_held}
use Rattle.q3_rings.proofs.laws.nothing_stands.Goals as goal

pub returns : goal.returns
returns c = λ ring room. record {
  accepted = tt;
  held = none_are_held ring room;
  newest = refl;
  places = λ number. none_at most_places (place_of number);
}
