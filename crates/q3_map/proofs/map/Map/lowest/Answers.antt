use Rattle.std.proofs.Common.{◌≡◌, take, subst, sym, rules}
use Rattle.q3_entity.specs.Entities.{IsList, Rises, most_entities}
use Rattle.q3_map.proofs.Rising.{lowest_listed, lowest_rise}
use Rattle.q3_map.proofs.map.Map.lowest.Goals as goal

pub returns-clause-rises : goal.returns-clause-rises
returns-clause-rises c =
    let entities = c.self.inside.entities.items in
    let front : c.front.result.now ≡ take most_entities entities = search rules in
    subst Rises (sym front) (lowest_rise entities c.self.invariant.0)

pub returns-clause-listed : goal.returns-clause-listed
returns-clause-listed c = λ table rise.
    let entities = c.args.self.now.entities in
    let front : c.front.result.now ≡ take most_entities entities = search rules in
    subst (IsList table) (sym front) (lowest_listed table entities rise)
