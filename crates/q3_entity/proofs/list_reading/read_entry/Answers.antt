use Rattle.std.proofs.Common.{◌≡◌, ◌≤◌, length, take, arith}
use Rattle.std.proofs.lemmas.List.{take_all}
use Rattle.q3_entity.specs.Entities.{most_entities}
use Rattle.q3_entity.proofs.list_reading.read_entry.Goals as goal

pub returns-then-count-eq-MOST_ENTITIES-clause-reads : goal.returns-then-count-eq-MOST_ENTITIES-clause-reads
returns-then-count-eq-MOST_ENTITIES-clause-reads c =
    let into = c.args.into.now.items in
    let few : length into ≤ most_entities = omega (arith, c.len.ensures.value, c.len.ensures.fits) in
    let long : length into ≡ most_entities = omega (arith, few, c.requires, c.if-count-eq-MOST_ENTITIES.true) in
    let all : take c.args.count into ≡ into = take_all c.args.count into (omega (arith, few, c.if-count-eq-MOST_ENTITIES.true)) in
    rw all (c.read_beyond.ensures.reads into long)

pub make_place-requires-clause-room : goal.make_place-requires-clause-room
make_place-requires-clause-room c = omega (arith, c.len.ensures.value, c.len.ensures.fits, c.requires, c.if-count-eq-MOST_ENTITIES.false)
