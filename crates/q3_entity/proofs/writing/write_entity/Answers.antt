use Rattle.std.proofs.Common.{◌≡◌, ◌≢◌, arith}
use Rattle.q3_fields.specs.Deltas.{changed_count}
use Rattle.q3_entity.proofs.DeltaTexts.{entity_delta-changed, entity_delta-unchanged}
use Rattle.q3_entity.proofs.writing.write_entity.Goals as goal

pub returns-then-count-gt0 : goal.returns-then-count-gt0
returns-then-count-gt0 c =
    let from = c.args.from.now in
    let to = c.args.to.now in
    let table = c.args.table.now in
    let count = c.changed_count-count.ensures.count in
    let some : changed_count table.kinds from.words to.words ≢ 0 = λ none. omega (arith, none, count) in
    rw (entity_delta-changed c.args.w.now.words table from to c.args.force some) (rw count at c.write_changed.ensures)

pub returns-then-force : goal.returns-then-force
returns-then-force c =
    let from = c.args.from.now in
    let to = c.args.to.now in
    let table = c.args.table.now in
    let count = c.changed_count-count.ensures.count in
    let none : changed_count table.kinds from.words to.words ≡ 0 = omega (arith, count) in
    rw (entity_delta-unchanged c.args.w.now.words table from to c.args.force none, c.if-force.true) c.write_opening.ensures
