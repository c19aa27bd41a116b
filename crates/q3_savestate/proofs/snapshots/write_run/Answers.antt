use Rattle.std.proofs.Common.{◌≡◌, ◌+◌, ◌++◌, length, refl, ap, arith, length-append}
use Rattle.std.specs.List.{flat_map}
use Rattle.std.proofs.lemmas.List.Concat.{flat_map-append}
use Rattle.std.proofs.lemmas.Result.{err_from_is_err_and}
use Rattle.byteorder.specs.Endian.{little_bytes}
use Rattle.q3_entity.specs.Entities.{run_of}
use Rattle.q3_savestate.specs.Entities.{entity_bytes}
use Rattle.q3_savestate.proofs.snapshots.write_run.Goals as goal

pub returns-in_err-write_short-clause-adds : goal.returns-in_err-write_short-clause-adds
returns-in_err-write_short-clause-adds g c =
    let p = err_from_is_err_and c.from_residual.result c.from_residual.ensures.1 in
    let run = c.args.entities in
    let count : length run.head.now + length run.tail.now ≡ length (run_of run) = omega (arith, length-append run.head.now run.tail.now) in
    rw p.1 (c.texts_follow.ensures.early (flat_map (entity_bytes c.args.profile.now.entity) (run_of run)) (rw count at c.in_err-write_short.ensures.adds) refl)

pub returns-in_err-write_each-clause-adds : goal.returns-in_err-write_each-clause-adds
returns-in_err-write_each-clause-adds g c =
    let p = err_from_is_err_and c.from_residual-in_err-write_each.result c.from_residual-in_err-write_each.ensures.1 in
    let law = c.texts_follow.ensures in
    let run = c.args.entities in
    let text = entity_bytes c.args.profile.now.entity in
    let count : length run.head.now + length run.tail.now ≡ length (run_of run) = omega (arith, length-append run.head.now run.tail.now) in
    rw p.1 (law.more (rw count at c.in_ok-write_short.ensures.adds) (law.early (flat_map text run.tail.now) c.in_err-write_each.ensures.adds refl)
    (ap (λ texts. little_bytes 2 (length (run_of run)) ++ texts) (flat_map-append text run.head.now run.tail.now)))
