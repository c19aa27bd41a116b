use Rattle.std.proofs.Common.{[], ◌∷◌, refl}
use Rattle.std.specs.List.{concat}
use Rattle.std.proofs.lemmas.Result.{err_from_is_err_and}
use Rattle.byteorder.specs.Endian.{little_bytes}
use Rattle.q3_entity.specs.Entities.{run_of}
use Rattle.q3_savestate.specs.Entities.{counted, entity_bytes}
use Rattle.q3_savestate.specs.Snapshots.{head_bytes}
use Rattle.q3_savestate.proofs.WrittenRows.{row_ends}
use Rattle.q3_savestate.proofs.snapshots.write_snapshot.Goals as goal

pub returns-in_err-write_long-clause-adds : goal.returns-in_err-write_long-clause-adds
returns-in_err-write_long-clause-adds g c =
    let p = err_from_is_err_and c.from_residual.result c.from_residual.ensures.1 in
    let law = c.texts_follow.ensures in
    let head = c.args.held.head.now in
    rw p.1 (law.early (concat (little_bytes 4 c.args.held.age ∷ head_bytes c.args.profile.now head ∷ counted (entity_bytes c.args.profile.now.entity) (run_of c.args.entities) ∷ [])) c.in_err-write_long.ensures.adds refl)

pub returns-in_err-write_long-2-clause-adds : goal.returns-in_err-write_long-2-clause-adds
returns-in_err-write_long-2-clause-adds g c =
    let p = err_from_is_err_and c.from_residual-in_err-write_long-2.result c.from_residual-in_err-write_long-2.ensures.1 in
    let law = c.texts_follow.ensures in
    let head = c.args.held.head.now in
    rw p.1 (law.more c.in_ok-write_long.ensures.adds (law.early (concat (head_bytes c.args.profile.now head ∷ counted (entity_bytes c.args.profile.now.entity) (run_of c.args.entities) ∷ [])) c.in_err-write_long-2.ensures.adds refl) refl)

pub returns-in_err-write_head-clause-adds : goal.returns-in_err-write_head-clause-adds
returns-in_err-write_head-clause-adds g c =
    let p = err_from_is_err_and c.from_residual-in_err-write_head.result c.from_residual-in_err-write_head.ensures.1 in
    let law = c.texts_follow.ensures in
    let head = c.args.held.head.now in
    rw p.1 (law.more c.in_ok-write_long.ensures.adds (law.more c.in_ok-write_long-2.ensures.adds (law.early (concat (counted (entity_bytes c.args.profile.now.entity) (run_of c.args.entities) ∷ [])) c.in_err-write_head.ensures.adds refl) refl) refl)

pub returns-clause-adds : goal.returns-clause-adds
returns-clause-adds g c =
    let law = c.texts_follow.ensures in
    let head = c.args.held.head.now in
    law.more c.in_ok-write_long.ensures.adds (law.more c.in_ok-write_long-2.ensures.adds (law.more c.in_ok-write_head.ensures.adds (row_ends (c.write_run.ensures.adds)) refl) refl) refl
