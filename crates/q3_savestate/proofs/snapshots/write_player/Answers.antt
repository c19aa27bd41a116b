use Rattle.std.proofs.Common.{[], ◌∷◌, refl}
use Rattle.std.specs.List.{flat_map, concat}
use Rattle.std.proofs.lemmas.Result.{err_from_is_err_and}
use Rattle.byteorder.specs.Endian.{little_bytes}
use Rattle.q3_savestate.specs.Snapshots.{shorts_bytes}
use Rattle.q3_savestate.proofs.WrittenRows.{row_ends}
use Rattle.q3_savestate.proofs.snapshots.write_player.Goals as goal

pub returns-in_err-write_shorts-clause-adds : goal.returns-in_err-write_shorts-clause-adds
returns-in_err-write_shorts-clause-adds g c =
    let p = err_from_is_err_and c.from_residual-in_err-write_shorts.result c.from_residual-in_err-write_shorts.ensures.1 in
    let law = c.texts_follow.ensures in
    let player = c.args.player.now in
    rw p.1 (law.more c.in_ok-write_words.ensures.adds (law.early (concat (shorts_bytes player.persistant ∷ shorts_bytes player.ammo ∷ flat_map (little_bytes 4) player.powerups ∷ [])) c.in_err-write_shorts.ensures.adds refl) refl)

pub returns-in_err-write_shorts-2-clause-adds : goal.returns-in_err-write_shorts-2-clause-adds
returns-in_err-write_shorts-2-clause-adds g c =
    let p = err_from_is_err_and c.from_residual-in_err-write_shorts-2.result c.from_residual-in_err-write_shorts-2.ensures.1 in
    let law = c.texts_follow.ensures in
    let player = c.args.player.now in
    rw p.1 (law.more c.in_ok-write_words.ensures.adds (law.more c.in_ok-write_shorts.ensures.adds (law.early (concat (shorts_bytes player.ammo ∷ flat_map (little_bytes 4) player.powerups ∷ [])) c.in_err-write_shorts-2.ensures.adds refl) refl) refl)

pub returns-in_err-write_shorts-3-clause-adds : goal.returns-in_err-write_shorts-3-clause-adds
returns-in_err-write_shorts-3-clause-adds g c =
    let p = err_from_is_err_and c.from_residual-in_err-write_shorts-3.result c.from_residual-in_err-write_shorts-3.ensures.1 in
    let law = c.texts_follow.ensures in
    let player = c.args.player.now in
    rw p.1 (law.more c.in_ok-write_words.ensures.adds (law.more c.in_ok-write_shorts.ensures.adds (law.more c.in_ok-write_shorts-2.ensures.adds (law.early (concat (flat_map (little_bytes 4) player.powerups ∷ [])) c.in_err-write_shorts-3.ensures.adds refl) refl) refl) refl)

pub returns-clause-adds : goal.returns-clause-adds
returns-clause-adds g c =
    let law = c.texts_follow.ensures in
    let player = c.args.player.now in
    law.more c.in_ok-write_words.ensures.adds (law.more c.in_ok-write_shorts.ensures.adds (law.more c.in_ok-write_shorts-2.ensures.adds (law.more c.in_ok-write_shorts-3.ensures.adds (row_ends (c.write_longs.ensures.adds)) refl) refl) refl) refl
