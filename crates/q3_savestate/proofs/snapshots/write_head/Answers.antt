use Rattle.std.proofs.Common.{◌≡◌, [], ◌∷◌, length, refl, rules}
use Rattle.std.specs.List.{concat}
use Rattle.std.proofs.lemmas.Result.{err_from_is_err_and}
use Rattle.byteorder.specs.Endian.{little_bytes}
use Rattle.q3_savestate.specs.Snapshots.{player_bytes}
use Rattle.q3_savestate.proofs.WrittenRows.{row_ends}
use Rattle.q3_savestate.proofs.snapshots.write_head.Goals as goal

pub returns-in_err-write_long-clause-adds : goal.returns-in_err-write_long-clause-adds
returns-in_err-write_long-clause-adds g c =
    let p = err_from_is_err_and c.from_residual.result c.from_residual.ensures.1 in
    let law = c.texts_follow.ensures in
    let head = c.args.head.now in
    rw p.1 (law.early (concat (little_bytes 1 head.flags ∷ little_bytes 1 (length head.area.items) ∷ head.area.items ∷ player_bytes c.args.profile.now head.player ∷ [])) c.in_err-write_long.ensures.adds refl)

pub returns-in_err-write_byte-clause-adds : goal.returns-in_err-write_byte-clause-adds
returns-in_err-write_byte-clause-adds g c =
    let p = err_from_is_err_and c.from_residual-in_err-write_byte.result c.from_residual-in_err-write_byte.ensures.1 in
    let law = c.texts_follow.ensures in
    let head = c.args.head.now in
    rw p.1 (law.more c.in_ok-write_long.ensures.adds (law.early (concat (little_bytes 1 (length head.area.items) ∷ head.area.items ∷ player_bytes c.args.profile.now head.player ∷ [])) c.in_err-write_byte.ensures.adds refl) refl)

pub returns-in_err-write_byte-2-clause-adds : goal.returns-in_err-write_byte-2-clause-adds
returns-in_err-write_byte-2-clause-adds g c =
    let p = err_from_is_err_and c.from_residual-in_err-write_byte-2.result c.from_residual-in_err-write_byte-2.ensures.1 in
    let law = c.texts_follow.ensures in
    let head = c.args.head.now in
    rw p.1 (law.more c.in_ok-write_long.ensures.adds (law.more c.in_ok-write_byte.ensures.adds (law.early (concat (head.area.items ∷ player_bytes c.args.profile.now head.player ∷ [])) (rw c.len.ensures.value at c.in_err-write_byte-2.ensures.adds) refl) refl) refl)

pub returns-in_err-write_all-clause-adds : goal.returns-in_err-write_all-clause-adds
returns-in_err-write_all-clause-adds g c =
    let p = err_from_is_err_and c.from_residual-in_err-write_all.result c.from_residual-in_err-write_all.ensures.1 in
    let law = c.texts_follow.ensures in
    let head = c.args.head.now in
    let area : c.deref.result.now ≡ head.area.items = search rules in
    rw p.1 (law.more c.in_ok-write_long.ensures.adds (law.more c.in_ok-write_byte.ensures.adds (law.more (rw c.len.ensures.value at c.in_ok-write_byte-2.ensures.adds) (law.early (concat (player_bytes c.args.profile.now head.player ∷ [])) (rw area at c.in_err-write_all.ensures.adds) refl) refl) refl) refl)

pub returns-clause-adds : goal.returns-clause-adds
returns-clause-adds g c =
    let law = c.texts_follow.ensures in
    let head = c.args.head.now in
    let area : c.deref.result.now ≡ head.area.items = search rules in
    law.more c.in_ok-write_long.ensures.adds (law.more c.in_ok-write_byte.ensures.adds (law.more (rw c.len.ensures.value at c.in_ok-write_byte-2.ensures.adds) (law.more (rw area at c.in_ok-write_all.ensures.adds) (row_ends (c.write_player.ensures.adds)) refl) refl) refl) refl
