use Rattle.std.proofs.Common.{◌≡◌, [], ◌∷◌, length, false, refl, rules, arith}
use Rattle.std.specs.List.{flat_map, concat}
use Rattle.std.proofs.lemmas.Result.{err_from_is_err_and}
use Rattle.byteorder.specs.Endian.{little_bytes}
use Rattle.q3_rings.specs.ByNumber.{by_number}
use Rattle.q3_savestate.specs.Snapshots.{snapshot_bytes}
use Rattle.q3_savestate.proofs.Numbered.{up_to-zero, texts_next, texts_after}
use Rattle.q3_savestate.proofs.WrittenRows.{row_ends}
use Rattle.q3_savestate.proofs.snapshots.write_snapshots.Goals as goal

pub returns-in_err-write_long-clause-adds : goal.returns-in_err-write_long-clause-adds
returns-in_err-write_long-clause-adds g c =
    let p = err_from_is_err_and c.from_residual.result c.from_residual.ensures.1 in
    let held = c.args.rings.now.held in
    let newest : c.newest-newest.result ≡ held.newest = c.newest-newest.ensures.newest in
    rw p.1 (c.texts_follow.ensures.early (concat (little_bytes 1 (length (by_number held)) ∷ flat_map (snapshot_bytes c.args.profile.now) (by_number held) ∷ [])) (rw newest at c.in_err-write_long.ensures.adds) refl)

pub returns-in_err-write_byte-clause-adds : goal.returns-in_err-write_byte-clause-adds
returns-in_err-write_byte-clause-adds g c =
    let p = err_from_is_err_and c.from_residual-in_err-write_byte.result c.from_residual-in_err-write_byte.ensures.1 in
    let law = c.texts_follow.ensures in
    let held = c.args.rings.now.held in
    let newest : c.newest-newest.result ≡ held.newest = c.newest-newest.ensures.newest in
    rw p.1 (law.more (rw newest at c.in_ok-write_long.ensures.adds)
    (law.early (concat (flat_map (snapshot_bytes c.args.profile.now) (by_number held) ∷ [])) (rw c.count.ensures at c.in_err-write_byte.ensures.adds) refl) refl)

pub loop-last-init : goal.loop-last-init
loop-last-init g c = (rw (up_to-zero c.args.rings.now.held) c.texts_follow.ensures.none, search rules, omega arith)

pub loop-last-preserved : goal.loop-last-preserved
loop-last-preserved g c = (
  c.texts_follow.ensures.more c.loop-last.invariant.0 c.in_ok-write_numbered.ensures.adds
      (texts_next (snapshot_bytes c.args.profile.now) c.args.rings.now.held c.loop-last.last c.next_number-last.result c.next_number-last.ensures.above c.next_number-last.ensures.least),
  search rules,
  omega (arith, c.next_number-last.ensures.most, c.newest-newest.ensures.newest),
)

pub returns-in_err-write_numbered-clause-adds : goal.returns-in_err-write_numbered-clause-adds
returns-in_err-write_numbered-clause-adds g c =
    let p = err_from_is_err_and c.from_residual-in_err-write_numbered.result c.from_residual-in_err-write_numbered.ensures.1 in
    let law = c.texts_follow.ensures in
    let held = c.args.rings.now.held in
    let newest : c.newest-newest.result ≡ held.newest = c.newest-newest.ensures.newest in
    let text = snapshot_bytes c.args.profile.now in
    let here = texts_next text held c.loop-last.last c.next_number-last.result c.next_number-last.ensures.above c.next_number-last.ensures.least in
    let after = texts_after text held c.next_number-last.result held.newest c.next_number-last.ensures.most in
    let all = law.early after.0 (law.more {all = false} c.loop-last.invariant.0 c.in_err-write_numbered.ensures.adds here) after.1 in
    rw p.1 (law.more (rw newest at c.in_ok-write_long.ensures.adds) (law.more (rw c.count.ensures at c.in_ok-write_byte.ensures.adds) (row_ends all) refl) refl)

pub returns-clause-adds : goal.returns-clause-adds
returns-clause-adds g c =
    let law = c.texts_follow.ensures in
    let held = c.args.rings.now.held in
    let newest : c.newest-newest.result ≡ held.newest = c.newest-newest.ensures.newest in
    let last : c.loop-last.last ≡ held.newest = omega (arith, c.loop-last.invariant.2) in
    law.more (rw newest at c.in_ok-write_long.ensures.adds) (law.more (rw c.count.ensures at c.in_ok-write_byte.ensures.adds) (row_ends (rw last at c.loop-last.invariant.0)) refl) refl
