use Rattle.std.proofs.Common.{◌≡◌, [], ◌∷◌, length, refl, rules}
use Rattle.std.specs.List.{concat}
use Rattle.std.proofs.lemmas.Result.{err_from_is_err_and}
use Rattle.byteorder.specs.Endian.{little_bytes}
use Rattle.q3_savestate.specs.Applied.{saved_in}
use Rattle.q3_savestate.proofs.WrittenRows.{row_ends}
use Rattle.q3_savestate.proofs.state.write_start.Goals as goal

pub returns-in_err-write_long-clause-adds : goal.returns-in_err-write_long-clause-adds
returns-in_err-write_long-clause-adds g c =
    let p = err_from_is_err_and c.from_residual.result c.from_residual.ensures.1 in
    let law = c.texts_follow.ensures in
    let saved = saved_in c.args.state.now in
    let last : c.bytes-last.result.now ≡ saved.executed.last = search rules in
    rw p.1 (law.early (concat (little_bytes 4 saved.id ∷ little_bytes 4 saved.slot ∷ little_bytes 4 saved.feed ∷ little_bytes 4 saved.executed.executed ∷ little_bytes 2 (length saved.executed.last) ∷ saved.executed.last ∷ [])) (rw c.number.ensures at c.in_err-write_long.ensures.adds) refl)

pub returns-in_err-write_long-2-clause-adds : goal.returns-in_err-write_long-2-clause-adds
returns-in_err-write_long-2-clause-adds g c =
    let p = err_from_is_err_and c.from_residual-in_err-write_long-2.result c.from_residual-in_err-write_long-2.ensures.1 in
    let law = c.texts_follow.ensures in
    let saved = saved_in c.args.state.now in
    let last : c.bytes-last.result.now ≡ saved.executed.last = search rules in
    rw p.1 (law.more (rw c.number.ensures at c.in_ok-write_long.ensures.adds) (law.early (concat (little_bytes 4 saved.slot ∷ little_bytes 4 saved.feed ∷ little_bytes 4 saved.executed.executed ∷ little_bytes 2 (length saved.executed.last) ∷ saved.executed.last ∷ [])) (rw c.id.ensures at c.in_err-write_long-2.ensures.adds) refl) refl)

pub returns-in_err-write_long-3-clause-adds : goal.returns-in_err-write_long-3-clause-adds
returns-in_err-write_long-3-clause-adds g c =
    let p = err_from_is_err_and c.from_residual-in_err-write_long-3.result c.from_residual-in_err-write_long-3.ensures.1 in
    let law = c.texts_follow.ensures in
    let saved = saved_in c.args.state.now in
    let last : c.bytes-last.result.now ≡ saved.executed.last = search rules in
    rw p.1 (law.more (rw c.number.ensures at c.in_ok-write_long.ensures.adds) (law.more (rw c.id.ensures at c.in_ok-write_long-2.ensures.adds) (law.early (concat (little_bytes 4 saved.feed ∷ little_bytes 4 saved.executed.executed ∷ little_bytes 2 (length saved.executed.last) ∷ saved.executed.last ∷ [])) (rw c.slot.ensures at c.in_err-write_long-3.ensures.adds) refl) refl) refl)

pub returns-in_err-write_long-4-clause-adds : goal.returns-in_err-write_long-4-clause-adds
returns-in_err-write_long-4-clause-adds g c =
    let p = err_from_is_err_and c.from_residual-in_err-write_long-4.result c.from_residual-in_err-write_long-4.ensures.1 in
    let law = c.texts_follow.ensures in
    let saved = saved_in c.args.state.now in
    let last : c.bytes-last.result.now ≡ saved.executed.last = search rules in
    rw p.1 (law.more (rw c.number.ensures at c.in_ok-write_long.ensures.adds) (law.more (rw c.id.ensures at c.in_ok-write_long-2.ensures.adds) (law.more (rw c.slot.ensures at c.in_ok-write_long-3.ensures.adds) (law.early (concat (little_bytes 4 saved.executed.executed ∷ little_bytes 2 (length saved.executed.last) ∷ saved.executed.last ∷ [])) (rw c.feed.ensures at c.in_err-write_long-4.ensures.adds) refl) refl) refl) refl)

pub returns-in_err-write_long-5-clause-adds : goal.returns-in_err-write_long-5-clause-adds
returns-in_err-write_long-5-clause-adds g c =
    let p = err_from_is_err_and c.from_residual-in_err-write_long-5.result c.from_residual-in_err-write_long-5.ensures.1 in
    let law = c.texts_follow.ensures in
    let saved = saved_in c.args.state.now in
    let last : c.bytes-last.result.now ≡ saved.executed.last = search rules in
    rw p.1 (law.more (rw c.number.ensures at c.in_ok-write_long.ensures.adds) (law.more (rw c.id.ensures at c.in_ok-write_long-2.ensures.adds) (law.more (rw c.slot.ensures at c.in_ok-write_long-3.ensures.adds) (law.more (rw c.feed.ensures at c.in_ok-write_long-4.ensures.adds) (law.early (concat (little_bytes 2 (length saved.executed.last) ∷ saved.executed.last ∷ [])) (rw (c.executed.ensures, c.incoming-incoming.ensures) at c.in_err-write_long-5.ensures.adds) refl) refl) refl) refl) refl)

pub returns-in_err-write_short-clause-adds : goal.returns-in_err-write_short-clause-adds
returns-in_err-write_short-clause-adds g c =
    let p = err_from_is_err_and c.from_residual-in_err-write_short.result c.from_residual-in_err-write_short.ensures.1 in
    let law = c.texts_follow.ensures in
    let saved = saved_in c.args.state.now in
    let last : c.bytes-last.result.now ≡ saved.executed.last = search rules in
    rw p.1 (law.more (rw c.number.ensures at c.in_ok-write_long.ensures.adds) (law.more (rw c.id.ensures at c.in_ok-write_long-2.ensures.adds) (law.more (rw c.slot.ensures at c.in_ok-write_long-3.ensures.adds) (law.more (rw c.feed.ensures at c.in_ok-write_long-4.ensures.adds) (law.more (rw (c.executed.ensures, c.incoming-incoming.ensures) at c.in_ok-write_long-5.ensures.adds) (law.early (concat (saved.executed.last ∷ [])) (rw last at c.in_err-write_short.ensures.adds) refl) refl) refl) refl) refl) refl)

pub returns-clause-adds : goal.returns-clause-adds
returns-clause-adds g c =
    let law = c.texts_follow.ensures in
    let saved = saved_in c.args.state.now in
    let last : c.bytes-last.result.now ≡ saved.executed.last = search rules in
    law.more (rw c.number.ensures at c.in_ok-write_long.ensures.adds) (law.more (rw c.id.ensures at c.in_ok-write_long-2.ensures.adds) (law.more (rw c.slot.ensures at c.in_ok-write_long-3.ensures.adds) (law.more (rw c.feed.ensures at c.in_ok-write_long-4.ensures.adds) (law.more (rw (c.executed.ensures, c.incoming-incoming.ensures) at c.in_ok-write_long-5.ensures.adds) (law.more (rw last at c.in_ok-write_short.ensures.adds) (row_ends ((rw last at c.write_all.ensures.adds))) refl) refl) refl) refl) refl) refl
