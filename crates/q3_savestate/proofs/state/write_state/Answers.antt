use Rattle.std.proofs.Common.{◌≡◌, [], ◌∷◌, refl, rules}
use Rattle.std.specs.Prelude.{if◌then◌else◌}
use Rattle.std.specs.List.{concat}
use Rattle.std.proofs.lemmas.Result.{err_from_is_err_and}
use Rattle.q3_savestate.specs.Entities.{baselines_bytes}
use Rattle.q3_savestate.specs.Texts.{strings_bytes, pending_bytes}
use Rattle.q3_savestate.specs.Snapshots.{snapshots_bytes}
use Rattle.q3_savestate.specs.State.{flag_bytes}
use Rattle.q3_savestate.specs.Applied.{saved_in}
use Rattle.q3_savestate.proofs.WrittenRows.{row_ends}
use Rattle.q3_savestate.proofs.state.write_state.Goals as goal

pub returns-in_err-write_start-clause-adds : goal.returns-in_err-write_start-clause-adds
returns-in_err-write_start-clause-adds g c =
    let p = err_from_is_err_and c.from_residual.result c.from_residual.ensures.1 in
    let law = c.texts_follow.ensures in
    let saved = saved_in c.args.state.now in
    let profile = c.args.state.now.profile in
    rw p.1 (law.early (concat (pending_bytes saved.strings.pending ∷ flag_bytes saved.has_game ∷ strings_bytes saved.strings.texts ∷ baselines_bytes profile.entity saved.baselines ∷ snapshots_bytes profile saved.held ∷ [])) c.in_err-write_start.ensures.adds refl)

pub returns-in_err-write_pending-clause-adds : goal.returns-in_err-write_pending-clause-adds
returns-in_err-write_pending-clause-adds g c =
    let p = err_from_is_err_and c.from_residual-in_err-write_pending.result c.from_residual-in_err-write_pending.ensures.1 in
    let law = c.texts_follow.ensures in
    let saved = saved_in c.args.state.now in
    let profile = c.args.state.now.profile in
    rw p.1 (law.more c.in_ok-write_start.ensures.adds (law.early (concat (flag_bytes saved.has_game ∷ strings_bytes saved.strings.texts ∷ baselines_bytes profile.entity saved.baselines ∷ snapshots_bytes profile saved.held ∷ [])) (rw c.configs-configs.ensures at c.in_err-write_pending.ensures.adds) refl) refl)

pub returns-in_err-write_byte-clause-adds : goal.returns-in_err-write_byte-clause-adds
returns-in_err-write_byte-clause-adds g c =
    let p = err_from_is_err_and c.from_residual-in_err-write_byte.result c.from_residual-in_err-write_byte.ensures.1 in
    let law = c.texts_follow.ensures in
    let saved = saved_in c.args.state.now in
    let profile = c.args.state.now.profile in
    let flag : c.from.result ≡ (if saved.has_game then 1 else 0) = search rules in
    rw p.1 (law.more c.in_ok-write_start.ensures.adds (law.more (rw c.configs-configs.ensures at c.in_ok-write_pending.ensures.adds) (law.early (concat (strings_bytes saved.strings.texts ∷ baselines_bytes profile.entity saved.baselines ∷ snapshots_bytes profile saved.held ∷ [])) (rw flag at c.in_err-write_byte.ensures.adds) refl) refl) refl)

pub returns-in_err-write_strings-clause-adds : goal.returns-in_err-write_strings-clause-adds
returns-in_err-write_strings-clause-adds g c =
    let p = err_from_is_err_and c.from_residual-in_err-write_strings.result c.from_residual-in_err-write_strings.ensures.1 in
    let law = c.texts_follow.ensures in
    let saved = saved_in c.args.state.now in
    let profile = c.args.state.now.profile in
    let flag : c.from.result ≡ (if saved.has_game then 1 else 0) = search rules in
    rw p.1 (law.more c.in_ok-write_start.ensures.adds (law.more (rw c.configs-configs.ensures at c.in_ok-write_pending.ensures.adds) (law.more (rw flag at c.in_ok-write_byte.ensures.adds) (law.early (concat (baselines_bytes profile.entity saved.baselines ∷ snapshots_bytes profile saved.held ∷ [])) (rw c.configs-configs.ensures at c.in_err-write_strings.ensures.adds) refl) refl) refl) refl)

pub returns-in_err-write_baselines-clause-adds : goal.returns-in_err-write_baselines-clause-adds
returns-in_err-write_baselines-clause-adds g c =
    let p = err_from_is_err_and c.from_residual-in_err-write_baselines.result c.from_residual-in_err-write_baselines.ensures.1 in
    let law = c.texts_follow.ensures in
    let saved = saved_in c.args.state.now in
    let profile = c.args.state.now.profile in
    let flag : c.from.result ≡ (if saved.has_game then 1 else 0) = search rules in
    rw p.1 (law.more c.in_ok-write_start.ensures.adds (law.more (rw c.configs-configs.ensures at c.in_ok-write_pending.ensures.adds) (law.more (rw flag at c.in_ok-write_byte.ensures.adds) (law.more (rw c.configs-configs.ensures at c.in_ok-write_strings.ensures.adds) (law.early (concat (snapshots_bytes profile saved.held ∷ [])) (rw (c.profile-profile.ensures.profile, c.baselines.ensures) at c.in_err-write_baselines.ensures.adds) refl) refl) refl) refl) refl)

pub returns-clause-adds : goal.returns-clause-adds
returns-clause-adds g c =
    let law = c.texts_follow.ensures in
    let saved = saved_in c.args.state.now in
    let profile = c.args.state.now.profile in
    let flag : c.from.result ≡ (if saved.has_game then 1 else 0) = search rules in
    law.more c.in_ok-write_start.ensures.adds (law.more (rw c.configs-configs.ensures at c.in_ok-write_pending.ensures.adds) (law.more (rw flag at c.in_ok-write_byte.ensures.adds) (law.more (rw c.configs-configs.ensures at c.in_ok-write_strings.ensures.adds) (law.more (rw (c.profile-profile.ensures.profile, c.baselines.ensures) at c.in_ok-write_baselines.ensures.adds) (row_ends (rw (c.profile-profile.ensures.profile, c.rings.ensures) at c.write_snapshots.ensures.adds)) refl) refl) refl) refl) refl
