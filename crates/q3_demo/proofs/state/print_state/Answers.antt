use Rattle.std.proofs.Common.{◌≡◌, ◌++◌, refl}
use Rattle.std.specs.List.{flat_map}
use Rattle.std.proofs.lemmas.Result.{err_from_is_err_and}
use Rattle.q3_rings.specs.ByNumber.{held_under}
use Rattle.q3_demo.specs.Report.{count_text, map_text, pending_text, configs_text, baseline_text, held_texts, newest_text}
use Rattle.q3_demo.proofs.Printed.{state_in_parts}
use Rattle.q3_demo.proofs.state.print_state.Goals as goal

pub returns-in_err-print_count-clause-adds : goal.returns-in_err-print_count-clause-adds
returns-in_err-print_count-clause-adds g c =
    let p = err_from_is_err_and c.from_residual.result c.from_residual.ensures.1 in
    let law = c.texts_follow.ensures in
    let state = c.args.state.now in
    rw p.1 (law.early (map_text state ++ (pending_text state.strings.pending ++ (configs_text 0 state.strings.texts ++ (flat_map baseline_text state.baselines ++ (held_texts state.held state.held.newest ++ (newest_text (held_under state.held state.held.newest))))))) c.in_err-print_count.ensures.adds (state_in_parts (count_text c.args.records) (map_text state) (pending_text state.strings.pending) (configs_text 0 state.strings.texts) (flat_map baseline_text state.baselines) (held_texts state.held state.held.newest) (newest_text (held_under state.held state.held.newest))))

pub returns-in_err-print_map-clause-adds : goal.returns-in_err-print_map-clause-adds
returns-in_err-print_map-clause-adds g c =
    let p = err_from_is_err_and c.from_residual-in_err-print_map.result c.from_residual-in_err-print_map.ensures.1 in
    let law = c.texts_follow.ensures in
    let state = c.args.state.now in
    rw p.1 (law.more c.in_ok-print_count.ensures.adds (law.early (pending_text state.strings.pending ++ (configs_text 0 state.strings.texts ++ (flat_map baseline_text state.baselines ++ (held_texts state.held state.held.newest ++ (newest_text (held_under state.held state.held.newest)))))) c.in_err-print_map.ensures.adds refl)
    (state_in_parts (count_text c.args.records) (map_text state) (pending_text state.strings.pending) (configs_text 0 state.strings.texts) (flat_map baseline_text state.baselines) (held_texts state.held state.held.newest) (newest_text (held_under state.held state.held.newest))))

pub returns-in_err-print_pending-clause-adds : goal.returns-in_err-print_pending-clause-adds
returns-in_err-print_pending-clause-adds g c =
    let p = err_from_is_err_and c.from_residual-in_err-print_pending.result c.from_residual-in_err-print_pending.ensures.1 in
    let law = c.texts_follow.ensures in
    let state = c.args.state.now in
    rw p.1 (law.more c.in_ok-print_count.ensures.adds (law.more c.in_ok-print_map.ensures.adds (law.early (configs_text 0 state.strings.texts ++ (flat_map baseline_text state.baselines ++ (held_texts state.held state.held.newest ++ (newest_text (held_under state.held state.held.newest))))) c.in_err-print_pending.ensures.adds refl) refl)
    (state_in_parts (count_text c.args.records) (map_text state) (pending_text state.strings.pending) (configs_text 0 state.strings.texts) (flat_map baseline_text state.baselines) (held_texts state.held state.held.newest) (newest_text (held_under state.held state.held.newest))))

pub returns-in_err-print_configs-clause-adds : goal.returns-in_err-print_configs-clause-adds
returns-in_err-print_configs-clause-adds g c =
    let p = err_from_is_err_and c.from_residual-in_err-print_configs.result c.from_residual-in_err-print_configs.ensures.1 in
    let law = c.texts_follow.ensures in
    let state = c.args.state.now in
    rw p.1 (law.more c.in_ok-print_count.ensures.adds (law.more c.in_ok-print_map.ensures.adds (law.more c.in_ok-print_pending.ensures.adds (law.early (flat_map baseline_text state.baselines ++ (held_texts state.held state.held.newest ++ (newest_text (held_under state.held state.held.newest)))) c.in_err-print_configs.ensures.adds refl) refl) refl)
    (state_in_parts (count_text c.args.records) (map_text state) (pending_text state.strings.pending) (configs_text 0 state.strings.texts) (flat_map baseline_text state.baselines) (held_texts state.held state.held.newest) (newest_text (held_under state.held state.held.newest))))

pub returns-in_err-print_baselines-clause-adds : goal.returns-in_err-print_baselines-clause-adds
returns-in_err-print_baselines-clause-adds g c =
    let p = err_from_is_err_and c.from_residual-in_err-print_baselines.result c.from_residual-in_err-print_baselines.ensures.1 in
    let law = c.texts_follow.ensures in
    let state = c.args.state.now in
    rw p.1 (law.more c.in_ok-print_count.ensures.adds (law.more c.in_ok-print_map.ensures.adds (law.more c.in_ok-print_pending.ensures.adds (law.more c.in_ok-print_configs.ensures.adds (law.early (held_texts state.held state.held.newest ++ (newest_text (held_under state.held state.held.newest))) c.in_err-print_baselines.ensures.adds refl) refl) refl) refl)
    (state_in_parts (count_text c.args.records) (map_text state) (pending_text state.strings.pending) (configs_text 0 state.strings.texts) (flat_map baseline_text state.baselines) (held_texts state.held state.held.newest) (newest_text (held_under state.held state.held.newest))))

pub returns-in_err-print_held-clause-adds : goal.returns-in_err-print_held-clause-adds
returns-in_err-print_held-clause-adds g c =
    let p = err_from_is_err_and c.from_residual-in_err-print_held.result c.from_residual-in_err-print_held.ensures.1 in
    let law = c.texts_follow.ensures in
    let state = c.args.state.now in
    let newest : c.newest-newest.result ≡ state.held.newest = c.newest-newest.ensures.newest in
    rw p.1 (law.more c.in_ok-print_count.ensures.adds (law.more c.in_ok-print_map.ensures.adds (law.more c.in_ok-print_pending.ensures.adds (law.more c.in_ok-print_configs.ensures.adds (law.more c.in_ok-print_baselines.ensures.adds (law.early (newest_text (held_under state.held state.held.newest)) (rw newest at c.in_err-print_held.ensures.adds) refl) refl) refl) refl) refl)
    (state_in_parts (count_text c.args.records) (map_text state) (pending_text state.strings.pending) (configs_text 0 state.strings.texts) (flat_map baseline_text state.baselines) (held_texts state.held state.held.newest) (newest_text (held_under state.held state.held.newest))))

pub returns-clause-adds : goal.returns-clause-adds
returns-clause-adds g c =
    let law = c.texts_follow.ensures in
    let state = c.args.state.now in
    let newest : c.newest-newest.result ≡ state.held.newest = c.newest-newest.ensures.newest in
    law.more c.in_ok-print_count.ensures.adds (law.more c.in_ok-print_map.ensures.adds (law.more c.in_ok-print_pending.ensures.adds (law.more c.in_ok-print_configs.ensures.adds (law.more c.in_ok-print_baselines.ensures.adds (law.more (rw newest at c.in_ok-print_held.ensures.adds) (rw newest at c.print_newest.ensures.adds) refl) refl) refl) refl) refl)
    (state_in_parts (count_text c.args.records) (map_text state) (pending_text state.strings.pending) (configs_text 0 state.strings.texts) (flat_map baseline_text state.baselines) (held_texts state.held state.held.newest) (newest_text (held_under state.held state.held.newest)))
