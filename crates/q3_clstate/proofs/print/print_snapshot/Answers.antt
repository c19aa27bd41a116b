use Rattle.std.proofs.Common.{◌++◌, codes, refl}
use Rattle.std.specs.List.{flat_map}
use Rattle.std.proofs.lemmas.Result.{err_from_is_err_and}
use Rattle.q3_player.specs.Report.{player_text}
use Rattle.q3_clstate.specs.Report.{entity_text}
use Rattle.q3_rings.specs.Loans.{snapshot_of}
use Rattle.q3_clstate.proofs.Printing.{snapshot_in_parts}
use Rattle.q3_clstate.proofs.print.print_snapshot.Goals as goal

pub returns-in_err-print_head-clause-adds : goal.returns-in_err-print_head-clause-adds
returns-in_err-print_head-clause-adds g c =
    let p = err_from_is_err_and c.from_residual.result c.from_residual.ensures.1 in
    let snapshot = snapshot_of c.args.snapshot in
    rw p.1 (c.texts_follow.ensures.early (player_text snapshot.head.player ++ (codes "\n" ++ flat_map entity_text snapshot.entities)) c.in_err-print_head.ensures.adds
    (snapshot_in_parts snapshot))

pub returns-in_err-print_words-clause-adds : goal.returns-in_err-print_words-clause-adds
returns-in_err-print_words-clause-adds g c =
    let p = err_from_is_err_and c.from_residual-in_err-print_words.result c.from_residual-in_err-print_words.ensures.1 in
    let snapshot = snapshot_of c.args.snapshot in
    let law = c.texts_follow.ensures in
    rw p.1 (law.more c.in_ok-print_head.ensures.adds (law.early (codes "\n" ++ flat_map entity_text snapshot.entities) c.in_err-print_words.ensures.adds refl)
    (snapshot_in_parts snapshot))

pub returns-in_err-write_all-clause-adds : goal.returns-in_err-write_all-clause-adds
returns-in_err-write_all-clause-adds g c =
    let p = err_from_is_err_and c.from_residual-in_err-write_all.result c.from_residual-in_err-write_all.ensures.1 in
    let snapshot = snapshot_of c.args.snapshot in
    let law = c.texts_follow.ensures in
    rw p.1 (law.more c.in_ok-print_head.ensures.adds (law.more c.in_ok-print_words.ensures.adds (law.early (flat_map entity_text snapshot.entities) c.in_err-write_all.ensures.adds refl) refl)
    (snapshot_in_parts snapshot))

pub returns-clause-adds : goal.returns-clause-adds
returns-clause-adds g c =
    let snapshot = snapshot_of c.args.snapshot in
    let law = c.texts_follow.ensures in
    law.more c.in_ok-print_head.ensures.adds (law.more c.in_ok-print_words.ensures.adds (law.more c.in_ok-write_all.ensures.adds c.print_run.ensures.adds refl) refl)
    (snapshot_in_parts snapshot)
