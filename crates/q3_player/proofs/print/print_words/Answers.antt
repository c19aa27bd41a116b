use Rattle.std.proofs.Common.{refl}
use Rattle.std.proofs.lemmas.List.{append-nil}
use Rattle.std.proofs.lemmas.Result.{err_from_is_err_and}
use Rattle.q3_player.specs.Report.{player_text}
use Rattle.q3_player.proofs.print.print_words.Goals as goal

pub returns-in_err-print_indexed-2-clause-adds : goal.returns-in_err-print_indexed-2-clause-adds
unfolding player_text
returns-in_err-print_indexed-2-clause-adds g c =
    let p = err_from_is_err_and c.from_residual-in_err-print_indexed-2.result c.from_residual-in_err-print_indexed-2.ensures.1 in
    let law = c.texts_follow.ensures in
    rw p.1 (law.more c.in_ok-print_indexed.ensures.adds (law.early _ (rw c.patterns.ensures at c.in_err-print_indexed-2.ensures.adds) refl) refl)

pub returns-in_err-print_indexed-3-clause-adds : goal.returns-in_err-print_indexed-3-clause-adds
unfolding player_text
returns-in_err-print_indexed-3-clause-adds g c =
    let p = err_from_is_err_and c.from_residual-in_err-print_indexed-3.result c.from_residual-in_err-print_indexed-3.ensures.1 in
    let law = c.texts_follow.ensures in
    let stats = rw c.patterns.ensures at c.in_ok-print_indexed-2.ensures.adds in
    rw p.1 (law.more c.in_ok-print_indexed.ensures.adds (law.more stats
    (law.early _ (rw c.patterns-2.ensures at c.in_err-print_indexed-3.ensures.adds) refl) refl) refl)

pub returns-in_err-print_indexed-4-clause-adds : goal.returns-in_err-print_indexed-4-clause-adds
unfolding player_text
returns-in_err-print_indexed-4-clause-adds g c =
    let p = err_from_is_err_and c.from_residual-in_err-print_indexed-4.result c.from_residual-in_err-print_indexed-4.ensures.1 in
    let law = c.texts_follow.ensures in
    let stats = rw c.patterns.ensures at c.in_ok-print_indexed-2.ensures.adds in
    let persistant = rw c.patterns-2.ensures at c.in_ok-print_indexed-3.ensures.adds in
    rw p.1 (law.more c.in_ok-print_indexed.ensures.adds (law.more stats (law.more persistant
    (law.early _ (rw c.patterns-3.ensures at c.in_err-print_indexed-4.ensures.adds) refl) refl) refl) refl)

pub returns-clause-adds : goal.returns-clause-adds
unfolding player_text
returns-clause-adds g c =
    let law = c.texts_follow.ensures in
    let stats = rw c.patterns.ensures at c.in_ok-print_indexed-2.ensures.adds in
    let persistant = rw c.patterns-2.ensures at c.in_ok-print_indexed-3.ensures.adds in
    let ammo = rw c.patterns-3.ensures at c.in_ok-print_indexed-4.ensures.adds in
    law.more c.in_ok-print_indexed.ensures.adds (law.more stats (law.more persistant (law.more ammo c.print_indexed-5.ensures.adds refl) refl) refl) (rw append-nil refl)
