use Rattle.std.proofs.Common.{refl}
use Rattle.std.proofs.lemmas.Result.{err_from_is_err_and}
use Rattle.q3_demo.proofs.Whole.{has_some, asks_same}
use Rattle.q3_demo.proofs.playing.play.Goals as goal

pub returns-in_err-player-clause-plays : goal.returns-in_err-player-clause-plays
returns-in_err-player-clause-plays g c =
    let p = err_from_is_err_and c.from_residual.result c.from_residual.ensures.1 in
    let some = has_some (g.F.Files.told c.args.files.now) c.args.file 0 in
    rw (p.1, p.2) (some.0, some.1, refl)

pub returns-in_err-player-clause-asks : goal.returns-in_err-player-clause-asks
returns-in_err-player-clause-asks g c = asks_same (g.F.Files.told c.args.files.now)

pub returns-clause-plays : goal.returns-clause-plays
returns-clause-plays g c = rw c.in_ok-player.ensures at c.play_records.ensures.plays
