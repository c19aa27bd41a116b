use Rattle.std.proofs.Common.{◌≡◌, ◌%◌, true, refl, arith}
use Rattle.std.proofs.lemmas.Result.{err_from_is_err_and}
use Rattle.q3_index.specs.Text.{spacing}
use Rattle.q3_index.proofs.Writing.{has_ages, writes_wrong, writes_point, breaks_point, writes_none}
use Rattle.q3_index.proofs.build.write_next.Goals as goal

pub returns-in_err-play_next-clause-writes : goal.returns-in_err-play_next-clause-writes
returns-in_err-play_next-clause-writes g c =
    let p = err_from_is_err_and c.from_residual.result c.from_residual.ensures.1 in
    rw (p.1, p.2)
    (writes_wrong (g.F.Files.told c.args.files.now) (g.F.Files.told c.play_next.new.files) c.args.demo c.args.index c.args.player.now.played.state.profile c.args.player.now.played
    c.play_next.new.player.played c.in_err-play_next.field-0.0 c.in_err-play_next.ensures.asks c.in_err-play_next.ensures.plays)

pub write_checkpoint-requires-clause-ages : goal.write_checkpoint-requires-clause-ages
write_checkpoint-requires-clause-ages g c =
    let yes : c.in_ok-play_next.field-0 ≡ true = c.if-not-branch.false in
    let more = rw yes at c.in_ok-play_next.ensures.more in
    let rises = more refl in
    let one = rises.0 in
    has_ages c.play_next.new.player.played (omega (arith, one)) rises.1

pub returns-in_err-write_checkpoint-clause-writes : goal.returns-in_err-write_checkpoint-clause-writes
returns-in_err-write_checkpoint-clause-writes g c =
    let p = err_from_is_err_and c.from_residual-in_err-write_checkpoint.result c.from_residual-in_err-write_checkpoint.ensures.1 in
    let yes : c.in_ok-play_next.field-0 ≡ true = c.if-not-branch.false in
    let more = rw yes at c.in_ok-play_next.ensures.more in
    let plays = rw yes at c.in_ok-play_next.ensures.plays in
    let here : c.play_next.new.player.played.records % spacing ≡ 0 = omega (arith, c.records.ensures, c.if-records-eq0.true) in
    rw (p.1, p.2)
    (breaks_point (g.F.Files.told c.args.files.now) (g.F.Files.told c.play_next.new.files) (g.F.Files.told c.write_checkpoint.new.files) c.args.demo c.args.index
    c.args.player.now.played.state.profile c.args.player.now.played c.play_next.new.player.played c.in_err-write_checkpoint.field-0.0 c.in_ok-play_next.ensures.asks plays (more refl).2 here
    c.in_err-write_checkpoint.ensures.writes)

pub returns-in_ok-write_checkpoint-clause-writes : goal.returns-in_ok-write_checkpoint-clause-writes
returns-in_ok-write_checkpoint-clause-writes g c =
    let yes : c.in_ok-play_next.field-0 ≡ true = c.if-not-branch.false in
    let more = rw yes at c.in_ok-play_next.ensures.more in
    let plays = rw yes at c.in_ok-play_next.ensures.plays in
    let here : c.play_next.new.player.played.records % spacing ≡ 0 = omega (arith, c.records.ensures, c.if-records-eq0.true) in
    writes_point (g.F.Files.told c.args.files.now) (g.F.Files.told c.play_next.new.files) (g.F.Files.told c.write_checkpoint.new.files) c.args.demo c.args.index
    c.args.player.now.played.state.profile c.args.player.now.played c.play_next.new.player.played c.in_ok-play_next.ensures.asks plays (more refl).2 here
    c.in_ok-write_checkpoint.ensures.writes

pub returns-else-records-eq0-clause-writes : goal.returns-else-records-eq0-clause-writes
returns-else-records-eq0-clause-writes g c =
    let yes : c.in_ok-play_next.field-0 ≡ true = c.if-not-branch.false in
    let plays = rw yes at c.in_ok-play_next.ensures.plays in
    writes_none (g.F.Files.told c.args.files.now) (g.F.Files.told c.play_next.new.files) c.args.demo c.args.index c.args.player.now.played.state.profile c.args.player.now.played
    c.play_next.new.player.played c.in_ok-play_next.ensures.asks plays (λ here. omega (arith, here, c.records.ensures, c.if-records-eq0.false))
