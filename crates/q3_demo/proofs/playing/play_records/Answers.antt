use Rattle.std.proofs.Common.{refl, arith}
use Rattle.std.proofs.lemmas.Grind.{common_steps}
use Rattle.std.proofs.lemmas.Result.{err_from_is_err_and}
use Rattle.q3_demo.proofs.Whole.{has_before, asks_same, asks_then}
use Rattle.q3_demo.proofs.Going.{begins, goes_on_by, ends_by, fails_by, ends_last, isnt_memory}
use Rattle.q3_demo.proofs.playing.play_records.Goals as goal

pub loop-init : goal.loop-init
loop-init g c = record {
  going = begins c.texts_follow.ensures (g.F.Files.told c.args.files.now) c.args.file c.args.player.now.played (g.O.Sink.written c.args.out.now) c.requires.first;
  given = refl;
  asks = asks_same (g.F.Files.told c.args.files.now);
  few = omega (arith, c.requires.none);
  reads = refl;
  others = refl;
  sink = refl;
}

pub returns-in_err-play_next-clause-plays : goal.returns-in_err-play_next-clause-plays
returns-in_err-play_next-clause-plays g c =
    let p = err_from_is_err_and c.from_residual.result c.from_residual.ensures.1 in
    let takes = c.in_err-play_next.ensures.takes in
    rw (p.1, p.2)
    (fails_by c.texts_follow.ensures (g.F.Files.told c.args.files.now) c.args.file c.loop.counter c.args.player.now.played c.loop.player.played c.play_next.new.player.played
    (g.O.Sink.written c.args.out.now) (g.O.Sink.written c.loop.out) (g.O.Sink.written c.play_next.new.out) takes.0 c.in_err-play_next.field-0.0 c.loop-test.true c.loop.invariant.going
    (has_before (g.F.Files.told c.args.files.now) (g.F.Files.told c.loop.files) c.args.file c.loop.player.played.at takes.0 c.loop.invariant.asks takes.1) takes.2)

pub returns-then-branch-clause-plays : goal.returns-then-branch-clause-plays
returns-then-branch-clause-plays g c =
    let takes = rw c.if-branch.true at c.in_ok-play_next.ensures.takes in
    ends_by c.texts_follow.ensures (g.F.Files.told c.args.files.now) c.args.file c.loop.counter c.args.player.now.played c.loop.player.played c.play_next.new.player.played
    (g.O.Sink.written c.args.out.now) (g.O.Sink.written c.loop.out) (g.O.Sink.written c.play_next.new.out) takes.0 c.loop-test.true c.loop.invariant.going
    (has_before (g.F.Files.told c.args.files.now) (g.F.Files.told c.loop.files) c.args.file c.loop.player.played.at takes.0 c.loop.invariant.asks takes.1) takes.2

pub loop-preserved : goal.loop-preserved
loop-preserved g c =
    let takes = rw c.if-branch.false at c.in_ok-play_next.ensures.takes in
    record {
      going = goes_on_by c.texts_follow.ensures (g.F.Files.told c.args.files.now) c.args.file c.loop.counter c.args.player.now.played c.loop.player.played c.play_next.new.player.played
          (g.O.Sink.written c.args.out.now) (g.O.Sink.written c.loop.out) (g.O.Sink.written c.play_next.new.out) takes.0 c.loop-test.true c.loop.invariant.going
          (has_before (g.F.Files.told c.args.files.now) (g.F.Files.told c.loop.files) c.args.file c.loop.player.played.at takes.0 c.loop.invariant.asks takes.1) takes.2;
      given = grind (arith, common_steps);
      asks = asks_then (g.F.Files.told c.args.files.now) (g.F.Files.told c.loop.files) (g.F.Files.told c.play_next.new.files) c.loop.invariant.asks c.in_ok-play_next.ensures.asks;
      few = omega (arith, c.in_ok-play_next.ensures.records);
      reads = grind (arith, common_steps);
      others = grind (arith, common_steps);
      sink = grind (arith, common_steps);
    }

pub returns-clause-plays : goal.returns-clause-plays
returns-clause-plays g c =
    let ends = c.end_here.ensures.ends in
    ends_last c.texts_follow.ensures (g.F.Files.told c.args.files.now) c.args.file c.loop.counter c.args.player.now.played c.loop.player.played
    (g.O.Sink.written c.args.out.now) (g.O.Sink.written c.loop.out) (g.O.Sink.written c.end_here.new.out) ends.0 c.end_here.result c.loop-test.false c.loop.invariant.going
    (has_before (g.F.Files.told c.args.files.now) (g.F.Files.told c.loop.files) c.args.file c.loop.player.played.at ends.0 c.loop.invariant.asks ends.1) (isnt_memory c.end_here.result c.end_here.ensures.memory) ends.2
