use Rattle.std.proofs.Common.{◌-◌, refl, sym, arith}
use Rattle.std.proofs.lemmas.Grind.{common_steps}
use Rattle.std.proofs.lemmas.Result.{err_from_is_err_and}
use Rattle.q3_index.proofs.Asking.{asks_same, asks_then, only_same, only_then}
use Rattle.q3_index.proofs.Seeking.{goes_first, goes_more, goes_wrong, goes_all}
use Rattle.q3_index.proofs.Costing.{costs_first, costs_more, costs_wrong, costs_all}
use Rattle.q3_index.proofs.index.go_on.Goals as goal

pub loop-init : goal.loop-init
loop-init g c = record {
  records = sym c.records-counter.ensures;
  goes = rw c.records-counter.ensures (goes_first (g.F.Files.told c.args.files.now) c.args.demo (c.args.number - c.args.player.now.played.records) c.args.player.now.played);
  given = refl;
  asks = asks_same (g.F.Files.told c.args.files.now);
  only = only_same c.args.demo (g.F.Files.told c.args.files.now);
  cost = costs_first g.F.Files.reads_whole (g.F.Files.told c.args.files.now) c.args.demo (c.args.number - c.args.player.now.played.records) c.args.player.now.played;
  reads = refl;
  others = refl;
}

pub returns-in_err-play_next-clause-goes : goal.returns-in_err-play_next-clause-goes
returns-in_err-play_next-clause-goes g c =
    let p = err_from_is_err_and c.from_residual.result c.from_residual.ensures.1 in
    rw (p.1, p.2)
    (goes_wrong (g.F.Files.told c.args.files.now) (g.F.Files.told c.loop.files) c.args.demo (c.args.number - c.args.player.now.played.records) c.args.player.now.played c.args.number c.loop.counter
    c.loop.player.played c.play_next.new.player.played c.play_next.new.player.played c.in_err-play_next.field-0.0 c.loop.invariant.asks c.loop-test.true c.loop.invariant.goes
    c.in_err-play_next.ensures.plays)

pub returns-in_err-play_next-clause-cost : goal.returns-in_err-play_next-clause-cost
returns-in_err-play_next-clause-cost g c =
    costs_wrong g.F.Files.reads_whole (g.F.Files.told c.args.files.now) (g.F.Files.told c.loop.files) (g.F.Files.told c.play_next.new.files) c.args.demo (c.args.number - c.args.player.now.played.records)
    c.args.player.now.played c.args.number c.loop.counter c.loop.player.played c.loop.invariant.asks c.loop-test.true c.loop.invariant.goes c.in_err-play_next.ensures.cost c.loop.invariant.cost

pub loop-preserved : goal.loop-preserved
loop-preserved g c = record {
  records = omega (arith, c.in_ok-play_next.ensures.records, c.loop.invariant.records);
  goes = goes_more (g.F.Files.told c.args.files.now) (g.F.Files.told c.loop.files) c.args.demo (c.args.number - c.args.player.now.played.records) c.args.player.now.played c.args.number c.loop.counter
      c.loop.player.played c.play_next.new.player.played c.loop.invariant.asks c.loop-test.true c.loop.invariant.goes c.in_ok-play_next.ensures.plays;
  given = grind (arith, common_steps);
  asks = asks_then (g.F.Files.told c.args.files.now) (g.F.Files.told c.loop.files) (g.F.Files.told c.play_next.new.files) c.loop.invariant.asks c.in_ok-play_next.ensures.asks;
  only = only_then c.args.demo (g.F.Files.told c.args.files.now) (g.F.Files.told c.loop.files) (g.F.Files.told c.play_next.new.files) c.loop.invariant.only c.in_ok-play_next.ensures.only;
  cost = costs_more g.F.Files.reads_whole (g.F.Files.told c.args.files.now) (g.F.Files.told c.loop.files) (g.F.Files.told c.play_next.new.files) c.args.demo (c.args.number - c.args.player.now.played.records)
      c.args.player.now.played c.args.number c.loop.counter c.loop.player.played c.play_next.new.player.played c.loop.invariant.asks c.loop-test.true c.loop.invariant.goes c.in_ok-play_next.ensures.plays
      c.in_ok-play_next.ensures.cost c.loop.invariant.cost;
  reads = grind (arith, common_steps);
  others = grind (arith, common_steps);
}

pub returns-clause-goes : goal.returns-clause-goes
returns-clause-goes g c =
    goes_all (g.F.Files.told c.args.files.now) c.args.demo (c.args.number - c.args.player.now.played.records) c.args.player.now.played (c.args.number - c.loop.counter) c.loop.player.played (omega arith)
    c.loop.invariant.goes

pub returns-clause-cost : goal.returns-clause-cost
returns-clause-cost g c =
    costs_all g.F.Files.reads_whole (g.F.Files.told c.args.files.now) (g.F.Files.told c.loop.files) c.args.demo (c.args.number - c.args.player.now.played.records) c.args.player.now.played
    (c.args.number - c.loop.counter) c.loop.player.played (omega arith) c.loop.invariant.goes c.loop.invariant.cost

pub returns-in_err-play_next-clause-only : goal.returns-in_err-play_next-clause-only
returns-in_err-play_next-clause-only g c =
    only_then c.args.demo (g.F.Files.told c.args.files.now) (g.F.Files.told c.loop.files) (g.F.Files.told c.play_next.new.files) c.loop.invariant.only c.in_err-play_next.ensures.only

pub returns-clause-only : goal.returns-clause-only
returns-clause-only g c = c.loop.invariant.only
