use Rattle.std.proofs.Common.{◌≡◌, refl, ap, ◌∙◌, arith}
use Rattle.std.proofs.lemmas.Grind.{common_steps}
use Rattle.std.proofs.lemmas.Result.{err_from_is_err_and}
use Rattle.q3_demo.specs.Player.{PlayerState}
use Rattle.q3_demo.specs.Playing.{Played, unplayed}
use Rattle.q3_index.proofs.Asking.{asks_same, asks_then}
use Rattle.q3_index.proofs.Counting.{as_first, as_more, as_ends, as_refused}
use Rattle.q3_index.proofs.build.count_records.Goals as goal

pub returns-in_err-player-clause-asks : goal.returns-in_err-player-clause-asks
returns-in_err-player-clause-asks g c = asks_same (g.F.Files.told c.args.files.now)

pub loop-player-init : goal.loop-player-init
loop-player-init g c =
    let first : c.in_ok-player.player.played ≡ unplayed c.args.profile.now = ap (λ (p : PlayerState). p.played) c.in_ok-player.ensures in
    record {
      counts = as_first (g.F.Files.told c.args.files.now) c.args.demo c.args.profile.now c.in_ok-player.player.played first;
      few = rw first (omega arith);
      given = refl;
      asks = asks_same (g.F.Files.told c.args.files.now);
      reads = refl;
      others = refl;
    }

pub returns-in_err-count_next-clause-counts : goal.returns-in_err-count_next-clause-counts
returns-in_err-count_next-clause-counts g c =
    let p = err_from_is_err_and c.from_residual-in_err-count_next.result c.from_residual-in_err-count_next.ensures.1 in
    rw (p.1, p.2)
    (as_refused (g.F.Files.told c.args.files.now) (g.F.Files.told c.loop-player.files) c.args.demo c.args.profile.now c.loop-player.player.played c.count_next.new.player.played
    c.in_err-count_next.field-0.0 c.loop-player.invariant.asks c.loop-player.invariant.counts c.in_err-count_next.ensures.counts)

pub loop-player-preserved : goal.loop-player-preserved
loop-player-preserved g c =
    let counts = rw c.if-branch.true at c.in_ok-count_next.ensures.counts in
    let more = rw c.if-branch.true at c.in_ok-count_next.ensures.more in
    let rises = more refl in
    let one = rises.0 in
    let few = rises.1 in
    record {
      counts = as_more (g.F.Files.told c.args.files.now) (g.F.Files.told c.loop-player.files) c.args.demo c.args.profile.now c.loop-player.player.played c.count_next.new.player.played
          c.loop-player.invariant.asks c.loop-player.invariant.counts counts;
      few = omega (arith, one, few);
      given = grind (arith, common_steps);
      asks = asks_then (g.F.Files.told c.args.files.now) (g.F.Files.told c.loop-player.files) (g.F.Files.told c.count_next.new.files) c.loop-player.invariant.asks c.in_ok-count_next.ensures.asks;
      reads = grind (arith, common_steps);
      others = grind (arith, common_steps);
    }

pub returns-clause-counts : goal.returns-clause-counts
returns-clause-counts g c =
    let counts = rw c.if-branch.false at c.in_ok-count_next.ensures.counts in
    let ends = rw c.if-branch.false at c.in_ok-count_next.ensures.end in
    let same = ends refl in
    as_ends (g.F.Files.told c.args.files.now) (g.F.Files.told c.loop-player.files) c.args.demo c.args.profile.now c.loop-player.player.played c.count_next.new.player.played c.records.result
    c.loop-player.invariant.asks c.loop-player.invariant.counts counts (c.records.ensures ∙ ap (λ (p : Played). p.records) same)
