use Rattle.std.proofs.Common.{◌≡◌, ◌*◌, ◌<◌, List, ℕ, length, Bool, true, false, refl, sym, ap, subst, ◌∙◌, arith}
use Rattle.std.proofs.lemmas.Grind.{common_steps}
use Rattle.std.proofs.lemmas.Result.{err_from_is_err_and}
use Rattle.q3_io.specs.Told.{contents_at}
use Rattle.q3_demo.specs.declared.error.DemoError.TheVariants.{NoMemory}
use Rattle.q3_demo.specs.Player.{PlayerState}
use Rattle.q3_demo.specs.Playing.{Played, unplayed, most_records, records_of}
use Rattle.q3_index.specs.Text.{spacing}
use Rattle.q3_index.specs.Steps.{IsAged, checkpoints_bytes}
use Rattle.q3_index.proofs.Causes.{cause_so, writes_so}
use Rattle.q3_index.proofs.Putting.{put_none, put_ends}
use Rattle.q3_index.proofs.Writing.{first_aged, writing_first, writing_more, writing_stops, never_ends, writing_all}
use Rattle.q3_index.proofs.build.write_checkpoints.Goals as goal

pub returns-in_err-player-clause-writes : goal.returns-in_err-player-clause-writes
returns-in_err-player-clause-writes g c =
    let p = err_from_is_err_and c.from_residual.result c.from_residual.ensures.1 in
    rw (p.1, p.2)
    (λ told is has apart count.
    let all : List ℕ = checkpoints_bytes c.args.profile.now (records_of c.args.profile.now (contents_at told c.args.demo)) in
    put_ends told (g.F.Files.told c.args.files.now) c.args.index all all NoMemory (put_none told (g.F.Files.told c.args.files.now) c.args.index all is has) tt)

pub loop-init : goal.loop-init
loop-init g c =
    let first : c.in_ok-player.player.played ≡ unplayed c.args.profile.now = ap (λ (p : PlayerState). p.played) c.in_ok-player.ensures in
    record {
      writes = λ told is has apart. writing_first told (g.F.Files.told c.args.files.now) c.args.demo c.args.index c.args.profile.now c.in_ok-player.player.played first is has;
      untold = λ none. none;
      records = ap (λ (p : Played). p.records) first;
      aged = subst (λ (p : Played). IsAged p) (sym first) (first_aged c.within_stays.ensures c.args.profile.now);
      by = ap (λ (p : Played). p.state.profile) first;
      given = refl;
      reads = refl;
      fails = refl;
    }

pub returns-in_err-write_next-clause-writes : goal.returns-in_err-write_next-clause-writes
returns-in_err-write_next-clause-writes g c =
    let p = err_from_is_err_and c.from_residual-in_err-write_next.result c.from_residual-in_err-write_next.ensures.1 in
    rw (p.1, p.2)
    (λ told is has apart count.
    let few : c.loop.player.played.records < most_records = omega (arith, c.loop.invariant.records) in
    let more : c.loop.player.played.records < length (records_of c.args.profile.now (contents_at told c.args.demo)) = omega (arith, c.loop.invariant.records, count) in
    writing_stops told (g.F.Files.told c.loop.files) (g.F.Files.told c.write_next.new.files) c.args.demo c.args.index c.args.profile.now c.loop.player.played c.write_next.new.player.played
    c.in_err-write_next.field-0.0 (c.loop.invariant.writes told is has apart) few more apart c.loop.invariant.by c.in_err-write_next.ensures.writes)

pub returns-in_err-write_next-clause-cause : goal.returns-in_err-write_next-clause-cause
returns-in_err-write_next-clause-cause g c =
    let p = err_from_is_err_and c.from_residual-in_err-write_next.result c.from_residual-in_err-write_next.ensures.1 in
    rw (p.1, p.2)
    (cause_so Bool (Unit {0}) (g.F.Files.faults c.args.files.now) (g.F.Files.faults c.loop.files) (g.F.Files.faults c.write_next.new.files) c.in_err-write_next.field-0.0 c.loop.invariant.reads
    c.in_err-write_next.ensures.cause)

pub returns-in_err-write_next-clause-count : goal.returns-in_err-write_next-clause-count
returns-in_err-write_next-clause-count g c =
    let p = err_from_is_err_and c.from_residual-in_err-write_next.result c.from_residual-in_err-write_next.ensures.1 in
    rw (p.1, p.2)
    (writes_so Bool (Unit {0}) (g.F.Files.write_faults c.args.files.now) (g.F.Files.write_faults c.loop.files) (g.F.Files.write_faults c.write_next.new.files) c.in_err-write_next.field-0.0
    c.loop.invariant.fails c.in_err-write_next.ensures.count)

pub returns-then-not-branch-clause-writes : goal.returns-then-not-branch-clause-writes
returns-then-not-branch-clause-writes g c =
    let no : c.in_ok-write_next.field-0 ≡ false = c.if-not-branch.true in
    let writes = rw no at c.in_ok-write_next.ensures.writes in
    λ told is has apart count.
    let few : c.loop.player.played.records < most_records = omega (arith, c.loop.invariant.records) in
    let more : c.loop.player.played.records < length (records_of c.args.profile.now (contents_at told c.args.demo)) = omega (arith, c.loop.invariant.records, count) in
    absurd (never_ends told (g.F.Files.told c.loop.files) (g.F.Files.told c.write_next.new.files) c.args.demo c.args.index c.args.profile.now c.loop.player.played c.write_next.new.player.played
    (c.loop.invariant.writes told is has apart) few more apart c.loop.invariant.by writes)

pub loop-preserved : goal.loop-preserved
loop-preserved g c =
    let yes : c.in_ok-write_next.field-0 ≡ true = c.if-not-branch.false in
    let writes = rw yes at c.in_ok-write_next.ensures.writes in
    let more = rw yes at c.in_ok-write_next.ensures.more in
    let rises = more refl in
    let one = rises.0 in
    record {
      writes = λ told is has apart.
          let few : c.loop.player.played.records < most_records = omega (arith, c.loop.invariant.records) in
          writing_more told (g.F.Files.told c.loop.files) (g.F.Files.told c.write_next.new.files) c.args.demo c.args.index c.args.profile.now c.loop.player.played c.write_next.new.player.played
          (c.loop.invariant.writes told is has apart) few apart c.loop.invariant.by writes;
      untold = λ none. c.in_ok-write_next.ensures.untold (c.loop.invariant.untold none);
      records = omega (arith, one, c.loop.invariant.records);
      aged = rises.1;
      by = rises.2 ∙ c.loop.invariant.by;
      given = grind (arith, common_steps);
      reads = c.in_ok-write_next.ensures.cause ∙ c.loop.invariant.reads;
      fails = c.in_ok-write_next.ensures.count ∙ c.loop.invariant.fails;
    }

pub returns-clause-writes : goal.returns-clause-writes
returns-clause-writes g c =
    λ told is has apart count.
    let here : c.loop.player.played.records ≡ c.args.checkpoints * spacing = omega (arith, c.loop.invariant.records) in
    writing_all told (g.F.Files.told c.loop.files) c.args.demo c.args.index c.args.checkpoints c.args.profile.now c.loop.player.played (c.loop.invariant.writes told is has apart) here count
