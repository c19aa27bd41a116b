use Rattle.std.proofs.Common.{◌≡◌, ◌∙◌, rules, arith}
use Rattle.std.specs.Prelude.{◌==◌, if◌then◌else◌}
use Rattle.std.proofs.lemmas.Result.{err_from_is_err_and}
use Rattle.q3_savestate.proofs.SnapshotsRead.{begin, more, stops, all, whole_is}
use Rattle.q3_savestate.proofs.snapshots.read_snapshots.Goals as goal

pub loop-k-init : goal.loop-k-init
loop-k-init c = begin c.args.profile.now c.in_ok-newest.newest c.in_ok-count.count c.byte.new.self c.args.rings.now c.requires.none

pub loop-k-preserved : goal.loop-k-preserved
loop-k-preserved c =
    more c.args.profile.now c.in_ok-newest.newest c.in_ok-count.count c.byte.new.self c.loop-k.cursor c.read_snapshot.new.cursor c.loop-k.k c.loop-k.most _ c.loop-k.rings c.read_snapshot.new.rings
    c.loop-k.invariant (omega arith) c.in_ok-most.ensures.found c.in_ok-most.ensures.may

pub returns-in_err-most-clause-found : goal.returns-in_err-most-clause-found
returns-in_err-most-clause-found c =
    let p = err_from_is_err_and c.from_residual-in_err-most.result c.from_residual-in_err-most.ensures.1 in
    let least : c.from.result ≡ (if c.in_ok-newest.newest == 0 then 0 else 1) = search rules in
    rw (p.1, p.2)
    (stops c.args.profile.now c.in_ok-newest.newest c.in_ok-count.count c.byte.new.self c.loop-k.cursor c.loop-k.k c.loop-k.most _ c.loop-k.rings c.loop-k.invariant (omega arith) c.in_err-most.ensures.found
    ∙ whole_is c.args.profile.now c.in_ok-newest.newest c.from.result c.in_ok-count.count c.args.cursor.now c.long.new.self c.byte.new.self c.in_ok-newest.ensures c.in_ok-count.ensures least)

pub returns-clause-found : goal.returns-clause-found
returns-clause-found c =
    let least : c.from.result ≡ (if c.in_ok-newest.newest == 0 then 0 else 1) = search rules in
    all c.args.profile.now c.in_ok-newest.newest c.in_ok-count.count c.byte.new.self c.loop-k.cursor c.loop-k.k c.loop-k.most c.loop-k.rings c.loop-k.invariant (omega arith)
    ∙ whole_is c.args.profile.now c.in_ok-newest.newest c.from.result c.in_ok-count.count c.args.cursor.now c.long.new.self c.byte.new.self c.in_ok-newest.ensures c.in_ok-count.ensures least
