use Rattle.std.proofs.Common.{sym, arith}
use Rattle.std.proofs.lemmas.Result.{err_from_is_err_and}
use Rattle.q3_savestate.proofs.Ranges.{below_mark}
use Rattle.q3_savestate.proofs.EntitiesRead.{begin, may_place, more, stops, all}
use Rattle.q3_savestate.proofs.snapshots.read_entities.Goals as goal

pub loop-init : goal.loop-init
loop-init c = begin c.args.profile.now.entity c.args.count c.args.cursor.now c.args.rings.now c.requires.begun

pub returns-in_err-read_entity : goal.returns-in_err-read_entity
returns-in_err-read_entity c =
    let p = err_from_is_err_and c.from_residual.result c.from_residual.ensures.1 in
    rw (p.1, p.2) (stops c.args.profile.now.entity c.args.count c.args.cursor.now c.loop.cursor c.loop.counter c.loop.least _ c.args.rings.now c.loop.rings c.loop.invariant (omega arith) c.in_err-read_entity.ensures)

pub place_back-requires : goal.place_back-requires
place_back-requires c =
    may_place c.args.profile.now.entity c.args.count c.args.cursor.now c.loop.cursor c.read_entity.new.cursor c.loop.counter c.loop.least c.args.rings.now c.loop.rings c.read_entity.new.entity c.loop.invariant
    (omega arith) c.requires.few c.in_ok-read_entity.ensures
    (omega (arith, c.end-end.ensures.most, c.end-end.ensures.mark, below_mark c.args.profile.now.entity c.loop.least c.loop.cursor c.read_entity.new.cursor c.read_entity.new.entity (sym c.in_ok-read_entity.ensures)))

pub overflow_add-least : goal.overflow_add-least
overflow_add-least c =
    omega (arith, c.end-end.ensures.most, c.end-end.ensures.mark, below_mark c.args.profile.now.entity c.loop.least c.loop.cursor c.read_entity.new.cursor c.read_entity.new.entity (sym c.in_ok-read_entity.ensures))

pub loop-preserved : goal.loop-preserved
loop-preserved c =
    rw c.place_back.ensures (more c.args.profile.now.entity c.args.count c.args.cursor.now c.loop.cursor c.read_entity.new.cursor c.loop.counter c.loop.least c.args.rings.now c.loop.rings c.read_entity.new.entity
    c.loop.invariant (omega arith) c.in_ok-read_entity.ensures)

pub returns : goal.returns
returns c = all c.args.profile.now.entity c.args.count c.args.cursor.now c.loop.cursor c.loop.counter c.loop.least c.args.rings.now c.loop.rings c.loop.invariant (omega arith)
