use Rattle.std.proofs.Common.{arith, sym}
use Rattle.std.proofs.lemmas.Result.{err_from_is_err_and}
use Rattle.q3_savestate.specs.Entities.{baselines_at}
use Rattle.q3_savestate.proofs.Ranges.{below_mark}
use Rattle.q3_savestate.proofs.BaselinesRead.{more, stops, all}
use Rattle.q3_savestate.proofs.entities.read_baselines.Goals as goal

pub returns-in_err-read_entity : goal.returns-in_err-read_entity
unfolding baselines_at
returns-in_err-read_entity c =
    let p = err_from_is_err_and c.from_residual-in_err-read_entity.result c.from_residual-in_err-read_entity.ensures.1 in
    rw (p.1, p.2, ← c.end.ensures.mark, ← c.in_ok-count.ensures) (stops c.args.table.now c.in_ok-count.count c.short.new.self c.loop.cursor c.loop.counter c.loop.least c.loop.baselines _ c.loop.invariant (omega arith) c.in_err-read_entity.ensures)

pub set-requires : goal.set-requires
set-requires c = omega (arith, c.end.ensures.most, c.end.ensures.mark, below_mark c.args.table.now c.loop.least c.loop.cursor c.read_entity.new.cursor c.read_entity.new.entity (sym c.in_ok-read_entity.ensures))

pub overflow_add-least : goal.overflow_add-least
overflow_add-least c = omega (arith, c.end.ensures.most, c.end.ensures.mark, below_mark c.args.table.now c.loop.least c.loop.cursor c.read_entity.new.cursor c.read_entity.new.entity (sym c.in_ok-read_entity.ensures))

pub loop-preserved : goal.loop-preserved
loop-preserved c =
    rw c.set.ensures (more c.args.table.now c.in_ok-count.count c.short.new.self c.loop.cursor c.read_entity.new.cursor c.loop.counter c.loop.least c.loop.baselines c.read_entity.new.entity c.loop.invariant (omega arith) (c.in_ok-read_entity.ensures))

pub returns : goal.returns
unfolding baselines_at
returns c = rw (← c.end.ensures.mark, ← c.in_ok-count.ensures) (all c.args.table.now c.in_ok-count.count c.short.new.self c.loop.cursor c.loop.counter c.loop.least c.loop.baselines c.loop.invariant (omega arith))
