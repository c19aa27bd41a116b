use Rattle.std.proofs.Common.{arith, refl}
use Rattle.std.proofs.lemmas.Result.{err_from_is_err_and}
use Rattle.q3_savestate.specs.Texts.{strings_at}
use Rattle.q3_savestate.proofs.StringsRead.{begin, stops, all}
use Rattle.q3_savestate.proofs.texts.read_strings.Goals as goal

pub loop-init : goal.loop-init
loop-init c = record { texts = begin c.in_ok-count.count c.short.new.self c.args.configs.now.texts c.requires; pending = refl }

pub returns-in_err-least-clause-found : goal.returns-in_err-least-clause-found
unfolding strings_at
returns-in_err-least-clause-found c =
    let p = err_from_is_err_and c.from_residual-in_err-least.result c.from_residual-in_err-least.ensures.1 in
    rw (p.1, p.2, ← c.in_ok-count.ensures)
    (stops c.in_ok-count.count c.short.new.self c.loop.cursor c.loop.counter c.loop.least c.in_err-least.field-0.0 c.loop.configs.texts c.loop.invariant.texts (omega arith) c.in_err-least.ensures.step)

pub returns-clause-found : goal.returns-clause-found
unfolding strings_at
returns-clause-found c = rw (← c.in_ok-count.ensures)
    (all c.in_ok-count.count c.short.new.self c.loop.cursor c.loop.counter c.loop.least c.loop.configs.texts c.loop.invariant.texts (omega arith))
