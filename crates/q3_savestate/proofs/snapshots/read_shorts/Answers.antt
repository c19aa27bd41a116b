use Rattle.std.proofs.Common.{refl, ◌∙◌, rules}
use Rattle.std.specs.Int.{w16, cast_signed}
use Rattle.std.proofs.lemmas.Int.{to_z-of_z}
use Rattle.std.proofs.lemmas.Result.{err_from_is_err_and}
use Rattle.q3_savestate.specs.Snapshots.{shorts_at}
use Rattle.q3_savestate.proofs.Numbers.{shorts_begin, more, stops, all}
use Rattle.q3_savestate.proofs.snapshots.read_shorts.Goals as goal

pub loop-k-init : goal.loop-k-init
loop-k-init c = shorts_begin c.args.cursor.now c.args.values.now c.told-values

pub returns-in_err-short : goal.returns-in_err-short
returns-in_err-short c =
    let p = err_from_is_err_and c.from_residual.result c.from_residual.ensures.1 in
    rw (p.1, p.2) (stops (cast_signed w16) 2 65535 _ c.loop-k.k (shorts_at c.args.cursor.now) c.loop-k.cursor c.loop-k.values c.loop-k.invariant c.loop-k-test.true refl c.in_err-short.ensures)

pub loop-k-preserved : goal.loop-k-preserved
loop-k-preserved c =
    more (cast_signed w16) 2 65535 c.in_ok-short.field-0 c.loop-k.k (shorts_at c.args.cursor.now) c.loop-k.cursor c.short.new.self c.loop-k.values _ c.loop-k.invariant
    c.loop-k-test.true refl c.in_ok-short.ensures (to_z-of_z w16 c.cast_signed.result (search rules) ∙ c.cast_signed.ensures)

pub returns : goal.returns
returns c = all (cast_signed w16) 2 c.loop-k.k (shorts_at c.args.cursor.now) c.loop-k.cursor c.loop-k.values c.loop-k.invariant c.loop-k-test.false
