use Rattle.std.proofs.Common.{◌+◌, ◌*◌, ◌/◌, ◌%◌, ◌^◌, ℕ, get_or, refl, arith}
use Rattle.q3_bits.proofs.Written.{stored-fits}
use Rattle.q3_bits.proofs.EightBytes.{stored_at_once}
use Rattle.q3_bits.proofs.writer.store.Goals as goal

pub overflow_add-rest : goal.overflow_add-rest
overflow_add-rest c =
    let fits = stored-fits (get_or c.args.bytes.now (c.args.place / 8) 0) c.args.place c.args.bits c.args.count c.requires.clear.part c.requires.fits c.requires.few in
    omega (arith, fits.0, fits.1, c.from.ensures)

pub returns-clause-bits : goal.returns-clause-bits
returns-clause-bits c =
    let first = c.args.place / 8 in
    let rest : ℕ = c.from.result + c.args.bits * 2 ^ (c.args.place % 8) % 18446744073709551616 in
    (stored_at_once c.args.bytes.now c.store_eight.new.bytes c.args.place c.args.bits c.args.count first rest c.requires.clear c.requires.fits c.requires.few refl
    (omega (arith, c.if-first.false, c.told-bytes)) (omega (arith, c.from.ensures)) c.store_eight.ensures.front c.store_eight.ensures.after).stored

pub returns-clause-clear : goal.returns-clause-clear
returns-clause-clear c =
    let first = c.args.place / 8 in
    let rest : ℕ = c.from.result + c.args.bits * 2 ^ (c.args.place % 8) % 18446744073709551616 in
    (stored_at_once c.args.bytes.now c.store_eight.new.bytes c.args.place c.args.bits c.args.count first rest c.requires.clear c.requires.fits c.requires.few refl
    (omega (arith, c.if-first.false, c.told-bytes)) (omega (arith, c.from.ensures)) c.store_eight.ensures.front c.store_eight.ensures.after).clear
