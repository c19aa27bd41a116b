use Rattle.std.proofs.Common.{◌+◌, ◌*◌, ◌<◌, ◌≤◌, inl, inr, arith}
use Rattle.std.proofs.lemmas.Nat.{one_shl}
use Rattle.q3_bits.proofs.Gathered.{spelled-none, spelled-more, spelled-end, shifts}
use Rattle.q3_bits.proofs.reader.field_in.Goals as goal

pub loop-k-init : goal.loop-k-init
loop-k-init c =
    rw (one_shl c.args.raw 64 (omega (arith, c.requires.raw))) (spelled-none c.args.code.now c.args.raw c.args.bytes c.args.bits c.requires.raw)

pub overflow_add-value-in-loop-k : goal.overflow_add-value-in-loop-k
overflow_add-value-in-loop-k c =
    let small : c.from.result < 256 = omega (arith, c.from.ensures) in
    let s = shifts c.loop-k.value c.from.result (c.args.raw + 8 * c.loop-k.k) (omega (arith, c.requires.most, c.loop-k-test.true)) c.loop-k.invariant.fits small in
    omega (arith, s.whole, s.fits, s.most)

pub loop-k-preserved : goal.loop-k-preserved
loop-k-preserved c =
    let so = c.loop-k.invariant in
    let most : c.entry-entry.result.length ≤ 64 = elim c.entry-entry.ensures.short [ inl none ↦ omega arith | inr short ↦ omega arith ] in
    let small : c.from.result < 256 = omega (arith, c.from.ensures) in
    let s = shifts c.loop-k.value c.from.result (c.args.raw + 8 * c.loop-k.k) (omega (arith, c.requires.most, c.loop-k-test.true)) so.fits small in
    rw (s.whole, c.from.ensures, c.from-length.ensures)
    (spelled-more c.args.code.now c.args.raw c.args.bytes c.args.bits c.loop-k.k c.loop-k.value c.loop-k.left c.loop-k.length c.entry-entry.result.byte c.entry-entry.result.length so c.loop-k-test.true c.requires.most
    (omega (arith, c.from.ensures, small)) most c.entry-entry.ensures.found)

pub returns : goal.returns
returns c = λ count limit fits enough.
    spelled-end c.args.code.now c.args.raw c.args.bytes c.args.bits c.loop-k.k c.loop-k.value c.loop-k.left c.loop-k.length c.loop-k.invariant c.loop-k-test.false count limit fits enough
