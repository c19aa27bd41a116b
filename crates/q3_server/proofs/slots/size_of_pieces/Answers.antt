use Rattle.std.proofs.Common.{◌∙◌, ◌≤◌, List, ℕ, length, ap, arith}
use Rattle.q3_server.proofs.Sizes.{few_pieces, total_more}
use Rattle.q3_server.proofs.slots.size_of_pieces.Goals as goal

pub overflow_add-bytes : goal.overflow_add-bytes
overflow_add-bytes c =
    let few = few_pieces (length c.args.text.now) c.requires.short in
    let below : c.loop-k.k ≤ 9 = omega (arith, c.loop-k-test.true, c.pieces-k-end.ensures, few) in
    omega (arith, below, c.loop-k.invariant.few, c.size_of-bytes.ensures.short)

pub loop-k-preserved : goal.loop-k-preserved
loop-k-preserved c = record {
  total = total_more c.args.index c.args.text.now c.loop-k.k c.loop-k.bytes c.size_of-bytes.result c.loop-k.invariant.total
      (c.size_of-bytes.ensures.size ∙ ap (λ (text : List ℕ). length text) c.piece.ensures);
  few = omega (arith, c.loop-k.invariant.few, c.size_of-bytes.ensures.short);
}
