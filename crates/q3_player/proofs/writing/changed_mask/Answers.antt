use Rattle.std.proofs.Common.{refl, sym, ◌∙◌, arith}
use Rattle.std.proofs.lemmas.Nat.{one_shl}
use Rattle.q3_player.specs.Arrays.{changes_from, mask_of}
use Rattle.q3_player.proofs.Changes.{mask-differs, mask-same, twice}
use Rattle.q3_player.proofs.writing.changed_mask.Goals as goal
use Rattle.q3_player.proofs.writing.changed_mask.Goals.{then-from-k, else-from-k}

pub loop-k-init : goal.loop-k-init
unfolding changes_from mask_of
loop-k-init c = record { is = refl; few = omega arith }

pub loop-k-preserved : goal.loop-k-preserved
loop-k-preserved c =
    let from = c.args.from.now in
    let to = c.args.to.now in
    let double = twice c.loop-k.k in
    elim c.if-from-k.branch [
      | then-from-k w ↦
          let place = one_shl c.loop-k.k 32 (omega arith) in
          record {
            is = omega (arith, w.mask-is, place, c.loop-k.invariant.is, mask-differs from to c.loop-k.k (omega arith) (omega arith) w.if-from-k.true);
            few = omega (arith, w.mask-is, place, c.loop-k.invariant.few, double);
          }
      | else-from-k w ↦ record {
        is = w.mask-is ∙ c.loop-k.invariant.is ∙ sym (mask-same from to c.loop-k.k (omega arith) (omega arith) w.if-from-k.false);
        few = omega (arith, w.mask-is, c.loop-k.invariant.few, double);
      }
    ]
