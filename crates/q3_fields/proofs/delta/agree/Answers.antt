use Rattle.std.proofs.Common.{◌≡◌, ℕ, refl, arith, bit_or, get_or}
use Rattle.std.specs.Int.Bits.{bit_xor, or_add_and, xor_add_and, xor_self}
use Rattle.std.proofs.lemmas.Nat.{le_or_l, le_or_r}
use Rattle.std.proofs.lemmas.List.{take_more}
use Rattle.q3_fields.proofs.delta.agree.Goals as goal

-- no bit differs only where none did, and the words are the same
none_differs : (differ x y : ℕ) → bit_or differ (bit_xor x y) ≡ 0 → (differ ≡ 0) × (x ≡ y)
none_differs differ x y none =
    let before = le_or_l differ (bit_xor x y) in
    let here = le_or_r differ (bit_xor x y) in
    let or = or_add_and x y in
    let xor = xor_add_and x y in
    let left = le_or_l x y in
    let right = le_or_r x y in
    (omega arith, omega arith)

pub loop-k-preserved : goal.loop-k-preserved
loop-k-preserved c =
    let from = c.args.from.now in
    let to = c.args.to.now in
    let k = c.loop-k.k in
    record {
      agree = λ none.
          let both = none_differs c.loop-k.differ (get_or from k 0) (get_or to k 0) none in
          rw (take_more from k 0 (omega arith), take_more to k 0 (omega arith), c.loop-k.invariant.agree both.0, both.1) refl;
      none = λ same. rw (c.loop-k.invariant.none same, same) (xor_self (get_or to k 0));
    }
