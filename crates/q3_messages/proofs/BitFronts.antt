-- Lists of bytes that share a front share its bits, so what begins the bits of one begins those of the other.
use Rattle.std.proofs.Common.{false, None, Some, not, ◌&&◌, ltb, subst, inl, inr, Option, ◌≡◌, zero, suc, ◌+◌, ◌*◌, ◌≤◌, Bool, List, [], ◌∷◌, ◌++◌, length, take, drop, refl, sym, ap, ◌∙◌, arith, ℕ}
use Rattle.std.proofs.lemmas.List.{take-append-drop}
use Rattle.std.proofs.Math.Seq.{take-append_seam}
use Rattle.q3_bits.specs.Bits.{low_bits, bits_of}
use Rattle.std.proofs.lemmas.Bool.{cases_Bool, cond-true, ltb-false}
use Rattle.q3_chan.specs.declared.side.Side.{Side}
use Rattle.q3_chan.specs.Checks.{is_checked}
use Rattle.q3_chan.specs.Keys.{Key, clear_bytes, is_unclear, scrambled_by, side_scrambled, start_by}
use Rattle.q3_chan.specs.Laws.{SideFrontStays}

-- a shorter front of a front
front_of_front : (k m : ℕ) (bits : List Bool) → k ≤ m → take k (take m bits) ≡ take k bits
front_of_front zero m bits few = refl
front_of_front (suc k) zero bits few = absurd (omega (arith, few))
front_of_front (suc k) (suc m) [] few = refl
front_of_front (suc k) (suc m) (bit ∷ bits) few = ap (λ (l : List Bool). bit ∷ l) (front_of_front k m bits (omega (arith, few)))

-- fronts that are the same have the same shorter fronts
shorter : (k m : ℕ) (xs ys : List Bool) → k ≤ m → take m xs ≡ take m ys → take k xs ≡ take k ys
shorter k m xs ys few same = sym (front_of_front k m xs few) ∙ (ap (λ (l : List Bool). take k l) same ∙ front_of_front k m ys few)

-- and so do bits that follow the same ones
after_same : (k more : ℕ) (first xs ys : List Bool) → k ≤ length first + more → take more xs ≡ take more ys → take k (first ++ xs) ≡ take k (first ++ ys)
after_same k more [] xs ys few same = shorter k more xs ys (omega (arith, few)) same
after_same zero more (bit ∷ first) xs ys few same = refl
after_same (suc k) more (bit ∷ first) xs ys few same = ap (λ (l : List Bool). bit ∷ l) (after_same k more first xs ys (omega (arith, few)) same)

-- a byte has eight bits
eight : (byte : ℕ) → length (low_bits 8 byte) ≡ 8
unfolding low_bits
eight byte = refl

-- the bits of a front of bytes are the first bits of all
bits_of_front : (n : ℕ) (bytes : List ℕ) → take (8 * n) (bits_of bytes) ≡ take (8 * n) (bits_of (take n bytes))
unfolding bits_of
bits_of_front zero bytes = refl
bits_of_front (suc n) [] = refl
bits_of_front (suc n) (byte ∷ bytes) =
    let long = eight byte in
    after_same (8 * suc n) (8 * n) (low_bits 8 byte) (bits_of bytes) (bits_of (take n bytes)) (omega (arith, long)) (bits_of_front n bytes)

-- where bytes share their first ones, what begins the bits of the one and takes no more than those begins the bits of the other
pub begins_both : (n : ℕ) (row rest : List Bool) (bytes others : List ℕ) → length row ≤ 8 * n → take n others ≡ take n bytes → bits_of bytes ≡ row ++ rest
    → bits_of others ≡ row ++ drop (length row) (bits_of others)
begins_both n row rest bytes others few same begins =
    let k = length row in
    let shared : take (8 * n) (bits_of others) ≡ take (8 * n) (bits_of bytes) =
    bits_of_front n others ∙ (ap (λ (l : List ℕ). take (8 * n) (bits_of l)) same ∙ sym (bits_of_front n bytes)) in
    let row_is : take k (bits_of others) ≡ row =
    shorter k (8 * n) (bits_of others) (bits_of bytes) few shared ∙ (ap (λ (l : List Bool). take k l) begins ∙ take-append_seam row rest) in
    sym (take-append-drop k (bits_of others)) ∙ ap (λ (front : List Bool). front ++ drop k (bits_of others)) row_is

-- the leading longs of a message stay in sight where an end scrambles it, or doesn't: what begins its bits, and takes no more than stay
-- clear, begins those of what is sent
pub stays_in_sight : SideFrontStays → (protocol : ℕ) (side : Side) (key : Key) (start : ℕ) (row rest : List Bool) (plain : List ℕ) → is_unclear protocol side (length row) ≡ false
    → key.start ≡ start_by protocol start → bits_of plain ≡ row ++ rest
    → bits_of (side_scrambled side key plain) ≡ row ++ drop (length row) (bits_of (side_scrambled side key plain))
stays_in_sight front protocol side key start row rest plain clear starts begins =
    let sent = side_scrambled side key plain in
    let most = 8 * clear_bytes side in
    elim (cases_Bool (is_checked protocol)) [
      | inl checked ↦
          let none : key.start ≡ None = starts ∙ cond-true (is_checked protocol) None (Some start) checked in
          let same : sent ≡ plain = ap (λ (from : Option ℕ). scrambled_by (clear_bytes side) from key.text plain) none in
          begins_both (length row) row rest plain sent (omega arith) (ap (take (length row)) same) begins
      | inr scrambles ↦
          let few : ltb most (length row) ≡ false = subst (λ (b : Bool). (not b && ltb most (length row)) ≡ false) scrambles clear in
          begins_both (clear_bytes side) row rest plain sent (ltb-false most (length row) few) ((front side key plain).1 (clear_bytes side) (omega arith)) begins
    ]
