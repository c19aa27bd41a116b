-- The key of a client's message fits a long.
use Rattle.std.proofs.Common.{zero, suc, ◌+◌, ◌*◌, ◌/◌, ◌^◌, ◌<◌, ◌≤◌, List, [], ◌∷◌, length, take, arith, ℕ}
use Rattle.std.specs.List.{All}
use Rattle.std.specs.Int.Bits.{bit_xor}
use Rattle.std.proofs.lemmas.List.Elements.{All-head, All-tail, All-take}
use Rattle.std.proofs.lemmas.Nat.{mul-le, xor_lt}
use Rattle.q3_text.specs.Texts.{IsTextByte, IsText}
use Rattle.q3_text.specs.Keys.{weighted, key_of}
use Rattle.q3_clmsg.specs.Moves.{message_key}

-- as many as are taken, at most
few_taken : (n : ℕ) (text : List ℕ) → length (take n text) ≤ n
few_taken zero text = omega arith
few_taken (suc n) [] = omega arith
few_taken (suc n) (byte ∷ text) =
    let few = few_taken n text in
    omega (arith, few)

-- bytes below 128, each times a weight of at most 150
weighted_few : (weight : ℕ) (text : List ℕ) → All IsTextByte text → weight + length text ≤ 151 → weighted weight text ≤ 19050 * length text
unfolding weighted
weighted_few weight [] all few = omega arith
weighted_few weight (byte ∷ text) all few =
    let small = (All-head IsTextByte byte text all).seven_bits in
    let product : byte * weight ≤ 127 * 150 = mul-le byte weight 127 150 (omega (arith, small)) (omega (arith, few)) in
    let others = weighted_few (weight + 1) text (All-tail IsTextByte byte text all) (omega (arith, few)) in
    omega (arith, product, others)

-- a sum mixed with its own high bits fits where it does
mixed_fits : (sum : ℕ) → sum < 2 ^ 32 → bit_xor (bit_xor sum (sum / 2 ^ 10)) (sum / 2 ^ 20) < 2 ^ 32
mixed_fits sum fits =
    xor_lt 32 (bit_xor sum (sum / 2 ^ 10)) (sum / 2 ^ 20) (xor_lt 32 sum (sum / 2 ^ 10) fits (omega (arith, fits))) (omega (arith, fits))

text_key_fits : (text : List ℕ) → IsText text → key_of text < 2 ^ 32
unfolding key_of
text_key_fits text is =
    let few = few_taken 32 text in
    let sum = weighted_few 119 (take 32 text) (All-take IsTextByte 32 text is.each) (omega (arith, few)) in
    mixed_fits (weighted 119 (take 32 text)) (omega (arith, few, sum))

pub message_key_fits : (feed acknowledged : ℕ) (text : List ℕ) → feed < 2 ^ 32 → acknowledged < 2 ^ 32 → IsText text → message_key feed acknowledged text < 2 ^ 32
message_key_fits feed acknowledged text fed fits is =
    xor_lt 32 (bit_xor feed acknowledged) (key_of text) (xor_lt 32 feed acknowledged fed fits) (text_key_fits text is)
