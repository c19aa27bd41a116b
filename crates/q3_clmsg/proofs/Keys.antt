-- Fields that a key hides.
use Rattle.std.proofs.Common.{◌≡◌, ℕ, ◌%◌, ◌^◌, ◌<◌, ap, ◌∙◌}
use Rattle.std.specs.Int.Bits.{bit_xor, xor_assoc, xor_self, xor_zero_r}
use Rattle.std.proofs.Math.Nat.{mod-lt}
use Rattle.std.proofs.lemmas.Nat.{xor_lt, pow_pos}
use Rattle.q3_clmsg.specs.Moves.{hidden}

-- what the key gives fits the width
key_fits : (key width : ℕ) → key % 2 ^ width < 2 ^ width
key_fits key width = mod-lt key (pow_pos width)

-- a hidden field fits its width
pub hidden_fits : (key width field : ℕ) → field < 2 ^ width → hidden key width field < 2 ^ width
hidden_fits key width field fits = xor_lt width field (key % 2 ^ width) fits (key_fits key width)

-- hidden twice, a field is as it was
pub hidden_twice : (key width field : ℕ) → hidden key width (hidden key width field) ≡ field
hidden_twice key width field =
    let mask = key % 2 ^ width in
    xor_assoc field mask mask ∙ ap (λ (n : ℕ). bit_xor field n) (xor_self mask) ∙ xor_zero_r field
