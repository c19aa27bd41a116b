-- A field's bits are those of its value cut to them.
use Rattle.std.proofs.Common.{◌≡◌, ℕ, zero, suc, ◌+◌, ◌*◌, ◌/◌, ◌%◌, ◌^◌, Bool, List, ◌++◌, refl, sym, ap, ◌∙◌, arith}
use Rattle.std.proofs.lemmas.Nat.{pow_pos, field_of, mod-pow-add, mod_below, mod_low}
use Rattle.q3_bits.specs.Bits.{low_bits}
use Rattle.q3_bits.specs.Words.{bytes_bits, field_bits}

-- what is cut to more bits, and then to fewer
low_of : (n j k : ℕ) → n % 2 ^ (j + k) % 2 ^ k ≡ n % 2 ^ k
low_of n j k = rw (mod-pow-add n j k) (mod_low (n / 2 ^ k % 2 ^ j) k (n % 2 ^ k) (mod_below n (2 ^ k) (pow_pos k)))

-- the low bits are those of the value cut to them
low_bits-cut : (count value : ℕ) → low_bits count (value % 2 ^ count) ≡ low_bits count value
unfolding low_bits
low_bits-cut zero value = refl
low_bits-cut (suc count) value =
    let more : suc count ≡ count + 1 = omega arith in
    let first : value % 2 ^ (count + 1) % 2 ≡ value % 2 = low_of value count 1 in
    let rest : value % 2 ^ (count + 1) / 2 ≡ value / 2 % 2 ^ count = field_of value count 1 in
    rw (more, first, rest, low_bits-cut count (value / 2)) refl

-- the words of the low bytes are those of the value cut to them
bytes_bits-cut : (words : List (List Bool)) (count value : ℕ) → bytes_bits words count (value % 2 ^ (8 * count)) ≡ bytes_bits words count value
unfolding bytes_bits
bytes_bits-cut words zero value = refl
bytes_bits-cut words (suc count) value =
    let more : 8 * suc count ≡ 8 * count + 8 = omega arith in
    let first : value % 2 ^ (8 * count + 8) % 256 ≡ value % 256 = low_of value (8 * count) 8 in
    let rest : value % 2 ^ (8 * count + 8) / 256 ≡ value / 256 % 2 ^ (8 * count) = field_of value (8 * count) 8 in
    rw (more, first, rest, bytes_bits-cut words count (value / 256)) refl

-- the raw bits and the words, so many
parts-cut : (words : List (List Bool)) (raw count value : ℕ)
    → low_bits raw (value % 2 ^ (8 * count + raw)) ++ bytes_bits words count (value % 2 ^ (8 * count + raw) / 2 ^ raw)
    ≡ low_bits raw value ++ bytes_bits words count (value / 2 ^ raw)
parts-cut words raw count value =
    let low : low_bits raw (value % 2 ^ (8 * count + raw)) ≡ low_bits raw value =
    sym (low_bits-cut raw (value % 2 ^ (8 * count + raw))) ∙ ap (low_bits raw) (low_of value (8 * count) raw) ∙ low_bits-cut raw value in
    rw (low, field_of value (8 * count) raw, bytes_bits-cut words count (value / 2 ^ raw)) refl

pub field_bits-cut : (words : List (List Bool)) (width value : ℕ) → field_bits words width (value % 2 ^ width) ≡ field_bits words width value
unfolding field_bits
field_bits-cut words width value =
    let whole : 8 * (width / 8) + width % 8 ≡ width = omega arith in
    rw whole at (parts-cut words (width % 8) (width / 8) value)

-- words that are cut to the same have the same bits
pub field_bits-same : (words : List (List Bool)) (width a b : ℕ) → a % 2 ^ width ≡ b % 2 ^ width → field_bits words width a ≡ field_bits words width b
field_bits-same words width a b same = sym (field_bits-cut words width a) ∙ ap (field_bits words width) same ∙ field_bits-cut words width b
