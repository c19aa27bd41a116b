-- Bits that are read were put.
use Rattle.std.proofs.Common.{◌≡◌, ℕ, ◌^◌, ◌<◌, Bool, List, ◌++◌, Ok}
use Rattle.q3_bits.specs.Words.{IsCode, field_bits, field_at}
use Rattle.q3_bits.specs.Laws.{ReadWasPut}

-- with the value that was found
pub bits_were_put : ReadWasPut → (words : List (List Bool)) → IsCode words → (width : ℕ) (bits : List Bool) (found : ℕ × List Bool) → field_at words width bits ≡ Ok found
    → (found.0 < 2 ^ width) × (bits ≡ field_bits words width found.0 ++ found.1)
bits_were_put law words code width bits found e = law words width found.0 bits found.1 code e

-- they are the text of the value, and the rest
pub bits_were : ReadWasPut → (words : List (List Bool)) → IsCode words → (width : ℕ) (bits : List Bool) (found : ℕ × List Bool) (value : ℕ) (rest : List Bool)
    → field_at words width bits ≡ Ok found → found.0 ≡ value → found.1 ≡ rest → bits ≡ field_bits words width value ++ rest
bits_were law words code width bits found value rest e is left =
    let put = bits_were_put law words code width bits found e in
    rw (← is, ← left) put.1
