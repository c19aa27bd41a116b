-- Fields of a gamestate that were read.
use Rattle.std.proofs.Common.{◌≡◌, ℕ, Bool, List, Ok}
use Rattle.q3_bits.proofs.Binds.{map_err_ok}
use Rattle.q3_bits.specs.Words.{IsCode, field_at}
use Rattle.q3_bits.specs.Laws.{ReadWasPut}
use Rattle.q3_strings.proofs.FieldRows.{WasField, field_was_put}
use Rattle.q3_gamestate.specs.declared.error.GamestateError.TheVariants.{Bits}
use Rattle.q3_gamestate.specs.Reading.{field_read}

-- a field that was read was put
pub field_was : ReadWasPut → (words : List (List Bool)) (width : ℕ) (bits : List Bool) (found : ℕ × List Bool) → IsCode words → field_read words width bits ≡ Ok found
    → WasField words width bits found
field_was put words width bits found code e = field_was_put put words width bits found code (map_err_ok Bits (field_at words width bits) found e)
