-- Operations that are read one after the other.
use Rattle.std.proofs.Common.{◌≡◌, ◌<◌, ◌≤◌, ◌/◌, ◌%◌, ℕ, zero, suc, Bool, List, [], ◌∷◌, ◌++◌, length, Ok, Err, refl, sym, ap, arith}
use Rattle.std.proofs.lemmas.List.{length-append}
use Rattle.q3_bits.specs.Bits.{low_bits}
use Rattle.q3_bits.specs.Words.{word_of, IsCode, field_bits, bytes_bits, field_at}
use Rattle.q3_bits.specs.Laws.{ReadWasPut, FieldsEndCutShort}
use Rattle.q3_bits.specs.declared.reader.ReadError.{ReadError}
use Rattle.q3_bits.specs.declared.reader.ReadError.TheVariants.{End, NoWord}
use Rattle.q3_strings.specs.Turns.{HasTurn}
use Rattle.q3_strings.specs.Laws.{TurnsAreTaken}

-- a word has a bit at least
some_bits : (words : List (List Bool)) → IsCode words → (byte : ℕ) → byte < 256 → (word : List Bool) → word_of words byte ≡ word → 0 < length word
some_bits words code byte fits [] is =
    let first = code.prefix_free byte 0 (word_of words 0) fits (omega arith) (ap (λ (word : List Bool). word ++ word_of words 0) is) in
    let second = code.prefix_free byte 1 (word_of words 1) fits (omega arith) (ap (λ (word : List Bool). word ++ word_of words 1) is) in
    absurd (omega (arith, first, second))
some_bits words code byte fits (b ∷ word) is = omega arith

module _ (put : ReadWasPut) where
  shorter : (words : List (List Bool)) (bits rest : List Bool) (operation : ℕ) → IsCode words → field_at words 8 bits ≡ Ok (operation, rest) → length rest < length bits
  unfolding field_bits bytes_bits low_bits
  shorter words bits rest operation code read =
      let was = put words 8 operation bits rest code read in
      let word = word_of words (operation / 1 % 256) in
      let is : field_bits words 8 operation ≡ word ++ [] = refl in
      let some = some_bits words code (operation / 1 % 256) (omega arith) word refl in
      omega (arith, ap length was.1, length-append (field_bits words 8 operation) rest, ap length is, length-append word [], some)

  turn : (words : List (List Bool)) (bits rest : List Bool) (operation turns : ℕ) → IsCode words → Ok (operation, rest) ≡ field_at words 8 bits → length bits ≤ turns
      → HasTurn turns rest
  turn words bits rest operation zero code read enough = absurd (omega (arith, shorter words bits rest operation code (sym read), enough))
  turn words bits rest operation (suc left) code read enough = record {
    left = left;
    is = refl;
    enough = omega (arith, shorter words bits rest operation code (sym read), enough);
  }

ends : FieldsEndCutShort → (words : List (List Bool)) (e : ReadError) → IsCode words → field_at words 8 [] ≡ Err e → e ≡ End
ends cut words End code read = refl
ends cut words NoWord code read = absurd ((cut words 8 [] code).no_word read (0, field_bits words 8 0, refl))

pub turns_are_taken : ReadWasPut → FieldsEndCutShort → TurnsAreTaken
turns_are_taken put cut = record { shorter = shorter put; turn = turn put; ends = ends cut }
