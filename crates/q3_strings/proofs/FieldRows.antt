-- How rows of fields are read, by what is known of one field, and of which parts the operations of a message are.
use Rattle.std.specs.Prelude.{◌≡◌, ℕ, ◌^◌, ◌<◌, Bool, List, [], ◌∷◌, ◌++◌, Ok, refl}
use Rattle.std.proofs.Common.{ap, ◌∙◌, sym, append_assoc}
use Rattle.std.proofs.lemmas.List.{append-nil}
use Rattle.q3_bits.specs.Words.{IsCode, field_bits, field_at, row_bits}
use Rattle.q3_bits.specs.Laws.{ReadWasPut, PutIsRead}
use Rattle.q3_text.specs.declared.text.Command.{Command}
use Rattle.q3_strings.specs.Commands.{SpellsOperations}

-- of no fields there is no text
pub row-none : (words : List (List Bool)) (bits : List Bool) → bits ≡ row_bits words [] ++ bits
unfolding row_bits
row-none words bits = refl

pub row-empty : (words : List (List Bool)) → [] ≡ row_bits words []
row-empty words = row-none words [] ∙ append-nil (row_bits words [])

-- a row after a field is a row
pub row-after : (words : List (List Bool)) (value width : ℕ) (fields : List (ℕ × ℕ)) (rest : List Bool)
    → row_bits words ((value, width) ∷ fields) ++ rest ≡ row_bits words ((value, width) ∷ []) ++ (row_bits words fields ++ rest)
unfolding row_bits
row-after words value width fields rest =
    append_assoc (field_bits words width value) (row_bits words fields) rest
    ∙ ap (λ (text : List Bool). text ++ (row_bits words fields ++ rest)) (sym (append-nil (field_bits words width value)))

-- a field that was read: its value fits, and it stands in front of the row that follows it
pub record WasField (words : List (List Bool)) (width : ℕ) (bits : List Bool) (found : ℕ × List Bool) : Type 0 where
  pub fits : found.0 < 2 ^ width
  pub row : (fields : List (ℕ × ℕ)) (rest : List Bool) → found.1 ≡ row_bits words fields ++ rest → bits ≡ row_bits words ((found.0, width) ∷ fields) ++ rest

pub field_was_put : ReadWasPut → (words : List (List Bool)) (width : ℕ) (bits : List Bool) (found : ℕ × List Bool) → IsCode words → field_at words width bits ≡ Ok found
    → WasField words width bits found
unfolding row_bits
field_was_put put words width bits found code e =
    let was = put words width found.0 bits found.1 code e in
    record {
      fits = was.0;
      row = λ fields rest is.
          was.1 ∙ ap (λ (left : List Bool). field_bits words width found.0 ++ left) is
          ∙ sym (append_assoc (field_bits words width found.0) (row_bits words fields) rest);
    }

module _ (words : List (List Bool)) (code : IsCode words) (put : PutIsRead) where
  -- the first field of a row is read
  pub row-first : (value width : ℕ) (fields : List (ℕ × ℕ)) (rest : List Bool) → value < 2 ^ width
      → field_at words width (row_bits words ((value, width) ∷ fields) ++ rest) ≡ Ok (value, row_bits words fields ++ rest)
  unfolding row_bits
  row-first value width fields rest fits =
      ap (λ (bits : List Bool). field_at words width bits) (append_assoc (field_bits words width value) (row_bits words fields) rest)
      ∙ put words width value (row_bits words fields ++ rest) code fits

  -- and so is the last
  pub row-last : (value width : ℕ) (rest : List Bool) → value < 2 ^ width → field_at words width (row_bits words ((value, width) ∷ []) ++ rest) ≡ Ok (value, rest)
  unfolding row_bits
  row-last value width rest fits = row-first value width [] rest fits

-- the operations of a message, part by part, with what follows them
pub operations-parts : (words : List (List Bool)) (command end : ℕ) (commands : List Command) (section bits rest : List Bool) (is : SpellsOperations words command end commands section bits)
    → bits ++ rest ≡ is.text ++ (is.nops ++ (section ++ (is.of_ending.0 ++ (row_bits words ((end, 8) ∷ []) ++ rest))))
operations-parts words command end commands section bits rest is =
    let text = is.text in
    let nops = is.nops in
    let after = is.of_ending.0 in
    let field = row_bits words ((end, 8) ∷ []) in
    ap (λ (bits : List Bool). bits ++ rest) is.whole
    ∙ append_assoc (text ++ nops ++ section) is.ending rest
    ∙ append_assoc (text ++ nops) section (is.ending ++ rest)
    ∙ append_assoc text nops (section ++ (is.ending ++ rest))
    ∙ ap (λ (ending : List Bool). text ++ (nops ++ (section ++ (ending ++ rest)))) is.of_ending.2
    ∙ ap (λ (left : List Bool). text ++ (nops ++ (section ++ left))) (append_assoc after field rest)
