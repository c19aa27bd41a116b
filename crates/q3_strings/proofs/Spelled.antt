-- Bytes, strings and commands: what is read was spelled so, and what is spelled so is read.
use Rattle.std.proofs.Common.{◌≡◌, ◌<◌, ◌≤◌, ◌^◌, ℕ, zero, suc, Bool, eqb, cond, List, [], ◌∷◌, ◌++◌, length, map, Ok, Err, refl, sym, ap, subst, ◌∙◌, append_assoc, arith, inl, inr}
use Rattle.std.specs.List.{All}
use Rattle.std.proofs.lemmas.Bool.{cases_Bool, eqb-true, eqb-false}
use Rattle.std.proofs.lemmas.List.{length-map}
use Rattle.std.proofs.lemmas.List.Elements.{All-nil, All-cons, All-head, All-tail}
use Rattle.q3_bits.specs.ResultBind.{◌>>=◌, fault_as}
use Rattle.q3_bits.proofs.Binds.{bind_ok, map_err_ok}
use Rattle.q3_bits.specs.Words.{IsCode, row_bits, field_at}
use Rattle.q3_bits.specs.Laws.{PutIsRead, ReadWasPut}
use Rattle.q3_bits.specs.declared.reader.ReadError.{ReadError}
use Rattle.q3_text.specs.declared.text.Command.{Command}
use Rattle.q3_text.specs.Texts.{most_bytes, translated, IsTextByte}
use Rattle.q3_strings.specs.declared.error.StringError.{StringError}
use Rattle.q3_strings.specs.declared.error.StringError.TheVariants.{Bits, Long}
use Rattle.q3_strings.specs.Texts.{bytes_row, string_bits}
use Rattle.q3_strings.specs.Reading.{string_bytes_at, bounded_string_at, command_at}
use Rattle.q3_strings.specs.Spelling.{SpellsString, SpellsCommand}
use Rattle.q3_strings.proofs.FieldRows.{row-none, WasField, field_was_put, row-first, row-last}
use Rattle.q3_strings.specs.Laws.{IsCommand, BytesWerePut, BytesAreRead, StringReadIsSpelled, StringSpelledIsRead, CommandReadIsSpelled, CommandSpelledIsRead}
use Rattle.q3_strings.proofs.Fronts.{Read, with_front, isnt_zero, translated_is_text, bytes_none, bytes_more, string_end, string_more}

-- ---- bytes

-- so many bytes that were read
record ReadBytes (words : List (List Bool)) (count : ℕ) (bits : List Bool) (found : List ℕ × List Bool) : Type 0 where
  long : length found.0 ≡ count
  each : All (λ byte. byte < 256) found.0
  parts : bits ≡ bytes_row words found.0 ++ found.1

bytes_were : ReadWasPut → (words : List (List Bool)) → IsCode words → (count : ℕ) (bits : List Bool) (found : List ℕ × List Bool) → string_bytes_at words count bits ≡ Ok found
    → ReadBytes words count bits found
unfolding string_bytes_at
bytes_were put words code zero bits found e =
    let same : ([], bits) ≡ found = cc in
    subst (ReadBytes words 0 bits) {x = ([], bits)} same (record { long = refl; each = All-nil (λ (byte : ℕ). byte < 256); parts = row-none words bits })
bytes_were put words code (suc count) bits found e =
    let byte = bind_ok (field_at words 8 bits) (λ byte. string_bytes_at words count byte.1 >>= λ others. Ok (byte.0 ∷ others.0, others.1)) found e in
    let others = bind_ok (string_bytes_at words count byte.0.1) (λ others. Ok (byte.0.0 ∷ others.0, others.1)) found byte.2 in
    let made = others.2 in
    let same : (byte.0.0 ∷ others.0.0, others.0.1) ≡ found = cc in
    let was = field_was_put put words 8 bits byte.0 code byte.1 in
    let were = bytes_were put words code count byte.0.1 others.0 others.1 in
    subst (ReadBytes words (suc count) bits) {x = (byte.0.0 ∷ others.0.0, others.0.1)} same (record {
      long = ap (λ (n : ℕ). suc n) were.long;
      each = All-cons (λ (byte : ℕ). byte < 256) byte.0.0 others.0.0 was.fits were.each;
      parts = was.row (map (λ byte. (byte, 8)) others.0.0) others.0.1 were.parts;
    })

pub bytes_were_put : ReadWasPut → BytesWerePut
bytes_were_put put words count bytes bits rest code e =
    let were = bytes_were put words code count bits (bytes, rest) e in
    (were.long, were.each, were.parts)

pub bytes_are_read : PutIsRead → BytesAreRead
unfolding row_bits
bytes_are_read put words [] rest code each = bytes_none words rest
bytes_are_read put words (byte ∷ bytes) rest code each =
    let fits : byte < 2 ^ 8 = All-head (λ (b : ℕ). b < 256) byte bytes each in
    bytes_more words words (length bytes) (bytes_row words (byte ∷ bytes) ++ rest) byte (bytes_row words bytes ++ rest) refl
    (sym (row-first words code put byte 8 (map (λ b. (b, 8)) bytes) rest fits))
    ∙ ap (λ (read : Read ReadError). with_front (byte ∷ []) read) (bytes_are_read put words bytes rest code (All-tail (λ (b : ℕ). b < 256) byte bytes each))

-- ---- strings

-- a byte of a string
abbrev IsByte : ℕ → Type 0
IsByte byte = (0 < byte) × (byte < 256)

-- a string that was read
record ReadString (words : List (List Bool)) (most : ℕ) (bits : List Bool) (found : List ℕ × List Bool) : Type 0 where
  each : All IsTextByte found.0
  text : List Bool
  spells : SpellsString words most found.0 text
  parts : bits ≡ text ++ found.1

-- up to its 0
string_stops : ReadWasPut → (words : List (List Bool)) → IsCode words → (most : ℕ) (bits : List Bool) (byte : ℕ × List Bool) → field_at words 8 bits ≡ Ok byte → byte.0 ≡ 0
    → ReadString words most bits ([], byte.1)
string_stops put words code most bits byte e none =
    let was = field_was_put put words 8 bits byte code e in
    record {
      each = All-nil IsTextByte;
      text = string_bits words [];
      spells = ([], All-nil IsByte, omega arith, refl, refl);
      parts = was.row [] byte.1 (row-none words byte.1) ∙ ap (λ (n : ℕ). row_bits words ((n, 8) ∷ []) ++ byte.1) none;
    }

-- with a byte in front
string_goes_on : ReadWasPut → (words : List (List Bool)) → IsCode words → (most : ℕ) (bits : List Bool) (byte : ℕ × List Bool) (others : List ℕ × List Bool) → field_at words 8 bits ≡ Ok byte
    → 0 < byte.0 → ReadString words most byte.1 others → ReadString words (suc most) bits (translated byte.0 ∷ others.0, others.1)
string_goes_on put words code most bits byte others e some read =
    let was = field_was_put put words 8 bits byte code e in
    let bytes = read.spells.0 in
    record {
      each = All-cons IsTextByte (translated byte.0) others.0 (translated_is_text byte.0 some) read.each;
      text = string_bits words (byte.0 ∷ bytes);
      spells = (
        byte.0 ∷ bytes,
        All-cons IsByte byte.0 bytes (some, was.fits) read.spells.1,
        omega (arith, read.spells.2),
        ap (λ (text : List ℕ). translated byte.0 ∷ text) read.spells.3,
        refl,
      );
      parts = was.row (map (λ byte. (byte, 8)) (bytes ++ 0 ∷ [])) others.1 (read.parts ∙ ap (λ (text : List Bool). text ++ others.1) read.spells.4);
    }

string_was : ReadWasPut → (words : List (List Bool)) → IsCode words → (most : ℕ) (bits : List Bool) (found : List ℕ × List Bool) → bounded_string_at words most bits ≡ Ok found
    → ReadString words most bits found
unfolding bounded_string_at
string_was put words code zero bits found e =
    let byte = bind_ok (fault_as Bits (field_at words 8 bits)) (λ byte. cond (eqb byte.0 0) (Ok ([], byte.1)) (Err Long)) found e in
    let read = map_err_ok Bits (field_at words 8 bits) byte.0 byte.1 in
    elim (cases_Bool (eqb byte.0.0 0)) [
      | inl none ↦
          let made = rw none at byte.2 in
          let same : ([], byte.0.1) ≡ found = cc in
          subst (ReadString words 0 bits) {x = ([], byte.0.1)} same (string_stops put words code 0 bits byte.0 read (eqb-true byte.0.0 0 none))
      | inr some ↦ absurd (let wrong = rw some at byte.2 in cc)
    ]
string_was put words code (suc most) bits found e =
    let byte = bind_ok (fault_as Bits (field_at words 8 bits))
    (λ byte. cond (eqb byte.0 0) (Ok ([], byte.1)) (bounded_string_at words most byte.1 >>= λ others. Ok (translated byte.0 ∷ others.0, others.1))) found e in
    let read = map_err_ok Bits (field_at words 8 bits) byte.0 byte.1 in
    elim (cases_Bool (eqb byte.0.0 0)) [
      | inl none ↦
          let made = rw none at byte.2 in
          let same : ([], byte.0.1) ≡ found = cc in
          subst (ReadString words (suc most) bits) {x = ([], byte.0.1)} same (string_stops put words code (suc most) bits byte.0 read (eqb-true byte.0.0 0 none))
      | inr some ↦
          let others = bind_ok (bounded_string_at words most byte.0.1) (λ others. Ok (translated byte.0.0 ∷ others.0, others.1)) found (rw some at byte.2) in
          let made = others.2 in
          let same : (translated byte.0.0 ∷ others.0.0, others.0.1) ≡ found = cc in
          subst (ReadString words (suc most) bits) {x = (translated byte.0.0 ∷ others.0.0, others.0.1)} same
          (string_goes_on put words code most bits byte.0 others.0 read (omega (arith, eqb-false byte.0.0 0 some)) (string_was put words code most byte.0.1 others.0 others.1))
    ]

pub string_was_spelled : ReadWasPut → StringReadIsSpelled
string_was_spelled put words most text bits rest code e =
    let was = string_was put words code most bits (text, rest) e in
    (was.each, was.text, was.parts, was.spells)

-- a string that is spelled so is read
bytes_of_string : (words : List (List Bool)) → IsCode words → PutIsRead → (bytes : List ℕ) (most : ℕ) (rest : List Bool) → All IsByte bytes → length bytes ≤ most
    → bounded_string_at words most (string_bits words bytes ++ rest) ≡ Ok (map translated bytes, rest)
unfolding row_bits
bytes_of_string words code put [] most rest each short =
    string_end words words most (string_bits words [] ++ rest) 0 rest refl (sym (row-last words code put 0 8 rest (omega arith))) refl
bytes_of_string words code put (byte ∷ bytes) zero rest each short = absurd (omega (arith, short))
bytes_of_string words code put (byte ∷ bytes) (suc most) rest each short =
    let is = All-head IsByte byte bytes each in
    let fits : byte < 2 ^ 8 = is.1 in
    string_more words words most (string_bits words (byte ∷ bytes) ++ rest) byte (string_bits words bytes ++ rest) refl
    (sym (row-first words code put byte 8 (map (λ b. (b, 8)) (bytes ++ 0 ∷ [])) rest fits)) (isnt_zero byte is.0)
    ∙ ap (λ (read : Read StringError). with_front (translated byte ∷ []) read) (bytes_of_string words code put bytes most rest (All-tail IsByte byte bytes each) (omega (arith, short)))

pub string_is_read : PutIsRead → StringSpelledIsRead
string_is_read put words most text spelling rest code (bytes, each, short, is, whole) =
    ap (λ (bits : List Bool). bounded_string_at words most (bits ++ rest)) whole ∙ bytes_of_string words code put bytes most rest each short
    ∙ ap (λ (text : List ℕ). Ok (text, rest)) (sym is)

-- ---- commands

-- a command that was read
record ReadCommand (words : List (List Bool)) (bits : List Bool) (found : Command × List Bool) : Type 0 where
  is : IsCommand found.0
  text : List Bool
  spells : SpellsCommand words found.0 text
  parts : bits ≡ text ++ found.1

-- its number, and its string after it
command_was : (words : List (List Bool)) (bits : List Bool) (number : ℕ × List Bool) (string : List ℕ × List Bool) → WasField words 32 bits number
    → All IsTextByte string.0 × (spelling : List Bool) × (number.1 ≡ spelling ++ string.1) × SpellsString words most_bytes string.0 spelling
    → ReadCommand words bits (record { number = number.0; text = string.0 }, string.1)
command_was words bits number string was were =
    let field = row_bits words ((number.0, 32) ∷ []) in
    record {
      is = record { number = was.fits; text = record { short = rw (were.3.3, length-map) were.3.2; each = were.0 } };
      text = field ++ were.1;
      spells = (were.1, was.fits, were.3, refl);
      parts = was.row [] number.1 (row-none words number.1) ∙ ap (λ (left : List Bool). field ++ left) were.2 ∙ sym (append_assoc field were.1 string.1);
    }

pub command_was_spelled : ReadWasPut → StringReadIsSpelled → CommandReadIsSpelled
unfolding command_at
command_was_spelled put law words command bits rest code e =
    let number = bind_ok (fault_as Bits (field_at words 32 bits)) (λ number. bounded_string_at words most_bytes number.1 >>= λ text. Ok (record { number = number.0; text = text.0 }, text.1)) (command, rest) e in
    let string = bind_ok (bounded_string_at words most_bytes number.0.1) (λ text. Ok (record { number = number.0.0; text = text.0 }, text.1)) (command, rest) number.2 in
    let was = field_was_put put words 32 bits number.0 code (map_err_ok Bits (field_at words 32 bits) number.0 number.1) in
    let were = law words most_bytes string.0.0 number.0.1 string.0.1 code string.1 in
    let made = string.2 in
    let read : Command = record { number = number.0.0; text = string.0.0 } in
    let same : (read, string.0.1) ≡ (command, rest) = cc in
    let command_is = subst (ReadCommand words bits) {x = (read, string.0.1)} same (command_was words bits number.0 string.0 was were) in
    (command_is.is, command_is.text, command_is.parts, command_is.spells)

pub command_is_read : PutIsRead → StringSpelledIsRead → CommandSpelledIsRead
unfolding command_at
command_is_read put law words command spelling rest code (text, fits, spelled, whole) =
    let field = row_bits words ((command.number, 32) ∷ []) in
    let same : spelling ++ rest ≡ field ++ (text ++ rest) = ap (λ (bits : List Bool). bits ++ rest) whole ∙ append_assoc field text rest in
    rw (same, row-last words code put command.number 32 (text ++ rest) fits, law words most_bytes command.text text rest code spelled) refl
