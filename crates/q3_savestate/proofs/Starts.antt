-- What stands in front of a state: the last command's text.
use Rattle.std.proofs.Common.{◌≡◌, ℕ, ◌≤◌, true, List, [], ◌∷◌, Ok, sym, arith}
use Rattle.std.specs.Prelude.{nat_lt, ◌==◌, ◌&&◌, not}
use Rattle.std.specs.List.{All, list_all}
use Rattle.std.proofs.lemmas.Bool.{and_parts, ltb-true}
use Rattle.std.proofs.lemmas.List.Elements.{All-nil, All-cons}
use Rattle.q3_text.specs.Texts.{most_bytes, IsTextByte, IsText}
use Rattle.q3_savestate.specs.Cursor.{Cursor, is_text_byte, text_at}
use Rattle.q3_savestate.proofs.Ranges.{text_told}

text_byte : (byte : ℕ) → is_text_byte byte ≡ true → IsTextByte byte
text_byte byte is =
    let parts = and_parts (nat_lt 0 byte && nat_lt byte 128) (not (byte == 37)) is in
    let bounds = and_parts (nat_lt 0 byte) (nat_lt byte 128) parts.0 in
    record {
      some = ltb-true 0 byte bounds.0;
      seven_bits = ltb-true byte 128 bounds.1;
      no_percent = λ same. let here : not (37 == 37) ≡ true = rw same at parts.1 in cc;
    }

text_bytes : (text : List ℕ) → list_all is_text_byte text ≡ true → All IsTextByte text
text_bytes [] are = All-nil IsTextByte
text_bytes (byte ∷ text) are =
    let parts = and_parts (is_text_byte byte) (list_all is_text_byte text) are in
    All-cons IsTextByte byte text (text_byte byte parts.0) (text_bytes text parts.1)

-- what is read as a text is one
pub is_text : (count : ℕ) (cursor next : Cursor) (text : List ℕ) → count ≤ most_bytes → Ok (text, next) ≡ text_at count cursor → IsText text
is_text count cursor next text few read =
    let told = text_told count cursor next text (sym read) in
    let size = told.1 in
    record { short = omega arith; each = text_bytes text told.0 }
