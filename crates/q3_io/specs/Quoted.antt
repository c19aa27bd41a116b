-- How a text is spelled in a script and in a report.
use Rattle.std.specs.Prelude.{ℕ, ◌==◌, ◌&&◌, nat_le, if◌then◌else◌, List, [], ◌∷◌, ◌++◌, codes}
use Rattle.std.specs.List.{flat_map}
use Rattle.hex.specs.Hex.{encode_lower}

-- a quote, a backslash and a newline are escaped, and what doesn't print is in hex
abbrev pub byte_spelling : ℕ → List ℕ
byte_spelling byte =
    if byte == 34 then codes "\\\""
    else if byte == 92 then codes "\\\\"
    else if byte == 10 then codes "\\n"
    else if nat_le 32 byte && nat_le byte 126 then byte ∷ []
    else codes "\\x" ++ encode_lower (byte ∷ [])

-- the text between two quotes
abbrev pub quoted : List ℕ → List ℕ
quoted text = codes "\"" ++ flat_map byte_spelling text ++ codes "\""
