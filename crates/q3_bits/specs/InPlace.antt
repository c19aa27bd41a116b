-- Values that are read one after the other over those of a list.
use Rattle.std.specs.Prelude.{◌≡◌, ℕ, ◌+◌, Bool, List, ◌∷◌, ◌++◌, length, take, drop, Result, Ok}
use Rattle.q3_bits.specs.ResultBind.{◌>>=◌}
use Rattle.q3_bits.specs.Streams.{Reading}
use Rattle.q3_bits.specs.declared.reader.ReadError.{ReadError}

-- what is read of a list: its new values, and the bits after them
abbrev pub ListRead : Type 0
ListRead = Result (List ℕ × List Bool) ReadError

-- with values that were read before
abbrev pub with_front : List ℕ → ListRead → ListRead
with_front front read = read >>= λ x. Ok (front ++ x.0, x.1)

-- a value, and what is read after it
abbrev pub with_first : ℕ → ListRead → ListRead
with_first y read = read >>= λ x. Ok (y ∷ x.0, x.1)

-- so far as many values are over the old ones, and with them what is left reads as all did at the start
pub record HasRead (start now : Reading) (k : ℕ) (from into : List ℕ) (left whole : ListRead) : Type 0 where
  pub words : now.words ≡ start.words
  pub place : now.place + length now.left ≡ start.place + length start.left
  pub after : drop k into ≡ drop k from
  pub long : length into ≡ length from
  pub reads : with_front (take k into) left ≡ whole
