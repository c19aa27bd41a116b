-- Bytes that are written to memory.
use Rattle.std.specs.Prelude.{◌≡◌, ℕ, List, ◌++◌, Result, Ok, Err}

-- the bytes, and how often a write found no memory
pub record BufferState : Type 0 where
  pub bytes : List ℕ
  pub faults : ℕ

-- a text was put after bytes, or they are as they were
abbrev pub Appends : {T E : Type 0} → List ℕ → List ℕ → List ℕ → Result T E → Type 0
Appends old new text (Ok x) = new ≡ old ++ text
Appends old new text (Err e) = new ≡ old
