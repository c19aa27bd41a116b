-- What a call adds to the bytes of a file, and to those that a sink hands on and holds back.
use Rattle.std.specs.Prelude.{◌≡◌, ℕ, Bool, if◌then◌else◌, List, [], ◌++◌, Option, Some, None, IfSome, Result, Ok, Err, is_ok}

-- these bytes, or at an error a front of them
abbrev pub Added : {T E : Type 0} → List ℕ → Result T E → List ℕ → Type 0
Added bytes (Ok x) added = added ≡ bytes
Added bytes (Err e) added = (rest : List ℕ) × (added ++ rest ≡ bytes)

-- the bytes that a sink has handed on, and those that it holds back until a later call
pub record Written : Type 0 where
  pub sent : List ℕ
  pub waits : List ℕ

-- From the front of what waited and of the text, bytes were handed on.
-- The others wait now, if all of the text was taken, and are lost if not.
pub record Wrote (old new : Option Written) (text : List ℕ) (all : Bool) : Type 0 where
  pub untold : old ≡ None → new ≡ None
  pub told : (had : Written) → old ≡ Some had → (added others : List ℕ)
      × (added ++ others ≡ had.waits ++ text)
      × (new ≡ Some (record { sent = had.sent ++ added; waits = if all then others else [] }))

-- the text was added, or at an error a front of what waited and of the text
abbrev pub Adds : {T E : Type 0} → Option Written → Option Written → List ℕ → Result T E → Type 0
Adds old new text result = Wrote old new text (is_ok result)

-- no bytes are held back
abbrev pub NothingWaits : Option Written → Type 0
NothingWaits written = IfSome written (λ w. w.waits ≡ [])

-- what is told of a sink that holds nothing back
abbrev pub all_sent : List ℕ → Written
all_sent sent = record { sent = sent; waits = [] }
