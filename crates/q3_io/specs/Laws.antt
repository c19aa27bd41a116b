-- Laws of what is written to a sink, for rows of calls and for loops.
use Rattle.std.specs.Prelude.{◌≡◌, ℕ, ◌+◌, ◌<◌, Bool, true, false, List, [], ◌++◌, length, take, get_or, Option, Some}
use Rattle.std.specs.List.{flat_map}
use Rattle.q3_io.specs.Written.{Written, Wrote, NothingWaits}

-- nothing, a text after a text, and what ended in a front of a text and so in the text
pub record TextsFollow : Type 0 where
  pub none : {written : Option Written} → Wrote written written [] true
  pub more : {old mid new : Option Written} {front rest whole : List ℕ} {all : Bool}
      → Wrote old mid front true → Wrote mid new rest all → whole ≡ front ++ rest → Wrote old new whole all
  pub early : {old new : Option Written} {front whole : List ℕ} (rest : List ℕ)
      → Wrote old new front false → whole ≡ front ++ rest → Wrote old new whole false

-- the texts of items, one after another: those before an index are followed by the one there, or by the end of them all
pub record ItemsFollow (X : Type 0) : Type 0 where
  pub more : (text : X → List ℕ) (items : List X) (k : ℕ) (none : X) {old mid new : Option Written} → k < length items
      → Wrote old mid (flat_map text (take k items)) true → Wrote mid new (text (get_or items k none)) true
      → Wrote old new (flat_map text (take (k + 1) items)) true
  pub early : (text : X → List ℕ) (items : List X) (k : ℕ) (none : X) {old mid new : Option Written} → k < length items
      → Wrote old mid (flat_map text (take k items)) true → Wrote mid new (text (get_or items k none)) false
      → Wrote old new (flat_map text items) false

-- where nothing waits in the end, all that waited and the text was handed on
abbrev pub AllIsSent : Type 0
AllIsSent = (had now : Written) (text : List ℕ) → Wrote (Some had) (Some now) text true → NothingWaits (Some now)
    → now.sent ≡ had.sent ++ had.waits ++ text
