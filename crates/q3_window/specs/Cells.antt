-- How a window keeps its commands: each in the place of its number modulo 64.
use Rattle.std.specs.Prelude.{◌≡◌, ℕ, zero, suc, ◌+◌, ◌-◌, ◌%◌, ◌<◌, ◌≤◌, List, [], ◌∷◌, length, slice_index_or}
use Rattle.q3_text.specs.declared.text.Command.{Command}
use Rattle.q3_window.specs.declared.outgoing.Outgoing.TheInside.{Inside}
use Rattle.q3_window.specs.Outgoing.{OutgoingState, IsOutgoing, total_of}

-- how many places there are
abbrev pub places : ℕ
places = 64

-- what stands where there is no place
abbrev pub blank : Command
blank = record { number = 0; text = [] }

-- what stands in the place of a number
abbrev pub cell_at : List Command → ℕ → Command
cell_at cells number = slice_index_or cells (number % places) blank

-- the text that stands in the place of a number; that of 0 is empty
abbrev pub kept_text : List Command → ℕ → List ℕ
kept_text cells zero = []
kept_text cells (suc k) = (cell_at cells (suc k)).text

-- so many of these texts, from a number on
unfoldable pub texts_from : List Command → ℕ → ℕ → List (List ℕ)
texts_from cells first zero = []
texts_from cells first (suc count) = kept_text cells first ∷ texts_from cells (first + 1) count

-- the window that places show, by the last number that was acknowledged and the last that was issued
abbrev pub window_of : List Command → ℕ → ℕ → OutgoingState
window_of cells acknowledged issued = record {
  acknowledged = acknowledged;
  text = kept_text cells acknowledged;
  waiting = texts_from cells (acknowledged + 1) (issued - acknowledged);
}

-- each command that waits stands in its place, under its number, and the bytes of their texts are counted
pub record AreKept (cells : List Command) (acknowledged issued bytes : ℕ) : Type 0 where
  pub count : length cells ≡ places
  pub within : acknowledged ≤ issued
  pub total : bytes ≡ total_of (texts_from cells (acknowledged + 1) (issued - acknowledged))
  pub numbers : (number : ℕ) → acknowledged < number → number ≤ issued → (cell_at cells number).number ≡ number
  pub is : IsOutgoing (window_of cells acknowledged issued)

-- a window's parts, and its text of the number 0
pub record IsKept (w : Inside) : Type 0 where
  pub kept : AreKept w.cells.items w.acknowledged w.issued w.bytes
  pub empty : w.empty ≡ []

-- the window that its parts show
abbrev pub window_in : Inside → OutgoingState
window_in w = window_of w.cells.items w.acknowledged w.issued
