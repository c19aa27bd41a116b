-- How a demo is read and played from a file.
use Rattle.std.specs.Prelude.{◌≡◌, ◌≢◌, ℕ, ◌≤◌, true, false, List, drop, take, length, slice_index, Option, Some, None, Result, Ok, Err}
use Rattle.std.specs.List.{concat}
use Rattle.q3_io.specs.Faults.{Rose}
use Rattle.q3_io.specs.Told.{Told, contents_at}
use Rattle.q3_io.specs.Written.{Written, Wrote}
use Rattle.q3_demo.specs.declared.error.DemoError.{DemoError}
use Rattle.q3_demo.specs.declared.error.DemoError.TheVariants.{ReadFault, WriteFault, NoMemory}
use Rattle.q3_demo.specs.declared.record.Piece.{Piece}
use Rattle.q3_demo.specs.declared.record.Piece.TheVariants as piece
use Rattle.q3_demo.specs.Records.{head_bytes, piece_of}
use Rattle.q3_demo.specs.Playing.{Play, play_text}

-- ---- what a file holds

-- where it is told, the file has these bytes from a place on; else it may have any
abbrev pub HasFrom : Option Told → ℕ → ℕ → List ℕ → Type 0
HasFrom None file at bytes = Unit {0}
HasFrom (Some told) file at bytes = bytes ≡ drop at (contents_at told file)

-- what is asked for grows, and nothing else changes
abbrev pub OnlyAsks : Option Told → Option Told → Type 0
OnlyAsks None now = now ≡ None
OnlyAsks (Some told) now = (asked : List ℕ) × (now ≡ Some (record told { asked = asked }))

-- how many bytes of a file were asked for, where it is told
abbrev pub asked_of : Option Told → ℕ → ℕ
asked_of None file = 0
asked_of (Some told) file = slice_index told.asked file

-- only of one file more was asked for
abbrev pub AsksOf : ℕ → Option Told → Option Told → Type 0
AsksOf file before now = (other : ℕ) → other ≢ file → asked_of now other ≡ asked_of before other

-- ---- a record

-- the buffer begins with the message of a record
abbrev pub HoldsMessage : List ℕ → Result Piece DemoError → List ℕ → Type 0
HoldsMessage bytes (Ok (piece.Message number length next)) buffer = take length buffer ≡ take length (drop head_bytes bytes)
HoldsMessage bytes other buffer = Unit {0}

-- what stands at a place was found, unless a read failed
abbrev pub FindsPiece : List ℕ → ℕ → ℕ → List ℕ → Result Piece DemoError → Type 0
FindsPiece bytes at last buffer (Err ReadFault) = Unit {0}
FindsPiece bytes at last buffer result = (result ≡ piece_of bytes at last) × HoldsMessage bytes result buffer

-- ---- playing

-- the text of playing was printed and it ended so; or something from outside ended it early: before the first line where memory ran out,
-- after the first of the texts, whole, where a read failed, and where the sink did it took a front
abbrev pub Plays : Play → Option Written → Option Written → Result (Unit {0}) DemoError → Type 0
Plays play before after (Err NoMemory) = after ≡ before
Plays play before after (Err ReadFault) = (count : ℕ) × Wrote before after (concat (take count play.texts)) true
Plays play before after (Err WriteFault) = Wrote before after (play_text play) false
Plays play before after result = (result ≡ play.ending) × Wrote before after (play_text play) true

-- ---- causes

-- a fault of reading comes only where the files' count rose, one of writing only where the sink's did, and no fault is passed over
abbrev pub ReadCause : {T : Type 0} → ℕ → ℕ → Result T DemoError → Type 0
ReadCause before now (Err ReadFault) = (before ≤ now) × Rose before now
ReadCause before now other = now ≡ before

abbrev pub WriteCause : {T : Type 0} → ℕ → ℕ → Result T DemoError → Type 0
WriteCause before now (Err WriteFault) = (before ≤ now) × Rose before now
WriteCause before now other = now ≡ before
