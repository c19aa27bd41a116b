-- A demo that is played record by record.
use Rattle.std.specs.Prelude.{◌≡◌, ℕ, ⊤, nat_lt, if◌then◌else◌, List, Option, Some, None, Result, Ok, Err}
use Rattle.q3_text.specs.declared.text.Command.{Command}
use Rattle.q3_clstate.specs.declared.applied.Applied.{Applied}
use Rattle.q3_demo.specs.declared.error.DemoError.{DemoError}
use Rattle.q3_demo.specs.declared.error.DemoError.TheVariants.{ReadFault, Truncated}
use Rattle.q3_demo.specs.declared.record.Piece.{Piece}
use Rattle.q3_demo.specs.declared.record.Piece.TheVariants.{End, Message}
use Rattle.q3_demo.specs.Playing.{Played, Stepped, next_piece, step, most_records}

-- how far a demo was played, and the commands that the last record's message executed
pub record PlayerState : Type 0 where
  pub played : Played
  pub heard : List Command

-- of a demo that is played from its first record: after the most that may be played, anything but the demo's end is refused
abbrev pub at_most_end : Played → Result Piece DemoError → Result (Option Stepped) DemoError
at_most_end played (Ok End) = Ok None
at_most_end played other = Err (Truncated played.at)

abbrev pub step_of_all : List ℕ → Played → Result (Option Stepped) DemoError
step_of_all demo played = if nat_lt played.records most_records then step demo played else at_most_end played (next_piece demo played)

-- the next record was played, or the demo ends there, or it is refused, unless a read failed
abbrev pub PlaysOn : Result (Option Stepped) DemoError → PlayerState → PlayerState → Result (Option Applied) DemoError → Type 0
PlaysOn step was now (Ok (Some answer)) =
    (stepped : Stepped) × (step ≡ Ok (Some stepped)) × (now ≡ record { played = stepped.played; heard = stepped.applied.heard }) × (answer ≡ stepped.applied.answer)
PlaysOn step was now (Ok None) = (step ≡ Ok None) × (now ≡ was)
PlaysOn step was now (Err ReadFault) = ⊤
PlaysOn step was now (Err e) = step ≡ Err e

-- what a piece that was read counts as after the last record that may be played
abbrev pub end_alone : ℕ → Result Piece DemoError → Result (Option Applied) DemoError
end_alone at (Ok End) = Ok None
end_alone at (Ok (Message number length next)) = Err (Truncated at)
end_alone at (Err ReadFault) = Err ReadFault
end_alone at (Err e) = Err (Truncated at)
