-- After the last record that may be played, a demo ends or is refused.
use Rattle.std.proofs.Common.{◌≡◌, ℕ, false, List, drop, Result, Ok, Err, sym, ap, ◌∙◌}
use Rattle.std.specs.Prelude.{nat_lt}
use Rattle.q3_demo.specs.declared.error.DemoError.{DemoError}
use Rattle.q3_demo.specs.declared.error.DemoError.TheVariants.{ReadFault, Truncated, BadLength, BadNumber, Message as NoMessage, NoMemory, WriteFault}
use Rattle.q3_demo.specs.declared.record.Piece.{Piece}
use Rattle.q3_demo.specs.declared.record.Piece.TheVariants as piece
use Rattle.q3_demo.specs.Records.{piece_of}
use Rattle.q3_demo.specs.Playing.{Played, most_records}
use Rattle.q3_demo.specs.Running.{FindsPiece}
use Rattle.q3_demo.specs.Player.{PlayerState, PlaysOn, at_most_end, end_alone, step_of_all}

-- there the piece that stands there alone decides
all_is : (demo bytes : List ℕ) (played : Played) (found : Result Piece DemoError) → nat_lt played.records most_records ≡ false → drop played.at demo ≡ bytes
    → found ≡ piece_of bytes played.at played.last → step_of_all demo played ≡ at_most_end played found
all_is demo bytes played found late there is =
    rw late (ap (λ (bytes : List ℕ). at_most_end played (piece_of bytes played.at played.last)) there ∙ ap (at_most_end played) (sym is))

-- so it does where it was read
pub ends_all : (demo bytes : List ℕ) (was now : PlayerState) (buffer : List ℕ) (found : Result Piece DemoError) → nat_lt was.played.records most_records ≡ false
    → drop was.played.at demo ≡ bytes → FindsPiece bytes was.played.at was.played.last buffer found → now ≡ was
    → PlaysOn (step_of_all demo was.played) was now (end_alone was.played.at found)
ends_all demo bytes was now buffer (Ok piece.End) late there finds same = (all_is demo bytes was.played (Ok piece.End) late there finds.0, same)
ends_all demo bytes was now buffer (Ok (piece.Message number size next)) late there finds same =
    all_is demo bytes was.played (Ok (piece.Message number size next)) late there finds.0
ends_all demo bytes was now buffer (Err ReadFault) late there finds same = tt
ends_all demo bytes was now buffer (Err (Truncated at)) late there finds same = all_is demo bytes was.played (Err (Truncated at)) late there finds.0
ends_all demo bytes was now buffer (Err (BadLength at)) late there finds same = all_is demo bytes was.played (Err (BadLength at)) late there finds.0
ends_all demo bytes was now buffer (Err (BadNumber at)) late there finds same = all_is demo bytes was.played (Err (BadNumber at)) late there finds.0
ends_all demo bytes was now buffer (Err (NoMessage at cause)) late there finds same = all_is demo bytes was.played (Err (NoMessage at cause)) late there finds.0
ends_all demo bytes was now buffer (Err NoMemory) late there finds same = all_is demo bytes was.played (Err NoMemory) late there finds.0
ends_all demo bytes was now buffer (Err WriteFault) late there finds same = all_is demo bytes was.played (Err WriteFault) late there finds.0
