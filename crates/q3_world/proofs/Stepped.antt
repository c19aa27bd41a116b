-- A line that makes a datagram.
use Rattle.std.proofs.Common.{◌≡◌, ℕ, ◌+◌, ◌≤◌, List, length, Option, Some, None, Result, Ok, Err, arith}
use Rattle.std.proofs.lemmas.List.{length_push}
use Rattle.q3_chan.specs.Sending.{Piece}
use Rattle.q3_server.specs.Server.{emit_at}
use Rattle.q3_client.specs.Sending as speaks
use Rattle.q3_ends.specs.Recording.{asking}
use Rattle.q3_world.specs.declared.made.Direction.{Direction}
use Rattle.q3_world.specs.declared.made.Direction.TheVariants.{ToClient, ToServer}
use Rattle.q3_world.specs.declared.places.Place.{Place}
use Rattle.q3_world.specs.Kept.{SentBytes, Kept, KeptStep, datagrams_after, kept_serve, kept_send}
use Rattle.q3_world.specs.Counting.{Counting}
use Rattle.q3_world.specs.Doing.{Tells, Does}
use Rattle.q3_world.specs.declared.told.StepError.{StepError}
use Rattle.q3_io.specs.Written.{Written}

few_made : (datagrams : List SentBytes) (c : ℕ) (direction : Direction) (piece : Option Piece)
    → length (datagrams_after datagrams c direction piece) ≤ length datagrams + 1
few_made datagrams c direction None = omega arith
few_made datagrams c direction (Some piece) = omega (arith, length_push datagrams (record { client = c; direction = direction; bytes = piece.bytes }))

pub few_served : (kept : Kept) (c : ℕ) → length (kept_serve kept c (emit_at kept.ends.server c)).kept.datagrams ≤ length kept.datagrams + 1
few_served kept c = few_made kept.datagrams c ToClient (emit_at kept.ends.server c).piece

pub few_sent : (kept : Kept) (c : ℕ) (found : Option Place) → length (kept_send kept c found).kept.datagrams ≤ length kept.datagrams + 1
few_sent kept c None = omega arith
few_sent kept c (Some place) = few_made kept.datagrams c (ToServer place.address) (speaks.emit_at (asking place.client place.recording)).piece

-- ---- an answer that is told

-- where a step's state is kept and its answer told, the world does it
pub tells_does : (old new : Counting) (before after : Option Written) (were are : ℕ) (step : KeptStep) (result : Result (Unit {0}) StepError) → new.kept ≡ step.kept
    → Tells old.counts new.counts before after were are step.answer result → length step.kept.datagrams ≤ length old.kept.datagrams + 1
    → Does old new before after were are step result
tells_does old new before after were are step (Ok x) kept tells few = record {
  kept = kept;
  counts = tells.counts;
  printed = tells.printed;
  flushed = tells.flushed;
  cause = tells.cause;
  no_memory = λ is. absurd (tells.memory is);
  few = rw kept few;
}
tells_does old new before after were are step (Err e) kept tells few = record {
  kept = tt;
  counts = tt;
  printed = tells.printed;
  flushed = tells.flushed;
  cause = tells.cause;
  no_memory = λ is. absurd (tells.memory is);
  few = rw kept few;
}
