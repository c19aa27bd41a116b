-- What an input decides, and that a demo is refused by what it holds alone.
use Rattle.std.proofs.Common.{ℕ, zero, suc, ◌+◌, List, drop, length, Option, Some, None, Result, Ok, Err, inl, inr}
use Rattle.std.specs.Prelude.{nat_lt, nat_le, ◌==◌, ◌||◌}
use Rattle.std.proofs.lemmas.Bool.{cases_Bool}
use Rattle.std.specs.Result.{result_map_both}
use Rattle.q3_bits.specs.ResultBind.{◌>>=◌, fault_as}
use Rattle.q3_profile.specs.declared.profile.Profile.{Profile}
use Rattle.q3_profile.specs.declared.error.ProfileError.{ProfileError}
use Rattle.q3_profile.specs.Profile.{checked}
use Rattle.q3_script.specs.declared.event.Event.{Event}
use Rattle.q3_script.specs.declared.cause.ScriptKind.{ScriptKind}
use Rattle.q3_script.specs.Script.{BadLine, script_at}
use Rattle.q3_svmsg.specs.declared.error.Illegible.{Illegible}
use Rattle.q3_clstate.specs.State.{Application, apply_at}
use Rattle.q3_demo.specs.declared.error.DemoError.{DemoError}
use Rattle.q3_demo.specs.declared.error.DemoError.TheVariants as demo
use Rattle.q3_demo.specs.declared.record.Piece.{Piece}
use Rattle.q3_demo.specs.declared.record.Piece.TheVariants as piece
use Rattle.q3_demo.specs.Records.{head_bytes, number_of, length_of, end_mark, longest_record, number_end, most_bytes, piece_of}
use Rattle.q3_demo.specs.Playing.{Played, Play, Stepped, unplayed, next_piece, message_of, played_on, play_piece, step, most_records, at_most, play_step, play_from, play_of}
use Rattle.q3_runs.specs.declared.fault.Fault.{Fault}
use Rattle.q3_runs.specs.declared.fault.Fault.TheVariants as faults
use Rattle.q3_runs.specs.Faults.{demo_fault}
use Rattle.q3_runs.specs.Verdict.{profile_in, events_in}

-- ---- what an input decides: no failed write, no fault of the wire, and not that the words are no command line

abbrev pub OfFault : Fault → Type 0
OfFault faults.Usage = ⊥
OfFault faults.Write = ⊥
OfFault faults.FileWrite = ⊥
OfFault faults.Wire = ⊥
OfFault other = Unit {0}

abbrev pub OfInput : {A : Type 0} → Result A Fault → Type 0
OfInput (Ok x) = Unit {0}
OfInput (Err e) = OfFault e

pub bind_of_input : {A B : Type 0} (first : Result A Fault) (then : A → Result B Fault) → OfInput first → ((x : A) → OfInput (then x)) → OfInput (first >>= then)
bind_of_input (Ok x) then so goes = goes x
bind_of_input (Err e) then so goes = so

checked_of_input : (says : Result Profile ProfileError) → OfInput (result_map_both (λ profile. profile) faults.Profile says)
checked_of_input (Ok by) = tt
checked_of_input (Err e) = tt

pub profile_of_input : (file : Option (List ℕ)) → OfInput (profile_in file)
profile_of_input None = tt
profile_of_input (Some bytes) = checked_of_input (checked bytes)

script_of_input : (says : Result (List Event) BadLine) → OfInput (result_map_both (λ events. events) (λ (bad : BadLine). faults.Script bad.line bad.cause) says)
script_of_input (Ok events) = tt
script_of_input (Err bad) = tt

pub events_of_input : (kind : ScriptKind) (file : Option (List ℕ)) → OfInput (events_in kind file)
events_of_input kind None = tt
events_of_input kind (Some bytes) = script_of_input (script_at kind bytes)

-- ---- a demo

-- why a demo is refused
abbrev pub OfDemo : DemoError → Type 0
OfDemo demo.NoMemory = ⊥
OfDemo demo.ReadFault = ⊥
OfDemo demo.WriteFault = ⊥
OfDemo other = Unit {0}

abbrev pub Refuses : {A : Type 0} → Result A DemoError → Type 0
Refuses (Ok x) = Unit {0}
Refuses (Err e) = OfDemo e

piece_refuses : (bytes : List ℕ) (at last : ℕ) → Refuses (piece_of bytes at last)
piece_refuses bytes at last =
    elim (cases_Bool (nat_lt (length bytes) head_bytes || (length_of bytes == end_mark))) [
      | inl end ↦ rw end tt
      | inr goes ↦ elim (cases_Bool (nat_lt longest_record (length_of bytes))) [
        | inl long ↦ rw (goes, long) tt
        | inr fits ↦ elim (cases_Bool (nat_le (number_of bytes) last || nat_le number_end (number_of bytes))) [
          | inl bad ↦ rw (goes, fits, bad) tt
          | inr rises ↦ elim (cases_Bool (nat_lt (length bytes) (head_bytes + length_of bytes) || nat_lt most_bytes (at + head_bytes + length_of bytes))) [
            | inl cut ↦ rw (goes, fits, rises, cut) tt
            | inr whole ↦ rw (goes, fits, rises, whole) tt
          ]
        ]
      ]
    ]

message_refuses : (played : Played) (number next : ℕ) (applied : Result Application Illegible)
    → Refuses (fault_as (demo.Message played.at) applied >>= λ (a : Application). Ok (Some (played_on played number next a)))
message_refuses played number next (Ok applied) = tt
message_refuses played number next (Err e) = tt

piece_played : (bytes : List ℕ) (played : Played) (found : Result Piece DemoError) → Refuses found → Refuses (found >>= play_piece bytes played)
piece_played bytes played (Ok piece.End) so = tt
piece_played bytes played (Ok (piece.Message number length next)) so = message_refuses played number next (apply_at played.state number (message_of bytes played length))
piece_played bytes played (Err e) so = so

step_refuses : (bytes : List ℕ) (played : Played) → Refuses (step bytes played)
step_refuses bytes played = piece_played bytes played (next_piece bytes played) (piece_refuses (drop played.at bytes) played.at played.last)

most_refuse : (played : Played) (found : Result Piece DemoError) → Refuses (at_most played found).ending
most_refuse played (Ok piece.End) = tt
most_refuse played (Ok (piece.Message number length next)) = tt
most_refuse played (Err e) = tt

stepped_refuses : (played : Played) (stepped : Result (Option Stepped) DemoError) (others : Played → Play) → ((after : Played) → Refuses (others after).ending) → Refuses stepped
    → Refuses (play_step played stepped others).ending
stepped_refuses played (Ok None) others so is = tt
stepped_refuses played (Ok (Some stepped)) others so is = so stepped.played
stepped_refuses played (Err e) others so is = is

from_refuses : (left : ℕ) (bytes : List ℕ) (played : Played) → Refuses (play_from left bytes played).ending
unfolding play_from
from_refuses zero bytes played = most_refuse played (next_piece bytes played)
from_refuses (suc left) bytes played =
    stepped_refuses played (step bytes played) (play_from left bytes) (λ after. from_refuses left bytes after) (step_refuses bytes played)

of_input : (ending : Result (Unit {0}) DemoError) → Refuses ending → OfInput (result_map_both (λ x. x) demo_fault ending)
of_input (Ok x) so = tt
of_input (Err demo.NoMemory) so = absurd so
of_input (Err demo.ReadFault) so = absurd so
of_input (Err demo.WriteFault) so = absurd so
of_input (Err (demo.Truncated at)) so = tt
of_input (Err (demo.BadLength at)) so = tt
of_input (Err (demo.BadNumber at)) so = tt
of_input (Err (demo.Message at cause)) so = tt

-- a demo that is played ends with no want of memory and no fault
pub all_refuses : (by : Profile) (bytes : List ℕ) → Refuses (play_of by bytes).ending
all_refuses by bytes = from_refuses most_records bytes (unplayed by)

pub play_refuses : (by : Profile) (bytes : List ℕ) → OfInput (result_map_both (λ x. x) demo_fault (play_of by bytes).ending)
play_refuses by bytes = of_input (play_of by bytes).ending (all_refuses by bytes)
