-- What the records of a demo do, by its bytes.
use Rattle.std.proofs.Common.{◌≡◌, ℕ, zero, suc, ◌+◌, ◌-◌, ◌*◌, ◌<◌, ◌≤◌, List, [], ◌∷◌, ◌++◌, length, take, drop, Option, Some, None, Result, Ok, refl, sym, ap, ◌∙◌, arith, append_assoc}
use Rattle.std.specs.Prelude.{flat_map}
use Rattle.std.specs.Result.{result_ok}
use Rattle.std.proofs.lemmas.List.{length-append, length-drop, drop-drop, drop_at, take_at}
use Rattle.byteorder.specs.Endian.{little_bytes}
use Rattle.byteorder.specs.Numbers.{little_number-reads_back}
use Rattle.q3_bits.specs.ResultBind.{◌>>=◌, fault_as}
use Rattle.q3_bits.proofs.Binds.{bind_is}
use Rattle.q3_profile.specs.declared.profile.Profile.{Profile}
use Rattle.q3_svmsg.specs.declared.error.Illegible.{Illegible}
use Rattle.q3_clstate.specs.State.{AppliedState, Application, new_state, apply_at}
use Rattle.q3_demo.specs.declared.error.DemoError.{DemoError}
use Rattle.q3_demo.specs.declared.error.DemoError.TheVariants.{Message as NoMessage}
use Rattle.q3_demo.specs.declared.record.Piece.{Piece}
use Rattle.q3_demo.specs.declared.record.Piece.TheVariants as piece
use Rattle.q3_demo.specs.Records.{head_bytes, longest_record, number_end, most_bytes, piece_of}
use Rattle.q3_demo.specs.Recording.{record_bytes, end_bytes}
use Rattle.q3_demo.specs.Playing.{Played, Stepped, unplayed, next_piece, message_of, played_on, play_piece, step, most_records, at_most, play_step, play_from, play_of, next_records, records_from, last_of, last_played}
use Rattle.q3_demo.proofs.Pieces.{HasHead, record_is}
use Rattle.q3_recordings.specs.Plays.{applied_so, next_applied, applied_from, applied_of}

-- ---- records

pub record Record : Type 0 where
  pub number : ℕ
  pub message : List ℕ

abbrev pub bytes_of : List Record → List ℕ
bytes_of records = flat_map (λ (r : Record). record_bytes r.number r.message) records

-- what these records do from a state on, after a record of this number
abbrev pub Does : AppliedState → ℕ → List Record → List Application → Type 0
Does state last [] [] = Unit {0}
Does state last (r ∷ records) (a ∷ applied) =
    (last < r.number) × (r.number < number_end) × (length r.message ≤ longest_record) × (apply_at state r.number r.message ≡ Ok a) × Does a.state r.number records applied
Does state last records applied = ⊥

-- the state that the last of them left, or the one before the first
abbrev pub state_after : AppliedState → List Application → AppliedState
state_after state [] = state
state_after state (a ∷ applied) = state_after a.state applied

-- ---- a record's bytes

head_of : (number : ℕ) (message rest : List ℕ) → number < number_end → length message ≤ longest_record → HasHead (record_bytes number message ++ rest) number (length message)
head_of number message rest below short = record {
  some = omega arith;
  number_is = sym (little_number-reads_back 4 number (little_bytes 4 (length message) ++ (message ++ rest)) (omega (arith, below)));
  size_is = sym (little_number-reads_back 4 (length message) (message ++ rest) (omega (arith, short)));
}

long_record : (number : ℕ) (message : List ℕ) → length (record_bytes number message) ≡ head_bytes + length message
long_record number message = omega arith

-- each takes a head and 16,384 bytes at most
pub bytes_short : (state : AppliedState) (last : ℕ) (records : List Record) (applied : List Application) → Does state last records applied → length (bytes_of records) ≤ 16392 * length records
bytes_short state last [] applied does = omega arith
bytes_short state last (r ∷ records) [] does = absurd does
bytes_short state last (r ∷ records) (a ∷ applied) does =
    omega (arith, does.2, bytes_short a.state r.number records applied does.4, long_record r.number r.message, length-append (record_bytes r.number r.message) (bytes_of records))

-- a record follows what was played, and the others follow it
record Next (demo : List ℕ) (played : Played) (r : Record) (rest : List ℕ) : Type 0 where
  next : ℕ
  found : next_piece demo played ≡ Ok (piece.Message r.number (length r.message) next)
  told : message_of demo played (length r.message) ≡ r.message
  left : drop next demo ≡ rest

next_is : (demo rest : List ℕ) (played : Played) (r : Record) → drop played.at demo ≡ record_bytes r.number r.message ++ rest → length demo ≤ most_bytes → played.last < r.number
    → r.number < number_end → length r.message ≤ longest_record → Next demo played r rest
next_is demo rest played r there room above below short =
    let first : List ℕ = record_bytes r.number r.message in
    let size : ℕ = length r.message in
    let next : ℕ = played.at + head_bytes + size in
    let long : length (first ++ rest) ≡ head_bytes + size + length rest = omega (arith, length-append first rest, long_record r.number r.message) in
    let of_all : length demo - played.at ≡ length (first ++ rest) = sym (length-drop played.at demo) ∙ ap (λ (xs : List ℕ). length xs) there in
    let place : next ≡ played.at + (head_bytes + size) = omega arith in
    record {
      next = next;
      found = ap (λ (xs : List ℕ). piece_of xs played.at played.last) there
          ∙ record_is (first ++ rest) played.at played.last r.number size next (record {
            head = head_of r.number r.message rest below short;
            short = short;
            above = above;
            below = below;
            there = omega (arith, long);
            within = omega (arith, long, of_all, room);
            next_is = refl;
          });
      told = ap (take size) (sym (drop-drop head_bytes played.at demo) ∙ ap (drop head_bytes) there) ∙ take_at r.message rest size refl;
      left = ap (λ (n : ℕ). drop n demo) place ∙ sym (drop-drop (head_bytes + size) played.at demo) ∙ ap (drop (head_bytes + size)) there
          ∙ drop_at first rest (head_bytes + size) (long_record r.number r.message);
    }

-- ---- what playing gives

record Gives (count : ℕ) (demo : List ℕ) (played : Played) (applied : List Application) : Type 0 where
  list : applied_from count demo played ≡ applied
  ending : (play_from count demo played).ending ≡ Ok tt
  state : (last_of played (records_from count demo played)).state ≡ state_after played.state applied

ends_here : (left : ℕ) (demo : List ℕ) (played : Played) → next_piece demo played ≡ Ok piece.End → Gives (suc left) demo played []
unfolding applied_from play_from records_from last_of
ends_here left demo played e =
    let stepped : step demo played ≡ Ok None = bind_is (next_piece demo played) (play_piece demo played) piece.End (Ok None) e refl in
    record {
      list = ap (λ (found : Result Piece DemoError). next_applied demo played found (applied_from left demo)) e;
      ending = ap (λ (s : Result (Option Stepped) DemoError). (play_step played s (play_from left demo)).ending) stepped;
      state = ap (λ (s : Result (Option Stepped) DemoError). (last_of played (next_records s (records_from left demo))).state) stepped;
    }

-- also where no more records may be played
ends_full : (demo : List ℕ) (played : Played) → next_piece demo played ≡ Ok piece.End → Gives zero demo played []
unfolding applied_from play_from records_from last_of
ends_full demo played e = record { list = refl; ending = ap (λ (found : Result Piece DemoError). (at_most played found).ending) e; state = refl }

goes_on : (left : ℕ) (demo rest : List ℕ) (played : Played) (r : Record) (a : Application) (others : List Application) (n : Next demo played r rest)
    → apply_at played.state r.number r.message ≡ Ok a → Gives left demo (played_on played r.number n.next a).played others → Gives (suc left) demo played (a ∷ others)
unfolding applied_from play_from records_from last_of
goes_on left demo rest played r a others n applies gives =
    let size : ℕ = length r.message in
    let number : ℕ = r.number in
    let next : ℕ = n.next in
    let on : Application → Result (Option Stepped) DemoError = λ applied. Ok (Some (played_on played number next applied)) in
    let same : apply_at played.state number (message_of demo played size) ≡ Ok a = ap (λ (m : List ℕ). apply_at played.state number m) n.told ∙ applies in
    let stepped : step demo played ≡ Ok (Some (played_on played number next a)) =
    bind_is (next_piece demo played) (play_piece demo played) (piece.Message number size next) (Ok (Some (played_on played number next a))) n.found
    (ap (λ (done : Result Application Illegible). fault_as (NoMessage played.at) done >>= on) same) in
    record {
      list = ap (λ (found : Result Piece DemoError). next_applied demo played found (applied_from left demo)) n.found
          ∙ ap (λ (done : Result Application Illegible). applied_so played number next (result_ok done) (applied_from left demo)) same ∙ ap (λ (xs : List Application). a ∷ xs) gives.list;
      ending = ap (λ (s : Result (Option Stepped) DemoError). (play_step played s (play_from left demo)).ending) stepped ∙ gives.ending;
      state = ap (λ (s : Result (Option Stepped) DemoError). (last_of played (next_records s (records_from left demo))).state) stepped ∙ gives.state;
    }

-- what may stand after the last record: the end, or nothing yet
abbrev pub IsTail : List ℕ → Type 0
IsTail tail = (at last : ℕ) → piece_of tail at last ≡ Ok piece.End

pub end_is_tail : IsTail end_bytes
end_is_tail at last = refl

pub none_is_tail : IsTail []
none_is_tail at last = refl

plays_from : (left : ℕ) (records : List Record) (applied : List Application) (demo tail : List ℕ) (played : Played) → IsTail tail → drop played.at demo ≡ bytes_of records ++ tail
    → Does played.state played.last records applied → length demo ≤ most_bytes → length records ≤ left → Gives left demo played applied
plays_from zero [] [] demo tail played ends there does room few = ends_full demo played (ap (λ (xs : List ℕ). piece_of xs played.at played.last) there ∙ ends played.at played.last)
plays_from zero [] (a ∷ applied) demo tail played ends there does room few = absurd does
plays_from zero (r ∷ records) applied demo tail played ends there does room few = absurd (omega (arith, few))
plays_from (suc left) [] [] demo tail played ends there does room few =
    ends_here left demo played (ap (λ (xs : List ℕ). piece_of xs played.at played.last) there ∙ ends played.at played.last)
plays_from (suc left) [] (a ∷ applied) demo tail played ends there does room few = absurd does
plays_from (suc left) (r ∷ records) [] demo tail played ends there does room few = absurd does
plays_from (suc left) (r ∷ records) (a ∷ applied) demo tail played ends there does room few =
    let rest : List ℕ = bytes_of records ++ tail in
    let n = next_is demo rest played r (there ∙ append_assoc (record_bytes r.number r.message) (bytes_of records) tail) room does.0 does.1 does.2 in
    goes_on left demo rest played r a applied n does.3
    (plays_from left records applied demo tail (played_on played r.number n.next a).played ends n.left does.4 room (omega (arith, few)))

-- a demo of these records, which are as many as may be played, plays to its end, and each of them does what it does
pub demo_plays : (profile : Profile) (records : List Record) (applied : List Application) (tail : List ℕ) → IsTail tail → Does (new_state profile) 0 records applied
    → length (bytes_of records ++ tail) ≤ most_bytes → length records ≤ most_records
    → (applied_of profile (bytes_of records ++ tail) ≡ applied) × ((play_of profile (bytes_of records ++ tail)).ending ≡ Ok tt)
    × ((last_played profile (bytes_of records ++ tail)).state ≡ state_after (new_state profile) applied)
demo_plays profile records applied tail ends does room few =
    let gives = plays_from most_records records applied (bytes_of records ++ tail) tail (unplayed profile) ends refl does room few in
    (gives.list, gives.ending, gives.state)
