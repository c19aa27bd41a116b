-- What a slot runs of a message, part by part.
use Rattle.std.proofs.Common.{◌≡◌, ◌∙◌, ◌+◌, ◌<◌, ◌≤◌, ◌++◌, ℕ, List, [], ◌∷◌, length, drop, get_or, refl, sym, ap, arith}
use Rattle.std.proofs.lemmas.List.{drop_more, drop_all, length_push, append_assoc, append-nil}
use Rattle.std.proofs.lemmas.Bool.{lt-ltb, le-ltb}
use Rattle.q3_clmsg.specs.declared.moves.Move.{Move}
use Rattle.q3_slot.specs.Taking.{runs, last_time, last_run_of}

-- a later move runs
pub runs_later : (last : ℕ) (moves : List Move) (k : ℕ) (d : Move) → k < length moves → last < (get_or moves k d).time
    → runs last (drop k moves) ≡ get_or moves k d ∷ runs (get_or moves k d).time (drop (k + 1) moves)
unfolding runs
runs_later last moves k d more later = rw (drop_more moves k d more, lt-ltb last (get_or moves k d).time later) refl

-- no other does
pub runs_none : (last : ℕ) (moves : List Move) (k : ℕ) (d : Move) → k < length moves → (get_or moves k d).time ≤ last
    → runs last (drop k moves) ≡ runs last (drop (k + 1) moves)
unfolding runs
runs_none last moves k d more past = rw (drop_more moves k d more, le-ltb last (get_or moves k d).time past) refl

-- nothing is left at the end
pub runs_end : (last : ℕ) (moves : List Move) (k : ℕ) → length moves ≤ k → runs last (drop k moves) ≡ []
unfolding runs
runs_end last moves k past = rw (drop_all k moves past) refl

-- the last move's time
pub last_time_push : (before : ℕ) (moves : List Move) (one : Move) → last_time before (moves ++ one ∷ []) ≡ one.time
unfolding last_time
last_time_push before [] one = refl
last_time_push before (first ∷ moves) one = last_time_push first.time moves one

-- the moves that were run of so many first ones, and the time of the last: with what is run of the others they are the whole
pub record HasRun (start : ℕ) (moves : List Move) (k last : ℕ) (ran : List Move) : Type 0 where
  pub few : length ran ≤ k
  pub last_is : last_time start ran ≡ last
  pub whole : ran ++ runs last (drop k moves) ≡ runs start moves

pub HasRun-begin : (start : ℕ) (moves ran : List Move) → ran ≡ [] → HasRun start moves 0 start ran
unfolding last_time
HasRun-begin start moves ran empty = rw empty (record { few = omega arith; last_is = refl; whole = refl })

pub HasRun-later : (start : ℕ) (moves : List Move) (k last : ℕ) (ran : List Move) (d : Move) → HasRun start moves k last ran → k < length moves
    → last < (get_or moves k d).time → HasRun start moves (k + 1) (get_or moves k d).time (ran ++ get_or moves k d ∷ [])
HasRun-later start moves k last ran d h more later =
    let one = get_or moves k d in
    let longer : length (ran ++ one ∷ []) ≡ length ran + 1 = length_push ran one in
    record {
      few = omega (arith, longer, h.few);
      last_is = last_time_push start ran one;
      whole = append_assoc ran (one ∷ []) (runs one.time (drop (k + 1) moves))
          ∙ ap (λ (rest : List Move). ran ++ rest) (sym (runs_later last moves k d more later)) ∙ h.whole;
    }

pub HasRun-none : (start : ℕ) (moves : List Move) (k last : ℕ) (ran : List Move) (d : Move) → HasRun start moves k last ran → k < length moves
    → (get_or moves k d).time ≤ last → HasRun start moves (k + 1) last ran
HasRun-none start moves k last ran d h more past = record {
  few = omega (arith, h.few);
  last_is = h.last_is;
  whole = ap (λ (rest : List Move). ran ++ rest) (sym (runs_none last moves k d more past)) ∙ h.whole;
}

pub HasRun-all : (start : ℕ) (moves : List Move) (k last : ℕ) (ran : List Move) → HasRun start moves k last ran → length moves ≤ k
    → (ran ≡ runs start moves) × (last ≡ last_run_of start moves)
HasRun-all start moves k last ran h past =
    let all : ran ≡ runs start moves =
    sym (append-nil ran) ∙ ap (λ (rest : List Move). ran ++ rest) (sym (runs_end last moves k past)) ∙ h.whole in
    (all, sym h.last_is ∙ ap (last_time start) all)
