-- The moves of a message run at a slot after those that it ran before.
use Rattle.std.proofs.Common.{[], List, ap, arith, false, refl, subst, sym, ℕ, ◌++◌, ◌∷◌, ◌≡◌, ◌≤◌}
use Rattle.std.specs.Prelude.{All}
use Rattle.std.proofs.lemmas.List.{append-nil}
use Rattle.std.proofs.lemmas.List.Elements.{All-nil, All-tail}
use Rattle.q3_clmsg.specs.declared.moves.Move.{Move}
use Rattle.q3_slot.specs.Slot.{SlotState, is_active}
use Rattle.q3_slot.specs.Taking.{goes_on, last_run_of, last_time, moves_on, runs}
use Rattle.q3_slot.specs.declared.stage.ClientStage.{ClientStage}
use Rattle.q3_slot.specs.declared.stage.ClientStage.TheVariants.{Active, Connected, Primed}
use Rattle.q3_clmsg.specs.Values.{Message}
use Rattle.q3_world.specs.Moves.{TimesRise}
use Rattle.q3_world.proofs.MoveLists.{TimesRise-append, last_time-append, runs_are, runs_rise}

-- times that rise from one on rise from one before it
TimesRise-from : (least before : ℕ) (moves : List Move) → least ≤ before → TimesRise before moves → TimesRise least moves
TimesRise-from least before [] le rise = tt
TimesRise-from least before (one ∷ moves) le rise = let later = rise.0 in (omega (arith, le, later), rise.1)

last_time-le : (least before : ℕ) (moves : List Move) → least ≤ before → last_time least moves ≤ last_time before moves
unfolding last_time
last_time-le least before [] le = le
last_time-le least before (one ∷ moves) le = omega arith

-- what rises, and ends with a time at most
abbrev pub RisesTo : List Move → ℕ → Type 0
RisesTo run last = TimesRise 0 run × (last_time 0 run ≤ last)

runs_on : (run moves : List Move) (before : ℕ) → last_time 0 run ≤ before → TimesRise 0 run → RisesTo (run ++ runs before moves) (last_run_of before moves)
runs_on run moves before le rise =
    let after = runs before moves in
    let whole = last_time-append 0 run after in
    let less = last_time-le (last_time 0 run) before after le in
    (TimesRise-append 0 run after rise (TimesRise-from (last_time 0 run) before after le (runs_rise before moves)), omega (arith, whole, less))

runs_none : (run : List Move) (last : ℕ) → last_time 0 run ≤ last → TimesRise 0 run → RisesTo (run ++ []) last
runs_none run last le rise = subst (λ (all : List Move). RisesTo all last) (sym (append-nil run)) (rise, le)

-- the moves of a message, where those of a client that doesn't play are no earlier than the last one run
pub plays_on : (slot : SlotState) (message : Message) (run : List Move) → last_time 0 run ≤ slot.last_run → TimesRise 0 run
    → ((one : Move) (others : List Move) → message.moves ≡ one ∷ others → is_active slot.stage ≡ false → slot.last_run ≤ one.time)
    → RisesTo (run ++ (goes_on slot message message.moves).moves) (goes_on slot message message.moves).last_run
plays_on slot message run le rise enters_late = with_moves message.moves refl
  where
    at_stage : (one : Move) (others : List Move) (stage : ClientStage) → message.moves ≡ one ∷ others → slot.stage ≡ stage
        → RisesTo (run ++ (moves_on slot message one others stage).moves) (moves_on slot message one others stage).last_run
    at_stage one others Connected is at = runs_none run slot.last_run le rise
    at_stage one others (Primed game) is at = let late = enters_late one others is (ap is_active at) in runs_on run others one.time (omega (arith, le, late)) rise
    at_stage one others (Active game) is at = runs_on run message.moves slot.last_run le rise

    with_moves : (moves : List Move) → message.moves ≡ moves → RisesTo (run ++ (goes_on slot message moves).moves) (goes_on slot message moves).last_run
    with_moves [] is = runs_none run slot.last_run le rise
    with_moves (one ∷ others) is = at_stage one others slot.stage is refl

-- each is one of the message
pub plays_are : (P : Move → Type 0) (slot : SlotState) (message : Message) → All P message.moves → All P (goes_on slot message message.moves).moves
plays_are P slot message all = with_moves message.moves all
  where
    at_stage : (one : Move) (others : List Move) (stage : ClientStage) → All P (one ∷ others) → All P (moves_on slot message one others stage).moves
    at_stage one others Connected each = All-nil P
    at_stage one others (Primed game) each = runs_are P one.time others (All-tail P one others each)
    at_stage one others (Active game) each = runs_are P slot.last_run message.moves all

    with_moves : (moves : List Move) → All P moves → All P (goes_on slot message moves).moves
    with_moves [] each = All-nil P
    with_moves (one ∷ others) each = at_stage one others slot.stage each
