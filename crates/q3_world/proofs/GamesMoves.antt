-- The moves that a client keeps, and the snapshots that it accepted, by the gamestates that it applied.
use Rattle.std.proofs.lemmas.Bool.{cond_both}
use Rattle.std.proofs.Common.{[], List, None, Option, Some, ap, arith, inl, inr, length, refl, subst, sym, true, ℕ, ◌++◌, ◌-◌, ◌<◌, ◌∙◌, ◌∷◌, ◌≡◌, ◌≤◌}
use Rattle.std.specs.Prelude.{All, Contains, MatchOption, filter, nat_lt}
use Rattle.std.proofs.lemmas.List.{drop-append-le, drop_all}
use Rattle.std.proofs.lemmas.List.Elements.{All-cons, All-contains, All-drop, All-filter, All-head, All-map, All-nil, All-push, All-tail, All-weaker}
use Rattle.circular_buffer.specs.Buffer.{keep_last}
use Rattle.q3_client.specs.Moves.{carried, is_carried}
use Rattle.q3_client.specs.Sending.{Said}
use Rattle.q3_client.specs.declared.moves.Issued.{Issued}
use Rattle.q3_clmsg.specs.declared.moves.Move.{Move}
use Rattle.q3_clstate.specs.State.{AppliedState}
use Rattle.q3_map.specs.Map.{MapState}
use Rattle.q3_entity_ring.specs.Snapshot.{Snapshot}
use Rattle.q3_built.specs.Built.{Built}
use Rattle.q3_slot.specs.Slot.{SlotState}
use Rattle.q3_slot.specs.Taking.{goes_on, last_run_of, moves_on, runs, last_time}
use Rattle.q3_slot.specs.declared.stage.ClientStage.{ClientStage}
use Rattle.q3_slot.specs.declared.stage.ClientStage.TheVariants.{Active, Connected, Primed}
use Rattle.q3_clmsg.specs.Values.{Message}
use Rattle.q3_world.specs.Games.{AreMapped, AreSince, HasGames, Standing, WasApplied, accepted_before, accepted_since, last_played}
use Rattle.q3_world.specs.Moves.{TimesRise}
use Rattle.q3_world.specs.World.{Played}
use Rattle.q3_world.proofs.GamesParts.{cases_option, has_played, last_push, since_is, newest}

-- ---- moves

-- the moves are later than a gamestate, and there are none before one
abbrev AreLater : Option Played → List Move → Type 0
AreLater o moves = MatchOption o (moves ≡ []) (λ (played : Played). All (λ (one : Move). played.time < one.time) moves)

abbrev IsLater : Played → Issued → Type 0
IsLater played issued = played.time < issued.one.time

abbrev KeptLater : Option Played → List Issued → Type 0
KeptLater o moves = MatchOption o (moves ≡ []) (λ (played : Played). All (IsLater played) moves)

-- a client joins
pub AreSince-new : AreSince [] []
AreSince-new = refl

-- a move is issued once a gamestate was applied, later than the last
pub AreSince-issued : (state : AppliedState) (taken last_time : ℕ) (built : List Built) (games : List Played) (accepted : List Snapshot) (executed : List (List ℕ))
    → (most : ℕ) (moves : List Issued) (next : Issued) → state.has_game ≡ true → last_time < next.one.time
    → HasGames state taken last_time built games accepted executed → AreSince games moves → AreSince games (keep_last most (moves ++ next ∷ []))
AreSince-issued state taken last_time built games accepted executed most moves next game later has are =
    let some = has_played state taken last_time built games accepted executed has game in
    let played = some.0 in
    let was = All-contains (WasApplied taken last_time built accepted executed) games played has.each (newest games played has.rise some.1).there in
    let time = was.time in
    let old : All (IsLater played) moves = subst (λ (o : Option Played). KeptLater o moves) some.1 are in
    subst (λ (o : Option Played). KeptLater o (keep_last most (moves ++ next ∷ []))) (sym some.1)
    (All-drop (IsLater played) (length (moves ++ next ∷ []) - most) (moves ++ next ∷ []) (All-push (IsLater played) moves next old (omega (arith, time, later))))

-- a gamestate is applied, and wipes those that were kept
pub AreSince-started : (games : List Played) (played : Played) → AreSince (games ++ played ∷ []) []
AreSince-started games played = subst (λ (o : Option Played). KeptLater o []) (sym (last_push None games played)) (All-nil (IsLater played))

carried_later : (o : Option Played) (number dup : ℕ) (moves : List Issued) → KeptLater o moves → AreLater o (carried number dup moves)
carried_later None number dup moves none = ap (carried number dup) none
carried_later (Some played) number dup moves all =
    All-map (λ (one : Move). played.time < one.time) (λ (i : Issued). i.one) (filter (is_carried number dup) moves) (All-filter (is_carried number dup) (IsLater played) moves all)

-- and so are those that a message carries
pub AreSince-carried : (games : List Played) (number dup : ℕ) (moves : List Issued) → AreSince games moves
    → MatchOption (last_played games) (carried number dup moves ≡ []) (λ (played : Played). All (λ (one : Move). played.time < one.time) (carried number dup moves))
AreSince-carried games number dup moves are = carried_later (last_played games) number dup moves are

-- ---- the time of the last move run

-- moves that were issued are at most as late as the last
pub last_least : (least : ℕ) (moves : List Move) → TimesRise least moves → least ≤ last_time least moves
unfolding last_time
last_least least [] rise = omega arith
last_least least (one ∷ moves) rise = let first = rise.0 in let rest = last_least one.time moves rise.1 in omega (arith, first, rest)

pub rise_most : (least : ℕ) (moves : List Move) → TimesRise least moves → All (λ (one : Move). one.time ≤ last_time least moves) moves
unfolding last_time
rise_most least [] rise = All-nil _
rise_most least (one ∷ moves) rise =
    All-cons (λ (move : Move). move.time ≤ last_time one.time moves) one moves (last_least one.time moves rise.1) (rise_most one.time moves rise.1)

pub issued_most : (moves issued : List Move) → TimesRise 0 issued → All (Contains issued) moves → All (λ (one : Move). one.time ≤ last_time 0 issued) moves
issued_most moves issued rise were =
    All-weaker (Contains issued) (λ (one : Move). one.time ≤ last_time 0 issued)
    (λ one there. All-contains (λ (one : Move). one.time ≤ last_time 0 issued) issued one (rise_most 0 issued rise) there) moves were

-- so is the last that is run
runs_most : (last most : ℕ) (moves : List Move) → last ≤ most → All (λ (one : Move). one.time ≤ most) moves → last_run_of last moves ≤ most
unfolding runs last_time
runs_most last most [] le all = le
runs_most last most (one ∷ moves) le all =
    cond_both (nat_lt last one.time) (one ∷ runs one.time moves) (runs last moves) (λ (after : List Move). last_time last after ≤ most)
    (λ e. runs_most one.time most moves (All-head (λ (one : Move). one.time ≤ most) one moves all) (All-tail (λ (one : Move). one.time ≤ most) one moves all))
    (λ e. runs_most last most moves le (All-tail (λ (one : Move). one.time ≤ most) one moves all))

-- after a message of such moves
pub goes_most : (slot : SlotState) (message : Message) (most : ℕ) → slot.last_run ≤ most → All (λ (one : Move). one.time ≤ most) message.moves
    → (goes_on slot message message.moves).last_run ≤ most
goes_most slot message most le all = with_moves message.moves all
  where
    at_stage : (one : Move) (moves : List Move) (stage : ClientStage) → All (λ (one : Move). one.time ≤ most) (one ∷ moves) → (moves_on slot message one moves stage).last_run ≤ most
    at_stage one moves Connected each = le
    at_stage one moves (Primed game) each = runs_most one.time most moves (All-head (λ (one : Move). one.time ≤ most) one moves each) (All-tail (λ (one : Move). one.time ≤ most) one moves each)
    at_stage one moves (Active game) each = runs_most slot.last_run most message.moves le all

    with_moves : (moves : List Move) → All (λ (one : Move). one.time ≤ most) moves → (goes_on slot message moves).last_run ≤ most
    with_moves [] each = le
    with_moves (one ∷ moves) each = at_stage one moves slot.stage each

-- ---- snapshots

-- what holds of all that were accepted holds of those since
pub since_were : (games : List Played) (accepted : List Snapshot) (P : Snapshot → Type 0) → All P accepted → All P (accepted_since games accepted)
since_were games accepted P all = All-drop P (accepted_before (last_played games)) accepted all

-- before a gamestate these are all
none_since : (games : List Played) (accepted : List Snapshot) → last_played games ≡ None → accepted_since games accepted ≡ accepted
none_since games accepted none = rw none refl

-- one more is accepted
pub since_more : {state : AppliedState} {taken last_time : ℕ} {built : List Built} {executed : List (List ℕ)} (games : List Played) (accepted : List Snapshot) (snapshot : Snapshot)
    → HasGames state taken last_time built games accepted executed → accepted_since games (accepted ++ snapshot ∷ []) ≡ accepted_since games accepted ++ snapshot ∷ []
since_more {taken = taken} {last_time = last_time} {built = built} {executed = executed} games accepted snapshot has =
    elim (cases_option (last_played games)) [
      | inl none ↦ none_since games (accepted ++ snapshot ∷ []) none ∙ ap (λ (l : List Snapshot). l ++ snapshot ∷ []) (sym (none_since games accepted none))
      | inr some ↦
          let played = some.0 in
          let was = All-contains (WasApplied taken last_time built accepted executed) games played has.each (newest games played has.rise some.1).there in
          since_is games (accepted ++ snapshot ∷ []) played some.1
          ∙ (drop-append-le played.accepted accepted (snapshot ∷ []) was.before
          ∙ ap (λ (l : List Snapshot). l ++ snapshot ∷ []) (sym (since_is games accepted played some.1)))
    ]

-- after a gamestate there is none
pub since_none : (games : List Played) (accepted : List Snapshot) (played : Played) → played.accepted ≡ length accepted → accepted_since (games ++ played ∷ []) accepted ≡ []
since_none games accepted played count =
    since_is (games ++ played ∷ []) accepted played (last_push None games played) ∙ drop_all played.accepted accepted (omega (arith, count))

-- ---- what was said

-- acknowledges at most what was built
pub acks_built : (map : MapState) (slot : Standing) (state : AppliedState) (taken last_time : ℕ) (built : List Built) (games : List Played) (began : List Said)
    (accepted : List Snapshot) (executed : List (List ℕ)) → taken ≤ length built → AreMapped map slot state taken last_time built games began accepted executed
    → All (λ (s : Said). s.message.acknowledged ≤ length built) began
acks_built map slot state taken last_time built games began accepted executed few are =
    All-weaker (λ (s : Said). s.message.acknowledged ≤ taken) (λ (s : Said). s.message.acknowledged ≤ length built) (λ s most. omega (arith, most, few)) began are.acks
