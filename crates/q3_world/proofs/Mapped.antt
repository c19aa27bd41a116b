-- What joins both ends of a client on the server's maps, over all that is noted of it.
use Rattle.q3_svmsg.specs.Values as told
use Rattle.std.proofs.Common.{[], List, None, Option, Some, ap, arith, false, inl, inr, length, refl, subst, sym, true, ℕ, ◌++◌, ◌+◌, ◌<◌, ◌∙◌, ◌∷◌, ◌≡◌, ◌≤◌}
use Rattle.std.specs.Prelude.{All, Bool, Contains, IfSome, if◌then◌else◌, not, ◌&&◌, ◌==◌, ◌||◌}
use Rattle.std.proofs.Math.Seq.{take-append_seam, drop-append_seam}
use Rattle.std.proofs.lemmas.Bool.{both_ways, cases_Bool, eqb-false}
use Rattle.std.proofs.lemmas.List.Elements.{All-drop, All-head, All-take}
use Rattle.q3_client.specs.Client.{ClientState}
use Rattle.q3_client.specs.Moves.{asks_delta}
use Rattle.q3_client.specs.Sending.{Said, next_said, wants_delta}
use Rattle.q3_clmsg.specs.declared.moves.Move.{Move}
use Rattle.q3_clstate.specs.State.{after_gamestate, hearing}
use Rattle.q3_entity.specs.Runs.{taken}
use Rattle.q3_entity.specs.declared.state.EntityState.{EntityState}
use Rattle.q3_gamestate.specs.Laws.{IsGamestate}
use Rattle.q3_gamestate.specs.Values.{Gamestate}
use Rattle.q3_map.specs.Map.{MapState, begins_game, is_other}
use Rattle.q3_player.specs.declared.head.SnapHead.{SnapHead}
use Rattle.q3_profile.specs.declared.profile.Profile.{Profile}
use Rattle.q3_entity_ring.specs.Snapshot.{Snapshot}
use Rattle.q3_rings.specs.Rings.{HeldSnapshots}
use Rattle.q3_built.specs.Built.{Built}
use Rattle.q3_slot.specs.Slot.{SlotState, asked, is_active, plays_under, primed}
use Rattle.q3_slot.specs.Slots.{tells}
use Rattle.q3_slot.specs.Taking.{asks_game, goes_on, heads_of, waits}
use Rattle.q3_text.specs.declared.text.Command.{Command}
use Rattle.q3_window.specs.Incoming.{IncomingState, fresh_of, jump_at}
use Rattle.q3_world.specs.Games.{AreMapped, AreSince, Carries, Tells, accepted_since, standing_of}
use Rattle.q3_world.specs.StandsFor.{WasAccepted}
use Rattle.q3_world.specs.World.{History, built_at, texts_of}
use Rattle.q3_world.proofs.Bases.{if_some}
use Rattle.q3_messages.proofs.Options.{if_some_then}
use Rattle.q3_world.proofs.Clients.{BaseIs}
use Rattle.q3_world.proofs.Commanded.{ClientHears}
use Rattle.q3_world.proofs.GamesBuilt.{AreMapped-game, AreMapped-issued, AreMapped-snapshot, under_stage}
use Rattle.q3_world.proofs.GamesHeard.{AreMapped-accepts, AreMapped-passes}
use Rattle.q3_world.proofs.GamesMoves.{acks_built, AreSince-carried, goes_most}
use Rattle.q3_world.proofs.GamesParts.{HasNone, cases_option}
use Rattle.q3_world.proofs.GamesSaid.{AreMapped-ignores, AreMapped-runs, AreMapped-said, enters_later, said_of_map, with_playing}
use Rattle.q3_world.proofs.GamesTaken.{AreMapped-applies, IsKnown, known_under}
use Rattle.q3_world.proofs.GamesTexts.{LeavesOwn}
use Rattle.q3_world.proofs.Knowing.{KnownBase}

-- what joins them
abbrev pub Mapped : MapState → SlotState → ClientState → History → Type 0
Mapped map slot client history =
    AreMapped map (standing_of slot) client.state client.gathering.taken client.last_time history.built history.games history.said history.accepted history.client_executed

-- ---- the server begins a message

-- a base is the snapshot that is asked for, and was built
pub asked_base : (slot : SlotState) (next : Built) (built : List Built) (n : ℕ) → IfSome next.base (BaseIs n (asked slot) built)
    → IfSome next.base (λ base. (0 < base.head.number) × (base.head.number ≡ (if is_active slot.stage then slot.delta else 0)))
asked_base slot next built n known =
    if_some_then next.base (BaseIs n (asked slot) built) (λ base. (0 < base.head.number) × (base.head.number ≡ (if is_active slot.stage then slot.delta else 0)))
    (λ base is. (is.0.some, is.2)) known

-- one with a snapshot has no gamestate
pub has_snapshot : {base : ℕ} {head : SnapHead} {entities : List EntityState} (next : Built) → next.message.section ≡ told.Snap base head entities → HasNone next
has_snapshot {base = base} {head = head} {entities = entities} next is game e = absurd (apart (sym is ∙ e))
  where
    apart : told.Snap base head entities ≡ told.Game game → ⊥
    apart same = absurd cc

pub mapped_snapshot : (map : MapState) (slot : SlotState) (client : ClientState) (history : History) (next : Built) → HasNone next → next.under ≡ plays_under slot.stage
    → next.baselines ≡ map.baselines → IfSome next.base (λ base. (0 < base.head.number) × (base.head.number ≡ (if is_active slot.stage then slot.delta else 0))) → Mapped map slot client history
    → AreMapped map (standing_of slot) client.state client.gathering.taken client.last_time (history.built ++ next ∷ []) history.games history.said history.accepted history.client_executed
mapped_snapshot map slot client history next none under baselines base mapped =
    AreMapped-snapshot map (standing_of slot) client.state client.gathering.taken client.last_time history.built history.games history.said history.accepted history.client_executed next none
    (under ∙ under_stage slot.stage) baselines base mapped

pub mapped_game : (map : MapState) (slot : SlotState) (client : ClientState) (history : History) (next : Built) (game : Gamestate) → slot.owed ≡ true → next.message.section ≡ told.Game game
    → next.under ≡ plays_under slot.stage → Tells game map.id → game.baselines ≡ map.baselines → game.feed ≡ map.feed → slot.sending.number ≡ length history.built
    → client.gathering.taken ≤ length history.built → Mapped map slot client history
    → AreMapped (begins_game map) (standing_of (primed slot (slot.sending.number + 1))) client.state client.gathering.taken client.last_time (history.built ++ next ∷ []) history.games history.said
    history.accepted history.client_executed
mapped_game map slot client history next game owed is under tells baselines feed begun taken mapped =
    AreMapped-game map (standing_of slot) client.state client.gathering.taken client.last_time history.built history.games history.said history.accepted history.client_executed next game
    (slot.sending.number + 1) (omega (arith, begun)) owed is (under ∙ under_stage slot.stage) tells baselines feed taken
    (acks_built map (standing_of slot) client.state client.gathering.taken client.last_time history.built history.games history.said history.accepted history.client_executed taken mapped) mapped

-- ---- a client begins a message

pub mapped_said : (map : MapState) (slot : SlotState) (client : ClientState) (history : History)
    → (client.delta ≡ true → WasAccepted (accepted_since history.games history.accepted) client.gathering.taken) → AreSince history.games client.moves → Mapped map slot client history
    → AreMapped map (standing_of slot) client.state client.gathering.taken client.last_time history.built history.games (history.said ++ next_said client ∷ []) history.accepted history.client_executed
mapped_said map slot client history asks since mapped =
    AreMapped-said map (standing_of slot) client.state client.gathering.taken client.last_time history.built history.games history.said history.accepted history.client_executed (next_said client) refl
    refl refl (λ none. ap (asks_delta (wants_delta client)) none)
    (λ so. asks (both_first client.delta (not client.asks_whole) (asks_only (wants_delta client) (next_said client).message.moves so))) (AreSince-carried history.games (client.sending.number + 1) client.dup client.moves since) mapped
  where
    asks_only : (delta : Bool) (moves : List Move) → asks_delta delta moves ≡ true → delta ≡ true
    asks_only delta [] so = absurd cc
    asks_only delta (one ∷ moves) so = so

    both_first : (one other : Bool) → (one && other) ≡ true → one ≡ true
    both_first true other so = refl
    both_first false other so = absurd cc

-- a move is issued
pub mapped_issued : (map : MapState) (slot : SlotState) (client : ClientState) (history : History) (time : ℕ) → client.last_time ≤ time → Mapped map slot client history
    → AreMapped map (standing_of slot) client.state client.gathering.taken time history.built history.games history.said history.accepted history.client_executed
mapped_issued map slot client history time later mapped =
    AreMapped-issued map (standing_of slot) client.state client.gathering.taken client.last_time history.built history.games history.said history.accepted history.client_executed time later mapped

-- ---- a client takes a message

-- what it knows of one that was built for it while it played
mapped_known : (map : MapState) (slot : SlotState) (client : ClientState) (history : History) (n : ℕ) → client.gathering.taken < n → n ≤ length history.built → Mapped map slot client history
    → (g : ℕ) → (built_at history.built n).under ≡ Some g → IsKnown client.state history.built history.games history.accepted n
mapped_known map slot client history n newer begun mapped g is =
    known_under map (standing_of slot) client.state client.gathering.taken client.last_time history.built history.games history.said history.accepted history.client_executed n g newer begun is mapped

-- its baselines are the ones by which it was built
pub mapped_baselines : (map : MapState) (slot : SlotState) (client : ClientState) (history : History) (n : ℕ) → client.gathering.taken < n → n ≤ length history.built → Mapped map slot client history
    → IfSome (built_at history.built n).under (λ game. client.state.baselines ≡ (built_at history.built n).baselines)
mapped_baselines map slot client history n newer begun mapped =
    if_some (built_at history.built n).under (λ game. client.state.baselines ≡ (built_at history.built n).baselines) (λ g is. (mapped_known map slot client history n newer begun mapped g is).baselines)

-- and its base was accepted since the last gamestate; of one that was built for a client that didn't play there is none
pub mapped_base : (map : MapState) (slot : SlotState) (client : ClientState) (history : History) (n : ℕ) → client.gathering.taken < n → n ≤ length history.built → Mapped map slot client history
    → ((built_at history.built n).under ≡ None → (built_at history.built n).base ≡ None)
    → IfSome (built_at history.built n).base (KnownBase n history.built history.accepted)
    → IfSome (built_at history.built n).base (KnownBase n history.built (accepted_since history.games history.accepted))
mapped_base map slot client history n newer begun mapped waits known =
    elim (cases_option (built_at history.built n).under) [
      | inl none ↦ subst (λ (o : Option Snapshot). IfSome o (KnownBase n history.built (accepted_since history.games history.accepted))) (sym (waits none)) tt
      | inr some ↦
          both (built_at history.built n).base known (mapped_known map slot client history n newer begun mapped some.0 some.1).base
    ]
  where
    both : (o : Option Snapshot) → IfSome o (KnownBase n history.built history.accepted)
        → IfSome o (λ base. Contains history.accepted base → Contains (accepted_since history.games history.accepted) base)
        → IfSome o (KnownBase n history.built (accepted_since history.games history.accepted))
    both None known since = tt
    both (Some base) known since = (known.0, known.1, since known.2)

-- the commands of a message leave string 1
pub fresh_own : (slot : SlotState) (client : ClientState) (history : History) (n : ℕ) (built : Built) → All LeavesOwn history.server_commands → ClientHears slot client history n built
    → All LeavesOwn (history.client_executed ++ texts_of (fresh_of client.state.executed.executed built.message.commands))
fresh_own slot client history n built own hears =
    let flow = hears.to_client in
    subst (All LeavesOwn) (sym flow.front) (All-take LeavesOwn (length (history.client_executed ++ texts_of (fresh_of client.state.executed.executed built.message.commands))) history.server_commands own)

-- both parts of texts that leave it
front_own : (first rest : List (List ℕ)) → All LeavesOwn (first ++ rest) → All LeavesOwn first
front_own first rest all = subst (All LeavesOwn) (take-append_seam first rest) (All-take LeavesOwn (length first) (first ++ rest) all)

rest_own : (first rest : List (List ℕ)) → All LeavesOwn (first ++ rest) → All LeavesOwn rest
rest_own first rest all = subst (All LeavesOwn) (drop-append_seam first rest) (All-drop LeavesOwn (length first) (first ++ rest) all)

-- a snapshot of it is accepted
pub mapped_accepted : (map : MapState) (slot : SlotState) (client : ClientState) (history : History) (n : ℕ) (commands : List Command) (snapshot : Snapshot) (held : HeldSnapshots)
    → client.gathering.taken < n → snapshot.head.number ≡ n → All LeavesOwn (history.client_executed ++ texts_of (fresh_of client.state.executed.executed commands)) → Mapped map slot client history
    → AreMapped map (standing_of slot) (record (hearing client.state commands) { number = n; held = held }) n client.last_time history.built history.games history.said
    (history.accepted ++ snapshot ∷ []) (history.client_executed ++ texts_of (fresh_of client.state.executed.executed commands))
mapped_accepted map slot client history n commands snapshot held newer number own mapped =
    let texts = texts_of (fresh_of client.state.executed.executed commands) in
    AreMapped-accepts map (standing_of slot) client.state client.gathering.taken client.last_time history.built history.games history.said history.accepted history.client_executed n commands held snapshot
    newer number (front_own history.client_executed texts own) (rest_own history.client_executed texts own) mapped

-- or none
pub mapped_passed : (map : MapState) (slot : SlotState) (client : ClientState) (history : History) (n : ℕ) (commands : List Command) (held : HeldSnapshots)
    → client.gathering.taken < n → All LeavesOwn (history.client_executed ++ texts_of (fresh_of client.state.executed.executed commands)) → Mapped map slot client history
    → AreMapped map (standing_of slot) (record (hearing client.state commands) { number = n; held = held }) n client.last_time history.built history.games history.said
    history.accepted (history.client_executed ++ texts_of (fresh_of client.state.executed.executed commands))
mapped_passed map slot client history n commands held newer own mapped =
    let texts = texts_of (fresh_of client.state.executed.executed commands) in
    AreMapped-passes map (standing_of slot) client.state client.gathering.taken client.last_time history.built history.games history.said history.accepted history.client_executed n commands held
    newer (front_own history.client_executed texts own) (rest_own history.client_executed texts own) mapped

-- or its gamestate is applied
pub mapped_started : (profile : Profile) (map : MapState) (slot : SlotState) (client : ClientState) (history : History) (n : ℕ) (commands : List Command) (game : Gamestate)
    → client.gathering.taken < n → Carries history.built n game → IsGamestate profile game → All (λ (s : Snapshot). s.head.number ≤ client.gathering.taken) history.accepted → Mapped map slot client history
    → AreMapped map (standing_of slot) (record (after_gamestate (hearing client.state commands) game) { number = n }) n client.last_time history.built
    (history.games ++ record {
      number = n;
      game = game;
      accepted = length history.accepted;
      executed = length (history.client_executed ++ texts_of (fresh_of client.state.executed.executed commands));
      time = client.last_time;
    } ∷ []) history.said history.accepted (history.client_executed ++ texts_of (fresh_of client.state.executed.executed commands))
mapped_started profile map slot client history n commands game newer carries is below mapped =
    AreMapped-applies map (standing_of slot) client.state client.gathering.taken client.last_time history.built history.games history.said history.accepted history.client_executed
    (hearing client.state commands) n game (texts_of (fresh_of client.state.executed.executed commands)) newer carries is.id below mapped

-- which leaves the commands where they are
pub jump_same : (window : IncomingState) (number : ℕ) → window.executed ≡ number → jump_at window number ≡ window
jump_same window number is =
    elim (cases_Bool (number == window.executed)) [
      | inl same ↦ rw same refl
      | inr apart ↦ absurd (eqb-false number window.executed apart (sym is))
    ]

-- ---- the server hears a message

-- one of another map
pub mapped_other : (map : MapState) (slot : SlotState) (client : ClientState) (history : History) (said : Said) → Contains history.said said → is_other map said.message.id ≡ true
    → Mapped map slot client history
    → AreMapped map (record (standing_of slot) { owed = slot.owed || asks_game map slot (heads_of said.message) }) client.state client.gathering.taken client.last_time history.built history.games
    history.said history.accepted history.client_executed
mapped_other map slot client history said there other mapped =
    AreMapped-ignores map (standing_of slot) client.state client.gathering.taken client.last_time history.built history.games history.said history.accepted history.client_executed said there other mapped

-- with one of the map, of a client that doesn't play, each move is later than the last one run
pub enters_late : (map : MapState) (slot : SlotState) (client : ClientState) (history : History) (said : Said) → Contains history.said said → is_other map said.message.id ≡ false
    → Mapped map slot client history → (one : Move) (others : List Move) → said.message.moves ≡ one ∷ others → is_active slot.stage ≡ false → slot.last_run < one.time
enters_late map slot client history said there same mapped one others is waits =
    let of = said_of_map map (standing_of slot) client.state client.gathering.taken client.last_time history.built history.games history.said history.accepted history.client_executed said there same mapped in
    let each = enters_later map (standing_of slot) client.state client.gathering.taken client.last_time history.built history.games history.said history.accepted history.client_executed said of
    (both_ways (is_active slot.stage) waits) in
    All-head (λ (move : Move). slot.last_run < move.time) one others (subst (All (λ (move : Move). slot.last_run < move.time)) is each)

-- one of the map
pub record MappedRuns (map : MapState) (slot : SlotState) (client : ClientState) (history : History) (said : Said) : Type 0 where
  pub late : (one : Move) (others : List Move) → said.message.moves ≡ one ∷ others → is_active slot.stage ≡ false → slot.last_run ≤ one.time
  pub feed : said.feed ≡ map.feed
  pub mapped : AreMapped map (with_playing (standing_of slot) (goes_on slot said.message said.message.moves)) client.state client.gathering.taken client.last_time history.built history.games history.said
      history.accepted history.client_executed

pub mapped_runs : (map : MapState) (slot : SlotState) (client : ClientState) (history : History) (said : Said) → Contains history.said said → is_other map said.message.id ≡ false
    → All (λ (one : Move). one.time ≤ client.last_time) said.message.moves → Mapped map slot client history → MappedRuns map slot client history said
mapped_runs map slot client history said there same most mapped =
    let of = said_of_map map (standing_of slot) client.state client.gathering.taken client.last_time history.built history.games history.said history.accepted history.client_executed said there same mapped in
    record {
      late = λ one others is waits. let later = enters_late map slot client history said there same mapped one others is waits in omega (arith, later);
      feed = of.feed;
      mapped = AreMapped-runs map slot client.state client.gathering.taken client.last_time history.built history.games history.said history.accepted history.client_executed said there same
          (goes_most slot said.message client.last_time mapped.ran most) mapped;
    }
