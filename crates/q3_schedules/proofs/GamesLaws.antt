-- Every list of events: what is asked for was accepted under the gamestate of its map, and of a map a client applied at most one.
use Rattle.std.proofs.Common.{List, None, Option, Some, ap, arith, get_or, inl, inr, length, refl, subst, sym, true, ℕ, ◌+◌, ◌-◌, ◌<◌, ◌∙◌, ◌≡◌, false, IsSome}
use Rattle.std.specs.Prelude.{All, Contains, IfSome}
use Rattle.std.proofs.lemmas.Bool.{both_ways, cases_eq, cases_lt, true≢false}
use Rattle.std.proofs.lemmas.List.{get_or_default}
use Rattle.std.proofs.lemmas.List.Elements.{All-contains, All-from_get_or, All-nil, All-weaker}
use Rattle.q3_client.specs.Client.{ClientState}
use Rattle.q3_client.specs.Sending.{Said}
use Rattle.q3_gamestate.specs.Values.{Gamestate}
use Rattle.q3_map.specs.Map.{MapState}
use Rattle.q3_profile.specs.declared.profile.Profile.{Profile}
use Rattle.q3_entity_ring.specs.Snapshot.{Snapshot}
use Rattle.q3_server.specs.Server.{slot_at}
use Rattle.q3_built.specs.Built.{Built, IsBuilt, IsNear}
use Rattle.q3_slot.specs.Slot.{SlotState}
use Rattle.q3_world.specs.Ends.{Ends}
use Rattle.q3_world.specs.Games.{AcceptedUnder, BuiltUnder, HasGames, HasLast, IsSaidUnder, MapsRise, Tells, WasApplied}
use Rattle.q3_world.specs.ByTags.{BytesFollowTags, kept_then, whole_then}
use Rattle.q3_schedules.specs.Schedules.{AskedUnderGame, BuiltUnderItsGame, OneGamePerMap, SaidUnderItsMap, SlotUnderMap, AcceptedUnderMap}
use Rattle.q3_world.specs.StandsFor.{WasBuilt}
use Rattle.q3_world.specs.World.{History, Played, built_at, history_at, no_message}
use Rattle.q3_world.proofs.Arriving.{waits_none}
use Rattle.q3_schedules.proofs.EverySchedule.{bases_were_accepted}
use Rattle.q3_world.proofs.GamesParts.{carries_one, cases_option}
use Rattle.q3_world.proofs.Mapped.{Mapped}
use Rattle.q3_schedules.proofs.Stood.{Then, of_each, stood}

-- ---- what is asked for

-- by a client's messages
said_under_map : (map : MapState) (slot : SlotState) (client : ClientState) (history : History) → Mapped map slot client history → SaidUnderItsMap history
said_under_map map slot client history mapped =
    All-weaker (IsSaidUnder history.games history.accepted) (λ (said : Said). said.message.delta ≡ true → AcceptedUnderMap history said.message.id said.message.acknowledged)
    (λ said is asks. elim is [
      | inl before ↦ absurd (true≢false (sym asks ∙ before.2))
      | inr under ↦ (under.0, under.1.id, under.1.asks asks)
    ]) history.said mapped.said

-- by its slot
slot_under_map : (map : MapState) (slot : SlotState) (client : ClientState) (history : History) → Mapped map slot client history → SlotUnderMap map history slot
slot_under_map map slot client history mapped =
    elim mapped.delta [
      | inl none ↦ inl none
      | inr under ↦
          let played = under.0 in
          let accept = under.3 in
          let was = All-contains (WasApplied client.gathering.taken client.last_time history.built history.accepted history.client_executed) history.games played mapped.has.each accept.there in
          let last : HasLast map history.built (Some played.number) = subst (HasLast map history.built) under.1 mapped.stands.last in
          let same : last.0.0 ≡ played.game = carries_one history.built played.number last.0.0 played.game last.0.1 was.carries in
          inr (under.2, (played, subst (λ (game : Gamestate). Tells game map.id) same last.0.2, accept))
    ]

-- a base that its client accepted after the last gamestate before a message was accepted under it
base_under : (taken last_time : ℕ) (built : List Built) (games : List Played) (accepted : List Snapshot) (executed : List (List ℕ)) (n g : ℕ) (base : Snapshot) (played : Played)
    → All (WasApplied taken last_time built accepted executed) games → BuiltUnder built games n g → Contains games played → played.number ≡ g → g < base.head.number → base.head.number < n
    → Contains accepted base → AcceptedUnder games accepted played base.head.number
base_under taken last_time built games accepted executed n g base played each under there number above below accept =
    let was = All-contains (WasApplied taken last_time built accepted executed) games played each there in
    let place : ℕ = accept.0 in
    let within = accept.1 in
    let at = ap (λ (s : Snapshot). s.head.number) accept.2 in
    record {
      there = there;
      place = place;
      within = within;
      is = λ d. ap (λ (s : Snapshot). s.head.number) (get_or_default accepted place d base within ∙ accept.2);
      after = elim (cases_lt place played.accepted) [
        | inl before ↦ let low = was.lower place base before within in absurd (omega (arith, low, at, number, above))
        | inr after ↦ after
      ];
      before = λ later is lt. elim (cases_lt place later.accepted) [
        | inl before ↦ before
        | inr after ↦
            let one = All-contains (WasApplied taken last_time built accepted executed) games later each is in
            let high = one.higher place base after within in
            elim (cases_lt later.number n) [
              | inl early ↦ let most = under.last later.number later.game one.carries early in absurd (omega (arith, most, number, lt))
              | inr late ↦ absurd (omega (arith, high, at, late, below))
            ]
      ];
    }

-- what is known of the base of a message
abbrev IsKnownBase : ℕ → List Built → List Snapshot → Snapshot → Type 0
IsKnownBase n built accepted base = IsNear n base × WasBuilt built base × Contains accepted base

-- the base of a message was accepted so
abbrev HasBaseUnder : History → Built → Option Snapshot → Type 0
HasBaseUnder history built o = IfSome o (λ base. (played : Played) × (built.under ≡ Some played.number) × AcceptedUnder history.games history.accepted played base.head.number)

-- and so were those of what was built
built_under_game : (profile : Profile) (map : MapState) (slot : SlotState) (client : ClientState) (history : History) → Mapped map slot client history
    → ((k : ℕ) (d : Built) → k < length history.built → IsBuilt profile slot.challenge (k + 1) (get_or history.built k d))
    → ((k : ℕ) (d : Built) → k < length history.built → IfSome (get_or history.built k d).base (IsKnownBase (k + 1) history.built history.accepted)) → BuiltUnderItsGame history
built_under_game profile map slot client history mapped are bases =
    All-from_get_or (λ (built : Built). HasBaseUnder history built built.base) history.built no_message
    (λ k lt. of_under k lt (get_or history.built k no_message) refl)
  where
    of_base : (n g : ℕ) (built : Built) (o : Option Snapshot) → BuiltUnder history.built history.games n g → built.under ≡ Some g → IfSome o (λ base. g < base.head.number)
        → IfSome o (IsKnownBase n history.built history.accepted) → HasBaseUnder history built o
    of_base n g built None under is above known = tt
    of_base n g built (Some base) under is above known =
        let was = under.was in
        let near = known.0 in
        let below = near.below in (
          was.0,
          is ∙ ap Some (sym was.2),
          base_under client.gathering.taken client.last_time history.built history.games history.accepted history.client_executed n g base was.0 mapped.has.each under was.1 was.2 above below known.2,
        )

    of_under : (k : ℕ) → k < length history.built → (built : Built) → get_or history.built k no_message ≡ built → HasBaseUnder history built built.base
    of_under k lt built is =
        elim (cases_option built.under) [
          | inl none ↦
              let one : IsBuilt profile slot.challenge (k + 1) built = subst (IsBuilt profile slot.challenge (k + 1)) is (are k no_message lt) in
              subst (HasBaseUnder history built) (sym (waits_none profile slot.challenge (k + 1) built one none)) tt
          | inr some ↦
              let g = some.0 in
              let place : k + 1 - 1 ≡ k = omega arith in
              let at : built_at history.built (k + 1) ≡ built = ap (λ (j : ℕ). get_or history.built j no_message) place ∙ is in
              let under = mapped.under (k + 1) g (omega arith) (omega (arith, lt)) (ap (λ (b : Built). b.under) at ∙ some.1) in
              of_base (k + 1) g built built.base under some.1 (subst (λ (b : Built). IfSome b.base (λ base. g < base.head.number)) at under.base)
              (subst (λ (b : Built). IfSome b.base (IsKnownBase (k + 1) history.built history.accepted)) is (bases k no_message lt))
        ]

abbrev AreAskedUnder : MapState → Option SlotState → History → Type 0
AreAskedUnder map slot history = SaidUnderItsMap history × IfSome slot (SlotUnderMap map history) × BuiltUnderItsGame history

pub asked_under_game : BytesFollowTags → AskedUnderGame
asked_under_game law profile all c is are within =
    let stands : Then profile all = stood law profile all is are in
    let whole = whole_then profile all in
    let map = whole.ends.server.map in
    let history = history_at whole.histories c in
    subst (λ (ends : Ends). AreAskedUnder ends.server.map (slot_at ends.server c) history) (sym stands.ends)
    (of_each profile (kept_then profile all) whole c (λ slot found history. AreAskedUnder map slot history) within stands (All-nil _, tt, All-nil _)
    (λ slot place had. (
      said_under_map map slot place.client history had.joined.mapped,
      slot_under_map map slot place.client history had.joined.mapped,
      built_under_game profile map slot place.client history had.joined.mapped had.keeps.of_slot.built (λ k d lt. bases_were_accepted law profile all c k d is are within lt),
    )))

-- ---- one gamestate of a map

-- an id that is told
told_id : (o : Option ℕ) → IsSome o → (id : ℕ) × (o ≡ Some id)
told_id None some = absurd (both_ways false refl some)
told_id (Some id) some = (id, refl)

-- two of one map are the same
one_of : (games : List Played) → MapsRise games → (j k id : ℕ) (d : Played) → j < length games → k < length games → Tells (get_or games j d).game id → Tells (get_or games k d).game id → j ≡ k
one_of games rise j k id d first second told same =
    elim (cases_eq j k) [
      | inl here ↦ here
      | inr apart ↦ elim (cases_lt j k) [
        | inl lt ↦ let up = rise j k id id d lt second told same in absurd (omega (arith, up))
        | inr past ↦ let up = rise k j id id d (omega (arith, past, apart)) first same told in absurd (omega (arith, up))
      ]
    ]

-- what a client applied
abbrev AreOfMaps : List Played → Type 0
AreOfMaps games =
    All (λ (played : Played). (id : ℕ) × Tells played.game id) games
    × MapsRise games
    × ((j k id : ℕ) (d : Played) → j < length games → k < length games → Tells (get_or games j d).game id → Tells (get_or games k d).game id → j ≡ k)

games_of_maps : (client : ClientState) (history : History) → HasGames client.state client.gathering.taken client.last_time history.built history.games history.accepted history.client_executed
    → AreOfMaps history.games
games_of_maps client history has = (
  All-weaker (WasApplied client.gathering.taken client.last_time history.built history.accepted history.client_executed) (λ (played : Played). (id : ℕ) × Tells played.game id)
      (λ played was. told_id _ was.tells) history.games has.each,
  has.maps,
  one_of history.games has.maps,
)

pub one_game_per_map : BytesFollowTags → OneGamePerMap
one_game_per_map law profile all c is are within =
    of_each profile (kept_then profile all) (whole_then profile all) c (λ slot found history. AreOfMaps history.games) within (stood law profile all is are)
    (All-nil _, (λ j k x y d lt within told same. absurd (omega (arith, within))), (λ j k id d first second told same. absurd (omega (arith, first))))
    (λ slot place had. games_of_maps place.client (history_at (whole_then profile all).histories c) had.joined.mapped.has)
