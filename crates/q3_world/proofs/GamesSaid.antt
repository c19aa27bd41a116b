-- The maps of a server at both ends of a client, where the client begins a message, and where the server hears one.
use Rattle.std.proofs.lemmas.Option.{MatchOption-at_some, MatchOption-at_none}
use Rattle.std.proofs.Common.{[], List, None, Option, Some, ap, arith, false, inl, inr, refl, subst, sym, true, ℕ, ◌++◌, ◌<◌, ◌∙◌, ◌∷◌, ◌≡◌, ◌≤◌}
use Rattle.std.specs.Prelude.{All, Bool, Contains, IfSome, MatchOption, if◌then◌else◌, not, ◌&&◌, ◌==◌, ◌⊎◌, ◌||◌}
use Rattle.std.proofs.lemmas.Bool.{both_ways, cases_Bool, eqb-true, false_from_ne_true, ltb-true, or_cases, or_parts, eqb-false, not-true, or_from}
use Rattle.std.proofs.lemmas.List.Elements.{All-contains, All-push, All-weaker}
use Rattle.q3_client.specs.Sending.{Said}
use Rattle.q3_clmsg.specs.declared.moves.Move.{Move}
use Rattle.q3_clstate.specs.State.{AppliedState}
use Rattle.q3_gamestate.specs.Values.{Gamestate}
use Rattle.q3_map.specs.Map.{MapState, is_other}
use Rattle.q3_entity_ring.specs.Snapshot.{Snapshot}
use Rattle.q3_built.specs.Built.{Built}
use Rattle.q3_slot.specs.Slot.{SlotState, game_of, is_active}
use Rattle.q3_slot.specs.Taking.{Playing, asked_with, goes_on, is_after_game, moves_on}
use Rattle.q3_slot.specs.declared.stage.ClientStage.{ClientStage}
use Rattle.q3_slot.specs.declared.stage.ClientStage.TheVariants.{Active, Connected, Primed}
use Rattle.q3_clmsg.specs.Values.{Message}
use Rattle.q3_world.specs.Games.{AcceptedUnder, AreMapped, Carries, HasGames, HasLast, IsFresh, IsSaidUnder, Standing, Tells, WasApplied, WasPlayed, accepted_since, last_played, standing_of}
use Rattle.q3_world.specs.StandsFor.{WasAccepted}
use Rattle.q3_world.specs.World.{Played}
use Rattle.q3_world.specs.Games.{IsOf}
use Rattle.q3_world.proofs.GamesUnder.{under_last}
use Rattle.q3_world.proofs.GamesParts.{carries_one, cases_option, is_past, is_some_number, none_played, none_some, since_is, some_at, some_here, some_then, tells_one, newest}

-- ---- a client begins a message

module _ (map : MapState) (slot : Standing) (state : AppliedState) (taken last_time : ℕ) (built : List Built) (games : List Played) (began : List Said)
    (accepted : List Snapshot) (executed : List (List ℕ)) where
  -- a client that is on another map didn't apply the last gamestate of the map
  not_played : (n : ℕ) → AreMapped map slot state taken last_time built games began accepted executed → (state.id ≡ map.id → ⊥) → slot.game ≡ Some n → WasPlayed games n → ⊥
  not_played n are other is was =
      let last : HasLast map built (Some n) = subst (HasLast map built) is are.stands.last in
      elim (cases_option (last_played games)) [
        | inl none ↦ none_played games was.0 none was.1
        | inr some ↦
            let played = some.0 in
            let top = newest games played are.has.rise some.1 in
            let applied = All-contains (WasApplied taken last_time built accepted executed) games played are.has.each top.there in
            let carries = applied.carries in
            let low = last.1 played.number played.game carries in
            let high = top.most was.0 was.1 in
            let e = was.2 in
            let number : played.number ≡ n = omega (arith, low, high, e) in
            let game = carries_one built n played.game last.0.0 (subst (λ (k : ℕ). Carries built k played.game) number carries) last.0.1 in
            let of = MatchOption-at_some (IsFresh state) (λ (played : Played). IsOf state played executed) played some.1 are.has.shows in
            other (tells_one played.game state.id map.id of.id (subst (λ (g : Gamestate). Tells g map.id) (sym game) last.0.2))
      ]

  -- what a client says is said under the last gamestate that it applied
  said_under : (next : Said) → next.message.id ≡ state.id → next.feed ≡ state.feed → next.message.acknowledged ≡ taken
      → (next.message.moves ≡ [] → next.message.delta ≡ false) → (next.message.delta ≡ true → WasAccepted (accepted_since games accepted) taken)
      → MatchOption (last_played games) (next.message.moves ≡ []) (λ (played : Played). All (λ (one : Move). played.time < one.time) next.message.moves)
      → HasGames state taken last_time built games accepted executed → IsSaidUnder games accepted next
  said_under next id feed acknowledged quiet asks moves has =
      elim (cases_option (last_played games)) [
        | inl none ↦
            let fresh = MatchOption-at_none (IsFresh state) (λ (played : Played). IsOf state played executed) none has.shows in
            let still = MatchOption-at_none (next.message.moves ≡ []) (λ (played : Played). All (λ (one : Move). played.time < one.time) next.message.moves) none moves in
            inl (id ∙ fresh.id, still, quiet still)
        | inr some ↦
            let played = some.0 in
            let of = MatchOption-at_some (IsFresh state) (λ (played : Played). IsOf state played executed) played some.1 has.shows in
            let top = newest games played has.rise some.1 in
            let applied = All-contains (WasApplied taken last_time built accepted executed) games played has.each top.there in
            let most = applied.most in
            inr (
              played,
              record {
                there = top.there;
                id = of.id ∙ ap Some (sym id);
                feed = feed ∙ of.feed;
                after = omega (arith, most, acknowledged);
                asks = λ e.
                    let was = subst (λ (since : List Snapshot). WasAccepted since taken) (since_is games accepted played some.1) (asks e) in
                    subst (λ (number : ℕ). AcceptedUnder games accepted played number) (sym acknowledged) (under_last games accepted played taken has.rise some.1 was);
                later = MatchOption-at_some (next.message.moves ≡ []) (λ (played : Played). All (λ (one : Move). played.time < one.time) next.message.moves) played some.1 moves;
              },
            )
      ]

  -- a client begins a message
  pub AreMapped-said : (next : Said) → next.message.id ≡ state.id → next.feed ≡ state.feed → next.message.acknowledged ≡ taken
      → (next.message.moves ≡ [] → next.message.delta ≡ false) → (next.message.delta ≡ true → WasAccepted (accepted_since games accepted) taken)
      → MatchOption (last_played games) (next.message.moves ≡ []) (λ (played : Played). All (λ (one : Move). played.time < one.time) next.message.moves)
      → AreMapped map slot state taken last_time built games began accepted executed
      → AreMapped map slot state taken last_time built games (began ++ next ∷ []) accepted executed
  AreMapped-said next id feed acknowledged quiet asks moves are =
      let stands = are.stands in
      record {
        of_maps = are.of_maps;
        stands = record {
          last = stands.last;
          earlier = stands.earlier;
          active = stands.active;
          owed = stands.owed;
          other = All-push (λ (message : Said). (message.message.id ≡ map.id → ⊥) → IfSome slot.game (λ n. n < message.message.acknowledged → (WasPlayed games n → ⊥) × (n < taken)))
              began next stands.other
              (λ apart. some_here slot.game (λ (n : ℕ). n < next.message.acknowledged → (WasPlayed games n → ⊥) × (n < taken))
              (λ n is after. (not_played n are (λ e. apart (id ∙ e)) is, omega (arith, after, acknowledged))));
          older = stands.older;
        };
        has = are.has;
        said = All-push (IsSaidUnder games accepted) began next are.said (said_under next id feed acknowledged quiet asks moves are.has);
        under = are.under;
        delta = are.delta;
        ran = are.ran;
        acks = All-push (λ (message : Said). message.message.acknowledged ≤ taken) began next are.acks (omega (arith, acknowledged));
      }

-- ---- a message of another map

-- why a gamestate is owed from then on
asks_parts : (a b c : Bool) → (a && b && c) ≡ true → (a ≡ true) × (b ≡ true) × (c ≡ true)
asks_parts true true true is = (refl, refl, refl)
asks_parts true true false is = absurd (both_ways false refl is)
asks_parts true false c is = absurd (both_ways false refl is)
asks_parts false b c is = absurd (both_ways false refl is)

after_then : (number : ℕ) (game : Option ℕ) → is_after_game number game ≡ true → IfSome game (λ n. n < number)
after_then number None is = tt
after_then number (Some n) is = ltb-true n number is

-- an id that is another than the map's, where there is a map
other_id : (map : MapState) (id : ℕ) → is_other map id ≡ true → (map.id ≡ 0 → ⊥) → id ≡ map.id → ⊥
other_id map id is some same =
    elim (or_cases (map.id == 0) (not (id == map.id)) is) [
      | inl none ↦ some (eqb-true map.id 0 none)
      | inr apart ↦ eqb-false id map.id (not-true (id == map.id) apart) same
    ]

-- and one that is the map's
same_id : (map : MapState) (id : ℕ) → is_other map id ≡ false → (map.id ≡ 0 → ⊥) × (id ≡ map.id)
same_id map id is =
    let parts = or_parts (map.id == 0) (not (id == map.id)) is in (
      eqb-false map.id 0 parts.0,
      elim (cases_Bool (id == map.id)) [
        | inl same ↦ eqb-true id map.id same
        | inr apart ↦ absurd (both_ways (not (id == map.id)) parts.1 (ap not apart))
      ],
    )

module _ (map : MapState) (slot : Standing) (state : AppliedState) (taken last_time : ℕ) (built : List Built) (games : List Played) (began : List Said)
    (accepted : List Snapshot) (executed : List (List ℕ)) where
  -- the server hears a message of another map
  pub AreMapped-ignores : (one : Said) → Contains began one → is_other map one.message.id ≡ true → AreMapped map slot state taken last_time built games began accepted executed
      → AreMapped map (record slot { owed = slot.owed || (not (map.id == 0) && not slot.plays && is_after_game one.message.acknowledged slot.game) })
      state taken last_time built games began accepted executed
  AreMapped-ignores one there apart are =
      let stands = are.stands in
      let asks : Bool = not (map.id == 0) && not slot.plays && is_after_game one.message.acknowledged slot.game in
      let owes : asks ≡ true → (slot.plays ≡ true → ⊥) × (map.id ≡ 0 → ⊥) × IfSome slot.game (λ n. (WasPlayed games n → ⊥) × (n < taken)) =
      λ e.
      let parts = asks_parts (not (map.id == 0)) (not slot.plays) (is_after_game one.message.acknowledged slot.game) e in
      let some = eqb-false map.id 0 (not-true (map.id == 0) parts.0) in
      let waits = not-true slot.plays parts.1 in (
        λ active. both_ways slot.plays waits active,
        some,
        some_then slot.game (λ (n : ℕ). n < one.message.acknowledged) (λ (n : ℕ). (WasPlayed games n → ⊥) × (n < taken))
            (λ n is lt. some_at slot.game (λ (n : ℕ). n < one.message.acknowledged → (WasPlayed games n → ⊥) × (n < taken)) n is
            (All-contains (λ (message : Said). (message.message.id ≡ map.id → ⊥) → IfSome slot.game (λ n. n < message.message.acknowledged → (WasPlayed games n → ⊥) × (n < taken))) began one stands.other there
            (other_id map one.message.id apart some)) lt)
            (after_then one.message.acknowledged slot.game parts.2),
      ) in
      record {
        of_maps = are.of_maps;
        stands = record {
          last = stands.last;
          earlier = stands.earlier;
          active = λ e. (
            or_from slot.owed asks (stands.active e).0 (false_from_ne_true asks (λ asked. (owes asked).0 e)),
            (stands.active e).1,
          );
          owed = λ e. elim (or_cases slot.owed asks e) [
            | inl before ↦ stands.owed before
            | inr now ↦ owes now
          ];
          other = stands.other;
          older = stands.older;
        };
        has = are.has;
        said = are.said;
        under = are.under;
        delta = are.delta;
        ran = are.ran;
        acks = are.acks;
      }

-- ---- a message of the map

-- what a message of the map tells: its client applied the last gamestate of the map, and its moves were issued since; its feed is the map's
pub record IsOfMap (map : MapState) (slot : Standing) (games : List Played) (accepted : List Snapshot) (said : Said) : Type 0 where
  pub played : Played
  pub there : Contains games played
  pub last : slot.game ≡ Some played.number
  pub unowed : slot.owed ≡ false
  pub feed : said.feed ≡ map.feed
  pub after : played.number ≤ said.message.acknowledged
  pub asks : said.message.delta ≡ true → AcceptedUnder games accepted played said.message.acknowledged
  pub older : (slot.plays ≡ true → ⊥) → slot.last_run ≤ played.time
  pub later : All (λ (one : Move). played.time < one.time) said.message.moves

-- the slot's part of it, after what the moves of a message do
abbrev pub with_playing : Standing → Playing → Standing
with_playing slot playing = record slot { plays = is_active playing.stage; game = game_of playing.stage; delta = playing.delta; last_run = playing.last_run }

-- what holds of a number that a message asks for holds of the one that is asked for then
asked_then : (P : ℕ → Type 0) (before : ℕ) (message : Message) (moves : List Move) → (before ≡ 0) ⊎ P before → (message.delta ≡ true → P message.acknowledged)
    → (asked_with before message moves ≡ 0) ⊎ P (asked_with before message moves)
asked_then P before message [] old asks = old
asked_then P before message (one ∷ moves) old asks = go message.delta asks
  where
    go : (delta : Bool) → (delta ≡ true → P message.acknowledged) → ((if delta then message.acknowledged else 0) ≡ 0) ⊎ P (if delta then message.acknowledged else 0)
    go true asks = inr (asks refl)
    go false asks = inl refl

-- a snapshot of a number was accepted under the gamestate of a number
abbrev IsUnder : Option ℕ → List Played → List Snapshot → ℕ → Type 0
IsUnder game games accepted number = (played : Played) × (game ≡ Some played.number) × AcceptedUnder games accepted played number

module _ (map : MapState) (slot : Standing) (state : AppliedState) (taken last_time : ℕ) (built : List Built) (games : List Played) (began : List Said)
    (accepted : List Snapshot) (executed : List (List ℕ)) where
  pub said_of_map : (one : Said) → Contains began one → is_other map one.message.id ≡ false → AreMapped map slot state taken last_time built games began accepted executed
      → IsOfMap map slot games accepted one
  said_of_map one there same are =
      let id = same_id map one.message.id same in
      elim (All-contains (IsSaidUnder games accepted) began one are.said there) [
        | inl before ↦ absurd (id.0 (sym id.1 ∙ before.0))
        | inr under ↦
            let played = under.0 in
            let said = under.1 in
            let stands = are.stands in
            let was : WasPlayed games played.number = (played, said.there, refl) in
            let applied = All-contains (WasApplied taken last_time built accepted executed) games played are.has.each said.there in
            let tells : Tells played.game map.id = said.id ∙ ap Some id.1 in
            let last : slot.game ≡ Some played.number =
            elim (is_some_number slot.game played.number) [
              | inl is ↦ is
              | inr apart ↦ absurd ((is_past map slot taken built games began stands played.number played.game applied.carries tells apart).0 was)
            ] in
            record {
              played = played;
              there = said.there;
              last = last;
              unowed = false_from_ne_true slot.owed (λ owed. (some_at slot.game (λ (n : ℕ). (WasPlayed games n → ⊥) × (n < taken)) played.number last (stands.owed owed).2).0 was);
              feed = said.feed ∙ (are.of_maps.same played.number played.game applied.carries tells).2;
              after = said.after;
              asks = said.asks;
              older = λ waits. some_at slot.game (λ (n : ℕ). (p : Played) → Contains games p → p.number ≡ n → slot.last_run ≤ p.time) played.number last (stands.older waits) played said.there refl;
              later = said.later;
            }
      ]

  -- a client plays on, or enters the map
  plays_on : (one : Said) (delta last_run : ℕ) → IsOfMap map slot games accepted one → (delta ≡ 0) ⊎ IsUnder slot.game games accepted delta → last_run ≤ last_time
      → AreMapped map slot state taken last_time built games began accepted executed
      → AreMapped map (record slot { plays = true; delta = delta; last_run = last_run }) state taken last_time built games began accepted executed
  plays_on one delta last_run of asks ran are =
      let stands = are.stands in
      record {
        of_maps = are.of_maps;
        stands = record {
          last = stands.last;
          earlier = stands.earlier;
          active = λ e. (of.unowed, (of.played.number, of.last, (of.played, of.there, refl)));
          owed = λ e. absurd (both_ways slot.owed of.unowed e);
          other = stands.other;
          older = λ waits. absurd (waits refl);
        };
        has = are.has;
        said = are.said;
        under = are.under;
        delta = elim asks [
          | inl none ↦ inl none
          | inr under ↦ inr (under.0, under.1, refl, under.2)
        ];
        ran = ran;
        acks = are.acks;
      }

  -- the moves of a client that isn't playing came after the last that was run
  pub enters_later : (one : Said) → IsOfMap map slot games accepted one → (slot.plays ≡ true → ⊥) → All (λ (move : Move). slot.last_run < move.time) one.message.moves
  enters_later one of waits =
      let older = of.older waits in
      All-weaker (λ (move : Move). of.played.time < move.time) (λ (move : Move). slot.last_run < move.time) (λ move later. omega (arith, later, older)) one.message.moves of.later

module _ (map : MapState) (slot : SlotState) (state : AppliedState) (taken last_time : ℕ) (built : List Built) (games : List Played) (began : List Said)
    (accepted : List Snapshot) (executed : List (List ℕ)) (one : Said) where
  -- its moves, by how far the client came
  stage_runs : (move : Move) (moves : List Move) (stage : ClientStage) → slot.stage ≡ stage → IsOfMap map (standing_of slot) games accepted one
      → (moves_on slot one.message move moves stage).last_run ≤ last_time → AreMapped map (standing_of slot) state taken last_time built games began accepted executed
      → AreMapped map (with_playing (standing_of slot) (moves_on slot one.message move moves stage)) state taken last_time built games began accepted executed
  stage_runs move moves Connected is of ran are = absurd (none_some of.played.number (sym (ap game_of is) ∙ of.last))
  stage_runs move moves (Primed game) is of ran are =
      let last_run = (moves_on slot one.message move moves (Primed game)).last_run in
      subst (λ (found : Option ℕ). AreMapped map (record (standing_of slot) { plays = true; game = found; delta = 0; last_run = last_run }) state taken last_time built games began accepted executed) (ap game_of is)
      (plays_on map (standing_of slot) state taken last_time built games began accepted executed one 0 last_run of (inl refl) ran are)
  stage_runs move moves (Active game) is of ran are =
      let last_run = (moves_on slot one.message move moves (Active game)).last_run in
      let delta = asked_with slot.delta one.message one.message.moves in
      let old : (slot.delta ≡ 0) ⊎ IsUnder (game_of slot.stage) games accepted slot.delta =
      elim are.delta [
        | inl none ↦ inl none
        | inr under ↦ inr (under.0, under.1, under.3)
      ] in
      let asks = asked_then (IsUnder (game_of slot.stage) games accepted) slot.delta one.message one.message.moves old (λ e. (of.played, of.last, of.asks e)) in
      subst (λ (found : Option ℕ). AreMapped map (record (standing_of slot) { plays = true; game = found; delta = delta; last_run = last_run }) state taken last_time built games began accepted executed) (ap game_of is)
      (plays_on map (standing_of slot) state taken last_time built games began accepted executed one delta last_run of asks ran are)

  moves_run : (moves : List Move) → IsOfMap map (standing_of slot) games accepted one → (goes_on slot one.message moves).last_run ≤ last_time
      → AreMapped map (standing_of slot) state taken last_time built games began accepted executed
      → AreMapped map (with_playing (standing_of slot) (goes_on slot one.message moves)) state taken last_time built games began accepted executed
  moves_run [] of ran are = are
  moves_run (move ∷ moves) of ran are = stage_runs move moves slot.stage refl of ran are

  -- the server runs a message of the map
  pub AreMapped-runs : Contains began one → is_other map one.message.id ≡ false → (goes_on slot one.message one.message.moves).last_run ≤ last_time
      → AreMapped map (standing_of slot) state taken last_time built games began accepted executed
      → AreMapped map (with_playing (standing_of slot) (goes_on slot one.message one.message.moves)) state taken last_time built games began accepted executed
  AreMapped-runs there same ran are =
      moves_run one.message.moves (said_of_map map (standing_of slot) state taken last_time built games began accepted executed one there same are) ran are
