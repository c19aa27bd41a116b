-- A client's config strings are those that the server had when the last message that the client applied was begun.
use Rattle.std.proofs.Common.{List, None, Option, Some, [], ap, arith, drop, length, refl, subst, sym, take, true, ℕ, ◌++◌, ◌+◌, ◌<◌, ◌∙◌, ◌∷◌, ◌≡◌, ◌≤◌}
use Rattle.std.specs.List.{AllByRecursion}
use Rattle.std.specs.Prelude.{IfSome, MatchOption}
use Rattle.std.proofs.Math.Seq.{take-append_seam}
use Rattle.std.proofs.lemmas.List.{append-nil, append_assoc, get_or-replicate}
use Rattle.std.proofs.lemmas.List.Elements.{All-contains}
use Rattle.q3_client.specs.Client.{ClientState}
use Rattle.q3_config.specs.Changes.{after_commands}
use Rattle.q3_config.specs.Strings.{Strings, no_strings}
use Rattle.q3_gamestate.specs.Values.{Gamestate}
use Rattle.q3_map.specs.Map.{MapState}
use Rattle.q3_profile.specs.declared.profile.Profile.{Profile}
use Rattle.q3_schedules.specs.Schedules.{IsScheduled}
use Rattle.q3_script.specs.declared.event.Event.{Event}
use Rattle.q3_script.specs.declared.event.Event.TheVariants as events
use Rattle.q3_server.specs.Server.{emit_at, emit_from, places, slot_at}
use Rattle.q3_built.specs.Built.{Built}
use Rattle.q3_slot.specs.Emitting.{emit_slot}
use Rattle.q3_slot.specs.Slot.{SlotState}
use Rattle.q3_window.specs.Flow.{Flow, FlowLaws}
use Rattle.q3_window.specs.Outgoing.{issued_of}
use Rattle.q3_world.specs.declared.places.Place.{Place}
use Rattle.q3_world.specs.Ends.{Ends, line_of, place_at}
use Rattle.q3_world.specs.Games.{Carries, HasGames, IsFresh, IsOf, Tells, WasApplied}
use Rattle.q3_world.specs.Layers.{Layers}
use Rattle.q3_world.specs.ByTags.{BytesFollowTags, kept_then, whole_then}
use Rattle.q3_schedules.specs.Schedules.{SaysNoChange, StringsFollow}
use Rattle.q3_world.specs.StandsFor.{IsChecked, acks_said, carried_built}
use Rattle.q3_world.specs.World.{History, Played, Whole, after, built_at, history_at, no_history, opening, serve, step, with_built, with_history}
use Rattle.q3_world.proofs.Holding.{Holds}
use Rattle.q3_schedules.proofs.StringsSince.{Grew, Grew-none, HasHeard, IsFollowed, IsHeard, follows_nothing}
use Rattle.q3_schedules.proofs.FollowsEvents.{follows_on, issued_count}
use Rattle.q3_schedules.proofs.FollowsGiven.{At, state_in}
use Rattle.q3_schedules.proofs.FollowsHeard.{BeginsSo, TellsOf, emits_so}
use Rattle.q3_world.proofs.GamesParts.{built_end, built_front, carries_front, has_played, newest}
use Rattle.q3_world.proofs.Growth.{noted_same}
use Rattle.q3_world.proofs.OnePlace.{set_there}
use Rattle.q3_schedules.proofs.Stood.{Stood, after_both, after_one, holds_of, of_there, stood}

-- ---- every list of events

-- before the first event
pub follows_first : (profile : Profile) (c : ℕ) → c < places → At no_history c (whole_then profile [])
unfolding after opening
follows_first profile c lt =
    rw (get_or-replicate {A = Option Place} places c None None lt, get_or-replicate places c no_history no_history lt) (follows_nothing 0 no_strings)

-- what holds of all events holds of the first, and of each
pub all_first : (P : Event → Type 0) (some others : List Event) → AllByRecursion P (some ++ others) → AllByRecursion P some
all_first P [] others all = tt
all_first P (event ∷ some) others all = (all.0, all_first P some others all.1)

pub all_at : (P : Event → Type 0) (some : List Event) (event : Event) (others : List Event) → AllByRecursion P (some ++ event ∷ others) → P event
all_at P [] event others all = all.0
all_at P (first ∷ some) event others all = all_at P some event others all.1

-- what follows between any two events follows to the end
pub follows_along : BytesFollowTags → Layers → (profile : Profile) → IsChecked profile → (old : History) (c : ℕ) → c < places → (some rest : List Event)
    → AllByRecursion IsScheduled (some ++ rest) → AllByRecursion SaysNoChange (some ++ rest) → At old c (whole_then profile some) → At old c (whole_then profile (some ++ rest))
follows_along law below profile checked old c lt some [] are says at = subst (λ (all : List Event). At old c (whole_then profile all)) (sym (append-nil some)) at
follows_along law below profile checked old c lt some (event ∷ rest) are says at =
    let whole = whole_then profile some in
    let next = some ++ event ∷ [] in
    let same : next ++ rest ≡ some ++ event ∷ rest = append_assoc some (event ∷ []) rest in
    let stands : Stood profile (kept_then profile some) whole = stood law profile some checked (all_first IsScheduled some (event ∷ rest) are) in
    let holds = holds_of profile (kept_then profile some) whole stands in
    let is : whole_then profile next ≡ (step profile whole event).whole = after_both profile (opening profile) some (event ∷ []) ∙ after_one profile whole event in
    let on : At old c (step profile whole event).whole =
    follows_on profile whole old c lt holds at below.windows.flow below.does below.configs event (all_at IsScheduled some event rest are) (all_at SaysNoChange some event rest says) in
    subst (λ (all : List Event). At old c (whole_then profile all)) same
    (follows_along law below profile checked old c lt next rest (subst (AllByRecursion IsScheduled) (sym same) are) (subst (AllByRecursion SaysNoChange) (sym same) says)
    (subst (At old c) (sym is) on))

-- what follows since now
follows_since : (old : History) (c : ℕ) (whole : Whole) → At old c whole → At (history_at whole.histories c) c whole
follows_since old c whole at =
    let history = history_at whole.histories c in
    record { each = at.each; heard = at.heard; built_on = Grew-none history.built; issued_on = Grew-none history.server_commands; pauses = at.pauses }

-- ---- a serve that begins a message

-- the map is as before, and the message was begun after all commands
record BegunAt (before now : Whole) (c : ℕ) : Type 0 where
  id : now.ends.server.map.id ≡ before.ends.server.map.id
  strings : now.ends.server.map.strings ≡ before.ends.server.map.strings
  last : (built_at (history_at now.histories c).built (length (history_at before.histories c).built + 1)).last ≡ length (history_at now.histories c).server_commands

begun_after : (map : MapState) (last : ℕ) (history : History) (began : Option Built) → last ≡ length history.server_commands → IfSome began (TellsOf map last)
    → length (with_built history began).built ≡ length history.built + 1 → (built_at (with_built history began).built (length history.built + 1)).last ≡ length (with_built history began).server_commands
begun_after map last history None count tells more = absurd (omega (arith, more))
begun_after map last history (Some next) count tells more = ap (λ (b : Built). b.last) (built_end history.built next (length history.built + 1) refl) ∙ (tells.last_is ∙ count)

begun_by : FlowLaws → (profile : Profile) (whole : Whole) (c : ℕ) → c < places → Holds profile whole → (found : Option SlotState) → slot_at whole.ends.server c ≡ found
    → length (history_at (serve whole c (emit_from whole.ends.server c found)).whole.histories c).built ≡ length (history_at whole.histories c).built + 1
    → BegunAt whole (serve whole c (emit_from whole.ends.server c found)).whole c
begun_by flow profile whole c lt holds None at more =
    let same : length (history_at (with_history whole.histories c (history_at whole.histories c)) c).built ≡ length (history_at whole.histories c).built =
    ap (λ (h : List History). length (history_at h c).built) (noted_same whole.histories c) in
    absurd (omega (arith, more, same))
begun_by flow profile whole c lt holds (Some slot) at more =
    let server = whole.ends.server in
    let history = history_at whole.histories c in
    let emission = emit_slot server.profile server.map server.frames c slot slot.sending.under_way in
    let so : BeginsSo server.map (issued_of slot.issued) emission.map emission.began = emits_so server.profile server.map server.frames c slot slot.sending.under_way in
    let next = with_built history emission.began in
    let there : history_at (with_history whole.histories c next) c ≡ next = set_there whole.histories c no_history next holds.facts.histories lt in
    record {
      id = so.id;
      strings = so.strings;
      last = subst (λ (h : History). (built_at h.built (length history.built + 1)).last ≡ length h.server_commands) (sym there)
          (begun_after server.map (issued_of slot.issued) history emission.began (issued_count profile whole c slot flow lt at holds) so.tells
          (subst (λ (h : History). length h.built ≡ length history.built + 1) there more));
    }

begun_at : FlowLaws → (profile : Profile) (whole : Whole) (c : ℕ) → c < places → Holds profile whole
    → length (history_at (step profile whole (events.Serve c)).whole.histories c).built ≡ length (history_at whole.histories c).built + 1
    → BegunAt whole (step profile whole (events.Serve c)).whole c
unfolding step line_of emit_at
begun_at flow profile whole c lt holds more = begun_by flow profile whole c lt holds (slot_at whole.ends.server c) refl more

-- ---- the client's strings

-- where the last message that it applied is the last that was begun then, after all commands
strings_then : (slot : SlotState) (client : ClientState) (old history : History) (id : ℕ) (strings : Strings)
    → ((n : ℕ) (game : Gamestate) → Carries old.built n game → Tells game id → IsFollowed game strings old.server_commands)
    → Grew old.built history.built → Grew old.server_commands history.server_commands → HasHeard client.state history.built history.games
    → HasGames client.state client.gathering.taken client.last_time history.built history.games history.accepted history.client_executed
    → Flow slot.issued client.state.executed history.server_commands history.client_executed (carried_built history.built) (acks_said history.said) slot.gathering.taken client.gathering.taken
    → client.state.has_game ≡ true → 1 ≤ client.state.number → client.state.number ≡ length old.built → (built_at old.built client.state.number).last ≡ length old.server_commands
    → client.state.id ≡ id → client.state.strings ≡ strings
strings_then slot client old history id strings follows built_on issued_on heard games flow has some number last id_is =
    let executed = history.client_executed in
    let found = has_played client.state client.gathering.taken client.last_time history.built history.games history.accepted executed games has in
    let played = found.0 in
    let of = subst (λ (o : Option Played). MatchOption o (IsFresh client.state) (λ (p : Played). IsOf client.state p executed)) found.1 games.shows in
    let there = (newest history.games played games.rise found.1).there in
    let applied = All-contains (WasApplied client.gathering.taken client.last_time history.built history.accepted executed) history.games played games.each there in
    let was = All-contains (IsHeard client.state.number) history.games played heard.each there in
    let most = was.most in
    let carries : Carries old.built played.number played.game =
    carries_front old.built built_on.more played.number played.game (omega (arith, most, number)) (subst (λ (b : List Built). Carries b played.number played.game) built_on.is applied.carries) in
    let followed = follows played.number played.game carries (of.id ∙ ap Some id_is) in
    let last_now : (built_at history.built client.state.number).last ≡ length old.server_commands =
    ap (λ (b : List Built). (built_at b client.state.number).last) built_on.is
    ∙ (ap (λ (b : Built). b.last) (built_front old.built built_on.more client.state.number some (omega (arith, number))) ∙ last) in
    let count : length executed ≡ length old.server_commands = sym flow.runs.executed ∙ (heard.last some ∙ last_now) in
    let all : executed ≡ old.server_commands =
    flow.front
    ∙ (ap (λ (k : ℕ). take k history.server_commands) count
    ∙ (ap (λ (texts : List (List ℕ)). take (length old.server_commands) texts) issued_on.is ∙ take-append_seam old.server_commands issued_on.more)) in
    of.strings
    ∙ (ap (λ (k : ℕ). after_commands played.game.strings (drop k executed)) was.up_to
    ∙ (ap (λ (texts : List (List ℕ)). after_commands played.game.strings (drop played.game.command texts)) all ∙ followed.same))

pub heard_of : (found : Option Place) (place : Place) (built : List Built) (games : List Played) → found ≡ Some place → IfSome (state_in found) (λ s. HasHeard s built games)
    → HasHeard place.client.state built games
heard_of found place built games is heard =
    let at : IfSome (state_in (Some place)) (λ s. HasHeard s built games) = subst (λ (o : Option Place). IfSome (state_in o) (λ s. HasHeard s built games)) is heard in at

pub strings_follow : BytesFollowTags → Layers → StringsFollow
strings_follow law below profile before rest c client checked are says lt more found has number id =
    let event : Event = events.Serve c in
    let served = before ++ event ∷ [] in
    let all = before ++ event ∷ rest in
    let same : served ++ rest ≡ all = append_assoc before (event ∷ []) rest in
    let are_so : AllByRecursion IsScheduled (served ++ rest) = subst (AllByRecursion IsScheduled) (sym same) are in
    let says_so : AllByRecursion SaysNoChange (served ++ rest) = subst (AllByRecursion SaysNoChange) (sym same) says in
    let first = whole_then profile before in
    let then = whole_then profile served in
    let now = whole_then profile all in
    let old = history_at then.histories c in
    let stands : Stood profile (kept_then profile before) first = stood law profile before checked (all_first IsScheduled before (event ∷ rest) are) in
    let holds = holds_of profile (kept_then profile before) first stands in
    let is : then ≡ (step profile first event).whole = after_both profile (opening profile) before (event ∷ []) ∙ after_one profile first event in
    let begun : BegunAt first then c =
    subst (λ (w : Whole). BegunAt first w c) (sym is)
    (begun_at below.windows.flow profile first c lt holds (subst (λ (w : Whole). length (history_at w.histories c).built ≡ length (history_at first.histories c).built + 1) is more)) in
    let at : At no_history c then =
    follows_along law below profile checked no_history c lt [] served (all_first IsScheduled served rest are_so) (all_first SaysNoChange served rest says_so) (follows_first profile c lt) in
    let since : At old c now =
    subst (λ (l : List Event). At old c (whole_then profile l)) same (follows_along law below profile checked old c lt served rest are_so says_so (follows_since no_history c then at)) in
    let stands_now : Stood profile (kept_then profile all) now = stood law profile all checked are in
    let history = history_at now.histories c in
    let map_is = ap (λ (e : Ends). e.server.map) stands.ends in
    let says : ClientState → Type 0 = λ client.
    client.state.has_game ≡ true → client.state.number ≡ length (history_at first.histories c).built + 1 → client.state.id ≡ (kept_then profile before).ends.server.map.id
    → client.state.strings ≡ (kept_then profile before).ends.server.map.strings in
    of_there profile (kept_then profile all) now c client says lt found stands_now
    (λ slot place had has number id.
    let state = place.client.state in
    let id_is : state.id ≡ then.ends.server.map.id = id ∙ (ap (λ (m : MapState). m.id) map_is ∙ sym begun.id) in
    let last : (built_at old.built state.number).last ≡ length old.server_commands = ap (λ (k : ℕ). (built_at old.built k).last) number ∙ begun.last in
    strings_then slot place.client old history then.ends.server.map.id then.ends.server.map.strings at.each since.built_on since.issued_on
    (heard_of (place_at now.ends c) place history.built history.games had.place_is since.heard) had.joined.mapped.has had.joined.commanded.to_client has
    (omega (arith, number)) (number ∙ sym more) last id_is
    ∙ (begun.strings ∙ ap (λ (m : MapState). m.strings) (sym map_is)))
    has number id
