-- A client that has a gamestate is putting no long string together.
use Rattle.std.proofs.Common.{List, None, Option, [], ap, arith, drop, length, subst, sym, take, true, ℕ, ◌+◌, ◌-◌, ◌∙◌, ◌≡◌, ◌≤◌}
use Rattle.std.specs.Prelude.{MatchOption}
use Rattle.std.proofs.lemmas.List.Elements.{All-contains}
use Rattle.q3_built.specs.Built.{IsBuilt}
use Rattle.q3_client.specs.Client.{ClientState}
use Rattle.q3_config.specs.Changes.{after_commands}
use Rattle.q3_config.specs.Strings.{Strings}
use Rattle.q3_profile.specs.declared.profile.Profile.{Profile}
use Rattle.q3_schedules.specs.Schedules.{NothingPends}
use Rattle.q3_slot.specs.Slot.{SlotState}
use Rattle.q3_window.specs.Flow.{Flow}
use Rattle.q3_world.specs.ByTags.{BytesFollowTags, kept_then, whole_then}
use Rattle.q3_world.specs.Ends.{place_at}
use Rattle.q3_world.specs.Games.{HasGames, IsFresh, IsOf, WasApplied}
use Rattle.q3_world.specs.Layers.{Layers}
use Rattle.q3_world.specs.StandsFor.{acks_said, carried_built}
use Rattle.q3_world.specs.World.{History, Played, built_at, history_at, no_history, no_message}
use Rattle.q3_world.proofs.GamesParts.{has_played, newest}
use Rattle.q3_schedules.proofs.StringsSince.{HasHeard, IsHeard}
use Rattle.q3_schedules.proofs.FollowsGiven.{At}
use Rattle.q3_schedules.proofs.FollowsHeard.{built_last}
use Rattle.q3_schedules.proofs.Following.{follows_along, follows_first, heard_of}
use Rattle.q3_schedules.proofs.PiecesEnd.{Pauses}
use Rattle.q3_schedules.proofs.Stood.{Stood, of_there, stood}

-- it executed all commands up to where a message was begun, and its gamestate came with one
none_pends : (profile : Profile) (slot : SlotState) (client : ClientState) (history : History)
    → ((k : ℕ) → 1 ≤ k → k ≤ length history.built → IsBuilt profile slot.challenge k (built_at history.built k))
    → Pauses history.built history.server_commands → HasHeard client.state history.built history.games
    → HasGames client.state client.gathering.taken client.last_time history.built history.games history.accepted history.client_executed
    → Flow slot.issued client.state.executed history.server_commands history.client_executed (carried_built history.built) (acks_said history.said) slot.gathering.taken client.gathering.taken
    → client.state.has_game ≡ true → client.state.strings.pending ≡ None
none_pends profile slot client history builds pauses heard games flow has =
    let executed = history.client_executed in
    let built = history.built in
    let n = client.state.number in
    let found = has_played client.state client.gathering.taken client.last_time built history.games history.accepted executed games has in
    let played = found.0 in
    let of = subst (λ (o : Option Played). MatchOption o (IsFresh client.state) (λ (p : Played). IsOf client.state p executed)) found.1 games.shows in
    let there = (newest history.games played games.rise found.1).there in
    let applied = All-contains (WasApplied client.gathering.taken client.last_time built history.accepted executed) history.games played games.each there in
    let was = All-contains (IsHeard n) history.games played heard.each there in
    let carries = applied.carries in
    let some = carries.some in
    let most = was.most in
    let from : played.executed ≡ (built_at built played.number).last =
    was.up_to ∙ built_last profile slot.challenge played.number (built_at built played.number) played.game (builds played.number some carries.begun) carries.is in
    let count : length executed ≡ (built_at built n).last = sym flow.runs.executed ∙ heard.last (omega (arith, some, most)) in
    let front : executed ≡ take (built_at built n).last history.server_commands = flow.front ∙ ap (λ (k : ℕ). take k history.server_commands) count in
    ap (λ (s : Strings). s.pending)
    (of.strings
    ∙ (ap (λ (k : ℕ). after_commands played.game.strings (drop k executed)) from
    ∙ ap (λ (texts : List (List ℕ)). after_commands played.game.strings (drop (built_at built played.number).last texts)) front))
    ∙ pauses.between played.number n some most heard.begun played.game.strings (pauses.game played.number played.game carries)

pub nothing_pends : BytesFollowTags → Layers → NothingPends
nothing_pends law below profile all c client checked are says lt found has =
    let now = whole_then profile all in
    let history = history_at now.histories c in
    let stands : Stood profile (kept_then profile all) now = stood law profile all checked are in
    let at : At no_history c now = follows_along law below profile checked no_history c lt [] all are says (follows_first profile c lt) in
    of_there profile (kept_then profile all) now c client (λ (client : ClientState). client.state.has_game ≡ true → client.state.strings.pending ≡ None) lt found stands
    (λ slot place had.
    none_pends profile slot place.client history
    (λ k some begun.
    let there : k - 1 + 1 ≡ k = omega (arith, some) in
    subst (λ (n : ℕ). IsBuilt profile slot.challenge n (built_at history.built k)) there (had.keeps.of_slot.built (k - 1) no_message (omega (arith, some, begun))))
    at.pauses (heard_of (place_at now.ends c) place history.built history.games had.place_is at.heard) had.joined.mapped.has had.joined.commanded.to_client)
    has
