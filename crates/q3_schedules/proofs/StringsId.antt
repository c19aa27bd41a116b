-- The config strings of a client tell the id of its map.
use Rattle.std.proofs.Common.{List, None, Option, Some, ap, length, subst, sym, take, true, ℕ, ◌∙◌, ◌≡◌}
use Rattle.std.specs.Prelude.{All, MatchOption, drop}
use Rattle.std.proofs.lemmas.Bool.{true≢false}
use Rattle.std.proofs.lemmas.List.Elements.{All-drop, All-take}
use Rattle.q3_client.specs.Client.{ClientState}
use Rattle.q3_clstate.specs.State.{AppliedState}
use Rattle.q3_config.specs.Strings.{Strings, server_id}
use Rattle.q3_schedules.specs.Schedules.{StringsTellId}
use Rattle.q3_world.specs.ByTags.{BytesFollowTags, kept_then, whole_then}
use Rattle.q3_world.specs.Games.{IsFresh, IsOf}
use Rattle.q3_world.specs.World.{Played, history_at}
use Rattle.q3_world.proofs.GamesTexts.{LeavesOwn, ids_stay}
use Rattle.q3_schedules.proofs.Stood.{Then, of_there, stood}

-- a client's strings tell its id, once it has a gamestate
abbrev TellsOwn : AppliedState → Type 0
TellsOwn state = state.has_game ≡ true → server_id state.strings ≡ Some state.id

-- what it executed since the gamestate leaves its string 1 as it was
of_game : (state : AppliedState) (played : Played) (executed : List (List ℕ)) → All LeavesOwn executed → IsOf state played executed → TellsOwn state
of_game state played executed own is has =
    ap (λ (s : Strings). server_id s) is.strings
    ∙ ids_stay played.game.strings (drop played.executed executed) (All-drop LeavesOwn played.executed executed own)
    ∙ is.id

of_last : (state : AppliedState) (executed : List (List ℕ)) → All LeavesOwn executed → (last : Option Played)
    → MatchOption last (IsFresh state) (λ played. IsOf state played executed) → TellsOwn state
of_last state executed own None fresh has = absurd (true≢false (sym has ∙ fresh.has))
of_last state executed own (Some played) is has = of_game state played executed own is has

-- what was executed is a front of what was issued
front_leaves : (executed issued : List (List ℕ)) → executed ≡ take (length executed) issued → All LeavesOwn issued → All LeavesOwn executed
front_leaves executed issued front own = subst (All LeavesOwn) (sym front) (All-take LeavesOwn (length executed) issued own)

pub strings_tell_id : BytesFollowTags → StringsTellId
strings_tell_id law profile all c client is are within found =
    let stands : Then profile all = stood law profile all is are in
    let whole = whole_then profile all in
    let history = history_at whole.histories c in
    of_there profile (kept_then profile all) whole c client (λ (client : ClientState). TellsOwn client.state) within found stands
    (λ slot place had.
    let own = front_leaves history.client_executed history.server_commands had.joined.commanded.to_client.front had.keeps.of_slot.own in
    of_last place.client.state history.client_executed own _ had.joined.mapped.has.shows)
