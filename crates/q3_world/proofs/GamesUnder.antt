-- Snapshots that a client accepted under a gamestate.
use Rattle.std.proofs.Common.{[], List, Some, ap, arith, drop, get_or-drop, inl, inr, length, length-drop, sym, ℕ, ◌++◌, ◌+◌, ◌<◌, ◌∙◌, ◌∷◌, ◌≡◌, ◌≤◌}
use Rattle.std.proofs.lemmas.List.{get_or_append_left, get_or_default, length-append}
use Rattle.std.proofs.lemmas.List.Elements.{Contains-append_left, Contains-push_cases}
use Rattle.q3_player.specs.Heads.{empty_head}
use Rattle.q3_entity_ring.specs.Snapshot.{Snapshot}
use Rattle.q3_built.specs.Built.{Built}
use Rattle.q3_world.specs.Games.{AcceptedUnder, GamesRise, WasApplied, last_played}
use Rattle.q3_world.specs.StandsFor.{WasAccepted}
use Rattle.q3_world.specs.World.{Played}
use Rattle.q3_world.proofs.GamesParts.{newest}

-- what was accepted since the last was accepted under it
pub under_last : (games : List Played) (accepted : List Snapshot) (played : Played) (number : ℕ) → GamesRise games → last_played games ≡ Some played
    → WasAccepted (drop played.accepted accepted) number → AcceptedUnder games accepted played number
under_last games accepted played number rise last was =
    let top = newest games played rise last in
    let snapshot = was.0 in
    let there = was.1 in
    let inside = there.1 in
    let place : ℕ = played.accepted + there.0 in
    let within : place < length accepted = omega (arith, inside, length-drop played.accepted accepted) in
    record {
      there = top.there;
      place = place;
      within = within;
      is = λ d. ap (λ (s : Snapshot). s.head.number) (get_or_default accepted place d snapshot within ∙ (sym (get_or-drop played.accepted accepted there.0 snapshot) ∙ there.2)) ∙ was.2;
      after = omega arith;
      before = λ later is lt. let most = top.most later is in absurd (omega (arith, most, lt));
    }

-- and stays so where more is accepted
pub under_more : (games : List Played) (accepted more : List Snapshot) (played : Played) (number : ℕ) → AcceptedUnder games accepted played number
    → AcceptedUnder games (accepted ++ more) played number
under_more games accepted more played number under =
    let within = under.within in
    record {
      there = under.there;
      place = under.place;
      within = omega (arith, within, length-append accepted more);
      is = λ d. ap (λ (s : Snapshot). s.head.number) (get_or_append_left accepted more d under.place within) ∙ under.is d;
      after = under.after;
      before = under.before;
    }

-- and where a gamestate is applied after it
pub under_later : (games : List Played) (next : Played) (accepted : List Snapshot) (played : Played) (number : ℕ) → length accepted ≤ next.accepted
    → AcceptedUnder games accepted played number → AcceptedUnder (games ++ next ∷ []) accepted played number
under_later games next accepted played number count under =
    let within = under.within in
    record {
      there = Contains-append_left games (next ∷ []) played under.there;
      place = under.place;
      within = under.within;
      is = under.is;
      after = under.after;
      before = λ later is lt. elim (Contains-push_cases games next later is) [
        | inl before ↦ under.before later before lt
        | inr last ↦ let same = ap (λ (p : Played). p.accepted) last in omega (arith, same, count, within)
      ];
    }

-- it has a number above the gamestate's
pub under_above : (taken last_time : ℕ) (built : List Built) (games : List Played) (accepted : List Snapshot) (executed : List (List ℕ)) (played : Played) (number : ℕ)
    → WasApplied taken last_time built accepted executed played → AcceptedUnder games accepted played number → played.number < number
under_above taken last_time built games accepted executed played number was under =
    let none : Snapshot = record { head = empty_head; entities = [] } in
    let higher = was.higher under.place none under.after under.within in
    let is = under.is none in
    omega (arith, higher, is)
