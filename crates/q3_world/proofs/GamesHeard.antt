-- The maps of a server at both ends of a client, where the client takes a message that carries no gamestate.
use Rattle.std.proofs.lemmas.Option.{MatchOption-at_some, MatchOption-at_none}
use Rattle.std.proofs.Common.{[], List, None, Option, Some, ap, arith, drop, inl, inr, length, refl, subst, sym, ℕ, ◌++◌, ◌-◌, ◌<◌, ◌∙◌, ◌∷◌, ◌≡◌, ◌≤◌}
use Rattle.std.specs.Prelude.{All, IfSome, MatchOption, unwrap_or}
use Rattle.std.proofs.lemmas.Bool.{cases_lt}
use Rattle.std.proofs.lemmas.List.{append-nil, drop-append-le, get_or_append_left, length-append, get_or-append_right}
use Rattle.std.proofs.lemmas.List.Elements.{All-cons, All-contains, All-drop, All-get_or, All-nil, All-weaker}
use Rattle.q3_client.specs.Sending.{Said}
use Rattle.q3_clstate.specs.State.{AppliedState, Settings, hearing, id_in}
use Rattle.q3_config.specs.Changes.{after_commands}
use Rattle.q3_config.specs.Strings.{Strings, server_id}
use Rattle.q3_map.specs.Map.{MapState}
use Rattle.q3_entity_ring.specs.Snapshot.{Snapshot}
use Rattle.q3_rings.specs.Rings.{HeldSnapshots}
use Rattle.q3_built.specs.Built.{Built}
use Rattle.q3_text.specs.declared.text.Command.{Command}
use Rattle.q3_window.specs.Incoming.{fresh_of}
use Rattle.q3_world.specs.Games.{AreMapped, HasGames, IsFresh, IsSaidUnder, Standing, WasApplied, WasPlayed, last_played}
use Rattle.q3_world.specs.World.{Played, texts_of}
use Rattle.q3_world.specs.Games.{IsOf}
use Rattle.q3_world.proofs.GamesParts.{cases_option, some_then, newest}
use Rattle.q3_world.proofs.GamesUnder.{under_more}
use Rattle.q3_world.proofs.GamesTexts.{LeavesOwn, after_commands-append, id_after, ids_stay, strings_of_texts}

-- what a message said stays said where more is accepted
said_same : (games : List Played) (accepted more : List Snapshot) (said : Said) → IsSaidUnder games accepted said → IsSaidUnder games (accepted ++ more) said
said_same games accepted more said is =
    elim is [
      | inl before ↦ inl before
      | inr under ↦ let was = under.1 in inr (
        under.0,
        record {
          there = was.there;
          id = was.id;
          feed = was.feed;
          after = was.after;
          asks = λ e. under_more games accepted more under.0 said.message.acknowledged (was.asks e);
          later = was.later;
        },
      )
    ]

-- a client's state after texts that it executed: what it has of its gamestate stays, but for the strings
pub record GoesOn (state after : AppliedState) (texts : List (List ℕ)) : Type 0 where
  pub has : after.has_game ≡ state.has_game
  pub id : after.id ≡ state.id
  pub slot : after.slot ≡ state.slot
  pub feed : after.feed ≡ state.feed
  pub baselines : after.baselines ≡ state.baselines
  pub strings : after.strings ≡ after_commands state.strings texts

-- after the commands of a message
pub goes_on : (state : AppliedState) (commands : List Command) (number : ℕ) (held : HeldSnapshots) → All LeavesOwn (texts_of (fresh_of state.executed.executed commands))
    → id_in state.id state.strings ≡ state.id
    → GoesOn state (record (hearing state commands) { number = number; held = held }) (texts_of (fresh_of state.executed.executed commands))
goes_on state commands number held own is =
    let settings : Settings = record { strings = state.strings; id = state.id } in
    record {
      has = refl;
      id = id_after settings (fresh_of state.executed.executed commands) own is;
      slot = refl;
      feed = refl;
      baselines = refl;
      strings = strings_of_texts settings (fresh_of state.executed.executed commands);
    }

module _ (state after : AppliedState) (executed texts : List (List ℕ)) (goes : GoesOn state after texts) (own : All LeavesOwn texts) where
  -- it shows its last gamestate, or none, as before
  shows_on : (o : Option Played) → IfSome o (λ played. played.executed ≤ length executed) → MatchOption o (IsFresh state) (λ (played : Played). IsOf state played executed)
      → MatchOption o (IsFresh after) (λ (played : Played). IsOf after played (executed ++ texts))
  shows_on None within fresh =
      record {
        has = goes.has ∙ fresh.has;
        id = goes.id ∙ fresh.id;
        strings = ap server_id goes.strings ∙ (ids_stay state.strings texts own ∙ fresh.strings);
        slot = goes.slot ∙ fresh.slot;
        feed = goes.feed ∙ fresh.feed;
        baselines = goes.baselines ∙ fresh.baselines;
      }
  shows_on (Some played) within of =
      record {
        has = goes.has ∙ of.has;
        id = of.id ∙ ap Some (sym goes.id);
        slot = goes.slot ∙ of.slot;
        feed = goes.feed ∙ of.feed;
        baselines = goes.baselines ∙ of.baselines;
        strings = goes.strings
            ∙ (ap (λ (strings : Strings). after_commands strings texts) of.strings
            ∙ (sym (after_commands-append played.game.strings (drop played.executed executed) texts)
            ∙ ap (after_commands played.game.strings) (sym (drop-append-le played.executed executed texts within))));
      }

module _ (state : AppliedState) (taken last_time : ℕ) (built : List Built) (games : List Played) (accepted : List Snapshot) (executed : List (List ℕ)) where
  -- the last gamestate was applied
  last_applied : HasGames state taken last_time built games accepted executed → IfSome (last_played games) (λ played. WasApplied taken last_time built accepted executed played)
  last_applied has = go (last_played games) (λ played is. All-contains (WasApplied taken last_time built accepted executed) games played has.each (newest games played has.rise is).there)
    where
      go : (o : Option Played) → ((played : Played) → o ≡ Some played → WasApplied taken last_time built accepted executed played) → IfSome o (λ played. WasApplied taken last_time built accepted executed played)
      go None each = tt
      go (Some played) each = each played refl

  -- a client's strings tell its id, or none does
  pub knows_id : All LeavesOwn executed → HasGames state taken last_time built games accepted executed → id_in state.id state.strings ≡ state.id
  knows_id own has =
      elim (cases_option (last_played games)) [
        | inl none ↦
            let fresh = MatchOption-at_none (IsFresh state) (λ (played : Played). IsOf state played executed) none has.shows in
            ap (λ (o : Option ℕ). unwrap_or o state.id) fresh.strings
        | inr some ↦
            let played = some.0 in
            let of = MatchOption-at_some (IsFresh state) (λ (played : Played). IsOf state played executed) played some.1 has.shows in
            let tells : server_id state.strings ≡ Some state.id =
            ap server_id of.strings ∙ (ids_stay played.game.strings (drop played.executed executed) (All-drop LeavesOwn played.executed executed own) ∙ of.id) in
            ap (λ (o : Option ℕ). unwrap_or o state.id) tells
      ]

  -- and has its gamestates where snapshots of a newer number are accepted
  has_on : (after : AppliedState) (n : ℕ) (more : List Snapshot) (texts : List (List ℕ)) → taken < n → All (λ (s : Snapshot). s.head.number ≡ n) more → GoesOn state after texts
      → All LeavesOwn texts → HasGames state taken last_time built games accepted executed → HasGames after n last_time built games (accepted ++ more) (executed ++ texts)
  has_on after n more texts newer numbers goes own has =
      record {
        each = All-weaker (WasApplied taken last_time built accepted executed) (WasApplied n last_time built (accepted ++ more) (executed ++ texts))
            (λ played was.
            let most = was.most in
            let before = was.before in
            let heard = was.executed in
            record {
              carries = was.carries;
              tells = was.tells;
              most = omega (arith, most, newer);
              before = omega (arith, before, length-append accepted more);
              executed = omega (arith, heard, length-append executed texts);
              time = was.time;
              lower = λ k d lt within.
                  let front : k < length accepted = omega (arith, lt, before) in
                  rw (get_or_append_left accepted more d k front) (was.lower k d lt front);
              higher = λ k d since within. elim (cases_lt k (length accepted)) [
                | inl front ↦ rw (get_or_append_left accepted more d k front) (was.higher k d since front)
                | inr past ↦
                    let at = ap (λ (s : Snapshot). s.head.number) (get_or-append_right accepted more (length accepted) k d refl past) in
                    let number = All-get_or (λ (s : Snapshot). s.head.number ≡ n) more (k - length accepted) d (omega (arith, past, within, length-append accepted more)) numbers in
                    omega (arith, at, number, most, newer)
              ];
            }) games has.each;
        rise = has.rise;
        maps = has.maps;
        shows = shows_on state after executed texts goes own (last_played games)
            (some_then (last_played games) (WasApplied taken last_time built accepted executed) (λ (played : Played). played.executed ≤ length executed) (λ played e was. was.executed) (last_applied has)) has.shows;
      }

module _ (map : MapState) (slot : Standing) (state : AppliedState) (taken last_time : ℕ) (built : List Built) (games : List Played) (began : List Said)
    (accepted : List Snapshot) (executed : List (List ℕ)) where
  -- a client takes a message with no gamestate
  pub AreMapped-goes_on : (after : AppliedState) (n : ℕ) (more : List Snapshot) (texts : List (List ℕ)) → taken < n → All (λ (s : Snapshot). s.head.number ≡ n) more
      → GoesOn state after texts → All LeavesOwn texts → AreMapped map slot state taken last_time built games began accepted executed
      → AreMapped map slot after n last_time built games began (accepted ++ more) (executed ++ texts)
  AreMapped-goes_on after n more texts newer numbers goes own are =
      let stands = are.stands in
      record {
        of_maps = are.of_maps;
        stands = record {
          last = stands.last;
          earlier = λ m k id x y is other lt told same.
              let old = stands.earlier m k id x y is other lt told same in
              let late = old.1 in
              (old.0, omega (arith, late, newer));
          active = stands.active;
          owed = λ e.
              let old = stands.owed e in (
                old.0,
                old.1,
                some_then slot.game (λ (m : ℕ). (WasPlayed games m → ⊥) × (m < taken)) (λ (m : ℕ). (WasPlayed games m → ⊥) × (m < n))
                    (λ m is was. let late = was.1 in (was.0, omega (arith, late, newer))) old.2,
              );
          other = All-weaker (λ (said : Said). (said.message.id ≡ map.id → ⊥) → IfSome slot.game (λ m. m < said.message.acknowledged → (WasPlayed games m → ⊥) × (m < taken)))
              (λ (said : Said). (said.message.id ≡ map.id → ⊥) → IfSome slot.game (λ m. m < said.message.acknowledged → (WasPlayed games m → ⊥) × (m < n)))
              (λ said old apart. some_then slot.game (λ (m : ℕ). m < said.message.acknowledged → (WasPlayed games m → ⊥) × (m < taken))
              (λ (m : ℕ). m < said.message.acknowledged → (WasPlayed games m → ⊥) × (m < n))
              (λ m is was behind. let now = was behind in let late = now.1 in (now.0, omega (arith, late, newer))) (old apart)) began stands.other;
          older = stands.older;
        };
        has = has_on state taken last_time built games accepted executed after n more texts newer numbers goes own are.has;
        said = All-weaker (IsSaidUnder games accepted) (IsSaidUnder games (accepted ++ more)) (λ said is. said_same games accepted more said is) began are.said;
        under = are.under;
        delta = elim are.delta [
          | inl none ↦ inl none
          | inr under ↦ inr (under.0, under.1, under.2, under_more games accepted more under.0 slot.delta under.3)
        ];
        ran = are.ran;
        acks = All-weaker (λ (message : Said). message.message.acknowledged ≤ taken) (λ (message : Said). message.message.acknowledged ≤ n)
            (λ message most. omega (arith, most, newer)) began are.acks;
      }

  -- of which no snapshot is accepted
  pub AreMapped-passes : (n : ℕ) (commands : List Command) (held : HeldSnapshots) → taken < n → All LeavesOwn executed → All LeavesOwn (texts_of (fresh_of state.executed.executed commands))
      → AreMapped map slot state taken last_time built games began accepted executed
      → AreMapped map slot (record (hearing state commands) { number = n; held = held }) n last_time built games began accepted (executed ++ texts_of (fresh_of state.executed.executed commands))
  AreMapped-passes n commands held newer before own are =
      let texts : List (List ℕ) = texts_of (fresh_of state.executed.executed commands) in
      let after : AppliedState = record (hearing state commands) { number = n; held = held } in
      subst (λ (all : List Snapshot). AreMapped map slot after n last_time built games began all (executed ++ texts)) (append-nil accepted)
      (AreMapped-goes_on after n [] texts newer (All-nil (λ (s : Snapshot). s.head.number ≡ n))
      (goes_on state commands n held own (knows_id state taken last_time built games accepted executed before are.has)) own are)

  -- or of which one is
  pub AreMapped-accepts : (n : ℕ) (commands : List Command) (held : HeldSnapshots) (snapshot : Snapshot) → taken < n → snapshot.head.number ≡ n → All LeavesOwn executed
      → All LeavesOwn (texts_of (fresh_of state.executed.executed commands)) → AreMapped map slot state taken last_time built games began accepted executed
      → AreMapped map slot (record (hearing state commands) { number = n; held = held }) n last_time built games began (accepted ++ snapshot ∷ [])
      (executed ++ texts_of (fresh_of state.executed.executed commands))
  AreMapped-accepts n commands held snapshot newer number before own are =
      AreMapped-goes_on (record (hearing state commands) { number = n; held = held }) n (snapshot ∷ []) (texts_of (fresh_of state.executed.executed commands)) newer
      (All-cons (λ (s : Snapshot). s.head.number ≡ n) snapshot [] number (All-nil (λ (s : Snapshot). s.head.number ≡ n)))
      (goes_on state commands n held own (knows_id state taken last_time built games accepted executed before are.has)) own are
