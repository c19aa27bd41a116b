-- The maps of a server at both ends of a client, where the client takes a message.
use Rattle.std.proofs.lemmas.Option.{MatchOption-at_some}
use Rattle.std.proofs.Common.{[], List, None, Option, Some, ap, arith, drop, false, get_or, get_or-drop, inl, inr, length, length-drop, refl, subst, sym, ℕ, ◌++◌, ◌+◌, ◌-◌, ◌<◌, ◌∙◌, ◌∷◌, ◌≡◌, ◌≤◌, IsSome}
use Rattle.std.specs.Prelude.{All, Contains, IfSome, MatchOption, unwrap_or}
use Rattle.std.proofs.lemmas.Bool.{both_ways, cases_eq, cases_lt, false_from_ne_true}
use Rattle.std.proofs.lemmas.List.{drop_all, get_or_append_left, get_or_push, length-append, length_push, get_or-append_right}
use Rattle.std.proofs.lemmas.List.Elements.{All-contains, All-contains_itself, All-get_or, All-push, All-weaker, Contains-append_left, Contains-push_cases}
use Rattle.q3_client.specs.Sending.{Said}
use Rattle.q3_clstate.specs.State.{AppliedState, after_gamestate, id_in}
use Rattle.q3_config.specs.Changes.{after_commands}
use Rattle.q3_config.specs.Strings.{Strings, server_id}
use Rattle.q3_gamestate.specs.Values.{Gamestate}
use Rattle.q3_map.specs.Map.{MapState}
use Rattle.q3_entity_ring.specs.Snapshot.{Snapshot}
use Rattle.q3_built.specs.Built.{Built}
use Rattle.q3_slot.specs.Slots.{tells}
use Rattle.q3_world.specs.Games.{AreMapped, Carries, GamesRise, IsFresh, IsSaidUnder, MapsRise, Standing, Tells, WasApplied, WasPlayed, accepted_since, last_played}
use Rattle.q3_world.specs.World.{Played, built_at}
use Rattle.q3_world.specs.Games.{IsOf}
use Rattle.q3_world.proofs.GamesUnder.{under_later}
use Rattle.q3_world.proofs.GamesParts.{cases_option, is_past, is_some_number, last_push, none_played, played_cases, played_more, since_is, some_at, some_then, newest}

-- ---- what a client knows of a message

-- a snapshot that was built for a client that played: it has its baselines, and a base of it that it accepted was accepted since its
-- last gamestate
pub record IsKnown (state : AppliedState) (built : List Built) (games : List Played) (accepted : List Snapshot) (n : ℕ) : Type 0 where
  pub baselines : state.baselines ≡ (built_at built n).baselines
  pub base : IfSome (built_at built n).base (λ base. Contains accepted base → Contains (accepted_since games accepted) base)

module _ (map : MapState) (slot : Standing) (state : AppliedState) (taken last_time : ℕ) (built : List Built) (games : List Played) (began : List Said)
    (accepted : List Snapshot) (executed : List (List ℕ)) where
  -- a snapshot that was accepted with a higher number than a gamestate was accepted since
  since_then : (played : Played) (base : Snapshot) → WasApplied taken last_time built accepted executed played → played.number < base.head.number → Contains accepted base
      → Contains (drop played.accepted accepted) base
  since_then played base was behind there =
      let within = there.1 in
      elim (cases_lt there.0 played.accepted) [
        | inl before ↦
            let low = was.lower there.0 base before within in
            let at = ap (λ (s : Snapshot). s.head.number) there.2 in
            absurd (omega (arith, low, at, behind))
        | inr since ↦
            let k : ℕ = there.0 - played.accepted in
            let place : played.accepted + k ≡ there.0 = omega (arith, since) in (
              k,
              omega (arith, within, since, length-drop played.accepted accepted),
              get_or-drop played.accepted accepted k base ∙ (ap (λ (j : ℕ). get_or accepted j base) place ∙ there.2),
            )
      ]

  pub known_under : (n g : ℕ) → taken < n → n ≤ length built → (built_at built n).under ≡ Some g
      → AreMapped map slot state taken last_time built games began accepted executed → IsKnown state built games accepted n
  known_under n g newer begun is are =
      let under = are.under n g (omega (arith, newer)) begun is in
      let was = under.was in
      elim (cases_option (last_played games)) [
        | inl none ↦ absurd (none_played games was.0 none was.1)
        | inr some ↦
            let played = some.0 in
            let top = newest games played are.has.rise some.1 in
            let applied = All-contains (WasApplied taken last_time built accepted executed) games played are.has.each top.there in
            let carries = applied.carries in
            let most = applied.most in
            let low = under.last played.number played.game carries (omega (arith, most, newer)) in
            let high = top.most was.0 was.1 in
            let e = was.2 in
            let number : played.number ≡ g = omega (arith, low, high, e) in
            let of = MatchOption-at_some (IsFresh state) (λ (played : Played). IsOf state played executed) played some.1 are.has.shows in
            record {
              baselines = of.baselines ∙ sym (under.baselines played.game (subst (λ (k : ℕ). Carries built k played.game) number carries));
              base = some_then (built_at built n).base (λ (base : Snapshot). g < base.head.number) (λ (base : Snapshot). Contains accepted base → Contains (accepted_since games accepted) base)
                  (λ base e behind there. subst (λ (since : List Snapshot). Contains since base) (sym (since_is games accepted played some.1))
                  (since_then played base applied (omega (arith, behind, number)) there)) under.base;
            }
      ]

  -- ---- a gamestate

  -- a newer gamestate of the map is the last, and none is owed
  pub newest_of_map : (n : ℕ) (game : Gamestate) → taken < n → Carries built n game → Tells game map.id → AreMapped map slot state taken last_time built games began accepted executed
      → (slot.game ≡ Some n) × (slot.owed ≡ false)
  newest_of_map n game newer carries tells are =
      let last : slot.game ≡ Some n =
      elim (is_some_number slot.game n) [
        | inl is ↦ is
        | inr apart ↦ let late = (is_past map slot taken built games began are.stands n game carries tells apart).1 in absurd (omega (arith, late, newer))
      ] in (
        last,
        false_from_ne_true slot.owed (λ owed.
            let late = (some_at slot.game (λ (n : ℕ). (WasPlayed games n → ⊥) × (n < taken)) n last (are.stands.owed owed).2).1 in
            omega (arith, late, newer)),
      )

-- what holds of a gamestate that was built later
said_later : (games : List Played) (next : Played) (accepted : List Snapshot) (said : Said) → length accepted ≤ next.accepted → IsSaidUnder games accepted said
    → IsSaidUnder (games ++ next ∷ []) accepted said
said_later games next accepted said count is =
    elim is [
      | inl before ↦ inl before
      | inr under ↦ let was = under.1 in inr (
        under.0,
        record {
          there = Contains-append_left games (next ∷ []) under.0 was.there;
          id = was.id;
          feed = was.feed;
          after = was.after;
          asks = λ e. under_later games next accepted under.0 said.message.acknowledged count (was.asks e);
          later = was.later;
        },
      )
    ]

-- numbers still rise after a higher one
rise_more : (games : List Played) (next : Played) → All (λ (played : Played). played.number < next.number) games → GamesRise games → GamesRise (games ++ next ∷ [])
rise_more games next below rise j k d lt within =
    elim (cases_lt k (length games)) [
      | inl front ↦
          let at : (i : ℕ) → i < length games → (get_or (games ++ next ∷ []) i d).number ≡ (get_or games i d).number =
          λ i lt. ap (λ (p : Played). p.number) (get_or_append_left games (next ∷ []) d i lt) in
          let here = rise j k d lt front in
          let first = at j (omega (arith, lt, front)) in
          let second = at k front in
          omega (arith, here, first, second)
      | inr past ↦
          let last : k ≡ length games = omega (arith, past, within, length_push games next) in
          let front : j < length games = omega (arith, lt, last) in
          let first = ap (λ (p : Played). p.number) (get_or_append_left games (next ∷ []) d j front) in
          let second = ap (λ (p : Played). p.number) (get_or-append_right games (next ∷ []) k k d (sym last) (omega arith)) in
          let e : k - k ≡ 0 = omega arith in
          let third = ap (λ (i : ℕ). (get_or (next ∷ []) i d).number) e in
          let low = All-get_or (λ (played : Played). played.number < next.number) games j d front below in
          omega (arith, first, second, third, low)
    ]

-- and so do the maps after one of a greater id
maps_more : (games : List Played) (next : Played) → All (λ (played : Played). (x y : ℕ) → Tells played.game x → Tells next.game y → x < y) games → MapsRise games
    → MapsRise (games ++ next ∷ [])
maps_more games next below rise j k x y d lt within told same =
    elim (cases_lt k (length games)) [
      | inl front ↦
          let at : (i : ℕ) → i < length games → get_or (games ++ next ∷ []) i d ≡ get_or games i d = λ i lt. get_or_append_left games (next ∷ []) d i lt in
          rise j k x y d lt front (subst (λ (p : Played). Tells p.game x) (at j (omega (arith, lt, front))) told) (subst (λ (p : Played). Tells p.game y) (at k front) same)
      | inr past ↦
          let last : length games ≡ k = omega (arith, past, within, length_push games next) in
          let front : j < length games = omega (arith, lt, last) in
          All-get_or (λ (played : Played). (x y : ℕ) → Tells played.game x → Tells next.game y → x < y) games j d front below x y
          (subst (λ (p : Played). Tells p.game x) (get_or_append_left games (next ∷ []) d j front) told)
          (subst (λ (p : Played). Tells p.game y) (get_or_push games next d k last) same)
    ]

the_id : (game : Gamestate) (id : ℕ) → IsSome (server_id game.strings) → Tells game (id_in id game.strings)
the_id game id some = go (server_id game.strings) some
  where
    go : (told : Option ℕ) → IsSome told → told ≡ Some (unwrap_or told id)
    go None some = absurd (both_ways false refl some)
    go (Some x) some = refl

-- after as many texts as there are no string changed since
strings_are : (strings : Strings) (texts : List (List ℕ)) → strings ≡ after_commands strings (drop (length texts) texts)
unfolding after_commands
strings_are strings texts = rw (drop_all (length texts) texts (omega arith)) refl

module _ (map : MapState) (slot : Standing) (state : AppliedState) (taken last_time : ℕ) (built : List Built) (games : List Played) (began : List Said)
    (accepted : List Snapshot) (executed : List (List ℕ)) where
  -- a client applies a gamestate
  pub AreMapped-applies : (heard : AppliedState) (n : ℕ) (game : Gamestate) (texts : List (List ℕ)) → taken < n → Carries built n game → IsSome (server_id game.strings)
      → All (λ (s : Snapshot). s.head.number ≤ taken) accepted → AreMapped map slot state taken last_time built games began accepted executed
      → AreMapped map slot (record (after_gamestate heard game) { number = n }) n last_time built
      (games ++ record { number = n; game = game; accepted = length accepted; executed = length (executed ++ texts); time = last_time } ∷ []) began accepted (executed ++ texts)
  AreMapped-applies heard n game texts newer carries tells below are =
      let next : Played = record { number = n; game = game; accepted = length accepted; executed = length (executed ++ texts); time = last_time } in
      let after : AppliedState = record (after_gamestate heard game) { number = n } in
      let stands = are.stands in
      let ran = are.ran in
      let was_not : (m : ℕ) → (m ≡ n → ⊥) → (WasPlayed games m → ⊥) → WasPlayed (games ++ next ∷ []) m → ⊥ =
      λ m apart none was. elim (played_cases games next m was) [
        | inl before ↦ none before
        | inr last ↦ apart (sym last)
      ] in
      record {
        of_maps = are.of_maps;
        stands = record {
          last = stands.last;
          earlier = λ m k id x y is other lt told same.
              let old = stands.earlier m k id x y is other lt told same in
              let late = old.1 in
              (was_not m (λ e. omega (arith, late, e, newer)) old.0, omega (arith, late, newer));
          active = λ e. let old = stands.active e in (old.0, (old.1.0, old.1.1, played_more games next old.1.0 old.1.2));
          owed = λ e.
              let old = stands.owed e in (
                old.0,
                old.1,
                some_then slot.game (λ (m : ℕ). (WasPlayed games m → ⊥) × (m < taken)) (λ (m : ℕ). (WasPlayed (games ++ next ∷ []) m → ⊥) × (m < n))
                    (λ m is was. let late = was.1 in (was_not m (λ e. omega (arith, late, e, newer)) was.0, omega (arith, late, newer))) old.2,
              );
          other = All-weaker (λ (said : Said). (said.message.id ≡ map.id → ⊥) → IfSome slot.game (λ m. m < said.message.acknowledged → (WasPlayed games m → ⊥) × (m < taken)))
              (λ (said : Said). (said.message.id ≡ map.id → ⊥) → IfSome slot.game (λ m. m < said.message.acknowledged → (WasPlayed (games ++ next ∷ []) m → ⊥) × (m < n)))
              (λ said old apart. some_then slot.game (λ (m : ℕ). m < said.message.acknowledged → (WasPlayed games m → ⊥) × (m < taken))
              (λ (m : ℕ). m < said.message.acknowledged → (WasPlayed (games ++ next ∷ []) m → ⊥) × (m < n))
              (λ m is was behind.
              let now = was behind in
              let late = now.1 in
              (was_not m (λ e. omega (arith, late, e, newer)) now.0, omega (arith, late, newer)))
              (old apart)) began stands.other;
          older = λ waits. some_then slot.game (λ (m : ℕ). (played : Played) → Contains games played → played.number ≡ m → slot.last_run ≤ played.time)
              (λ (m : ℕ). (played : Played) → Contains (games ++ next ∷ []) played → played.number ≡ m → slot.last_run ≤ played.time)
              (λ m is old played there e. elim (Contains-push_cases games next played there) [
                | inl before ↦ old played before e
                | inr last ↦ let time = ap (λ (p : Played). p.time) last in omega (arith, time, ran)
              ]) (stands.older waits);
        };
        has = record {
          each = All-push (WasApplied n last_time built accepted (executed ++ texts)) games next
              (All-weaker (WasApplied taken last_time built accepted executed) (WasApplied n last_time built accepted (executed ++ texts))
              (λ played was.
              let most = was.most in
              let heard = was.executed in
              record {
                carries = was.carries;
                tells = was.tells;
                most = omega (arith, most, newer);
                before = was.before;
                executed = omega (arith, heard, length-append executed texts);
                time = was.time;
                lower = was.lower;
                higher = was.higher;
              }) games are.has.each)
              (record {
                carries = carries;
                tells = tells;
                most = omega arith;
                before = omega arith;
                executed = omega arith;
                time = omega arith;
                lower = λ k d lt within. let low = All-get_or (λ (s : Snapshot). s.head.number ≤ taken) accepted k d within below in omega (arith, low, newer);
                higher = λ k d since within. absurd (omega (arith, since, within));
              });
          rise = rise_more games next (All-weaker (WasApplied taken last_time built accepted executed) (λ (played : Played). played.number < n)
              (λ played was. let most = was.most in omega (arith, most, newer)) games are.has.each) are.has.rise;
          maps = maps_more games next (All-weaker (Contains games) (λ (played : Played). (x y : ℕ) → Tells played.game x → Tells game y → x < y)
              (λ played there x y told same.
              let was = All-contains (WasApplied taken last_time built accepted executed) games played are.has.each there in
              let most = was.most in
              let lt : played.number < n = omega (arith, most, newer) in
              let le = are.of_maps.rise played.number n x y played.game game was.carries carries lt told same in
              elim (cases_eq x y) [
                | inl one ↦ absurd ((stands.earlier played.number n y played.game game was.carries carries lt (told ∙ ap Some one) same).0 (played, there, refl))
                | inr apart ↦ omega (arith, le, apart)
              ]) games (All-contains_itself games)) are.has.maps;
          shows = subst (λ (o : Option Played). MatchOption o (IsFresh after) (λ (played : Played). IsOf after played (executed ++ texts))) (sym (last_push None games next))
              (record {
                has = refl;
                id = the_id game heard.id tells;
                slot = refl;
                feed = refl;
                baselines = refl;
                strings = strings_are game.strings (executed ++ texts);
              });
        };
        said = All-weaker (IsSaidUnder games accepted) (IsSaidUnder (games ++ next ∷ []) accepted) (λ said is. said_later games next accepted said (omega arith) is) began are.said;
        under = λ m g some begun is.
            let old = are.under m g some begun is in
            record { was = played_more games next g old.was; below = old.below; last = old.last; baselines = old.baselines; base = old.base };
        delta = elim are.delta [
          | inl none ↦ inl none
          | inr under ↦ inr (under.0, under.1, under.2, under_later games next accepted under.0 slot.delta (omega arith) under.3)
        ];
        ran = are.ran;
        acks = All-weaker (λ (message : Said). message.message.acknowledged ≤ taken) (λ (message : Said). message.message.acknowledged ≤ n)
            (λ message most. omega (arith, most, newer)) began are.acks;
      }
