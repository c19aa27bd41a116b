-- The maps of a server at both ends of a client, where it joins, where a message for it is begun, where it issues a move, and where the
-- game hands in something for the map or a new one.
use Rattle.q3_text.specs.Info as info
use Rattle.q3_svmsg.specs.Values as told
use Rattle.std.proofs.Common.{[], List, None, Option, Some, ap, arith, false, inl, inr, length, refl, subst, sym, true, ℕ, ◌++◌, ◌+◌, ◌<◌, ◌∙◌, ◌∷◌, ◌≡◌, ◌≤◌}
use Rattle.std.specs.Prelude.{All, Bool, IfSome, if◌then◌else◌}
use Rattle.std.proofs.lemmas.Bool.{cases_lt}
use Rattle.std.proofs.lemmas.List.{length_push}
use Rattle.std.proofs.lemmas.List.Elements.{All-contains, All-nil, All-weaker}
use Rattle.q3_client.specs.Sending.{Said}
use Rattle.q3_clstate.specs.State.{AppliedState, new_state}
use Rattle.q3_config.specs.Strings.{no_strings, server_id}
use Rattle.q3_gamestate.specs.Values.{Gamestate}
use Rattle.q3_io.specs.declared.address.Address.{Address}
use Rattle.q3_map.specs.Map.{MapState, begins_game}
use Rattle.q3_profile.specs.declared.profile.Profile.{Profile}
use Rattle.q3_entity_ring.specs.Snapshot.{Snapshot}
use Rattle.q3_built.specs.Built.{Built}
use Rattle.q3_slot.specs.Emitting.{nothing}
use Rattle.q3_slot.specs.Slot.{game_of, is_active, new_slot, plays_under}
use Rattle.q3_slot.specs.declared.stage.ClientStage.{ClientStage}
use Rattle.q3_slot.specs.declared.stage.ClientStage.TheVariants.{Active, Connected, Primed}
use Rattle.q3_world.specs.Games.{AreBuiltUnder, AreMapped, BuiltUnder, Carries, HasGames, HasLast, Standing, Tells, WasApplied, WasPlayed, standing_of}
use Rattle.q3_world.specs.World.{Played, built_at}
use Rattle.q3_world.proofs.GamesUnder.{under_above}
use Rattle.q3_world.proofs.GamesParts.{HasNone, built_end, built_front, carries_before, carries_cases, carries_front, carries_more, carries_one, is_last, is_past, is_some_number, last_stays, none_some, some_at, some_same, some_then, tells_one, untrue}

-- ---- stages

-- the gamestate under which a client plays
abbrev pub under_of : Bool → Option ℕ → Option ℕ
under_of true game = game
under_of false game = None

pub under_stage : (stage : ClientStage) → plays_under stage ≡ under_of (is_active stage) (game_of stage)
under_stage Connected = refl
under_stage (Primed game) = refl
under_stage (Active game) = refl

-- a client plays under it
plays_so : (plays : Bool) (game : Option ℕ) (g : ℕ) → under_of plays game ≡ Some g → (plays ≡ true) × (game ≡ Some g)
plays_so true game g e = (refl, e)
plays_so false game g e = absurd (none_some g e)

-- ---- a client joins

no_strings_tell : server_id no_strings ≡ None
unfolding server_id info.value_in info.info_pairs info.paired
no_strings_tell = refl

no_carries : (n : ℕ) (game : Gamestate) → Carries [] n game → ⊥
no_carries n game is = let some = is.some in let begun = is.begun in omega (arith, some, begun)

pub AreMapped-new : (profile : Profile) (challenge qport : ℕ) (address : Address) (map : MapState)
    → AreMapped map (standing_of (new_slot profile.protocol challenge qport address)) (new_state profile) 0 0 [] [] [] [] []
AreMapped-new profile challenge qport address map =
    record {
      of_maps = record {
        ids = λ n id game is tells. absurd (no_carries n game is);
        rise = λ m n x y first second is other lt told same. absurd (no_carries m first is);
        same = λ n game is tells. absurd (no_carries n game is);
      };
      stands = record {
        last = λ n game is tells. no_carries n game is;
        earlier = λ m n id first second is other lt told same. absurd (no_carries m first is);
        active = λ e. absurd (untrue e);
        owed = λ e. absurd (untrue e);
        other = All-nil _;
        older = λ e. tt;
      };
      has = record {
        each = All-nil _;
        rise = λ j k d lt within. absurd (omega (arith, within));
        maps = λ j k x y d lt within told same. absurd (omega (arith, within));
        shows = record { has = refl; id = refl; strings = no_strings_tell; slot = refl; feed = refl; baselines = refl };
      };
      said = All-nil _;
      under = λ n g some begun is. absurd (omega (arith, some, begun));
      delta = inl refl;
      ran = omega arith;
      acks = All-nil _;
    }

-- ---- what was built for a client that played

-- stays so where more is built
under_front : (built : List Built) (games : List Played) (next : Built) (n g : ℕ) → 1 ≤ n → n ≤ length built → (built_at (built ++ next ∷ []) n).under ≡ Some g
    → AreBuiltUnder built games → BuiltUnder (built ++ next ∷ []) games n g
under_front built games next n g some begun is are =
    let stays = built_front built (next ∷ []) n some begun in
    let old = are n g some begun (sym (ap (λ (b : Built). b.under) stays) ∙ is) in
    let below = old.below in
    record {
      was = old.was;
      below = old.below;
      last = λ k game carries lt. old.last k game (carries_front built (next ∷ []) k game (omega (arith, lt, begun)) carries) lt;
      baselines = λ game carries. ap (λ (b : Built). b.baselines) stays ∙ old.baselines game (carries_front built (next ∷ []) g game (omega (arith, below, begun)) carries);
      base = subst (λ (b : Built). IfSome b.base (λ (base : Snapshot). g < base.head.number)) (sym stays) old.base;
    }

under_more : (built : List Built) (games : List Played) (next : Built) → AreBuiltUnder built games
    → ((n g : ℕ) → n ≡ length built + 1 → next.under ≡ Some g → BuiltUnder (built ++ next ∷ []) games n g) → AreBuiltUnder (built ++ next ∷ []) games
under_more built games next are here n g some begun is =
    elim (cases_lt (length built) n) [
      | inl past ↦
          let last = is_last built next n past begun in
          here n g last.number (sym (ap (λ (b : Built). b.under) last.at) ∙ is)
      | inr within ↦ under_front built games next n g some within is are
    ]

-- ---- what a client applied

module _ (state : AppliedState) (taken last_time : ℕ) (built : List Built) (games : List Played) (accepted : List Snapshot) (executed : List (List ℕ)) where
  -- was built where more is built
  has_more : (next : Built) → HasGames state taken last_time built games accepted executed → HasGames state taken last_time (built ++ next ∷ []) games accepted executed
  has_more next has = record {
    each = All-weaker (WasApplied taken last_time built accepted executed) (WasApplied taken last_time (built ++ next ∷ []) accepted executed)
        (λ played was. record {
          carries = carries_more built (next ∷ []) played.number played.game was.carries;
          tells = was.tells;
          most = was.most;
          before = was.before;
          executed = was.executed;
          time = was.time;
          lower = was.lower;
          higher = was.higher;
        }) games has.each;
    rise = has.rise;
    maps = has.maps;
    shows = has.shows;
  }

  -- and before the last move where one more is issued
  has_later : (time : ℕ) → last_time ≤ time → HasGames state taken last_time built games accepted executed → HasGames state taken time built games accepted executed
  has_later time later has = record {
    each = All-weaker (WasApplied taken last_time built accepted executed) (WasApplied taken time built accepted executed)
        (λ played was. let before = was.time in record {
          carries = was.carries;
          tells = was.tells;
          most = was.most;
          before = was.before;
          executed = was.executed;
          time = omega (arith, before, later);
          lower = was.lower;
          higher = was.higher;
        }) games has.each;
    rise = has.rise;
    maps = has.maps;
    shows = has.shows;
  }

-- ---- events

module _ (map : MapState) (slot : Standing) (state : AppliedState) (taken last_time : ℕ) (built : List Built) (games : List Played) (began : List Said)
    (accepted : List Snapshot) (executed : List (List ℕ)) where
  -- a move is issued
  pub AreMapped-issued : (time : ℕ) → last_time ≤ time → AreMapped map slot state taken last_time built games began accepted executed
      → AreMapped map slot state taken time built games began accepted executed
  AreMapped-issued time later are = record {
    of_maps = are.of_maps;
    stands = are.stands;
    has = has_later state taken last_time built games accepted executed time later are.has;
    said = are.said;
    under = are.under;
    delta = are.delta;
    ran = let ran = are.ran in omega (arith, ran, later);
    acks = are.acks;
  }

  -- what a snapshot is built under
  snapshot_under : (next : Built) (n g : ℕ) → HasNone next → next.under ≡ under_of slot.plays slot.game → next.baselines ≡ map.baselines
      → IfSome next.base (λ base. (0 < base.head.number) × (base.head.number ≡ (if slot.plays then slot.delta else 0)))
      → AreMapped map slot state taken last_time built games began accepted executed → n ≡ length built + 1 → next.under ≡ Some g
      → BuiltUnder (built ++ next ∷ []) games n g
  snapshot_under next n g none under baselines base are number is =
      let of = plays_so slot.plays slot.game g (sym under ∙ is) in
      let last : HasLast map built (Some g) = subst (HasLast map built) of.1 are.stands.last in
      let begun = last.0.1.begun in
      let active = are.stands.active of.0 in
      let at = built_end built next n number in
      record {
        was = subst (WasPlayed games) (some_same active.1.0 g (sym active.1.1 ∙ of.1)) active.1.2;
        below = omega (arith, begun, number);
        last = λ k game carries lt. last.1 k game (carries_before built next k game none carries);
        baselines = λ game carries.
            ap (λ (b : Built). b.baselines) at
            ∙ (baselines
            ∙ (sym (are.of_maps.same g last.0.0 last.0.1 last.0.2).1
            ∙ ap (λ (x : Gamestate). x.baselines) (carries_one built g last.0.0 game last.0.1 (carries_before built next g game none carries))));
        base = subst (λ (b : Built). IfSome b.base (λ (base : Snapshot). g < base.head.number)) (sym at)
            (some_then next.base (λ (base : Snapshot). (0 < base.head.number) × (base.head.number ≡ (if slot.plays then slot.delta else 0))) (λ (base : Snapshot). g < base.head.number)
            (λ base e from.
            let some = from.0 in
            let asks : base.head.number ≡ slot.delta = from.1 ∙ ap (λ (plays : Bool). if plays then slot.delta else 0) of.0 in
            elim are.delta [
              | inl nothing ↦ absurd (omega (arith, some, asks, nothing))
              | inr under ↦
                  let played = under.0 in
                  let accept = under.3 in
                  let same : played.number ≡ g = some_same played.number g (sym under.1 ∙ of.1) in
                  let was = All-contains (WasApplied taken last_time built accepted executed) games played are.has.each accept.there in
                  let lt = under_above taken last_time built games accepted executed played slot.delta was accept in
                  omega (arith, lt, same, asks)
            ]) base);
      }

  -- a snapshot is begun, against the one that the slot asks for where its client plays, or whole
  pub AreMapped-snapshot : (next : Built) → HasNone next → next.under ≡ under_of slot.plays slot.game → next.baselines ≡ map.baselines
      → IfSome next.base (λ base. (0 < base.head.number) × (base.head.number ≡ (if slot.plays then slot.delta else 0)))
      → AreMapped map slot state taken last_time built games began accepted executed
      → AreMapped map slot state taken last_time (built ++ next ∷ []) games began accepted executed
  AreMapped-snapshot next none under baselines base are =
      let stands = are.stands in
      record {
        of_maps = record {
          ids = λ n id game is tells. are.of_maps.ids n id game (carries_before built next n game none is) tells;
          rise = λ m n x y first second is other. are.of_maps.rise m n x y first second (carries_before built next m first none is) (carries_before built next n second none other);
          same = λ n game is tells. are.of_maps.same n game (carries_before built next n game none is) tells;
        };
        stands = record {
          last = last_stays map built next slot.game none stands.last;
          earlier = λ m n id first second is other. stands.earlier m n id first second (carries_before built next m first none is) (carries_before built next n second none other);
          active = stands.active;
          owed = stands.owed;
          other = stands.other;
          older = stands.older;
        };
        has = has_more state taken last_time built games accepted executed next are.has;
        said = are.said;
        under = under_more built games next are.under (λ n g number is. snapshot_under next n g none under baselines base are number is);
        delta = are.delta;
        ran = are.ran;
        acks = are.acks;
      }

  -- a gamestate of the map is begun, where one is owed
  pub AreMapped-game : (next : Built) (game : Gamestate) (n : ℕ) → n ≡ length built + 1 → slot.owed ≡ true → next.message.section ≡ told.Game game
      → next.under ≡ under_of slot.plays slot.game → Tells game map.id → game.baselines ≡ map.baselines → game.feed ≡ map.feed
      → taken ≤ length built → All (λ (s : Said). s.message.acknowledged ≤ length built) began
      → AreMapped map slot state taken last_time built games began accepted executed
      → AreMapped (begins_game map) (record slot { plays = false; game = Some n; owed = false }) state taken last_time (built ++ next ∷ []) games began accepted executed
  AreMapped-game next game n number owed section under tells baselines feed few acks are =
      let stands = are.stands in
      let owes = stands.owed owed in
      let begun : Carries (built ++ next ∷ []) n game =
      record {
        some = omega (arith, number);
        begun = omega (arith, number, length_push built next);
        is = ap (λ (b : Built). b.message.section) (built_end built next n number) ∙ section;
      } in
      let the_game : (x : Gamestate) → next.message.section ≡ told.Game x → game ≡ x =
      λ x e. carries_one (built ++ next ∷ []) n game x begun
      (record { some = begun.some; begun = begun.begun; is = ap (λ (b : Built). b.message.section) (built_end built next n number) ∙ e }) in
      let unapplied : (played : Played) → WasApplied taken last_time built accepted executed played → played.number ≡ n → ⊥ =
      λ played was e. let most = was.most in omega (arith, most, e, number, few) in
      record {
        of_maps = record {
          ids = λ k id x is told. elim (carries_cases built next k x is) [
            | inl before ↦ are.of_maps.ids k id x before told
            | inr last ↦
                let one : map.id ≡ id = tells_one x map.id id (subst (λ (x : Gamestate). Tells x map.id) (the_game x last.1) tells) told in
                let some = owes.1 in
                (omega (arith, one, some), omega (arith, one))
          ];
          rise = λ m k x y first second is other lt told same. elim (carries_cases built next k second other) [
            | inl before ↦
                let within = before.begun in
                are.of_maps.rise m k x y first second (carries_front built (next ∷ []) m first (omega (arith, lt, within)) is) before lt told same
            | inr last ↦
                let place = last.0 in
                let one : map.id ≡ y = tells_one second map.id y (subst (λ (x : Gamestate). Tells x map.id) (the_game second last.1) tells) same in
                let most = (are.of_maps.ids m x first (carries_front built (next ∷ []) m first (omega (arith, lt, place)) is) told).1 in
                omega (arith, most, one)
          ];
          same = λ k x is told. elim (carries_cases built next k x is) [
            | inl before ↦ let same = are.of_maps.same k x before told in (refl, same.1, same.2)
            | inr last ↦
                let one = the_game x last.1 in
                (refl, sym (ap (λ (x : Gamestate). x.baselines) one) ∙ baselines, sym (ap (λ (x : Gamestate). x.feed) one) ∙ feed)
          ];
        };
        stands = record {
          last = ((game, begun, tells), λ k x is. let within = is.begun in omega (arith, within, number, length_push built next));
          earlier = λ m k id first second is other lt told same. elim (carries_cases built next k second other) [
            | inl before ↦
                let within = before.begun in
                stands.earlier m k id first second (carries_front built (next ∷ []) m first (omega (arith, lt, within)) is) before lt told same
            | inr last ↦
                let place = last.0 in
                let one : id ≡ map.id = tells_one second id map.id same (subst (λ (x : Gamestate). Tells x map.id) (the_game second last.1) tells) in
                elim (is_some_number slot.game m) [
                  | inl here ↦ some_at slot.game (λ (k : ℕ). (WasPlayed games k → ⊥) × (k < taken)) m here owes.2
                  | inr apart ↦ is_past map slot taken built games began stands m first (carries_front built (next ∷ []) m first (omega (arith, lt, place)) is) (told ∙ ap Some one) apart
                ]
          ];
          active = λ e. absurd (untrue e);
          owed = λ e. absurd (untrue e);
          other = All-weaker (λ (s : Said). s.message.acknowledged ≤ length built)
              (λ (s : Said). (s.message.id ≡ map.id → ⊥) → n < s.message.acknowledged → (WasPlayed games n → ⊥) × (n < taken))
              (λ s most apart after. absurd (omega (arith, most, after, number))) began acks;
          older = λ e played there same. absurd (unapplied played (All-contains (WasApplied taken last_time built accepted executed) games played are.has.each there) same);
        };
        has = has_more state taken last_time built games accepted executed next are.has;
        said = are.said;
        under = under_more built games next are.under (λ k g last is. absurd (owes.0 (plays_so slot.plays slot.game g (sym under ∙ is)).0));
        delta = elim are.delta [
          | inl nothing ↦ inl nothing
          | inr under ↦ absurd (owes.0 under.2)
        ];
        ran = are.ran;
        acks = are.acks;
      }
