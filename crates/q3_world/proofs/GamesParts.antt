-- What the lemmas on maps at both ends share: gamestates that were built, and those that a client applied.
use Rattle.q3_svmsg.specs.Values as told
use Rattle.std.proofs.Common.{[], List, None, Option, Some, ap, arith, drop, false, get_or, inl, inr, length, refl, subst, sym, true, ℕ, ◌++◌, ◌+◌, ◌-◌, ◌<◌, ◌∙◌, ◌∷◌, ◌≡◌, ◌≤◌}
use Rattle.std.specs.List.{last_or}
use Rattle.std.specs.Prelude.{Contains, IfSome, ◌⊎◌}
use Rattle.std.proofs.lemmas.Bool.{cases_eq, cases_lt, true≢false}
use Rattle.std.proofs.lemmas.Option.{MatchOption-at_none}
use Rattle.std.proofs.lemmas.List.{get_or_append_left, get_or_push, length-append, length_push}
use Rattle.std.proofs.lemmas.List.Elements.{Contains-append_left, Contains-push_cases}
use Rattle.q3_clstate.specs.State.{AppliedState}
use Rattle.q3_gamestate.specs.Values.{Gamestate}
use Rattle.q3_map.specs.Map.{MapState}
use Rattle.q3_entity_ring.specs.Snapshot.{Snapshot}
use Rattle.q3_built.specs.Built.{Built}
use Rattle.q3_client.specs.Sending.{Said}
use Rattle.q3_world.specs.Games.{Carries, GamesRise, HasGames, HasLast, IsFresh, IsOf, Standing, StandsAt, Tells, WasPlayed, accepted_since, last_played}
use Rattle.q3_world.specs.World.{Played, built_at, no_message}

-- ---- what may be there

pub some_same : {X : Type 0} (x y : X) → Some x ≡ Some y → x ≡ y
some_same x y e = cc

pub untrue : false ≡ true → ⊥
untrue e = absurd (cc)

pub none_some : {X : Type 0} (x : X) → None ≡ Some x → ⊥
none_some x e = absurd (cc)

pub cases_option : {X : Type 0} (o : Option X) → (o ≡ None) ⊎ ((x : X) × (o ≡ Some x))
cases_option None = inl refl
cases_option (Some x) = inr (x, refl)

pub is_some_number : (o : Option ℕ) (n : ℕ) → (o ≡ Some n) ⊎ (o ≡ Some n → ⊥)
is_some_number None n = inr (none_some n)
is_some_number (Some x) n =
    elim (cases_eq x n) [
      | inl same ↦ inl (ap Some same)
      | inr other ↦ inr (λ e. other (some_same x n e))
    ]

-- what holds of it, by what it is
pub some_then : {X : Type 0} (o : Option X) (P Q : X → Type 0) → ((x : X) → o ≡ Some x → P x → Q x) → IfSome o P → IfSome o Q
some_then None P Q each is = tt
some_then (Some x) P Q each is = each x refl is

pub some_here : {X : Type 0} (o : Option X) (P : X → Type 0) → ((x : X) → o ≡ Some x → P x) → IfSome o P
some_here None P each = tt
some_here (Some x) P each = each x refl

pub some_at : {X : Type 0} (o : Option X) (P : X → Type 0) (x : X) → o ≡ Some x → IfSome o P → P x
some_at {X = X} o P x e is = let at : IfSome (Some x) P = subst (λ (o : Option X). IfSome o P) e is in at

-- ---- gamestates that were built

-- a message that was built stays where more are
pub built_front : (built more : List Built) (n : ℕ) → 1 ≤ n → n ≤ length built → built_at (built ++ more) n ≡ built_at built n
built_front built more n some begun = get_or_append_left built more no_message (n - 1) (omega (arith, some, begun))

-- and the last is there
pub built_end : (built : List Built) (next : Built) (n : ℕ) → n ≡ length built + 1 → built_at (built ++ next ∷ []) n ≡ next
built_end built next n e = let place : length built ≡ n - 1 = omega (arith, e) in get_or_push built next no_message (n - 1) place

game_same : (x y : Gamestate) → told.Game x ≡ told.Game y → x ≡ y
game_same x y e = cc

-- a message has one gamestate
pub carries_one : (built : List Built) (n : ℕ) (x y : Gamestate) → Carries built n x → Carries built n y → x ≡ y
carries_one built n x y first second = game_same x y (sym first.is ∙ second.is)

-- that tells one id
pub tells_one : (game : Gamestate) (x y : ℕ) → Tells game x → Tells game y → x ≡ y
tells_one game x y first second = some_same x y (sym first ∙ second)

pub carries_more : (built more : List Built) (n : ℕ) (game : Gamestate) → Carries built n game → Carries (built ++ more) n game
carries_more built more n game is =
    let begun = is.begun in
    record {
      some = is.some;
      begun = omega (arith, begun, length-append built more);
      is = ap (λ (b : Built). b.message.section) (built_front built more n is.some begun) ∙ is.is;
    }

pub carries_front : (built more : List Built) (n : ℕ) (game : Gamestate) → n ≤ length built → Carries (built ++ more) n game → Carries built n game
carries_front built more n game within is =
    record { some = is.some; begun = within; is = sym (ap (λ (b : Built). b.message.section) (built_front built more n is.some within)) ∙ is.is }

-- a message that was built last
pub record IsLast (built : List Built) (next : Built) (n : ℕ) : Type 0 where
  pub number : n ≡ length built + 1
  pub at : built_at (built ++ next ∷ []) n ≡ next

pub is_last : (built : List Built) (next : Built) (n : ℕ) → length built < n → n ≤ length (built ++ next ∷ []) → IsLast built next n
is_last built next n past begun =
    let number : n ≡ length built + 1 = omega (arith, past, begun, length_push built next) in
    record { number = number; at = built_end built next n number }

-- a gamestate that was built is that of the last message, or was built before
pub carries_cases : (built : List Built) (next : Built) (n : ℕ) (game : Gamestate) → Carries (built ++ next ∷ []) n game
    → Carries built n game ⊎ ((n ≡ length built + 1) × (next.message.section ≡ told.Game game))
carries_cases built next n game is =
    elim (cases_lt (length built) n) [
      | inl past ↦
          let last = is_last built next n past is.begun in
          inr (last.number, sym (ap (λ (b : Built). b.message.section) last.at) ∙ is.is)
      | inr within ↦ inl (carries_front built (next ∷ []) n game within is)
    ]

-- one with none
abbrev pub HasNone : Built → Type 0
HasNone next = (game : Gamestate) → next.message.section ≡ told.Game game → ⊥

pub carries_before : (built : List Built) (next : Built) (n : ℕ) (game : Gamestate) → HasNone next → Carries (built ++ next ∷ []) n game → Carries built n game
carries_before built next n game none is =
    elim (carries_cases built next n game is) [
      | inl before ↦ before
      | inr last ↦ absurd (none game last.1)
    ]

-- by which the last gamestate of the map stays the last
pub last_stays : (map : MapState) (built : List Built) (next : Built) (game : Option ℕ) → HasNone next → HasLast map built game → HasLast map (built ++ next ∷ []) game
last_stays map built next None none is = λ n game carries tells. is n game (carries_before built next n game none carries) tells
last_stays map built next (Some last) none is = (
  (is.0.0, carries_more built (next ∷ []) last is.0.0 is.0.1, is.0.2),
  λ n game carries. is.1 n game (carries_before built next n game none carries),
)

-- of those of the present map each but the last was never applied, and its client has taken a number above it
pub is_past : (map : MapState) (slot : Standing) (taken : ℕ) (built : List Built) (games : List Played) (began : List Said) → StandsAt map slot taken built games began
    → (n : ℕ) (game : Gamestate) → Carries built n game → Tells game map.id → (slot.game ≡ Some n → ⊥) → (WasPlayed games n → ⊥) × (n < taken)
is_past map slot taken built games began stands n game carries tells other =
    elim (cases_option slot.game) [
      | inl none ↦ let last : HasLast map built None = subst (HasLast map built) none stands.last in absurd (last n game carries tells)
      | inr some ↦
          let number = some.0 in
          let last : HasLast map built (Some number) = subst (HasLast map built) some.1 stands.last in
          let most = last.1 n game carries in
          elim (cases_eq n number) [
            | inl same ↦ absurd (other (some.1 ∙ ap Some (sym same)))
            | inr apart ↦ stands.earlier n number map.id game last.0.0 carries last.0.1 (omega (arith, most, apart)) tells last.0.2
          ]
    ]

-- ---- gamestates that a client applied

-- more may be applied
pub played_more : (games : List Played) (next : Played) (n : ℕ) → WasPlayed games n → WasPlayed (games ++ next ∷ []) n
played_more games next n was = (was.0, Contains-append_left games (next ∷ []) was.0 was.1, was.2)

-- and each was applied before, or is the last
pub played_cases : (games : List Played) (next : Played) (n : ℕ) → WasPlayed (games ++ next ∷ []) n → WasPlayed games n ⊎ (next.number ≡ n)
played_cases games next n was =
    elim (Contains-push_cases games next was.0 was.1) [
      | inl before ↦ inl (was.0, before, was.2)
      | inr last ↦ inr (ap (λ (p : Played). p.number) last ∙ was.2)
    ]

-- the last of a list is that at its last place
last_at : {X : Type 0} (d : X) (o : Option X) (x : X) (xs : List X) → last_or o (x ∷ xs) ≡ Some (get_or (x ∷ xs) (length xs) d)
last_at d o x [] = refl
last_at d o x (y ∷ ys) = last_at d (Some x) y ys

pub last_push : {X : Type 0} (o : Option X) (xs : List X) (x : X) → last_or o (xs ++ x ∷ []) ≡ Some x
last_push o [] x = refl
last_push o (y ∷ xs) x = last_push (Some y) xs x

-- where there is none, none was applied
pub none_played : (games : List Played) (played : Played) → last_played games ≡ None → Contains games played → ⊥
none_played [] played none there = let within = there.1 in omega (arith, within)
none_played (x ∷ xs) played none there = none_some (get_or (x ∷ xs) (length xs) x) (sym none ∙ last_at x None x xs)

-- the last that was applied has the highest number
pub record IsNewest (games : List Played) (played : Played) : Type 0 where
  pub there : Contains games played
  pub most : (other : Played) → Contains games other → other.number ≤ played.number

at_most : (games : List Played) (k : ℕ) (other : Played) → GamesRise games → length games ≡ k + 1 → Contains games other → other.number ≤ (get_or games k other).number
at_most games k other rise count there =
    let within = there.1 in
    let here = ap (λ (p : Played). p.number) there.2 in
    elim (cases_eq there.0 k) [
      | inl same ↦
          let at : (get_or games k other).number ≡ other.number = ap (λ (j : ℕ). (get_or games j other).number) (sym same) ∙ here in
          omega (arith, at)
      | inr apart ↦
          let lt = rise there.0 k other (omega (arith, within, count, apart)) (omega (arith, count)) in
          omega (arith, lt, here)
    ]

pub newest : (games : List Played) (played : Played) → GamesRise games → last_played games ≡ Some played → IsNewest games played
newest [] played rise is = absurd (none_some played is)
newest (x ∷ xs) played rise is =
    let games : List Played = x ∷ xs in
    let here : (d : Played) → get_or games (length xs) d ≡ played =
    λ d. some_same (get_or games (length xs) d) played (sym (last_at d None x xs) ∙ is) in
    record {
      there = (length xs, omega arith, here played);
      most = λ other there.
          let le = at_most games (length xs) other rise (omega arith) there in
          let at = ap (λ (p : Played). p.number) (here other) in
          omega (arith, le, at);
    }

-- a client that has a gamestate applied one
pub has_played : (state : AppliedState) (taken last_time : ℕ) (built : List Built) (games : List Played) (accepted : List Snapshot) (executed : List (List ℕ))
    → HasGames state taken last_time built games accepted executed → state.has_game ≡ true → (played : Played) × (last_played games ≡ Some played)
has_played state taken last_time built games accepted executed has game =
    elim (cases_option (last_played games)) [
      | inl none ↦
          let fresh = MatchOption-at_none (IsFresh state) (λ (played : Played). IsOf state played executed) none has.shows in
          absurd (true≢false (sym game ∙ fresh.has))
      | inr some ↦ some
    ]

-- what was accepted since the last
pub since_is : (games : List Played) (accepted : List Snapshot) (played : Played) → last_played games ≡ Some played → accepted_since games accepted ≡ drop played.accepted accepted
since_is games accepted played is = rw is refl
