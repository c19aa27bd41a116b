-- Lines do alike, whatever datagrams were forgotten that none of them names.
use Rattle.std.proofs.Common.{◌≡◌, ◌≢◌, ◌⊎◌, ℕ, ◌+◌, ◌-◌, ◌<◌, ◌≤◌, List, [], ◌∷◌, ◌++◌, length, get_or, set, take, drop, drop_of_length-le, append-nil, Option, Some, None, Ok, Err, refl, sym, ap, subst, ◌∙◌, inl, inr, arith}
use Rattle.std.specs.Prelude.{All, IfSome, SomeIff, slice_get, option_map}
use Rattle.std.specs.Option.{option_map_or}
use Rattle.std.proofs.lemmas.Bool.{cases_eq, cases_lt}
use Rattle.std.proofs.lemmas.List.{length-append, length-set, length-drop, get_or-drop, get_or-set_same, get_or-set_other, get_or_default, take_all}
use Rattle.std.proofs.lemmas.List.Elements.{All-head, All-tail, All-cons}
use Rattle.std.proofs.lemmas.Option.{slice_get_past}
use Rattle.circular_buffer.proofs.Places.{slice_get-push, slice_get-last, slice_get-set_other}
use Rattle.q3_profile.specs.declared.profile.Profile.{Profile}
use Rattle.q3_script.specs.declared.event.Event.{Event}
use Rattle.q3_script.specs.declared.event.Event.TheVariants as events
use Rattle.q3_chan.specs.Sending.{Piece}
use Rattle.q3_server.specs.Server as serves
use Rattle.q3_client.specs.Sending.{emit_at}
use Rattle.q3_ends.specs.Recording.{asking}
use Rattle.q3_report.specs.Answers.{Served, SentOut, Bytes}
use Rattle.q3_world.specs.declared.made.Direction.{Direction}
use Rattle.q3_world.specs.declared.made.Direction.TheVariants.{ToClient, ToServer}
use Rattle.q3_world.specs.declared.places.Place.{Place}
use Rattle.q3_world.specs.Ends.{Ends, place_at, Line, Hands, Serves, Sends, Delivers, TellsBytes, HandsBytes, line_of}
use Rattle.q3_world.specs.Kept.{SentBytes, Kept, datagrams_after, deliver_at, kept_send, kept_line, kept_step}
use Rattle.q3_world.specs.Files.{acts_of, deliver_acts}
use Rattle.q3_world.specs.Counting.{Counting}
use Rattle.q3_world.specs.Forgetting.{named_by, forgotten, with_forgotten, AreAlike, AreSilentOf, TellsLast, AreWanted, LetsGo}

-- the same datagram is at a place
abbrev pub AreSameAt : List SentBytes → List SentBytes → ℕ → Type 0
AreSameAt one other at = slice_get one at ≡ slice_get other at

-- and at that which a line names
abbrev pub AreSameBy : List SentBytes → List SentBytes → Option ℕ → Type 0
AreSameBy one other named = IfSome named (AreSameAt one other)

-- ---- one datagram more

same_more : (one other : List SentBytes) (sent : SentBytes) (at : ℕ) → length one ≡ length other → AreSameAt one other at → AreSameAt (one ++ sent ∷ []) (other ++ sent ∷ []) at
same_more one other sent at many same = elim (cases_eq at (length one)) [
  | inl is ↦ slice_get-last one sent at is ∙ sym (slice_get-last other sent at (is ∙ many))
  | inr not ↦ slice_get-push one sent at not ∙ (same ∙ sym (slice_get-push other sent at (λ e. not (e ∙ sym many))))
]

many_more : (one other : List SentBytes) (sent : SentBytes) → length one ≡ length other → length (one ++ sent ∷ []) ≡ length (other ++ sent ∷ [])
many_more one other sent many = length-append one (sent ∷ []) ∙ (ap (λ n. n + 1) many ∙ sym (length-append other (sent ∷ [])))

same_after : (one other : List SentBytes) (c : ℕ) (direction : Direction) (piece : Option Piece) (at : ℕ) → length one ≡ length other → AreSameAt one other at
    → AreSameAt (datagrams_after one c direction piece) (datagrams_after other c direction piece) at
same_after one other c direction None at many same = same
same_after one other c direction (Some piece) at many same = same_more one other (record { client = c; direction = direction; bytes = piece.bytes }) at many same

many_after : (one other : List SentBytes) (c : ℕ) (direction : Direction) (piece : Option Piece) → length one ≡ length other
    → length (datagrams_after one c direction piece) ≡ length (datagrams_after other c direction piece)
many_after one other c direction None many = many
many_after one other c direction (Some piece) many = many_more one other (record { client = c; direction = direction; bytes = piece.bytes }) many

by_option : (one other more_one more_other : List SentBytes) (named : Option ℕ) → ((at : ℕ) → AreSameAt one other at → AreSameAt more_one more_other at)
    → AreSameBy one other named → AreSameBy more_one more_other named
by_option one other more_one more_other None more same = tt
by_option one other more_one more_other (Some at) more same = more at same

-- ---- a line

abbrev named_in : Line → Option ℕ
named_in (Delivers number) = Some (number - 1)
named_in (TellsBytes number) = Some (number - 1)
named_in (Hands step) = None
named_in (Serves c) = None
named_in (Sends c) = None
named_in (HandsBytes c step) = None

named_is : (profile : Profile) (ends : Ends) (event : Event) → named_in (line_of profile ends event) ≡ named_by event
unfolding line_of named_by
named_is profile ends (events.Deliver number) = refl
named_is profile ends (events.Bytes number) = refl
named_is profile ends (events.Client c challenge qport dup address) = refl
named_is profile ends (events.Port c port) = refl
named_is profile ends (events.TypeText c text) = refl
named_is profile ends (events.Move c one) = refl
named_is profile ends (events.Serve c) = refl
named_is profile ends (events.Send c) = refl
named_is profile ends (events.RecordTo c name) = refl
named_is profile ends (events.Stop c) = refl
named_is profile ends (events.Show c) = refl
named_is profile ends (events.Toclient c bytes) = refl
named_is profile ends (events.Toserver c bytes) = refl
named_is profile ends other = refl

abbrev kept_of : Profile → Ends → List SentBytes → Kept
kept_of profile ends datagrams = record { profile = profile; ends = ends; datagrams = datagrams }

-- what a line of these ends does where the datagrams are alike
abbrev DoAlike : List Event → Profile → Ends → List SentBytes → List SentBytes → Line → Type 0
DoAlike all profile ends one other line =
    ((kept_line (kept_of profile ends one) line).answer ≡ (kept_line (kept_of profile ends other) line).answer)
    × AreAlike all (kept_line (kept_of profile ends one) line).kept (kept_line (kept_of profile ends other) line).kept

abbrev SameFor : List Event → List SentBytes → List SentBytes → Type 0
SameFor all one other = All (λ event. AreSameBy one other (named_by event)) all

same_for : (all : List Event) (one other more_one more_other : List SentBytes) → ((at : ℕ) → AreSameAt one other at → AreSameAt more_one more_other at)
    → SameFor all one other → SameFor all more_one more_other
same_for all one other more_one more_other more same = λ k d lt. by_option one other more_one more_other (named_by (get_or all k d)) more (same k d lt)

sends_alike : (all : List Event) (profile : Profile) (ends : Ends) (one other : List SentBytes) (c : ℕ) (found : Option Place)
    → length one ≡ length other → SameFor all one other
    → ((kept_send (kept_of profile ends one) c found).answer ≡ (kept_send (kept_of profile ends other) c found).answer)
    × AreAlike all (kept_send (kept_of profile ends one) c found).kept (kept_send (kept_of profile ends other) c found).kept
sends_alike all profile ends one other c None many same =
    (ap (λ n. SentOut c (Err (record {})) (n + 1)) many, record { profile = refl; ends = refl; many = many; named = same })
sends_alike all profile ends one other c (Some place) many same =
    let emission = emit_at (asking place.client place.recording) in (
      ap (λ n. SentOut c (Ok emission.answer) (n + 1)) many,
      record {
        profile = refl;
        ends = refl;
        many = many_after one other c (ToServer place.address) emission.piece many;
        named = same_for all one other _ _ (λ at. same_after one other c (ToServer place.address) emission.piece at many) same;
      },
    )

line_alike : (all : List Event) (profile : Profile) (ends : Ends) (one other : List SentBytes) (line : Line) → length one ≡ length other → SameFor all one other
    → AreSameBy one other (named_in line) → DoAlike all profile ends one other line
line_alike all profile ends one other (Hands step) many same here = (refl, record { profile = refl; ends = refl; many = many; named = same })
line_alike all profile ends one other (HandsBytes c step) many same here = (refl, record { profile = refl; ends = refl; many = many; named = same })
line_alike all profile ends one other (Serves c) many same here =
    let emission = serves.emit_at ends.server c in (
      ap (λ n. Served c emission.answer (n + 1)) many,
      record {
        profile = refl;
        ends = refl;
        many = many_after one other c ToClient emission.piece many;
        named = same_for all one other _ _ (λ at. same_after one other c ToClient emission.piece at many) same;
      },
    )
line_alike all profile ends one other (Sends c) many same here = sends_alike all profile ends one other c (place_at ends c) many same
line_alike all profile ends one other (Delivers number) many same here =
    subst (λ (found : Option SentBytes). ((deliver_at ends number (slice_get one (number - 1))).answer ≡ (deliver_at ends number found).answer)
    × AreAlike all (kept_of profile (deliver_at ends number (slice_get one (number - 1))).ends one) (kept_of profile (deliver_at ends number found).ends other))
    here (refl, record { profile = refl; ends = refl; many = many; named = same })
line_alike all profile ends one other (TellsBytes number) many same here =
    (ap (λ (found : Option SentBytes). Bytes number (option_map (λ (sent : SentBytes). sent.bytes) found)) here, record { profile = refl; ends = refl; many = many; named = same })

-- ---- an event

acts_alike : (profile : Profile) (ends : Ends) (one other : List SentBytes) (event : Event) → AreSameBy one other (named_by event)
    → acts_of (kept_of profile ends one) event ≡ acts_of (kept_of profile ends other) event
unfolding acts_of named_by
acts_alike profile ends one other (events.Deliver number) here = ap (deliver_acts ends) here
acts_alike profile ends one other event here = refl

parts_alike : (event : Event) (all : List Event) (profile : Profile) (ends : Ends) (one other : List SentBytes) → length one ≡ length other
    → SameFor (event ∷ all) one other
    → ((kept_step (kept_of profile ends one) event).answer ≡ (kept_step (kept_of profile ends other) event).answer)
    × (acts_of (kept_of profile ends one) event ≡ acts_of (kept_of profile ends other) event)
    × AreAlike all (kept_step (kept_of profile ends one) event).kept (kept_step (kept_of profile ends other) event).kept
unfolding kept_step
parts_alike event all profile ends one other many same =
    let here = All-head (λ (e : Event). AreSameBy one other (named_by e)) event all same in
    let line = line_of profile ends event in
    let done = line_alike all profile ends one other line many (All-tail (λ (e : Event). AreSameBy one other (named_by e)) event all same)
    (subst (AreSameBy one other) (sym (named_is profile ends event)) here) in
    (done.0, acts_alike profile ends one other event here, done.1)

pub step_alike : (event : Event) (all : List Event) (one other : Kept) → AreAlike (event ∷ all) one other
    → ((kept_step one event).answer ≡ (kept_step other event).answer) × (acts_of one event ≡ acts_of other event)
    × AreAlike all (kept_step one event).kept (kept_step other event).kept
step_alike event all one other alike =
    let so : one ≡ kept_of other.profile other.ends one.datagrams =
    ap (λ (p : Profile). kept_of p one.ends one.datagrams) alike.profile ∙ ap (λ (e : Ends). kept_of other.profile e one.datagrams) alike.ends in
    subst (λ (k : Kept). ((kept_step k event).answer ≡ (kept_step other event).answer) × (acts_of k event ≡ acts_of other event)
    × AreAlike all (kept_step k event).kept (kept_step other event).kept)
    (sym so) (parts_alike event all other.profile other.ends one.datagrams other.datagrams alike.many alike.named)

same_itself : (datagrams : List SentBytes) (named : Option ℕ) → AreSameBy datagrams datagrams named
same_itself datagrams None = tt
same_itself datagrams (Some at) = refl

pub alike_itself : (all : List Event) (kept : Kept) → AreAlike all kept kept
alike_itself all kept = record { profile = refl; ends = refl; many = refl; named = λ k event lt. same_itself kept.datagrams (named_by (get_or all k event)) }

-- ---- a datagram is forgotten

-- the datagrams, where what was found at a place has no bytes any more
abbrev let_go : List SentBytes → ℕ → Option SentBytes → List SentBytes
let_go datagrams at found = option_map_or (λ (sent : SentBytes). set datagrams at (record sent { bytes = [] })) found datagrams

forgotten_many : (datagrams : List SentBytes) (at : ℕ) (found : Option SentBytes) → length (let_go datagrams at found) ≡ length datagrams
forgotten_many datagrams at None = refl
forgotten_many datagrams at (Some sent) = length-set datagrams at (record sent { bytes = [] })

pub many_stay : (datagrams : List SentBytes) (at : ℕ) → length (forgotten datagrams at) ≡ length datagrams
many_stay datagrams at = forgotten_many datagrams at (slice_get datagrams at)

other_stays : (datagrams : List SentBytes) (at : ℕ) (found : Option SentBytes) (k : ℕ) → k ≢ at → slice_get (let_go datagrams at found) k ≡ slice_get datagrams k
other_stays datagrams at None k not = refl
other_stays datagrams at (Some sent) k not = slice_get-set_other datagrams at k (record sent { bytes = [] }) not

forgotten_same : (one other : List SentBytes) (at : ℕ) (named : Option ℕ) → named ≢ Some at → AreSameBy one other named → AreSameBy (forgotten one at) other named
forgotten_same one other at None not same = tt
forgotten_same one other at (Some k) not same = other_stays one at (slice_get one at) k (λ e. not (ap (λ n. Some n) e)) ∙ same

pub forgets_alike : (at : ℕ) (all : List Event) (one other : Kept) → AreSilentOf all at → AreAlike all one other → AreAlike all (with_forgotten one at) other
forgets_alike at all one other silent alike = record {
  profile = alike.profile;
  ends = alike.ends;
  many = many_stay one.datagrams at ∙ alike.many;
  named = λ k event lt. forgotten_same one.datagrams other.datagrams at (named_by (get_or all k event)) (silent k event lt) (alike.named k event lt);
}

-- ---- which datagrams later lines name

-- the last line that names it is among those that are left
named_after : (last : List ℕ) (all : List Event) (at done : ℕ) (event : Event) → at < length last → done < get_or last at 0 → TellsLast last all → AreSilentOf (drop done all) at → ⊥
named_after last all at done event lt more tells silent =
    let told = tells.names at event lt (omega (arith, more)) in
    let within = told.0 in
    let long = length-drop done all in
    let there : get_or last at 0 - 1 - done < length (drop done all) = omega (arith, long, within, more) in
    let place : done + (get_or last at 0 - 1 - done) ≡ get_or last at 0 - 1 = omega (arith, more) in
    let line = get_or-drop done all (get_or last at 0 - 1 - done) event ∙ ap (λ (j : ℕ). get_or all j event) place in
    silent (get_or last at 0 - 1 - done) event there (ap (λ (e : Event). named_by e) line ∙ told.1)

pub named_of : (last : List ℕ) (all : List Event) (at done : ℕ) → at < length last → done < get_or last at 0 → TellsLast last all → AreSilentOf (drop done all) at → ⊥
named_of last [] at done lt more tells silent = let none : length last ≡ 0 = tells.many in omega (arith, lt, none)
named_of last (event ∷ all) at done lt more tells silent = named_after last (event ∷ all) at done event lt more tells silent

-- the first so many lines
pub record TellsFirst (last : List ℕ) (all : List Event) (done : ℕ) : Type 0 where
  pub many : length last ≡ length all
  pub after : (k : ℕ) (event : Event) → k < done → k < length all → IfSome (named_by (get_or all k event)) (λ at. at < length last → k < get_or last at 0)
  pub names : (at : ℕ) (event : Event) → at < length last → 0 < get_or last at 0
      → (get_or last at 0 ≤ length all) × (named_by (get_or all (get_or last at 0 - 1) event) ≡ Some at)

-- with one more line, with which so many are done
abbrev with_line : List ℕ → Option ℕ → ℕ → List ℕ
with_line last named done = option_map_or (λ (at : ℕ). set last at done) named last

abbrev IsTold : List ℕ → ℕ → Option ℕ → Type 0
IsTold last k named = IfSome named (λ at. at < length last → k < get_or last at 0)

abbrev IsLastOf : List Event → Event → ℕ → ℕ → Type 0
IsLastOf all event at many = (many ≤ length all) × (named_by (get_or all (many - 1) event) ≡ Some at)

pub with_line-many : (last : List ℕ) (named : Option ℕ) (done : ℕ) → length (with_line last named done) ≡ length last
with_line-many last None done = refl
with_line-many last (Some at) done = length-set last at done

set_told : (last : List ℕ) (at done k a : ℕ) → k < done → (a < length last → k < get_or last a 0) → a < length (set last at done) → k < get_or (set last at done) a 0
set_told last at done k a lt was within =
    let long = length-set last at done in
    let there : a < length last = omega (arith, long, within) in
    elim (cases_eq a at) [
      | inl is ↦ (
          let same : get_or (set last at done) a 0 ≡ done = ap (λ (b : ℕ). get_or (set last at done) b 0) is ∙ get_or-set_same last at done 0 (subst (λ (b : ℕ). b < length last) is there) in
          omega (arith, same, lt)
          )
      | inr not ↦ (
          let same = get_or-set_other last at a done 0 not in
          let had = was there in
          omega (arith, same, had)
          )
    ]

line_told : (last : List ℕ) (named : Option ℕ) (done k : ℕ) (other : Option ℕ) → k < done → IsTold last k other → IsTold (with_line last named done) k other
line_told last None done k other lt was = was
line_told last (Some at) done k None lt was = tt
line_told last (Some at) done k (Some a) lt was = set_told last at done k a lt was

line_here : (last : List ℕ) (named : Option ℕ) (done : ℕ) → IsTold (with_line last named (done + 1)) done named
line_here last None done = tt
line_here last (Some at) done = λ within.
    let long = length-set last at (done + 1) in
    let there : at < length last = omega (arith, long, within) in
    let same = get_or-set_same last at (done + 1) 0 there in
    omega (arith, same)

line_last : (last : List ℕ) (all : List Event) (done : ℕ) (event : Event) (named : Option ℕ) → done < length all → named_by (get_or all done event) ≡ named
    → ((at : ℕ) → at < length last → 0 < get_or last at 0 → IsLastOf all event at (get_or last at 0))
    → (at : ℕ) → at < length (with_line last named (done + 1)) → 0 < get_or (with_line last named (done + 1)) at 0
    → IsLastOf all event at (get_or (with_line last named (done + 1)) at 0)
line_last last all done event None lt is had at within some = had at within some
line_last last all done event (Some a) lt is had at within some =
    let long = length-set last a (done + 1) in
    let there : at < length last = omega (arith, long, within) in
    elim (cases_eq at a) [
      | inl here ↦ (
          let same : get_or (set last a (done + 1)) at 0 ≡ done + 1 =
          ap (λ (b : ℕ). get_or (set last a (done + 1)) b 0) here ∙ get_or-set_same last a (done + 1) 0 (subst (λ (b : ℕ). b < length last) here there) in
          let back : done + 1 - 1 ≡ done = omega arith in
          let within_all : done + 1 ≤ length all = omega (arith, lt) in
          subst (IsLastOf all event at) (sym same)
          (within_all, ap (λ (j : ℕ). named_by (get_or all j event)) back ∙ (is ∙ ap (λ n. Some n) (sym here)))
          )
      | inr not ↦ (
          let same = get_or-set_other last a at (done + 1) 0 not in
          subst (IsLastOf all event at) (sym same) (had at there (subst (λ (n : ℕ). 0 < n) same some))
          )
    ]

pub tells_more : (last : List ℕ) (all : List Event) (done : ℕ) (event : Event) → event ≡ get_or all done event → done < length all → TellsFirst last all done
    → TellsFirst (option_map_or (λ (at : ℕ). set last at (done + 1)) (named_by event) last) all (done + 1)
tells_more last all done event is within tells =
    let now = with_line last (named_by event) (done + 1) in
    let line : (d : Event) → get_or all done d ≡ event = λ d. get_or_default all done d event within ∙ sym is in
    record {
      many = with_line-many last (named_by event) (done + 1) ∙ tells.many;
      after = λ k e lt there. elim (cases_eq k done) [
        | inl here ↦ (
            let same : get_or all k e ≡ event = ap (λ (j : ℕ). get_or all j e) here ∙ line e in
            subst (λ (x : Event). IsTold now k (named_by x)) (sym same) (subst (λ (j : ℕ). IsTold now j (named_by event)) (sym here) (line_here last (named_by event) done))
            )
        | inr not ↦ (
            let before : k < done = omega (arith, lt, not) in
            line_told last (named_by event) (done + 1) k (named_by (get_or all k e)) lt (tells.after k e before there)
            )
      ];
      names = λ at d lt some. line_last last all done d (named_by event) within (ap (λ (e : Event). named_by e) (line d)) (λ a. tells.names a d) at lt some;
    }

-- what a slice of a whole list leaves in it
pub written_back : (new items : List ℕ) (many : ℕ) → many ≡ length items → length new ≡ length items → take many (new ++ drop (length new) items) ≡ new
written_back new items many is long =
    let all : length items ≤ length new = omega (arith, long) in
    let within : length new ≤ many = omega (arith, is, long) in
    ap (λ (left : List ℕ). take many (new ++ left)) (drop_of_length-le items all) ∙ (ap (take many) (append-nil new) ∙ take_all many new within)

-- ---- what a line makes

-- the datagrams after a line are those before it, and one more at most
abbrev MakesOne : List SentBytes → List SentBytes → Type 0
MakesOne datagrams after = (made : List SentBytes) × (length made ≤ 1) × (after ≡ datagrams ++ made)

makes_none : (datagrams : List SentBytes) → MakesOne datagrams datagrams
makes_none datagrams = ([], omega arith, sym (append-nil datagrams))

makes_piece : (datagrams : List SentBytes) (c : ℕ) (direction : Direction) (piece : Option Piece) → MakesOne datagrams (datagrams_after datagrams c direction piece)
makes_piece datagrams c direction None = makes_none datagrams
makes_piece datagrams c direction (Some piece) = (record { client = c; direction = direction; bytes = piece.bytes } ∷ [], omega arith, refl)

makes_send : (profile : Profile) (ends : Ends) (datagrams : List SentBytes) (c : ℕ) (found : Option Place)
    → MakesOne datagrams (kept_send (kept_of profile ends datagrams) c found).kept.datagrams
makes_send profile ends datagrams c None = makes_none datagrams
makes_send profile ends datagrams c (Some place) = makes_piece datagrams c (ToServer place.address) (emit_at (asking place.client place.recording)).piece

makes_line : (profile : Profile) (ends : Ends) (datagrams : List SentBytes) (line : Line) → MakesOne datagrams (kept_line (kept_of profile ends datagrams) line).kept.datagrams
makes_line profile ends datagrams (Hands step) = makes_none datagrams
makes_line profile ends datagrams (HandsBytes c step) = makes_none datagrams
makes_line profile ends datagrams (Serves c) = makes_piece datagrams c ToClient (serves.emit_at ends.server c).piece
makes_line profile ends datagrams (Sends c) = makes_send profile ends datagrams c (place_at ends c)
makes_line profile ends datagrams (Delivers number) = makes_none datagrams
makes_line profile ends datagrams (TellsBytes number) = makes_none datagrams

pub makes_one : (event : Event) (kept : Kept) → MakesOne kept.datagrams (kept_step kept event).kept.datagrams
unfolding kept_step
makes_one event kept = makes_line kept.profile kept.ends kept.datagrams (line_of kept.profile kept.ends event)

-- ---- what is let go

abbrev without_bytes : SentBytes → SentBytes
without_bytes sent = record sent { bytes = [] }

-- a datagram at a place is as it was, or has lost its bytes
abbrev IsLost : Option SentBytes → Option SentBytes → Type 0
IsLost old now = (now ≡ old) ⊎ (now ≡ option_map without_bytes old)

abbrev pub IsEmpty : Option SentBytes → Type 0
IsEmpty found = IfSome found (λ (sent : SentBytes). sent.bytes ≡ [])

lost_is_empty : (old : Option SentBytes) → IsEmpty (option_map without_bytes old)
lost_is_empty None = tt
lost_is_empty (Some sent) = refl

empty_stays : (old now : Option SentBytes) → IsLost old now → IsEmpty old → IsEmpty now
empty_stays old now lost empty = elim lost [
  | inl same ↦ subst IsEmpty (sym same) empty
  | inr gone ↦ subst IsEmpty (sym gone) (lost_is_empty old)
]

-- the datagram at a place is let go, if none of the lines that are left names it
abbrev pub IsGone : List Event → ℕ → List SentBytes → Option ℕ → Type 0
IsGone all done datagrams place = IfSome place (λ at. at < length all → AreSilentOf (drop done all) at → IsEmpty (slice_get datagrams at))

gone_at : (all : List Event) (done : ℕ) (datagrams : List SentBytes) (place : Option ℕ) (at : ℕ) → place ≡ Some at → IsGone all done datagrams place → at < length all → AreSilentOf (drop done all) at → IsEmpty (slice_get datagrams at)
gone_at all done datagrams place at is gone =
    let here : at < length all → AreSilentOf (drop done all) at → IsEmpty (slice_get datagrams at) = subst (IsGone all done datagrams) is gone in
    here

is_or_not : (named : Option ℕ) (at : ℕ) → (named ≡ Some at) ⊎ (named ≢ Some at)
is_or_not None at = inr (λ e. absurd cc)
is_or_not (Some a) at = elim (cases_eq a at) [
  | inl is ↦ inl (ap (λ n. Some n) is)
  | inr not ↦ inr (λ e. let is : a ≡ at = cc in not is)
]

pub newest_is : (newest : Option ℕ) (many at : ℕ) → SomeIff newest (1 ≤ many) (many - 1) → at + 1 ≡ many → newest ≡ Some at
newest_is None many at told is = absurd (told (omega (arith, is)))
newest_is (Some newest) many at told is = let before : many - 1 ≡ at = omega (arith, is) in ap (λ n. Some n) (told.1 ∙ before)

-- after the datagram that a line named, and the newest one, only such have bytes as the lines that are left name
pub wanted_left : (last : List ℕ) (done : ℕ) (old mid now : Counting) (all : List Event) (event : Event) (newest : Option ℕ)
    → LetsGo last done old mid → LetsGo last done mid now
    → IsGone all done mid.kept.datagrams (named_by event) → IsGone all done now.kept.datagrams newest
    → ((at : ℕ) → at + 1 ≡ length old.kept.datagrams → newest ≡ Some at)
    → length old.kept.datagrams ≤ length all
    → ((at : ℕ) → at + 1 < length old.kept.datagrams → AreSilentOf (event ∷ drop done all) at → IsEmpty (slice_get old.kept.datagrams at))
    → AreWanted (drop done all) now.kept.datagrams
wanted_left last done old mid now all event newest first second gone newest_gone is_newest within had = λ at silent.
    let many : length now.kept.datagrams ≡ length old.kept.datagrams = second.many ∙ first.many in
    elim (cases_lt at (length old.kept.datagrams)) [
      | inl lt ↦ (
          let there : at < length all = omega (arith, lt, within) in
          elim (cases_eq (at + 1) (length old.kept.datagrams)) [
            | inl here ↦ gone_at all done now.kept.datagrams newest at (is_newest at here) newest_gone there silent
            | inr before ↦ (
                let lower : at + 1 < length old.kept.datagrams = omega (arith, lt, before) in
                empty_stays (slice_get mid.kept.datagrams at) (slice_get now.kept.datagrams at) (second.lost at) (elim (is_or_not (named_by event) at) [
                  | inl named ↦ gone_at all done mid.kept.datagrams (named_by event) at named gone there silent
                  | inr other ↦ empty_stays (slice_get old.kept.datagrams at) (slice_get mid.kept.datagrams at) (first.lost at)
                      (had at lower (All-cons (λ (e : Event). named_by e ≢ Some at) event (drop done all) other silent))
                ])
                )
          ]
          )
      | inr past ↦ (
          let beyond : length now.kept.datagrams ≤ at = omega (arith, many, past) in
          subst IsEmpty (sym (slice_get_past now.kept.datagrams at beyond)) tt
          )
    ]
