-- Lists of moves: what a message carries, what is run of it, and where that stands among the moves that were issued.
use Rattle.std.proofs.Common.{◌≡◌, ℕ, zero, suc, ◌+◌, ◌-◌, ◌<◌, ◌≤◌, ◌^◌, true, false, List, [], ◌∷◌, ◌++◌, length, take, drop, ℤ, pos, negsuc, refl, sym, ap, subst, ◌∙◌, inl, inr, arith}
use Rattle.std.specs.Prelude.{◌⊎◌, nat_le, nat_lt, not, ◌&&◌, neg_ℤ, map, filter, All, Contains}
use Rattle.std.proofs.lemmas.List.{append-nil, append_assoc, length-append, length-map, map-append, take-append-drop, length-drop}
use Rattle.std.proofs.lemmas.List.Elements.{All-nil, All-cons, All-head, All-tail, All-weaker, All-push, All-drop, All-map, All-filter, All-contains, Contains-append_left, Contains-append_right, All-contains_itself}
use Rattle.std.proofs.lemmas.Bool.{cases_Bool, cases_eq, and_parts, leb-true, le-leb, ltb-true, true≢false}
use Rattle.std.proofs.lemmas.Bool.Decides.{Decides-int_eq}
use Rattle.std.proofs.lemmas.Int.{ints}
use Rattle.circular_buffer.specs.Buffer.{keep_last}
use Rattle.q3_clmsg.specs.declared.moves.Move.{Move}
use Rattle.q3_clmsg.specs.Moves.{IsSignedByte, IsHeldMove, IsStep, IsMove}
use Rattle.q3_slot.specs.Taking.{runs, last_time}
use Rattle.q3_client.specs.declared.moves.Issued.{Issued}
use Rattle.q3_client.specs.Moves.{most_moves, is_step, is_issuable, is_carried, carried}
use Rattle.q3_world.specs.Moves.{TimesRise, AreConsecutive, StandAmong}
use Rattle.q3_world.specs.StandsFor.{MarksRise, KeepsMoves}

-- ---- one move

-- a signed byte that may be a step is one
is_one_step : (value : ℤ) → IsSignedByte value → is_step value ≡ true → IsStep value
is_one_step (pos n) held may = (omega (arith, ints), held.1)
is_one_step (negsuc n) held may =
    elim (cases_eq n 127) [
      | inl least ↦
          let same : negsuc n ≡ neg_ℤ (pos 128) = ap negsuc least in
          let no_step : is_step (negsuc n) ≡ false = ap not ((Decides-int_eq (negsuc n) (neg_ℤ (pos 128))).1 same) in
          absurd (true≢false (sym may ∙ no_step))
      | inr other ↦ let low = held.0 in (omega (arith, ints, low, other), omega (arith, ints))
    ]

-- a move that a script may have and that may be issued is one that an end may send
pub is_move : (one : Move) → IsHeldMove one → is_issuable one ≡ true → IsMove one
is_move one held issuable =
    let steps = and_parts (is_step one.forward && is_step one.right && is_step one.up) (nat_lt one.time (2 ^ 31)) issuable in
    let two = and_parts (is_step one.forward && is_step one.right) (is_step one.up) steps.0 in
    let first = and_parts (is_step one.forward) (is_step one.right) two.0 in
    record {
      time = held.time;
      three = held.three;
      angles = held.angles;
      forward = is_one_step one.forward held.forward first.0;
      right = is_one_step one.right held.right first.1;
      up = is_one_step one.up held.up two.1;
      buttons = held.buttons;
      weapon = held.weapon;
    }

-- ---- times

pub last_time-append : (before : ℕ) (some others : List Move) → last_time before (some ++ others) ≡ last_time (last_time before some) others
unfolding last_time
last_time-append before [] others = refl
last_time-append before (one ∷ some) others = last_time-append one.time some others

pub TimesRise-append : (before : ℕ) (some others : List Move) → TimesRise before some → TimesRise (last_time before some) others → TimesRise before (some ++ others)
unfolding last_time
TimesRise-append before [] others first second = second
TimesRise-append before (one ∷ some) others first second = (first.0, TimesRise-append one.time some others first.1 second)

-- what is run has rising times
pub runs_rise : (before : ℕ) (moves : List Move) → TimesRise before (runs before moves)
unfolding runs
runs_rise before [] = tt
runs_rise before (one ∷ moves) =
    elim (cases_Bool (nat_lt before one.time)) [
      | inl later ↦ rw later (ltb-true before one.time later, runs_rise one.time moves)
      | inr not_later ↦ rw not_later (runs_rise before moves)
    ]

-- and is among what the message carries
pub runs_are : (P : Move → Type 0) (before : ℕ) (moves : List Move) → All P moves → All P (runs before moves)
unfolding runs
runs_are P before [] all = All-nil P
runs_are P before (one ∷ moves) all =
    elim (cases_Bool (nat_lt before one.time)) [
      | inl later ↦ rw later (All-cons P one (runs one.time moves) (All-head P one moves all) (runs_are P one.time moves (All-tail P one moves all)))
      | inr not_later ↦ rw not_later (runs_are P before moves (All-tail P one moves all))
    ]

-- each move that rises after a time is later
pub later : (before : ℕ) (moves : List Move) → TimesRise before moves → All (λ (one : Move). before < one.time) moves
later before [] rise = All-nil (λ (one : Move). before < one.time)
later before (one ∷ moves) rise =
    let first = rise.0 in
    All-cons (λ (m : Move). before < m.time) one moves first
    (All-weaker (λ (m : Move). one.time < m.time) (λ (m : Move). before < m.time) (λ m lt. omega (arith, first, lt)) moves (later one.time moves rise.1))

-- ---- where they stand

-- a move that isn't the first is among the others
not_first : (first one : Move) (others : List Move) → first.time < one.time → Contains (first ∷ others) one → Contains others one
not_first first one others lt (zero, within, is) = let same = ap (λ (m : Move). m.time) is in absurd (omega (arith, lt, same))
not_first first one others lt (suc k, within, is) = (k, omega (arith, within), is)

-- and so are all that are later
none_first : (first : Move) (moves others : List Move) → All (λ (m : Move). first.time < m.time) moves → All (Contains (first ∷ others)) moves → All (Contains others) moves
none_first first [] others are in_all = All-nil (Contains others)
none_first first (one ∷ moves) others are in_all =
    All-cons (Contains others) one moves
    (not_first first one others (All-head (λ (m : Move). first.time < m.time) one moves are) (All-head (Contains (first ∷ others)) one moves in_all))
    (none_first first moves others (All-tail (λ (m : Move). first.time < m.time) one moves are) (All-tail (Contains (first ∷ others)) one moves in_all))

-- a move among others is the first or after it
first_or_after : (first one : Move) (others : List Move) → Contains (first ∷ others) one → (first ≡ one) ⊎ Contains others one
first_or_after first one others (zero, within, is) = inl is
first_or_after first one others (suc k, within, is) = inr (k, omega (arith, within), is)

-- moves of rising times, each of which is among those that were issued by rising times, stand among them in their order
pub stand_among : (least before : ℕ) (issued moves : List Move) → TimesRise least issued → TimesRise before moves → All (Contains issued) moves → StandAmong moves issued
stand_among least before issued [] rise rising are = tt
stand_among least before [] (one ∷ moves) rise rising are =
    let there = All-head (Contains []) one moves are in
    absurd (omega (arith, there.1))
stand_among least before (first ∷ issued) (one ∷ moves) rise rising are =
    let after = later one.time moves rising.1 in
    let others = All-tail (Contains (first ∷ issued)) one moves are in
    elim (first_or_after first one issued (All-head (Contains (first ∷ issued)) one moves are)) [
      | inl is ↦
          let after_first = subst (λ (m : Move). All (λ (x : Move). m.time < x.time) moves) (sym is) after in (
            [],
            issued,
            ap (λ (m : Move). m ∷ issued) is,
            stand_among first.time one.time issued moves rise.1 rising.1 (none_first first moves issued after_first others),
          )
      | inr there ↦
          let past = All-contains (λ (m : Move). first.time < m.time) issued one (later first.time issued rise.1) there in
          let after_first = All-weaker (λ (m : Move). one.time < m.time) (λ (m : Move). first.time < m.time) (λ m lt. omega (arith, past, lt)) moves after in
          let rest = stand_among first.time before issued (one ∷ moves) rise.1 rising
          (All-cons (Contains issued) one moves there (none_first first moves issued after_first others)) in
          (first ∷ rest.0, rest.1, ap (λ (l : List Move). first ∷ l) rest.2, rest.3)
    ]

-- ---- what a message carries

-- each move from one that is carried on is carried
all_carried : (number dup least most : ℕ) (moves : List Issued) → MarksRise least most moves → number ≤ least + dup + 1 → filter (is_carried number dup) moves ≡ moves
all_carried number dup least most [] rise within = refl
all_carried number dup least most (issued ∷ moves) rise within =
    let first = rise.0 in
    let inside : number ≤ issued.begun + dup + 1 = omega (arith, within, first) in
    rw (le-leb number (issued.begun + dup + 1) inside) (ap (λ (l : List Issued). issued ∷ l) (all_carried number dup issued.begun most moves rise.2 inside))

-- and so those that are carried are the last
pub last_carried : (number dup least most : ℕ) (moves : List Issued) → MarksRise least most moves → (front : List Issued) × (moves ≡ front ++ filter (is_carried number dup) moves)
last_carried number dup least most [] rise = ([], refl)
last_carried number dup least most (issued ∷ moves) rise =
    elim (cases_Bool (nat_le number (issued.begun + dup + 1))) [
      | inl goes ↦
          let others = all_carried number dup issued.begun most moves rise.2 (leb-true number (issued.begun + dup + 1) goes) in
          ([], rw (goes, others) refl)
      | inr stays ↦
          let others = last_carried number dup issued.begun most moves rise.2 in
          (issued ∷ others.0, rw stays (ap (λ (l : List Issued). issued ∷ l) others.1))
    ]

abbrev one_of : Issued → Move
one_of i = i.one

-- the moves that a message carries were issued one directly after the other
pub carried_consecutive : (number dup begun : ℕ) (moves : List Issued) (issued : List Move) → KeepsMoves moves begun issued → AreConsecutive (carried number dup moves) issued
carried_consecutive number dup begun moves issued keeps =
    let last = last_carried number dup 0 begun moves keeps.marks in
    let those = carried number dup moves in (
      keeps.before ++ map one_of last.0,
      [],
      keeps.newest
          ∙ (ap (λ (l : List Issued). keeps.before ++ map one_of l) last.1
          ∙ (ap (λ (l : List Move). keeps.before ++ l) (map-append one_of last.0 (filter (is_carried number dup) moves))
          ∙ (sym (append_assoc keeps.before (map one_of last.0) those) ∙ sym (append-nil (keeps.before ++ map one_of last.0 ++ those))))),
    )

-- are moves as an end may issue them
pub carried_each : (number dup begun : ℕ) (moves : List Issued) (issued : List Move) → KeepsMoves moves begun issued → All IsMove (carried number dup moves)
carried_each number dup begun moves issued keeps =
    All-map IsMove one_of (filter (is_carried number dup) moves) (All-filter (is_carried number dup) (λ (i : Issued). IsMove i.one) moves keeps.each)

-- and are few
pub carried_few : (number dup begun : ℕ) (moves : List Issued) (issued : List Move) → KeepsMoves moves begun issued → length (carried number dup moves) ≤ most_moves
carried_few number dup begun moves issued keeps =
    let last = last_carried number dup 0 begun moves keeps.marks in
    let those = filter (is_carried number dup) moves in
    let whole = ap (λ (l : List Issued). length l) last.1 in
    let few = keeps.few in
    omega (arith, length-map those one_of, length-append last.0 those, whole, few)

-- ---- what was issued one after the other

-- still was where more is issued
pub AreConsecutive-more : (moves issued more : List Move) → AreConsecutive moves issued → AreConsecutive moves (issued ++ more)
AreConsecutive-more moves issued more are =
    (are.0, are.1 ++ more, ap (λ (l : List Move). l ++ more) are.2 ∙ append_assoc (are.0 ++ moves) are.1 more)

-- and was issued
pub consecutive_issued : (moves issued : List Move) → AreConsecutive moves issued → All (Contains issued) moves
consecutive_issued moves issued are =
    subst (λ (l : List Move). All (Contains l) moves) (sym are.2)
    (All-weaker (Contains moves) (Contains (are.0 ++ moves ++ are.1))
    (λ one there. Contains-append_left (are.0 ++ moves) are.1 one (Contains-append_right are.0 moves one there)) moves (All-contains_itself moves))

-- where more is issued
pub contains_more : (moves issued more : List Move) → All (Contains issued) moves → All (Contains (issued ++ more)) moves
contains_more moves issued more are = All-weaker (Contains issued) (Contains (issued ++ more)) (λ one there. Contains-append_left issued more one there) moves are

-- ---- the newest moves

marks_from : (least from most : ℕ) (moves : List Issued) → from ≤ least → MarksRise least most moves → MarksRise from most moves
marks_from least from most [] le rise = tt
marks_from least from most (issued ∷ moves) le rise = let first = rise.0 in (omega (arith, le, first), rise.1, rise.2)

marks_after : (least most count : ℕ) (moves : List Issued) → MarksRise least most moves → MarksRise least most (drop count moves)
marks_after least most zero moves rise = rise
marks_after least most (suc count) [] rise = tt
marks_after least most (suc count) (issued ∷ moves) rise =
    marks_from issued.begun least most (drop count moves) rise.0 (marks_after issued.begun most count moves rise.2)

marks_push : (least most : ℕ) (one : Move) (moves : List Issued) → least ≤ most → MarksRise least most moves → MarksRise least most (moves ++ record { begun = most; one = one } ∷ [])
marks_push least most one [] le rise = (le, omega arith, tt)
marks_push least most one (issued ∷ moves) le rise = (rise.0, rise.1, marks_push issued.begun most one moves rise.1 rise.2)

-- and where one more message was begun
marks_more : (least most more : ℕ) (moves : List Issued) → most ≤ more → MarksRise least most moves → MarksRise least more moves
marks_more least most more [] le rise = tt
marks_more least most more (issued ∷ moves) le rise = let within = rise.1 in (rise.0, omega (arith, within, le), marks_more issued.begun most more moves le rise.2)

pub KeepsMoves-begun : (moves : List Issued) (begun more : ℕ) (issued : List Move) → begun ≤ more → KeepsMoves moves begun issued → KeepsMoves moves more issued
KeepsMoves-begun moves begun more issued le keeps =
    record { before = keeps.before; newest = keeps.newest; few = keeps.few; marks = marks_more 0 begun more moves le keeps.marks; each = keeps.each }

-- a move is issued, and the newest stay
pub KeepsMoves-push : (moves : List Issued) (begun : ℕ) (issued : List Move) (one : Move) → IsMove one → KeepsMoves moves begun issued
    → KeepsMoves (keep_last most_moves (moves ++ record { begun = begun; one = one } ∷ [])) begun (issued ++ one ∷ [])
KeepsMoves-push moves begun issued one is keeps =
    let more : List Issued = moves ++ record { begun = begun; one = one } ∷ [] in
    let count = length more - most_moves in
    let split : more ≡ take count more ++ drop count more = sym (take-append-drop count more) in
    let whole : issued ++ one ∷ [] ≡ keeps.before ++ map one_of more =
    ap (λ (l : List Move). l ++ one ∷ []) keeps.newest
    ∙ (append_assoc keeps.before (map one_of moves) (one ∷ [])
    ∙ ap (λ (l : List Move). keeps.before ++ l) (sym (map-append one_of moves (record { begun = begun; one = one } ∷ [])))) in
    record {
      before = keeps.before ++ map one_of (take count more);
      newest = whole
          ∙ (ap (λ (l : List Issued). keeps.before ++ map one_of l) split
          ∙ (ap (λ (l : List Move). keeps.before ++ l) (map-append one_of (take count more) (drop count more))
          ∙ sym (append_assoc keeps.before (map one_of (take count more)) (map one_of (drop count more)))));
      few = omega (arith, length-drop count more);
      marks = marks_after 0 begun count more (marks_push 0 begun one moves (omega arith) keeps.marks);
      each = All-drop (λ (i : Issued). IsMove i.one) count more (All-push (λ (i : Issued). IsMove i.one) moves (record { begun = begun; one = one }) keeps.each is);
    }

pub KeepsMoves-none : KeepsMoves [] 0 []
KeepsMoves-none = record { before = []; newest = refl; few = omega arith; marks = tt; each = All-nil (λ (i : Issued). IsMove i.one) }

-- with none kept any more
pub KeepsMoves-wiped : (begun : ℕ) (issued : List Move) → KeepsMoves [] begun issued
KeepsMoves-wiped begun issued = record { before = issued; newest = sym (append-nil issued); few = omega arith; marks = tt; each = All-nil (λ (i : Issued). IsMove i.one) }
