-- What a seek asks of the demo: no more than the records have that it plays.
use Rattle.std.proofs.Common.{◌≡◌, ◌≢◌, ℕ, zero, suc, ◌+◌, ◌-◌, ◌*◌, ◌/◌, ◌<◌, ◌≤◌, Bool, IsTrue, List, length, drop, Option, Some, None, Result, Ok, Err, refl, sym, ap, subst, ◌∙◌, arith}
use Rattle.q3_bits.specs.ResultBind.{◌>>=◌}
use Rattle.q3_bits.proofs.Binds.{bind_ok, bind_is, map_err_ok}
use Rattle.q3_io.specs.Told.{Told, contents_at}
use Rattle.q3_profile.specs.declared.profile.Profile.{Profile}
use Rattle.q3_clstate.specs.State.{AppliedState}
use Rattle.q3_demo.specs.declared.error.DemoError.{DemoError}
use Rattle.q3_demo.specs.Playing.{Played, Stepped, step, go_on, play_first, play_state, records_of}
use Rattle.q3_demo.specs.Running.{OnlyAsks, AsksOf, asked_of}
use Rattle.q3_demo.proofs.Pieces.{was_record}
use Rattle.q3_index.specs.declared.error.SeekError.{SeekError}
use Rattle.q3_index.specs.declared.error.SeekError.TheVariants.{ReadFault, NotIndex, NoMemory, PastEnd, Demo}
use Rattle.q3_index.specs.declared.index.Checkpoint.{Checkpoint}
use Rattle.q3_index.specs.Text.{spacing}
use Rattle.q3_index.specs.Seeking.{start_at, seek_at, played_after, bytes_between}
use Rattle.q3_index.specs.Running.{IndexState, Seeks, IsMade, PlaysSo}
use Rattle.q3_index.specs.Laws.{SeekingIsPlaying, SeekingGoesOn}
use Rattle.q3_index.specs.Steps.{play_one}
use Rattle.q3_index.proofs.Stepping.{was_played}
use Rattle.q3_index.proofs.Seeking.{told_later, GoesOn, PlaysOne, StartsAt, none_first, past_end, sought_from, sought}

-- ---- records that are played

same_played : {x y : Played} → (let left : Result Played DemoError = Ok x in left ≡ Ok y) → x ≡ y
same_played e = cc

same_start : {x y : Played} → (let left : Result Played SeekError = Ok x in left ≡ Ok y) → x ≡ y
same_start e = cc

not_both : {e : SeekError} {x : Played} → (let left : Result Played SeekError = Err e in left ≡ Ok x) → ⊥
not_both e = absurd cc

-- a record stands in front of the place after it
place_rises : (demo : List ℕ) (was : Played) (stepped : Stepped) → step demo was ≡ Ok (Some stepped) → was.at ≤ stepped.played.at
place_rises demo was stepped is =
    let played = was_played demo was stepped is in
    let there = was_record (drop was.at demo) was.at was.last played.number played.size played.next played.found in
    let next = there.next_is in
    let ends : played.next ≡ stepped.played.at = ap (λ (s : Stepped). s.played.at) played.stepped_is in
    omega arith

-- the first of records that are played, and the others
record PlaysFirst (left : ℕ) (demo : List ℕ) (was last : Played) : Type 0 where
  stepped : Stepped
  found : step demo was ≡ Ok (Some stepped)
  others : play_first left demo stepped.played ≡ Ok last

went_on : (left : ℕ) (demo : List ℕ) (was last : Played) (next : Option Stepped) → step demo was ≡ Ok next → (go_on was next >>= play_first left demo) ≡ Ok last → PlaysFirst left demo was last
went_on left demo was last None found is = absurd cc
went_on left demo was last (Some stepped) found is = record { stepped = stepped; found = found; others = is }

plays_first : (left : ℕ) (demo : List ℕ) (was last : Played) → play_first (suc left) demo was ≡ Ok last → PlaysFirst left demo was last
unfolding play_first
plays_first left demo was last is =
    let p = bind_ok (step demo was) (λ (stepped : Option Stepped). go_on was stepped >>= play_first left demo) last is in
    went_on left demo was last p.0 p.1 p.2

-- and so do all that are played
places_rise : (left : ℕ) (demo : List ℕ) (was last : Played) → play_first left demo was ≡ Ok last → was.at ≤ last.at
places_rise zero demo was last is =
    let same : was.at ≡ last.at = ap (λ (p : Played). p.at) (same_played (sym (none_first demo was) ∙ is)) in
    omega arith
places_rise (suc left) demo was last is =
    let one = plays_first left demo was last is in
    let first = place_rises demo was one.stepped one.found in
    let others = places_rise left demo one.stepped.played last one.others in
    omega arith

-- what one leaves
same_next : (demo : List ℕ) (was here : Played) (stepped : Stepped) → step demo was ≡ Ok (Some stepped) → play_one demo was ≡ Ok here → stepped.played ≡ here
same_next demo was here stepped found is =
    let leaves : (step demo was >>= go_on was) ≡ Ok stepped.played = bind_is (step demo was) (go_on was) (Some stepped) (Ok stepped.played) found refl in
    same_played (sym leaves ∙ map_err_ok Demo (step demo was >>= go_on was) here is)

-- ---- what is asked for as far as so many were played

-- of the demo no more is asked for than the record has that is played
abbrev pub CostsOne : Bool → Option Told → Option Told → ℕ → Played → Type 0
CostsOne whole mid now demo was =
    IsTrue whole → (told : Told) → mid ≡ Some told → (stepped : Stepped) → step (contents_at told demo) was ≡ Ok (Some stepped)
    → asked_of now demo + was.at ≤ asked_of mid demo + stepped.played.at

-- nor than those have that were played so far, where so many may be
abbrev pub CostsSo : Bool → Option Told → Option Told → ℕ → ℕ → Played → Played → Type 0
CostsSo whole before now demo total first here =
    IsTrue whole → (told : Told) → before ≡ Some told → (last : Played) → play_first total (contents_at told demo) first ≡ Ok last
    → asked_of now demo + first.at ≤ asked_of before demo + here.at

-- nor than so many have
abbrev pub CostsAll : Bool → Option Told → Option Told → ℕ → ℕ → Played → Type 0
CostsAll whole before now demo total first =
    IsTrue whole → (told : Told) → before ≡ Some told → (last : Played) → play_first total (contents_at told demo) first ≡ Ok last
    → asked_of now demo + first.at ≤ asked_of before demo + last.at

pub costs_first : (whole : Bool) (before : Option Told) (demo total : ℕ) (first : Played) → CostsSo whole before before demo total first first
costs_first whole before demo total first = λ reads told is last all. omega arith

-- the next of those that are left
next_left : (before : Option Told) (demo total : ℕ) (first : Played) (number count : ℕ) (was : Played) (told : Told) (last : Played) → count < number
    → GoesOn before demo total first (number - count) was → before ≡ Some told → play_first total (contents_at told demo) first ≡ Ok last
    → PlaysFirst (number - (count + 1)) (contents_at told demo) was last
unfolding GoesOn
next_left before demo total first number count was told last more goes is all =
    let left : number - count ≡ suc (number - (count + 1)) = omega arith in
    plays_first (number - (count + 1)) (contents_at told demo) was last (sym (goes told is ∙ ap (λ (n : ℕ). play_first n (contents_at told demo) was) left) ∙ all)

pub costs_more : (whole : Bool) (before mid now : Option Told) (demo total : ℕ) (first : Played) (number count : ℕ) (was here : Played) → OnlyAsks before mid → count < number
    → GoesOn before demo total first (number - count) was → PlaysOne mid demo was here (Ok tt) → CostsOne whole mid now demo was → CostsSo whole before mid demo total first was
    → CostsSo whole before now demo total first here
costs_more whole before mid now demo total first number count was here asks more goes plays one so = λ reads told is last all.
    let later = told_later before mid told asks is in
    let next = next_left before demo total first number count was told last more goes is all in
    let cost = one reads (record told { asked = later.0 }) later.1 next.stepped next.found in
    let so_far = so reads told is last all in
    let same : next.stepped.played.at ≡ here.at = ap (λ (p : Played). p.at) (same_next (contents_at told demo) was here next.stepped next.found (plays (record told { asked = later.0 }) later.1)) in
    omega arith

pub costs_wrong : (whole : Bool) (before mid now : Option Told) (demo total : ℕ) (first : Played) (number count : ℕ) (was : Played) → OnlyAsks before mid → count < number
    → GoesOn before demo total first (number - count) was → CostsOne whole mid now demo was → CostsSo whole before mid demo total first was → CostsAll whole before now demo total first
costs_wrong whole before mid now demo total first number count was asks more goes one so = λ reads told is last all.
    let later = told_later before mid told asks is in
    let next = next_left before demo total first number count was told last more goes is all in
    let cost = one reads (record told { asked = later.0 }) later.1 next.stepped next.found in
    let so_far = so reads told is last all in
    let rest = places_rise (number - (count + 1)) (contents_at told demo) next.stepped.played last next.others in
    omega arith

pub costs_all : (whole : Bool) (before now : Option Told) (demo total : ℕ) (first : Played) (left : ℕ) (here : Played) → left ≡ 0 → GoesOn before demo total first left here
    → CostsSo whole before now demo total first here → CostsAll whole before now demo total first
unfolding GoesOn
costs_all whole before now demo total first left here none goes so = λ reads told is last all.
    let so_far = so reads told is last all in
    let ends : play_first 0 (contents_at told demo) here ≡ Ok last = sym (goes told is ∙ ap (λ (n : ℕ). play_first n (contents_at told demo) here) none) ∙ all in
    let same : here.at ≡ last.at = ap (λ (p : Played). p.at) (same_played (sym (none_first (contents_at told demo) here) ∙ ends)) in
    omega arith

-- ---- a seek

-- of the demo no more is asked for than the records have from where it begins
abbrev pub SeekCosts : Bool → Profile → IndexState → ℕ → Option Told → Option Told → Type 0
SeekCosts whole profile state number before now =
    IsTrue whole → state.demo ≢ state.index → (told : Told) → before ≡ Some told → (start played : Played) → start_at profile (contents_at told state.index) state.checkpoints number ≡ Ok start
    → seek_at profile (contents_at told state.demo) (contents_at told state.index) state.records state.checkpoints number ≡ Ok played
    → asked_of now state.demo + start.at ≤ asked_of before state.demo + played.at

-- beyond the end nothing is sought
pub past_costs : (whole : Bool) (profile : Profile) (state : IndexState) (number : ℕ) (before now : Option Told) → state.records < number → SeekCosts whole profile state number before now
past_costs whole profile state number before now past = λ reads apart told is start played starts ends.
    absurd (not_both (sym (past_end profile (contents_at told state.demo) (contents_at told state.index) state.records state.checkpoints number past) ∙ ends))

-- from where it begins, so many records are played
plays_from : (profile : Profile) (demo index : List ℕ) (records : ℕ) (checkpoints : List Checkpoint) (number : ℕ) (start played : Played) → number ≤ records
    → start_at profile index checkpoints number ≡ Ok start → seek_at profile demo index records checkpoints number ≡ Ok played → play_first (number - start.records) demo start ≡ Ok played
plays_from profile demo index records checkpoints number start played within starts ends =
    map_err_ok Demo (play_first (number - start.records) demo start) played
    (sym (sought profile demo index records checkpoints number within ∙ ap (sought_from demo number) starts) ∙ ends)

-- only the index was read
pub start_costs : (whole : Bool) (profile : Profile) (state : IndexState) (number : ℕ) (before now : Option Told) → number ≤ state.records → AsksOf state.index before now
    → SeekCosts whole profile state number before now
start_costs whole profile state number before now within only = λ reads apart told is start played starts ends.
    let same : asked_of now state.demo ≡ asked_of before state.demo = only state.demo apart in
    let rest = places_rise (number - start.records) (contents_at told state.demo) start played
    (plays_from profile (contents_at told state.demo) (contents_at told state.index) state.records state.checkpoints number start played within starts ends) in
    omega arith

-- and records were played
pub play_costs : (whole : Bool) (profile : Profile) (state : IndexState) (demo number : ℕ) (before mid now : Option Told) (first : Played) → demo ≡ state.demo → number ≤ state.records
    → OnlyAsks before mid → AsksOf state.index before mid → StartsAt before profile state number first → CostsAll whole mid now demo (number - first.records) first
    → SeekCosts whole profile state number before now
play_costs whole profile state demo number before mid now first same within asks only begins costs = λ reads apart told is start played starts ends.
    let later = told_later before mid told asks is in
    let bytes : List ℕ = contents_at told state.demo in
    let here : first ≡ start = same_start (sym (begins told is) ∙ starts) in
    let plays : play_first (number - first.records) bytes first ≡ Ok played =
    subst (λ (p : Played). play_first (number - p.records) bytes p ≡ Ok played) (sym here)
    (plays_from profile bytes (contents_at told state.index) state.records state.checkpoints number start played within starts ends) in
    let all : CostsAll whole mid now state.demo (number - first.records) first = subst (λ (d : ℕ). CostsAll whole mid now d (number - first.records) first) same costs in
    let cost = all reads (record told { asked = later.0 }) later.1 played plays in
    let place : first.at ≡ start.at = ap (λ (p : Played). p.at) here in
    let none : asked_of mid state.demo ≡ asked_of before state.demo = only state.demo apart in
    omega arith

-- ---- in an index that was made of the demo

-- no more than the records have after the last 256th
abbrev pub SeekIsCheap : Bool → Profile → IndexState → ℕ → Option Told → Option Told → Type 0
SeekIsCheap whole profile state number before now =
    IsTrue whole → state.demo ≢ state.index → (told : Told) → before ≡ Some told → IsMade profile state (contents_at told state.demo) (contents_at told state.index)
    → number ≤ length (records_of profile (contents_at told state.demo))
    → asked_of now state.demo ≤ asked_of before state.demo + bytes_between profile (contents_at told state.demo) (spacing * (number / spacing)) number

less_so : (now before first last : ℕ) → now + first ≤ before + last → now ≤ before + (last - first)
less_so now before first last is = omega arith

pub made_is_cheap : SeekingGoesOn → (whole : Bool) (profile : Profile) (state : IndexState) (number : ℕ) (before now : Option Told) → SeekCosts whole profile state number before now
    → SeekIsCheap whole profile state number before now
made_is_cheap goes whole profile state number before now costs = λ reads apart told is made some.
    let demo : List ℕ = contents_at told state.demo in
    let index : List ℕ = contents_at told state.index in
    let first : Played = played_after profile demo (spacing * (number / spacing)) in
    let last : Played = played_after profile demo number in
    let so = goes made.version profile demo index made.heads number made.tells made.codec made.ring made.mark made.long made.made made.opens some in
    let starts : start_at profile index state.checkpoints number ≡ Ok first = ap (λ (s : IndexState). start_at profile index s.checkpoints number) made.is ∙ so.0 in
    let ends : seek_at profile demo index state.records state.checkpoints number ≡ Ok last = ap (λ (s : IndexState). seek_at profile demo index s.records s.checkpoints number) made.is ∙ so.1 in
    less_so (asked_of now state.demo) (asked_of before state.demo) first.at last.at (costs reads apart told is first last starts ends)

-- what is sought is what playing leaves
answers_so : (profile : Profile) (state : IndexState) (demo index : List ℕ) (number : ℕ) (played : Played) (result : Result AppliedState SeekError) → play_state profile demo number ≡ Ok played
    → seek_at profile demo index state.records state.checkpoints number ≡ Ok played → Seeks profile state demo index number result → PlaysSo profile demo number result
answers_so profile state demo index number played (Ok left) plays sought seeks =
    let same : played ≡ seeks.0 = same_start (sym sought ∙ seeks.1) in
    (played, plays, seeks.2 ∙ ap (λ (p : Played). p.state) (sym same))
answers_so profile state demo index number played (Err ReadFault) plays sought seeks = tt
answers_so profile state demo index number played (Err (NotIndex place)) plays sought seeks = not_both (sym seeks ∙ sought)
answers_so profile state demo index number played (Err NoMemory) plays sought seeks = tt
answers_so profile state demo index number played (Err (PastEnd records)) plays sought seeks = not_both (sym seeks ∙ sought)
answers_so profile state demo index number played (Err (Demo e)) plays sought seeks = not_both (sym seeks ∙ sought)

pub made_plays : SeekingIsPlaying → (profile : Profile) (state : IndexState) (demo index : List ℕ) (number : ℕ) (result : Result AppliedState SeekError) → IsMade profile state demo index
    → number ≤ length (records_of profile demo) → Seeks profile state demo index number result → PlaysSo profile demo number result
made_plays is_playing profile state demo index number result made some seeks =
    let so = is_playing made.version profile demo index made.heads number made.tells made.codec made.ring made.mark made.long made.made made.opens some in
    let ends : seek_at profile demo index state.records state.checkpoints number ≡ Ok so.0 = ap (λ (s : IndexState). seek_at profile demo index s.records s.checkpoints number) made.is ∙ so.2 in
    answers_so profile state demo index number so.0 result so.1 ends seeks
