-- Records are played one by one, as many as are sought.
use Rattle.std.proofs.Common.{◌≡◌, ℕ, suc, ◌+◌, ◌-◌, ◌<◌, ◌≤◌, List, Option, Some, Result, Ok, Err, refl, sym, ap, subst, ◌∙◌, lt-ltb, le-ltb, arith}
use Rattle.q3_bits.specs.ResultBind.{◌>>=◌, fault_as}
use Rattle.q3_bits.proofs.Binds.{bind_assoc, map_err_ok}
use Rattle.q3_io.specs.Told.{Told, contents_at}
use Rattle.q3_profile.specs.declared.profile.Profile.{Profile}
use Rattle.q3_clstate.specs.State.{AppliedState}
use Rattle.q3_demo.specs.declared.error.DemoError.{DemoError}
use Rattle.q3_demo.specs.Playing.{Played, step, go_on, play_first}
use Rattle.q3_demo.specs.Running.{OnlyAsks}
use Rattle.q3_index.specs.declared.error.SeekError.{SeekError}
use Rattle.q3_index.specs.declared.error.SeekError.TheVariants.{ReadFault, NotIndex, NoMemory, PastEnd, Demo}
use Rattle.q3_index.specs.declared.index.Checkpoint.{Checkpoint}
use Rattle.q3_index.specs.Seeking.{start_at, seek_at}
use Rattle.q3_index.specs.Running.{IndexState, Seeks}
use Rattle.q3_index.specs.Steps.{Answers, played_by, play_one}

-- an answer that is a refusal stays one where the definitions refuse alike
pub refuses_so : {X Y X' Y' : Type 0} (value : Y → X) (value' : Y' → X') (whole : Result X SeekError) (whole' : Result X' SeekError) (e : SeekError) → ((d : SeekError) → whole ≡ Err d → whole' ≡ Err d)
    → Answers value whole (Err e) → Answers value' whole' (Err e)
refuses_so value value' whole whole' ReadFault alike answers = tt
refuses_so value value' whole whole' (NotIndex place) alike answers = alike (NotIndex place) answers
refuses_so value value' whole whole' NoMemory alike answers = tt
refuses_so value value' whole whole' (PastEnd records) alike answers = alike (PastEnd records) answers
refuses_so value value' whole whole' (Demo e) alike answers = alike (Demo e) answers

-- the first record, and then the others
first_then : (left : ℕ) (demo : List ℕ) (was : Played) → play_first (suc left) demo was ≡ ((step demo was >>= go_on was) >>= play_first left demo)
unfolding play_first
first_then left demo was = sym (bind_assoc (step demo was) (go_on was) (play_first left demo))

pub first_more : (left : ℕ) (demo : List ℕ) (was now : Played) → play_one demo was ≡ Ok now → play_first (suc left) demo was ≡ play_first left demo now
first_more left demo was now is =
    let one : (step demo was >>= go_on was) ≡ Ok now = map_err_ok Demo (step demo was >>= go_on was) now is in
    first_then left demo was ∙ ap (λ (r : Result Played DemoError). r >>= play_first left demo) one

fails_after : (r : Result Played DemoError) (others : Played → Result Played DemoError) (e : SeekError) → fault_as Demo r ≡ Err e → fault_as Demo (r >>= others) ≡ Err e
fails_after (Ok x) others e is = absurd cc
fails_after (Err d) others e is = is

pub first_fails : (left : ℕ) (demo : List ℕ) (was : Played) (e : SeekError) → play_one demo was ≡ Err e → fault_as Demo (play_first (suc left) demo was) ≡ Err e
first_fails left demo was e is = ap (λ (r : Result Played DemoError). fault_as Demo r) (first_then left demo was) ∙ fails_after (step demo was >>= go_on was) (play_first left demo) e is

pub none_first : (demo : List ℕ) (was : Played) → play_first 0 demo was ≡ Ok was
unfolding play_first
none_first demo was = refl

-- ---- as far as so many were played

-- the files as they were told at first hold the same
pub told_later : (before now : Option Told) (told : Told) → OnlyAsks before now → before ≡ Some told → (asked : List ℕ) × (now ≡ Some (record told { asked = asked }))
told_later before now told asks is = subst (λ (t : Option Told). OnlyAsks t now) is asks

-- so far what is left to play of so many records is what was to be played
unfoldable pub GoesOn : Option Told → ℕ → ℕ → Played → ℕ → Played → Type 0
GoesOn before demo total first left now =
    (told : Told) → before ≡ Some told → play_first total (contents_at told demo) first ≡ play_first left (contents_at told demo) now

pub goes_first : (before : Option Told) (demo total : ℕ) (first : Played) → GoesOn before demo total first total first
unfolding GoesOn
goes_first before demo total first told is = refl

-- a record that is played as files are told
abbrev pub PlaysOne : Option Told → ℕ → Played → Played → Result (Unit {0}) SeekError → Type 0
PlaysOne mid demo was now result = (told : Told) → mid ≡ Some told → Answers (λ x. now) (play_one (contents_at told demo) was) result

pub goes_more : (before mid : Option Told) (demo total : ℕ) (first : Played) (number count : ℕ) (was now : Played) → OnlyAsks before mid → count < number → GoesOn before demo total first (number - count) was
    → PlaysOne mid demo was now (Ok tt) → GoesOn before demo total first (number - (count + 1)) now
unfolding GoesOn
goes_more before mid demo total first number count was now asks more goes plays told is =
    let later = told_later before mid told asks is in
    let left : number - count ≡ suc (number - (count + 1)) = omega arith in
    goes told is ∙ ap (λ (n : ℕ). play_first n (contents_at told demo) was) left ∙ first_more (number - (count + 1)) (contents_at told demo) was now (plays (record told { asked = later.0 }) later.1)

pub goes_wrong : (before mid : Option Told) (demo total : ℕ) (first : Played) (number count : ℕ) (was now last : Played) (e : SeekError) → OnlyAsks before mid → count < number
    → GoesOn before demo total first (number - count) was → PlaysOne mid demo was now (Err e)
    → (told : Told) → before ≡ Some told → Answers {Y = Unit {0}} (λ x. last) (fault_as Demo (play_first total (contents_at told demo) first)) (Err e)
unfolding GoesOn
goes_wrong before mid demo total first number count was now last e asks more goes plays told is =
    let later = told_later before mid told asks is in
    let left : number - count ≡ suc (number - (count + 1)) = omega arith in
    let bytes : List ℕ = contents_at told demo in
    let all : play_first total bytes first ≡ play_first (suc (number - (count + 1))) bytes was = goes told is ∙ ap (λ (n : ℕ). play_first n bytes was) left in
    refuses_so {Y = Unit {0}} {Y' = Unit {0}} (λ x. now) (λ x. last) (play_one bytes was) (fault_as Demo (play_first total bytes first)) e
    (λ d stops. ap (λ (r : Result Played DemoError). fault_as Demo r) all ∙ first_fails (number - (count + 1)) bytes was d stops) (plays (record told { asked = later.0 }) later.1)

pub goes_all : (before : Option Told) (demo total : ℕ) (first : Played) (left : ℕ) (now : Played) → left ≡ 0 → GoesOn before demo total first left now → (told : Told) → before ≡ Some told
    → fault_as Demo (play_first total (contents_at told demo) first) ≡ Ok now
unfolding GoesOn
goes_all before demo total first left now none goes told is =
    ap (λ (r : Result Played DemoError). fault_as Demo r) (goes told is ∙ ap (λ (n : ℕ). play_first n (contents_at told demo) now) none ∙ none_first (contents_at told demo) now)

-- ---- what is sought

pub past_end : (profile : Profile) (demo index : List ℕ) (records : ℕ) (checkpoints : List Checkpoint) (number : ℕ) → records < number
    → seek_at profile demo index records checkpoints number ≡ Err (PastEnd records)
unfolding seek_at
past_end profile demo index records checkpoints number less = rw (lt-ltb records number less) refl

-- a checkpoint is restored, or the beginning, and records are played
abbrev pub sought_from : List ℕ → ℕ → Result Played SeekError → Result Played SeekError
sought_from demo number start = start >>= λ (first : Played). fault_as Demo (play_first (number - first.records) demo first)

pub sought : (profile : Profile) (demo index : List ℕ) (records : ℕ) (checkpoints : List Checkpoint) (number : ℕ) → number ≤ records
    → seek_at profile demo index records checkpoints number ≡ sought_from demo number (start_at profile index checkpoints number)
unfolding seek_at
sought profile demo index records checkpoints number within = rw (le-ltb records number within) refl

seeks_wrong : {X Y : Type 0} (value : Y → X) (profile : Profile) (state : IndexState) (demo index : List ℕ) (number : ℕ) (r : Result X SeekError) (e : SeekError)
    → ((d : SeekError) → r ≡ Err d → seek_at profile demo index state.records state.checkpoints number ≡ Err d) → Answers value r (Err e) → Seeks profile state demo index number (Err e)
seeks_wrong value profile state demo index number r ReadFault alike answers = tt
seeks_wrong value profile state demo index number r (NotIndex place) alike answers = alike (NotIndex place) answers
seeks_wrong value profile state demo index number r NoMemory alike answers = tt
seeks_wrong value profile state demo index number r (PastEnd records) alike answers = alike (PastEnd records) answers
seeks_wrong value profile state demo index number r (Demo e) alike answers = alike (Demo e) answers

-- the beginning is refused
pub starts_wrong : (profile : Profile) (state : IndexState) (demo index : List ℕ) (number : ℕ) (e : SeekError) → number ≤ state.records
    → Answers played_by (start_at profile index state.checkpoints number) (Err e) → Seeks profile state demo index number (Err e)
starts_wrong profile state demo index number e within answers =
    seeks_wrong played_by profile state demo index number (start_at profile index state.checkpoints number) e
    (λ d stops. sought profile demo index state.records state.checkpoints number within ∙ ap (sought_from demo number) stops) answers

-- where the files are told, the beginning is this
abbrev pub StartsAt : Option Told → Profile → IndexState → ℕ → Played → Type 0
StartsAt before profile state number first = (told : Told) → before ≡ Some told → start_at profile (contents_at told state.index) state.checkpoints number ≡ Ok first

-- and playing from there answers this
abbrev pub PlaysFrom : Option Told → ℕ → ℕ → Played → Played → Result (Unit {0}) SeekError → Type 0
PlaysFrom mid demo number first last result = (told : Told) → mid ≡ Some told → Answers (λ x. last) (fault_as Demo (play_first (number - first.records) (contents_at told demo) first)) result

-- a record is refused
pub plays_wrong : (before mid : Option Told) (profile : Profile) (state : IndexState) (demo number : ℕ) (first last : Played) (e : SeekError) → demo ≡ state.demo → number ≤ state.records → OnlyAsks before mid
    → StartsAt before profile state number first → PlaysFrom mid demo number first last (Err e)
    → (told : Told) → before ≡ Some told → Seeks profile state (contents_at told state.demo) (contents_at told state.index) number (Err e)
plays_wrong before mid profile state demo number first last e same within asks starts plays told is =
    let later = told_later before mid told asks is in
    let bytes : List ℕ = contents_at told state.demo in
    let index : List ℕ = contents_at told state.index in
    let answers : Answers {Y = Unit {0}} (λ x. last) (fault_as Demo (play_first (number - first.records) bytes first)) (Err e) =
    subst (λ (d : ℕ). Answers {Y = Unit {0}} (λ x. last) (fault_as Demo (play_first (number - first.records) (contents_at told d) first)) (Err e)) same (plays (record told { asked = later.0 }) later.1) in
    seeks_wrong {Y = Unit {0}} (λ x. last) profile state bytes index number (fault_as Demo (play_first (number - first.records) bytes first)) e
    (λ d stops. sought profile bytes index state.records state.checkpoints number within ∙ ap (sought_from bytes number) (starts told is) ∙ stops) answers

-- and they are played
pub plays_all : (before mid : Option Told) (profile : Profile) (state : IndexState) (demo number : ℕ) (first last : Played) (left : AppliedState) → demo ≡ state.demo → number ≤ state.records → OnlyAsks before mid
    → StartsAt before profile state number first → PlaysFrom mid demo number first last (Ok tt) → left ≡ last.state
    → (told : Told) → before ≡ Some told → Seeks profile state (contents_at told state.demo) (contents_at told state.index) number (Ok left)
plays_all before mid profile state demo number first last left same within asks starts plays is_left told is =
    let later = told_later before mid told asks is in
    let bytes : List ℕ = contents_at told state.demo in
    let index : List ℕ = contents_at told state.index in
    let answers : fault_as Demo (play_first (number - first.records) bytes first) ≡ Ok last =
    subst (λ (d : ℕ). fault_as Demo (play_first (number - first.records) (contents_at told d) first) ≡ Ok last) same (plays (record told { asked = later.0 }) later.1) in
    (last, sought profile bytes index state.records state.checkpoints number within ∙ ap (sought_from bytes number) (starts told is) ∙ answers, is_left)
