-- Stepping over the events of a script, and counting what they answer.
use Rattle.std.proofs.Common.{◌≡◌, ℕ, ◌+◌, ◌<◌, ◌≤◌, List, [], ◌∷◌, ◌++◌, length, get_or, take, drop, Option, Err, refl, sym, ap, subst, ◌∙◌, append_assoc}
use Rattle.std.specs.Prelude.{true}
use Rattle.std.specs.List.{flat_map}
use Rattle.std.proofs.lemmas.List.{append-nil, drop_more, drop_all, drop-drop, take-append-drop}
use Rattle.std.proofs.lemmas.Grind.{flat_map-append}
use Rattle.std.proofs.Math.Seq.{take-add}
use Rattle.q3_profile.specs.declared.profile.Profile.{Profile}
use Rattle.q3_script.specs.declared.event.Event.{Event}
use Rattle.q3_report.specs.Answers.{Answered}
use Rattle.q3_report.specs.AnswerLines.{lines_of}
use Rattle.q3_world.specs.declared.told.StepError.{StepError}
use Rattle.q3_world.specs.declared.told.StepError.TheVariants as errors
use Rattle.q3_io.specs.Laws.{TextsFollow}
use Rattle.q3_io.specs.Written.{Written, Wrote}
use Rattle.q3_world.specs.Outcome.{Prints}
use Rattle.q3_world.specs.Counting.{Counting}
use Rattle.q3_world.specs.World.{Whole, step, answers}
use Rattle.q3_world.specs.StandsFor.{StandsFor}
use Rattle.q3net.specs.Run.{AddsLines}

-- the lines of these answers
abbrev pub all_lines : List Answered → List ℕ
all_lines all = flat_map lines_of all

-- one event and the others
pub answers-next : (profile : Profile) (whole : Whole) (event : Event) (events : List Event)
    → answers profile whole (event ∷ events) ≡ (step profile whole event).answer ∷ answers profile (step profile whole event).whole events
unfolding answers
answers-next profile whole event events = refl

pub answers-none : (profile : Profile) (whole : Whole) → answers profile whole [] ≡ []
unfolding answers
answers-none profile whole = refl

-- the lines of the first answers, with those of one more, and with those of all others
lines-more : (all : List Answered) (k : ℕ) (one : Answered) (others : List Answered) → drop k all ≡ one ∷ others
    → all_lines (take (k + 1) all) ≡ all_lines (take k all) ++ lines_of one
lines-more all k one others parts =
    ap all_lines (take-add k 1 all ∙ ap (λ (left : List Answered). take k all ++ take 1 left) parts)
    ∙ (flat_map-append lines_of (take k all) (one ∷ []) ∙ ap (λ (text : List ℕ). all_lines (take k all) ++ text) (append-nil (lines_of one)))

pub lines-all : (all : List Answered) (k : ℕ) → all_lines all ≡ all_lines (take k all) ++ all_lines (drop k all)
lines-all all k = ap all_lines (sym (take-append-drop k all)) ∙ flat_map-append lines_of (take k all) (drop k all)

-- the events before the k-th were done, and the lines of their answers written; the other answers are those that come
abbrev pub HasStepped : Profile → Counting → Counting → Option Written → Option Written → List Event → ℕ → Type 0
HasStepped profile start now had written events k =
    (whole : Whole) → StandsFor profile start.kept whole
    → (next : Whole) × StandsFor profile now.kept next
    × Wrote had written (all_lines (take k (answers profile whole events))) true
    × (drop k (answers profile whole events) ≡ answers profile next (drop k events))

-- the answers that come are that of the k-th event and the others
comes : (profile : Profile) (all : List Answered) (next : Whole) (events : List Event) (k : ℕ) (event : Event) → event ≡ get_or events k event → k < length events
    → drop k all ≡ answers profile next (drop k events)
    → drop k all ≡ (step profile next event).answer ∷ answers profile (step profile next event).whole (drop (k + 1) events)
comes profile all next events k event is lt left =
    left ∙ (ap (answers profile next) (drop_more events k event lt ∙ ap (λ (e : Event). e ∷ drop (k + 1) events) (sym is))
    ∙ answers-next profile next event (drop (k + 1) events))

pub HasStepped-begin : (follow : TextsFollow) (profile : Profile) (start : Counting) (had : Option Written) (events : List Event) → HasStepped profile start start had had events 0
HasStepped-begin follow profile start had events = λ whole begun. (whole, begun, follow.none, refl)

pub HasStepped-more : (follow : TextsFollow) (profile : Profile) (start now after : Counting) (had written more : Option Written) (events : List Event) (k : ℕ) (event : Event) → event ≡ get_or events k event → k < length events
    → HasStepped profile start now had written events k
    → ((whole : Whole) → StandsFor profile now.kept whole → StandsFor profile after.kept (step profile whole event).whole)
    → ((whole : Whole) → StandsFor profile now.kept whole → Wrote written more (lines_of (step profile whole event).answer) true)
    → HasStepped profile start after had more events (k + 1)
HasStepped-more follow profile start now after had written more events k event is lt stepped stands lines = λ whole begun.
    let was = stepped whole begun in
    let done = step profile was.0 event in
    let all = answers profile whole events in
    let others = answers profile done.whole (drop (k + 1) events) in
    let parts = comes profile all was.0 events k event is lt was.3 in (
      done.whole,
      stands was.0 was.1,
      follow.more was.2 (lines was.0 was.1) (lines-more all k done.answer others parts),
      sym (drop-drop 1 k all) ∙ ap (λ (left : List Answered). drop 1 left) parts,
    )

-- the sink, a file or memory failed at the k-th event
pub HasStepped-early : (follow : TextsFollow) (profile : Profile) (start now : Counting) (had written more : Option Written) (events : List Event) (k : ℕ) (event : Event) (e : StepError) → event ≡ get_or events k event → k < length events
    → HasStepped profile start now had written events k
    → ((whole : Whole) → StandsFor profile now.kept whole → Prints written more (lines_of (step profile whole event).answer) (Err e))
    → (whole : Whole) → StandsFor profile start.kept whole → AddsLines (answers profile whole events) had more (Err e)
HasStepped-early follow profile start now had written more events k event errors.NoMemory is lt stepped lines whole begun =
    let was = stepped whole begun in
    (k, subst (λ (m : Option Written). Wrote had m (all_lines (take k (answers profile whole events))) true) (sym (lines was.0 was.1)) was.2)
HasStepped-early follow profile start now had written more events k event errors.FileFault is lt stepped lines whole begun =
    let was = stepped whole begun in
    (k, subst (λ (m : Option Written). Wrote had m (all_lines (take k (answers profile whole events))) true) (sym (lines was.0 was.1)) was.2)
HasStepped-early follow profile start now had written more events k event errors.WriteFault is lt stepped lines whole begun =
    let was = stepped whole begun in
    let done = step profile was.0 event in
    let all = answers profile whole events in
    let others = answers profile done.whole (drop (k + 1) events) in
    let first = all_lines (take k all) in
    let total : all_lines all ≡ (first ++ lines_of done.answer) ++ all_lines others =
    lines-all all k ∙ (ap (λ (left : List Answered). first ++ all_lines left) (comes profile all was.0 events k event is lt was.3)
    ∙ sym (append_assoc first (lines_of done.answer) (all_lines others))) in
    follow.early (all_lines others) (follow.more was.2 (lines was.0 was.1) refl) total

-- every event was done
all_done : (profile : Profile) (start now : Counting) (had written : Option Written) (events : List Event) (k : ℕ) → length events ≤ k
    → (stepped : HasStepped profile start now had written events k) (whole : Whole) (begun : StandsFor profile start.kept whole)
    → drop k (answers profile whole events) ≡ []
all_done profile start now had written events k le stepped whole begun =
    let was = stepped whole begun in
    was.3 ∙ (ap (answers profile was.0) (drop_all k events le) ∙ answers-none profile was.0)

taken_all : (all : List Answered) (k : ℕ) → drop k all ≡ [] → take k all ≡ all
taken_all all k none = sym (append-nil (take k all)) ∙ (ap (λ (left : List Answered). take k all ++ left) (sym none) ∙ take-append-drop k all)

pub HasStepped-all : (profile : Profile) (start now : Counting) (had written : Option Written) (events : List Event) (k : ℕ) → length events ≤ k
    → HasStepped profile start now had written events k
    → (whole : Whole) → StandsFor profile start.kept whole → Wrote had written (all_lines (answers profile whole events)) true
HasStepped-all profile start now had written events k le stepped whole begun =
    let all = answers profile whole events in
    subst (λ (first : List Answered). Wrote had written (all_lines first) true) (taken_all all k (all_done profile start now had written events k le stepped whole begun))
    (stepped whole begun).2
