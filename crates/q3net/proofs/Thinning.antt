-- Stepping over events while datagrams are forgotten that no later one names: the world is alike the one that keeps them all.
use Rattle.std.proofs.Common.{◌≡◌, ℕ, ◌+◌, ◌<◌, ◌≤◌, List, [], ◌∷◌, ◌++◌, length, get_or, take, drop, Option, Result, refl, sym, ap, subst, ◌∙◌, arith}
use Rattle.std.specs.Prelude.{true, zero, suc, Option, IfSome, slice_get}
use Rattle.std.proofs.lemmas.List.{drop_more, length-append}
use Rattle.std.proofs.lemmas.Option.{slice_get_past}
use Rattle.std.proofs.Math.Seq.{take-add}
use Rattle.q3_profile.specs.declared.profile.Profile.{Profile}
use Rattle.q3_script.specs.declared.event.Event.{Event}
use Rattle.q3_script.specs.Grammar.{IsReplayEvent}
use Rattle.q3_io.specs.Acts.{FileAct}
use Rattle.q3_report.specs.Answers.{Answered}
use Rattle.q3_world.specs.ByTags.{StepFollows}
use Rattle.q3_world.specs.Files.{acts_of}
use Rattle.q3_world.specs.Forgetting.{AreAlike, AreWanted, AreWantedBefore, ForgettingIsAlike}
use Rattle.q3_world.specs.Kept.{SentBytes, Kept, kept_step, kept_after}
use Rattle.q3_world.specs.World.{Whole, step}
use Rattle.q3_world.specs.StandsFor.{StandsFor}
use Rattle.q3_io.specs.Laws.{TextsFollow}
use Rattle.q3_io.specs.Told.{Told}
use Rattle.q3_io.specs.Written.{Written, Wrote}
use Rattle.q3_report.specs.AnswerLines.{lines_of}
use Rattle.q3_world.specs.Counting.{Counting}
use Rattle.q3_world.specs.Outcome.{Prints}
use Rattle.q3_world.specs.declared.told.StepError.{StepError}
use Rattle.q3net.proofs.RunActs.{HasActed, HasActed-begin}
use Rattle.q3net.proofs.Stepping.{HasStepped, HasStepped-begin}

-- what a world keeps that forgets nothing, after the first so many events
abbrev pub full_at : Kept → List Event → ℕ → Kept
full_at start events k = kept_after start (take k events)

after-append : (start : Kept) (first second : List Event) → kept_after start (first ++ second) ≡ kept_after (kept_after start first) second
unfolding kept_after
after-append start [] second = refl
after-append start (event ∷ first) second = after-append (kept_step start event).kept first second

after-one : (start : Kept) (event : Event) → kept_after start (event ∷ []) ≡ (kept_step start event).kept
unfolding kept_after
after-one start event = refl

after-none : (start : Kept) → kept_after start [] ≡ start
unfolding kept_after
after-none start = refl

-- those that are left are the k-th and the others
left_is : (events : List Event) (k : ℕ) (event : Event) → event ≡ get_or events k event → k < length events → drop k events ≡ event ∷ drop (k + 1) events
left_is events k event is lt = drop_more events k event lt ∙ ap (λ (e : Event). e ∷ drop (k + 1) events) (sym is)

full-next : (start : Kept) (events : List Event) (k : ℕ) (event : Event) → event ≡ get_or events k event → k < length events
    → full_at start events (k + 1) ≡ (kept_step (full_at start events k) event).kept
full-next start events k event is lt =
    let taken : take (k + 1) events ≡ take k events ++ event ∷ [] =
    take-add k 1 events ∙ ap (λ (left : List Event). take k events ++ take 1 left) (left_is events k event is lt) in
    ap (kept_after start) taken ∙ (after-append start (take k events) (event ∷ []) ∙ after-one (full_at start events k) event)

-- the world keeps what is alike for the events that are left
abbrev pub IsAlike : Kept → Kept → List Event → ℕ → Type 0
IsAlike start now events k = AreAlike (drop k events) now (full_at start events k)

pub IsAlike-begin : ForgettingIsAlike → (start : Kept) (events : List Event) → IsAlike start start events 0
IsAlike-begin law start events = subst (λ (full : Kept). AreAlike events start full) (sym (after-none start)) (law.itself events start)

-- what the k-th event answers and does to files, and what is left after it
pub record DoesAlike (start now : Kept) (events : List Event) (k : ℕ) (event : Event) : Type 0 where
  pub answer : (kept_step now event).answer ≡ (kept_step (full_at start events k) event).answer
  pub acts : acts_of now event ≡ acts_of (full_at start events k) event
  pub left : IsAlike start (kept_step now event).kept events (k + 1)
  pub full : full_at start events (k + 1) ≡ (kept_step (full_at start events k) event).kept

pub does_alike : ForgettingIsAlike → (start now : Kept) (events : List Event) (k : ℕ) (event : Event) → event ≡ get_or events k event → k < length events
    → IsAlike start now events k → DoesAlike start now events k event
does_alike law start now events k event is lt alike =
    let full = full_at start events k in
    let here = subst (λ (left : List Event). AreAlike left now full) (left_is events k event is lt) alike in
    let done = law.steps event (drop (k + 1) events) now full here in
    let next = full-next start events k event is lt in
    record {
      answer = done.0;
      acts = done.1;
      left = subst (λ (f : Kept). AreAlike (drop (k + 1) events) (kept_step now event).kept f) (sym next) done.2;
      full = next;
    }

-- the world, as if it kept all
abbrev pub full_of : Counting → Counting → List Event → ℕ → Counting
full_of start now events k = record now { kept = full_at start.kept events k }

pub stepped_begin : (follow : TextsFollow) (profile : Profile) (start : Counting) (had : Option Written) (events : List Event)
    → HasStepped profile start (full_of start start events 0) had had events 0
stepped_begin follow profile start had events =
    subst (λ (kept : Kept). HasStepped profile start (record start { kept = kept }) had had events 0) (sym (after-none start.kept))
    (HasStepped-begin follow profile start had events)

pub acted_begin : (start : Kept) (told : Option Told) (events : List Event) → HasActed start (full_at start events 0) told told events 0
acted_begin start told events = subst (λ (kept : Kept). HasActed start kept told told events 0) (sym (after-none start)) (HasActed-begin start told events)

-- the whole world's step is told by what the world that forgets does
module _ (law : StepFollows) (profile : Profile) (start now : Kept) (events : List Event) (k : ℕ) (event : Event) (is : IsReplayEvent event) (does : DoesAlike start now events k event) where
  pub stands_full : (whole : Whole) → StandsFor profile (full_at start events k) whole → StandsFor profile (full_at start events (k + 1)) (step profile whole event).whole
  stands_full whole stands =
      subst (λ (kept : Kept). StandsFor profile kept (step profile whole event).whole) (sym does.full) (law profile (full_at start events k) whole event is stands).0

  pub answer_full : (whole : Whole) → StandsFor profile (full_at start events k) whole → (kept_step now event).answer ≡ (step profile whole event).answer
  answer_full whole stands = does.answer ∙ (law profile (full_at start events k) whole event is stands).1

  pub prints_full : (had after : Option Written) (result : Result (Unit {0}) StepError) → Prints had after (lines_of (kept_step now event).answer) result
      → (whole : Whole) → StandsFor profile (full_at start events k) whole → Prints had after (lines_of (step profile whole event).answer) result
  prints_full had after result printed whole stands = subst (λ (a : Answered). Prints had after (lines_of a) result) (answer_full whole stands) printed

-- ---- what has bytes

pub wanted_begin : (all : List Event) (datagrams : List SentBytes) → length datagrams ≡ 0 → AreWanted all datagrams
wanted_begin all datagrams none = λ at silent.
    let past : length datagrams ≤ at = omega (arith, none) in
    subst (λ (found : Option SentBytes). IfSome found (λ (sent : SentBytes). sent.bytes ≡ [])) (sym (slice_get_past datagrams at past)) tt

front_stays : (front more : List SentBytes) (at : ℕ) → at < length front → slice_get (front ++ more) at ≡ slice_get front at
front_stays [] more at lt = absurd (omega (arith, lt))
front_stays (sent ∷ front) more zero lt = refl
front_stays (sent ∷ front) more (suc at) lt = front_stays front more at (omega (arith, lt))

wanted_before : (all : List Event) (datagrams made : List SentBytes) → length made ≤ 1 → AreWanted all datagrams → AreWantedBefore all (datagrams ++ made)
wanted_before all datagrams made few wanted = λ at lt silent.
    let long = length-append datagrams made in
    let within : at < length datagrams = omega (arith, long, few, lt) in
    subst (λ (found : Option SentBytes). IfSome found (λ (sent : SentBytes). sent.bytes ≡ [])) (sym (front_stays datagrams made at within)) (wanted at silent)

-- after the k-th event, and before what it leaves is let go
pub wanted_more : ForgettingIsAlike → (now : Kept) (events : List Event) (k : ℕ) (event : Event) → event ≡ get_or events k event → k < length events
    → AreWanted (drop k events) now.datagrams → AreWantedBefore (event ∷ drop (k + 1) events) (kept_step now event).kept.datagrams
wanted_more law now events k event is lt wanted =
    let left : List Event = event ∷ drop (k + 1) events in
    let makes = law.makes event now in
    subst (AreWantedBefore left) (sym makes.2)
    (wanted_before left now.datagrams makes.0 makes.1 (subst (λ (all : List Event). AreWanted all now.datagrams) (left_is events k event is lt) wanted))
