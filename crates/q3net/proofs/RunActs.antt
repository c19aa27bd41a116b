-- What events do to files, one after the other.
use Rattle.std.proofs.Common.{◌≡◌, ◌≢◌, ℕ, ◌+◌, ◌<◌, ◌≤◌, List, [], ◌∷◌, ◌++◌, length, get_or, drop, Option, Result, Ok, Err, IsErr, refl, sym, ap, subst, ◌∙◌, append_assoc}
use Rattle.std.proofs.lemmas.List.{append-nil, drop_more, drop_all}
use Rattle.q3_script.specs.declared.event.Event.{Event}
use Rattle.q3_io.specs.declared.sink.Failed.{Failed}
use Rattle.q3_io.specs.Acts.{FileAct, ActsOn}
use Rattle.q3_io.specs.Told.{Told}
use Rattle.q3_world.specs.declared.told.StepError.{StepError}
use Rattle.q3_world.specs.declared.told.StepError.TheVariants as errors
use Rattle.q3_world.specs.Kept.{Kept, kept_step}
use Rattle.q3_world.specs.Files.{acts_of, acts_from, ending_acts, acts_by, by_files}
use Rattle.q3net.specs.Run.{DoesFirst}
use Rattle.q3_runs.proofs.Acting.{none_on, both_on}

acts-next : (kept : Kept) (event : Event) (events : List Event) → acts_from kept (event ∷ events) ≡ acts_of kept event ++ acts_from (kept_step kept event).kept events
unfolding acts_from
acts-next kept event events = refl

acts-none : (kept : Kept) → acts_from kept [] ≡ ending_acts kept.ends
unfolding acts_from
acts-none kept = refl

-- those of the events before the k-th were done; the others come
pub record HasActed (start now : Kept) (told behind : Option Told) (events : List Event) (k : ℕ) : Type 0 where
  pub done : List FileAct
  pub whole : acts_from start events ≡ done ++ acts_from now (drop k events)
  pub acted : ActsOn told behind done (Ok tt)

-- those that come are of the k-th event and of the others
comes : (now : Kept) (events : List Event) (k : ℕ) (event : Event) → event ≡ get_or events k event → k < length events
    → acts_from now (drop k events) ≡ acts_of now event ++ acts_from (kept_step now event).kept (drop (k + 1) events)
comes now events k event is lt =
    ap (acts_from now) (drop_more events k event lt ∙ ap (λ (e : Event). e ∷ drop (k + 1) events) (sym is)) ∙ acts-next now event (drop (k + 1) events)

pub HasActed-begin : (start : Kept) (told : Option Told) (events : List Event) → HasActed start start told told events 0
HasActed-begin start told events = record { done = []; whole = refl; acted = none_on told }

-- with those of the k-th event
more_whole : (start now : Kept) (told mid : Option Told) (events : List Event) (k : ℕ) (event : Event) → event ≡ get_or events k event → k < length events
    → (had : HasActed start now told mid events k) → acts_from start events ≡ (had.done ++ acts_of now event) ++ acts_from (kept_step now event).kept (drop (k + 1) events)
more_whole start now told mid events k event is lt had =
    had.whole ∙ (ap (λ (acts : List FileAct). had.done ++ acts) (comes now events k event is lt)
    ∙ sym (append_assoc had.done (acts_of now event) (acts_from (kept_step now event).kept (drop (k + 1) events))))

pub HasActed-more : (start now after : Kept) (told mid behind : Option Told) (events : List Event) (k : ℕ) (event : Event) → event ≡ get_or events k event → k < length events
    → HasActed start now told mid events k → ActsOn mid behind (acts_of now event) (Ok tt) → after ≡ (kept_step now event).kept → HasActed start after told behind events (k + 1)
HasActed-more start now after told mid behind events k event is lt had does steps = record {
  done = had.done ++ acts_of now event;
  whole = more_whole start now told mid events k event is lt had
      ∙ ap (λ (kept : Kept). (had.done ++ acts_of now event) ++ acts_from kept (drop (k + 1) events)) (sym steps);
  acted = both_on told mid behind had.done (acts_of now event) (Ok tt) had.acted does;
}

-- some acts after others are some
some_after : (first acts : List FileAct) → acts ≢ [] → first ++ acts ≢ []
some_after [] acts some none = some none
some_after (act ∷ first) acts some none = absurd cc

-- the k-th event failed
pub HasActed-early : (start now : Kept) (told mid behind : Option Told) (events : List Event) (k : ℕ) (event : Event) (e : StepError) (last : List FileAct)
    → event ≡ get_or events k event → k < length events → HasActed start now told mid events k → ActsOn mid behind (acts_by (Err e) (acts_of now event)) (by_files (Err e))
    → (IsErr (by_files (Err e)) → acts_by (Err e) (acts_of now event) ≢ []) → DoesFirst told behind (acts_from start events) last (Err e)
HasActed-early start now told mid behind events k event errors.NoMemory last is lt had does some = (
  had.done ++ [],
  acts_from now (drop k events),
  had.whole ∙ ap (λ (acts : List FileAct). acts ++ acts_from now (drop k events)) (sym (append-nil had.done)),
  both_on told mid behind had.done [] (Ok tt) had.acted does,
  tt,
  λ failed. some_after had.done [] (some failed),
)
HasActed-early start now told mid behind events k event errors.WriteFault last is lt had does some = (
  had.done ++ acts_of now event,
  acts_from (kept_step now event).kept (drop (k + 1) events),
  more_whole start now told mid events k event is lt had,
  both_on told mid behind had.done (acts_of now event) (Ok tt) had.acted does,
  tt,
  λ failed. some_after had.done (acts_of now event) (some failed),
)
HasActed-early start now told mid behind events k event errors.FileFault last is lt had does some = (
  had.done ++ acts_of now event,
  acts_from (kept_step now event).kept (drop (k + 1) events),
  more_whole start now told mid events k event is lt had,
  both_on told mid behind had.done (acts_of now event) (Err (record {})) had.acted does,
  tt,
  λ failed. some_after had.done (acts_of now event) (some failed),
)

-- every event was done
pub HasActed-all : (start now : Kept) (told behind : Option Told) (events : List Event) (k : ℕ) → length events ≤ k → HasActed start now told behind events k
    → DoesFirst told behind (acts_from start events) (ending_acts now.ends) (Ok tt)
HasActed-all start now told behind events k le had = (
  had.done,
  ending_acts now.ends,
  had.whole ∙ ap (λ (acts : List FileAct). had.done ++ acts) (ap (acts_from now) (drop_all k events le) ∙ acts-none now),
  had.acted,
  refl,
  λ failed. absurd cc,
)

-- and then the ends of the recordings that go on
pub acted_all : (told mid now : Option Told) (acts last : List FileAct) (result : Result (Unit {0}) Failed) → DoesFirst told mid acts last (Ok tt) → ActsOn mid now last result
    → ActsOn told now acts result
acted_all told mid now acts last result does ends =
    subst (λ (all : List FileAct). ActsOn told now all result) (sym (does.2 ∙ ap (λ (rest : List FileAct). does.0 ++ rest) does.4))
    (both_on told mid now does.0 last result does.3 ends)
