-- What is taken by its bytes follows what is taken by its tag.
use Rattle.std.specs.Prelude.{◌≡◌, List}
use Rattle.std.specs.List.{AllByRecursion}
use Rattle.q3_profile.specs.declared.profile.Profile.{Profile}
use Rattle.q3_script.specs.declared.event.Event.{Event}
use Rattle.q3_script.specs.declared.event.Event.TheVariants as events
use Rattle.q3_script.specs.Grammar.{IsReplayEvent}
use Rattle.q3_world.specs.Kept.{Kept, opening_kept, kept_step, kept_after, kept_answers}
use Rattle.q3_world.specs.World.{Whole, opening, step, after, answers}
use Rattle.q3_world.specs.StandsFor.{IsChecked, StandsFor}

-- a step by bytes of what stands for a whole world gives what stands for its step, and answers the same; the whole world's step is by
-- tags, until a line hands other bytes to an end
abbrev pub StepFollows : Type 0
StepFollows = (profile : Profile) (kept : Kept) (whole : Whole) (event : Event) → IsReplayEvent event → StandsFor profile kept whole
    → StandsFor profile (kept_step kept event).kept (step profile whole event).whole
    × ((kept_step kept event).answer ≡ (step profile whole event).answer)

-- what is kept after a replay of these events, and the whole world after it
abbrev pub kept_then : Profile → List Event → Kept
kept_then profile all = kept_after (opening_kept profile) all

abbrev pub whole_then : Profile → List Event → Whole
whole_then profile all = after profile (opening profile) all

-- in a replay what is kept after the events, where each datagram is taken by its bytes, stands for the whole world after
-- them, where each is taken by its tag until a line hands other bytes to an end; and each event answers the same
abbrev pub BytesFollowTags : Type 0
BytesFollowTags = (profile : Profile) (all : List Event) → IsChecked profile → AllByRecursion IsReplayEvent all
    → StandsFor profile (kept_then profile all) (whole_then profile all)
    × (kept_answers (opening_kept profile) all ≡ answers profile (opening profile) all)

-- an event that hands to an end no bytes but those of datagrams that an end made
abbrev pub IsOwn : Event → Type 0
IsOwn (events.Toclient c bytes) = ⊥
IsOwn (events.Toserver c bytes) = ⊥
IsOwn other = Unit {0}
