-- Stepping over the parts of a schedule, where what is counted of all that is left comes to one total.
use Rattle.std.proofs.Common.{◌≡◌, ℕ, List, [], ◌∷◌, ◌++◌, sym, ap, subst, ◌∙◌}
use Rattle.std.proofs.lemmas.List.{append-nil}
use Rattle.q3_profile.specs.declared.profile.Profile.{Profile}
use Rattle.q3_script.specs.declared.event.Event.{Event}
use Rattle.q3_make.specs.Generated.{opening, DrawnState, rest_of, generated}
use Rattle.q3_counts.specs.declared.counts.Counts.{Counts}
use Rattle.q3_world.specs.Counting.{Counting}
use Rattle.q3_counts.specs.Counts.{counted, counted_all}
use Rattle.q3_world.specs.World.{Whole, step, answers}
use Rattle.q3_world.specs.StandsFor.{StandsFor}
use Rattle.q3net.specs.Trying.{CountsTo}
use Rattle.q3net.proofs.Stepping.{answers-next, answers-none}

-- an event is counted, and those after it are left
pub totals_next : (profile : Profile) (total : Counts) (now after : Counting) (event : Event) (behind : List Event)
    → ((whole : Whole) → StandsFor profile now.kept whole → StandsFor profile after.kept (step profile whole event).whole)
    → ((whole : Whole) → StandsFor profile now.kept whole → after.counts ≡ counted now.counts (step profile whole event).answer)
    → CountsTo profile now (event ∷ behind) total → CountsTo profile after behind total
unfolding counted_all
totals_next profile total now after event behind stands counts to =
    let done = step profile to.whole event in
    record {
      whole = done.whole;
      stands = stands to.whole to.stands;
      sum = ap (λ (c : Counts). counted_all c (answers profile done.whole behind)) (counts to.whole to.stands)
          ∙ (ap (counted_all now.counts) (sym (answers-next profile to.whole event behind)) ∙ to.sum);
    }

-- nothing is left
pub totals_done : (profile : Profile) (total : Counts) (now : Counting) → CountsTo profile now [] total → now.counts ≡ total
unfolding counted_all
totals_done profile total now to = ap (counted_all now.counts) (sym (answers-none profile to.whole)) ∙ to.sum

-- the opening lines, the drawn ones and the closing ones
pub totals_script : (profile : Profile) (total : Counts) (start opened tried closed : Counting) (number seed : ℕ) (first last : List Event) (begun left : DrawnState)
    → first ≡ opening → opening ++ rest_of number begun ≡ generated number seed → rest_of 0 left ≡ last
    → (CountsTo profile start (first ++ rest_of number begun) total → CountsTo profile opened (rest_of number begun) total)
    → (CountsTo profile opened (rest_of number begun) total → CountsTo profile tried (rest_of 0 left) total)
    → (CountsTo profile tried (last ++ []) total → CountsTo profile closed [] total)
    → CountsTo profile start (generated number seed) total → closed.counts ≡ total
totals_script profile total start opened tried closed number seed first last begun left opens whole ends over_first over_drawn over_last to =
    let goes = over_first (subst (λ (events : List Event). CountsTo profile start events total) (sym whole ∙ ap (λ (events : List Event). events ++ rest_of number begun) (sym opens)) to) in
    let left_last = over_last (subst (λ (events : List Event). CountsTo profile tried events total) (ends ∙ sym (append-nil last)) (over_drawn goes)) in
    totals_done profile total closed left_last
