-- What is counted of a schedule that is stepped over part by part.
use Rattle.std.specs.Prelude.{◌≡◌, List}
use Rattle.q3_profile.specs.declared.profile.Profile.{Profile}
use Rattle.q3_script.specs.declared.event.Event.{Event}
use Rattle.q3_counts.specs.declared.counts.Counts.{Counts}
use Rattle.q3_world.specs.Counting.{Counting}
use Rattle.q3_counts.specs.Counts.{counted_all}
use Rattle.q3_world.specs.World.{Whole, answers}
use Rattle.q3_world.specs.StandsFor.{StandsFor}

-- the answers of the events that are left, counted on from those so far, come to a total
pub record CountsTo (profile : Profile) (now : Counting) (left : List Event) (total : Counts) : Type 0 where
  pub whole : Whole
  pub stands : StandsFor profile now.kept whole
  pub sum : counted_all now.counts (answers profile whole left) ≡ total
