-- What is taken by its bytes follows what is taken by its tag, over every list of events.
use Rattle.std.proofs.Common.{◌≡◌, List, [], ◌∷◌, refl, ap, ◌∙◌}
use Rattle.std.specs.Prelude.{◌&&◌, nat_le}
use Rattle.std.specs.Int.{is_power_of_two}
use Rattle.std.specs.List.{AllByRecursion}
use Rattle.std.proofs.lemmas.Bool.{and_parts, leb-true}
use Rattle.q3_profile.specs.declared.profile.Profile.{Profile}
use Rattle.q3_script.specs.declared.event.Event.{Event}
use Rattle.q3_script.specs.Grammar.{IsReplayEvent}
use Rattle.q3_world.specs.Layers.{Layers}
use Rattle.q3_report.specs.Answers.{Answered}
use Rattle.q3_world.specs.Kept.{Kept, opening_kept, kept_step, kept_after, kept_answers}
use Rattle.q3_world.specs.World.{Whole, opening, step, after, answers}
use Rattle.q3_world.specs.StandsFor.{IsChecked, StandsFor}
use Rattle.q3_world.specs.ByTags.{StepFollows, BytesFollowTags}
use Rattle.q3_world.proofs.Holding.{Holds-opening}
use Rattle.q3_world.proofs.StepsByTags.{Cited}
use Rattle.q3_world.proofs.EachStep.{stands_of, stands_next}

-- what is cited of the layers below, of a profile that passed its check
pub cited_of : Layers → (profile : Profile) → IsChecked profile → Cited profile
cited_of below profile checked =
    let is = checked.codec in
    let n = profile.parse_ring in
    let sized = and_parts (nat_le 512 n && nat_le n 65536) (is_power_of_two n) checked.rings.parse_ring in
    let least = and_parts (nat_le 512 n) (nat_le n 65536) sized.0 in
    let at_first = below.zero profile.player.kinds is.player.kinds in
    record {
      codec = is;
      ring = leb-true 512 n least.0;
      below = below;
      reads = below.reads profile is;
      hears = below.hears profile is;
      first = (below.stays.joins profile 0 0 0 is (leb-true 512 n least.0)).applied;
      zero = record { state = at_first.0; normal = at_first.1 };
      normal = λ player state. let made = below.normal profile.player.kinds player is.player.kinds state in record { state = made.0; normal = made.1 };
      normal_entity = λ state words. below.entity profile.entity state is.entity words;
    }

-- ---- bytes and tags

pub step_follows : Layers → StepFollows
step_follows below profile kept whole event is stands =
    stands_next profile kept whole event (λ own. cited_of below profile (stands.facts own).checked) is stands

-- from what stands for a whole on, events answer the same, and what is kept stands for the whole
follow : StepFollows → (profile : Profile) (all : List Event) (kept : Kept) (whole : Whole) → AllByRecursion IsReplayEvent all
    → StandsFor profile kept whole
    → StandsFor profile (kept_after kept all) (after profile whole all) × (kept_answers kept all ≡ answers profile whole all)
unfolding kept_after kept_answers after answers
follow law profile [] kept whole are stands = (stands, refl)
follow law profile (event ∷ events) kept whole are stands =
    let next = law profile kept whole event are.0 stands in
    let others = follow law profile events (kept_step kept event).kept (step profile whole event).whole are.1 next.0 in (
      others.0,
      ap (λ (a : Answered). a ∷ kept_answers (kept_step kept event).kept events) next.1
          ∙ ap (λ (rest : List Answered). (step profile whole event).answer ∷ rest) others.1,
    )

-- what is kept at first stands for the opening world
pub stands_opening : Layers → (profile : Profile) → IsChecked profile → StandsFor profile (opening_kept profile) (opening profile)
unfolding opening
stands_opening below profile checked = stands_of profile (opening profile) (λ own. Holds-opening profile below.maps below.server checked)

pub bytes_follow_tags : StepFollows → Layers → BytesFollowTags
bytes_follow_tags law below profile all is are = follow law profile all (opening_kept profile) (opening profile) are (stands_opening below profile is)
