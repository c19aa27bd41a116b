-- Whether a line handed other bytes to an end: once one did, that stays so.
use Rattle.std.proofs.Common.{Bool, List, None, Option, Some, false, refl, true, ◌-◌, ◌∙◌, ◌≡◌, ℕ}
use Rattle.std.specs.Prelude.{slice_get}
use Rattle.q3_profile.specs.declared.profile.Profile.{Profile}
use Rattle.q3_server.specs.Server.{slot_at}
use Rattle.q3_report.specs.Answers.{Answered}
use Rattle.q3_slot.specs.Slot.{SlotState}
use Rattle.q3_io.specs.declared.address.Address.{Address}
use Rattle.q3_world.specs.declared.made.Direction.{Direction}
use Rattle.q3_world.specs.declared.made.Direction.TheVariants.{ToClient, ToServer}
use Rattle.q3_world.specs.declared.places.Place.{Place}
use Rattle.q3_world.specs.Ends.{EndsStep, place_at, Line, Sends, Delivers, HandsBytes}
use Rattle.q3_world.specs.World.{Tag, Whole, History, arrive, deliver_as, send, to_client, to_server, whole_line, with_handed}

pub sends_so : (whole : Whole) (c : ℕ) (found : Option Place) → (send whole c found).whole.foreign ≡ whole.foreign
sends_so whole c None = refl
sends_so whole c (Some place) = refl

to_client_so : (profile : Profile) (whole : Whole) (number : ℕ) (tag : Tag) (found : Option Place) → (to_client profile whole number tag found).whole.foreign ≡ whole.foreign
to_client_so profile whole number tag None = refl
to_client_so profile whole number tag (Some place) = refl

to_server_so : (profile : Profile) (whole : Whole) (number : ℕ) (tag : Tag) (from : Address) (found : Option SlotState) → (to_server profile whole number tag from found).whole.foreign ≡ whole.foreign
to_server_so profile whole number tag from None = refl
to_server_so profile whole number tag from (Some slot) = refl

arrives_so : (profile : Profile) (whole : Whole) (number : ℕ) (tag : Tag) (direction : Direction) → (arrive profile whole number tag direction).whole.foreign ≡ whole.foreign
arrives_so profile whole number tag ToClient = to_client_so profile whole number tag (place_at whole.ends tag.client)
arrives_so profile whole number tag (ToServer from) = to_server_so profile whole number tag from (slot_at whole.ends.server tag.client)

pub delivers_so : (foreign : Bool) (profile : Profile) (whole : Whole) (number : ℕ) (found : Option Tag) → (deliver_as foreign profile whole number found).whole.foreign ≡ whole.foreign
delivers_so false profile whole number None = refl
delivers_so false profile whole number (Some tag) = arrives_so profile whole number tag tag.direction
delivers_so true profile whole number found = refl

handed_so : (whole : Whole) (found : Option Place) (step : EndsStep) → whole.foreign ≡ true → (with_handed whole found step).whole.foreign ≡ true
handed_so whole None step foreign = foreign
handed_so whole (Some place) step foreign = refl

-- no line changes it back
pub stays_foreign : (profile : Profile) (whole : Whole) (note : Answered → List History) (line : Line) → whole.foreign ≡ true → (whole_line profile whole note line).whole.foreign ≡ true
stays_foreign profile whole note (Sends c) foreign = sends_so whole c (place_at whole.ends c) ∙ foreign
stays_foreign profile whole note (Delivers number) foreign = delivers_so whole.foreign profile whole number (slice_get whole.sent (number - 1)) ∙ foreign
stays_foreign profile whole note (HandsBytes c step) foreign = handed_so whole (place_at whole.ends c) step foreign
stays_foreign profile whole note line foreign = foreign
