-- Which deliveries are unknown.
use Rattle.std.proofs.Common.{◌≡◌, ℕ, ◌-◌, Bool, List, Option, Some, None, refl, sym, ap, ◌∙◌, subst}
use Rattle.std.specs.Prelude.{slice_get}
use Rattle.std.specs.Option.{option_map}
use Rattle.std.proofs.lemmas.Option.{slice_get-map}
use Rattle.q3_profile.specs.declared.profile.Profile.{Profile}
use Rattle.q3_script.specs.declared.event.Event.TheVariants as events
use Rattle.q3_text.specs.declared.text.Command.{Command}
use Rattle.q3_slot.specs.declared.taking.ServerTook.{ServerTook}
use Rattle.q3_client.specs.declared.client.ClientTook.{ClientTook}
use Rattle.q3_report.specs.declared.answer.Front.TheVariants as fronts
use Rattle.q3_report.specs.declared.answer.TakeRefused.{TakeRefused}
use Rattle.q3_report.specs.declared.answer.TakeRefused.TheVariants as refused
use Rattle.q3_report.specs.Answers.{Answered, ByClient, ByServer, Took, Untaken}
use Rattle.q3_world.specs.declared.made.Direction.{Direction}
use Rattle.q3_world.specs.declared.made.Direction.TheVariants.{ToClient, ToServer}
use Rattle.q3_world.specs.Kept.{SentBytes, KeptStep, kept_step}
use Rattle.q3_world.specs.World.{Step, Tag, Whole, arrive, deliver, step, bytes_of}
use Rattle.q3_world.specs.StandsFor.{IsSent}
use Rattle.q3_world.specs.Layers.{Layers}
use Rattle.q3_world.specs.ByTags.{kept_then, whole_then, BytesFollowTags}
use Rattle.q3_schedules.specs.Schedules.{UnknownWasNotMade}
use Rattle.q3_world.proofs.Holding.{Holds}
use Rattle.q3_world.proofs.Arriving.{is_sent, is_for, is_of_client, client_of_tag, slot_of_tag}
use Rattle.q3_world.proofs.ByTags.{cited_of}
use Rattle.q3_clstate.specs.State.{AppliedState}
use Rattle.q3_slot.specs.declared.taking.Heard.{Heard}
use Rattle.q3_schedules.proofs.Stood.{Stood, delivers_same, holds_of, step_own, stood}

not_delivered : (number c : ℕ) (state : AppliedState) (took : ClientTook) (commands : List Command) (ended : Bool) (cause : TakeRefused)
    → Took (fronts.Deliver number) (ByClient c took state commands ended) ≡ Untaken (fronts.Deliver number) cause → ⊥
not_delivered number c state took commands ended cause e = absurd cc

not_ran : (number : ℕ) (took : ServerTook) (ran : Heard) (cause : TakeRefused) → Took (fronts.Deliver number) (ByServer took ran) ≡ Untaken (fronts.Deliver number) cause → ⊥
not_ran number took ran cause e = absurd cc

-- a datagram that was made is known
known : (profile : Profile) (whole : Whole) (number : ℕ) (tag : Tag) (direction : Direction) → tag.direction ≡ direction → IsSent profile whole.histories tag → Holds profile whole
    → (cause : TakeRefused) → (arrive profile whole number tag direction).answer ≡ Untaken (fronts.Deliver number) cause → ⊥
known profile whole number tag ToClient way is holds cause =
    let found = client_of_tag profile whole tag (is_for profile whole tag way is) holds in
    rw found.1 (λ e. not_delivered number tag.client _ _ _ _ cause e)
known profile whole number tag (ToServer from) way is holds cause =
    let found = slot_of_tag profile whole tag from (is_of_client profile whole tag from way is) holds in
    rw found.1 (λ e. not_ran number _ _ cause e)

-- what a delivery answers of a datagram that was made or wasn't
pub record Knows (number : ℕ) (answer : Answered) (found : Option SentBytes) : Type 0 where
  pub unknown : found ≡ None → answer ≡ Untaken (fronts.Deliver number) refused.Unknown
  pub alone : (cause : TakeRefused) → answer ≡ Untaken (fronts.Deliver number) cause → found ≡ None

-- by tags
unknown_tag : (profile : Profile) (whole : Whole) (number : ℕ) (found : Option Tag) → slice_get whole.sent (number - 1) ≡ found → Holds profile whole
    → Knows number (deliver profile whole number found).answer (option_map bytes_of found)
unknown_tag profile whole number None at holds = record { unknown = λ e. refl; alone = λ cause e. refl }
unknown_tag profile whole number (Some tag) at holds = record {
  unknown = λ e. absurd cc;
  alone = λ cause e. absurd (known profile whole number tag tag.direction refl (is_sent profile whole (number - 1) tag at holds) holds cause e);
}

unknown_step : (profile : Profile) (whole : Whole) (number : ℕ) → Holds profile whole
    → Knows number (step profile whole (events.Deliver number)).answer (option_map bytes_of (slice_get whole.sent (number - 1)))
unknown_step profile whole number holds =
    subst (λ (s : Step). Knows number s.answer (option_map bytes_of (slice_get whole.sent (number - 1)))) (sym (step_own profile whole number holds.own))
    (unknown_tag profile whole number (slice_get whole.sent (number - 1)) refl holds)

-- and by bytes
pub unknown_was_not_made : BytesFollowTags → Layers → UnknownWasNotMade
unknown_was_not_made law below profile all number is are =
    let stands : Stood profile (kept_then profile all) (whole_then profile all) = stood law profile all is are in
    let kept = kept_then profile all in
    let whole = whole_then profile all in
    let by_tags = unknown_step profile whole number (holds_of profile kept whole stands) in
    let answers : (kept_step kept (events.Deliver number)).answer ≡ (step profile whole (events.Deliver number)).answer =
    ap (λ (s : KeptStep). s.answer) (delivers_same profile kept whole number (cited_of below profile is) stands) in
    let made : slice_get kept.datagrams (number - 1) ≡ option_map bytes_of (slice_get whole.sent (number - 1)) =
    ap (λ (d : List SentBytes). slice_get d (number - 1)) stands.datagrams ∙ slice_get-map bytes_of whole.sent (number - 1) in
    (λ none. answers ∙ by_tags.unknown (sym made ∙ none), λ cause e. made ∙ by_tags.alone cause (sym answers ∙ e))
