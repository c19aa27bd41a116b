-- A step by bytes is a step by tags.
use Rattle.std.proofs.Common.{None, Option, Some, ◌≡◌, ℕ, List, false, true, refl, sym, ap, subst, ◌∙◌, arith, inl, inr}
use Rattle.std.specs.Prelude.{map}
use Rattle.std.proofs.lemmas.Bool.{both_ways, cases_Bool}
use Rattle.q3_report.specs.Answers.{Answered}
use Rattle.q3_ends.specs.AtServer as at_server
use Rattle.q3_ends.specs.AtServer.{server_line}
use Rattle.q3_world.specs.ByTags.{IsOwn}
use Rattle.q3_world.proofs.Foreign.{bytes_seen, handed_seen, line_seen}
use Rattle.q3_world.proofs.Ported.{holds_port}
use Rattle.q3_world.proofs.Recorded.{holds_own}
use Rattle.q3_world.proofs.StaysForeign.{stays_foreign}
use Rattle.q3_profile.specs.declared.profile.Profile.{Profile}
use Rattle.q3_script.specs.declared.event.Event.{Event}
use Rattle.q3_script.specs.declared.event.Event.TheVariants as events
use Rattle.q3_script.specs.Grammar.{IsReplayEvent}
use Rattle.q3_server.specs.Server.{emit_at}
use Rattle.q3_world.specs.declared.places.Place.{Place}
use Rattle.q3_world.specs.Ends.{Ends, EndsStep, place_at, hand_client, hand_server, join, set_port, to_server, client_step, line_of}
use Rattle.q3_world.specs.Kept.{SentBytes, Kept, KeptStep, kept_ends, kept_step}
use Rattle.q3_world.specs.World.{Whole, History, history_at, with_history, with_joined, with_spoken, with_typed, with_issued, noted, with_noted, step, whole_line, with_handed, bytes_of}
use Rattle.q3_world.specs.StandsFor.{StandsFor}
use Rattle.q3_world.proofs.Holding.{Holds}
use Rattle.q3_world.proofs.StepsByTags.{Cited, kept_of, seen, Agree}
use Rattle.q3_world.proofs.HandedIn.{handed, noting, holds_join, holds_new_map, holds_baseline, holds_config, holds_time, holds_entity, holds_removed, holds_player, holds_area, holds_say, holds_type, holds_move}
use Rattle.q3_world.proofs.Making.{served, sends_agree}
use Rattle.q3_world.proofs.Arriving.{delivers_agree}

-- ---- every event

-- what is handed in, and is noted of a client
noted_so : (profile : Profile) (whole : Whole) (c : ℕ) (step : EndsStep) (note : Answered → History) → Holds profile (noting whole c step note)
    → Agree profile (kept_ends (kept_of profile whole) step) (with_noted whole (with_history whole.histories c (note step.answer)) step)
noted_so profile whole c step note holds = record { same = refl; holds = holds }

pub steps_agree : (profile : Profile) (whole : Whole) (event : Event) → Cited profile
    → IsReplayEvent event → IsOwn event → Holds profile whole → Agree profile (kept_step (kept_of profile whole) event) (step profile whole event)
unfolding kept_step step line_of server_line emit_at
steps_agree profile whole (events.Client c challenge qport dup address) cited is own holds =
    noted_so profile whole c (join profile whole.ends c challenge qport dup address) (with_joined (history_at whole.histories c) challenge qport address)
    (holds_join profile whole c challenge qport dup address cited (omega (arith, is.0)) is.2 holds)
steps_agree profile whole (events.Port c port) cited is own holds =
    handed profile whole (set_port whole.ends c port) (holds_port profile whole c port (omega (arith, is.0)) holds)
steps_agree profile whole (events.Map id feed) cited is own holds =
    handed profile whole (to_server whole.ends (at_server.new_map whole.ends.server id feed)) (holds_new_map profile whole id feed cited is.1 is.2 holds)
steps_agree profile whole (events.Baseline state) cited is own holds =
    handed profile whole (to_server whole.ends (at_server.baseline_line whole.ends.server state)) (holds_baseline profile whole state cited is.2 holds)
steps_agree profile whole (events.Config index text) cited is own holds = record { same = refl; holds = holds_config profile whole index text cited is.2 holds }
steps_agree profile whole (events.Entity state) cited is own holds =
    handed profile whole (to_server whole.ends (at_server.entity_line whole.ends.server state)) (holds_entity profile whole state cited is.1 holds)
steps_agree profile whole (events.Remove number) cited is own holds =
    handed profile whole (to_server whole.ends (at_server.remove_line whole.ends.server number)) (holds_removed profile whole number cited holds)
steps_agree profile whole (events.Area c area) cited is own holds =
    handed profile whole (to_server whole.ends (at_server.set_area whole.ends.server c area))
    (holds_area profile whole c area (record { bytes = is.2; short = is.1 }) (omega (arith, is.0)) holds)
steps_agree profile whole (events.Player c player) cited is own holds =
    handed profile whole (to_server whole.ends (at_server.set_player whole.ends.server c player))
    (holds_player profile whole c player (cited.normal player is.1) (omega (arith, is.0)) holds)
steps_agree profile whole (events.Time time) cited is own holds =
    handed profile whole (to_server whole.ends (at_server.set_time whole.ends.server time)) (holds_time profile whole time cited is holds)
steps_agree profile whole (events.Say c text) cited is own holds =
    noted_so profile whole c (to_server whole.ends (at_server.say_command whole.ends.server c text)) (with_spoken (history_at whole.histories c) text)
    (holds_say profile whole c text cited is.1 (omega (arith, is.0)) holds)
steps_agree profile whole (events.TypeText c text) cited is own holds =
    noted_so profile whole c (client_step whole.ends c (events.TypeText c text)) (with_typed (history_at whole.histories c) text) (holds_type profile whole c text cited is.1 (omega (arith, is.0)) holds)
steps_agree profile whole (events.Move c one) cited is own holds =
    noted_so profile whole c (client_step whole.ends c (events.Move c one)) (with_issued (history_at whole.histories c) one) (holds_move profile whole c one is.1 (omega (arith, is.0)) holds)
steps_agree profile whole (events.Serve c) cited is own holds = served profile whole c cited (omega (arith, is)) holds
steps_agree profile whole (events.Send c) cited is own holds = sends_agree profile whole c cited (omega (arith, is)) holds
steps_agree profile whole (events.Deliver number) cited is own holds = delivers_agree profile whole number cited holds
steps_agree profile whole (events.RecordTo c name) cited is own holds =
    handed profile whole (client_step whole.ends c (events.RecordTo c name)) (holds_own profile whole c (events.RecordTo c name) (λ place. refl) (omega (arith, is.0)) holds)
steps_agree profile whole (events.Stop c) cited is own holds =
    handed profile whole (client_step whole.ends c (events.Stop c)) (holds_own profile whole c (events.Stop c) (λ place. refl) (omega (arith, is)) holds)
steps_agree profile whole (events.Show c) cited is own holds =
    handed profile whole (client_step whole.ends c (events.Show c)) (holds_own profile whole c (events.Show c) (λ place. refl) (omega (arith, is)) holds)
steps_agree profile whole (events.Bytes number) cited is own holds = record { same = rw (bytes_seen whole.sent number) refl; holds = holds }
steps_agree profile whole (events.Toclient c bytes) cited is own holds = absurd own
steps_agree profile whole (events.Toserver c bytes) cited is own holds = absurd own
steps_agree profile whole (events.At ms) cited is own holds = absurd is
steps_agree profile whole (events.End ms) cited is own holds = absurd is

-- ---- what stands for a whole

-- it is what is kept of the whole
pub kept_so : (profile : Profile) (kept : Kept) (whole : Whole) → kept.profile ≡ profile → kept.ends ≡ whole.ends → kept.datagrams ≡ map bytes_of whole.sent → kept ≡ kept_of profile whole
kept_so profile kept whole by ends datagrams =
    ap (λ (p : Profile). record { profile = p; ends = kept.ends; datagrams = kept.datagrams }) by
    ∙ (ap (λ (e : Ends). record { profile = profile; ends = e; datagrams = kept.datagrams }) ends
    ∙ ap (λ (d : List SentBytes). record { profile = profile; ends = whole.ends; datagrams = d }) datagrams)

pub stands_of : (profile : Profile) (whole : Whole) → (whole.foreign ≡ false → Holds profile whole) → StandsFor profile (kept_of profile whole) whole
stands_of profile whole holds = record { by = refl; ends = refl; datagrams = refl; facts = λ own. (holds own).facts; joined = λ own. (holds own).joined }

-- a step by bytes is one of the whole world, and what holds as long as no line handed other bytes to an end holds after it
record Steps (profile : Profile) (whole : Whole) (event : Event) : Type 0 where
  same : kept_step (kept_of profile whole) event ≡ seen profile (step profile whole event)
  holds : (step profile whole event).whole.foreign ≡ false → Holds profile (step profile whole event).whole

-- bytes are handed to an end
handed_steps : (profile : Profile) (whole : Whole) (found : Option Place) (step : EndsStep) → Holds profile whole → (found ≡ None → step.ends ≡ whole.ends)
    → (with_handed whole found step).whole.foreign ≡ false → Holds profile (with_handed whole found step).whole
handed_steps profile whole None step holds same own = subst (λ (e : Ends). Holds profile (record whole { ends = e })) (sym (same refl)) holds
handed_steps profile whole (Some place) step holds same own = absurd cc

steps_of : (profile : Profile) (whole : Whole) (event : Event) → Agree profile (kept_step (kept_of profile whole) event) (step profile whole event) → Steps profile whole event
steps_of profile whole event agree = record { same = agree.same; holds = λ own. agree.holds }

own_steps : (profile : Profile) (whole : Whole) (event : Event) → Cited profile → IsReplayEvent event → Holds profile whole → Steps profile whole event
unfolding kept_step step line_of
own_steps profile whole (events.Toclient c bytes) cited is holds = record {
  same = handed_seen profile whole (place_at whole.ends c) (hand_client whole.ends c bytes);
  holds = handed_steps profile whole (place_at whole.ends c) (hand_client whole.ends c bytes) holds (λ none. rw none refl);
}
own_steps profile whole (events.Toserver c bytes) cited is holds = record {
  same = handed_seen profile whole (place_at whole.ends c) (hand_server whole.ends c bytes);
  holds = handed_steps profile whole (place_at whole.ends c) (hand_server whole.ends c bytes) holds (λ none. rw none refl);
}
own_steps profile whole event cited is holds = steps_of profile whole event (steps_agree profile whole event cited is tt holds)

foreign_steps : (profile : Profile) (whole : Whole) (event : Event) → whole.foreign ≡ true → Steps profile whole event
unfolding kept_step step
foreign_steps profile whole event foreign =
    let note : Answered → List History = λ answer. noted whole.ends.server whole.histories event answer in
    let line = line_of profile whole.ends event in
    record {
      same = line_seen profile whole note line foreign;
      holds = λ own. absurd (both_ways (whole_line profile whole note line).whole.foreign own (stays_foreign profile whole note line foreign));
    }

-- a step by bytes of what stands for a whole
pub stands_next : (profile : Profile) (kept : Kept) (whole : Whole) (event : Event) → (whole.foreign ≡ false → Cited profile) → IsReplayEvent event → StandsFor profile kept whole
    → StandsFor profile (kept_step kept event).kept (step profile whole event).whole × ((kept_step kept event).answer ≡ (step profile whole event).answer)
stands_next profile kept whole event cited is stands =
    let steps : Steps profile whole event = elim (cases_Bool whole.foreign) [
      | inl foreign ↦ foreign_steps profile whole event foreign
      | inr own ↦ own_steps profile whole event (cited own) is (record { facts = stands.facts own; joined = stands.joined own; own = own })
    ] in
    let e : kept_step kept event ≡ seen profile (step profile whole event) =
    ap (λ (k : Kept). kept_step k event) (kept_so profile kept whole stands.by stands.ends stands.datagrams) ∙ steps.same in (
      subst (λ (s : KeptStep). StandsFor profile s.kept (step profile whole event).whole) (sym e) (stands_of profile (step profile whole event).whole steps.holds),
      ap (λ (s : KeptStep). s.answer) e,
    )
