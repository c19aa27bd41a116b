-- What the server runs of a client.
use Rattle.std.proofs.Common.{◌≡◌, ℕ, ◌-◌, ◌<◌, List, Option, Some, None, refl, sym, ap, subst, ◌∙◌, Ok, Bool, true, false}
use Rattle.std.specs.Prelude.{slice_get, if◌then◌else◌, ◌||◌}
use Rattle.std.proofs.lemmas.Option.{slice_get-map}
use Rattle.q3_profile.specs.declared.profile.Profile.{Profile}
use Rattle.q3_io.specs.declared.address.Address.{Address}
use Rattle.q3_script.specs.declared.event.Event.TheVariants as events
use Rattle.q3_chan.specs.declared.gatherer.Gathered.{Gathered}
use Rattle.q3_chan.specs.declared.gatherer.Gathered.TheVariants.{Whole as CameWhole}
use Rattle.q3_chan.specs.Gathering.{Took as GatheredSo, gathered as gathered_of}
use Rattle.q3_chan.specs.Tags.{tagged}
use Rattle.q3_window.specs.Incoming.{fresh_of, gap_in}
use Rattle.q3_slot.specs.declared.taking.ServerTook.TheVariants as answer
use Rattle.q3_report.specs.declared.answer.Front.TheVariants as fronts
use Rattle.q3_report.specs.Answers.{Answered, ByServer, Took}
use Rattle.q3_slot.specs.Slot.{SlotState}
use Rattle.q3_server.specs.Server.{ServerState, slot_at, with_slot}
use Rattle.q3_slot.specs.Taking as by_slot
use Rattle.q3_client.specs.Sending.{said_bytes}
use Rattle.q3_world.specs.declared.made.Direction.TheVariants as direction
use Rattle.q3_world.specs.declared.places.Place.{Place}
use Rattle.q3_world.specs.Ends.{Ends, line_of}
use Rattle.q3_world.specs.Kept.{SentBytes, KeptStep, kept_step}
use Rattle.q3_world.specs.World.{Tag, Whole, History, history_at, said_at, said_under, step, bytes_of}
use Rattle.q3_world.specs.Moves.{TimesRise, StandAmong}
use Rattle.q3_world.specs.Layers.{Layers}
use Rattle.q3_world.specs.ByTags.{kept_then, whole_then, BytesFollowTags}
use Rattle.q3_schedules.specs.Schedules.{NewerIsRun, MovesWereIssued, ServerTookSo, GoesOnPlaying, playing_of, run_of}
use Rattle.q3_world.proofs.MoveLists.{stand_among}
use Rattle.q3_world.proofs.Holding.{Holds, has_slot, Has}
use Rattle.q3_world.proofs.Arriving.{is_sent, is_of_client, said_tag_is, runs_whole, said_hears, IsOf}
use Rattle.q3_world.proofs.OnePlace.{set_there}
use Rattle.q3_world.proofs.StepsByTags.{seen, Cited}
use Rattle.q3_schedules.proofs.EverySchedule.{tag_of, came_whole}
use Rattle.q3_world.proofs.ByTags.{cited_of}
use Rattle.q3_map.specs.Map.{MapState, is_other}
use Rattle.q3_clmsg.specs.Values.{Message}
use Rattle.q3_slot.specs.Taking.{OfMap, OfOther, asks_game, came_as, goes_on, heads_of}
use Rattle.q3_slot.specs.declared.taking.Heard.{Heard}
use Rattle.q3_schedules.proofs.Stood.{Stood, delivers_same, holds_of, of_each, stood}

-- ---- moves

abbrev WereIssued : History → Type 0
WereIssued history = StandAmong history.run history.issued × TimesRise 0 history.run

pub moves_were_issued : BytesFollowTags → MovesWereIssued
moves_were_issued law profile all c is are within =
    let history = history_at (whole_then profile all).histories c in
    of_each profile (kept_then profile all) (whole_then profile all) c (λ slot found history. WereIssued history) within (stood law profile all is are) (tt, tt)
    (λ slot place had. (stand_among 0 0 history.issued history.run had.keeps.of_client.rise had.keeps.of_slot.rise had.joined.of_slot.ran, had.keeps.of_slot.rise))

-- ---- newer messages

-- what a slot does with a piece of a client's message, by its tag
abbrev pub slot_takes : Profile → Whole → Tag → Address → SlotState → by_slot.SlotTaken
slot_takes profile whole tag from slot =
    by_slot.take_gathered whole.ends.server.map (record slot { address = from }) tag.client (tagged slot.gathering tag.number (said_bytes profile (said_under whole.histories tag)) tag.index)
    (λ n. Ok (came_as whole.ends.server.map (said_under whole.histories tag).message))

-- where it brings its message whole: one of the map is run, and of one of another map nothing is
pub record SlotDoes (map : MapState) (slot : SlotState) (c n : ℕ) (message : Message) (taken : by_slot.SlotTaken) : Type 0 where
  pub of_map : is_other map message.id ≡ false → taken ≡ by_slot.run_with slot c n message (goes_on slot message message.moves)
  pub of_other : is_other map message.id ≡ true → taken ≡ by_slot.ignores map slot c (heads_of message)

pub slot_does : (map : MapState) (slot : SlotState) (c n count : ℕ) (message : Message) (answer : Gathered) → answer ≡ CameWhole n count → gap_in slot.executed.executed message.commands ≡ None
    → SlotDoes map slot c n message (by_slot.take_answer map slot c answer (λ k. Ok (came_as map message)))
slot_does map slot c n count message answer came gap =
    let take : Gathered → by_slot.SlotTaken = λ a. by_slot.take_answer map slot c a (λ k. Ok (came_as map message)) in
    let read : (b : Bool) → is_other map message.id ≡ b → take answer ≡ by_slot.run_read map slot c n (Ok (if b then OfOther (heads_of message) else OfMap message)) =
    λ b is. ap take came ∙ ap (λ (b : Bool). by_slot.run_read map slot c n (Ok (if b then OfOther (heads_of message) else OfMap message))) is in
    record {
      of_map = λ same. read false same ∙ runs_whole slot c n message gap;
      of_other = λ other. read true other;
    }

-- what is run, and answered
abbrev ran_so : ℕ → by_slot.SlotTaken → Answered
ran_so number taken = Took (fronts.Deliver number) (ByServer taken.answer taken.heard)

abbrev ran_message : ℕ → ℕ → ℕ → Heard → Answered
ran_message number c n run = Took (fronts.Deliver number) (ByServer (answer.Ran c n) run)

-- what a delivery to the server answers, by its tag
answers_said : (profile : Profile) (whole : Whole) (number : ℕ) (tag : Tag) (from : Address) (slot : SlotState) → whole.foreign ≡ false → slice_get whole.sent (number - 1) ≡ Some tag
    → tag.direction ≡ direction.ToServer from → slot_at whole.ends.server tag.client ≡ Some slot
    → (step profile whole (events.Deliver number)).answer ≡ ran_so number (slot_takes profile whole tag from slot)
unfolding step line_of
answers_said profile whole number tag from slot own at way found = rw (own, at, way, found) refl

-- and the server after it
server_said : (profile : Profile) (whole : Whole) (number : ℕ) (tag : Tag) (from : Address) (slot : SlotState) → whole.foreign ≡ false → slice_get whole.sent (number - 1) ≡ Some tag
    → tag.direction ≡ direction.ToServer from → slot_at whole.ends.server tag.client ≡ Some slot
    → (step profile whole (events.Deliver number)).whole.ends.server ≡ with_slot whole.ends.server tag.client (slot_takes profile whole tag from slot).slot
unfolding step line_of
server_said profile whole number tag from slot own at way found = rw (own, at, way, found) refl

-- what becomes of a message that came whole, by the map and by what is noted of its client
abbrev RunsSo : MapState → Answered → Option SlotState → ℕ → ℕ → ℕ → SlotState → History → Type 0
RunsSo map given after number c n slot history =
    (is_other map (said_at history.said n).message.id ≡ false
    → ServerTookSo given number (answer.Ran c n)
    (record {
      commands = run_of history n;
      moves = record { items = (playing_of slot history n).moves };
      entered = (playing_of slot history n).entered;
      owed = slot.owed;
    })
    × GoesOnPlaying after (playing_of slot history n))
    × (is_other map (said_at history.said n).message.id ≡ true
    → ServerTookSo given number (answer.Ignored c (said_at history.said n).message.id)
    (by_slot.nothing_heard (slot.owed || asks_game map slot (heads_of (said_at history.said n).message))))

-- by its tag
runs_by_tag : (profile : Profile) (whole : Whole) (number : ℕ) (tag : Tag) (from : Address) (slot : SlotState) (place : Place) (count : ℕ) → Cited profile
    → slice_get whole.sent (number - 1) ≡ Some tag → tag.direction ≡ direction.ToServer from → IsOf profile whole tag from → Has profile whole tag.client slot place
    → slot.gathering.taken < tag.number
    → (tagged slot.gathering tag.number (said_bytes profile (said_under whole.histories tag)) tag.index).answer ≡ CameWhole tag.number count → Holds profile whole
    → RunsSo whole.ends.server.map (step profile whole (events.Deliver number)).answer (slot_at (step profile whole (events.Deliver number)).whole.ends.server tag.client) number tag.client
    tag.number slot (history_at whole.histories tag.client)
runs_by_tag profile whole number tag from slot place count cited at way sent_is had newer came holds =
    let c = tag.client in
    let n = tag.number in
    let map = whole.ends.server.map in
    let history = history_at whole.histories c in
    let said = said_under whole.histories tag in
    let message = said.message in
    let took = tagged slot.gathering n (said_bytes profile said) tag.index in
    let now = record slot { address = from; gathering = took.gathering } in
    let heard = slot_takes profile whole tag from slot in
    let gap = (said_hears profile whole tag from slot place cited sent_is had newer).gap in
    let doing : SlotDoes map now c n message heard = slot_does map now c n count message took.answer came gap in
    let counted = had.joined.commanded.to_server.runs.executed in
    let given = answers_said profile whole number tag from slot holds.own at way had.slot_is in
    let behind : slot_at (step profile whole (events.Deliver number)).whole.ends.server c ≡ Some heard.slot =
    ap (λ (server : ServerState). slot_at server c) (server_said profile whole number tag from slot holds.own at way had.slot_is)
    ∙ set_there whole.ends.server.slots c None (Some heard.slot) holds.facts.slots sent_is.0 in
    let playing = goes_on slot message message.moves in (
      λ same.
          let runs : heard ≡ by_slot.run_with now c n message playing = doing.of_map same in (
            given ∙ (ap (λ (t : by_slot.SlotTaken). ran_so number t) runs
                ∙ ap (λ (k : ℕ). ran_message number c n (record { commands = fresh_of k message.commands; entered = playing.entered; moves = record { items = playing.moves }; owed = slot.owed })) counted),
            subst (λ (o : Option SlotState). GoesOnPlaying o playing) (sym behind) (
              ap (λ (t : by_slot.SlotTaken). t.slot.stage) runs,
              ap (λ (t : by_slot.SlotTaken). t.slot.delta) runs,
              ap (λ (t : by_slot.SlotTaken). t.slot.last_run) runs,
            ),
          ),
      λ other. given ∙ ap (λ (t : by_slot.SlotTaken). ran_so number t) (doing.of_other other),
    )

pub newer_is_run : BytesFollowTags → Layers → NewerIsRun
newer_is_run law below profile all number n count sent from slot is are at way found came =
    let stands : Stood profile (kept_then profile all) (whole_then profile all) = stood law profile all is are in
    let kept = kept_then profile all in
    let whole = whole_then profile all in
    let cited = cited_of below profile is in
    let holds = holds_of profile kept whole stands in
    let tag = tag_of (slice_get whole.sent (number - 1)) sent
    (sym (slice_get-map bytes_of whole.sent (number - 1)) ∙ (ap (λ (d : List SentBytes). slice_get d (number - 1)) (sym stands.datagrams) ∙ at)) in
    let goes : tag.0.direction ≡ direction.ToServer from = ap (λ (s : SentBytes). s.direction) tag.2 ∙ way in
    let sent_is = is_of_client profile whole tag.0 from goes (is_sent profile whole (number - 1) tag.0 tag.1 holds) in
    let slot_is : slot_at whole.ends.server tag.0.client ≡ Some slot =
    ap (λ (e : Ends). slot_at e.server tag.0.client) (sym stands.ends) ∙ (ap (λ (s : SentBytes). slot_at kept.ends.server s.client) tag.2 ∙ found) in
    let took = tagged slot.gathering tag.0.number (said_bytes profile (said_under whole.histories tag.0)) tag.0.index in
    let whole_is : took.answer ≡ CameWhole n count =
    ap (λ (t : GatheredSo). t.answer) (sym (said_tag_is profile whole tag.0 from slot cited sent_is slot_is holds))
    ∙ (ap (λ (s : SentBytes). (gathered_of slot.gathering s.bytes).answer) tag.2 ∙ came) in
    let brings = came_whole below.does slot.gathering tag.0.number (said_bytes profile (said_under whole.histories tag.0)) tag.0.index n count whole_is in
    let number_is = brings.0 in
    let had = has_slot profile whole tag.0.client slot sent_is.0 slot_is holds in
    let by_bytes = delivers_same profile kept whole number cited stands in
    let by_tag = runs_by_tag profile whole number tag.0 from slot had.0 count cited tag.1 goes sent_is had.1 brings.1 (whole_is ∙ ap (λ (k : ℕ). CameWhole k count) number_is) holds in
    let so : Ends → KeptStep → ℕ → ℕ → Type 0 = λ ends s c k.
    RunsSo ends.server.map s.answer (slot_at s.kept.ends.server c) number c k slot (history_at whole.histories c) in
    subst (λ (ends : Ends). so ends (kept_step kept (events.Deliver number)) sent.client n) (sym stands.ends)
    (subst (λ (s : KeptStep). so whole.ends s sent.client n) (sym by_bytes)
    (subst (λ (s : SentBytes). so whole.ends (seen profile (step profile whole (events.Deliver number))) s.client n) tag.2
    (subst (λ (k : ℕ). so whole.ends (seen profile (step profile whole (events.Deliver number))) tag.0.client k) (sym number_is) by_tag)))
