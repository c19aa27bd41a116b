-- Every list of events: what holds after it, and what it answers.
use Rattle.std.proofs.Common.{◌≡◌, ◌+◌, ◌-◌, ◌<◌, List, length, get_or, true, false, Option, Some, None, Result, Ok, refl, sym, ap, subst, ◌∙◌, inl, inr, arith, Bool, ℕ}
use Rattle.std.specs.Prelude.{slice_get, not, ◌&&◌, All, Contains, IfSome, MatchOption, ◌↔◌}
use Rattle.std.specs.List.{last_or}
use Rattle.std.specs.Option.{option_map}
use Rattle.std.specs.Result.{result_ok}
use Rattle.std.proofs.lemmas.Option.{slice_get-map}
use Rattle.std.proofs.lemmas.List.Elements.{All-nil, All-get_or, All-contains}
use Rattle.q3_profile.specs.declared.profile.Profile.{Profile}
use Rattle.q3_script.specs.declared.event.Event.TheVariants as events
use Rattle.q3_entity_ring.specs.Snapshot.{Snapshot}
use Rattle.q3_rings.specs.Rings.{held_snapshot, view_at}
use Rattle.q3_rings.specs.declared.rings.NoBase.TheVariants.{EntitiesGone}
use Rattle.q3_rings.specs.Accepted.{held_among}
use Rattle.q3_window.specs.Incoming.{fresh_of}
use Rattle.q3_clstate.specs.State.{AppliedState, Application, apply_message}
use Rattle.q3_clstate.specs.declared.applied.Applied.{Applied as AppliedSo}
use Rattle.q3_chan.specs.declared.gatherer.Gathered.{Gathered}
use Rattle.q3_chan.specs.declared.gatherer.Gathered.TheVariants as gathered
use Rattle.q3_chan.specs.declared.gatherer.Gathered.TheVariants.{Whole as CameWhole}
use Rattle.q3_chan.specs.Gathering.{Gathering, Took as GatheredSo, gathered as gathered_of}
use Rattle.q3_chan.specs.Tags.{tagged, IsQuiet}
use Rattle.q3_chan.specs.Laws.{TaggedDoes}
use Rattle.q3_clstate.specs.declared.applied.SnapOutcome.{SnapOutcome}
use Rattle.q3_clstate.specs.declared.applied.SnapOutcome.TheVariants.{Accepted, Skipped, NoSnap}
use Rattle.q3_client.specs.declared.client.ClientTook.TheVariants.{Applied}
use Rattle.q3_svmsg.specs.declared.error.Illegible.{Illegible}
use Rattle.q3_client.specs.declared.client.ClientTook.{ClientTook}
use Rattle.q3_slot.specs.declared.taking.ServerTook.{ServerTook}
use Rattle.q3_slot.specs.declared.taking.ServerTook.TheVariants.{Stranger}
use Rattle.q3_io.specs.declared.address.Address.{Address}
use Rattle.q3_text.specs.declared.text.Command.{Command}
use Rattle.q3_report.specs.declared.answer.Front.TheVariants as fronts
use Rattle.q3_report.specs.declared.answer.TakeRefused.{TakeRefused}
use Rattle.q3_report.specs.Answers.{Answered, ByClient, ByServer, Shown, Took, Untaken, snapshot_in}
use Rattle.q3_ends.specs.AtClient.{newest_of, showing_newest, taken_by_client}
use Rattle.q3_ends.specs.Recording.{RecordingState, note_taken, waits_in}
use Rattle.q3_world.specs.declared.made.Direction.{Direction}
use Rattle.q3_world.specs.declared.made.Direction.TheVariants.{ToClient, ToServer}
use Rattle.q3_world.specs.Layers.{Layers}
use Rattle.q3_built.specs.Built.{Built, number_of, IsSnapshot, IsNear, IsBuilt, built_bytes, plain_bytes}
use Rattle.q3_slot.specs.Slot.{SlotState}
use Rattle.q3_server.specs.Server.{places, slot_at}
use Rattle.q3_client.specs.Client.{ClientState, Taken, Reception, receive_message, take_answer, take_gathered}
use Rattle.q3_slot.specs.declared.taking.Heard.{Heard}
use Rattle.q3_world.specs.declared.places.Place.{Place}
use Rattle.q3_world.specs.Ends.{Ends, client_at, client_of, client_step_of, line_of, newest, place_at, with_client}
use Rattle.q3_world.specs.Kept.{SentBytes, Kept, KeptStep, kept_step}
use Rattle.q3_world.specs.World.{Tag, Step, Whole, History, history_at, built_at, step, deliver, arrive, to_client, to_server, named, Played, bytes_of}
use Rattle.q3_world.specs.StandsFor.{IsSent, WasBuilt, WasAccepted, Rise}
use Rattle.q3_world.specs.ByTags.{kept_then, whole_then, BytesFollowTags}
use Rattle.q3_world.specs.Answering.{outcome_of, applied_of, is_game, outcome_in}
use Rattle.q3_schedules.specs.Schedules.{AcceptedWereBuilt, ShownWasBuilt, ShownIsNewest, AsksForAccepted, heard_of, Shows, AppliedWasBuilt, NewerIsAccepted, BasesWereAccepted, HeldIsAccepted, ViewsWereBuilt, ClientTookSo, StateIsOfGame}
use Rattle.q3_world.proofs.Holding.{Holds, Has, has_client}
use Rattle.q3_world.proofs.StepsByTags.{Cited}
use Rattle.q3_world.proofs.ByTags.{cited_of}
use Rattle.q3_world.proofs.Arriving.{IsFor, Named, names, is_sent, is_for, tag_is}
use Rattle.q3_schedules.proofs.Stood.{Then, delivers_same, holds_of, of_each, of_there, place_of, step_own, stood}
use Rattle.q3_messages.proofs.Options.{if_some_then, three_some}
use Rattle.q3_world.proofs.Knowing.{KnownBase, view_was_built}
use Rattle.q3_world.proofs.Applying.{applies_message, applies_game_message}
use Rattle.q3_world.proofs.OnePlace.{set_there}
use Rattle.q3_world.specs.Games.{Carries, HasGames, IsFresh, IsOf, WasApplied, accepted_since, last_played}
use Rattle.q3_svmsg.specs.Values.{Told}
use Rattle.q3_world.proofs.GamesParts.{newest as games_newest}
use Rattle.q3_world.proofs.GamesMoves.{since_were}

-- ---- what was accepted

abbrev WereAccepted : History → Type 0
WereAccepted history = All (WasBuilt history.built) history.accepted × Rise history.accepted

pub accepted_were_built : BytesFollowTags → AcceptedWereBuilt
accepted_were_built law profile all c is are within =
    of_each profile (kept_then profile all) (whole_then profile all) c (λ slot found history. WereAccepted history) within (stood law profile all is are)
    (All-nil _, (λ j k d lt within. absurd (omega (arith, within)))) (λ slot place had. (had.joined.of_client.accepted, had.joined.of_client.rise))

-- what a client accepted since the last gamestate that it applied, and that it was built
abbrev since_of : History → List Snapshot
since_of history = accepted_since history.games history.accepted

since_built : (history : History) → All (WasBuilt history.built) history.accepted → All (WasBuilt history.built) (since_of history)
since_built history were = since_were history.games history.accepted (WasBuilt history.built) were

-- what a show by bytes prints
shown_newest : (c : ℕ) (found : Option Snapshot) → snapshot_in (Shown c (showing_newest found)) ≡ found
shown_newest c None = refl
shown_newest c (Some snapshot) = refl

shown_at : (ends : Ends) (c : ℕ) (found : Option Place) → snapshot_in (client_step_of ends c (events.Show c) found).answer ≡ newest (option_map client_of found)
shown_at ends c None = refl
shown_at ends c (Some place) = shown_newest c (newest_of place.client)

pub shows : (kept : Kept) (c : ℕ) → snapshot_in (kept_step kept (events.Show c)).answer ≡ newest (client_at kept.ends c)
unfolding kept_step line_of
shows kept c = shown_at kept.ends c (place_at kept.ends c)

-- what a client that is there shows was built
pub shown_was_built : BytesFollowTags → Layers → ShownWasBuilt
shown_was_built law below profile all c snapshot is are within shown =
    let stands : Then profile all = stood law profile all is are in
    of_each profile (kept_then profile all) (whole_then profile all) c
    (λ slot found history. newest (option_map client_of found) ≡ Some snapshot → WasBuilt history.built snapshot) within stands
    (λ shown. absurd (none_some shown))
    (λ slot place had shown.
    let state = place.client.state in
    let history = history_at (whole_then profile all).histories c in
    let takes = had.joined.of_client in
    (view_was_built below.rings state.held history.built (since_of history) state.held.newest snapshot takes.stands (since_built history takes.accepted) shown).1)
    (ap (λ (e : Ends). newest (client_at e c)) (sym stands.ends) ∙ (sym (shows (kept_then profile all) c) ∙ shown))
  where
    none_some : newest None ≡ Some snapshot → ⊥
    none_some e = absurd cc

-- and it is the newest that the client accepted since
pub shown_is_newest : BytesFollowTags → ShownIsNewest
shown_is_newest law profile all c is are within =
    let stands : Then profile all = stood law profile all is are in
    shows (kept_then profile all) c
    ∙ (ap (λ (e : Ends). newest (client_at e c)) stands.ends
    ∙ of_each profile (kept_then profile all) (whole_then profile all) c (λ slot found history. newest (option_map client_of found) ≡ last_or None (since_of history)) within stands
    refl (λ slot place had. had.joined.of_client.shows))

-- what a client's next message asks for, by what it accepted and by its recording
wants_both : (delta waits : Bool) (Was : Type 0) → (delta ≡ true) ↔ Was → ((delta && not waits) ≡ true) ↔ (Was × (waits ≡ false))
wants_both delta waits Was is = (to delta waits is, from delta waits is)
  where
    to : (delta waits : Bool) → (delta ≡ true) ↔ Was → (delta && not waits) ≡ true → Was × (waits ≡ false)
    to true false is so = (is.0 refl, refl)
    to true true is so = absurd cc
    to false waits is so = absurd cc

    from : (delta waits : Bool) → (delta ≡ true) ↔ Was → Was × (waits ≡ false) → (delta && not waits) ≡ true
    from true false is so = refl
    from true true is so = let e = so.1 in absurd cc
    from false waits is so = let e = is.1 so.0 in absurd cc

pub asks_for_accepted : BytesFollowTags → AsksForAccepted
asks_for_accepted law profile all c place is are within found =
    let stands : Then profile all = stood law profile all is are in
    let whole = whole_then profile all in
    let since = since_of (history_at whole.histories c) in
    wants_both place.client.delta (waits_in place.recording) (WasAccepted since place.client.gathering.taken)
    (of_there profile (kept_then profile all) whole c place.client (λ (client : ClientState). (client.delta ≡ true) ↔ WasAccepted since client.gathering.taken) within
    (ap (λ (o : Option Place). option_map client_of o) found) stands
    (λ slot place had. had.joined.of_client.asks))

-- ---- what a client holds

-- each base of a message is near
near_of : (profile : Profile) (challenge n : ℕ) (built : Built) → IsBuilt profile challenge n built → IfSome built.base (IsNear n)
near_of profile challenge n built is =
    elim is.section [
      | inl one ↦ if_some_then built.base (λ base. IsNear n base × IsSnapshot profile base) (IsNear n) (λ base two. two.0) one.base_is
      | inr made ↦ subst (λ (base : Option Snapshot). IfSome base (IsNear n)) (sym (ap (λ (b : Built). b.base) made.is)) tt
    ]

pub bases_were_accepted : BytesFollowTags → BasesWereAccepted
bases_were_accepted law profile all c k d is are within lt =
    let history = history_at (whole_then profile all).histories c in
    of_each profile (kept_then profile all) (whole_then profile all) c
    (λ slot found history. k < length history.built → IfSome (get_or history.built k d).base (KnownBase (k + 1) history.built history.accepted)) within (stood law profile all is are)
    (λ lt. absurd (omega (arith, lt)))
    (λ slot place had lt.
    let keeps = had.keeps.of_slot in
    three_some (get_or history.built k d).base (IsNear (k + 1)) (WasBuilt history.built) (Contains history.accepted)
    (near_of profile slot.challenge (k + 1) (get_or history.built k d) (keeps.built k d lt))
    (All-get_or (λ (b : Built). IfSome b.base (WasBuilt history.built)) history.built k d lt keeps.bases)
    (All-get_or (λ (b : Built). IfSome b.base (Contains history.accepted)) history.built k d lt had.joined.asked.bases))
    lt

pub views_were_built : BytesFollowTags → Layers → ViewsWereBuilt
views_were_built law below profile all c number client snapshot is are within found viewed =
    let stands : Then profile all = stood law profile all is are in
    let whole = whole_then profile all in
    let history = history_at whole.histories c in
    of_there profile (kept_then profile all) whole c client
    (λ (client : ClientState). view_at client.state.held number ≡ Some snapshot → (snapshot.head.number ≡ number) × WasBuilt history.built snapshot) within found stands
    (λ slot place had viewed.
    let takes = had.joined.of_client in
    view_was_built below.rings place.client.state.held history.built (since_of history) number snapshot takes.stands (since_built history takes.accepted) viewed)
    viewed

pub held_is_accepted : BytesFollowTags → Layers → HeldIsAccepted
held_is_accepted law below profile all c number client is are within found =
    let stands : Then profile all = stood law profile all is are in
    let whole = whole_then profile all in
    let since = since_of (history_at whole.histories c) in
    of_there profile (kept_then profile all) whole c client (λ (client : ClientState). held_snapshot client.state.held number ≡ held_among profile.parse_ring since number) within found stands
    (λ slot place had.
    subst (λ (ring : ℕ). held_snapshot place.client.state.held number ≡ held_among ring since number) had.keeps.of_client.ring
    (below.rings.of_list since place.client.state.held number had.joined.of_client.stands))

-- ---- newer messages

-- a tag that has these bytes
pub tag_of : (found : Option Tag) (sent : SentBytes) → option_map bytes_of found ≡ Some sent → (tag : Tag) × (found ≡ Some tag) × (bytes_of tag ≡ sent)
tag_of None sent e = absurd cc
tag_of (Some tag) sent e = (tag, refl, cc)

-- what comes whole with a piece of a message is that message, and it is newer
pub came_whole : TaggedDoes → (gathering : Gathering) (number : ℕ) (message : List ℕ) (index n count : ℕ) → (tagged gathering number message index).answer ≡ CameWhole n count
    → (n ≡ number) × (gathering.taken < number)
came_whole does_so gathering number message index n count e =
    let does = does_so gathering number message index in
    elim does.either [
      | inl waits ↦ absurd (subst IsQuiet e waits.quiet)
      | inr came ↦ (whole_is (sym e ∙ came.answer), came.newer)
    ]
  where
    whole_is : {count' number' : ℕ} → CameWhole n count ≡ CameWhole number' count' → n ≡ number'
    whole_is same = cc

-- what a client's delivery answers
abbrev pub delivered_so : ℕ → ℕ → Taken → Bool → Answered
delivered_so number c taken ended = taken_by_client (fronts.Deliver number) c taken ended

-- and whether the client's recording ended by that
abbrev pub ends_by : Place → Taken → Bool
ends_by place taken = (note_taken place.recording place.client taken).ended

pub answers_tag : (profile : Profile) (whole : Whole) (number : ℕ) (tag : Tag) (place : Place) → whole.foreign ≡ false → slice_get whole.sent (number - 1) ≡ Some tag
    → tag.direction ≡ ToClient → place_at whole.ends tag.client ≡ Some place
    → (step profile whole (events.Deliver number)).answer
    ≡ delivered_so number tag.client (take_gathered place.client (tagged place.client.gathering tag.number (built_bytes profile (named whole.histories tag)) tag.index)
    (λ n. Ok (receive_message place.client n (named whole.histories tag).message (plain_bytes profile (named whole.histories tag)))))
    (ends_by place (take_gathered place.client (tagged place.client.gathering tag.number (built_bytes profile (named whole.histories tag)) tag.index)
    (λ n. Ok (receive_message place.client n (named whole.histories tag).message (plain_bytes profile (named whole.histories tag))))))
unfolding step line_of
answers_tag profile whole number tag place own at way found = rw (own, at, way, found) refl

-- what is answered of a message that was built, by what its client accepted since the last gamestate that it applied
abbrev pub applied_now : Profile → History → ℕ → Built → AppliedSo
applied_now profile history n built = applied_of profile.parse_ring (accepted_since history.games history.accepted) n built

-- what a message that was built does at its client, and what is answered of it
pub record Outcome (profile : Profile) (whole : Whole) (c n : ℕ) (client : ClientState) (built : Built) : Type 0 where
  pub answer : (apply_message client.state n built.message).answer ≡ applied_now profile (history_at whole.histories c) n built
  pub executed : client.state.executed.executed ≡ length (history_at whole.histories c).client_executed
  pub number : (apply_message client.state n built.message).state.number ≡ n
  pub shows : (base : ℕ) → (apply_message client.state n built.message).answer.snap ≡ Accepted base
      → (snapshot : Snapshot) × (view_at (apply_message client.state n built.message).state.held (apply_message client.state n built.message).state.held.newest ≡ Some snapshot)
      × (snapshot.head.number ≡ n) × WasBuilt (history_at whole.histories c).built snapshot

pub outcome : (profile : Profile) (whole : Whole) (c n : ℕ) (slot : SlotState) (place : Place) (built : Built) → Cited profile → Has profile whole c slot place
    → place.client.gathering.taken < n → Named profile whole c n slot place.client built → Outcome profile whole c n place.client built
outcome profile whole c n slot place built cited had newer named_is =
    let client = place.client in
    let history = history_at whole.histories c in
    let since = since_of history in
    let state = client.state in
    let is = named_is.is in
    let takes = had.joined.of_client in
    let below = takes.below in
    let above : state.held.newest < n = omega (arith, newer, below) in
    let counted = had.joined.commanded.to_client.runs.executed in
    elim is.section [
      | inl one ↦
          let snapshot = one.snapshot in
          let number_is = one.number in
          let section = ap (λ (b : Built). b.message.section) one.is in
          let known = if_some_then built.base (KnownBase n history.built since) (λ base. IsNear n base × Contains since base) (λ base known. (known.0, known.2)) (named_is.base newer) in
          let told : (snap : SnapOutcome) → outcome_of state.held.ring since built.base ≡ snap → answer_with n false snap ≡ applied_now profile history n built =
          λ snap so. ap (λ (snap : SnapOutcome). answer_with n false snap) (sym so)
          ∙ (ap (λ (ring : ℕ). answer_with n false (outcome_of ring since built.base)) had.keeps.of_client.ring ∙ sym (of_section profile.parse_ring since n built.base section)) in
          elim (applies_message cited.below.rings state since n built is.telling snapshot one.is takes.stands above known) [
            | inl accepted ↦ record {
              answer = ap (λ (a : Application). a.answer) accepted.1 ∙ told (Accepted (number_of built.base)) accepted.0;
              executed = counted;
              number = ap (λ (a : Application). a.state.number) accepted.1;
              shows = λ base so. (
                snapshot,
                ap (λ (a : Application). view_at a.state.held a.state.held.newest) accepted.1
                    ∙ ap (λ r. result_ok r) (cited.below.rings.there state.held snapshot takes.stands.held (omega (arith, above, number_is)) one.are.few),
                number_is,
                named_is.was is.telling one,
              );
            }
            | inr skipped ↦ record {
              answer = ap (λ (a : Application). a.answer) skipped.2 ∙ told (Skipped (number_of built.base) (EntitiesGone skipped.0)) skipped.1;
              executed = counted;
              number = ap (λ (a : Application). a.state.number) skipped.2;
              shows = λ base so. absurd (skipped_not_accepted (number_of built.base) skipped.0 base (sym (ap (λ (a : Application). a.answer.snap) skipped.2) ∙ so));
            }
          ]
      | inr made ↦
          let section = ap (λ (b : Built). b.message.section) made.is in
          let applied = applies_game_message state n built is.telling made.game made.is in
          record {
            answer = ap (λ (a : Application). a.answer) applied ∙ sym (of_section profile.parse_ring since n built.base section);
            executed = counted;
            number = ap (λ (a : Application). a.state.number) applied;
            shows = λ base so. absurd (none_not_accepted base (sym (ap (λ (a : Application). a.answer.snap) applied) ∙ so));
          }
    ]
  where
    answer_with : ℕ → Bool → SnapOutcome → AppliedSo
    answer_with n game snap = record { number = n; game = game; snap = snap }

    -- by its section
    of_section : {section : Told} (ring : ℕ) (since : List Snapshot) (n : ℕ) (base : Option Snapshot) → built.message.section ≡ section
        → answer_with n (is_game built.message.section) (outcome_in ring since base built.message.section) ≡ answer_with n (is_game section) (outcome_in ring since base section)
    of_section ring since n base is = ap (λ (s : Told). answer_with n (is_game s) (outcome_in ring since base s)) is

    skipped_not_accepted : (base age other : ℕ) → Skipped base (EntitiesGone age) ≡ Accepted other → ⊥
    skipped_not_accepted base age other e = absurd cc

    none_not_accepted : (other : ℕ) → NoSnap ≡ Accepted other → ⊥
    none_not_accepted other e = absurd cc

-- what is answered of a message that came whole, and what is executed of it
pub whole_answer : (profile : Profile) (whole : Whole) (number c n : ℕ) (client now : ClientState) → Outcome profile whole c n client (built_at (history_at whole.histories c).built n)
    → (count : ℕ) (ended : Bool)
    → ClientTookSo (delivered_so number c (take_answer now (CameWhole n count) (λ k. Ok (receive_message client k (built_at (history_at whole.histories c).built n).message (plain_bytes profile (built_at (history_at whole.histories c).built n))))) ended)
    number c (Applied (applied_now profile (history_at whole.histories c) n (built_at (history_at whole.histories c).built n))) (heard_of (history_at whole.histories c) n)
whole_answer profile whole number c n client now out count ended =
    let history = history_at whole.histories c in
    let built = built_at history.built n in
    let applied = apply_message client.state n built.message in (
      applied.state,
      ended,
      ap (λ (a : AppliedSo). Took (fronts.Deliver number) (ByClient c (Applied a) applied.state applied.heard ended)) out.answer
          ∙ ap (λ (k : ℕ). Took (fronts.Deliver number) (ByClient c (Applied (applied_now profile history n built)) applied.state (fresh_of k built.message.commands) ended)) out.executed,
    )

pub newer_is_accepted : BytesFollowTags → Layers → NewerIsAccepted
newer_is_accepted law below profile all number n count sent client is are at way found came =
    let stands : Then profile all = stood law profile all is are in
    let kept = kept_then profile all in
    let whole = whole_then profile all in
    let cited = cited_of below profile is in
    let holds = holds_of profile kept whole stands in
    let tag = tag_of (slice_get whole.sent (number - 1)) sent
    (sym (slice_get-map bytes_of whole.sent (number - 1)) ∙ (ap (λ (d : List SentBytes). slice_get d (number - 1)) (sym stands.datagrams) ∙ at)) in
    let goes : tag.0.direction ≡ ToClient = ap (λ (s : SentBytes). s.direction) tag.2 ∙ way in
    let sent_is = is_for profile whole tag.0 goes (is_sent profile whole (number - 1) tag.0 tag.1 holds) in
    let client_is : client_at whole.ends tag.0.client ≡ Some client =
    ap (λ (e : Ends). client_at e tag.0.client) (sym stands.ends) ∙ (ap (λ (s : SentBytes). client_at kept.ends s.client) tag.2 ∙ found) in
    let there = place_of (place_at whole.ends tag.0.client) client client_is in
    let place = there.0 in
    let had = has_client profile whole tag.0.client place sent_is.0 there.1 holds in
    let built = named whole.histories tag.0 in
    let took = tagged place.client.gathering tag.0.number (built_bytes profile built) tag.0.index in
    let now = record place.client { gathering = took.gathering } in
    let answer : took.answer ≡ CameWhole n count =
    ap (λ (t : GatheredSo). t.answer) (sym (tag_is profile whole tag.0 place cited sent_is there.1 holds))
    ∙ (ap (λ (s : SentBytes). (gathered_of place.client.gathering s.bytes).answer) tag.2
    ∙ (ap (λ (e : ClientState). (gathered_of e.gathering sent.bytes).answer) there.2 ∙ came)) in
    let whole_is = came_whole below.does place.client.gathering tag.0.number (built_bytes profile (named whole.histories tag.0)) tag.0.index n count answer in
    let out = outcome profile whole tag.0.client tag.0.number had.0 place built cited had.1 whole_is.1 (names profile whole tag.0 had.0 place cited sent_is had.1) in
    let so : ℕ → ℕ → Type 0 = λ c k.
    ClientTookSo (kept_step kept (events.Deliver number)).answer number c (Applied (applied_now profile (history_at whole.histories c) k (built_at (history_at whole.histories c).built k)))
    (heard_of (history_at whole.histories c) k) in
    let ended = ends_by place (take_answer now took.answer (λ j. Ok (receive_message place.client j built.message (plain_bytes profile built)))) in
    let given : (kept_step kept (events.Deliver number)).answer
    ≡ delivered_so number tag.0.client (take_answer now (CameWhole tag.0.number count) (λ j. Ok (receive_message place.client j built.message (plain_bytes profile built)))) ended =
    ap (λ (s : KeptStep). s.answer) (delivers_same profile kept whole number cited stands)
    ∙ (answers_tag profile whole number tag.0 place stands.own tag.1 goes there.1
    ∙ (ap (λ (a : Gathered). delivered_so number tag.0.client (take_answer now a (λ k. Ok (receive_message place.client k built.message (plain_bytes profile built)))) ended) answer
    ∙ ap (λ (k : ℕ). delivered_so number tag.0.client (take_answer now (CameWhole k count) (λ j. Ok (receive_message place.client j built.message (plain_bytes profile built)))) ended) whole_is.0)) in
    let by_tag = whole_answer profile whole number tag.0.client tag.0.number place.client now out count ended in
    let here : so tag.0.client tag.0.number = (by_tag.0, by_tag.1, given ∙ by_tag.2) in
    subst (λ (s : SentBytes). so s.client n) tag.2 (subst (λ (k : ℕ). so tag.0.client k) (sym whole_is.0) here)

-- ---- what is applied

-- two answers of a delivery
same_delivered : (number c c' : ℕ) (took took' : ClientTook) (state state' : AppliedState) (commands commands' : List Command) (ended ended' : Bool)
    → Took (fronts.Deliver number) (ByClient c took state commands ended) ≡ Took (fronts.Deliver number) (ByClient c' took' state' commands' ended') → (c ≡ c') × (took ≡ took')
same_delivered number c c' took took' state state' commands commands' ended ended' e = (cc, cc)

not_by_server : (number : ℕ) (took : ServerTook) (ran : Heard) (c : ℕ) (took' : ClientTook) (commands : List Command)
    → ClientTookSo (Took (fronts.Deliver number) (ByServer took ran)) number c took' commands → ⊥
not_by_server number took ran c took' commands so = let e = so.2 in absurd cc

not_untaken : {cause : TakeRefused} (number c : ℕ) (took : ClientTook) (commands : List Command) → ClientTookSo (Untaken (fronts.Deliver number) cause) number c took commands → ⊥
not_untaken {cause} number c took commands so = let e = so.2 in absurd cc

-- what a delivery answers as applied
abbrev Applies : Profile → List Tag → ℕ → Ends → Ends → ℕ → AppliedSo → History → Type 0
Applies profile sent number before now c applied history =
    ((client : ClientState) × (client_at before c ≡ Some client) × (client.gathering.taken < applied.number))
    × (applied ≡ applied_now profile history applied.number (built_at history.built applied.number))
    × ((tag : Tag) × (slice_get sent (number - 1) ≡ Some tag) × (tag.direction ≡ ToClient) × (tag.client ≡ c) × (tag.number ≡ applied.number))
    × ((base : ℕ) → applied.snap ≡ Accepted base → Shows now c applied.number history.built)
    × ((after : ClientState) × (client_at now c ≡ Some after) × (after.state.number ≡ applied.number))

-- where nothing came whole, nothing is answered as applied
quiet_applies : (client : ClientState) (answer : Gathered) (apply : ℕ → Result Reception Illegible) (applied : AppliedSo) → IsQuiet answer
    → (take_answer client answer apply).answer ≡ Applied applied → ⊥
quiet_applies client gathered.Partial apply applied is e = absurd cc
quiet_applies client gathered.Old apply applied is e = absurd cc
quiet_applies client gathered.OutOfOrder apply applied is e = absurd cc
quiet_applies client answer apply applied is e = is

-- of a message that came whole
applied_whole : (profile : Profile) (whole : Whole) (number c : ℕ) (applied : AppliedSo) (tag : Tag) (place : Place) (recording : Option RecordingState) (next : ClientState) → length whole.ends.clients ≡ places → tag.client < places
    → slice_get whole.sent (number - 1) ≡ Some tag → tag.direction ≡ ToClient
    → place_at whole.ends tag.client ≡ Some place → place.client.gathering.taken < tag.number
    → next.state ≡ (apply_message place.client.state tag.number (named whole.histories tag).message).state
    → Outcome profile whole tag.client tag.number place.client (named whole.histories tag)
    → (tag.client ≡ c) × (Applied (apply_message place.client.state tag.number (named whole.histories tag).message).answer ≡ Applied applied)
    → Applies profile whole.sent number whole.ends (with_client whole.ends tag.client (record place { recording = recording }) next) c applied (history_at whole.histories c)
applied_whole profile whole number c applied tag place recording next count lt at way found newer state_is out alike =
    let history = history_at whole.histories tag.client in
    let answer = (apply_message place.client.state tag.number (named whole.histories tag).message).answer in
    let same : answer ≡ applied = one_applied answer applied alike.1 in
    let is : applied_now profile history tag.number (named whole.histories tag) ≡ applied = sym out.answer ∙ same in
    let numbered : tag.number ≡ applied.number = ap (λ (a : AppliedSo). a.number) is in
    let then : Place = record place { recording = recording } in
    let there : client_at (with_client whole.ends tag.client then next) tag.client ≡ Some next =
    ap (λ (o : Option Place). option_map client_of o) (set_there whole.ends.clients tag.client None (Some (record then { client = next })) count lt) in
    subst (λ (k : ℕ). Applies profile whole.sent number whole.ends (with_client whole.ends tag.client then next) k applied (history_at whole.histories k)) alike.0 (
      (place.client, ap (λ (o : Option Place). option_map client_of o) found, omega (arith, numbered, newer)),
      sym is ∙ ap (λ (k : ℕ). applied_now profile history k (built_at history.built k)) numbered,
      (tag, at, way, refl, numbered),
      λ base so.
          let shown = out.shows base (ap (λ (a : AppliedSo). a.snap) same ∙ so) in (
            shown.0,
            ap newest there ∙ (ap (λ (s : AppliedState). view_at s.held s.held.newest) state_is ∙ shown.1),
            shown.2 ∙ numbered,
            shown.3,
          ),
      (next, there, ap (λ (s : AppliedState). s.number) state_is ∙ (out.number ∙ numbered)),
    )
  where
    one_applied : (x y : AppliedSo) → Applied x ≡ Applied y → x ≡ y
    one_applied x y same = cc

abbrev AppliesSo : Profile → Whole → ℕ → ℕ → AppliedSo → Step → Type 0
AppliesSo profile whole number c applied next =
    (commands : List Command) → ClientTookSo next.answer number c (Applied applied) commands
    → Applies profile whole.sent number whole.ends next.whole.ends c applied (history_at whole.histories c)

applied_arrive : (profile : Profile) (whole : Whole) (number c : ℕ) (applied : AppliedSo) (tag : Tag) (found : Option Place) → Cited profile → slice_get whole.sent (number - 1) ≡ Some tag → tag.direction ≡ ToClient
    → place_at whole.ends tag.client ≡ found → IsFor profile whole tag → Holds profile whole → AppliesSo profile whole number c applied (to_client profile whole number tag found)
applied_arrive profile whole number c applied tag None cited sent_at way at is holds = λ commands so. absurd (not_untaken number c (Applied applied) commands so)
applied_arrive profile whole number c applied tag (Some place) cited sent_at way at is holds =
    let client = place.client in
    let built = named whole.histories tag in
    let took = tagged client.gathering tag.number (built_bytes profile built) tag.index in
    let does = cited.below.does client.gathering tag.number (built_bytes profile built) tag.index in
    let now = record client { gathering = took.gathering } in
    let apply : ℕ → Result Reception Illegible = λ k. Ok (receive_message client k built.message (plain_bytes profile built)) in
    let given = take_answer now took.answer apply in
    let had = has_client profile whole tag.client place is.0 at holds in
    elim does.either [
      | inl waits ↦ λ commands so. absurd (quiet_applies now took.answer apply applied waits.quiet
          (same_delivered number tag.client c given.answer (Applied applied) given.client.state so.0 given.heard commands _ so.1 so.2).1)
      | inr came ↦
          let out = outcome profile whole tag.client tag.number had.0 place built cited had.1 came.newer (names profile whole tag had.0 place cited is had.1) in
          let taken = take_answer now (CameWhole tag.number (length (built_bytes profile built))) apply in
          let does_so : given ≡ taken = ap (λ (a : Gathered). take_answer now a apply) came.answer in
          λ commands so.
          let alike = same_delivered number tag.client c given.answer (Applied applied) given.client.state so.0 given.heard commands _ so.1 so.2 in
          let recording = (note_taken place.recording client given).recording in
          subst (λ (t : Taken). Applies profile whole.sent number whole.ends (with_client whole.ends tag.client (record place { recording = recording }) t.client) c applied (history_at whole.histories c)) (sym does_so)
          (applied_whole profile whole number c applied tag place recording taken.client holds.facts.clients is.0 sent_at way at came.newer refl out
          (alike.0, ap (λ (t : Taken). t.answer) (sym does_so) ∙ alike.1))
    ]

-- where the server takes a datagram, nothing is answered as applied
not_applied : (profile : Profile) (whole : Whole) (number c : ℕ) (applied : AppliedSo) (tag : Tag) (from : Address) (found : Option SlotState)
    → AppliesSo profile whole number c applied (to_server profile whole number tag from found)
not_applied profile whole number c applied tag from None commands so = absurd (not_by_server number Stranger _ c (Applied applied) commands so)
not_applied profile whole number c applied tag from (Some slot) commands so = absurd (not_by_server number _ _ c (Applied applied) commands so)

applied_go : (profile : Profile) (whole : Whole) (number c : ℕ) (applied : AppliedSo) (tag : Tag) (direction : Direction) → Cited profile → slice_get whole.sent (number - 1) ≡ Some tag → tag.direction ≡ direction
    → IsSent profile whole.histories tag → Holds profile whole → AppliesSo profile whole number c applied (arrive profile whole number tag direction)
applied_go profile whole number c applied tag ToClient cited at way is holds =
    applied_arrive profile whole number c applied tag (place_at whole.ends tag.client) cited at way refl (is_for profile whole tag way is) holds
applied_go profile whole number c applied tag (ToServer from) cited at way is holds = not_applied profile whole number c applied tag from (slot_at whole.ends.server tag.client)

applied_deliver : (profile : Profile) (whole : Whole) (number c : ℕ) (applied : AppliedSo) (found : Option Tag) → Cited profile → slice_get whole.sent (number - 1) ≡ found → Holds profile whole
    → AppliesSo profile whole number c applied (deliver profile whole number found)
applied_deliver profile whole number c applied None cited at holds = λ commands so. absurd (not_untaken number c (Applied applied) commands so)
applied_deliver profile whole number c applied (Some tag) cited at holds =
    applied_go profile whole number c applied tag tag.direction cited at refl (is_sent profile whole (number - 1) tag at holds) holds

-- by tags
applied_step : (profile : Profile) (whole : Whole) (number c : ℕ) (applied : AppliedSo) → Cited profile → Holds profile whole
    → AppliesSo profile whole number c applied (step profile whole (events.Deliver number))
applied_step profile whole number c applied cited holds =
    subst (AppliesSo profile whole number c applied) (sym (step_own profile whole number holds.own)) (applied_deliver profile whole number c applied (slice_get whole.sent (number - 1)) cited refl holds)

-- and by bytes
pub applied_was_built : BytesFollowTags → Layers → AppliedWasBuilt
applied_was_built law below profile all number c applied commands is are so =
    let stands : Then profile all = stood law profile all is are in
    let kept = kept_then profile all in
    let whole = whole_then profile all in
    let history = history_at whole.histories c in
    let cited = cited_of below profile is in
    let same = delivers_same profile kept whole number cited stands in
    subst (λ (before : Ends). Applies profile whole.sent number before (kept_step kept (events.Deliver number)).kept.ends c applied history) (sym stands.ends)
    (subst (λ (s : KeptStep). Applies profile whole.sent number whole.ends s.kept.ends c applied history) (sym same)
    (applied_step profile whole number c applied cited (holds_of profile kept whole stands) commands (so.0, so.1, sym (ap (λ (s : KeptStep). s.answer) same) ∙ so.2)))

-- ---- a client's state

-- by the last gamestate that a client applied
state_by : (client : ClientState) (history : History) → HasGames client.state client.gathering.taken client.last_time history.built history.games history.accepted history.client_executed
    → MatchOption (last_played history.games) (IsFresh client.state)
    (λ played. Carries history.built played.number played.game × IsOf client.state played history.client_executed)
state_by client history has = of_last (last_played history.games) refl has.shows
  where
    of_last : (last : Option Played) → last_played history.games ≡ last → MatchOption last (IsFresh client.state) (λ played. IsOf client.state played history.client_executed)
        → MatchOption last (IsFresh client.state) (λ played. Carries history.built played.number played.game × IsOf client.state played history.client_executed)
    of_last None is fresh = fresh
    of_last (Some played) is shows =
        let last = games_newest history.games played has.rise is in
        ((All-contains (WasApplied client.gathering.taken client.last_time history.built history.accepted history.client_executed) history.games played has.each last.there).carries, shows)

pub state_is_of_game : BytesFollowTags → StateIsOfGame
state_is_of_game law profile all c client is are within found =
    let stands : Then profile all = stood law profile all is are in
    let whole = whole_then profile all in
    let history = history_at whole.histories c in
    of_there profile (kept_then profile all) whole c client
    (λ (client : ClientState).
    MatchOption (last_played history.games) (IsFresh client.state) (λ played. Carries history.built played.number played.game × IsOf client.state played history.client_executed))
    within found stands (λ slot place had. state_by place.client history had.joined.mapped.has)
