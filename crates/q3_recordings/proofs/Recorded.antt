-- What a recording's records do, one after the other.
use Rattle.std.proofs.Common.{◌≡◌, ℕ, ◌-◌, ◌<◌, ◌≤◌, Bool, true, false, List, [], ◌∷◌, ◌++◌, length, map, Option, Some, None, refl, sym, ap, subst, ◌∙◌, inl, inr, arith}
use Rattle.std.specs.Prelude.{if◌then◌else◌}
use Rattle.std.proofs.lemmas.List.{length-append}
use Rattle.std.proofs.lemmas.Bool.{cond_both}
use Rattle.q3_bits.specs.Laws.{MessageHoldsBits, MessageIsBytes}
use Rattle.q3_text.specs.declared.text.Command.{Command}
use Rattle.q3_window.specs.Incoming.{fresh_of}
use Rattle.q3_entity.specs.Baselines.{Baselines}
use Rattle.q3_profile.specs.declared.profile.Profile.{Profile}
use Rattle.q3_svmsg.specs.Values.{Told, Nothing, Game, Snap, Skipped, Message}
use Rattle.q3_svmsg.specs.Laws.{IsContext, WrittenIsRead, ReadIsSpelled, SpelledIsRead}
use Rattle.q3_entity_ring.specs.Snapshot.{Snapshot}
use Rattle.q3_rings.specs.Rings.{HeldSnapshots, held_snapshot}
use Rattle.q3_rings.specs.Laws.{AcceptedIsHeld}
use Rattle.q3_clstate.specs.declared.applied.SnapOutcome.TheVariants.{Skipped as SkippedFor, Stale}
use Rattle.q3_clstate.specs.Standing.{IsApplied}
use Rattle.q3_clstate.specs.State.{AppliedState, Application, new_state, context_of, passes, accepts, is_stale, skipped_for, apply_section, hearing, apply_read}
use Rattle.q3_clstate.specs.Laws.{ApplyStays, AppliedIsContext}
use Rattle.q3_demo.specs.declared.recorder.Stage.TheVariants.{Waits, Runs, Ended}
use Rattle.q3_demo.specs.Records.{longest_record, number_end, most_bytes}
use Rattle.q3_demo.specs.Recording.{composed, game_bits, whole_of, whole_bits, Noting, goes_on, recomposed, begins, is_whole, is_before, composed_whole, Noted}
use Rattle.q3_demo.specs.Playing.{play_of, last_played}
use Rattle.q3_recordings.specs.Plays.{IsNoted, Follows, AreNoted, recorded_with, recorded_from, applied_of, game_first, number_before_first, number_in, accepted_in, heard_in, BeginsTold, BeginsWhole, AreBy, LeftAs, LeftBy, RecordingPlays}
use Rattle.q3_recordings.proofs.DemoBytes.{Record, Does, state_after, bytes_of, bytes_short, demo_plays}
use Rattle.q3_recordings.proofs.Composed.{begins_with, goes_with, none_ended, records_from, written_tailed, records_few}
use Rattle.q3_recordings.proofs.ComposedGames.{told_in, told_applies, game_short}
use Rattle.q3_recordings.proofs.ComposedWhole.{whole_applies, whole_short}
use Rattle.q3_recordings.proofs.HeldSince.{held_since}
use Rattle.q3_recordings.proofs.ReadAlike.{context_since}
use Rattle.q3_recordings.proofs.PlaysAs.{PlaysAs, Plays, IsWhole, has_read, is_snap, before_base, plays_step, plays_whole, plays_first, newest_stays}

-- ---- what is left

-- of the last one, or of what there was before the first
abbrev LeftIn : Type 0 → AppliedState → List Noted → AppliedState → Type 0
LeftIn when client [] state = LeftAs when client state
LeftIn when client (noted ∷ others) state = LeftIn when noted.applied.state others state

left_by : (when : Type 0) (noted : Noted) (others : List Noted) (state : AppliedState) → LeftIn when noted.applied.state others state → LeftBy when (noted ∷ others) state
left_by when noted [] state left = left
left_by when noted (next ∷ others) state left = left_by when next others state left

-- ---- from a state on

-- the records do what was recorded
record PlaysOn (when : Type 0) (client play : AppliedState) (last : ℕ) (records : List Record) (recorded : List Noted) : Type 0 where
  applied : List Application
  does : Does play last records applied
  numbers : map number_in applied ≡ map (λ (noted : Noted). noted.applied.answer.number) recorded
  accepted : map accepted_in applied ≡ map (λ (noted : Noted). noted.applied.accepted) recorded
  heard : map heard_in applied ≡ map (λ (noted : Noted). noted.applied.heard) recorded
  left : LeftIn when client recorded (state_after play applied)

none_on : {when : Type 0} → (first last : ℕ) (client play : AppliedState) → PlaysAs when first client play → PlaysOn when client play last [] []
none_on {when} first last client play like = record {
  applied = [];
  does = tt;
  numbers = refl;
  accepted = refl;
  heard = refl;
  left = record { executed = like.executed; baselines = like.baselines; slot = like.slot; feed = like.feed; strings = like.strings };
}

pub recorded_none : (messages : List Noted) → recorded_from Ended messages ≡ []
unfolding recorded_from
recorded_none [] = refl
recorded_none (noted ∷ others) = recorded_none others

ended_on : {when : Type 0} → (first last : ℕ) (client play : AppliedState) (others : List Noted) → PlaysAs when first client play → PlaysOn when client play last (records_from Ended others) (recorded_from Ended others)
ended_on {when} first last client play others like =
    subst (λ (records : List Record). PlaysOn when client play last records (recorded_from Ended others)) (sym (none_ended others))
    (subst (λ (recorded : List Noted). PlaysOn when client play last [] recorded) (sym (recorded_none others)) (none_on first last client play like))

one_on : {when : Type 0} → (first last : ℕ) (client play : AppliedState) (noted : Noted) (message : List ℕ) (plays : Plays when first noted play message) (records : List Record) (recorded : List Noted)
    → last < noted.applied.answer.number → noted.applied.answer.number < number_end → length message ≤ longest_record
    → PlaysOn when noted.applied.state plays.applied.state noted.applied.answer.number records recorded
    → PlaysOn when client play last (record { number = noted.applied.answer.number; message = message } ∷ records) (noted ∷ recorded)
one_on {when} first last client play noted message plays records recorded above below short on = record {
  applied = plays.applied ∷ on.applied;
  does = (above, below, short, plays.applies, on.does);
  numbers = ap (λ (number : ℕ). number ∷ map number_in on.applied) plays.number ∙ ap (λ (numbers : List ℕ). noted.applied.answer.number ∷ numbers) on.numbers;
  accepted = ap (λ (accepted : Option Snapshot). accepted ∷ map accepted_in on.applied) plays.accepted ∙ ap (λ accepted. noted.applied.accepted ∷ accepted) on.accepted;
  heard = ap (λ (heard : List Command). heard ∷ map heard_in on.applied) plays.heard ∙ ap (λ heard. noted.applied.heard ∷ heard) on.heard;
  left = on.left;
}

-- ---- what is known of messages

record Laws : Type 0 where
  written : WrittenIsRead
  read : ReadIsSpelled
  spelled : SpelledIsRead
  holds : MessageHoldsBits
  bytes : MessageIsBytes
  held : AcceptedIsHeld
  stays : ApplyStays
  contexts : AppliedIsContext

-- ---- one message of a recording that runs

play_context : {when : Type 0} → Laws → (first : ℕ) (client play : AppliedState) → IsApplied client → PlaysAs when first client play → IsContext play.profile (context_of play.held play.baselines)
play_context {when} laws first client play is like =
    subst (λ (profile : Profile). IsContext profile (context_of play.held play.baselines)) (sym like.profile)
    (subst (λ (held : HeldSnapshots). IsContext client.profile (context_of held play.baselines)) (sym like.held)
    (subst (λ (baselines : Baselines). IsContext client.profile (context_of (held_since first client.held) baselines)) (sym like.baselines)
    (context_since client.profile first client.held client.baselines (laws.contexts client is))))

-- the message that was composed
record IsComposedOf (state : AppliedState) (message bytes : List ℕ) : Type 0 where
  whole : Message
  found : whole_of state message ≡ Some whole
  composes : composed (whole_bits state whole) ≡ Some bytes

composed_of : (state : AppliedState) (message bytes : List ℕ) (whole : Option Message) → whole_of state message ≡ whole → composed_whole state whole ≡ Some bytes → IsComposedOf state message bytes
composed_of state message bytes None found e = absurd cc
composed_of state message bytes (Some whole) found e = record { whole = whole; found = found; composes = e }

-- by bytes that are short enough
record PlaysShort (when : Type 0) (first : ℕ) (noted : Noted) (play : AppliedState) (message : List ℕ) : Type 0 where
  plays : Plays when first noted play message
  short : length message ≤ longest_record

whole_plays : {when : Type 0} → Laws → (first : ℕ) (noted : Noted) (play : AppliedState) (bytes : List ℕ) → PlaysAs when first noted.before play → IsNoted noted → first ≤ noted.applied.answer.number
    → is_before first noted.applied.answer.snap ≡ true → composed_whole noted.applied.state (whole_of noted.applied.state noted.message) ≡ Some bytes → PlaysShort when first noted play bytes
whole_plays {when} laws first noted play bytes like is from before e =
    let state = noted.applied.state in
    let of = composed_of state noted.message bytes (whole_of state noted.message) refl e in
    let has = has_read laws.read laws.contexts noted is in
    let named = before_base first noted.applied.answer.snap before in
    let snap = is_snap noted is has named.0 named.1 in
    let there = whole_applies laws.written laws.read laws.holds laws.held laws.contexts noted is has.read has.reads named.0 snap.head snap.entities snap.section snap.accepted of.whole of.found bytes
    of.composes play like.profile like.baselines (play_context laws first noted.before play is.stands like) in
    record {
      plays = plays_whole laws.read laws.contexts first noted play bytes has.read named.0 snap.head snap.entities like is from has.reads snap.section there;
      short = whole_short laws.bytes state of.whole bytes of.composes;
    }

-- and what follows it
abbrev NotingOn : Type 0 → ℕ → ℕ → AppliedState → AppliedState → Noted → List Noted → Bool → Option (List ℕ) → Type 0
NotingOn when first last client play noted others before whole =
    let number = noted.applied.answer.number in
    let now : Noting = if before then recomposed first number whole else goes_on first number noted.message in
    PlaysOn when client play last ((if before then goes_with number whole else record { number = number; message = noted.message } ∷ []) ++ records_from now.stage others)
    (recorded_with now.stage noted (recorded_from now.stage others))

noting_on : {when : Type 0} → Laws → (first last : ℕ) (client play : AppliedState) (noted : Noted) (others : List Noted) → PlaysAs when first client play → PlaysAs when first noted.before play → IsNoted noted
    → first ≤ noted.applied.answer.number → last < noted.applied.answer.number
    → (before : Bool) (whole : Option (List ℕ)) → is_before first noted.applied.answer.snap ≡ before
    → composed_whole noted.applied.state (whole_of noted.applied.state noted.message) ≡ whole
    → ((message : List ℕ) (plays : Plays when first noted play message)
    → PlaysOn when noted.applied.state plays.applied.state noted.applied.answer.number (records_from (Runs first) others) (recorded_from (Runs first) others))
    → NotingOn when first last client play noted others before whole
noting_on {when} laws first last client play noted others like same is from above true None before whole on = ended_on first last client play others like
noting_on {when} laws first last client play noted others like same is from above true (Some bytes) before whole on =
    let by = whole_plays laws first noted play bytes same is from before whole in
    one_on first last client play noted bytes by.plays (records_from (Runs first) others) (recorded_from (Runs first) others) above is.number by.short (on bytes by.plays)
noting_on {when} laws first last client play noted others like same is from above false whole before e on =
    let plays = plays_step laws.read laws.spelled laws.contexts first noted play same is from before in
    one_on first last client play noted noted.message plays (records_from (Runs first) others) (recorded_from (Runs first) others) above is.number is.short (on noted.message plays)

-- ---- a recording that runs

-- messages that go on from what a client has
abbrev pub GoOnFrom : AppliedState → List Noted → Type 0
GoOnFrom client [] = Unit {0}
GoOnFrom client (noted ∷ others) = noted.before ≡ client

after_of : (noted : Noted) (others : List Noted) → Follows noted others → GoOnFrom noted.applied.state others
after_of noted [] follows = tt
after_of noted (next ∷ others) follows = follows

runs_on : {when : Type 0} → Laws → (first last : ℕ) (client play : AppliedState) (messages : List Noted) → AreNoted messages → GoOnFrom client messages → PlaysAs when first client play
    → last ≤ client.number → first ≤ client.number → PlaysOn when client play last (records_from (Runs first) messages) (recorded_from (Runs first) messages)
unfolding records_from recorded_from
runs_on {when} laws first last client play [] are after like at from = none_on first last client play like
runs_on {when} laws first last client play (noted ∷ others) are after like at from =
    let is : IsNoted noted = are.0 in
    let number = noted.applied.answer.number in
    let stays = newest_stays laws.read laws.contexts noted is in
    let same : PlaysAs when first noted.before play = subst (λ (state : AppliedState). PlaysAs when first state play) (sym after) like in
    let was : noted.before.number ≡ client.number = ap (λ (state : AppliedState). state.number) after in
    let newer = is.newer in
    let now = stays.1 in
    noting_on laws first last client play noted others like same is (omega (arith, was, newer, from)) (omega (arith, was, newer, at)) (is_before first noted.applied.answer.snap)
    (composed_whole noted.applied.state (whole_of noted.applied.state noted.message)) refl refl
    (λ message plays. runs_on laws first number noted.applied.state plays.applied.state others are.2 (after_of noted others are.1) plays.plays (omega (arith, now)) (omega (arith, now, was, newer, from)))

-- ---- a recording that waits

-- from the first on
record BeginsOn (profile : Profile) (records : List Record) (recorded : List Noted) : Type 0 where
  applied : List Application
  does : Does (new_state profile) 0 records applied
  numbers : map number_in applied ≡ number_before_first (map (λ (noted : Noted). noted.applied.answer.number) recorded)
  accepted : map accepted_in applied ≡ game_first None (map (λ (noted : Noted). noted.applied.accepted) recorded)
  heard : map heard_in applied ≡ game_first [] (map (λ (noted : Noted). noted.applied.heard) recorded)
  left : LeftBy (BeginsWhole recorded) recorded (state_after (new_state profile) applied)

nothing_on : (profile : Profile) → BeginsOn profile [] []
nothing_on profile = record { applied = []; does = tt; numbers = refl; accepted = refl; heard = refl; left = tt }

never_on : (profile : Profile) (others : List Noted) → BeginsOn profile (records_from Ended others) (recorded_from Ended others)
never_on profile others =
    subst (λ (records : List Record). BeginsOn profile records (recorded_from Ended others)) (sym (none_ended others))
    (subst (λ (recorded : List Noted). BeginsOn profile [] recorded) (sym (recorded_none others)) (nothing_on profile))

-- the gamestate, and the first message after it
first_on : Laws → (noted : Noted) (others : List Noted) (game : List ℕ) → IsNoted noted → AreNoted others → Follows noted others → is_whole noted.applied.answer.snap ≡ true
    → BeginsTold (noted ∷ recorded_from (Runs noted.applied.answer.number) others) → composed (game_bits noted.before noted.issued) ≡ Some game
    → BeginsOn noted.before.profile
    (record { number = noted.applied.answer.number - 1; message = game } ∷ record { number = noted.applied.answer.number; message = noted.message } ∷ records_from (Runs noted.applied.answer.number) others)
    (noted ∷ recorded_from (Runs noted.applied.answer.number) others)
unfolding fresh_of
first_on laws noted others game is are follows whole told e =
    let number = noted.applied.answer.number in
    let before = noted.before in
    let begun = apply_read (new_state before.profile) (number - 1) (record { ack = noted.issued; commands = []; section = Game (told_in before) }) in
    let applies = told_applies laws.written laws.holds laws.stays laws.contexts before noted.issued (number - 1) game is.stands told is.issued e in
    let plays = plays_first laws.read laws.spelled laws.contexts number noted begun.state is whole refl refl in
    let now = (newest_stays laws.read laws.contexts noted is).1 in
    let on = runs_on laws number number noted.applied.state plays.applied.state others are (after_of noted others follows) plays.plays (omega (arith, now)) (omega (arith, now)) in
    let newer = is.newer in
    let some = is.begun in
    let below = is.number in
    let one = one_on number (number - 1) before begun.state noted noted.message plays (records_from (Runs number) others) (recorded_from (Runs number) others) (omega (arith, newer)) below is.short on in
    record {
      applied = begun ∷ one.applied;
      does = (omega (arith, newer, some), omega (arith, below), game_short laws.bytes before noted.issued game e, applies, one.does);
      numbers = ap (λ (numbers : List ℕ). (number - 1) ∷ numbers) one.numbers;
      accepted = ap (λ (accepted : List (Option Snapshot)). None ∷ accepted) one.accepted;
      heard = ap (λ (heard : List (List Command)). [] ∷ heard) one.heard;
      left = left_by (IsWhole noted) noted (recorded_from (Runs number) others) (state_after begun.state one.applied) one.left;
    }

abbrev WaitsOn : Profile → Noted → List Noted → Bool → Option (List ℕ) → Type 0
WaitsOn profile noted others whole game =
    let number = noted.applied.answer.number in
    let now : Noting = if whole then begins number noted.message game else record { stage = Waits; bytes = [] } in
    BeginsTold (recorded_with now.stage noted (recorded_from now.stage others))
    → BeginsOn profile ((if whole then begins_with number noted.message game else []) ++ records_from now.stage others) (recorded_with now.stage noted (recorded_from now.stage others))

waiting_on : Laws → (profile : Profile) (noted : Noted) (others : List Noted) → IsNoted noted → AreNoted others → Follows noted others → noted.before.profile ≡ profile
    → (whole : Bool) (game : Option (List ℕ)) → is_whole noted.applied.answer.snap ≡ whole → composed (game_bits noted.before noted.issued) ≡ game
    → (BeginsTold (recorded_from Waits others) → BeginsOn profile (records_from Waits others) (recorded_from Waits others))
    → WaitsOn profile noted others whole game
waiting_on laws profile noted others is are follows by true None whole e waits told = never_on profile others
waiting_on laws profile noted others is are follows by true (Some game) whole e waits told =
    let number = noted.applied.answer.number in
    subst (λ (profile : Profile). BeginsOn profile
    (record { number = number - 1; message = game } ∷ record { number = number; message = noted.message } ∷ records_from (Runs number) others)
    (noted ∷ recorded_from (Runs number) others)) by
    (first_on laws noted others game is are follows whole told e)
waiting_on laws profile noted others is are follows by false game whole e waits told = waits told

-- a profile stays
section_profile : (state : AppliedState) (number : ℕ) (told : Told) → (apply_section state number told).state.profile ≡ state.profile
section_profile state number Nothing = refl
section_profile state number (Game game) = refl
section_profile state number (Snap base head entities) =
    cond_both (is_stale state.held number) (passes state number Stale) (accepts state number base (record { head = head; entities = entities }))
    (λ (applied : Application). applied.state.profile ≡ state.profile) (λ e. refl) (λ e. refl)
section_profile state number (Skipped base) =
    cond_both (is_stale state.held number) (passes state number Stale) (passes state number (SkippedFor base (skipped_for (held_snapshot state.held base))))
    (λ (applied : Application). applied.state.profile ≡ state.profile) (λ e. refl) (λ e. refl)

profile_stays : Laws → (noted : Noted) → IsNoted noted → noted.applied.state.profile ≡ noted.before.profile
profile_stays laws noted is =
    let has = has_read laws.read laws.contexts noted is in
    ap (λ (applied : Application). applied.state.profile) has.does ∙ section_profile (hearing noted.before has.read.commands) noted.applied.answer.number has.read.section

by_next : (profile : Profile) (noted : Noted) (others : List Noted) → Follows noted others → noted.applied.state.profile ≡ profile → AreBy profile others
by_next profile noted [] follows by = tt
by_next profile noted (next ∷ others) follows by = ap (λ (state : AppliedState). state.profile) follows ∙ by

waits_on : Laws → (profile : Profile) (messages : List Noted) → AreNoted messages → AreBy profile messages → BeginsTold (recorded_from Waits messages)
    → BeginsOn profile (records_from Waits messages) (recorded_from Waits messages)
unfolding records_from recorded_from
waits_on laws profile [] are by told = nothing_on profile
waits_on laws profile (noted ∷ others) are by told =
    waiting_on laws profile noted others are.0 are.2 are.1 by (is_whole noted.applied.answer.snap) (composed (game_bits noted.before noted.issued)) refl refl
    (λ told. waits_on laws profile others are.2 (by_next profile noted others are.1 (profile_stays laws noted are.0 ∙ by)) told) told

-- ---- all of it

plays_to : Laws → RecordingPlays
plays_to laws profile messages over are by told short few =
    let on = waits_on laws profile messages are by told in
    let records = records_from Waits messages in
    let tailed = written_tailed over messages in
    let bytes = tailed.whole in
    let count = records_few messages in
    let room : length (bytes_of records ++ tailed.tail) ≤ most_bytes = elim short [
      | inl long ↦ subst (λ (demo : List ℕ). length demo ≤ most_bytes) bytes long
      | inr fewer ↦
          omega (arith, bytes_short (new_state profile) 0 records on.applied on.does, tailed.few, count, fewer, length-append (bytes_of records) tailed.tail)
    ] in
    let plays = demo_plays profile records on.applied tailed.tail tailed.ends on.does room (omega (arith, count, few)) in
    record {
      ending = ap (λ (demo : List ℕ). (play_of profile demo).ending) bytes ∙ plays.1;
      numbers = ap (λ (demo : List ℕ). map number_in (applied_of profile demo)) bytes ∙ ap (λ (applied : List Application). map number_in applied) plays.0 ∙ on.numbers;
      accepted = ap (λ (demo : List ℕ). map accepted_in (applied_of profile demo)) bytes ∙ ap (λ (applied : List Application). map accepted_in applied) plays.0 ∙ on.accepted;
      heard = ap (λ (demo : List ℕ). map heard_in (applied_of profile demo)) bytes ∙ ap (λ (applied : List Application). map heard_in applied) plays.0 ∙ on.heard;
      left = subst (LeftBy (BeginsWhole (recorded_from Waits messages)) (recorded_from Waits messages)) (sym (ap (λ (demo : List ℕ). (last_played profile demo).state) bytes ∙ plays.2)) on.left;
    }

pub recording_plays : WrittenIsRead → ReadIsSpelled → SpelledIsRead → MessageHoldsBits → MessageIsBytes → AcceptedIsHeld → ApplyStays → AppliedIsContext → RecordingPlays
recording_plays written read spelled holds bytes held stays contexts = plays_to (record {
  written = written;
  read = read;
  spelled = spelled;
  holds = holds;
  bytes = bytes;
  held = held;
  stays = stays;
  contexts = contexts;
})
