-- Where each end gets only what the other made, a client applies at most half as many messages as there are events: each takes a line that
-- makes it and one that hands it over.
use Rattle.std.proofs.Common.{◌≡◌, ℕ, ◌+◌, ◌-◌, ◌*◌, ◌≤◌, Bool, true, false, List, [], ◌∷◌, ◌++◌, length, Option, Some, None, Ok, Result, refl, sym, ap, subst, ◌∙◌, inl, inr, arith, append_assoc}
use Rattle.std.specs.Prelude.{◌==◌, filter, slice_get}
use Rattle.std.specs.List.{AllByRecursion}
use Rattle.std.proofs.lemmas.Bool.{cases_Bool, cond_both, eqb-true}
use Rattle.std.proofs.lemmas.List.{length-append}
use Rattle.std.proofs.lemmas.List.Elements.{filter-append}
use Rattle.q3_bits.specs.Bits.{bits_of}
use Rattle.q3_bits.proofs.Binds.{bind_ok}
use Rattle.q3_profile.specs.declared.profile.Profile.{Profile}
use Rattle.q3_svmsg.specs.declared.error.Illegible.{Illegible}
use Rattle.q3_svmsg.specs.Reading.{server_message_in}
use Rattle.q3_svmsg.specs.Values.{Message}
use Rattle.q3_clstate.specs.declared.applied.Applied.{Applied}
use Rattle.q3_clstate.specs.State.{AppliedState, Application, context_of, hearing, apply_read, apply_at}
use Rattle.q3_script.specs.declared.event.Event.{Event}
use Rattle.q3_script.specs.declared.event.Event.TheVariants as events
use Rattle.q3_client.specs.Client.{ClientState, Taken, take_at}
use Rattle.q3_client.specs.declared.client.ClientTook.{ClientTook}
use Rattle.q3_client.specs.declared.client.ClientTook.TheVariants as took
use Rattle.q3_report.specs.Answers.{Took, ByClient}
use Rattle.q3_demo.specs.Recording.{Noted}
use Rattle.q3_world.specs.declared.made.Direction.{Direction}
use Rattle.q3_world.specs.declared.made.Direction.TheVariants.{ToClient, ToServer}
use Rattle.q3_world.specs.declared.places.Place.{Place}
use Rattle.q3_world.specs.Ends.{place_at, line_of, client_takes}
use Rattle.q3_world.specs.Kept.{Kept, SentBytes, kept_after, kept_step, opening_kept, deliver_at, arrive_at}
use Rattle.q3_world.specs.ByTags.{kept_then}
use Rattle.q3_world.specs.StandsFor.{IsChecked}
use Rattle.q3_report.specs.declared.answer.Front.TheVariants as fronts
use Rattle.q3_ends.specs.Recording.{note_taken}
use Rattle.q3_schedules.specs.Recorded.{applied_until, bytes_for, is_stop, noted_at, noted_of, sent_for, sent_to}
use Rattle.q3_schedules.specs.Schedules.{AppliedWasServed, ClientTookSo, IsScheduled, is_serve}
use Rattle.q3_recordings.specs.Plays.{AreNoted}
use Rattle.q3_recordings.specs.Replays.{kept_recording, noted_after}
use Rattle.q3_recordings.proofs.PlaysAs.{section_number}

-- ---- events

pub all_front : (Is : Event → Type 0) (some others : List Event) → AllByRecursion Is (some ++ others) → AllByRecursion Is some
all_front Is [] others are = tt
all_front Is (event ∷ some) others are = (are.0, all_front Is some others are.1)

pub all_next : (some : List Event) (event : Event) (others : List Event) → AllByRecursion IsScheduled (some ++ event ∷ others) → IsScheduled event
all_next [] event others are = are.0
all_next (one ∷ some) event others are = all_next some event others are.1

pub one_after : (kept : Kept) (some : List Event) (event : Event) → kept_after kept (some ++ event ∷ []) ≡ (kept_step (kept_after kept some) event).kept
unfolding kept_after
one_after kept [] event = refl
one_after kept (one ∷ some) event = one_after (kept_step kept one).kept some event

-- after some of them, with these to come
pub record Along (Is : Event → Type 0) (profile : Profile) (kept : Kept) (events : List Event) : Type 0 where
  pub done : List Event
  pub is : kept ≡ kept_then profile done
  pub are : AllByRecursion Is (done ++ events)

pub along_on : (Is : Event → Type 0) (profile : Profile) (kept : Kept) (event : Event) (events : List Event) → Along Is profile kept (event ∷ events)
    → Along Is profile (kept_step kept event).kept events
along_on Is profile kept event events along = record {
  done = along.done ++ event ∷ [];
  is = ap (λ (k : Kept). (kept_step k event).kept) along.is ∙ sym (one_after (opening_kept profile) along.done event);
  are = subst (AllByRecursion Is) (sym (append_assoc along.done (event ∷ []) events)) along.are;
}

-- ---- lines that make and that hand over

abbrev is_deliver : Event → Bool
is_deliver (events.Deliver number) = true
is_deliver other = false

-- no line does both
both_few : (all : List Event) → length (filter is_serve all) + length (filter is_deliver all) ≤ length all
both_few [] = omega arith
both_few (events.Serve c ∷ all) = let few = both_few all in omega (arith, few)
both_few (events.Deliver number ∷ all) = let few = both_few all in omega (arith, few)
both_few (other ∷ all) = let few = both_few all in omega (arith, few)

-- of fewer lines there are no more
front_few : (is : Event → Bool) (some others : List Event) → length (filter is some) ≤ length (filter is (some ++ others))
front_few is some others =
    let long = ap length (filter-append is some others) ∙ length-append (filter is some) (filter is others) in
    omega (arith, long)

back_few : (is : Event → Bool) (some others : List Event) → length (filter is others) ≤ length (filter is (some ++ others))
back_few is some others =
    let long = ap length (filter-append is some others) ∙ length-append (filter is some) (filter is others) in
    omega (arith, long)

-- ---- each message was handed over

abbrev one : Bool → ℕ
one true = 1
one false = 0

answer_few : (client : ClientState) (taken : Taken) (answer : ClientTook) → length (noted_of client taken answer) ≤ 1
answer_few client taken (took.Applied applied) = omega arith
answer_few client taken other = omega arith

some_few : (found : Option Place) (bytes : Option (List ℕ)) → length (noted_at found bytes) ≤ 1
some_few (Some place) (Some bytes) = answer_few place.client (take_at place.client bytes) (take_at place.client bytes).answer
some_few found bytes = omega arith

no_bytes : (found : Option Place) → length (noted_at found None) ≤ 0
no_bytes None = omega arith
no_bytes (Some place) = omega arith

event_few : (kept : Kept) (event : Event) (c : ℕ) → IsScheduled event → length (noted_at (place_at kept.ends c) (bytes_for kept event c)) ≤ one (is_deliver event)
event_few kept (events.Deliver number) c is = some_few (place_at kept.ends c) (bytes_for kept (events.Deliver number) c)
event_few kept (events.Toclient d bytes) c is = absurd is.1
event_few kept other c is = no_bytes (place_at kept.ends c)

noted_few : (kept : Kept) (all : List Event) (c : ℕ) → AllByRecursion IsScheduled all → length (applied_until kept all c) ≤ length (filter is_deliver all)
unfolding applied_until
noted_few kept [] c are = omega arith
noted_few kept (event ∷ all) c are =
    let next = (kept_step kept event).kept in
    let notes = noted_at (place_at kept.ends c) (bytes_for kept event c) in
    let few = event_few kept event c are.0 in
    let rest = noted_few next all c are.1 in
    let long = length-append notes (applied_until next all c) in
    let more : one (is_deliver event) + length (filter is_deliver all) ≡ length (filter is_deliver (event ∷ all)) = one_more event all in
    cond_both (is_stop c event) [] (notes ++ applied_until next all c) (λ (noted : List Noted). length noted ≤ length (filter is_deliver (event ∷ all)))
    (λ e. omega arith) (λ e. omega (arith, few, rest, long, more))
  where
    one_more : (event : Event) (all : List Event) → one (is_deliver event) + length (filter is_deliver all) ≡ length (filter is_deliver (event ∷ all))
    one_more event all =
        elim (cases_Bool (is_deliver event)) [
          | inl is ↦ rw is (omega arith)
          | inr not ↦ rw not (omega arith)
        ]

-- ---- and its number is at most that of the lines that make one

abbrev AllBelow : ℕ → List Noted → Type 0
AllBelow most messages = AllByRecursion (λ (noted : Noted). noted.applied.answer.number ≤ most) messages

both_below : (most : ℕ) (some others : List Noted) → AllBelow most some → AllBelow most others → AllBelow most (some ++ others)
both_below most [] others first rest = rest
both_below most (noted ∷ some) others first rest = (first.0, both_below most some others first.1 rest)

-- what a delivered datagram answers, of a client that is there
delivered_so : (kept : Kept) (number c : ℕ) (sent : SentBytes) (place : Place) (applied : Applied) → slice_get kept.datagrams (number - 1) ≡ Some sent → sent.direction ≡ ToClient
    → sent.client ≡ c → place_at kept.ends c ≡ Some place → (take_at place.client sent.bytes).answer ≡ took.Applied applied
    → ClientTookSo (kept_step kept (events.Deliver number)).answer number c (took.Applied applied) (take_at place.client sent.bytes).heard
unfolding kept_step line_of
delivered_so kept number c sent place applied found way client at did =
    let front = fronts.Deliver number in
    let taken = take_at place.client sent.bytes in
    let ended = (note_taken place.recording place.client taken).ended in (
      taken.client.state,
      ended,
      ap (λ (f : Option SentBytes). (deliver_at kept.ends number f).answer) found
          ∙ ap (λ (d : Direction). (arrive_at kept.ends number sent d).answer) way
          ∙ ap (λ (k : ℕ). (client_takes kept.ends k front sent.bytes (place_at kept.ends k)).answer) client
          ∙ ap (λ (f : Option Place). (client_takes kept.ends c front sent.bytes f).answer) at
          ∙ ap (λ (a : ClientTook). Took front (ByClient c a taken.client.state taken.heard ended)) did,
    )

module _ (law : AppliedWasServed) (profile : Profile) (checked : IsChecked profile) (c most : ℕ) where
  taken_below : (kept : Kept) (number : ℕ) (others : List Event) → (along : Along IsScheduled profile kept others) → length (filter is_serve (along.done ++ others)) ≤ most
      → (sent : SentBytes) (place : Place) → slice_get kept.datagrams (number - 1) ≡ Some sent → sent.direction ≡ ToClient → sent.client ≡ c → place_at kept.ends c ≡ Some place
      → (answer : ClientTook) → (take_at place.client sent.bytes).answer ≡ answer → AllBelow most (noted_of place.client (take_at place.client sent.bytes) answer)
  taken_below kept number others along few sent place found way client at (took.Applied applied) did =
      let heard = (take_at place.client sent.bytes).heard in
      let so = subst (λ (k : Kept). ClientTookSo (kept_step k (events.Deliver number)).answer number c (took.Applied applied) heard) along.is
      (delivered_so kept number c sent place applied found way client at did) in
      let served = law profile along.done number c applied heard checked (all_front IsScheduled along.done others along.are) so in
      let front = front_few is_serve along.done others in
      (omega (arith, served, front, few), tt)
  taken_below kept number others along few sent place found way client at other did = tt

  sent_below : (kept : Kept) (number : ℕ) (others : List Event) → (along : Along IsScheduled profile kept others) → length (filter is_serve (along.done ++ others)) ≤ most
      → (sent : SentBytes) (place : Place) → slice_get kept.datagrams (number - 1) ≡ Some sent → place_at kept.ends c ≡ Some place
      → (direction : Direction) → sent.direction ≡ direction → AllBelow most (noted_at (Some place) (sent_to c sent direction))
  sent_below kept number others along few sent place found at (ToServer from) way = tt
  sent_below kept number others along few sent place found at ToClient way =
      elim (cases_Bool (sent.client == c)) [
        | inl same ↦ rw same (taken_below kept number others along few sent place found way (eqb-true sent.client c same) at (take_at place.client sent.bytes).answer refl)
        | inr other ↦ rw other tt
      ]

  none_below : (at : Option Place) → AllBelow most (noted_at at None)
  none_below None = tt
  none_below (Some place) = tt

  delivered_below : (kept : Kept) (number : ℕ) (others : List Event) → (along : Along IsScheduled profile kept others) → length (filter is_serve (along.done ++ others)) ≤ most
      → (found : Option SentBytes) → slice_get kept.datagrams (number - 1) ≡ found → (at : Option Place) → place_at kept.ends c ≡ at → AllBelow most (noted_at at (sent_for c found))
  delivered_below kept number others along few None found at there = none_below at
  delivered_below kept number others along few (Some sent) found None there = tt
  delivered_below kept number others along few (Some sent) found (Some place) there = sent_below kept number others along few sent place found there sent.direction refl

  event_below : (kept : Kept) (event : Event) (others : List Event) → (along : Along IsScheduled profile kept (event ∷ others)) → length (filter is_serve (along.done ++ event ∷ others)) ≤ most
      → IsScheduled event → AllBelow most (noted_at (place_at kept.ends c) (bytes_for kept event c))
  event_below kept (events.Deliver number) others along few is =
      delivered_below kept number (events.Deliver number ∷ others) along few (slice_get kept.datagrams (number - 1)) refl (place_at kept.ends c) refl
  event_below kept (events.Toclient d bytes) others along few is = absurd is.1
  event_below kept other others along few is = none_below (place_at kept.ends c)

  all_below : (kept : Kept) (all : List Event) → (along : Along IsScheduled profile kept all) → length (filter is_serve (along.done ++ all)) ≤ most → AllByRecursion IsScheduled all
      → AllBelow most (applied_until kept all c)
  unfolding applied_until along_on
  all_below kept [] along few are = tt
  all_below kept (event ∷ others) along few are =
      let next = (kept_step kept event).kept in
      let notes = noted_at (place_at kept.ends c) (bytes_for kept event c) in
      let on : length (filter is_serve ((along.done ++ event ∷ []) ++ others)) ≤ most =
      subst (λ (all : List Event). length (filter is_serve all) ≤ most) (sym (append_assoc along.done (event ∷ []) others)) few in
      let rest = all_below next others (along_on IsScheduled profile kept event others along) on are.1 in
      let here = event_below kept event others along few are.0 in
      cond_both (is_stop c event) [] (notes ++ applied_until next others c) (AllBelow most) (λ e. tt) (λ e. both_below most notes (applied_until next others c) here rest)

-- ---- numbers rise, so there are no more messages than the last number

abbrev applied_as : Application → Result Application Illegible
applied_as application = Ok application

are_same : (one other : Application) → applied_as one ≡ applied_as other → one ≡ other
are_same one other e = cc

state_numbered : (before : AppliedState) (number : ℕ) (message : List ℕ) (applied : Application) → apply_at before number message ≡ Ok applied → applied.state.number ≡ number
state_numbered before number message applied e =
    let found = bind_ok (server_message_in before.profile (context_of before.held before.baselines) number (bits_of message)) (λ (read : Message). applied_as (apply_read before number read)) applied e in
    let does = are_same (apply_read before number found.0) applied found.2 in
    subst (λ (a : Application). a.state.number ≡ number) does (section_number (hearing before found.0.commands) number found.0.section)

counted_from : (most : ℕ) (noted : Noted) (others : List Noted) → AreNoted (noted ∷ others) → AllBelow most (noted ∷ others) → noted.before.number + length (noted ∷ others) ≤ most
counted_from most noted [] are below =
    let newer = are.0.newer in
    let least = below.0 in
    omega (arith, newer, least)
counted_from most noted (next ∷ others) are below =
    let newer = are.0.newer in
    let follows : next.before.number ≡ noted.applied.state.number = ap (λ (state : AppliedState). state.number) are.1 in
    let numbered = state_numbered noted.before noted.applied.answer.number noted.message noted.applied are.0.applies in
    let rest = counted_from most next others are.2 below.1 in
    omega (arith, newer, follows, numbered, rest)

counted : (most : ℕ) (messages : List Noted) → AreNoted messages → AllBelow most messages → length messages ≤ most
counted most [] are below = omega arith
counted most (noted ∷ others) are below = let few = counted_from most noted others are below in omega (arith, few)

-- ---- so there are half as many as events

pub half_noted : AppliedWasServed → (profile : Profile) (first rest : List Event) (c : ℕ) (name : List ℕ) → IsChecked profile → AllByRecursion IsScheduled (first ++ events.RecordTo c name ∷ rest)
    → AreNoted (noted_after profile first c name rest) → length (noted_after profile first c name rest) * 2 ≤ length (first ++ events.RecordTo c name ∷ rest)
unfolding along_on
half_noted law profile first rest c name checked are noted =
    let line = events.RecordTo c name in
    let all = first ++ line ∷ rest in
    let messages = noted_after profile first c name rest in
    let scheduled = all_back first (line ∷ rest) are in
    let start : Along IsScheduled profile (kept_then profile first) (line ∷ rest) = record { done = first; is = refl; are = are } in
    let along = along_on IsScheduled profile (kept_then profile first) line rest start in
    let most = length (filter is_serve all) in
    let few : length (filter is_serve ((first ++ line ∷ []) ++ rest)) ≤ most =
    subst (λ (events : List Event). length (filter is_serve events) ≤ most) (sym (append_assoc first (line ∷ []) rest)) (omega arith) in
    let below = all_below law profile checked c most (kept_recording profile first c name) rest along few scheduled.1 in
    let made = counted most messages noted below in
    let handed = noted_few (kept_recording profile first c name) rest c scheduled.1 in
    let later = back_few is_deliver (first ++ line ∷ []) rest in
    let later_all : length (filter is_deliver rest) ≤ length (filter is_deliver all) =
    subst (λ (events : List Event). length (filter is_deliver rest) ≤ length (filter is_deliver events)) (append_assoc first (line ∷ []) rest) later in
    let both = both_few all in
    omega (arith, made, handed, later_all, both)
  where
    all_back : (some others : List Event) → AllByRecursion IsScheduled (some ++ others) → AllByRecursion IsScheduled others
    all_back [] others are = are
    all_back (event ∷ some) others are = all_back some others are.1
