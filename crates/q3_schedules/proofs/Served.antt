-- No client applies a message above the number of the lines that let the server make a datagram.
use Rattle.std.proofs.Common.{◌≡◌, ℕ, ◌+◌, ◌-◌, ◌≤◌, Bool, true, false, List, [], ◌∷◌, ◌++◌, length, Option, Some, None, Ok, refl, ap, ◌∙◌, inl, inr, arith, get_or}
use Rattle.std.specs.Prelude.{filter, slice_get, All}
use Rattle.std.specs.List.{range_with_len}
use Rattle.std.proofs.lemmas.Bool.{cases_Bool, cond_both, cases_lt}
use Rattle.std.proofs.lemmas.List.{length-append, get_or_past}
use Rattle.std.proofs.lemmas.List.Elements.{All-set, All-get_or, All-replicate, All-weaker, All-map, All-from_get_or}
use Rattle.q3_io.specs.declared.address.Address.{Address}
use Rattle.q3_profile.specs.declared.profile.Profile.{Profile}
use Rattle.q3_clmsg.specs.declared.moves.Move.{Move}
use Rattle.q3_script.specs.declared.event.Event.{Event}
use Rattle.q3_script.specs.declared.event.Event.TheVariants as events
use Rattle.q3_gamestate.specs.Values.{Gamestate}
use Rattle.q3_entity_ring.specs.Snapshot.{Snapshot}
use Rattle.q3_svmsg.specs.Values.{Told}
use Rattle.q3_built.specs.Built.{Built, built_bytes, plain_bytes}
use Rattle.q3_chan.specs.Tags.{tagged}
use Rattle.q3_client.specs.Client.{Taken, receive_message, take_gathered}
use Rattle.q3_client.specs.Sending.{Said, emit_at}
use Rattle.q3_config.specs.Strings.{has_string}
use Rattle.q3_config.specs.Laws.{piece_texts}
use Rattle.q3_slot.specs.Slot.{SlotState}
use Rattle.q3_ends.specs.Recording.{asking}
use Rattle.q3_server.specs.Server.{ServerState, places, slot_at}
use Rattle.q3_server.specs.Server as serves
use Rattle.q3_report.specs.declared.answer.HandedIn.TheVariants as handed
use Rattle.q3_report.specs.Answers.{Answered, Given}
use Rattle.q3_world.specs.declared.made.Direction.{Direction}
use Rattle.q3_world.specs.declared.made.Direction.TheVariants.{ToClient, ToServer}
use Rattle.q3_world.specs.declared.places.Place.{Place}
use Rattle.q3_world.specs.Ends.{EndsStep, line_of, place_at}
use Rattle.q3_world.specs.ByTags.{BytesFollowTags, kept_then, whole_then}
use Rattle.q3_world.specs.World.{History, Whole, Tag, no_history, history_at, with_history, with_built, with_accepted, with_heard, with_game, with_taken, with_joined, with_spoken, with_typed, with_issued, with_said, with_told, with_texts_told, texts_told, game_in, named, noted, opening, send, arrive, to_client, to_server, deliver_as, with_handed, step, after}
use Rattle.q3_world.proofs.Arriving.{is_sent, is_for}
use Rattle.q3_schedules.specs.Schedules.{AppliedWasBuilt, AppliedWasServed, is_serve}
use Rattle.q3_schedules.proofs.Stood.{Then, stood, holds_of}

-- of each client at most so many messages were built
abbrev Few : ℕ → List History → Type 0
Few n histories = All (λ (history : History). length history.built ≤ n) histories

few_at : (n : ℕ) (histories : List History) (c : ℕ) → Few n histories → length (history_at histories c).built ≤ n
few_at n histories c few =
    elim (cases_lt c (length histories)) [
      | inl lt ↦ All-get_or (λ (history : History). length history.built ≤ n) histories c no_history lt few
      | inr past ↦ rw (get_or_past histories c no_history past) (omega arith)
    ]

few_more : (n more : ℕ) (histories : List History) → n ≤ more → Few n histories → Few more histories
few_more n more histories le few =
    All-weaker (λ (history : History). length history.built ≤ n) (λ (history : History). length history.built ≤ more) (λ history is. omega (arith, is, le)) histories few

-- one history is replaced
few_set : (n : ℕ) (histories : List History) (c : ℕ) (history : History) → length history.built ≤ n → Few n histories → Few n (with_history histories c history)
few_set n histories c history is few = All-set (λ (history : History). length history.built ≤ n) histories c history is few

-- by one with the same
few_same : (n : ℕ) (histories : List History) (c : ℕ) (history : History) → history.built ≡ (history_at histories c).built → Few n histories → Few n (with_history histories c history)
few_same n histories c history same few =
    let there = few_at n histories c few in
    let long = ap (λ (built : List Built). length built) same in
    few_set n histories c history (omega (arith, long, there)) few

-- ---- what is noted of a client

joined_same : (history : History) (challenge qport : ℕ) (address : Address) (answer : Answered) → (with_joined history challenge qport address answer).built ≡ history.built
joined_same history challenge qport address (Given (handed.Client c (Ok x))) = refl
joined_same history challenge qport address other = refl

spoken_same : (history : History) (text : List ℕ) (answer : Answered) → (with_spoken history text answer).built ≡ history.built
spoken_same history text (Given (handed.Say c (Ok number))) = refl
spoken_same history text other = refl

typed_same : (history : History) (text : List ℕ) (answer : Answered) → (with_typed history text answer).built ≡ history.built
typed_same history text (Given (handed.TypeText c (Ok number))) = refl
typed_same history text other = refl

issued_same : (history : History) (one : Move) (answer : Answered) → (with_issued history one answer).built ≡ history.built
issued_same history one (Given (handed.Move c (Ok x))) = refl
issued_same history one other = refl

said_same : (history : History) (said : Option Said) → (with_said history said).built ≡ history.built
said_same history None = refl
said_same history (Some said) = refl

accepted_same : (history : History) (snapshot : Option Snapshot) → (with_accepted history snapshot).built ≡ history.built
accepted_same history None = refl
accepted_same history (Some snapshot) = refl

game_same : (history : History) (number time : ℕ) (game : Option Gamestate) → (with_game history number time game).built ≡ history.built
game_same history number time None = refl
game_same history number time (Some game) = refl

taken_same : (history : History) (number : ℕ) (section : Told) (taken : Taken) → (with_taken history number section taken).built ≡ history.built
taken_same history number section taken =
    game_same (with_heard history taken.accepted taken.heard) number taken.client.last_time (game_in taken.answer section) ∙ accepted_same history taken.accepted

texts_few : (n : ℕ) (server : ServerState) (texts : List (List ℕ)) (histories : List History) → Few n histories → Few n (with_texts_told server texts histories)
texts_few n server texts histories few =
    All-map (λ (history : History). length history.built ≤ n)
    (λ c. record (history_at histories c) { server_commands = (history_at histories c).server_commands ++ texts_told texts (slot_at server c) })
    (range_with_len 0 places) (All-from_get_or (λ c. length (history_at histories c).built ≤ n) (range_with_len 0 places) 0 (λ i lt. few_at n histories (get_or (range_with_len 0 places) i 0) few))

told_few : (n : ℕ) (server : ServerState) (index : ℕ) (text : List ℕ) (answer : Answered) (histories : List History) → Few n histories → Few n (with_told server index text answer histories)
told_few n server index text (Given (handed.Config i (Ok x))) histories few =
    cond_both (has_string server.map.strings index text) histories (with_texts_told server (piece_texts index text) histories) (Few n)
    (λ e. few) (λ e. texts_few n server (piece_texts index text) histories few)
told_few n server index text other histories few = few

noted_few : (n : ℕ) (server : ServerState) (histories : List History) (event : Event) (answer : Answered) → Few n histories → Few n (noted server histories event answer)
noted_few n server histories (events.Client c challenge qport dup address) answer few = few_same n histories c _ (joined_same (history_at histories c) challenge qport address answer) few
noted_few n server histories (events.Config index text) answer few = told_few n server index text answer histories few
noted_few n server histories (events.Say c text) answer few = few_same n histories c _ (spoken_same (history_at histories c) text answer) few
noted_few n server histories (events.TypeText c text) answer few = few_same n histories c _ (typed_same (history_at histories c) text answer) few
noted_few n server histories (events.Move c one) answer few = few_same n histories c _ (issued_same (history_at histories c) one answer) few
noted_few n server histories other answer few = few

-- ---- events

-- a message more may be built where the server makes a datagram
served_few : (n : ℕ) (histories : List History) (c : ℕ) (began : Option Built) → Few n histories → Few (n + 1) (with_history histories c (with_built (history_at histories c) began))
served_few n histories c None few =
    few_same (n + 1) histories c (history_at histories c) refl (few_more n (n + 1) histories (omega arith) few)
served_few n histories c (Some built) few =
    let there = few_at n histories c few in
    let long = length-append (history_at histories c).built (built ∷ []) in
    few_set (n + 1) histories c (with_built (history_at histories c) (Some built)) (omega (arith, there, long)) (few_more n (n + 1) histories (omega arith) few)

sent_few : (n : ℕ) (whole : Whole) (c : ℕ) (found : Option Place) → Few n whole.histories → Few n (send whole c found).whole.histories
sent_few n whole c None few = few
sent_few n whole c (Some place) few = few_same n whole.histories c _ (said_same (history_at whole.histories c) (emit_at (asking place.client place.recording)).began) few

to_client_few : (n : ℕ) (profile : Profile) (whole : Whole) (number : ℕ) (tag : Tag) (found : Option Place) → Few n whole.histories → Few n (to_client profile whole number tag found).whole.histories
to_client_few n profile whole number tag None few = few
to_client_few n profile whole number tag (Some place) few =
    let built = named whole.histories tag in
    let history = history_at whole.histories tag.client in
    let taken = take_gathered place.client (tagged place.client.gathering tag.number (built_bytes profile built) tag.index) (λ k. Ok (receive_message place.client k built.message (plain_bytes profile built))) in
    few_same n whole.histories tag.client (with_taken history tag.number built.message.section taken) (taken_same history tag.number built.message.section taken) few

to_server_few : (n : ℕ) (profile : Profile) (whole : Whole) (number : ℕ) (tag : Tag) (from : Address) (found : Option SlotState) → Few n whole.histories
    → Few n (to_server profile whole number tag from found).whole.histories
to_server_few n profile whole number tag from None few = few_same n whole.histories tag.client _ refl few
to_server_few n profile whole number tag from (Some slot) few = few_same n whole.histories tag.client _ refl few

arrive_few : (n : ℕ) (profile : Profile) (whole : Whole) (number : ℕ) (tag : Tag) (direction : Direction) → Few n whole.histories → Few n (arrive profile whole number tag direction).whole.histories
arrive_few n profile whole number tag ToClient few = to_client_few n profile whole number tag (place_at whole.ends tag.client) few
arrive_few n profile whole number tag (ToServer from) few = to_server_few n profile whole number tag from (slot_at whole.ends.server tag.client) few

deliver_few : (n : ℕ) (foreign : Bool) (profile : Profile) (whole : Whole) (number : ℕ) (found : Option Tag) → Few n whole.histories
    → Few n (deliver_as foreign profile whole number found).whole.histories
deliver_few n true profile whole number found few = few
deliver_few n false profile whole number None few = few
deliver_few n false profile whole number (Some tag) few = arrive_few n profile whole number tag tag.direction few

handed_few : (n : ℕ) (whole : Whole) (found : Option Place) (ends : EndsStep) → Few n whole.histories → Few n (with_handed whole found ends).whole.histories
handed_few n whole None ends few = few
handed_few n whole (Some place) ends few = few

-- how many a line may add
abbrev one : Bool → ℕ
one true = 1
one false = 0

-- which is none
none_more : (n : ℕ) (histories : List History) → Few n histories → Few (n + 0) histories
none_more n histories few = few_more n (n + 0) histories (omega arith) few

step_few : (n : ℕ) (profile : Profile) (whole : Whole) (event : Event) → Few n whole.histories → Few (n + one (is_serve event)) (step profile whole event).whole.histories
unfolding step line_of
step_few n profile whole (events.Serve c) few = served_few n whole.histories c (serves.emit_at whole.ends.server c).began few
step_few n profile whole (events.Send c) few = none_more n _ (sent_few n whole c (place_at whole.ends c) few)
step_few n profile whole (events.Deliver number) few = none_more n _ (deliver_few n whole.foreign profile whole number (slice_get whole.sent (number - 1)) few)
step_few n profile whole (events.Bytes number) few = none_more n _ (few)
step_few n profile whole (events.Toclient c bytes) few = none_more n _ (handed_few n whole (place_at whole.ends c) _ few)
step_few n profile whole (events.Toserver c bytes) few = none_more n _ (handed_few n whole (place_at whole.ends c) _ few)
step_few n profile whole (events.Client c challenge qport dup address) few = none_more n _ (noted_few n whole.ends.server whole.histories (events.Client c challenge qport dup address) _ few)
step_few n profile whole (events.Config index text) few = none_more n _ (noted_few n whole.ends.server whole.histories (events.Config index text) _ few)
step_few n profile whole (events.Say c text) few = none_more n _ (noted_few n whole.ends.server whole.histories (events.Say c text) _ few)
step_few n profile whole (events.TypeText c text) few = none_more n _ (noted_few n whole.ends.server whole.histories (events.TypeText c text) _ few)
step_few n profile whole (events.Move c move) few = none_more n _ (noted_few n whole.ends.server whole.histories (events.Move c move) _ few)
step_few n profile whole other few = none_more n _ (few)

-- and all of them
after_few : (n : ℕ) (profile : Profile) (whole : Whole) (all : List Event) → Few n whole.histories → Few (n + length (filter is_serve all)) (after profile whole all).histories
unfolding after
after_few n profile whole [] few = none_more n whole.histories few
after_few n profile whole (event ∷ all) few =
    let next = after_few (n + one (is_serve event)) profile (step profile whole event).whole all (step_few n profile whole event few) in
    elim (cases_Bool (is_serve event)) [
      | inl serves ↦ rw serves (few_more _ _ _ (let made = ap one serves in omega (arith, made)) next)
      | inr other ↦ rw other (few_more _ _ _ (let made = ap one other in omega (arith, made)) next)
    ]

built_few : (profile : Profile) (all : List Event) (c : ℕ) → length (history_at (whole_then profile all).histories c).built ≤ length (filter is_serve all)
unfolding opening
built_few profile all c =
    let serves = length (filter is_serve all) in
    let few = after_few 0 profile (opening profile) all (All-replicate (λ (history : History). length history.built ≤ 0) places no_history (omega arith)) in
    few_at serves (whole_then profile all).histories c (few_more (0 + serves) serves (whole_then profile all).histories (omega arith) few)

pub applied_was_served : BytesFollowTags → AppliedWasBuilt → AppliedWasServed
applied_was_served law applied_was profile all number c applied commands checked are so =
    let stands : Then profile all = stood law profile all checked are in
    let whole = whole_then profile all in
    let holds = holds_of profile (kept_then profile all) whole stands in
    let was = (applied_was profile all number c applied commands checked are so).2 in
    let tag = was.0 in
    let is = is_for profile whole tag was.2 (is_sent profile whole (number - 1) tag was.1 holds) in
    let begun = is.1.begun in
    let few = built_few profile all tag.client in
    let number_is = was.4 in
    omega (arith, begun, few, number_is)
