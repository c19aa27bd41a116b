-- A move with which a client enters a map isn't run: all that were run before it are earlier, and all that are run later are later.
use Rattle.std.proofs.Common.{Bool, List, None, Ok, Option, Some, [], ap, arith, false, get_or, length, refl, subst, sym, ℕ, ◌++◌, ◌+◌, ◌-◌, ◌<◌, ◌∙◌, ◌∷◌, ◌≡◌, ◌≤◌}
use Rattle.std.specs.List.{AllByRecursion}
use Rattle.std.specs.Prelude.{All, Contains, Err, Result, if◌then◌else◌, map, nat_le, nat_lt, option_map, position, slice_get, slice_set, ◌==◌, ◌||◌}
use Rattle.std.proofs.lemmas.Bool.{cond_both}
use Rattle.std.proofs.lemmas.List.{append-nil, append_assoc}
use Rattle.std.proofs.lemmas.List.Elements.{All-append, All-nil, All-weaker, Contains-get_or}
use Rattle.std.proofs.lemmas.List.FromFn.{get_or-map-range_with_len}
use Rattle.q3_bits.specs.Bits.{message_length}
use Rattle.q3_chan.specs.Datagrams.{sequence_end}
use Rattle.q3_chan.specs.Sending.{UnderWay}
use Rattle.q3_chan.specs.Tags.{tagged}
use Rattle.q3_chan.specs.declared.gatherer.Gathered.{Gathered}
use Rattle.q3_chan.specs.declared.gatherer.Gathered.TheVariants as gathered
use Rattle.q3_client.specs.Client.{receive_message, take_gathered, type_at}
use Rattle.q3_client.specs.Moves.{add_move_at}
use Rattle.q3_client.specs.Sending as speaks
use Rattle.q3_client.specs.Sending.{Said, said_bytes}
use Rattle.q3_client.specs.declared.client.MoveError.{MoveError}
use Rattle.q3_clmsg.specs.Values.{Message}
use Rattle.q3_clmsg.specs.declared.moves.Move.{Move}
use Rattle.q3_config.specs.Laws.{piece_texts}
use Rattle.q3_config.specs.Strings.{admit_fault, has_string}
use Rattle.q3_config.specs.declared.error.ConfigError.{ConfigError}
use Rattle.q3_frames.specs.Frames.{FramesState}
use Rattle.q3_gamestate.specs.Values.{Gamestate}
use Rattle.q3_io.specs.declared.address.Address.{Address}
use Rattle.q3_map.specs.Map as of_map
use Rattle.q3_map.specs.Map.{MapState, after_new_map, begins_game, is_other}
use Rattle.q3_map.specs.declared.map.NotLater.{NotLater}
use Rattle.q3_profile.specs.declared.profile.Profile.{Profile}
use Rattle.q3_entity_ring.specs.Snapshot.{Snapshot}
use Rattle.q3_world.specs.ByTags.{IsOwn}
use Rattle.q3_schedules.specs.Schedules.{IsScheduled}
use Rattle.q3_script.specs.declared.event.Event.{Event}
use Rattle.q3_script.specs.declared.event.Event.TheVariants as events
use Rattle.q3_server.specs.Server.{Handed, Saying, add_apart, add_client_at, add_to, change_or, change_unless, emit_at, emit_from, give, new_map_at, on_map, own_string, places, say_at, say_to, set_config_at, slot_at}
use Rattle.q3_server.specs.Taking.{taken_at, unmoved}
use Rattle.q3_server.specs.declared.server.ConfigRefused.{ConfigRefused}
use Rattle.q3_server.specs.declared.server.ConfigRefused.TheVariants.{Own}
use Rattle.q3_server.specs.declared.server.SlotError.{SlotError}
use Rattle.q3_server.specs.declared.server.SlotError.TheVariants.{Range}
use Rattle.q3_built.specs.Built.{Built, is_unclear, number_of, built_bits, built_bytes, plain_bytes}
use Rattle.q3_slot.specs.Emitting.{SlotEmission, begin, begun_next, emit_bits, emit_game, emit_game_bits, emit_built, emit_new, emit_next, emit_slot, is_overlong, most_placed, next_frames, next_game_built, nothing}
use Rattle.q3_slot.specs.Slot.{SlotState, is_active, is_connected, is_of, new_slot, on_new_map, primed, with_area, with_player}
use Rattle.q3_slot.specs.Slots.{SlotSaying, changes_own, issues, lacks_room, say_slot, tells}
use Rattle.q3_slot.specs.Taking as by_slot
use Rattle.q3_slot.specs.Taking.{Came, OfMap, OfOther, Playing, came_as, goes_on, heads_of, last_run_of, last_time, moves_on, runs}
use Rattle.q3_slot.specs.declared.answer.Emitted.TheVariants as emitted
use Rattle.q3_slot.specs.declared.answer.SayError.{SayError}
use Rattle.q3_slot.specs.declared.answer.SayError.TheVariants as refused
use Rattle.q3_slot.specs.declared.stage.ClientStage.{ClientStage}
use Rattle.q3_slot.specs.declared.stage.ClientStage.TheVariants.{Active, Connected, Primed}
use Rattle.q3_slot.specs.declared.taking.ServerTook.{ServerTook}
use Rattle.q3_slot.specs.declared.taking.ServerTook.TheVariants as took
use Rattle.q3_text.specs.declared.text.Command.{Command}
use Rattle.q3_window.specs.Incoming.{gap_in}
use Rattle.q3_window.specs.Outgoing.{with_texts}
use Rattle.q3_window.specs.declared.outgoing.WindowFull.{WindowFull}
use Rattle.q3_slot.specs.declared.taking.Heard.{Heard}
use Rattle.q3_clstate.specs.State.{AppliedState}
use Rattle.q3_client.specs.declared.client.ClientTook.{ClientTook}
use Rattle.q3_report.specs.declared.answer.HandedIn.{HandedIn}
use Rattle.q3_report.specs.declared.answer.HandedIn.TheVariants as handed
use Rattle.q3_report.specs.declared.answer.BaselineRefused.TheVariants as unset
use Rattle.q3_report.specs.declared.answer.Front.TheVariants as fronts
use Rattle.q3_report.specs.declared.answer.TakeRefused.{TakeRefused}
use Rattle.q3_report.specs.Answers.{ByClient, ByServer, Given, Took, Untaken}
use Rattle.q3_ends.specs.AtServer as at_server
use Rattle.q3_ends.specs.AtServer.{ServerStep, in_range, server_line}
use Rattle.q3_world.proofs.Ranged.{in_range_or}
use Rattle.q3_ends.specs.AtClient.{moved, typed}
use Rattle.q3_world.specs.declared.places.Place.{Place}
use Rattle.q3_ends.specs.Recording.{asking}
use Rattle.q3_world.specs.Ends.{client_step_of, line_of, place_at, set_port_of}
use Rattle.q3_world.specs.Kept.{KeptStep}
use Rattle.q3_world.specs.Layers.{Layers}
use Rattle.q3_world.specs.ByTags.{BytesFollowTags, kept_then, whole_then}
use Rattle.q3_schedules.specs.Schedules.{EnteringIsNotRun, ServerTookSo}
use Rattle.q3_world.specs.StandsFor.{IsChecked, IsSent}
use Rattle.q3_world.specs.World.{History, Step, Tag, Whole, arrive, deliver, game_in, history_at, named, no_history, no_said, opening, said_under, send, serve, step, to_client, to_server, with_built, with_game, with_heard, with_history, with_issued, with_run, with_said, with_spoken, with_taken, with_texts_told, with_told, with_typed, texts_told, deliver_as}
use Rattle.q3_world.specs.declared.made.Direction.{Direction}
use Rattle.q3_world.specs.declared.made.Direction.TheVariants.{ToClient, ToServer}
use Rattle.q3_world.proofs.Arriving.{is_of_client, is_sent}
use Rattle.q3_world.proofs.Holding.{Holds, has_slot}
use Rattle.q3_world.proofs.ByTags.{cited_of}
use Rattle.q3_world.proofs.EverySlot.{slot_changed}
use Rattle.q3_schedules.proofs.Following.{all_at, all_first}
use Rattle.q3_schedules.proofs.FollowsGiven.{both_changed, history_changed, joining, noting, one_changed}
use Rattle.q3_world.proofs.GamesMoves.{last_least, rise_most}
use Rattle.q3_world.proofs.GamesParts.{none_some, some_same}
use Rattle.q3_world.proofs.Growth.{noted_same}
use Rattle.q3_world.proofs.Mapped.{enters_late}
use Rattle.q3_world.proofs.MoveLists.{later, runs_rise}
use Rattle.q3_world.proofs.OnePlace.{set_there}
use Rattle.q3_schedules.proofs.Stood.{Stood, after_both, after_one, delivers_same, holds_of, step_own, stood}

-- ---- the moves of a message

-- what is run is later than a time, and the last move run isn't before it
record IsLater (time last_run : ℕ) (moves : List Move) : Type 0 where
  last : time ≤ last_run
  each : All (λ (one : Move). time < one.time) moves

-- how a slot goes on after the last move run: what is run is later than any time up to that one; and where its client enters the
-- map, it does so after that one, and what is run is later
record Goes (last last_run : ℕ) (entered : Option ℕ) (moves : List Move) : Type 0 where
  keeps : (time : ℕ) → time ≤ last → IsLater time last_run moves
  above : (time : ℕ) → entered ≡ Some time → last < time
  enters : (time : ℕ) → entered ≡ Some time → IsLater time last_run moves

abbrev GoesPlaying : ℕ → Playing → Type 0
GoesPlaying last playing = Goes last playing.last_run playing.entered playing.moves

-- where nothing is run
goes_nothing : (last : ℕ) → Goes last last None []
goes_nothing last =
    record {
      keeps = λ time le. record { last = le; each = All-nil (λ (one : Move). time < one.time) };
      above = λ time e. absurd (none_some time e);
      enters = λ time e. absurd (none_some time e);
    }

-- moves that are run after a time
runs_later : (before time : ℕ) (moves : List Move) → time ≤ before → IsLater time (last_run_of before moves) (runs before moves)
runs_later before time moves le =
    let rise = runs_rise before moves in
    let least = last_least before (runs before moves) rise in
    record {
      last = omega (arith, le, least);
      each = All-weaker (λ (one : Move). before < one.time) (λ (one : Move). time < one.time) (λ one lt. omega (arith, le, lt)) (runs before moves) (later before (runs before moves) rise);
    }

-- of a client that doesn't play each move of a message is later than the last one run
abbrev EntersLate : SlotState → Message → Type 0
EntersLate slot message = (one : Move) (others : List Move) → message.moves ≡ one ∷ others → is_active slot.stage ≡ false → slot.last_run < one.time

-- the moves of a message
goes_playing : (slot : SlotState) (message : Message) → EntersLate slot message → GoesPlaying slot.last_run (goes_on slot message message.moves)
goes_playing slot message enters = with_moves message.moves refl
  where
    at_stage : (one : Move) (others : List Move) (stage : ClientStage) → message.moves ≡ one ∷ others → slot.stage ≡ stage
        → GoesPlaying slot.last_run (moves_on slot message one others stage)
    at_stage one others Connected is at = goes_nothing slot.last_run
    at_stage one others (Primed game) is at =
        let late = enters one others is (ap is_active at) in
        record {
          keeps = λ time le. runs_later one.time time others (omega (arith, le, late));
          above = λ time e. let same = some_same one.time time e in omega (arith, same, late);
          enters = λ time e. let same = some_same one.time time e in runs_later one.time time others (omega (arith, same));
        }
    at_stage one others (Active game) is at =
        record {
          keeps = λ time le. runs_later slot.last_run time message.moves le;
          above = λ time e. absurd (none_some time e);
          enters = λ time e. absurd (none_some time e);
        }

    with_moves : (moves : List Move) → message.moves ≡ moves → GoesPlaying slot.last_run (goes_on slot message moves)
    with_moves [] is = goes_nothing slot.last_run
    with_moves (one ∷ others) is = at_stage one others slot.stage is refl

-- ---- what a slot takes

-- a slot goes on so, and where its client enters the map the answer says that it ran
record TakesSo (last c : ℕ) (taken : by_slot.SlotTaken) : Type 0 where
  goes : Goes last taken.slot.last_run taken.heard.entered taken.heard.moves.items
  ran : (time : ℕ) → taken.heard.entered ≡ Some time → (n : ℕ) × (taken.answer ≡ took.Ran c n)

takes_nothing : (slot : SlotState) (c : ℕ) (answer : ServerTook) → TakesSo slot.last_run c (by_slot.answers slot answer)
takes_nothing slot c answer = record { goes = goes_nothing slot.last_run; ran = λ time e. absurd (none_some time e) }

takes_unless : (slot : SlotState) (c number : ℕ) (message : Message) → EntersLate slot message → (gap : Option ℕ) → TakesSo slot.last_run c (by_slot.run_unless slot c number message gap)
takes_unless slot c number message enters None = record { goes = goes_playing slot message enters; ran = λ time e. (number, refl) }
takes_unless slot c number message enters (Some gap) = takes_nothing slot c (took.Gap c gap)

takes_read : (of_server : MapState) (slot : SlotState) (c number : ℕ) (message : Message) → (is_other of_server message.id ≡ false → EntersLate slot message)
    → TakesSo slot.last_run c (by_slot.run_read of_server slot c number (Ok (came_as of_server message)))
takes_read of_server slot c number message enters =
    cond_both (is_other of_server message.id) (OfOther (heads_of message)) (OfMap message) (λ (came : Came). TakesSo slot.last_run c (by_slot.run_read of_server slot c number (Ok came)))
    (λ e. record { goes = goes_nothing slot.last_run; ran = λ time entered. absurd (none_some time entered) })
    (λ e. takes_unless slot c number message (enters e) (gap_in slot.executed.executed message.commands))

takes_answer : (of_server : MapState) (slot : SlotState) (c : ℕ) (message : Message) → (is_other of_server message.id ≡ false → EntersLate slot message) → (answer : Gathered)
    → TakesSo slot.last_run c (by_slot.take_answer of_server slot c answer (λ k. Ok (came_as of_server message)))
takes_answer of_server slot c message enters (gathered.Whole number count) = takes_read of_server slot c number message enters
takes_answer of_server slot c message enters gathered.Partial = takes_nothing slot c (took.Partial c)
takes_answer of_server slot c message enters gathered.Old = takes_nothing slot c (took.Old c)
takes_answer of_server slot c message enters gathered.OutOfOrder = takes_nothing slot c (took.OutOfOrder c)
takes_answer of_server slot c message enters gathered.BadFragment = takes_nothing slot c (took.BadFragment c)
takes_answer of_server slot c message enters gathered.BadCheck = takes_nothing slot c (took.BadCheck c)
takes_answer of_server slot c message enters gathered.Runt = takes_nothing slot c took.Runt
takes_answer of_server slot c message enters gathered.Connectionless = takes_nothing slot c took.Connectionless

-- what the slot of a tag's client takes
abbrev taken_by : Profile → Whole → Tag → Address → SlotState → by_slot.SlotTaken
taken_by profile whole tag from slot =
    by_slot.take_gathered whole.ends.server.map (record slot { address = from }) tag.client (tagged slot.gathering tag.number (said_bytes profile (said_under whole.histories tag)) tag.index)
    (λ n. Ok (came_as whole.ends.server.map (said_under whole.histories tag).message))

takes_tag : (profile : Profile) (whole : Whole) (tag : Tag) (from : Address) (slot : SlotState) → IsSent profile whole.histories tag → tag.direction ≡ ToServer from
    → slot_at whole.ends.server tag.client ≡ Some slot → Holds profile whole → TakesSo slot.last_run tag.client (taken_by profile whole tag from slot)
takes_tag profile whole tag from slot sent way at holds =
    let of_server = whole.ends.server.map in
    let history = history_at whole.histories tag.client in
    let said = said_under whole.histories tag in
    let piece = is_of_client profile whole tag from way sent in
    let some = piece.2.some in
    let begun = piece.2.begun in
    let there : Contains history.said said = Contains-get_or history.said (tag.number - 1) no_said (omega (arith, some, begun)) in
    let had = has_slot profile whole tag.client slot sent.client at holds in
    let gathering = tagged slot.gathering tag.number (said_bytes profile said) tag.index in
    takes_answer of_server (record slot { address = from; gathering = gathering.gathering }) tag.client said.message
    (λ same. enters_late of_server slot had.0.client history said there same had.1.joined.mapped) gathering.answer

-- ---- what was run since

-- after the moves that were run once, only later ones were, and the slot's last isn't before that time
record IsPast (old : List Move) (time : ℕ) (slot : SlotState) (run : List Move) : Type 0 where
  last : time ≤ slot.last_run
  after : List Move
  is : run ≡ old ++ after
  each : All (λ (one : Move). time < one.time) after

abbrev Past : List Move → ℕ → Option SlotState → List Move → Type 0
Past old time None run = ⊥
Past old time (Some slot) run = IsPast old time slot run

abbrev At : List Move → ℕ → ℕ → Whole → Type 0
At old time c whole = Past old time (slot_at whole.ends.server c) (history_at whole.histories c).run

-- what was run later
past_later : (old : List Move) (time : ℕ) (found : Option SlotState) (run : List Move) → Past old time found run
    → (after : List Move) × (run ≡ old ++ after) × All (λ (one : Move). time < one.time) after
past_later old time None run is = absurd is
past_later old time (Some slot) run is = (is.after, is.is, is.each)

-- where nothing is run
past_same : (old : List Move) (time : ℕ) (slot next : SlotState) (run now : List Move) → next.last_run ≡ slot.last_run → now ≡ run → IsPast old time slot run → IsPast old time next now
past_same old time slot next run now last same is =
    let least = is.last in
    record { last = omega (arith, least, last); after = is.after; is = same ∙ is.is; each = is.each }

past_run : (old : List Move) (time : ℕ) (found : Option SlotState) (run now : List Move) → now ≡ run → Past old time found run → Past old time found now
past_run old time found run now same is = subst (λ (moves : List Move). Past old time found moves) (sym same) is

past_mapped : (old : List Move) (time : ℕ) (change : SlotState → SlotState) (found : Option SlotState) (run : List Move) → ((slot : SlotState) → (change slot).last_run ≡ slot.last_run)
    → Past old time found run → Past old time (option_map change found) run
past_mapped old time change None run stays is = is
past_mapped old time change (Some slot) run stays is = past_same old time slot (change slot) run run (stays slot) refl is

-- and after what a slot takes
past_takes : (old : List Move) (time c : ℕ) (slot : SlotState) (taken : by_slot.SlotTaken) (run : List Move) → TakesSo slot.last_run c taken → IsPast old time slot run
    → IsPast old time taken.slot (run ++ taken.heard.moves.items)
past_takes old time c slot taken run takes is =
    let kept = takes.goes.keeps time is.last in
    record {
      last = kept.last;
      after = is.after ++ taken.heard.moves.items;
      is = ap (λ (moves : List Move). moves ++ taken.heard.moves.items) is.is ∙ append_assoc old is.after taken.heard.moves.items;
      each = All-append (λ (one : Move). time < one.time) is.after taken.heard.moves.items is.each kept.each;
    }

-- ---- where nothing is run

said_last : (slot : SlotState) (text : List ℕ) → (say_slot slot text).slot.last_run ≡ slot.last_run
said_last slot text =
    cond_both (changes_own text) (record { slot = slot; answer = Err refused.Own })
    (if is_connected slot.stage then record { slot = slot; answer = Err refused.NotPrimed } else issues slot text)
    (λ (saying : SlotSaying). saying.slot.last_run ≡ slot.last_run) (λ e. refl)
    (λ e. cond_both (is_connected slot.stage) (record { slot = slot; answer = Err refused.NotPrimed }) (issues slot text)
    (λ (saying : SlotSaying). saying.slot.last_run ≡ slot.last_run) (λ e. refl) (λ e. refl))

told_last : (texts : List (List ℕ)) (slot : SlotState) → (tells texts slot).last_run ≡ slot.last_run
told_last texts slot =
    cond_both (is_connected slot.stage) slot (record slot { issued = with_texts slot.issued texts }) (λ (next : SlotState). next.last_run ≡ slot.last_run) (λ e. refl) (λ e. refl)

-- a message that is begun
abbrev Leaves : SlotState → SlotEmission → Type 0
Leaves slot emission = emission.slot.last_run ≡ slot.last_run

bits_leave : (slot : SlotState) (of_server : MapState) (frames : FramesState) (built : Built) (bits : List Bool) → Leaves slot (emit_bits slot of_server frames built bits)
bits_leave slot of_server frames built bits =
    cond_both (is_overlong bits) (nothing slot of_server frames emitted.Overlong)
    (begin slot of_server frames (emitted.Snapshot (slot.sending.number + 1) (number_of built.base) (message_length (length bits))) built bits)
    (Leaves slot) (λ e. refl) (λ e. refl)

game_leaves : (slot : SlotState) (of_server : MapState) (frames : FramesState) (built : Built) (bits : List Bool) → Leaves slot (emit_game_bits slot of_server frames built bits)
game_leaves slot of_server frames built bits =
    cond_both (is_overlong bits) (nothing slot of_server frames emitted.Overlong)
    (begin (primed slot (slot.sending.number + 1)) (begins_game of_server) frames (emitted.Game (slot.sending.number + 1) (message_length (length bits))) built bits)
    (Leaves slot) (λ e. refl) (λ e. refl)

next_leaves : (profile : Profile) (of_server : MapState) (frames : FramesState) (c : ℕ) (slot : SlotState) → Leaves slot (emit_next profile of_server frames c slot)
next_leaves profile of_server frames c slot =
    let game = next_game_built profile of_server c slot in
    let next = begun_next profile of_server frames c slot in
    cond_both slot.owed (emit_game profile slot of_server frames game) (emit_built profile slot of_server (next_frames of_server frames c slot) next) (Leaves slot)
    (λ e. game_leaves slot of_server frames game (built_bits profile game)) (λ e. bits_leave slot of_server (next_frames of_server frames c slot) next (built_bits profile next))

new_leaves : (profile : Profile) (of_server : MapState) (frames : FramesState) (c : ℕ) (slot : SlotState) → Leaves slot (emit_new profile of_server frames c slot)
new_leaves profile of_server frames c slot =
    cond_both (nat_le sequence_end (slot.sending.number + 1) || nat_lt most_placed frames.placed) (nothing slot of_server frames emitted.SequenceEnd)
    (if is_unclear profile slot.executed.executed then nothing slot of_server frames emitted.Unclear else emit_next profile of_server frames c slot)
    (Leaves slot) (λ e. refl)
    (λ e. cond_both (is_unclear profile slot.executed.executed) (nothing slot of_server frames emitted.Unclear) (emit_next profile of_server frames c slot)
    (Leaves slot) (λ e. refl) (λ e. next_leaves profile of_server frames c slot))

emission_leaves : (profile : Profile) (of_server : MapState) (frames : FramesState) (c : ℕ) (slot : SlotState) (left : Option UnderWay) → Leaves slot (emit_slot profile of_server frames c slot left)
emission_leaves profile of_server frames c slot None = new_leaves profile of_server frames c slot
emission_leaves profile of_server frames c slot (Some left) = refl

-- what is noted but a run
built_run : (history : History) (began : Option Built) → (with_built history began).run ≡ history.run
built_run history None = refl
built_run history (Some next) = refl

said_run : (history : History) (began : Option Said) → (with_said history began).run ≡ history.run
said_run history None = refl
said_run history (Some said) = refl

spoken_run : (history : History) (text : List ℕ) (k : ℕ) (answer : Result ℕ SayError) → (with_spoken history text (Given (handed.Say k answer))).run ≡ history.run
spoken_run history text k (Ok number) = refl
spoken_run history text k (Err e) = refl

typed_run : (history : History) (text : List ℕ) (k : ℕ) (answer : Result ℕ WindowFull) → (with_typed history text (Given (typed k answer))).run ≡ history.run
typed_run history text k (Ok number) = refl
typed_run history text k (Err e) = refl

moved_run : (history : History) (one : Move) (k : ℕ) (answer : Result (Unit {0}) MoveError) → (with_issued history one (Given (moved k answer))).run ≡ history.run
moved_run history one k (Ok x) = refl
moved_run history one k (Err e) = refl

taken_run : (history : History) (accepted : Option Snapshot) (commands : List Command) (number time : ℕ) (game : Option Gamestate)
    → (with_game (with_heard history accepted commands) number time game).run ≡ history.run
taken_run history None commands number time None = refl
taken_run history None commands number time (Some game) = refl
taken_run history (Some snapshot) commands number time None = refl
taken_run history (Some snapshot) commands number time (Some game) = refl

-- ---- events

-- a client that asks to join
abbrev JoinsSo : Profile → List Move → ℕ → ℕ → Whole → ℕ → ℕ → ℕ → ℕ → Address → Handed SlotError → Type 0
JoinsSo profile old time c whole k challenge qport dup address added = At old time c (joining profile whole k challenge qport dup address added)

-- a config string that is handed in
abbrev ConfigSo : List Move → ℕ → ℕ → Whole → ℕ → List ℕ → Handed ConfigRefused → Type 0
ConfigSo old time c whole index text change =
    Past old time (slot_at change.server c) (history_at (with_told whole.ends.server index text (Given (handed.Config index change.answer)) whole.histories) c).run

-- a command of the server
abbrev SpeaksSo : List Move → ℕ → ℕ → Whole → ℕ → List ℕ → Saying → Type 0
SpeaksSo old time c whole k text said =
    Past old time (slot_at said.server c) (history_at (with_history whole.histories k (with_spoken (history_at whole.histories k) text (Given (handed.Say k said.answer)))) c).run

module _ (profile : Profile) (whole : Whole) (old : List Move) (time c : ℕ) (lt : c < places) (holds : Holds profile whole) (is : At old time c whole) where
  -- nothing new is noted of a client
  unnoted : (k : ℕ) → Past old time (slot_at whole.ends.server c) (history_at (with_history whole.histories k (history_at whole.histories k)) c).run
  unnoted k = subst (λ (h : List History). Past old time (slot_at whole.ends.server c) (history_at h c).run) (sym (noted_same whole.histories k)) is

  -- or nothing that is run
  noted : (k : ℕ) (next : History) → next.run ≡ (history_at whole.histories k).run → Past old time (slot_at whole.ends.server c) (history_at (with_history whole.histories k next) c).run
  noted k next same =
      history_changed (λ (h : History). Past old time (slot_at whole.ends.server c) h.run) whole.histories c k next holds.facts.histories lt
      (past_run old time (slot_at whole.ends.server c) (history_at whole.histories k).run next.run same) is

  -- a slot that is there changes, and what is noted of its client
  put : (k : ℕ) (slot slot' : SlotState) (next : History) → slot_at whole.ends.server k ≡ Some slot → slot'.last_run ≡ slot.last_run → next.run ≡ (history_at whole.histories k).run
      → Past old time (get_or (slice_set whole.ends.server.slots k (Some slot')) c None) (history_at (with_history whole.histories k next) c).run
  put k slot slot' next at last same =
      both_changed (λ (s : Option SlotState) (h : History). Past old time s h.run) whole.ends.server.slots whole.histories c k (Some slot') next holds.facts.slots holds.facts.histories lt
      (λ was. past_same old time slot slot' (history_at whole.histories k).run next.run last same
      (subst (λ (s : Option SlotState). Past old time s (history_at whole.histories k).run) at was)) is

  -- a change of one slot
  gives : (k : ℕ) (change : SlotState → SlotState) → ((slot : SlotState) → (change slot).last_run ≡ slot.last_run) → (found : Option SlotState) → slot_at whole.ends.server k ≡ found
      → Past old time (slot_at (give whole.ends.server k change found).server c) (history_at whole.histories c).run
  gives k change stays None at = is
  gives k change stays (Some slot) at =
      let run = (history_at whole.histories c).run in
      one_changed (λ (s : Option SlotState). Past old time s run) whole.ends.server.slots c k (Some (change slot)) holds.facts.slots lt
      (λ was. past_same old time slot (change slot) run run (stays slot) refl (subst (λ (s : Option SlotState). Past old time s run) at was)) is

  joins_apart : (k challenge qport dup : ℕ) (address : Address) → slot_at whole.ends.server k ≡ None → (twin : Option ℕ)
      → JoinsSo profile old time c whole k challenge qport dup address (add_apart whole.ends.server k (new_slot whole.ends.server.profile.protocol challenge qport address) twin)
  joins_apart k challenge qport dup address none (Some twin) = unnoted k
  joins_apart k challenge qport dup address none None =
      let history = history_at whole.histories k in
      both_changed (λ (s : Option SlotState) (h : History). Past old time s h.run) whole.ends.server.slots whole.histories c k (Some (new_slot whole.ends.server.profile.protocol challenge qport address))
      (record history { challenge = challenge; qport = qport; host = address.host }) holds.facts.slots holds.facts.histories lt
      (λ was. absurd (subst (λ (s : Option SlotState). Past old time s history.run) none was)) is

  joins_to : (k challenge qport dup : ℕ) (address : Address) (found : Option SlotState) → slot_at whole.ends.server k ≡ found
      → JoinsSo profile old time c whole k challenge qport dup address (add_to whole.ends.server k (new_slot whole.ends.server.profile.protocol challenge qport address) found)
  joins_to k challenge qport dup address None none = joins_apart k challenge qport dup address none (position (is_of address.host qport) whole.ends.server.slots)
  joins_to k challenge qport dup address (Some slot) at = unnoted k

  -- a client asks to join
  joins : (k challenge qport dup : ℕ) (address : Address)
      → At old time c (joining profile whole k challenge qport dup address (add_client_at whole.ends.server k challenge qport address))
  joins k challenge qport dup address =
      cond_both (nat_le (length whole.ends.server.slots) k) (record { server = whole.ends.server; answer = Err Range })
      (add_to whole.ends.server k (new_slot whole.ends.server.profile.protocol challenge qport address) (slot_at whole.ends.server k))
      (JoinsSo profile old time c whole k challenge qport dup address) (λ e. unnoted k)
      (λ e. joins_to k challenge qport dup address (slot_at whole.ends.server k) refl)

  -- its datagrams come from another port
  ports : (k port : ℕ) (found : Option Place) → Past old time (slot_at (set_port_of whole.ends k port found).ends.server c) (history_at whole.histories c).run
  ports k port None = is
  ports k port (Some place) = is

  -- a line of a client's own of which nothing is noted
  owns : (k : ℕ) (event : Event) (found : Option Place) → Past old time (slot_at (client_step_of whole.ends k event found).ends.server c) (history_at whole.histories c).run
  owns k event None = is
  owns k event (Some place) = is

  -- a new map
  maps : (id feed : ℕ) → Past old time (slot_at (new_map_at whole.ends.server id feed).server c) (history_at whole.histories c).run
  maps id feed =
      let server = whole.ends.server in
      let run = (history_at whole.histories c).run in
      cond_both (nat_le id server.map.id) (record { map = server.map; answer = Err (record { last = server.map.id }) }) (record { map = after_new_map server.map id feed; answer = Ok tt })
      (λ (h : of_map.Handed NotLater). Past old time (get_or (on_map server.slots h.answer) c None) run) (λ e. is)
      (λ e. subst (λ (s : Option SlotState). Past old time s run) (sym (slot_changed on_new_map server.slots c))
      (past_mapped old time on_new_map (slot_at server c) run (λ slot. refl) is))

  config_changes : (index : ℕ) (text : List ℕ) → has_string whole.ends.server.map.strings index text ≡ false → (full : Option ℕ)
      → ConfigSo old time c whole index text (change_unless whole.ends.server index text full)
  config_changes index text apart (Some k) = is
  config_changes index text apart None =
      let server = whole.ends.server in
      let texts = piece_texts index text in
      let histories = whole.histories in
      let there : history_at (with_texts_told server texts histories) c
      ≡ record (history_at histories c) { server_commands = (history_at histories c).server_commands ++ texts_told texts (slot_at server c) } =
      get_or-map-range_with_len (λ (j : ℕ). record (history_at histories j) { server_commands = (history_at histories j).server_commands ++ texts_told texts (slot_at server j) }) 0 places c c no_history lt (omega arith) in
      subst (λ (b : Bool). Past old time (get_or (map (option_map (tells texts)) server.slots) c None) (history_at (if b then histories else with_texts_told server texts histories) c).run) (sym apart)
      (subst (λ (h : History). Past old time (get_or (map (option_map (tells texts)) server.slots) c None) h.run) (sym there)
      (subst (λ (s : Option SlotState). Past old time s (history_at histories c).run) (sym (slot_changed (tells texts) server.slots c))
      (past_mapped old time (tells texts) (slot_at server c) (history_at histories c).run (told_last texts) is)))

  config_or : (index : ℕ) (text : List ℕ) (fault : Option ConfigError) → ConfigSo old time c whole index text (change_or whole.ends.server index text fault)
  config_or index text (Some fault) = is
  config_or index text None =
      let server = whole.ends.server in
      cond_both (has_string server.map.strings index text) (record { server = server; answer = Ok tt }) (change_unless server index text (position (lacks_room (piece_texts index text)) server.slots))
      (ConfigSo old time c whole index text)
      (λ e. subst (λ (b : Bool). Past old time (slot_at server c) (history_at (if b then whole.histories else with_texts_told server (piece_texts index text) whole.histories) c).run) (sym e) is)
      (λ e. config_changes index text e (position (lacks_room (piece_texts index text)) server.slots))

  configs : (index : ℕ) (text : List ℕ) → ConfigSo old time c whole index text (set_config_at whole.ends.server index text)
  configs index text =
      let server = whole.ends.server in
      cond_both (index == own_string) (record { server = server; answer = Err Own }) (change_or server index text (admit_fault server.map.strings index text))
      (ConfigSo old time c whole index text) (λ e. is) (λ e. config_or index text (admit_fault server.map.strings index text))

  says_to : (k : ℕ) (text : List ℕ) (found : Option SlotState) → slot_at whole.ends.server k ≡ found
      → SpeaksSo old time c whole k text (say_to whole.ends.server k text found)
  says_to k text None at = unnoted k
  says_to k text (Some slot) at =
      let saying = say_slot slot text in
      put k slot saying.slot (with_spoken (history_at whole.histories k) text (Given (handed.Say k saying.answer))) at (said_last slot text) (spoken_run (history_at whole.histories k) text k saying.answer)

  -- a command of the server
  says : (k : ℕ) (text : List ℕ) → SpeaksSo old time c whole k text (say_at whole.ends.server k text)
  says k text = says_to k text (slot_at whole.ends.server k) refl

  -- one of a client
  types : (k : ℕ) (text : List ℕ) (found : Option Place)
      → At old time c (noting whole k (client_step_of whole.ends k (events.TypeText k text) found) (with_typed (history_at whole.histories k) text))
  types k text None = unnoted k
  types k text (Some place) =
      let answer = (type_at place.client text).answer in
      noted k (with_typed (history_at whole.histories k) text (Given (typed k answer))) (typed_run (history_at whole.histories k) text k answer)

  -- a move that is issued
  moves : (k : ℕ) (one : Move) (found : Option Place)
      → At old time c (noting whole k (client_step_of whole.ends k (events.Move k one) found) (with_issued (history_at whole.histories k) one))
  moves k one None = unnoted k
  moves k one (Some place) =
      let answer = (add_move_at place.client one).answer in
      noted k (with_issued (history_at whole.histories k) one (Given (moved k answer))) (moved_run (history_at whole.histories k) one k answer)

  -- a client's datagram is made
  sends : (k : ℕ) (found : Option Place) → At old time c (send whole k found).whole
  sends k None = is
  sends k (Some place) =
      let began = (speaks.emit_at (asking place.client place.recording)).began in
      noted k (with_said (history_at whole.histories k) began) (said_run (history_at whole.histories k) began)

  -- or the server's
  serves : (k : ℕ) (found : Option SlotState) → slot_at whole.ends.server k ≡ found → At old time c (serve whole k (emit_from whole.ends.server k found)).whole
  serves k None at = unnoted k
  serves k (Some slot) at =
      let server = whole.ends.server in
      let emission = emit_slot server.profile server.map server.frames k slot slot.sending.under_way in
      put k slot emission.slot (with_built (history_at whole.histories k) emission.began) at (emission_leaves server.profile server.map server.frames k slot slot.sending.under_way)
      (built_run (history_at whole.histories k) emission.began)

  -- a datagram comes to a client
  comes_to_client : (datagram : ℕ) (tag : Tag) (found : Option Place) → At old time c (to_client profile whole datagram tag found).whole
  comes_to_client datagram tag None = is
  comes_to_client datagram tag (Some place) =
      let client = place.client in
      let k = tag.client in
      let history = history_at whole.histories k in
      let built = named whole.histories tag in
      let taken = take_gathered client (tagged client.gathering tag.number (built_bytes profile built) tag.index) (λ n. Ok (receive_message client n built.message (plain_bytes profile built))) in
      noted k (with_taken history tag.number built.message.section taken)
      (taken_run history taken.accepted taken.heard tag.number taken.client.last_time (game_in taken.answer built.message.section))

  -- or to the server
  comes_to_server : (datagram : ℕ) (tag : Tag) (from : Address) → IsSent profile whole.histories tag → tag.direction ≡ ToServer from → (found : Option SlotState)
      → slot_at whole.ends.server tag.client ≡ found → At old time c (to_server profile whole datagram tag from found).whole
  comes_to_server datagram tag from sent way None at =
      let history = history_at whole.histories tag.client in
      noted tag.client (with_run history (unmoved whole.ends.server took.Stranger).heard) (append-nil history.run)
  comes_to_server datagram tag from sent way (Some slot) at =
      let server = whole.ends.server in
      let history = history_at whole.histories tag.client in
      let taken = taken_by profile whole tag from slot in
      let takes = takes_tag profile whole tag from slot sent way at holds in
      both_changed (λ (s : Option SlotState) (h : History). Past old time s h.run) server.slots whole.histories c tag.client (Some taken.slot)
      (with_run history (taken_at server tag.client taken).heard) holds.facts.slots holds.facts.histories lt
      (λ was. past_takes old time tag.client slot taken history.run takes (subst (λ (s : Option SlotState). Past old time s history.run) at was)) is

  comes_to : (datagram : ℕ) (tag : Tag) → IsSent profile whole.histories tag → (direction : Direction) → tag.direction ≡ direction → At old time c (arrive profile whole datagram tag direction).whole
  comes_to datagram tag sent ToClient way = comes_to_client datagram tag (place_at whole.ends tag.client)
  comes_to datagram tag sent (ToServer from) way = comes_to_server datagram tag from sent way (slot_at whole.ends.server tag.client) refl

  delivers : (number : ℕ) (found : Option Tag) → slice_get whole.sent (number - 1) ≡ found → At old time c (deliver profile whole number found).whole
  delivers number None at = is
  delivers number (Some tag) at = comes_to number tag (is_sent profile whole (number - 1) tag at holds) tag.direction refl

  -- a line about an entity
  in_range_past : (number : ℕ) (refusal : HandedIn) (step : ServerStep) → Past old time (slot_at step.server c) (history_at whole.histories c).run
      → Past old time (slot_at (in_range whole.ends.server number refusal step).server c) (history_at whole.histories c).run
  in_range_past number refusal step within =
      in_range_or (λ (done : ServerStep). Past old time (slot_at done.server c) (history_at whole.histories c).run) whole.ends.server number refusal step (λ below. within) is

  -- every event
  past_on : (event : Event) → IsOwn event → At old time c (step profile whole event).whole
  unfolding step line_of server_line emit_at
  past_on (events.Client k challenge qport dup address) own = joins k challenge qport dup address
  past_on (events.Port k port) own = ports k port (place_at whole.ends k)
  past_on (events.Map id feed) own = maps id feed
  past_on (events.Baseline state) own =
      in_range_past state.number (handed.Baseline state.number (Err unset.OutOfRange)) (at_server.set_baseline whole.ends.server state) is
  past_on (events.Entity state) own = in_range_past state.number (handed.Entity state.number (Err (record {}))) (at_server.set_entity whole.ends.server state) is
  past_on (events.Remove number) own = in_range_past number (handed.Remove number (Err (record {}))) (at_server.remove_entity whole.ends.server number) is
  past_on (events.Config index text) own = configs index text
  past_on (events.Player k player) own = gives k (λ slot. with_player whole.ends.server.profile slot player) (λ slot. refl) (slot_at whole.ends.server k) refl
  past_on (events.Area k area) own = gives k (λ slot. with_area slot area.items) (λ slot. refl) (slot_at whole.ends.server k) refl
  past_on (events.Say k text) own = says k text
  past_on (events.TypeText k text) own = types k text (place_at whole.ends k)
  past_on (events.Move k one) own = moves k one (place_at whole.ends k)
  past_on (events.Serve k) own = serves k (slot_at whole.ends.server k) refl
  past_on (events.Send k) own = sends k (place_at whole.ends k)
  past_on (events.Deliver number) own =
      subst (λ (b : Bool). At old time c (deliver_as b profile whole number (slice_get whole.sent (number - 1))).whole) (sym holds.own) (delivers number (slice_get whole.sent (number - 1)) refl)
  past_on (events.RecordTo k name) own = owns k (events.RecordTo k name) (place_at whole.ends k)
  past_on (events.Stop k) own = owns k (events.Stop k) (place_at whole.ends k)
  past_on (events.Show k) own = owns k (events.Show k) (place_at whole.ends k)
  past_on (events.Toclient k bytes) own = absurd own
  past_on (events.Toserver k bytes) own = absurd own
  past_on event own = is

-- ---- the delivery with which a client enters the map

-- what was run before is earlier, and from then on only later moves are
record EntersAt (whole : Whole) (c time : ℕ) (now : Whole) : Type 0 where
  before : All (λ (one : Move). one.time < time) (history_at whole.histories c).run
  past : At (history_at whole.histories c).run time c now

abbrev EntersWith : Whole → ℕ → ℕ → ℕ → ℕ → Step → Type 0
EntersWith whole number c n time next = (run : Heard) → ServerTookSo next.answer number (took.Ran c n) run → run.entered ≡ Some time → EntersAt whole c time next.whole

-- two answers of a server that ran a message
same_ran : (number c n : ℕ) (answer : ServerTook) (ran run : Heard) → ServerTookSo (Took (fronts.Deliver number) (ByServer answer ran)) number (took.Ran c n) run → (answer ≡ took.Ran c n) × (ran ≡ run)
same_ran number c n answer ran run e = (cc, cc)

same_client : (answer : ServerTook) (c k n m : ℕ) → answer ≡ took.Ran k m → answer ≡ took.Ran c n → k ≡ c
same_client answer c k n m is so = one_client (sym is ∙ so)
  where
    one_client : took.Ran k m ≡ took.Ran c n → k ≡ c
    one_client same = cc

stranger_not_ran : (c n : ℕ) → took.Stranger ≡ took.Ran c n → ⊥
stranger_not_ran c n e = absurd cc

enters_to : (profile : Profile) (whole : Whole) (number c n time : ℕ) (tag : Tag) (from : Address) → Holds profile whole → IsSent profile whole.histories tag → tag.direction ≡ ToServer from
    → (found : Option SlotState) → slot_at whole.ends.server tag.client ≡ found → EntersWith whole number c n time (to_server profile whole number tag from found)
enters_to profile whole number c n time tag from holds sent way None at run answered entered =
    absurd (stranger_not_ran c n (same_ran number c n took.Stranger (unmoved whole.ends.server took.Stranger).heard run answered).0)
enters_to profile whole number c n time tag from holds sent way (Some slot) at run answered entered =
    let server = whole.ends.server in
    let k = tag.client in
    let history = history_at whole.histories k in
    let taken = taken_by profile whole tag from slot in
    let next = with_run history (taken_at server k taken).heard in
    let takes = takes_tag profile whole tag from slot sent way at holds in
    let same = same_ran number c n taken.answer (taken_at server k taken).heard run answered in
    let enters : taken.heard.entered ≡ Some time = ap (λ (r : Heard). r.entered) same.1 ∙ entered in
    let ran = takes.ran time enters in
    let above = takes.goes.above time enters in
    let after = takes.goes.enters time enters in
    let keeps = (has_slot profile whole k slot sent.client at holds).1.keeps.of_slot in
    let last = keeps.last in
    let past : IsPast history.run time taken.slot next.run = record { last = after.last; after = taken.heard.moves.items; is = refl; each = after.each } in
    subst (λ (j : ℕ). EntersAt whole j time (to_server profile whole number tag from (Some slot)).whole) (same_client taken.answer c k n ran.0 ran.1 same.0)
    (record {
      before = All-weaker (λ (one : Move). one.time ≤ last_time 0 history.run) (λ (one : Move). one.time < time) (λ one most. omega (arith, most, last, above)) history.run
          (rise_most 0 history.run keeps.rise);
      past = subst (λ (s : Option SlotState). Past history.run time s (history_at (with_history whole.histories k next) k).run) (sym (set_there server.slots k None (Some taken.slot) holds.facts.slots sent.client))
          (subst (λ (h : History). Past history.run time (Some taken.slot) h.run) (sym (set_there whole.histories k no_history next holds.facts.histories sent.client)) past);
    })

not_by_client : (number : ℕ) (c : ℕ) (client : ClientTook) (state : AppliedState) (commands : List Command) (ended : Bool) (answer : ServerTook) (run : Heard)
    → ServerTookSo (Took (fronts.Deliver number) (ByClient c client state commands ended)) number answer run → ⊥
not_by_client number c client state commands ended answer run e = absurd cc

not_untaken : {cause : TakeRefused} (number : ℕ) (answer : ServerTook) (run : Heard) → ServerTookSo (Untaken (fronts.Deliver number) cause) number answer run → ⊥
not_untaken {cause} number answer run e = absurd cc

enters_client : (profile : Profile) (whole : Whole) (number c n time : ℕ) (tag : Tag) (found : Option Place) → EntersWith whole number c n time (to_client profile whole number tag found)
enters_client profile whole number c n time tag None run answered entered = absurd (not_untaken number (took.Ran c n) run answered)
enters_client profile whole number c n time tag (Some place) run answered entered = absurd (not_by_client number tag.client _ _ _ _ (took.Ran c n) run answered)

enters_arrive : (profile : Profile) (whole : Whole) (number c n time : ℕ) (tag : Tag) → Holds profile whole → IsSent profile whole.histories tag → (direction : Direction) → tag.direction ≡ direction
    → EntersWith whole number c n time (arrive profile whole number tag direction)
enters_arrive profile whole number c n time tag holds sent ToClient way = enters_client profile whole number c n time tag (place_at whole.ends tag.client)
enters_arrive profile whole number c n time tag holds sent (ToServer from) way = enters_to profile whole number c n time tag from holds sent way (slot_at whole.ends.server tag.client) refl

enters_deliver : (profile : Profile) (whole : Whole) (number c n time : ℕ) → Holds profile whole → (found : Option Tag) → slice_get whole.sent (number - 1) ≡ found
    → EntersWith whole number c n time (deliver profile whole number found)
enters_deliver profile whole number c n time holds None at = λ run answered entered. absurd (not_untaken number (took.Ran c n) run answered)
enters_deliver profile whole number c n time holds (Some tag) at =
    enters_arrive profile whole number c n time tag holds (is_sent profile whole (number - 1) tag at holds) tag.direction refl

enters_at : (profile : Profile) (whole : Whole) (number c n time : ℕ) → Holds profile whole → EntersWith whole number c n time (step profile whole (events.Deliver number))
enters_at profile whole number c n time holds =
    subst (EntersWith whole number c n time) (sym (step_own profile whole number holds.own)) (enters_deliver profile whole number c n time holds (slice_get whole.sent (number - 1)) refl)

-- ---- every list of events

past_along : BytesFollowTags → (profile : Profile) → IsChecked profile → (old : List Move) (time c : ℕ) → c < places → (some rest : List Event) → AllByRecursion IsScheduled (some ++ rest)
    → At old time c (whole_then profile some) → At old time c (whole_then profile (some ++ rest))
past_along law profile checked old time c lt some [] are at = subst (λ (all : List Event). At old time c (whole_then profile all)) (sym (append-nil some)) at
past_along law profile checked old time c lt some (event ∷ rest) are at =
    let whole = whole_then profile some in
    let next = some ++ event ∷ [] in
    let same : next ++ rest ≡ some ++ event ∷ rest = append_assoc some (event ∷ []) rest in
    let stands : Stood profile (kept_then profile some) whole = stood law profile some checked (all_first IsScheduled some (event ∷ rest) are) in
    let holds = holds_of profile (kept_then profile some) whole stands in
    let is : whole_then profile next ≡ (step profile whole event).whole = after_both profile (opening profile) some (event ∷ []) ∙ after_one profile whole event in
    let on : At old time c (step profile whole event).whole = past_on profile whole old time c lt holds at event (all_at IsScheduled some event rest are).1 in
    subst (λ (all : List Event). At old time c (whole_then profile all)) same
    (past_along law profile checked old time c lt next rest (subst (AllByRecursion IsScheduled) (sym same) are) (subst (At old time c) (sym is) on))

pub entering_is_not_run : BytesFollowTags → Layers → EnteringIsNotRun
entering_is_not_run law below profile before rest c number n time run checked are lt answered entered =
    let event : Event = events.Deliver number in
    let served = before ++ event ∷ [] in
    let all = before ++ event ∷ rest in
    let same : served ++ rest ≡ all = append_assoc before (event ∷ []) rest in
    let kept = kept_then profile before in
    let whole = whole_then profile before in
    let old = (history_at whole.histories c).run in
    let stands : Stood profile kept whole = stood law profile before checked (all_first IsScheduled before (event ∷ rest) are) in
    let holds = holds_of profile kept whole stands in
    let by_bytes = delivers_same profile kept whole number (cited_of below profile checked) stands in
    let enters = enters_at profile whole number c n time holds run (sym (ap (λ (s : KeptStep). s.answer) by_bytes) ∙ answered) entered in
    let is : whole_then profile served ≡ (step profile whole event).whole = after_both profile (opening profile) before (event ∷ []) ∙ after_one profile whole event in
    let past : At old time c (whole_then profile all) =
    subst (λ (l : List Event). At old time c (whole_then profile l)) same
    (past_along law profile checked old time c lt served rest (subst (AllByRecursion IsScheduled) (sym same) are) (subst (At old time c) (sym is) enters.past)) in
    let now = whole_then profile all in
    (enters.before, past_later old time (slot_at now.ends.server c) (history_at now.histories c).run past)
