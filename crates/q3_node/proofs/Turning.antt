-- A node goes on turn by turn, and how it ends.
use Rattle.std.proofs.Common.{◌≡◌, ℕ, zero, suc, ◌+◌, ◌-◌, ◌<◌, ◌≤◌, Bool, true, false, if◌then◌else◌, cond, List, [], ◌∷◌, ◌++◌, length, drop, Option, Some, None, Ok, Err, refl, sym, ap, ap₂, subst, ◌∙◌, append_assoc, true≢false, ◌||◌, arith}
use Rattle.std.specs.List.{count_by}
use Rattle.std.specs.Option.{option_to_list}
use Rattle.std.proofs.lemmas.List.{append-nil, drop-drop, length-append}
use Rattle.std.proofs.lemmas.List.Sums.{sum_by-append}
use Rattle.std.proofs.lemmas.List.Folds.{list_any-append}
use Rattle.std.proofs.lemmas.Grind.{flat_map-append}
use Rattle.q3_io.specs.Readings.{Reads, reading_of, readings_after}
use Rattle.q3_io.specs.Traffic.{Parcel, Traffic, next_of}
use Rattle.q3_io.specs.Written.{Written, NothingWaits}
use Rattle.q3_io.specs.Laws.{TextsFollow}
use Rattle.q3_io.specs.declared.address.Address.{Address}
use Rattle.q3_io.specs.Acts.{FileAct, ActsOn, after_act, after_acts}
use Rattle.q3_io.specs.Told.{Told}
use Rattle.q3_script.specs.declared.event.Event.{Event}
use Rattle.q3_node.specs.declared.error.NodeError.{NodeError}
use Rattle.q3_node.specs.declared.error.NodeError.TheVariants.{NoMemory, WireFault, WriteFault, FileFault, Turns}
use Rattle.q3_node.specs.Node.{Rules, Node, Turn, Turned, cut_to_room, due, start_at, turn_of, turn_at, most_turns, turns_of, arrivals_after, did_end, answer_text, parcels_of, acts_of, want_memory}
use Rattle.q3_node.specs.Running.{ToArrive, ToRead, Effects, all_acts, wire_after, traffic_after, Leaves, readings_left, clock_after, Ran, EndsIn, RanNode, RanBound, StaysFlushed, Finds, TakesTurn}
use Rattle.q3_node.proofs.Parts.{nothing_done}

-- ---- what is still to come, before a turn

-- readings that a reading leaves so
pub record BackRead (clock : Option (List ℕ)) (reading : ℕ) (readings : List ℕ) : Type 0 where
  pub all : List ℕ
  pub to_read : ToRead clock all
  pub first : reading_of all ≡ reading
  pub others : readings_after all ≡ readings

untold_read : (new : Option (List ℕ)) (reading : ℕ) (readings : List ℕ) → new ≡ None → ToRead new readings → BackRead None reading readings
untold_read None reading (next ∷ others) same to = record { all = reading ∷ next ∷ others; to_read = omega arith; first = refl; others = refl }
untold_read None reading [] same to = absurd (omega (arith, to))
untold_read (Some told) reading readings same to = absurd cc

back_read : (clock new : Option (List ℕ)) (reading : ℕ) (readings : List ℕ) → Reads clock new reading → ToRead new readings → BackRead clock reading readings
back_read None new reading readings read to = untold_read new reading readings read to
back_read (Some told) new reading readings read to = record {
  all = told;
  to_read = refl;
  first = sym read.0;
  others = sym (subst (λ (n : Option (List ℕ)). ToRead n readings) read.1 to);
}

-- some readings are still to come
some_read : (clock : Option (List ℕ)) → (readings : List ℕ) × ToRead clock readings
some_read None = (0 ∷ [], omega arith)
some_read (Some told) = (told, refl)

-- one reading more was taken
one_further : (readings : List ℕ) (count : ℕ) → readings_after (readings_left count readings) ≡ readings_left (suc count) readings
unfolding readings_left
one_further readings zero = refl
one_further readings (suc count) = one_further (readings_after readings) count

plus_one : (n : ℕ) → suc n ≡ n + 1
plus_one n = omega arith

next_clock : (started clock new : Option (List ℕ)) (count reading : ℕ) → clock ≡ clock_after started count → Reads clock new reading → new ≡ clock_after started (count + 1)
next_clock None clock new count reading same read = subst (λ (c : Option (List ℕ)). Reads c new reading) same read
next_clock (Some readings) clock new count reading same read =
    let is = subst (λ (c : Option (List ℕ)). Reads c new reading) same read in
    is.1 ∙ ap (λ (rs : List ℕ). Some rs) (one_further readings count ∙ ap (λ (n : ℕ). readings_left n readings) (plus_one count))

clock_none : (started : Option (List ℕ)) → started ≡ clock_after started 0
unfolding readings_left
clock_none None = refl
clock_none (Some readings) = refl

-- after one turn more
turn_clock : (started clock new : Option (List ℕ)) (turns : List Turn) (turn : Turn) (reading : ℕ) → clock ≡ clock_after started (length turns) → Reads clock new reading
    → new ≡ clock_after started (length (turns ++ (turn ∷ [])))
turn_clock started clock new turns turn reading same read =
    next_clock started clock new (length turns) reading same read ∙ ap (λ (n : ℕ). clock_after started n) (sym (length-append turns (turn ∷ [])))

-- arrivals that a turn leaves so
pub record BackArrive (are : Option Traffic) (now : Turn) (found : Option Parcel) (arrivals : List (Option Parcel)) : Type 0 where
  pub all : List (Option Parcel)
  pub to_arrive : ToArrive are all
  pub first : now.received ≡ true → next_of all ≡ found
  pub others : arrivals_after now all ≡ arrivals

untold_arrive : (now : Turn) (found : Option Parcel) (arrivals : List (Option Parcel)) (received : Bool) → now.received ≡ received → BackArrive None now found arrivals
untold_arrive now found arrivals true e = record { all = found ∷ arrivals; to_arrive = tt; first = λ is. refl; others = rw e refl }
untold_arrive now found arrivals false e = record { all = arrivals; to_arrive = tt; first = λ is. absurd cc; others = rw e refl }

told_arrive : (now : Turn) (traffic : Traffic) (arrivals : List (Option Parcel)) (received : Bool) → now.received ≡ received
    → arrivals ≡ (traffic_after traffic (now ∷ [])).arrivals → arrivals_after now traffic.arrivals ≡ arrivals
told_arrive now traffic arrivals true e to = rw (to, e) refl
told_arrive now traffic arrivals false e to = rw (to, e) refl

back_arrive : (now : Turn) (are new : Option Traffic) (found : Option Parcel) (arrivals : List (Option Parcel)) → new ≡ wire_after are (now ∷ [])
    → Finds now are found → ToArrive new arrivals → BackArrive are now found arrivals
back_arrive now None new found arrivals same finds to = untold_arrive now found arrivals now.received refl
back_arrive now (Some traffic) new found arrivals same finds to = record {
  all = traffic.arrivals;
  to_arrive = refl;
  first = finds;
  others = told_arrive now traffic arrivals now.received refl (subst (λ (n : Option Traffic). ToArrive n arrivals) same to);
}

-- something, or nothing, is still to arrive
some_arrive : (told : Option Traffic) → (arrivals : List (Option Parcel)) × ToArrive told arrivals
some_arrive None = ([], tt)
some_arrive (Some traffic) = (traffic.arrivals, refl)

-- arrivals in which a turn finds what it found
pub record ToFind (told : Option Traffic) (now : Turn) (found : Option Parcel) : Type 0 where
  pub all : List (Option Parcel)
  pub to_arrive : ToArrive told all
  pub first : now.received ≡ true → next_of all ≡ found

to_find : (told : Option Traffic) (found : Option Parcel) (now : Turn) → Finds now told found → ToFind told now found
to_find None found now finds = record { all = found ∷ []; to_arrive = tt; first = λ received. refl }
to_find (Some traffic) found now finds = record { all = traffic.arrivals; to_arrive = refl; first = finds }

-- ---- what turns leave

wire_none : (told : Option Traffic) → told ≡ wire_after told []
wire_none None = refl
wire_none (Some traffic) = ap (λ (sent : List Parcel). Some (record traffic { sent = sent })) (sym (append-nil traffic.sent))

both_after : (traffic : Traffic) (turns more : List Turn) → traffic_after (traffic_after traffic turns) more ≡ traffic_after traffic (turns ++ more)
both_after traffic turns more =
    ap₂ (λ (arrivals : List (Option Parcel)) (sent : List Parcel). record traffic { arrivals = arrivals; sent = sent })
    (drop-drop (count_by (λ (t : Turn). t.received) more) (count_by (λ (t : Turn). t.received) turns) traffic.arrivals
    ∙ ap (λ (n : ℕ). drop n traffic.arrivals) (sym (sum_by-append (λ (t : Turn). cond t.received 1 0) turns more)))
    (append_assoc traffic.sent (parcels_of turns) (parcels_of more) ∙ ap (λ (sent : List Parcel). traffic.sent ++ sent) (sym (flat_map-append (λ (t : Turn). option_to_list t.sends) turns more)))

wire_both : (told : Option Traffic) (turns more : List Turn) → wire_after (wire_after told turns) more ≡ wire_after told (turns ++ more)
wire_both None turns more = refl
wire_both (Some traffic) turns more = ap Some (both_after traffic turns more)

-- one after the other
acts_over : (told : Told) (first second : List FileAct) → after_acts told (first ++ second) ≡ after_acts (after_acts told first) second
unfolding after_acts
acts_over told [] second = refl
acts_over told (act ∷ first) second = acts_over (after_act told act) first second

acts_both : (told mid now : Option Told) (first second : List FileAct) → ActsOn told mid first all_acts → ActsOn mid now second all_acts → ActsOn told now (first ++ second) all_acts
acts_both None mid now first second before behind = subst (λ (m : Option Told). ActsOn m now second all_acts) before behind
acts_both (Some told) mid now first second before behind =
    subst (λ (m : Option Told). ActsOn m now second all_acts) before behind ∙ ap (λ (t : Told). Some t) (sym (acts_over told first second))

leaves_none : (law : TextsFollow) (before : Effects) → Leaves [] true before before
leaves_none law before = record { printed = law.none; wire = wire_none before.wire; files = nothing_done before.files }

leaves_both : (law : TextsFollow) (turns more : List Turn) (all : Bool) (before mid after : Effects) → Leaves turns true before mid → Leaves more all mid after → Leaves (turns ++ more) all before after
leaves_both law turns more all before mid after first behind = record {
  printed = law.more first.printed behind.printed (flat_map-append (λ (t : Turn). answer_text t.answer) turns more);
  wire = behind.wire ∙ ap (λ (w : Option Traffic). wire_after w more) first.wire ∙ wire_both before.wire turns more;
  files = rw (flat_map-append (λ (t : Turn). t.acts) turns more) (acts_both before.files mid.files after.files (acts_of turns) (acts_of more) first.files behind.files);
}

-- ---- a turn

-- a turn that does a line is the same whatever comes
same_turn_of : {S : Type 0} (rules : Rules S) (node : Node S) (line : Option Event) (found other : Option Parcel)
    → ((turn_of rules node line found).turn.received ≡ true → other ≡ found) → turn_of rules node line other ≡ turn_of rules node line found
same_turn_of rules node (Some event) found other same = refl
same_turn_of rules node None None other same = ap (λ (o : Option Parcel). turn_of rules node None o) (same refl)
same_turn_of rules node None (Some parcel) other same = ap (λ (o : Option Parcel). turn_of rules node None o) (same refl)

same_turn : {S : Type 0} (rules : Rules S) (node : Node S) (reading : ℕ) (found other : Option Parcel)
    → ((turn_at rules node reading found).turn.received ≡ true → other ≡ found) → turn_at rules node reading other ≡ turn_at rules node reading found
same_turn rules node reading found other same =
    same_turn_of rules (record node { start = Some (start_at node.start reading) }) (due node.time (reading - start_at node.start reading) node.left) found other same

-- the turns from here on: this one, and those after it
first_turn : {S : Type 0} (count : ℕ) (rules : Rules S) (node : Node S) (readings : List ℕ) (arrivals : List (Option Parcel)) (reading : ℕ) (found : Option Parcel)
    → reading_of readings ≡ reading → ((turn_at rules node reading found).turn.received ≡ true → next_of arrivals ≡ found)
    → turns_of (suc count) rules node readings arrivals
    ≡ (turn_at rules node reading found).turn ∷ (if (turn_at rules node reading found).turn.ended then []
    else turns_of count rules (turn_at rules node reading found).node (readings_after readings) (arrivals_after (turn_at rules node reading found).turn arrivals))
unfolding turns_of
first_turn {S} count rules node readings arrivals reading found is finds =
    ap (λ (t : Turned S). t.turn ∷ (if t.turn.ended then [] else turns_of count rules t.node (readings_after readings) (arrivals_after t.turn arrivals)))
    (ap (λ (r : ℕ). turn_at rules node r (next_of arrivals)) is ∙ same_turn rules node reading found (next_of arrivals) finds)

-- ---- a run

-- turns so far, and what is left is left of all
pub record Whole {S : Type 0} (rules : Rules S) (count : ℕ) (first now : Node S) (clock : Option (List ℕ)) (were : Option Traffic) (turns : List Turn) (rest : List Turn) : Type 0 where
  pub readings : List ℕ
  pub to_read : ToRead clock readings
  pub arrivals : List (Option Parcel)
  pub to_arrive : ToArrive were arrivals
  pub same : turns_of most_turns rules first readings arrivals ≡ turns ++ rest

pub record Going {S : Type 0} (rules : Rules S) (count : ℕ) (first now : Node S) (started clock : Option (List ℕ)) (before after : Effects) : Type 0 where
  pub turns : List Turn
  pub leaves : Leaves turns true before after
  pub unended : did_end turns ≡ false
  pub read : clock ≡ clock_after started (length turns)
  pub whole : (readings : List ℕ) (arrivals : List (Option Parcel)) → ToRead clock readings → ToArrive after.wire arrivals
      → Whole rules count first now started before.wire turns (turns_of count rules now readings arrivals)

pub begins : {S : Type 0} (law : TextsFollow) (rules : Rules S) (node : Node S) (clock : Option (List ℕ)) (before : Effects) → Going rules most_turns node node clock clock before before
begins {S} law rules node clock before = record {
  turns = [];
  leaves = leaves_none law before;
  unended = refl;
  read = clock_none clock;
  whole = λ readings arrivals to_read to_arrive. record { readings = readings; to_read = to_read; arrivals = arrivals; to_arrive = to_arrive; same = refl };
}

-- one more turn, which isn't the last
goes_whole : {S : Type 0} (rules : Rules S) (count : ℕ) (first now : Node S) (started clock new : Option (List ℕ)) (before mid : Effects) (are : Option Traffic)
    → (going : Going rules (suc count) first now started clock before mid) → (reading : ℕ) (found : Option Parcel) → Reads clock new reading
    → are ≡ wire_after mid.wire ((turn_at rules now reading found).turn ∷ []) → Finds (turn_at rules now reading found).turn mid.wire found
    → (readings : List ℕ) (arrivals : List (Option Parcel)) → ToRead new readings → ToArrive are arrivals
    → Whole rules count first now started before.wire (going.turns ++ ((turn_at rules now reading found).turn ∷ []))
    (if (turn_at rules now reading found).turn.ended then [] else turns_of count rules (turn_at rules now reading found).node readings arrivals)
goes_whole {S} rules count first now started clock new before mid are going reading found read wire finds readings arrivals to_read to_arrive =
    let t : Turned S = turn_at rules now reading found in
    let r = back_read clock new reading readings read to_read in
    let a = back_arrive t.turn mid.wire are found arrivals wire finds to_arrive in
    let whole = going.whole r.all a.all r.to_read a.to_arrive in
    let behind : List Turn = if t.turn.ended then [] else turns_of count rules t.node readings arrivals in
    record {
      readings = whole.readings;
      to_read = whole.to_read;
      arrivals = whole.arrivals;
      to_arrive = whole.to_arrive;
      same = whole.same
          ∙ ap (λ (ts : List Turn). going.turns ++ ts) (first_turn count rules now r.all a.all reading found r.first a.first)
          ∙ ap₂ (λ (rs : List ℕ) (more : List (Option Parcel)). going.turns ++ (t.turn ∷ (if t.turn.ended then [] else turns_of count rules t.node rs more))) r.others a.others
          ∙ sym (append_assoc going.turns (t.turn ∷ []) behind);
    }

goes_on : {S : Type 0} (law : TextsFollow) (rules : Rules S) (count : ℕ) (first now next : Node S) (started clock new : Option (List ℕ)) (before mid after : Effects)
    → Going rules (suc count) first now started clock before mid → TakesTurn rules now next clock new mid after (Ok false)
    → Going rules count first next started new before after
goes_on {S} law rules count first now next started clock new before mid after going takes =
    let t : Turned S = turn_at rules now takes.reading takes.found in
    let d = takes.done in
    record {
      turns = going.turns ++ (t.turn ∷ []);
      leaves = leaves_both law going.turns (t.turn ∷ []) true before mid after going.leaves d.3;
      unended = list_any-append (λ (x : Turn). x.ended) going.turns (t.turn ∷ []) ∙ rw (going.unended, sym d.0) refl;
      read = turn_clock started clock new going.turns t.turn takes.reading going.read takes.read;
      whole = λ readings arrivals to_read to_arrive.
          let w = goes_whole rules count first now started clock new before mid after.wire going takes.reading takes.found takes.read d.3.wire d.2 readings arrivals to_read to_arrive in
          record {
            readings = w.readings;
            to_read = w.to_read;
            arrivals = w.arrivals;
            to_arrive = w.to_arrive;
            same = w.same ∙ ap (λ (ts : List Turn). (going.turns ++ (t.turn ∷ [])) ++ ts)
                (rw (sym d.0) refl ∙ ap (λ (n : Node S). turns_of count rules n readings arrivals) (sym d.1));
          };
    }

-- it did `end`
ends : {S : Type 0} (law : TextsFollow) (rules : Rules S) (count : ℕ) (first now next : Node S) (started clock new : Option (List ℕ)) (before mid after : Effects)
    → Going rules (suc count) first now started clock before mid → TakesTurn rules now next clock new mid after (Ok true)
    → RanNode rules first started new before after (Ok tt)
ends {S} law rules count first now next started clock new before mid after going takes =
    let t : Turned S = turn_at rules now takes.reading takes.found in
    let d = takes.done in
    let readings = some_read new in
    let arrivals = some_arrive after.wire in
    let w = goes_whole rules count first now started clock new before mid after.wire going takes.reading takes.found takes.read d.3.wire d.2 readings.0 arrivals.0 readings.1 arrivals.1 in
    let same : turns_of most_turns rules first w.readings w.arrivals ≡ going.turns ++ (t.turn ∷ []) =
    w.same ∙ ap (λ (ts : List Turn). (going.turns ++ (t.turn ∷ [])) ++ ts) (rw (sym d.0) refl) ∙ append-nil (going.turns ++ (t.turn ∷ [])) in (
      w.readings,
      w.to_read,
      w.arrivals,
      w.to_arrive,
      subst (λ (ts : List Turn). Ran ts started new before after (Ok tt)) (sym same) (
        list_any-append (λ (x : Turn). x.ended) going.turns (t.turn ∷ []) ∙ rw (going.unended, sym d.0) refl,
        record {
          leaves = leaves_both law going.turns (t.turn ∷ []) true before mid after going.leaves d.3;
          read = turn_clock started clock new going.turns t.turn takes.reading going.read takes.read;
        },
      ),
    )

-- its turns are spent
spent : {S : Type 0} (rules : Rules S) (first now : Node S) (started clock : Option (List ℕ)) (before after : Effects)
    → Going rules zero first now started clock before after → RanNode rules first started clock before after (Err Turns)
unfolding turns_of
spent {S} rules first now started clock before after going =
    let readings = some_read clock in
    let arrivals = some_arrive after.wire in
    let w = going.whole readings.0 arrivals.0 readings.1 arrivals.1 in (
      w.readings,
      w.to_read,
      w.arrivals,
      w.to_arrive,
      subst (λ (ts : List Turn). Ran ts started clock before after (Err Turns)) (sym (w.same ∙ append-nil going.turns))
          (going.unended, record { leaves = going.leaves; read = going.read }),
    )

-- the outside ended it in a turn
stopped : {S : Type 0} (rules : Rules S) (count : ℕ) (first now next : Node S) (started clock new : Option (List ℕ)) (before mid after : Effects) (e : NodeError)
    → Going rules (suc count) first now started clock before mid → (NothingWaits before.written → NothingWaits mid.written) → TakesTurn rules now next clock new mid after (Err e)
    → (readings : List ℕ) × ToRead started readings × (arrivals : List (Option Parcel)) × ToArrive before.wire arrivals
    × EndsIn (turns_of most_turns rules first readings arrivals) e started new before after
stopped {S} rules count first now next started clock new before mid after e going flushed takes =
    let t : Turned S = turn_at rules now takes.reading takes.found in
    let d = takes.done in
    let later = some_read new in
    let r = back_read clock new takes.reading later.0 takes.read later.1 in
    let a = to_find mid.wire takes.found t.turn d.0 in
    let w = going.whole r.all a.all r.to_read a.to_arrive in
    let rest : List Turn = if t.turn.ended then [] else turns_of count rules t.node (readings_after r.all) (arrivals_after t.turn a.all) in (
      w.readings,
      w.to_read,
      w.arrivals,
      w.to_arrive,
      record {
        first = going.turns;
        last = t.turn;
        rest = rest;
        whole = w.same ∙ ap (λ (ts : List Turn). going.turns ++ ts) (first_turn count rules now r.all a.all takes.reading takes.found r.first a.first);
        mid = mid;
        passed = going.leaves;
        flushed = flushed;
        stops = d.1;
        read = next_clock started clock new (length going.turns) takes.reading going.read takes.read;
      },
    )

-- ---- by the turns that were taken

one_left : (taken : ℕ) → taken < most_turns → most_turns - taken ≡ suc (most_turns - (taken + 1))
one_left taken few = omega (arith, few)

pub goes_on_by : {S : Type 0} (law : TextsFollow) (rules : Rules S) (taken : ℕ) (first now next : Node S) (started clock new : Option (List ℕ)) (before mid after : Effects)
    → taken < most_turns → Going rules (most_turns - taken) first now started clock before mid → TakesTurn rules now next clock new mid after (Ok false)
    → Going rules (most_turns - (taken + 1)) first next started new before after
goes_on_by law rules taken first now next started clock new before mid after few going takes =
    goes_on law rules (most_turns - (taken + 1)) first now next started clock new before mid after (rw (one_left taken few) at going) takes

pub ends_by : {S : Type 0} (law : TextsFollow) (rules : Rules S) (taken : ℕ) (first now next : Node S) (started clock new : Option (List ℕ)) (before mid after : Effects)
    → taken < most_turns → Going rules (most_turns - taken) first now started clock before mid → TakesTurn rules now next clock new mid after (Ok true)
    → RanNode rules first started new before after (Ok tt)
ends_by law rules taken first now next started clock new before mid after few going takes =
    ends law rules (most_turns - (taken + 1)) first now next started clock new before mid after (rw (one_left taken few) at going) takes

pub spent_by : {S : Type 0} (rules : Rules S) (taken : ℕ) (first now : Node S) (started clock : Option (List ℕ)) (before after : Effects)
    → most_turns ≤ taken → Going rules (most_turns - taken) first now started clock before after → RanNode rules first started clock before after (Err Turns)
spent_by rules taken first now started clock before after all going =
    let none : most_turns - taken ≡ 0 = omega (arith, all) in
    spent rules first now started clock before after (rw none at going)

pub fails_by : {S : Type 0} (rules : Rules S) (taken : ℕ) (first now next : Node S) (started clock new : Option (List ℕ)) (before mid after : Effects) (e : NodeError)
    → taken < most_turns → Going rules (most_turns - taken) first now started clock before mid → (NothingWaits before.written → NothingWaits mid.written) → TakesTurn rules now next clock new mid after (Err e)
    → RanNode rules first started new before after (Err e)
fails_by rules taken first now next started clock new before mid after NoMemory few going flushed takes =
    stopped rules (most_turns - (taken + 1)) first now next started clock new before mid after NoMemory (rw (one_left taken few) at going) flushed takes
fails_by rules taken first now next started clock new before mid after WireFault few going flushed takes =
    stopped rules (most_turns - (taken + 1)) first now next started clock new before mid after WireFault (rw (one_left taken few) at going) flushed takes
fails_by rules taken first now next started clock new before mid after WriteFault few going flushed takes =
    stopped rules (most_turns - (taken + 1)) first now next started clock new before mid after WriteFault (rw (one_left taken few) at going) flushed takes
fails_by rules taken first now next started clock new before mid after FileFault few going flushed takes =
    stopped rules (most_turns - (taken + 1)) first now next started clock new before mid after FileFault (rw (one_left taken few) at going) flushed takes
fails_by rules taken first now next started clock new before mid after Turns few going flushed takes = absurd takes.done.1

-- where the sink didn't fail nothing waits in it
pub flushed_still : {S : Type 0} (rules : Rules S) (now next : Node S) (clock new : Option (List ℕ)) (before : Option Written) (mid after : Effects) (e : NodeError)
    → (NothingWaits before → NothingWaits mid.written) → TakesTurn rules now next clock new mid after (Err e) → StaysFlushed {T = Unit {0}} before after.written (Err e)
flushed_still rules now next clock new before mid after NoMemory flushed takes = λ nothing. subst (λ (x : Effects). NothingWaits x.written) (sym takes.done.1.1) (flushed nothing)
flushed_still rules now next clock new before mid after WireFault flushed takes = λ nothing. subst (λ (x : Effects). NothingWaits x.written) (sym takes.done.1.1) (flushed nothing)
flushed_still rules now next clock new before mid after WriteFault flushed takes = tt
flushed_still rules now next clock new before mid after FileFault flushed takes = λ nothing. subst NothingWaits (sym takes.done.1.1) (flushed nothing)
flushed_still rules now next clock new before mid after Turns flushed takes = absurd takes.done.1

-- ---- of an end that wants no memory

-- no turn of it does
no_turn_wants : {S : Type 0} (rules : Rules S) → ((end : S) (event : Event) (number : ℕ) → (rules.line end event number).memory ≡ false)
    → (node : Node S) (line : Option Event) (found : Option Parcel) → (turn_of rules node line found).turn.memory ≡ false
no_turn_wants rules none node (Some event) found = none node.end event (node.made + 1)
no_turn_wants rules none node None None = refl
no_turn_wants rules none node None (Some parcel) = refl

pub none_wants : {S : Type 0} (rules : Rules S) → ((end : S) (event : Event) (number : ℕ) → (rules.line end event number).memory ≡ false)
    → (count : ℕ) (node : Node S) (readings : List ℕ) (arrivals : List (Option Parcel)) → want_memory (turns_of count rules node readings arrivals) ≡ false
unfolding turns_of
none_wants rules none zero node readings arrivals = refl
none_wants {S} rules none (suc count) node readings arrivals =
    let now : Turned S = turn_at rules node (reading_of readings) (next_of arrivals) in
    let here : now.turn.memory ≡ false =
    no_turn_wants rules none (record node { start = Some (start_at node.start (reading_of readings)) })
    (due node.time (reading_of readings - start_at node.start (reading_of readings)) node.left) (next_of arrivals) in
    let rest = turns_of count rules now.node (readings_after readings) (arrivals_after now.turn arrivals) in
    let others : want_memory rest ≡ false = none_wants rules none count now.node (readings_after readings) (arrivals_after now.turn arrivals) in
    rw here (behind rest now.turn.ended others)
  where
    behind : (rest : List Turn) (ended : Bool) → want_memory rest ≡ false → want_memory (if ended then [] else rest) ≡ false
    behind rest true others = refl
    behind rest false others = others

-- so memory doesn't run out once its address is bound
pub keeps_memory : {S : Type 0} (rules : Rules S) → ((end : S) (event : Event) (number : ℕ) → (rules.line end event number).memory ≡ false)
    → (bound : Bool) (node : Node S) (at : Address) (clock now : Option (List ℕ)) (before after : Effects) → RanBound bound rules node at clock now before after (Err NoMemory) → bound ≡ false
keeps_memory rules none false node at clock now before after ran = refl
keeps_memory rules none true node at clock now before after ran =
    let in_turn = ran.4 in
    let all = ap want_memory in_turn.whole in
    let wants : want_memory (in_turn.first ++ in_turn.last ∷ in_turn.rest) ≡ true =
    list_any-append (λ (t : Turn). t.memory) in_turn.first (in_turn.last ∷ in_turn.rest) ∙ rw in_turn.stops.0 (of_first (want_memory in_turn.first)) in
    absurd (true≢false (sym wants ∙ (sym all ∙ none_wants rules none most_turns node ran.0 ran.2)))
  where
    of_first : (wants : Bool) → (wants || true) ≡ true
    of_first true = refl
    of_first false = refl

-- ---- of an end that does nothing to files

no_turn_acts : {S : Type 0} (rules : Rules S) → ((end : S) (event : Event) (number : ℕ) → (rules.line end event number).acts ≡ []) → ((end : S) (parcel : Parcel) → (rules.arrives end parcel).acts ≡ [])
    → (node : Node S) (line : Option Event) (found : Option Parcel) → (turn_of rules node line found).turn.acts ≡ []
no_turn_acts rules none none_arrives node (Some event) found = none node.end event (node.made + 1)
no_turn_acts rules none none_arrives node None None = refl
no_turn_acts rules none none_arrives node None (Some parcel) = none_arrives node.end (cut_to_room parcel)

pub keeps_files : {S : Type 0} (rules : Rules S) → ((end : S) (event : Event) (number : ℕ) → (rules.line end event number).acts ≡ []) → ((end : S) (parcel : Parcel) → (rules.arrives end parcel).acts ≡ [])
    → (count : ℕ) (node : Node S) (readings : List ℕ) (arrivals : List (Option Parcel)) → acts_of (turns_of count rules node readings arrivals) ≡ []
unfolding turns_of
keeps_files rules none none_arrives zero node readings arrivals = refl
keeps_files {S} rules none none_arrives (suc count) node readings arrivals =
    let now : Turned S = turn_at rules node (reading_of readings) (next_of arrivals) in
    let here : now.turn.acts ≡ [] =
    no_turn_acts rules none none_arrives (record node { start = Some (start_at node.start (reading_of readings)) })
    (due node.time (reading_of readings - start_at node.start (reading_of readings)) node.left) (next_of arrivals) in
    let rest = turns_of count rules now.node (readings_after readings) (arrivals_after now.turn arrivals) in
    let others : acts_of rest ≡ [] = keeps_files rules none none_arrives count now.node (readings_after readings) (arrivals_after now.turn arrivals) in
    rw here (behind rest now.turn.ended others)
  where
    behind : (rest : List Turn) (ended : Bool) → acts_of rest ≡ [] → acts_of (if ended then [] else rest) ≡ []
    behind rest true others = refl
    behind rest false others = others
