-- What holds of commands on their way stays so.
use Rattle.std.proofs.Common.{◌≡◌, ℕ, zero, suc, ◌+◌, ◌-◌, ◌<◌, ◌≤◌, List, [], ◌∷◌, ◌++◌, length, map, take, drop, get_or, Ok, None, refl, sym, ap, subst, ◌∙◌, inl, inr, arith}
use Rattle.std.specs.Prelude.{max}
use Rattle.std.proofs.lemmas.List.{length_push, take-append-le, length-take-le, length-append}
use Rattle.std.proofs.lemmas.List.Elements.{All-nil, All-push, All-weaker, All-get_or}
use Rattle.std.proofs.lemmas.Bool.{cases_lt, le-ltb}
use Rattle.q3_text.specs.declared.text.Command.{Command}
use Rattle.q3_text.specs.Commands.{numbered}
use Rattle.q3_window.specs.Outgoing.{OutgoingState, with_texts, issued_of, text_at, acknowledge_at}
use Rattle.q3_window.specs.Incoming.{IncomingState, fresh_of, gap_in, executes}
use Rattle.q3_window.specs.Issued.{issued_text, carried_of}
use Rattle.q3_window.specs.Executed.{IncomingStandsFor}
use Rattle.q3_window.specs.Laws.{NoneStands, AcknowledgedIsIssued, LastIsCount, KeptIsIssued, CarriedIsIssued, NoneExecuted, CarriedAreExecuted}
use Rattle.q3_window.specs.Flow.{no_command, acknowledgement_of, acknowledged_by, Carriage, no_carriage, carriage_of, last_carried, IsCarried, IsAcknowledged, Flow, FlowLaws}
use Rattle.q3_window.proofs.Messages.{text_taken, texts_are, front_and_more, stands_more, rises_on, known_by, acks_stay, ack_is, acknowledged_more, acknowledged_later, carried_within, lasts_stay, last_is, carried_more, carried_later}

flow_issues : LastIsCount → (outgoing : OutgoingState) (incoming : IncomingState) (issued executed : List (List ℕ)) (carried : List Carriage) (acks : List Command) (taken came : ℕ) (texts : List (List ℕ))
    → Flow outgoing incoming issued executed carried acks taken came
    → Flow (with_texts outgoing texts) incoming (issued ++ texts) executed carried acks taken came × (issued_of outgoing ≡ length issued)
flow_issues count outgoing incoming issued executed carried acks taken came texts flow =
    let d = length executed in
    let more = issued ++ texts in
    let few = flow.few in (
      record {
        stands = stands_more outgoing issued texts flow.stands;
        runs = flow.runs;
        few = omega (arith, few, length-append issued texts);
        front = flow.front ∙ sym (take-append-le d issued texts few);
        each = All-weaker (IsCarried issued d) (IsCarried more d) (carried_more issued texts d) carried flow.each;
        lasts = flow.lasts;
        ahead = flow.ahead;
        known = All-weaker (IsAcknowledged issued d) (IsAcknowledged more d) (λ ack. acknowledged_more issued texts d ack few) acks flow.known;
        rise = flow.rise;
        within = flow.within;
        newest = flow.newest;
      },
      count outgoing issued flow.stands,
    )

flow_carries : LastIsCount → CarriedIsIssued → (outgoing : OutgoingState) (incoming : IncomingState) (issued executed : List (List ℕ)) (carried : List Carriage) (acks : List Command) (taken came : ℕ)
    → Flow outgoing incoming issued executed carried acks taken came → Flow outgoing incoming issued executed (carried ++ carriage_of outgoing ∷ []) acks taken came
flow_carries count is_issued outgoing incoming issued executed carried acks taken came flow =
    let d = length executed in
    let next = carriage_of outgoing in
    let last : issued_of outgoing ≡ length issued = count outgoing issued flow.stands in
    let known = known_by issued d acks taken flow.known flow.within in
    let newest = flow.newest in
    let short = flow.few in
    let longer = length_push carried next in
    let at : last_carried (carried ++ next ∷ []) (length carried + 1) ≡ length issued = last_is carried next ∙ last in
    let is : IsCarried issued d next = record {
      above = outgoing.acknowledged;
      known = omega (arith, known, newest);
      within = omega (arith, last);
      are = is_issued outgoing issued flow.stands ∙ ap (λ (n : ℕ). carried_of issued outgoing.acknowledged n) (sym last);
    } in
    record {
      stands = flow.stands;
      runs = flow.runs;
      few = flow.few;
      front = flow.front;
      each = All-push (IsCarried issued d) carried next flow.each is;
      lasts = λ j k le few. rises_on (last_carried carried) (last_carried (carried ++ next ∷ [])) (length carried) (lasts_stay carried next)
          (λ n within. let most = carried_within issued d carried n flow.each within in omega (arith, most, at)) flow.lasts j k le (omega (arith, few, longer));
      ahead = λ n newer few. elim (cases_lt (length carried) n) [
        | inl new ↦
            let here : length carried + 1 ≡ n = omega (arith, new, few, longer) in
            subst (λ (m : ℕ). d ≤ last_carried (carried ++ next ∷ []) m) here (omega (arith, at, short))
        | inr old ↦
            let stays = lasts_stay carried next n (omega (arith, old)) in
            let before = flow.ahead n newer (omega (arith, old)) in
            omega (arith, stays, before)
      ];
      known = flow.known;
      rise = flow.rise;
      within = flow.within;
      newest = flow.newest;
    }

flow_acknowledges : (outgoing : OutgoingState) (incoming : IncomingState) (issued executed : List (List ℕ)) (carried : List Carriage) (acks : List Command) (taken came : ℕ)
    → Flow outgoing incoming issued executed carried acks taken came
    → Flow outgoing incoming issued executed carried (acks ++ acknowledgement_of incoming ∷ []) taken came
flow_acknowledges outgoing incoming issued executed carried acks taken came flow =
    let d = length executed in
    let ack = acknowledgement_of incoming in
    let longer = length_push acks ack in
    let within = flow.within in
    let text : ack.text ≡ issued_text issued d =
    flow.runs.last ∙ (ap (λ (texts : List (List ℕ)). issued_text texts d) flow.front ∙ text_taken issued d d (omega arith)) in
    let runs = flow.runs.executed in
    let at : acknowledged_by (acks ++ ack ∷ []) (length acks + 1) ≡ d = ack_is acks ack ∙ runs in
    record {
      stands = flow.stands;
      runs = flow.runs;
      few = flow.few;
      front = flow.front;
      each = flow.each;
      lasts = flow.lasts;
      ahead = flow.ahead;
      known = All-push (IsAcknowledged issued d) acks ack flow.known
          (record { known = omega (arith, runs); text = text ∙ ap (λ (n : ℕ). issued_text issued n) (sym runs) });
      rise = λ j k le few. rises_on (acknowledged_by acks) (acknowledged_by (acks ++ ack ∷ [])) (length acks) (acks_stay acks ack)
          (λ n most. let known = known_by issued d acks n flow.known most in omega (arith, known, at)) flow.rise j k le (omega (arith, few, longer));
      within = omega (arith, within, longer);
      newest = flow.newest ∙ sym (acks_stay acks ack taken within);
    }

flow_passes : (outgoing : OutgoingState) (incoming : IncomingState) (issued executed : List (List ℕ)) (carried : List Carriage) (acks : List Command) (taken came number : ℕ)
    → came ≤ number → Flow outgoing incoming issued executed carried acks taken came → Flow outgoing incoming issued executed carried acks taken number
flow_passes outgoing incoming issued executed carried acks taken came number newer flow = record {
  stands = flow.stands;
  runs = flow.runs;
  few = flow.few;
  front = flow.front;
  each = flow.each;
  lasts = flow.lasts;
  ahead = λ n above few. flow.ahead n (omega (arith, newer, above)) few;
  known = flow.known;
  rise = flow.rise;
  within = flow.within;
  newest = flow.newest;
}

flow_executes : CarriedAreExecuted → (outgoing : OutgoingState) (incoming : IncomingState) (issued executed : List (List ℕ)) (carried : List Carriage) (acks : List Command) (taken came k : ℕ)
    → came ≤ k → k < length carried → Flow outgoing incoming issued executed carried acks taken came
    → (gap_in incoming.executed (get_or carried k no_carriage).commands ≡ None)
    × (fresh_of incoming.executed (get_or carried k no_carriage).commands
    ≡ numbered (length executed + 1) (map (λ (c : Command). c.text) (fresh_of incoming.executed (get_or carried k no_carriage).commands)))
    × ((executes incoming (get_or carried k no_carriage).commands).executed ≡ (get_or carried k no_carriage).last)
    × Flow outgoing (executes incoming (get_or carried k no_carriage).commands) issued
    (executed ++ map (λ (c : Command). c.text) (fresh_of incoming.executed (get_or carried k no_carriage).commands)) carried acks taken (k + 1)
flow_executes law outgoing incoming issued executed carried acks taken came k newer lt flow =
    let d = length executed in
    let carriage = get_or carried k no_carriage in
    let commands = carriage.commands in
    let n = carriage.last in
    let is = All-get_or (IsCarried issued d) carried k no_carriage lt flow.each in
    let few = flow.few in
    let within : n ≤ length issued = is.within in
    let reaches : d ≤ n = flow.ahead (suc k) (omega (arith, newer)) (omega (arith, lt)) in
    let last : max d n ≡ n = omega (arith, reaches) in
    let runs : IncomingStandsFor incoming (take d issued) = subst (λ (texts : List (List ℕ)). IncomingStandsFor incoming texts) flow.front flow.runs in
    let does = law issued incoming is.above n d is.known few within runs in
    let are : commands ≡ carried_of issued is.above n = is.are in
    let gap : gap_in incoming.executed commands ≡ None = ap (λ (cs : List Command). gap_in incoming.executed cs) are ∙ does.0 in
    let fresh : fresh_of incoming.executed commands ≡ numbered (d + 1) (drop d (take n issued)) = ap (λ (cs : List Command). fresh_of incoming.executed cs) are ∙ does.1 in
    let texts : map (λ (c : Command). c.text) (fresh_of incoming.executed commands) ≡ drop d (take n issued) =
    ap (λ (cs : List Command). map (λ (c : Command). c.text) cs) fresh ∙ texts_are (d + 1) (drop d (take n issued)) in
    let more = executed ++ map (λ (c : Command). c.text) (fresh_of incoming.executed commands) in
    let longer : more ≡ take n issued =
    ap (λ (rest : List (List ℕ)). executed ++ rest) texts
    ∙ (ap (λ (front : List (List ℕ)). front ++ drop d (take n issued)) flow.front
    ∙ (front_and_more d n issued few within ∙ ap (λ (m : ℕ). take m issued) last)) in
    let count : length more ≡ n = ap (λ (l : List (List ℕ)). length l) longer ∙ length-take-le n issued within in
    let later : d ≤ length more = omega (arith, count, reaches) in
    let behind : IncomingStandsFor (executes incoming commands) more =
    subst (λ (ts : List (List ℕ)). IncomingStandsFor (executes incoming commands) ts) (ap (λ (m : ℕ). take m issued) last ∙ sym longer)
    (subst (λ (cs : List Command). IncomingStandsFor (executes incoming cs) (take (max d n) issued)) (sym are) does.2) in (
      gap,
      fresh ∙ ap (λ (ts : List (List ℕ)). numbered (d + 1) ts) (sym texts),
      behind.executed ∙ count,
      record {
        stands = flow.stands;
        runs = behind;
        few = omega (arith, count, within);
        front = longer ∙ ap (λ (m : ℕ). take m issued) (sym count);
        each = All-weaker (IsCarried issued d) (IsCarried issued (length more)) (λ c. carried_later issued d (length more) c later) carried flow.each;
        lasts = flow.lasts;
        ahead = λ m above most.
            let rises : n ≤ last_carried carried m = flow.lasts (suc k) m (omega (arith, above)) most in
            omega (arith, count, rises);
        known = All-weaker (IsAcknowledged issued d) (IsAcknowledged issued (length more)) (λ ack. acknowledged_later issued d (length more) ack later) acks flow.known;
        rise = flow.rise;
        within = flow.within;
        newest = flow.newest;
      },
    )

flow_hears : AcknowledgedIsIssued → LastIsCount → KeptIsIssued → (outgoing : OutgoingState) (incoming : IncomingState) (issued executed : List (List ℕ)) (carried : List Carriage) (acks : List Command) (taken came number : ℕ)
    → taken < number → number ≤ length acks → Flow outgoing incoming issued executed carried acks taken came
    → ((acknowledge_at outgoing (acknowledged_by acks number)).answer ≡ Ok tt)
    × (text_at outgoing (acknowledged_by acks number) ≡ (get_or acks (number - 1) no_command).text)
    × Flow (acknowledge_at outgoing (acknowledged_by acks number)).window incoming issued executed carried acks number came
flow_hears stays count kept outgoing incoming issued executed carried acks taken came zero newer few flow = absurd (omega (arith, newer))
flow_hears stays count kept outgoing incoming issued executed carried acks taken came (suc k) newer few flow =
    let number = suc k in
    let n = acknowledged_by acks number in
    let ack = get_or acks k no_command in
    let is = All-get_or (IsAcknowledged issued (length executed)) acks k no_command (omega (arith, few)) flow.known in
    let known = is.known in
    let short = flow.few in
    let newest = flow.newest in
    let rises = flow.rise taken number (omega (arith, newer)) few in
    let last = count outgoing issued flow.stands in
    let low : outgoing.acknowledged ≤ n = omega (arith, newest, rises) in
    let high : n ≤ issued_of outgoing = omega (arith, known, short, last) in
    let answer = takes outgoing n low high in
    let after = stays outgoing issued n flow.stands answer in
    let text = kept outgoing issued n flow.stands (inr (low, omega (arith, known, short))) in
    let place : k ≡ suc k - 1 = omega arith in (
      answer,
      text ∙ sym is.text ∙ ap (λ (j : ℕ). (get_or acks j no_command).text) place,
      record {
        stands = after.0;
        runs = flow.runs;
        few = flow.few;
        front = flow.front;
        each = flow.each;
        lasts = flow.lasts;
        ahead = flow.ahead;
        known = flow.known;
        rise = flow.rise;
        within = few;
        newest = after.1;
      },
    )
  where
    takes : (outgoing : OutgoingState) (n : ℕ) → outgoing.acknowledged ≤ n → n ≤ issued_of outgoing → (acknowledge_at outgoing n).answer ≡ Ok tt
    takes outgoing n low high = rw (le-ltb n outgoing.acknowledged low, le-ltb (issued_of outgoing) n high) refl

pub commands_flow : NoneStands → AcknowledgedIsIssued → LastIsCount → KeptIsIssued → CarriedIsIssued → NoneExecuted → CarriedAreExecuted → FlowLaws
commands_flow none stays count kept is_issued nothing executed =
    record {
      opens = record {
        stands = none;
        runs = nothing;
        few = omega arith;
        front = refl;
        each = All-nil _;
        lasts = λ j k le few. let last : k ≡ 0 = omega (arith, few) in let first : j ≡ 0 = omega (arith, last, le) in rw (last, first) (omega arith);
        ahead = λ n newer few. omega arith;
        known = All-nil _;
        rise = λ j k le few. let last : k ≡ 0 = omega (arith, few) in let first : j ≡ 0 = omega (arith, last, le) in rw (last, first) (omega arith);
        within = omega arith;
        newest = refl;
      };
      issues = flow_issues count;
      carries = flow_carries count is_issued;
      acknowledges = flow_acknowledges;
      passes = flow_passes;
      executes_next = flow_executes executed;
      hears = flow_hears stays count kept;
    }
