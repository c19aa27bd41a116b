use Rattle.std.proofs.Common.{◌≡◌, eqb, true, false, sym, ◌∙◌, rules, tests, arith, length}
use Rattle.std.proofs.lemmas.List.{length_push}
use Rattle.std.proofs.lemmas.Iterator.Consumers.{YieldsList-turn, YieldsList-end}
use Rattle.std.proofs.lemmas.Iterator.Splits.{YieldsList-from_slice_split}
use Rattle.q3_script.specs.Script.{lines_of, is_complete}
use Rattle.q3_script.proofs.Gather.{Next, went, held, passes, adds, refuses, stops, ends, lacks_end}
use Rattle.q3_script.proofs.script.events.Goals as goal

pub loop-line-preserved-then-passed_over : goal.loop-line-preserved-then-passed_over
loop-line-preserved-then-passed_over c =
    let t = YieldsList-turn (YieldsList-from_slice_split _ (λ x. eqb x 10) c.args.bytes.now (cc) (cc) (cc) (λ x b q k. search (rules, tests))) c.loop-line.yielded _ c.loop-line.yielded_by _ _ c.in-Some.line c.in-Some.is c.next.ensures.steps in
    let next : Next (lines_of c.args.bytes.now) (length c.loop-line.yielded) c.in-Some.line.now = record { inside = t.0; is = t.1 } in
    record {
      reached = rw length_push (passes c.loop-line.invariant.reached next (cc));
      number = rw length_push (omega arith);
      can_next = search rules;
      is_finite = search rules;
    }

pub loop-line-preserved : goal.loop-line-preserved
loop-line-preserved c =
    let t = YieldsList-turn (YieldsList-from_slice_split _ (λ x. eqb x 10) c.args.bytes.now (cc) (cc) (cc) (λ x b q k. search (rules, tests))) c.loop-line.yielded _ c.loop-line.yielded_by _ _ c.in-Some.line c.in-Some.is c.next.ensures.steps in
    let next : Next (lines_of c.args.bytes.now) (length c.loop-line.yielded) c.in-Some.line.now = record { inside = t.0; is = t.1 } in
    let len : c.len.result ≡ length c.loop-line.events.items = omega arith in
    let spells = sym c.in-Ok.is ∙ rw len at c.in_ok-event.ensures in
    record {
      reached = rw (length_push, c.in_ok-push.ensures.items) (adds c.loop-line.invariant.reached next (cc) spells (went c.go_on.ensures c.in_default.is));
      number = rw length_push (omega arith);
      can_next = search rules;
      is_finite = search rules;
    }

pub returns-in-Err : goal.returns-in-Err
returns-in-Err c =
    let t = YieldsList-turn (YieldsList-from_slice_split _ (λ x. eqb x 10) c.args.bytes.now (cc) (cc) (cc) (λ x b q k. search (rules, tests))) c.loop-line.yielded _ c.loop-line.yielded_by _ _ c.in-Some.line c.in-Some.is c.next.ensures.steps in
    let next : Next (lines_of c.args.bytes.now) (length c.loop-line.yielded) c.in-Some.line.now = record { inside = t.0; is = t.1 } in
    let len : c.len.result ≡ length c.loop-line.events.items = omega arith in
    let refused = sym c.in-Err.is ∙ rw len at c.in_ok-event.ensures in
    rw c.loop-line.invariant.number (refuses c.loop-line.invariant.reached next (cc) refused)

pub returns-in-Err-go_on : goal.returns-in-Err-go_on
returns-in-Err-go_on c =
    let t = YieldsList-turn (YieldsList-from_slice_split _ (λ x. eqb x 10) c.args.bytes.now (cc) (cc) (cc) (λ x b q k. search (rules, tests))) c.loop-line.yielded _ c.loop-line.yielded_by _ _ c.in-Some.line c.in-Some.is c.next.ensures.steps in
    let next : Next (lines_of c.args.bytes.now) (length c.loop-line.yielded) c.in-Some.line.now = record { inside = t.0; is = t.1 } in
    let len : c.len.result ≡ length c.loop-line.events.items = omega arith in
    let spells = sym c.in-Ok.is ∙ rw len at c.in_ok-event.ensures in
    rw c.loop-line.invariant.number (stops c.loop-line.invariant.reached next (cc) spells (held _ c.go_on.ensures c.in-Err-go_on.is))

pub returns-then-not-is_complete : goal.returns-then-not-is_complete
returns-then-not-is_complete c =
    let t = YieldsList-end (YieldsList-from_slice_split _ (λ x. eqb x 10) c.args.bytes.now (cc) (cc) (cc) (λ x b q k. search (rules, tests))) c.loop-line.yielded _ c.loop-line.yielded_by _ _ c.in-None.is c.next.ensures.steps in
    let lacks : is_complete c.args.kind c.loop-line.course ≡ false = search rules in
    rw (c.line_after.ensures (c.loop-line.invariant.number ∙ t.1)) (lacks_end c.loop-line.invariant.reached t.1 lacks)

pub returns : goal.returns
returns c =
    let t = YieldsList-end (YieldsList-from_slice_split _ (λ x. eqb x 10) c.args.bytes.now (cc) (cc) (cc) (λ x b q k. search (rules, tests))) c.loop-line.yielded _ c.loop-line.yielded_by _ _ c.in-None.is c.next.ensures.steps in
    let complete : is_complete c.args.kind c.loop-line.course ≡ true = search rules in
    ends c.loop-line.invariant.reached t.1 complete
