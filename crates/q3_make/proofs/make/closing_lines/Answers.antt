use Rattle.std.proofs.Common.{◌≡◌, List, All, length, ◌∙◌, sym, ap, subst, refl, arith}
use Rattle.q3_script.specs.declared.event.Event.{Event}
use Rattle.q3_script.specs.Grammar.{IsReplayEvent}
use Rattle.q3_make.specs.Generated.{closing}
use Rattle.q3_make.proofs.Rows.{rest_none}
use Rattle.q3_make.proofs.MadeScripts.{closing_length, closing_each}
use Rattle.q3_make.proofs.make.closing_lines.Goals as goal

pub returns-clause-rest : goal.returns-clause-rest
returns-clause-rest c =
    let is : c.push_closing.new.events.items ≡ closing c.args.drawn.now.made = rw (c.in_ok-push_closing.ensures, c.in_ok-events.ensures.items, c.made.ensures.value) refl in
    rest_none c.args.drawn.now ∙ sym is

pub returns-clause-count : goal.returns-clause-count
returns-clause-count c =
    let is : c.push_closing.new.events.items ≡ closing c.made.result = rw (c.in_ok-push_closing.ensures, c.in_ok-events.ensures.items) refl in
    ap (λ (events : List Event). length events) is ∙ closing_length c.made.result

pub returns-clause-each : goal.returns-clause-each
returns-clause-each c =
    let is : c.push_closing.new.events.items ≡ closing c.made.result = rw (c.in_ok-push_closing.ensures, c.in_ok-events.ensures.items) refl in
    let few = c.made.ensures.few in
    subst (λ (events : List Event). All IsReplayEvent events) (sym is) (closing_each c.made.result (omega arith))
