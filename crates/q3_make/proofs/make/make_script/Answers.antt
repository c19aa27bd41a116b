use Rattle.std.proofs.Common.{◌≡◌, List, All, length, ◌≤◌, refl, sym, subst, arith}
use Rattle.q3_script.specs.declared.event.Event.{Event}
use Rattle.q3_script.specs.Grammar.{IsReplayEvent}
use Rattle.q3_script.specs.Script.{longest_script}
use Rattle.q3_make.specs.Printed.{script_text}
use Rattle.q3_make.specs.Generated.{generated}
use Rattle.q3_make.proofs.MadeScripts.{parts_are}
use Rattle.q3_make.proofs.make.make_script.Goals as goal

pub returns-clause-made : goal.returns-clause-made
returns-clause-made c =
    parts_are c.args.number c.args.seed c.new-drawn.result c.push_drawn.new.drawn c.made.result c.push_opening.new.events.items c.push_drawn.new.events.items c.push_closing.new.events.items
    (rw (c.in_ok-push_opening.ensures, c.in_ok-events.ensures.items) refl) c.in_ok-push_drawn.ensures c.made.ensures.value c.in_ok-push_closing.ensures c.new-drawn.ensures.rest

pub returns-clause-count : goal.returns-clause-count
returns-clause-count c =
    let all : c.push_closing.new.events.items ≡ generated c.args.number c.args.seed = returns-clause-made c in
    rw all (c.generated_are_events.ensures c.args.number c.args.seed c.requires.few).count

pub returns-clause-each : goal.returns-clause-each
returns-clause-each c =
    let all : c.push_closing.new.events.items ≡ generated c.args.number c.args.seed = returns-clause-made c in
    subst (λ (events : List Event). All IsReplayEvent events) (sym all) (c.generated_are_events.ensures c.args.number c.args.seed c.requires.few).each

pub returns-clause-few : goal.returns-clause-few
returns-clause-few c =
    let all : c.push_closing.new.events.items ≡ generated c.args.number c.args.seed = returns-clause-made c in
    let few = c.requires.few in
    let count = (c.generated_are_events.ensures c.args.number c.args.seed c.requires.few).count in
    rw all (omega arith)

pub returns-clause-small : goal.returns-clause-small
returns-clause-small c =
    let all : c.push_closing.new.events.items ≡ generated c.args.number c.args.seed = returns-clause-made c in
    subst (λ (events : List Event). length (script_text events) ≤ longest_script) (sym all) (c.generated_are_events.ensures c.args.number c.args.seed c.requires.few).small
