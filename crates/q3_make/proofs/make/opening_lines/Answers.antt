use Rattle.std.proofs.Common.{◌≡◌, List, All, length, ◌∙◌, sym, ap, subst, refl}
use Rattle.q3_script.specs.declared.event.Event.{Event}
use Rattle.q3_script.specs.Grammar.{IsReplayEvent}
use Rattle.q3_make.specs.Generated.{opening}
use Rattle.q3_make.proofs.MadeScripts.{opening_length, opening_each}
use Rattle.q3_make.proofs.make.opening_lines.Goals as goal

pub returns-clause-count : goal.returns-clause-count
returns-clause-count c =
    let is : c.push_opening.new.events.items ≡ opening = rw (c.in_ok-push_opening.ensures, c.in_ok-events.ensures.items) refl in
    ap (λ (events : List Event). length events) is ∙ opening_length

pub returns-clause-each : goal.returns-clause-each
returns-clause-each c =
    let is : c.push_opening.new.events.items ≡ opening = rw (c.in_ok-push_opening.ensures, c.in_ok-events.ensures.items) refl in
    subst (λ (events : List Event). All IsReplayEvent events) (sym is) opening_each
