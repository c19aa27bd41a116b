use Rattle.std.proofs.Common.{rules, ◌≡◌, ◌+◌, ◌<◌, ap, arith, subst, sym}
use Rattle.rand_pcg.specs.Lcg.{Lcg}
use Rattle.q3_script.specs.declared.event.Event.{Event}
use Rattle.q3_script.specs.Grammar.{IsReplayEvent}
use Rattle.q3_make.proofs.MadeLines.{drawn_good}
use Rattle.q3_make.proofs.Rows.{rest_next}
use Rattle.q3_make.proofs.drawn.Drawn.next.Goals as goal

pub returns-clause-rest : goal.returns-clause-rest
returns-clause-rest c = λ left.
    rest_next left c.args.self.now c.in_ok-event.event (c.self.inside.drawn + 1) (c.self.inside.made + c.made_by.result) c.drawn_line.new.generator
    (search rules) (search rules) (search rules)

pub returns-clause-of_replay : goal.returns-clause-of_replay
returns-clause-of_replay c =
    let is : c.in_ok-event.event ≡ _ = ap (λ (p : Event × Lcg). p.0) c.in_ok-event.ensures in
    let few : c.self.inside.drawn < 65000 = search rules in
    subst IsReplayEvent (sym is) (drawn_good c.text_laws.ensures (c.self.inside.drawn + 1) c.self.inside.made c.self.inside.generator (omega arith) (omega arith) (omega arith)).of_replay
