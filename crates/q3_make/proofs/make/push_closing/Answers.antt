use Rattle.std.proofs.Common.{◌≡◌, ℕ, ◌+◌, ◌*◌, ◌∙◌, ap, arith}
use Rattle.q3_make.specs.Generated.{last_turns}
use Rattle.q3_make.proofs.MadeScripts.{closing_put}
use Rattle.q3_make.proofs.Rows.{some_more}
use Rattle.q3_make.proofs.make.push_closing.Goals as goal

pub loop-c-preserved : goal.loop-c-preserved
loop-c-preserved c =
    let place = c.loop-c.c in
    let made = c.args.made in
    let is : last_turns place (made + 40 * c.from.result) ≡ last_turns place (made + 40 * place) = ap (λ (n : ℕ). last_turns place (made + 40 * n)) c.from.ensures in
    rw c.in_ok-push_last_turns.ensures
    (some_more (λ c. last_turns c (made + 40 * c)) 0 place place c.args.events.now.items c.loop-c.events.items (last_turns place (made + 40 * c.from.result)) (omega arith) c.loop-c.invariant is)

pub returns : goal.returns
returns c = c.loop-c.invariant ∙ closing_put c.args.events.now.items c.args.made c.loop-c.c (omega arith)
