use Rattle.std.proofs.Common.{◌≡◌, ℕ, ◌*◌, ap, arith}
use Rattle.q3_make.specs.Generated.{first_turns}
use Rattle.q3_make.proofs.Rows.{some_more}
use Rattle.q3_make.proofs.make.push_first_turns.Goals as goal

pub loop-c-preserved : goal.loop-c-preserved
loop-c-preserved c =
    let place = c.loop-c.c in
    let is : first_turns place (4 * c.from.result) ≡ first_turns place (4 * place) = ap (λ (n : ℕ). first_turns place (4 * n)) c.from.ensures in
    rw c.in_ok-push_first.ensures
    (some_more (λ c. first_turns c (4 * c)) 0 place place c.args.events.now.items c.loop-c.events.items (first_turns place (4 * c.from.result)) (omega arith) c.loop-c.invariant is)
