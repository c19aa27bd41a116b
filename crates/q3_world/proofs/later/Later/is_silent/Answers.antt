use Rattle.std.proofs.Common.{◌≡◌, ◌<◌, ℕ, List, length, get_or, subst, ap, ◌∙◌, arith, leb-false, ltb-false}
use Rattle.q3_world.proofs.Forgetting.{named_of}
use Rattle.q3_world.proofs.later.Later.is_silent.Goals as goal

pub returns-in-Some-clause-named : goal.returns-in-Some-clause-named
returns-in-Some-clause-named c = λ no all tells within silent.
    let found = c.in-Some.ensures.lookup in
    let same : c.deref.result.now ≡ c.args.self.now = c.deref.ensures.value ∙ c.self.view_is in
    let more : c.args.done < c.in-Some.last.now = omega (arith, no, leb-false, ltb-false) in
    let last : c.in-Some.last.now ≡ get_or c.args.self.now c.args.at 0 = found.3.1 0 ∙ ap (λ (l : List ℕ). get_or l c.args.at 0) same in
    named_of c.args.self.now all c.args.at c.args.done (subst (λ (l : List ℕ). c.args.at < length l) same found.3.0) (subst (λ (n : ℕ). c.args.done < n) last more) tells silent
