use Rattle.std.proofs.Common.{◌≡◌, length, ap, sym, subst, ◌∙◌}
use Rattle.q3_world.specs.Counting.{Counting}
use Rattle.q3_world.proofs.Forgetting.{newest_is, IsGone, wanted_left}
use Rattle.q3_world.proofs.world.World.forget_unnamed.Goals as goal

pub returns-clause-wanted : goal.returns-clause-wanted
returns-clause-wanted c = λ all tells within had.
    let first = c.forget.ensures in
    let second = c.forget-2.ensures in
    let many : c.len.result ≡ length c.args.self.now.kept.datagrams =
    c.len.ensures ∙ (c.self.inside.datagrams.ok.0 ∙ (ap (λ (w : Counting). length w.kept.datagrams) c.self.view_is ∙ first.lets_go.many)) in
    wanted_left c.args.later.now c.args.done c.args.self.now c.forget.new.self c.forget-2.new.self all c.args.event.now c.checked_sub-newest.result first.lets_go second.lets_go
    (subst (IsGone all c.args.done c.forget.new.self.kept.datagrams) c.named.ensures (first.gone all tells)) (second.gone all tells)
    (λ at is. newest_is c.checked_sub-newest.result c.len.result at c.checked_sub-newest.ensures (is ∙ sym many)) within had
