use Rattle.std.proofs.Common.{[], ◌^◌, ◌<◌, take, arith}
use Rattle.std.proofs.lemmas.List.{take_more, length-take-le}
use Rattle.std.proofs.lemmas.List.Elements.{All-push}
use Rattle.q3_entity.proofs.Near.{below-before}
use Rattle.q3_entity.proofs.run.count_below.Goals as goal
use Rattle.q3_entity.proofs.run.count_below.Goals.{then-most-eq0-via-then-most-eq0, then-most-eq0-via-else-most-eq0+then-part-most}

pub loop-k-preserved : goal.loop-k-preserved
loop-k-preserved c =
    let part = c.args.part.now in
    let number = c.args.number in
    let k = c.loop-k.k in
    rw (take_more part k (record { number = 0; words = [] }) (omega arith))
    (All-push (λ entity. entity.number < number) (take k part) _ c.loop-k.invariant c.if-part-k.false)

pub returns-then-most-eq0-clause-below : goal.returns-then-most-eq0-clause-below
returns-then-most-eq0-clause-below c =
    let part = c.args.part.now in
    let most = c.most_below-most.result in
    let within = c.most_below-most.ensures.most in
    elim c.then-most-eq0.branch [
      | then-most-eq0-via-then-most-eq0 w ↦ λ k d there. absurd (omega (arith, there, length-take-le most part within, w.if-most-eq0.true))
      | then-most-eq0-via-else-most-eq0+then-part-most w ↦
          below-before (2 ^ 16) 0 c.args.number most part _ c.requires within (omega (arith, w.if-most-eq0.false)) w.if-part-most.true
    ]
