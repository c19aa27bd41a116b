use Rattle.std.proofs.Common.{◌≡◌, sym, subst, rules}
use Rattle.q3_chan.specs.Gathering.{Took, gathered, take_newer, Delivers}
use Rattle.q3_chan.proofs.gatherer.Gatherer.take.Goals as goal

pub returns-clause-message : goal.returns-clause-message
unfolding gathered
returns-clause-message c =
    let is : gathered c.args.self.now c.args.datagram.now ≡ take_newer c.args.self.now c.args.datagram.now = search rules in
    subst (λ (t : Took). Delivers c.take_newer.result c.take_newer.new.into t.message) (sym is) c.take_newer.ensures.message
