use Rattle.std.proofs.Common.{None}
use Rattle.q3_node.specs.Node.{new_node}
use Rattle.q3_node.specs.Running.{effects}
use Rattle.q3_node.specs.AtServer.{server_rules}
use Rattle.q3_node.proofs.Serving.{frugal}
use Rattle.q3_node.proofs.Turning.{keeps_memory}
use Rattle.q3_node.proofs.node.serve_loop.Goals as goal

pub returns-clause-ran : goal.returns-clause-ran
returns-clause-ran g c = rw c.in_ok-end.ensures at c.run.ensures.ran

pub returns-clause-no_memory : goal.returns-clause-no_memory
returns-clause-no_memory g c = λ ran.
    c.run.ensures.no_memory ran
    (keeps_memory server_rules (λ server event number. (frugal server event number).memory) (g.W.Wire.bound c.run.new.wire) (new_node c.in_ok-end.end c.args.events.now) c.args.at
    (g.C.Clock.readings c.args.clock.now) (g.C.Clock.readings c.run.new.clock) (effects (g.O.Sink.written c.args.out.now) (g.W.Wire.told c.args.wire.now) None)
    (effects (g.O.Sink.written c.run.new.out) (g.W.Wire.told c.run.new.wire) None) (rw ran at c.run.ensures.ran))
