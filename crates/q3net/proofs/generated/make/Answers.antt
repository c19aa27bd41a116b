use Rattle.q3net.proofs.Trying.{make_done}
use Rattle.q3net.proofs.generated.make.Goals as goal

pub returns-clause-executes : goal.returns-clause-executes
returns-clause-executes g c =
    make_done c.args.draws c.in_ok-events.events.items (g.O.Sink.written c.args.out.now) (g.O.Sink.written c.print_made.new.out) c.print_made.result
    c.in_ok-events.ensures.made (rw c.deref.ensures.value at c.print_made.ensures.prints)
