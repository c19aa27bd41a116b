use Rattle.std.proofs.Common.{rules}
use Rattle.q3_svmsg.proofs.reading.read_against.Goals as goal

pub returns-clause-reads : goal.returns-clause-reads
returns-clause-reads g c =
    λ game.
    let told = c.read_snapshot.ensures.reads game in
    search rules
