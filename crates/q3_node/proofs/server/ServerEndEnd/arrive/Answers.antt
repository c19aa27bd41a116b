use Rattle.std.proofs.Common.{rules}
use Rattle.q3_node.proofs.Parts.{memory_stays}
use Rattle.q3_node.proofs.server.ServerEndEnd.arrive.Goals as goal

pub returns-clause-does : goal.returns-clause-does
returns-clause-does g c =
    let files = c.tell.ensures.files (g.F.Files.told c.args._files.now) in
    let memory = memory_stays c.tell.result c.tell.ensures.only in
    search rules
