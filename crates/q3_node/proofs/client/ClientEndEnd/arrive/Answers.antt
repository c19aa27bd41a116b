use Rattle.std.proofs.Common.{rules}
use Rattle.q3_node.proofs.Parts.{memory_stays}
use Rattle.q3_node.proofs.client.ClientEndEnd.arrive.Goals as goal

pub returns-then-not-is_address-clause-does : goal.returns-then-not-is_address-clause-does
returns-then-not-is_address-clause-does g c =
    let files = c.tell.ensures.files (g.F.Files.told c.args.files.now) in
    let memory = memory_stays c.tell.result c.tell.ensures.only in
    search rules
