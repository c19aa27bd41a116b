use Rattle.std.proofs.Common.{rules}
use Rattle.q3_node.proofs.Parts.{memory_stays, nothing_done}
use Rattle.q3_node.proofs.server.ServerEnd.game_line.Goals as goal

pub returns-in_default-clause-does : goal.returns-in_default-clause-does
returns-in_default-clause-does g c = λ wire told. let files = nothing_done told in search rules

pub returns-clause-does : goal.returns-clause-does
returns-clause-does g c = λ wire told.
    let tells = c.tell_line.ensures.told wire in
    let files = c.tell_line.ensures.files told in
    let memory = memory_stays c.tell_line.result c.tell_line.ensures.only in
    search rules
