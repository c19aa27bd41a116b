use Rattle.std.proofs.Common.{rules}
use Rattle.q3_node.proofs.Parts.{memory_stays}
use Rattle.q3_node.proofs.Serving.{game_line}
use Rattle.q3_node.proofs.server.ServerEndEnd.line.Goals as goal

pub returns-in-Serve-clause-does : goal.returns-in-Serve-clause-does
returns-in-Serve-clause-does g c = rw c.in-Serve.is (c.serve.ensures.does (g.F.Files.told c.args._files.now))

pub returns-in-Serve-clause-file_cause : goal.returns-in-Serve-clause-file_cause
returns-in-Serve-clause-file_cause g c = c.serve.ensures.file_cause (g.F.Files.write_faults c.args._files.now)

pub returns-in-Client-clause-does : goal.returns-in-Client-clause-does
returns-in-Client-clause-does g c =
    let told = c.tell_line.ensures.told (g.W.Wire.told c.args.wire.now) in
    let files = c.tell_line.ensures.files (g.F.Files.told c.args._files.now) in
    let memory = memory_stays c.tell_line.result c.tell_line.ensures.only in
    rw c.in-Client.is (search rules)

pub returns-in-Client-clause-wire_cause : goal.returns-in-Client-clause-wire_cause
returns-in-Client-clause-wire_cause g c = c.tell_line.ensures.wire_cause (g.W.Wire.faults c.args.wire.now)

pub returns-in-Client-clause-file_cause : goal.returns-in-Client-clause-file_cause
returns-in-Client-clause-file_cause g c = c.tell_line.ensures.file_cause (g.F.Files.write_faults c.args._files.now)

pub returns-in_default-clause-does : goal.returns-in_default-clause-does
returns-in_default-clause-does g c =
    rw (game_line c.args.self.now c.args.event.now c.args.number c.in_default.not-Client c.in_default.not-Serve) (c.game_line.ensures.does (g.W.Wire.told c.args.wire.now) (g.F.Files.told c.args._files.now))

pub returns-in_default-clause-wire_cause : goal.returns-in_default-clause-wire_cause
returns-in_default-clause-wire_cause g c = c.game_line.ensures.wire_cause (g.W.Wire.faults c.args.wire.now)

pub returns-in_default-clause-file_cause : goal.returns-in_default-clause-file_cause
returns-in_default-clause-file_cause g c = c.game_line.ensures.file_cause (g.F.Files.write_faults c.args._files.now)
