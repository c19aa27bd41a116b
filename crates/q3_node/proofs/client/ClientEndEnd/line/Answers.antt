use Rattle.std.proofs.Common.{◌≡◌, ◌∙◌, None, rules, refl, arith}
use Rattle.q3_ends.specs.ClientLine.{client_named}
use Rattle.q3_node.proofs.Parts.{memory_stays, nothing_done}
use Rattle.q3_node.proofs.Joining.{own_line, other_line}
use Rattle.q3_node.proofs.client.ClientEndEnd.line.Goals as goal

pub returns-in-Send-clause-does : goal.returns-in-Send-clause-does
returns-in-Send-clause-does g c = rw c.in-Send.is (c.send.ensures.does (g.F.Files.told c.args.files.now))

pub returns-in-Send-clause-file_cause : goal.returns-in-Send-clause-file_cause
returns-in-Send-clause-file_cause g c = c.send.ensures.file_cause (g.F.Files.write_faults c.args.files.now)

pub returns-in-End-clause-does : goal.returns-in-End-clause-does
returns-in-End-clause-does g c = rw c.in-End.is (c.finish.ensures.does (g.O.Sink.written c.args.out.now) (g.W.Wire.told c.args.wire.now))

pub returns-in-End-clause-wire_cause : goal.returns-in-End-clause-wire_cause
returns-in-End-clause-wire_cause g c = c.finish.ensures.wire_cause (g.W.Wire.faults c.args.wire.now)

pub returns-in-End-clause-write_cause : goal.returns-in-End-clause-write_cause
returns-in-End-clause-write_cause g c = c.finish.ensures.write_cause (g.O.Sink.faults c.args.out.now)

pub returns-in-Client-clause-does : goal.returns-in-Client-clause-does
returns-in-Client-clause-does g c =
    let told = c.tell_line.ensures.told (g.W.Wire.told c.args.wire.now) in
    let files = c.tell_line.ensures.files (g.F.Files.told c.args.files.now) in
    let memory = memory_stays c.tell_line.result c.tell_line.ensures.only in
    rw c.in-Client.is (search rules)

pub returns-in-Client-clause-wire_cause : goal.returns-in-Client-clause-wire_cause
returns-in-Client-clause-wire_cause g c = c.tell_line.ensures.wire_cause (g.W.Wire.faults c.args.wire.now)

pub returns-in-Client-clause-file_cause : goal.returns-in-Client-clause-file_cause
returns-in-Client-clause-file_cause g c = c.tell_line.ensures.file_cause (g.F.Files.write_faults c.args.files.now)

pub returns-then-is_none : goal.returns-then-is_none
returns-then-is_none g c =
    let end = c.args.self.now in
    let event = c.args.event.now in
    let own = own_line end event c.args.number c.in_default.not-Client c.in_default.not-Send c.in_default.not-End in
    let none : client_named event ≡ None = search rules in
    let same = own ∙ other_line end event none in
    let files = nothing_done (g.F.Files.told c.args.files.now) in
    record {
      bound = c.requires.bound;
      does = rw same (search rules);
      file = c.requires.file;
      flushed = λ nothing. nothing;
      wire_cause = refl;
      write_cause = refl;
      file_cause = refl;
      reads = refl;
      numbers = omega arith;
    }

pub returns-else-is_none-clause-does : goal.returns-else-is_none-clause-does
returns-else-is_none-clause-does g c =
    let own = own_line c.args.self.now c.args.event.now c.args.number c.in_default.not-Client c.in_default.not-Send c.in_default.not-End in
    rw own (c.own_line.ensures.does (g.W.Wire.told c.args.wire.now))

pub returns-else-is_none-clause-wire_cause : goal.returns-else-is_none-clause-wire_cause
returns-else-is_none-clause-wire_cause g c = c.own_line.ensures.wire_cause (g.W.Wire.faults c.args.wire.now)
