use Rattle.std.proofs.Common.{◌≡◌, ◌∙◌, Some, ap, subst, rules, refl}
use Rattle.q3_report.specs.Answers.{Answered}
use Rattle.q3_ends.specs.ClientLine.{client_line}
use Rattle.q3_node.specs.Running.{effects, DoesLine}
use Rattle.q3_node.specs.AtClient.{ClientEnd, own_done}
use Rattle.q3_node.proofs.Parts.{acts_told, memory_stays}
use Rattle.q3_node.proofs.Joining.{does_own}
use Rattle.q3_node.proofs.client.ClientEnd.own_line.Goals as goal

pub returns-clause-does : goal.returns-clause-does
returns-clause-does g c = λ wire.
    let event = c.args.event.now in
    let inside = c.self.inside in
    let end : ClientEnd = record { c = inside.c; client = inside.client; server = inside.server; recording = inside.recording } in
    let is : end ≡ c.args.self.now = search rules in
    let line = client_line inside.client inside.recording event in
    let before = effects (g.O.Sink.written c.args.out.now) wire (g.F.Files.told c.args.files.now) in
    let after = effects (g.O.Sink.written c.tell_line.new.out) wire (g.F.Files.told c.client_line.new.files) in
    let answer = ap (λ (a : Answered). Some a) c.line_answer.ensures ∙ c.in-Ok.ensures.answer in
    let files = acts_told (g.F.Files.told c.args.files.now) (g.F.Files.told c.client_line.new.files) _ c.tell_line.result c.in-Ok.ensures.files.acts_on c.tell_line.ensures.only in
    subst (λ (e : ClientEnd). DoesLine (own_done e event (client_line e.client e.recording event)) (record end { client = c.client_line.new.client; recording = c.client_line.new.recording }) before after c.tell_line.result)
    is (does_own end event line c.client_line.new.client c.client_line.new.recording _ before after c.tell_line.result c.in-Ok.ensures.client c.in-Ok.ensures.recording answer
    (c.tell_line.ensures.told wire) files (memory_stays c.tell_line.result c.tell_line.ensures.only))

pub returns-clause-file_cause : goal.returns-clause-file_cause
returns-clause-file_cause g c = rw (c.in-Ok.ensures.files.cause.ok refl) (c.tell_line.ensures.file_cause (g.F.Files.write_faults c.args.files.now))
