use Rattle.std.proofs.Common.{List, Some, ap, refl, subst, sym, ◌∙◌, ◌≡◌, ◌-◌}
use Rattle.std.specs.Prelude.{slice_get}
use Rattle.std.proofs.lemmas.Option.{slice_get_read}
use Rattle.q3_io.specs.Acts.{FileAct}
use Rattle.q3_report.specs.declared.answer.Front.TheVariants as fronts
use Rattle.q3_world.specs.Doing.{EndsDo}
use Rattle.q3_world.specs.Ends.{EndsStep, server_takes}
use Rattle.q3_world.specs.Files.{DoesFiles}
use Rattle.q3_world.specs.Kept.{SentBytes}
use Rattle.q3_world.proofs.Filing.{client_acts, client_does, delivers_none, does_nothing, server_acts, server_does, tells_ends}
use Rattle.q3_world.proofs.ends.Ends.deliver.Goals as goal

pub returns-in_default-clause-files : goal.returns-in_default-clause-files
returns-in_default-clause-files g c =
    subst (λ (acts : List FileAct). DoesFiles (g.F.Files.told c.args.files.now) (g.F.Files.told c.args.files.now) (g.F.Files.given c.args.files.now) (g.F.Files.given c.args.files.now)
    (g.F.Files.faults c.args.files.now) (g.F.Files.faults c.args.files.now) (g.F.Files.write_faults c.args.files.now) (g.F.Files.write_faults c.args.files.now) acts c.tell.result)
    (sym (delivers_none c.args.self.now c.args.datagrams.now (c.args.number - 1) c.in_default.ensures.lookup.3)) (does_nothing _ _ _ _ c.tell.result c.tell.ensures.files)

pub returns-in-ToServer-clause-does : goal.returns-in-ToServer-clause-does
returns-in-ToServer-clause-does g c =
    let found : slice_get c.args.datagrams.now (c.args.number - 1) ≡ Some c.in-Some.sent.now =
    slice_get_read c.args.datagrams.now _ (c.args.number - 1) c.in-Some.sent.now refl c.in-Some.ensures.lookup.3.0 c.in-Some.ensures.lookup.1 in
    let way = ap (λ (s : SentBytes). s.direction) (sym c.sent.view_is) ∙ c.in-ToServer.is in
    let is = ap (λ (s : SentBytes). s.bytes) (sym c.sent.view_is) ∙ sym c.deref.ensures.value in
    server_does (λ (step : EndsStep). EndsDo c.args.self.now c.server_takes.new.self c.args.counts.now c.server_takes.new.counts (g.O.Sink.written c.args.out.now) (g.O.Sink.written c.server_takes.new.out)
    (g.O.Sink.faults c.args.out.now) (g.O.Sink.faults c.server_takes.new.out) step c.server_takes.result)
    c.args.self.now c.args.number (c.args.number - 1) c.args.datagrams.now c.in-Some.sent.now c.in-ToServer.from c.deref.result.now found way is
    (tells_ends c.args.self.now c.server_takes.new.self c.args.counts.now c.server_takes.new.counts _ _ _ _ (server_takes c.args.self.now (fronts.Deliver c.args.number) c.in-ToServer.from c.deref.result.now)
    c.server_takes.result c.server_takes.ensures.ends c.server_takes.ensures.told)

pub returns-in-ToServer-clause-files : goal.returns-in-ToServer-clause-files
returns-in-ToServer-clause-files g c =
    let found : slice_get c.args.datagrams.now (c.args.number - 1) ≡ Some c.in-Some.sent.now =
    slice_get_read c.args.datagrams.now _ (c.args.number - 1) c.in-Some.sent.now refl c.in-Some.ensures.lookup.3.0 c.in-Some.ensures.lookup.1 in
    let way = ap (λ (s : SentBytes). s.direction) (sym c.sent.view_is) ∙ c.in-ToServer.is in
    subst (λ (acts : List FileAct). DoesFiles (g.F.Files.told c.args.files.now) (g.F.Files.told c.args.files.now) (g.F.Files.given c.args.files.now) (g.F.Files.given c.args.files.now)
    (g.F.Files.faults c.args.files.now) (g.F.Files.faults c.args.files.now) (g.F.Files.write_faults c.args.files.now) (g.F.Files.write_faults c.args.files.now) acts c.server_takes.result)
    (sym (server_acts c.args.self.now (c.args.number - 1) c.args.datagrams.now c.in-Some.sent.now c.in-ToServer.from found way)) (does_nothing _ _ _ _ c.server_takes.result c.server_takes.ensures.told.files)

pub returns-in-ToClient-clause-does : goal.returns-in-ToClient-clause-does
returns-in-ToClient-clause-does g c =
    let found : slice_get c.args.datagrams.now (c.args.number - 1) ≡ Some c.in-Some.sent.now =
    slice_get_read c.args.datagrams.now _ (c.args.number - 1) c.in-Some.sent.now refl c.in-Some.ensures.lookup.3.0 c.in-Some.ensures.lookup.1 in
    let way = ap (λ (s : SentBytes). s.direction) (sym c.sent.view_is) ∙ c.in-ToClient.is in
    let is = ap (λ (s : SentBytes). s.bytes) (sym c.sent.view_is) ∙ sym c.deref-in-ToClient.ensures.value in
    let of = ap (λ (s : SentBytes). s.client) (sym c.sent.view_is) in
    client_does (λ (step : EndsStep). EndsDo c.args.self.now c.client_takes.new.self c.args.counts.now c.client_takes.new.counts (g.O.Sink.written c.args.out.now) (g.O.Sink.written c.client_takes.new.out)
    (g.O.Sink.faults c.args.out.now) (g.O.Sink.faults c.client_takes.new.out) step c.client_takes.result)
    c.args.self.now c.args.number (c.args.number - 1) c.sent.inside.client c.args.datagrams.now c.in-Some.sent.now c.deref-in-ToClient.result.now found way of is c.client_takes.ensures.does

pub returns-in-ToClient-clause-files : goal.returns-in-ToClient-clause-files
returns-in-ToClient-clause-files g c =
    let found : slice_get c.args.datagrams.now (c.args.number - 1) ≡ Some c.in-Some.sent.now =
    slice_get_read c.args.datagrams.now _ (c.args.number - 1) c.in-Some.sent.now refl c.in-Some.ensures.lookup.3.0 c.in-Some.ensures.lookup.1 in
    let way = ap (λ (s : SentBytes). s.direction) (sym c.sent.view_is) ∙ c.in-ToClient.is in
    let is = ap (λ (s : SentBytes). s.bytes) (sym c.sent.view_is) ∙ sym c.deref-in-ToClient.ensures.value in
    let of = ap (λ (s : SentBytes). s.client) (sym c.sent.view_is) in
    subst (λ (acts : List FileAct). DoesFiles (g.F.Files.told c.args.files.now) (g.F.Files.told c.client_takes.new.files) (g.F.Files.given c.args.files.now) (g.F.Files.given c.client_takes.new.files)
    (g.F.Files.faults c.args.files.now) (g.F.Files.faults c.client_takes.new.files) (g.F.Files.write_faults c.args.files.now) (g.F.Files.write_faults c.client_takes.new.files) acts c.client_takes.result)
    (sym (client_acts c.args.self.now (c.args.number - 1) c.sent.inside.client c.args.datagrams.now c.in-Some.sent.now c.deref-in-ToClient.result.now found way of is)) c.client_takes.ensures.files
