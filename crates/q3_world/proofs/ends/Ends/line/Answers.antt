use Rattle.std.proofs.Common.{List, refl, subst, sym}
use Rattle.q3_io.specs.Acts.{FileAct}
use Rattle.q3_ends.proofs.Files.{writes_nothing}
use Rattle.q3_world.specs.Doing.{EndsDo}
use Rattle.q3_world.specs.Ends as by_ends
use Rattle.q3_world.specs.Ends.{EndsStep, place_at}
use Rattle.q3_world.specs.Files.{AreNumbered, DoesFiles, line_acts}
use Rattle.q3_world.proofs.Filing.{acts_of_client_or_game, does_nothing, does_client_or_game, is_game, numbered_joined, numbered_same, same_port}
use Rattle.q3_world.proofs.ends.Ends.line.Goals as goal

pub returns-in-Port-clause-files : goal.returns-in-Port-clause-files
unfolding line_acts
returns-in-Port-clause-files g c = rw c.in-Port.is (does_nothing _ _ _ _ c.tell-in-Port.result c.tell-in-Port.ensures.files)

pub returns-in-Ok-clause-files : goal.returns-in-Ok-clause-files
unfolding line_acts
returns-in-Ok-clause-files g c = rw c.in-Client.is (does_nothing _ _ _ _ c.tell.result c.tell.ensures.files)

pub returns-in-Toserver-clause-files : goal.returns-in-Toserver-clause-files
unfolding line_acts
returns-in-Toserver-clause-files g c = rw c.in-Toserver.is (does_nothing _ _ _ _ c.hand_server.result c.hand_server.ensures.told.files)

pub returns-in-Port-clause-numbered : goal.returns-in-Port-clause-numbered
returns-in-Port-clause-numbered g c =
    subst (λ (step : EndsStep). AreNumbered (g.F.Files.told c.args.files.now) (g.F.Files.given c.args.files.now) c.args.numbers.now step.ends) c.set_port-handed.ensures
    (numbered_same _ _ c.args.numbers.now c.args.self.now (by_ends.set_port c.args.self.now c.in-Port.c c.in-Port.port).ends (same_port c.args.self.now c.in-Port.c c.in-Port.port (place_at c.args.self.now c.in-Port.c) refl) c.requires.numbered)

pub returns-in-Ok-clause-numbered : goal.returns-in-Ok-clause-numbered
returns-in-Ok-clause-numbered g c =
    subst (λ (step : EndsStep). AreNumbered (g.F.Files.told c.args.files.now) (g.F.Files.given c.args.files.now) c.args.numbers.now step.ends) c.in-Ok.ensures.ok
    (numbered_joined _ _ c.in-Client.c c.args.numbers.now c.args.profile.now c.args.self.now c.in-Client.challenge c.in-Client.qport c.in-Client.dup c.in-Client.address c.requires.numbered)

pub returns-in_default-join-clause-files : goal.returns-in_default-join-clause-files
returns-in_default-join-clause-files g c = writes_nothing _ _ _ _

pub client_or_game_line-requires-clause-line : goal.client_or_game_line-requires-clause-line
client_or_game_line-requires-clause-line g c = λ none.
    is_game c.args.profile.now c.args.self.now c.args.event.now c.requires.event c.in_default.not-Client c.in_default.not-Port c.in_default.not-Toclient c.in_default.not-Toserver c.requires.line none

pub returns-in_default-clause-does : goal.returns-in_default-clause-does
returns-in_default-clause-does g c =
    does_client_or_game (λ (step : EndsStep). EndsDo c.args.self.now c.client_or_game_line.new.self c.args.counts.now c.client_or_game_line.new.counts (g.O.Sink.written c.args.out.now) (g.O.Sink.written c.client_or_game_line.new.out)
    (g.O.Sink.faults c.args.out.now) (g.O.Sink.faults c.client_or_game_line.new.out) step c.client_or_game_line.result) c.args.profile.now c.args.self.now c.args.event.now
    c.in_default.not-Client c.in_default.not-Port c.in_default.not-Toclient c.in_default.not-Toserver c.client_or_game_line.ensures.does

pub returns-in_default-clause-files : goal.returns-in_default-clause-files
returns-in_default-clause-files g c =
    subst (λ (acts : List FileAct). DoesFiles (g.F.Files.told c.args.files.now) (g.F.Files.told c.client_or_game_line.new.files) (g.F.Files.given c.args.files.now) (g.F.Files.given c.client_or_game_line.new.files)
    (g.F.Files.faults c.args.files.now) (g.F.Files.faults c.client_or_game_line.new.files) (g.F.Files.write_faults c.args.files.now) (g.F.Files.write_faults c.client_or_game_line.new.files) acts c.client_or_game_line.result)
    (sym (acts_of_client_or_game c.args.self.now c.args.event.now c.in_default.not-Toclient)) c.client_or_game_line.ensures.files
