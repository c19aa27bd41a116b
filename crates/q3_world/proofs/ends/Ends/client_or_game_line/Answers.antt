use Rattle.std.proofs.Common.{None, Option, ℕ, ◌<◌, ◌≡◌, ◌∙◌, subst, sym}
use Rattle.std.specs.Prelude.{IfSome}
use Rattle.q3_server.specs.Server.{places}
use Rattle.q3_ends.specs.ClientLine.{client_named}
use Rattle.q3_ends.proofs.Files.{writes_nothing}
use Rattle.q3_world.specs.Files.{DoesFiles, client_or_game_acts}
use Rattle.q3_world.proofs.Filing.{does_nothing, named_within}
use Rattle.q3_world.proofs.ends.Ends.client_or_game_line.Goals as goal

pub client_line-requires-clause-place : goal.client_line-requires-clause-place
client_line-requires-clause-place g c =
    subst (λ (found : Option ℕ). IfSome found (λ k. k < places)) (sym c.client_named.ensures ∙ c.in-Some.is) (named_within c.args.event.now c.requires.event)

pub returns-in_default-clause-files : goal.returns-in_default-clause-files
returns-in_default-clause-files g c =
    let none : client_named c.args.event.now ≡ None = sym c.client_named.ensures ∙ c.in_default.is in
    subst (λ (found : Option ℕ). DoesFiles (g.F.Files.told c.args.files.now) (g.F.Files.told c.args.files.now) (g.F.Files.given c.args.files.now) (g.F.Files.given c.args.files.now)
    (g.F.Files.faults c.args.files.now) (g.F.Files.faults c.args.files.now) (g.F.Files.write_faults c.args.files.now) (g.F.Files.write_faults c.args.files.now)
    (client_or_game_acts c.args.self.now c.args.event.now found) c.game_line.result)
    (sym none) (does_nothing _ _ _ _ c.game_line.result c.game_line.ensures.told.files)

pub returns-in_default-fresh_for-clause-files : goal.returns-in_default-fresh_for-clause-files
returns-in_default-fresh_for-clause-files g c = writes_nothing _ _ _ _
