use Rattle.std.proofs.Common.{List, None, Ok, ap, arith, subst, sym, ◌∙◌, ◌≡◌}
use Rattle.q3_io.specs.Acts.{FileAct}
use Rattle.q3_ends.specs.Recording.{WritesFiles}
use Rattle.q3_ends.proofs.Files.{writes_nothing}
use Rattle.q3_world.specs.Ends.{Ends, place_at}
use Rattle.q3_world.specs.Files.{stop_acts}
use Rattle.q3_world.proofs.Filing.{at_place}
use Rattle.q3_world.proofs.ends.Ends.end_at.Goals as goal

pub returns-in_default-clause-files : goal.returns-in_default-clause-files
returns-in_default-clause-files g c =
    let none : place_at c.args.self.now c.args.c ≡ None =
    subst (λ (ends : Ends). place_at ends c.args.c ≡ None) c.self.view_is
    (at_place c.self.inside.clients.items c.args.c c.index_mut.result.now c.index_mut.ensures.value (omega (arith, c.requires.place, c.self.invariant)) ∙ c.in_default.is) in
    subst (λ (acts : List FileAct). WritesFiles (g.F.Files.told c.args.files.now) (g.F.Files.told c.args.files.now) (g.F.Files.given c.args.files.now) (g.F.Files.given c.args.files.now)
    (g.F.Files.faults c.args.files.now) (g.F.Files.faults c.args.files.now) (g.F.Files.write_faults c.args.files.now) (g.F.Files.write_faults c.args.files.now) acts (Ok tt))
    (ap stop_acts (sym none)) (writes_nothing _ _ _ _)
