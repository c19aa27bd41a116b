use Rattle.std.proofs.Common.{List, None, Option, ap, arith, subst, sym, ◌∙◌, ◌≡◌}
use Rattle.q3_io.specs.Acts.{FileAct}
use Rattle.q3_world.specs.declared.places.Place.{Place}
use Rattle.q3_world.specs.Ends.{Ends, place_at}
use Rattle.q3_world.specs.Files.{AreNumbered, DoesFiles, place_acts}
use Rattle.q3_world.proofs.Filing.{at_place, does_nothing, numbered_new, numbered_gone}
use Rattle.q3_world.proofs.ends.Ends.client_line.Goals as goal

pub returns-in_default-clause-files : goal.returns-in_default-clause-files
returns-in_default-clause-files g c =
    let none : place_at c.args.self.now c.args.c ≡ None =
    subst (λ (ends : Ends). place_at ends c.args.c ≡ None) c.self.view_is
    (at_place c.self.inside.clients.items c.args.c c.index_mut.result.now c.index_mut.ensures.value (omega (arith, c.requires.place, c.self.invariant)) ∙ c.in_default.is) in
    subst (λ (acts : List FileAct). DoesFiles (g.F.Files.told c.args.files.now) (g.F.Files.told c.args.files.now) (g.F.Files.given c.args.files.now) (g.F.Files.given c.args.files.now)
    (g.F.Files.faults c.args.files.now) (g.F.Files.faults c.args.files.now) (g.F.Files.write_faults c.args.files.now) (g.F.Files.write_faults c.args.files.now) acts c.tell.result)
    (ap (λ (found : Option Place). place_acts found c.args.event.now) (sym none)) (does_nothing _ _ _ _ c.tell.result c.tell.ensures.files)

pub returns-in_default-clause-numbered : goal.returns-in_default-clause-numbered
returns-in_default-clause-numbered g c =
    let ends : Ends = record { server = c.self.inside.server; clients = c.self.inside.clients.items } in
    let numbered = subst (λ (e : Ends). AreNumbered (g.F.Files.told c.args.files.now) (g.F.Files.given c.args.files.now) c.args.numbers.now e) (sym c.self.view_is) c.requires.numbered in
    numbered_gone _ _ c.args.c c.args.numbers.now ends c.index_mut.result.now c.in_default.is c.requires.place c.self.invariant numbered

pub returns-clause-numbered : goal.returns-clause-numbered
returns-clause-numbered g c =
    let ends : Ends = record { server = c.self.inside.server; clients = c.self.inside.clients.items } in
    let numbered = subst (λ (e : Ends). AreNumbered (g.F.Files.told c.args.files.now) (g.F.Files.given c.args.files.now) c.args.numbers.now e) (sym c.self.view_is) c.requires.numbered in
    numbered_new _ _ _ _ c.args.c c.line-done.new.number c.args.numbers.now ends c.line-done.new.self c.line-done.ensures.files.names c.line-done.ensures.files.numbers c.requires.place c.told-numbers
    c.self.invariant c.line-done.ensures.file numbered
