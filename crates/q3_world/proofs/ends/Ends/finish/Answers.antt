use Rattle.std.proofs.Common.{Option, ◌+◌, ◌<◌, length, arith, subst, sym, Ok, Err}
use Rattle.std.proofs.lemmas.Result.{err_from_is_err_and}
use Rattle.q3_ends.specs.Recording.{WritesFiles}
use Rattle.q3_ends.proofs.Files.{writes_nothing}
use Rattle.q3_world.specs.declared.places.Place.{Place}
use Rattle.q3_world.specs.Ends.{Ends}
use Rattle.q3_world.specs.Files.{AreNumbered, stop_acts}
use Rattle.q3_world.proofs.Finishing.{HaveEnds, HaveEnds-begin, HaveEnds-more, HaveEnds-there, ends_early, ends_more, numbered_ended}
use Rattle.q3_world.proofs.ends.Ends.finish.Goals as goal

pub loop-c-init : goal.loop-c-init
loop-c-init g c = (HaveEnds-begin c.args.self.now, writes_nothing _ _ _ _, c.requires.numbered)

pub returns-in_err-end_at-clause-files : goal.returns-in_err-end_at-clause-files
returns-in_err-end_at-clause-files g c =
    let p = err_from_is_err_and c.from_residual.result c.from_residual.ensures.1 in
    let lt : c.loop-c.c < length c.args.self.now.clients = omega (arith, c.stands.ensures, c.loop-c-test.true) in
    let at = HaveEnds-there c.loop-c.c c.args.self.now c.loop-c.self lt c.loop-c.invariant.0 in
    rw (p.1, p.2) (ends_early c.args.self.now (c.loop-c.c + 1)
    (ends_more c.args.self.now c.loop-c.c lt c.loop-c.invariant.1
    (subst (λ (found : Option Place). WritesFiles (g.F.Files.told c.loop-c.files) (g.F.Files.told c.end_at.new.files) (g.F.Files.given c.loop-c.files) (g.F.Files.given c.end_at.new.files) (g.F.Files.faults c.loop-c.files) (g.F.Files.faults c.end_at.new.files) (g.F.Files.write_faults c.loop-c.files) (g.F.Files.write_faults c.end_at.new.files) (stop_acts found) (Err c.in_err-end_at.field-0.0)) at c.in_err-end_at.ensures.files)))

pub loop-c-preserved : goal.loop-c-preserved
loop-c-preserved g c =
    let lt : c.loop-c.c < length c.args.self.now.clients = omega (arith, c.stands.ensures, c.loop-c-test.true) in
    let at = HaveEnds-there c.loop-c.c c.args.self.now c.loop-c.self lt c.loop-c.invariant.0 in
    let writes = c.in_ok-end_at.ensures.files in (
      subst (HaveEnds (c.loop-c.c + 1) c.args.self.now) (sym c.end_at.ensures.ends) (HaveEnds-more c.loop-c.c c.args.self.now c.loop-c.self lt c.loop-c.invariant.0),
      ends_more c.args.self.now c.loop-c.c lt c.loop-c.invariant.1
          (subst (λ (found : Option Place). WritesFiles (g.F.Files.told c.loop-c.files) (g.F.Files.told c.end_at.new.files) (g.F.Files.given c.loop-c.files) (g.F.Files.given c.end_at.new.files) (g.F.Files.faults c.loop-c.files) (g.F.Files.faults c.end_at.new.files) (g.F.Files.write_faults c.loop-c.files) (g.F.Files.write_faults c.end_at.new.files) (stop_acts found) (Ok c.in_ok-end_at.field-0)) at writes),
      subst (λ (ends : Ends). AreNumbered (g.F.Files.told c.end_at.new.files) (g.F.Files.given c.end_at.new.files) c.args.numbers.now ends) (sym c.end_at.ensures.ends)
          (numbered_ended _ _ _ _ c.loop-c.c c.args.numbers.now c.args.self.now c.loop-c.self writes.names writes.numbers c.loop-c-test.true c.stands.ensures c.loop-c.invariant.0 c.loop-c.invariant.2),
    )
