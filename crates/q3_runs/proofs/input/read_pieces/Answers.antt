use Rattle.std.proofs.Common.{◌≡◌, ℕ, ◌<◌, ◌++◌, length, take, Ok, Err, rules, arith, subst}
use Rattle.std.proofs.lemmas.Grind.{common_steps}
use Rattle.q3_io.specs.Told.{ReadsAt}
use Rattle.q3_index.proofs.Asking.{only_same, only_then, read_only}
use Rattle.q3_runs.proofs.Reading.{HasRead-none, HasRead-more, HasRead-end, HasRead-long}
use Rattle.q3_runs.proofs.input.read_pieces.Goals as goal

pub loop-files-init : goal.loop-files-init
loop-files-init g c = (
  search rules,
  search rules,
  search rules,
  rw c.new-bytes.ensures.items (HasRead-none (g.F.Files.told c.args.files.now) c.args.file),
  only_same c.args.file (g.F.Files.told c.args.files.now),
)

pub returns-then-count-eq0-clause-reads : goal.returns-then-count-eq0-clause-reads
returns-then-count-eq0-clause-reads g c =
    let at : c.len-in-loop-files.result ≡ length c.loop-files.bytes.items = search rules in
    let some : 0 < length c.loop-files.piece = omega (arith, c.requires.some) in
    HasRead-end c.args.most (g.F.Files.told c.args.files.now) (g.F.Files.told c.loop-files.files) (g.F.Files.told c.read_at.new.self) c.args.file
    c.loop-files.bytes.items c.loop-files.piece c.read_at.new.into c.in-Ok.count some c.if-count-eq0.true c.loop-files.invariant.3
    (subst (λ (n : ℕ). ReadsAt (g.F.Files.told c.loop-files.files) (g.F.Files.told c.read_at.new.self) c.args.file n c.loop-files.piece c.read_at.new.into (Ok c.in-Ok.count)) at c.in-Ok.ensures.told)

pub loop-files-preserved : goal.loop-files-preserved
loop-files-preserved g c =
    let at : c.len-in-loop-files.result ≡ length c.loop-files.bytes.items = search rules in
    let items : c.extend_from_slice.new.self.items ≡ c.loop-files.bytes.items ++ take c.in-Ok.count c.read_at.new.into = grind (arith, common_steps) in (
      grind (arith, common_steps),
      grind (arith, common_steps),
      grind (arith, common_steps),
      rw items (HasRead-more (g.F.Files.told c.args.files.now) (g.F.Files.told c.loop-files.files) (g.F.Files.told c.read_at.new.self) c.args.file
          c.loop-files.bytes.items c.loop-files.piece c.read_at.new.into c.in-Ok.count c.loop-files.invariant.3
          (subst (λ (n : ℕ). ReadsAt (g.F.Files.told c.loop-files.files) (g.F.Files.told c.read_at.new.self) c.args.file n c.loop-files.piece c.read_at.new.into (Ok c.in-Ok.count)) at c.in-Ok.ensures.told)),
      only_then c.args.file (g.F.Files.told c.args.files.now) (g.F.Files.told c.loop-files.files) (g.F.Files.told c.read_at.new.self) c.loop-files.invariant.4
          (read_only c.args.file (g.F.Files.told c.loop-files.files) (g.F.Files.told c.read_at.new.self) c.len-in-loop-files.result c.loop-files.piece c.read_at.new.into (Ok c.in-Ok.count) c.in-Ok.ensures.told),
    )

pub returns-clause-reads : goal.returns-clause-reads
returns-clause-reads g c =
    let long : c.args.most < length c.loop-files.bytes.items = search rules in
    HasRead-long c.args.most (g.F.Files.told c.args.files.now) (g.F.Files.told c.loop-files.files) c.args.file c.loop-files.bytes.items long c.loop-files.invariant.3

pub returns-in_default-clause-only : goal.returns-in_default-clause-only
returns-in_default-clause-only g c =
    only_then c.args.file (g.F.Files.told c.args.files.now) (g.F.Files.told c.loop-files.files) (g.F.Files.told c.read_at.new.self) c.loop-files.invariant.4
    (read_only c.args.file (g.F.Files.told c.loop-files.files) (g.F.Files.told c.read_at.new.self) c.len-in-loop-files.result c.loop-files.piece c.read_at.new.into (Err c.in_default.field-0) c.in_default.ensures.told)

pub returns-then-count-eq0-clause-only : goal.returns-then-count-eq0-clause-only
returns-then-count-eq0-clause-only g c =
    only_then c.args.file (g.F.Files.told c.args.files.now) (g.F.Files.told c.loop-files.files) (g.F.Files.told c.read_at.new.self) c.loop-files.invariant.4
    (read_only c.args.file (g.F.Files.told c.loop-files.files) (g.F.Files.told c.read_at.new.self) c.len-in-loop-files.result c.loop-files.piece c.read_at.new.into (Ok c.in-Ok.count) c.in-Ok.ensures.told)

pub returns-in_err-extend_from_slice-clause-only : goal.returns-in_err-extend_from_slice-clause-only
returns-in_err-extend_from_slice-clause-only g c =
    only_then c.args.file (g.F.Files.told c.args.files.now) (g.F.Files.told c.loop-files.files) (g.F.Files.told c.read_at.new.self) c.loop-files.invariant.4
    (read_only c.args.file (g.F.Files.told c.loop-files.files) (g.F.Files.told c.read_at.new.self) c.len-in-loop-files.result c.loop-files.piece c.read_at.new.into (Ok c.in-Ok.count) c.in-Ok.ensures.told)

pub returns-clause-only : goal.returns-clause-only
returns-clause-only g c = c.loop-files.invariant.4
