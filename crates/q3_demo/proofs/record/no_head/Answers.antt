use Rattle.std.proofs.Common.{Fits, w64, rules, refl, arith}
use Rattle.q3_demo.proofs.Whole.{has_some, ends_before, size_asks}
use Rattle.q3_demo.proofs.record.no_head.Goals as goal

pub returns-in-Ok-clause-finds : goal.returns-in-Ok-clause-finds
returns-in-Ok-clause-finds g c =
    λ at far. ends_before (g.F.Files.told c.args.files.now) (g.F.Files.told c.size.new.self) c.args.file at c.in-Ok.field-0 c.in-Ok.ensures.told (let fits : Fits w64 c.in-Ok.field-0 = search rules in omega arith)

pub returns-in-Ok-clause-asks : goal.returns-in-Ok-clause-asks
returns-in-Ok-clause-asks g c = size_asks (g.F.Files.told c.args.files.now) (g.F.Files.told c.size.new.self) c.args.file c.size.result c.size.ensures.told

pub returns-in-Err-clause-finds : goal.returns-in-Err-clause-finds
returns-in-Err-clause-finds g c =
    λ at far. let some = has_some (g.F.Files.told c.args.files.now) c.args.file at in
    (some.0, some.1, refl)

pub returns-in-Err-clause-asks : goal.returns-in-Err-clause-asks
returns-in-Err-clause-asks g c = size_asks (g.F.Files.told c.args.files.now) (g.F.Files.told c.size.new.self) c.args.file c.size.result c.size.ensures.told
