use Rattle.std.proofs.Common.{◌/◌, ℕ, Option, Ok, Err, refl, ◌∙◌, arith}
use Rattle.std.proofs.lemmas.Result.{err_from_is_err_and}
use Rattle.q3_io.specs.Told.{Told}
use Rattle.q3_demo.specs.Running.{OnlyAsks}
use Rattle.q3_index.specs.declared.build.Built.{Built}
use Rattle.q3_index.specs.Text.{spacing}
use Rattle.q3_index.proofs.Asking.{asks_then, size_asks}
use Rattle.q3_index.proofs.Causes.{cause_so, writes_so}
use Rattle.q3_index.proofs.Building.{size_is, still_empty, size_fails, count_fails, head_fails, points_fail, it_is_made}
use Rattle.q3_index.proofs.build.build_index.Goals as goal

pub returns-in_default-clause-builds : goal.returns-in_default-clause-builds
returns-in_default-clause-builds g c =
    let before : Option Told = g.F.Files.told c.args.files.now in
    let sized : Option Told = g.F.Files.told c.size.new.self in
    λ told is. size_fails c.args.profile.now told c.args.demo c.args.index sized
    (still_empty told before sized c.args.index is (c.requires.other told is).1 (size_asks before sized c.args.demo (Err c.in_default.field-0) c.in_default.ensures.told))

pub returns-in_err-records-clause-builds : goal.returns-in_err-records-clause-builds
returns-in_err-records-clause-builds g c =
    let p = err_from_is_err_and c.from_residual.result c.from_residual.ensures.1 in
    let before : Option Told = g.F.Files.told c.args.files.now in
    let sized : Option Told = g.F.Files.told c.size.new.self in
    let counted : Option Told = g.F.Files.told c.count_records.new.files in
    let asks : OnlyAsks before counted = asks_then before sized counted (size_asks before sized c.args.demo (Ok c.in-Ok.length) c.in-Ok.ensures.told) c.in_err-records.ensures.asks in
    rw (p.1, p.2)
    (λ told is. count_fails c.args.profile.now told c.args.demo c.args.index counted c.in_err-records.field-0.0 (still_empty told before counted c.args.index is (c.requires.other told is).1 asks)
    (c.in_err-records.ensures.counts told (size_is before sized c.args.demo c.in-Ok.length c.in-Ok.ensures.told told is).0))

pub returns-in_err-records-clause-cause : goal.returns-in_err-records-clause-cause
returns-in_err-records-clause-cause g c =
    let p = err_from_is_err_and c.from_residual.result c.from_residual.ensures.1 in
    rw (p.1, p.2)
    (cause_so ℕ Built (g.F.Files.faults c.args.files.now) (g.F.Files.faults c.size.new.self) (g.F.Files.faults c.count_records.new.files) c.in_err-records.field-0.0
    (c.in-Ok.ensures.cause.ok refl) c.in_err-records.ensures.cause)

pub returns-in_err-write_head-clause-builds : goal.returns-in_err-write_head-clause-builds
returns-in_err-write_head-clause-builds g c =
    let p = err_from_is_err_and c.from_residual-in_err-write_head.result c.from_residual-in_err-write_head.ensures.1 in
    let before : Option Told = g.F.Files.told c.args.files.now in
    let sized : Option Told = g.F.Files.told c.size.new.self in
    let counted : Option Told = g.F.Files.told c.count_records.new.files in
    let asks : OnlyAsks before counted = asks_then before sized counted (size_asks before sized c.args.demo (Ok c.in-Ok.length) c.in-Ok.ensures.told) c.in_ok-records.ensures.asks in
    rw (p.1, p.2)
    (λ told is.
    let size = size_is before sized c.args.demo c.in-Ok.length c.in-Ok.ensures.told told is in
    let counts = c.in_ok-records.ensures.counts told size.0 in
    head_fails c.args.profile.now told c.args.demo c.args.index counted (g.F.Files.told c.write_head.new.files) c.in-Ok.length c.bits-width.result c.in_ok-records.records c.in_err-write_head.field-0.0
    (c.requires.other told is).1 (still_empty told before counted c.args.index is (c.requires.other told is).1 asks) (size.1, c.bits-width.ensures.bits, counts.1) counts.0 c.in_err-write_head.ensures.writes)

pub write_checkpoints-requires-clause-few : goal.write_checkpoints-requires-clause-few
write_checkpoints-requires-clause-few g c = omega (arith, c.in_ok-records.ensures.few)

pub returns-in_err-write_checkpoints-clause-builds : goal.returns-in_err-write_checkpoints-clause-builds
returns-in_err-write_checkpoints-clause-builds g c =
    let p = err_from_is_err_and c.from_residual-in_err-write_checkpoints.result c.from_residual-in_err-write_checkpoints.ensures.1 in
    let before : Option Told = g.F.Files.told c.args.files.now in
    let sized : Option Told = g.F.Files.told c.size.new.self in
    let counted : Option Told = g.F.Files.told c.count_records.new.files in
    let asks : OnlyAsks before counted = asks_then before sized counted (size_asks before sized c.args.demo (Ok c.in-Ok.length) c.in-Ok.ensures.told) c.in_ok-records.ensures.asks in
    rw (p.1, p.2)
    (λ told is.
    let size = size_is before sized c.args.demo c.in-Ok.length c.in-Ok.ensures.told told is in
    let counts = c.in_ok-records.ensures.counts told size.0 in
    points_fail c.args.profile.now told c.args.demo c.args.index counted (g.F.Files.told c.write_head.new.files) (g.F.Files.told c.write_checkpoints.new.files) c.in-Ok.length c.bits-width.result c.in_ok-records.records
    c.in_err-write_checkpoints.field-0.0 (c.requires.other told is).1 (c.requires.other told is).0 (still_empty told before counted c.args.index is (c.requires.other told is).1 asks)
    (size.1, c.bits-width.ensures.bits, counts.1) counts.0 c.in_ok-write_head.ensures.writes c.in_err-write_checkpoints.ensures.writes)

pub returns-in_err-write_checkpoints-clause-cause : goal.returns-in_err-write_checkpoints-clause-cause
returns-in_err-write_checkpoints-clause-cause g c =
    let p = err_from_is_err_and c.from_residual-in_err-write_checkpoints.result c.from_residual-in_err-write_checkpoints.ensures.1 in
    rw (p.1, p.2)
    (cause_so (Unit {0}) Built (g.F.Files.faults c.args.files.now) (g.F.Files.faults c.write_head.new.files) (g.F.Files.faults c.write_checkpoints.new.files) c.in_err-write_checkpoints.field-0.0
    (c.in_ok-write_head.ensures.others ∙ c.in_ok-records.ensures.cause ∙ c.in-Ok.ensures.cause.ok refl) c.in_err-write_checkpoints.ensures.cause)

pub returns-in_err-write_checkpoints-clause-writes : goal.returns-in_err-write_checkpoints-clause-writes
returns-in_err-write_checkpoints-clause-writes g c =
    let p = err_from_is_err_and c.from_residual-in_err-write_checkpoints.result c.from_residual-in_err-write_checkpoints.ensures.1 in
    rw (p.1, p.2)
    (writes_so (Unit {0}) Built (g.F.Files.write_faults c.args.files.now) (g.F.Files.write_faults c.write_head.new.files) (g.F.Files.write_faults c.write_checkpoints.new.files)
    c.in_err-write_checkpoints.field-0.0 (c.in_ok-write_head.ensures.count ∙ c.in_ok-records.ensures.others ∙ c.in-Ok.ensures.others) c.in_err-write_checkpoints.ensures.count)

pub returns-clause-builds : goal.returns-clause-builds
returns-clause-builds g c =
    let before : Option Told = g.F.Files.told c.args.files.now in
    let sized : Option Told = g.F.Files.told c.size.new.self in
    let counted : Option Told = g.F.Files.told c.count_records.new.files in
    let built : Built = record { records = c.in_ok-records.records; checkpoints = c.in_ok-records.records / spacing } in
    let asks : OnlyAsks before counted = asks_then before sized counted (size_asks before sized c.args.demo (Ok c.in-Ok.length) c.in-Ok.ensures.told) c.in_ok-records.ensures.asks in
    λ told is.
    let size = size_is before sized c.args.demo c.in-Ok.length c.in-Ok.ensures.told told is in
    let counts = c.in_ok-records.ensures.counts told size.0 in
    it_is_made c.args.profile.now told c.args.demo c.args.index counted (g.F.Files.told c.write_head.new.files) (g.F.Files.told c.write_checkpoints.new.files) c.in-Ok.length c.bits-width.result built
    (c.requires.other told is).1 (c.requires.other told is).0 (still_empty told before counted c.args.index is (c.requires.other told is).1 asks) (size.1, c.bits-width.ensures.bits, counts.1) refl counts.0
    c.in_ok-write_head.ensures.writes c.in_ok-write_checkpoints.ensures.writes
