use Rattle.std.proofs.Common.{◌≢◌, Vec, Global, Ok, Err, refl, sym, ◌∙◌, inl, inr, arith}
use Rattle.std.specs.Prelude.{◌⊎◌}
use Rattle.std.proofs.lemmas.Result.{err_from_is_err_and}
use Rattle.q3_index.specs.declared.index.Checkpoint.{Checkpoint}
use Rattle.q3_index.proofs.Asking.{asks_then, size_asks, size_only, sizes_only, only_then}
use Rattle.q3_index.proofs.Opened.{no_head, no_list, other_demo, other_width, it_opens}
use Rattle.q3_index.proofs.opening.open_index.Goals as goal
use Rattle.q3_index.proofs.opening.open_index.Goals.{then-head-length-via-then-head-length, then-head-length-via-else-head-length+then-head-profile}

pub returns-in_default-clause-asks : goal.returns-in_default-clause-asks
returns-in_default-clause-asks g c = size_asks (g.F.Files.told c.args.files.now) (g.F.Files.told c.size.new.self) c.args.demo (Err c.in_default.field-0) c.in_default.ensures.told

pub returns-in_default-size-clause-asks : goal.returns-in_default-size-clause-asks
returns-in_default-size-clause-asks g c =
    asks_then (g.F.Files.told c.args.files.now) (g.F.Files.told c.size.new.self) (g.F.Files.told c.size-2.new.self)
    (size_asks (g.F.Files.told c.args.files.now) (g.F.Files.told c.size.new.self) c.args.demo (Ok c.in-Ok.length) c.in-Ok.ensures.told)
    (size_asks (g.F.Files.told c.size.new.self) (g.F.Files.told c.size-2.new.self) c.args.index (Err c.in_default-size.field-0) c.in_default-size.ensures.told)

pub returns-in_err-head-clause-opens : goal.returns-in_err-head-clause-opens
returns-in_err-head-clause-opens g c =
    let p = err_from_is_err_and c.from_residual.result c.from_residual.ensures.1 in
    rw (p.1, p.2)
    (no_head (g.F.Files.told c.args.files.now) (g.F.Files.told c.size.new.self) (g.F.Files.told c.size-2.new.self) c.args.profile.now.mark c.args.profile.now.entity.number_bits c.args.demo c.args.index c.in-Ok.length c.in-Ok-size.end
    c.in_err-head.field-0.0 c.in-Ok.ensures.told c.in-Ok-size.ensures.told c.in_err-head.ensures.reads)

pub returns-in_err-checkpoints-clause-opens : goal.returns-in_err-checkpoints-clause-opens
returns-in_err-checkpoints-clause-opens g c =
    let p = err_from_is_err_and c.from_residual-in_err-checkpoints.result c.from_residual-in_err-checkpoints.ensures.1 in
    rw (p.1, p.2)
    (no_list (λ (checkpoints : Vec Checkpoint Global). checkpoints.items) (g.F.Files.told c.args.files.now) (g.F.Files.told c.size.new.self) (g.F.Files.told c.size-2.new.self) (g.F.Files.told c.read_head.new.files)
    c.args.profile.now.mark c.args.profile.now.entity.number_bits c.args.demo c.args.index c.in-Ok.length c.in-Ok-size.end c.in_ok-head.head c.in_err-checkpoints.field-0.0 c.in-Ok.ensures.told c.in-Ok-size.ensures.told c.in_ok-head.ensures.reads
    c.in_ok-head.ensures.asks c.in_err-checkpoints.ensures.reads)

pub returns-then-head-length-clause-opens : goal.returns-then-head-length-clause-opens
returns-then-head-length-clause-opens g c =
    let apart : (c.in_ok-head.head.length ≢ c.in-Ok.length) ⊎ (c.in_ok-head.head.mark ≢ c.args.profile.now.mark) = elim c.then-head-length.branch [
      | then-head-length-via-then-head-length w ↦ inl w.if-head-length.true
      | then-head-length-via-else-head-length+then-head-profile w ↦ inr w.if-head-profile.true
    ] in
    other_demo (λ (checkpoints : Vec Checkpoint Global). checkpoints.items) (g.F.Files.told c.args.files.now) (g.F.Files.told c.size.new.self) (g.F.Files.told c.size-2.new.self)
    (g.F.Files.told c.read_head.new.files) c.args.profile.now.mark c.args.profile.now.entity.number_bits c.args.demo c.args.index c.in-Ok.length c.in-Ok-size.end c.in_ok-head.head c.in_ok-checkpoints.checkpoints c.in-Ok.ensures.told
    c.in-Ok-size.ensures.told c.in_ok-head.ensures.reads c.in_ok-head.ensures.asks c.in_ok-checkpoints.ensures.reads apart

pub returns-then-head-width-clause-opens : goal.returns-then-head-width-clause-opens
returns-then-head-width-clause-opens g c =
    let other : c.in_ok-head.head.width ≢ c.args.profile.now.entity.number_bits = λ same. c.if-head-width.true (same ∙ sym c.bits-width.ensures.bits) in
    rw c.bits-width.ensures.bits
    (other_width (λ (checkpoints : Vec Checkpoint Global). checkpoints.items) (g.F.Files.told c.args.files.now) (g.F.Files.told c.size.new.self) (g.F.Files.told c.size-2.new.self)
    (g.F.Files.told c.read_head.new.files) c.args.profile.now.mark c.args.profile.now.entity.number_bits c.args.demo c.args.index c.in-Ok.length c.in-Ok-size.end c.in_ok-head.head c.in_ok-checkpoints.checkpoints c.in-Ok.ensures.told
    c.in-Ok-size.ensures.told c.in_ok-head.ensures.reads c.in_ok-head.ensures.asks c.in_ok-checkpoints.ensures.reads (omega arith) (omega arith) other)

pub returns-clause-opens : goal.returns-clause-opens
returns-clause-opens g c =
    it_opens (λ (checkpoints : Vec Checkpoint Global). checkpoints.items) (g.F.Files.told c.args.files.now) (g.F.Files.told c.size.new.self) (g.F.Files.told c.size-2.new.self)
    (g.F.Files.told c.read_head.new.files) c.args.profile.now.mark c.args.profile.now.entity.number_bits c.args.demo c.args.index c.in-Ok.length c.in-Ok-size.end c.in_ok-head.head c.in_ok-checkpoints.checkpoints
    (record { demo = c.args.demo; index = c.args.index; records = c.in_ok-head.head.records; checkpoints = c.in_ok-checkpoints.checkpoints.items }) c.in-Ok.ensures.told c.in-Ok-size.ensures.told
    c.in_ok-head.ensures.reads c.in_ok-head.ensures.asks c.in_ok-checkpoints.ensures.reads (omega arith) (omega arith) (omega (arith, c.bits-width.ensures.bits)) refl

pub returns-in_default-clause-only : goal.returns-in_default-clause-only
returns-in_default-clause-only g c = size_only c.args.index (g.F.Files.told c.args.files.now) (g.F.Files.told c.size.new.self) c.args.demo (Err c.in_default.field-0) c.in_default.ensures.told

pub returns-in_default-size-clause-only : goal.returns-in_default-size-clause-only
returns-in_default-size-clause-only g c =
    sizes_only c.args.demo c.args.index (g.F.Files.told c.args.files.now) (g.F.Files.told c.size.new.self) (g.F.Files.told c.size-2.new.self) (Ok c.in-Ok.length) (Err c.in_default-size.field-0) c.in-Ok.ensures.told c.in_default-size.ensures.told

pub returns-in_err-head-clause-only : goal.returns-in_err-head-clause-only
returns-in_err-head-clause-only g c =
    only_then c.args.index (g.F.Files.told c.args.files.now) (g.F.Files.told c.size-2.new.self) (g.F.Files.told c.read_head.new.files)
    (sizes_only c.args.demo c.args.index (g.F.Files.told c.args.files.now) (g.F.Files.told c.size.new.self) (g.F.Files.told c.size-2.new.self) (Ok c.in-Ok.length) (Ok c.in-Ok-size.end) c.in-Ok.ensures.told c.in-Ok-size.ensures.told)
    c.in_err-head.ensures.only

pub returns-in_err-checkpoints-clause-only : goal.returns-in_err-checkpoints-clause-only
returns-in_err-checkpoints-clause-only g c =
    only_then c.args.index (g.F.Files.told c.args.files.now) (g.F.Files.told c.read_head.new.files) (g.F.Files.told c.read_checkpoints.new.files)
    (only_then c.args.index (g.F.Files.told c.args.files.now) (g.F.Files.told c.size-2.new.self) (g.F.Files.told c.read_head.new.files) (sizes_only c.args.demo c.args.index (g.F.Files.told c.args.files.now) (g.F.Files.told c.size.new.self) (g.F.Files.told c.size-2.new.self) (Ok c.in-Ok.length) (Ok c.in-Ok-size.end) c.in-Ok.ensures.told c.in-Ok-size.ensures.told) c.in_ok-head.ensures.only)
    c.in_err-checkpoints.ensures.only

pub returns-then-head-length-clause-only : goal.returns-then-head-length-clause-only
returns-then-head-length-clause-only g c =
    only_then c.args.index (g.F.Files.told c.args.files.now) (g.F.Files.told c.read_head.new.files) (g.F.Files.told c.read_checkpoints.new.files)
    (only_then c.args.index (g.F.Files.told c.args.files.now) (g.F.Files.told c.size-2.new.self) (g.F.Files.told c.read_head.new.files) (sizes_only c.args.demo c.args.index (g.F.Files.told c.args.files.now) (g.F.Files.told c.size.new.self) (g.F.Files.told c.size-2.new.self) (Ok c.in-Ok.length) (Ok c.in-Ok-size.end) c.in-Ok.ensures.told c.in-Ok-size.ensures.told) c.in_ok-head.ensures.only)
    c.in_ok-checkpoints.ensures.only

pub returns-then-head-width-clause-only : goal.returns-then-head-width-clause-only
returns-then-head-width-clause-only g c =
    only_then c.args.index (g.F.Files.told c.args.files.now) (g.F.Files.told c.read_head.new.files) (g.F.Files.told c.read_checkpoints.new.files)
    (only_then c.args.index (g.F.Files.told c.args.files.now) (g.F.Files.told c.size-2.new.self) (g.F.Files.told c.read_head.new.files) (sizes_only c.args.demo c.args.index (g.F.Files.told c.args.files.now) (g.F.Files.told c.size.new.self) (g.F.Files.told c.size-2.new.self) (Ok c.in-Ok.length) (Ok c.in-Ok-size.end) c.in-Ok.ensures.told c.in-Ok-size.ensures.told) c.in_ok-head.ensures.only)
    c.in_ok-checkpoints.ensures.only

pub returns-clause-only : goal.returns-clause-only
returns-clause-only g c =
    only_then c.args.index (g.F.Files.told c.args.files.now) (g.F.Files.told c.read_head.new.files) (g.F.Files.told c.read_checkpoints.new.files)
    (only_then c.args.index (g.F.Files.told c.args.files.now) (g.F.Files.told c.size-2.new.self) (g.F.Files.told c.read_head.new.files) (sizes_only c.args.demo c.args.index (g.F.Files.told c.args.files.now) (g.F.Files.told c.size.new.self) (g.F.Files.told c.size-2.new.self) (Ok c.in-Ok.length) (Ok c.in-Ok-size.end) c.in-Ok.ensures.told c.in-Ok-size.ensures.told) c.in_ok-head.ensures.only)
    c.in_ok-checkpoints.ensures.only
