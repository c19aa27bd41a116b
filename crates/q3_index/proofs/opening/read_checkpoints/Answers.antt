use Rattle.std.proofs.Common.{◌+◌, ◌*◌, Vec, Global, refl, rules, arith}
use Rattle.std.proofs.lemmas.Grind.{common_steps}
use Rattle.std.proofs.lemmas.Result.{err_from_is_err_and}
use Rattle.q3_io.specs.Told.{contents_at}
use Rattle.q3_index.specs.declared.index.Checkpoint.{Checkpoint}
use Rattle.q3_index.specs.Steps.{least_of}
use Rattle.q3_index.proofs.Asking.{asks_same, asks_then, only_same, only_then}
use Rattle.q3_index.proofs.Listing.{reads_found, reads_wrong, found_none, found_all, found_beyond}
use Rattle.q3_index.proofs.opening.read_checkpoints.Goals as goal

pub loop-k-init : goal.loop-k-init
loop-k-init g c = record {
  reads = λ told is whole. rw (c.new-checkpoints.ensures.items, c.head_size-at.ensures) (found_none (contents_at told c.args.index) c.args.head);
  placed = grind (arith, common_steps);
  given = refl;
  asks = asks_same (g.F.Files.told c.args.files.now);
  only = only_same c.args.index (g.F.Files.told c.args.files.now);
  faults = refl;
  others = refl;
}

pub returns-in_err-found-clause-reads : goal.returns-in_err-found-clause-reads
returns-in_err-found-clause-reads g c =
    let p = err_from_is_err_and c.from_residual.result c.from_residual.ensures.1 in
    rw (p.1, p.2)
    (reads_wrong (λ (checkpoints : Vec Checkpoint Global). checkpoints.items) (g.F.Files.told c.args.files.now) (g.F.Files.told c.loop-k.files) c.args.index c.args.end c.args.head c.loop-k.k
    c.loop-k.checkpoints.items (least_of c.loop-k.least) c.loop-k.at ((c.loop-k.k + 1) * 256) c.in_err-found.field-0.0 c.loop-k.invariant.asks c.loop-k.invariant.reads c.loop-k-test.true refl
    c.in_err-found.ensures.reads)

pub returns-in_err-found-clause-only : goal.returns-in_err-found-clause-only
returns-in_err-found-clause-only g c =
    only_then c.args.index (g.F.Files.told c.args.files.now) (g.F.Files.told c.loop-k.files) (g.F.Files.told c.read_checkpoint.new.files) c.loop-k.invariant.only c.in_err-found.ensures.only

pub returns-in_err-push-clause-asks : goal.returns-in_err-push-clause-asks
returns-in_err-push-clause-asks g c =
    asks_then (g.F.Files.told c.args.files.now) (g.F.Files.told c.loop-k.files) (g.F.Files.told c.read_checkpoint.new.files) c.loop-k.invariant.asks c.in_ok-found.ensures.asks

pub returns-in_err-push-clause-only : goal.returns-in_err-push-clause-only
returns-in_err-push-clause-only g c =
    only_then c.args.index (g.F.Files.told c.args.files.now) (g.F.Files.told c.loop-k.files) (g.F.Files.told c.read_checkpoint.new.files) c.loop-k.invariant.only c.in_ok-found.ensures.only

pub loop-k-preserved : goal.loop-k-preserved
loop-k-preserved g c = record {
  reads = rw c.in_ok-push.ensures.items
      (reads_found (g.F.Files.told c.args.files.now) (g.F.Files.told c.loop-k.files) c.args.index c.args.end c.args.head c.loop-k.k c.loop-k.checkpoints.items (least_of c.loop-k.least) c.loop-k.at
      c.in_ok-found.found ((c.loop-k.k + 1) * 256) c.checked_add-least.result (c.in_ok-found.found.state + c.from.result) c.loop-k.invariant.asks c.loop-k.invariant.reads c.loop-k-test.true refl
      c.checked_add-least.ensures (search rules) (omega (arith, c.from.ensures))
      c.in_ok-found.ensures.reads);
  placed = grind (arith, common_steps);
  given = grind (arith, common_steps);
  asks = asks_then (g.F.Files.told c.args.files.now) (g.F.Files.told c.loop-k.files) (g.F.Files.told c.read_checkpoint.new.files) c.loop-k.invariant.asks c.in_ok-found.ensures.asks;
  only = only_then c.args.index (g.F.Files.told c.args.files.now) (g.F.Files.told c.loop-k.files) (g.F.Files.told c.read_checkpoint.new.files) c.loop-k.invariant.only c.in_ok-found.ensures.only;
  faults = grind (arith, common_steps);
  others = grind (arith, common_steps);
}

pub returns-then-at-end-clause-reads : goal.returns-then-at-end-clause-reads
returns-then-at-end-clause-reads g c =
    λ told is whole. found_beyond (contents_at told c.args.index) c.args.head c.loop-k.k c.loop-k.checkpoints.items (least_of c.loop-k.least) c.loop-k.at (c.loop-k.invariant.reads told is whole) (omega arith)
    (omega arith)

pub returns-clause-reads : goal.returns-clause-reads
returns-clause-reads g c =
    λ told is whole. found_all (contents_at told c.args.index) c.args.head c.loop-k.k c.loop-k.checkpoints.items (least_of c.loop-k.least) c.loop-k.at (c.loop-k.invariant.reads told is whole) (omega arith)
    (omega arith)
