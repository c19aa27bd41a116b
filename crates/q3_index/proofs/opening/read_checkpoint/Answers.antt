use Rattle.std.proofs.Common.{List, ℕ, take, arith}
use Rattle.q3_io.specs.Told.{contents_at}
use Rattle.q3_index.specs.Steps.{least_of}
use Rattle.q3_index.proofs.Heads.{checkpoint_whole, checkpoint_cut, checkpoint_refused}
use Rattle.q3_index.proofs.opening.read_checkpoint.Goals as goal

pub returns-in-Err-clause-reads : goal.returns-in-Err-clause-reads
returns-in-Err-clause-reads g c =
    let part : List ℕ = take c.in_ok-count.count c.read_some.new.into in
    λ told is whole. checkpoint_refused (contents_at told c.args.index) part c.args.number (least_of c.args.least) c.args.most c.args.at c.in-Err.place (c.in_ok-count.ensures.reads told is whole) c.in-Err.ensures

pub returns-then-saturating_sub-from-clause-reads : goal.returns-then-saturating_sub-from-clause-reads
returns-then-saturating_sub-from-clause-reads g c =
    let part : List ℕ = take c.in_ok-count.count c.read_some.new.into in
    λ told is whole. checkpoint_cut (contents_at told c.args.index) part c.args.number (least_of c.args.least) c.args.most c.args.at c.in-Ok.found (c.in_ok-count.ensures.reads told is whole) c.in-Ok.ensures
    (omega arith)

pub returns-clause-reads : goal.returns-clause-reads
returns-clause-reads g c =
    let part : List ℕ = take c.in_ok-count.count c.read_some.new.into in
    λ told is whole. checkpoint_whole (contents_at told c.args.index) part c.args.number (least_of c.args.least) c.args.most c.args.at c.in-Ok.found (c.in_ok-count.ensures.reads told is whole) c.in-Ok.ensures
    (omega arith)
