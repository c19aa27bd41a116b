use Rattle.std.proofs.Common.{List, ℕ, take}
use Rattle.q3_io.specs.Told.{contents_at}
use Rattle.q3_index.specs.Steps.{from_place}
use Rattle.q3_index.proofs.Heads.{head_found, head_refused, counts_so}
use Rattle.q3_index.proofs.opening.read_head.Goals as goal

pub returns-in-Ok-clause-reads : goal.returns-in-Ok-clause-reads
returns-in-Ok-clause-reads g c =
    let part : List ℕ = take c.in_ok-count.count c.read_some.new.into in
    λ told is whole. head_found (contents_at told c.args.index) part c.in-Ok.head (c.in_ok-count.ensures.reads told is whole) c.in-Ok.ensures

pub returns-in-Ok-clause-count : goal.returns-in-Ok-clause-count
returns-in-Ok-clause-count g c = counts_so (from_place (take c.in_ok-count.count c.read_some.new.into) 0) c.in-Ok.head c.in-Ok.ensures

pub returns-in-Err-clause-reads : goal.returns-in-Err-clause-reads
returns-in-Err-clause-reads g c =
    let part : List ℕ = take c.in_ok-count.count c.read_some.new.into in
    λ told is whole. head_refused (contents_at told c.args.index) part c.in-Err.place (c.in_ok-count.ensures.reads told is whole) c.in-Err.ensures
