use Rattle.std.proofs.Common.{set, take, arith}
use Rattle.std.proofs.lemmas.List.{length-take-le, take-set, take_more_set}
use Rattle.std.proofs.lemmas.Result.{err_from_is_err_and}
use Rattle.q3_entity.proofs.Turns.{entry_counted, entry_refused}
use Rattle.q3_entity.proofs.list_reading.read_place.Goals as goal

pub returns-in_err-entry-clause-reads : goal.returns-in_err-entry-clause-reads
returns-in_err-entry-clause-reads c =
    let p = err_from_is_err_and c.from_residual.result c.from_residual.ensures.1 in
    let reads = c.in_err-entry.ensures.reads in
    let first = take c.args.count c.args.entities.now in
    rw (p.1, p.2) (record {
      value = entry_refused c.args.r.now.words c.args.table.now c.args.from.now.words c.args.in_base c.args.number first c.args.r.now.left _ reads.value;
      words = reads.words;
      place = reads.place;
    })

pub returns-clause-reads : goal.returns-clause-reads
returns-clause-reads c =
    let read = c.in_ok-entry.ensures in
    let entities = c.args.entities.now in
    let count = c.args.count in
    let state = c.read_entity.new.into in
    record {
      value =
          rw c.count_after.ensures
          (entry_counted c.args.r.now.words c.args.table.now c.args.from.now.words c.args.in_base c.args.number count (take count entities) (set entities count state) c.args.r.now.left c.read_entity.new.r.left
          c.in_ok-entry.entry state read.number (length-take-le count entities (omega (arith, c.requires.place))) (take-set entities count state) (λ room. take_more_set entities count state c.requires.place)
          read.reads.value);
      words = read.reads.words;
      place = read.reads.place;
    }
