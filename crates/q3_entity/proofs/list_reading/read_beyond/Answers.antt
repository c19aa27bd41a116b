use Rattle.std.proofs.Common.{arith}
use Rattle.std.proofs.lemmas.List.{take_all}
use Rattle.std.proofs.lemmas.Result.{err_from_is_err_and}
use Rattle.q3_entity.proofs.Turns.{entry_counted, entry_refused}
use Rattle.q3_entity.proofs.list_reading.read_beyond.Goals as goal

pub returns-in_err-entry-clause-reads : goal.returns-in_err-entry-clause-reads
returns-in_err-entry-clause-reads c = λ entities long.
    let p = err_from_is_err_and c.from_residual.result c.from_residual.ensures.1 in
    let reads = c.in_err-entry.ensures.reads in
    rw (p.1, p.2) (record {
      value = entry_refused c.args.r.now.words c.args.table.now c.args.from.now.words c.args.in_base c.args.number entities c.args.r.now.left _ reads.value;
      words = reads.words;
      place = reads.place;
    })

pub returns-clause-reads : goal.returns-clause-reads
returns-clause-reads c = λ entities long.
    let read = c.in_ok-entry.ensures in
    record {
      value =
          rw c.count_after.ensures
          (entry_counted c.args.r.now.words c.args.table.now c.args.from.now.words c.args.in_base c.args.number 256 entities entities c.args.r.now.left c.read_entity.new.r.left c.in_ok-entry.entry
          c.read_entity.new.into read.number long (take_all 256 entities (omega (arith, long))) (λ room. absurd (omega (arith, room))) read.reads.value);
      words = read.reads.words;
      place = read.reads.place;
    }
