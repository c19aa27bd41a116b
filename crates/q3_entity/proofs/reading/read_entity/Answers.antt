use Rattle.std.proofs.Common.{◌≡◌, ap, sym, ◌∙◌, arith}
use Rattle.std.proofs.lemmas.Result.{err_from_is_err_and}
use Rattle.q3_entity.proofs.Marks.{after_marks, entry_marked, entry_unmarked, delta_read, delta_fault}
use Rattle.q3_entity.proofs.reading.read_entity.Goals as goal

pub returns-in_err-get_run-clause-reads : goal.returns-in_err-get_run-clause-reads
returns-in_err-get_run-clause-reads c =
    let p = err_from_is_err_and c.from_residual.result c.from_residual.ensures.1 in
    let reads = c.in_err-get_run.ensures.reads in
    rw (p.1, p.2) (record {
      value = entry_unmarked c.marks_are_bits.ensures c.args.r.now.words c.args.table.now c.args.from.now.words c.args.r.now.left _ reads.value;
      words = reads.words;
      place = reads.place;
    })

pub returns-in-0-clause-reads : goal.returns-in-0-clause-reads
unfolding after_marks
returns-in-0-clause-reads c =
    let reads = c.in_ok-get_run.ensures.reads in
    let marked = entry_marked c.marks_are_bits.ensures c.args.r.now.words c.args.table.now c.args.from.now.words c.args.r.now.left c.get_run.new.self.left _ reads.value in
    record {
      value = ap (λ (n : _). after_marks c.args.r.now.words c.args.table.now c.args.from.now.words n c.get_run.new.self.left) (sym c.in-0.is) ∙ marked;
      words = reads.words;
      place = reads.place;
    }

pub returns-in_default-clause-reads : goal.returns-in_default-clause-reads
unfolding after_marks
returns-in_default-clause-reads c =
    let reads = c.in_ok-get_run.ensures.reads in
    let marked = entry_marked c.marks_are_bits.ensures c.args.r.now.words c.args.table.now c.args.from.now.words c.args.r.now.left c.get_run.new.self.left _ reads.value in
    let two : 2 ≡ c.in_ok-get_run.field-0 = omega (arith, c.in_ok-get_run.ensures.most, c.in_default) in
    record {
      value = ap (λ (n : _). after_marks c.args.r.now.words c.args.table.now c.args.from.now.words n c.get_run.new.self.left) two ∙ marked;
      words = reads.words;
      place = reads.place;
    }

pub returns-in_err-read_counted-clause-reads : goal.returns-in_err-read_counted-clause-reads
unfolding after_marks
returns-in_err-read_counted-clause-reads c =
    let p = err_from_is_err_and c.from_residual-in_err-read_counted.result c.from_residual-in_err-read_counted.ensures.1 in
    let run = c.in_ok-get_run.ensures.reads in
    let read = c.in_err-read_counted.ensures in
    let marked = entry_marked c.marks_are_bits.ensures c.args.r.now.words c.args.table.now c.args.from.now.words c.args.r.now.left c.get_run.new.self.left _ run.value in
    rw (p.1, p.2) (record {
      value = delta_fault c.args.r.now.words _ c.args.table.now c.args.from.now.words c.get_run.new.self.left _ run.words read.value ∙ (ap (λ (n : _). after_marks c.args.r.now.words c.args.table.now c.args.from.now.words n c.get_run.new.self.left) (sym c.in-1.is) ∙ marked);
      words = read.words ∙ run.words;
      place = read.place ∙ run.place;
    })

pub returns-clause-reads : goal.returns-clause-reads
unfolding after_marks
returns-clause-reads c =
    let run = c.in_ok-get_run.ensures.reads in
    let read = c.in_ok-read_counted.ensures in
    let marked = entry_marked c.marks_are_bits.ensures c.args.r.now.words c.args.table.now c.args.from.now.words c.args.r.now.left c.get_run.new.self.left _ run.value in
    record {
      value = delta_read c.args.r.now.words _ c.args.table.now c.args.from.now.words c.read_counted.new.words c.get_run.new.self.left _ run.words read.value ∙ (ap (λ (n : _). after_marks c.args.r.now.words c.args.table.now c.args.from.now.words n c.get_run.new.self.left) (sym c.in-1.is) ∙ marked);
      words = read.words ∙ run.words;
      place = read.place ∙ run.place;
    }
