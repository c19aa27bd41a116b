use Rattle.std.proofs.Common.{◌^◌, [], take, refl, sym, ◌∙◌, arith}
use Rattle.std.proofs.lemmas.Result.{err_from_is_err_and}
use Rattle.q3_entity.specs.Entities.{run_of}
use Rattle.q3_entity.proofs.Turns.{list_begun, list_refused, list_goes_on, list_stops, list_ends, next_rises, turn_rises}
use Rattle.q3_entity.proofs.Listed.{list_is_listed}
use Rattle.q3_entity.proofs.list_reading.read_list.Goals as goal

pub returns-in_err-cursor-clause-reads : goal.returns-in_err-cursor-clause-reads
returns-in_err-cursor-clause-reads c =
    let p = err_from_is_err_and c.from_residual.result c.from_residual.ensures.1 in
    let reads = c.in_err-cursor.ensures.reads in
    rw (p.1, p.2) (record {
      value = list_refused c.read_was_put.ensures c.args.r.now.words c.args.table.now c.args.baselines.now (run_of c.args.base) [] (2 ^ 16) c.args.r.now.left _
          c.in_err-cursor.ensures.code c.requires.rise refl reads.value;
      words = reads.words;
      place = reads.place;
    })

pub loop-cursor-init : goal.loop-cursor-init
loop-cursor-init c =
    let all = c.in_ok-cursor.ensures in
    record {
      words = all.reads.words;
      place = all.reads.place;
      code = all.code;
      most = all.most;
      within = all.within;
      rise = next_rises c.args.r.now.words c.args.table.now 0 (run_of c.args.base) [] c.args.r.now.left _ (2 ^ 16) 0 c.requires.rise (sym all.reads.value);
      reads = list_begun c.read_was_put.ensures c.args.r.now.words c.args.table.now c.args.baselines.now (run_of c.args.base) [] (2 ^ 16) c.args.r.now.left _ _ all.code c.requires.rise refl all.reads.value;
    }

pub returns-in_err-cursor-2-clause-reads : goal.returns-in_err-cursor-2-clause-reads
returns-in_err-cursor-2-clause-reads c =
    let p = err_from_is_err_and c.from_residual-in_err-cursor-2.result c.from_residual-in_err-cursor-2.ensures.1 in
    let reads = c.in_err-cursor-2.ensures.reads in
    let before = c.loop-cursor.invariant in
    rw (p.1, p.2) (record {
      value =
          list_stops c.read_was_put.ensures c.args.r.now.words c.loop-cursor.r.words c.args.table.now c.args.baselines.now _ (2 ^ 16) c.loop-cursor.r.left _ before.words before.code (omega arith) before.rise reads.value
          ∙ before.reads;
      words = reads.words ∙ before.words;
      place = reads.place ∙ before.place;
    })

pub loop-cursor-preserved : goal.loop-cursor-preserved
loop-cursor-preserved c =
    let all = c.in_ok-cursor-2.ensures in
    let before = c.loop-cursor.invariant in
    record {
      words = all.reads.words ∙ before.words;
      place = all.reads.place ∙ before.place;
      code = before.code;
      most = all.most;
      within = all.within;
      rise = turn_rises c.loop-cursor.r.words c.args.table.now c.args.baselines.now _ c.loop-cursor.r.left _ (2 ^ 16) before.rise (sym all.reads.value);
      reads =
          list_goes_on c.read_was_put.ensures c.args.r.now.words c.loop-cursor.r.words c.args.table.now c.args.baselines.now _ (2 ^ 16) c.loop-cursor.r.left _ _ before.words before.code (omega arith) before.rise all.reads.value
          ∙ before.reads;
    }

pub returns-clause-reads : goal.returns-clause-reads
returns-clause-reads c =
    let before = c.loop-cursor.invariant in
    rw c.truncate.ensures.items (record {
      value = sym (list_ends c.args.r.now.words c.args.table.now c.args.baselines.now _ c.loop-cursor.r.left (omega arith)) ∙ before.reads;
      words = before.words;
      place = before.place;
    })

pub returns-clause-list : goal.returns-clause-list
returns-clause-list c =
    let before = c.loop-cursor.invariant in
    rw c.truncate.ensures.items
    (list_is_listed c.args.r.now.words c.args.table.now c.args.baselines.now (run_of c.args.base) c.args.r.now.left (take c.loop-cursor.cursor.count c.loop-cursor.into.items) c.loop-cursor.r.left
    (sym before.reads ∙ list_ends c.args.r.now.words c.args.table.now c.args.baselines.now _ c.loop-cursor.r.left (omega arith)))
