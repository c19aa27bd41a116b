use Rattle.std.proofs.Common.{◌++◌, sym, ap, subst, ◌∙◌, arith}
use Rattle.std.proofs.lemmas.Result.{err_from_is_err_and}
use Rattle.q3_fields.specs.Kinds.{end_mark}
use Rattle.q3_entity.specs.Entities.{RiseFrom, run_of}
use Rattle.q3_entity.specs.Lists.{entity_list_bits}
use Rattle.q3_entity.specs.Merging.{end_bits, left_after}
use Rattle.q3_entity.proofs.ListTexts.{is_turn, is_skipped, entity_list_bits-ends}
use Rattle.q3_entity.proofs.list_writing.write_run.Goals as goal

pub loop-entity-init : goal.loop-entity-init
loop-entity-init c =
    let words = c.args.w.now.words in
    let s = is_skipped words c.args.table.now c.args.baselines.now c.last_changed_is_least.ensures _ _ _ _ c.skip_same.ensures c.requires.base.rise c.requires.now.rise in
    record {
      written = rw s.text (c.texts_are_written.ensures.begin _ _ (λ over. omega (arith, c.length.ensures.length, c.length.ensures.within, over)));
      base = s.rise;
      now = s.rise-now;
    }

pub loop-entity-preserved : goal.loop-entity-preserved
loop-entity-preserved c =
    let law = c.texts_are_written.ensures in
    let h = c.loop-entity.invariant in
    let table = c.args.table.now in
    let baselines = c.args.baselines.now in
    let words = c.args.w.now.words in
    let left = run_of c.loop-entity.left in
    let to = c.in-Some.entity.now in
    let others = run_of c.in-Some.others in
    let next = c.in-Some.ensures in
    let t = is_turn words table baselines c.loop-entity.w.words left to others (law.words _ _ _ _ h.written) h.base (subst (RiseFrom (end_mark table) 0) next h.now) in
    let written = law.more _ _ _ _ _ _ _ h.written (ap (entity_list_bits words table baselines left) next ∙ t.text) c.in_ok-after.ensures.writes in
    let after = c.in_ok-after.ensures.left in
    let s = is_skipped words table baselines c.last_changed_is_least.ensures (left_after to left) others _ _ (rw after at c.skip_same-in-Some.ensures) t.rise t.rise-now in
    record {
      written = rw s.text at written;
      base = s.rise;
      now = s.rise-now;
    }

pub returns-in_err-after : goal.returns-in_err-after
returns-in_err-after c =
    let law = c.texts_are_written.ensures in
    let h = c.loop-entity.invariant in
    let table = c.args.table.now in
    let words = c.args.w.now.words in
    let left = run_of c.loop-entity.left in
    let next = c.in-Some.ensures in
    let p = err_from_is_err_and c.from_residual.result c.from_residual.ensures.1 in
    let t = is_turn words table c.args.baselines.now c.loop-entity.w.words left c.in-Some.entity.now (run_of c.in-Some.others) (law.words _ _ _ _ h.written) h.base
    (subst (RiseFrom (end_mark table) 0) next h.now) in
    rw (p.1, p.2) (law.stops _ _ _ _ _ _ _ _ h.written (ap (entity_list_bits words table c.args.baselines.now left) next ∙ t.text) c.in_err-after.ensures.writes)

pub returns : goal.returns
returns c =
    let h = c.loop-entity.invariant in
    let table = c.args.table.now in
    let words = c.args.w.now.words in
    let baselines = c.args.baselines.now in
    let left = run_of c.loop-entity.left in
    let ends = ap (entity_list_bits words table baselines left) c.in_default.ensures ∙ entity_list_bits-ends words table baselines left h.base in
    c.texts_are_written.ensures.then _ _ _ h.written.written (entity_list_bits words table baselines (run_of c.args.base) (run_of c.args.now))
    (λ ws. end_bits ws table left) _ (sym h.written.parts ∙ ap (λ t. h.written.written ++ t) ends) h.written.writes c.write_end.ensures
