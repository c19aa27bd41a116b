use Rattle.std.proofs.Common.{ap, sym, ◌∙◌, ◌≡◌, arith, replicate}
use Rattle.std.proofs.lemmas.Result.{err_from_is_err_and}
use Rattle.q3_entity.specs.declared.state.EntityState.{EntityState}
use Rattle.q3_entity.specs.Entities.{zero_entity}
use Rattle.q3_entity.proofs.Skipping.{skip_begun, skip_refused, skip_goes_on, skip_stops, skip_ends}
use Rattle.q3_entity.proofs.list_reading.skip_list.Goals as goal

pub returns-in_err-next : goal.returns-in_err-next
returns-in_err-next c =
    let p = err_from_is_err_and c.from_residual.result c.from_residual.ensures.1 in
    rw (p.1, p.2) (record {
      value = skip_refused c.args.r.now.words c.args.table.now c.args.r.now.left _ c.in_err-next.ensures.reads.value;
      words = c.in_err-next.ensures.reads.words;
      place = c.in_err-next.ensures.reads.place;
    })

pub loop-next-init : goal.loop-next-init
loop-next-init c = record {
  words = c.in_ok-next.ensures.reads.words;
  place = c.in_ok-next.ensures.reads.place;
  most = c.in_ok-next.ensures.most;
  skips = skip_begun c.args.r.now.words c.args.table.now c.args.r.now.left _ _ c.in_ok-next.ensures.reads.value;
}

pub returns-in_err-next-2 : goal.returns-in_err-next-2
unfolding zero_entity
returns-in_err-next-2 c =
    let p = err_from_is_err_and c.from_residual-in_err-next-2.result c.from_residual-in_err-next-2.ensures.1 in
    let zero : c.zero-zero.result.words ≡ replicate 64 0 = ap (λ (x : EntityState). x.words) c.zero-zero.ensures in
    let reads = c.in_err-next-2.ensures.reads in
    rw (p.1, p.2) (record {
      value =
          skip_stops c.args.r.now.words c.loop-next.r.words c.args.table.now c.zero-zero.result.words c.loop-next.next c.loop-next.r.left _ c.loop-next.invariant.words zero
          (omega arith) reads.value ∙ c.loop-next.invariant.skips;
      words = reads.words ∙ c.loop-next.invariant.words;
      place = reads.place ∙ c.loop-next.invariant.place;
    })

pub loop-next-preserved : goal.loop-next-preserved
unfolding zero_entity
loop-next-preserved c =
    let zero : c.zero-zero.result.words ≡ replicate 64 0 = ap (λ (x : EntityState). x.words) c.zero-zero.ensures in
    let all = c.in_ok-next-2.ensures in
    record {
      words = all.reads.words ∙ c.loop-next.invariant.words;
      place = all.reads.place ∙ c.loop-next.invariant.place;
      most = all.most;
      skips =
          skip_goes_on c.args.r.now.words c.loop-next.r.words c.args.table.now c.zero-zero.result.words c.loop-next.next c.loop-next.r.left _ _ c.loop-next.invariant.words zero
          (omega arith) all.reads.value ∙ c.loop-next.invariant.skips;
    }

pub returns : goal.returns
returns c = record {
  value = sym (skip_ends c.args.r.now.words c.args.table.now c.loop-next.next c.loop-next.r.left (omega arith)) ∙ c.loop-next.invariant.skips;
  words = c.loop-next.invariant.words;
  place = c.loop-next.invariant.place;
}
