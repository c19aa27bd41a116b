use Rattle.std.proofs.Common.{◌+◌, ◌<◌, ◌++◌, length, drop, false, arith, refl, ap, ◌∙◌, rules}
use Rattle.std.specs.List.{flat_map}
use Rattle.std.proofs.lemmas.Result.{err_from_is_err_and}
use Rattle.byteorder.specs.Endian.{little_bytes}
use Rattle.q3_entity.specs.Baselines.{set_baselines}
use Rattle.q3_savestate.specs.Entities.{entity_bytes}
use Rattle.q3_savestate.proofs.SetBaselines.{texts_more, texts_split}
use Rattle.q3_savestate.proofs.entities.write_baselines.Goals as goal

pub returns-in_err-write_short-clause-adds : goal.returns-in_err-write_short-clause-adds
returns-in_err-write_short-clause-adds g c =
    let p = err_from_is_err_and c.from_residual.result c.from_residual.ensures.1 in
    let texts = flat_map (entity_bytes c.args.table.now) (set_baselines c.args.baselines.now) in
    rw p.1 (c.texts_follow.ensures.early texts (rw c.count.ensures at c.in_err-write_short.ensures.adds) refl)

pub returns-in_err-write_baseline-clause-adds : goal.returns-in_err-write_baseline-clause-adds
returns-in_err-write_baseline-clause-adds g c =
    let p = err_from_is_err_and c.from_residual-in_err-write_baseline.result c.from_residual-in_err-write_baseline.ensures.1 in
    let baselines = c.args.baselines.now in
    let k = c.loop-number.number in
    let text = entity_bytes c.args.table.now in
    let count = little_bytes 2 (length (set_baselines baselines)) in
    let lt : k < length baselines = omega arith in
    rw p.1 (c.texts_follow.ensures.early (flat_map text (set_baselines (drop (k + 1) baselines)))
    (c.texts_follow.ensures.more {all = false} c.loop-number.invariant.adds c.in_err-write_baseline.ensures.adds refl)
    (ap (λ texts. count ++ texts) (texts_split text baselines (k + 1) ∙ ap (λ front. front ++ flat_map text (set_baselines (drop (k + 1) baselines))) (texts_more text baselines k lt))))

pub loop-number-preserved : goal.loop-number-preserved
loop-number-preserved g c =
    let baselines = c.args.baselines.now in
    let k = c.loop-number.number in
    let text = entity_bytes c.args.table.now in
    let count = little_bytes 2 (length (set_baselines baselines)) in
    let lt : k < length baselines = omega arith in
    record {
      adds = c.texts_follow.ensures.more c.loop-number.invariant.adds c.in_ok-write_baseline.ensures.adds (ap (λ texts. count ++ texts) (texts_more text baselines k lt));
      cause = search rules;
      places = λ h. c.in_ok-write_baseline.ensures.places;
    }
