use Rattle.std.proofs.Common.{◌≡◌, ◌/◌, ◌^◌, ℕ, ap, sym, ◌∙◌, arith}
use Rattle.std.proofs.lemmas.Result.{err_from_is_err_and}
use Rattle.q3_player.specs.Delta.{values_at}
use Rattle.q3_player.proofs.PlacesRead.{values_at-next, values_at-fault, values_at-end}
use Rattle.q3_player.proofs.reading.read_values.Goals as goal

pub loop-k-init : goal.loop-k-init
loop-k-init c = c.lists_are_read.ensures.begin _ _ _

pub loop-k-preserved : goal.loop-k-preserved
loop-k-preserved c =
    c.lists_are_read.ensures.more _ _ _ _ _ _ _ _ _ _ c.loop-k.invariant (omega arith) c.in_ok-values.ensures.words c.in_ok-values.ensures.place
    (values_at-next c.args.r.now.words c.loop-k.r.words c.args.kind c.args.mask c.loop-k.k c.args.values.now _ _ _ _
    c.loop-k.invariant.words (omega arith) (c.lists_are_read.ensures.here _ _ _ _ _ _ _ c.loop-k.invariant) c.in_ok-values.ensures.value)

pub returns-in_err-values : goal.returns-in_err-values
returns-in_err-values c =
    let p = err_from_is_err_and c.from_residual.result c.from_residual.ensures.1 in
    let all : c.args.mask / 2 ^ 0 ≡ c.args.mask = omega arith in
    let same = ap (λ (mask : ℕ). values_at c.args.r.now.words c.args.kind mask c.args.values.now c.args.r.now.left) all in
    rw (p.1, p.2) (record {
      value = sym (c.lists_are_read.ensures.stops _ _ _ _ _ _ _ c.in_err-values.field-0.0 c.loop-k.invariant
          (values_at-fault c.args.r.now.words c.loop-k.r.words c.args.kind c.args.mask c.loop-k.k c.args.values.now _ _ c.in_err-values.field-0.0
          c.loop-k.invariant.words (omega arith) (c.lists_are_read.ensures.here _ _ _ _ _ _ _ c.loop-k.invariant) c.in_err-values.ensures.value)) ∙ same;
      words = c.in_err-values.ensures.words ∙ c.loop-k.invariant.words;
      place = c.in_err-values.ensures.place ∙ c.loop-k.invariant.place;
    })

pub returns : goal.returns
returns c =
    let all : c.args.mask / 2 ^ 0 ≡ c.args.mask = omega arith in
    let same = ap (λ (mask : ℕ). values_at c.args.r.now.words c.args.kind mask c.args.values.now c.args.r.now.left) all in
    record {
      value = sym (c.lists_are_read.ensures.all _ _ _ _ _ _ _ c.loop-k.invariant (values_at-end c.args.r.now.words c.args.kind c.args.mask c.loop-k.k c.args.values.now _ (omega arith))) ∙ same;
      words = c.loop-k.invariant.words;
      place = c.loop-k.invariant.place;
    }
