use Rattle.std.proofs.Common.{◌≡◌, ◌≤◌, ◌<◌, ◌+◌, ◌++◌, length, take, drop, sym, ap, ◌∙◌, append_assoc, arith}
use Rattle.std.proofs.lemmas.List.{take-append-drop, take_rest, length-take-le}
use Rattle.std.proofs.lemmas.Result.{err_from_is_err_and}
use Rattle.q3_entity.specs.Entities.{most_entities}
use Rattle.q3_entity.specs.Walking.{kept_below}
use Rattle.q3_entity.proofs.Numbers.{kept_below-fits, kept_below-many, refused}
use Rattle.q3_entity.proofs.list_reading.keep_front.Goals as goal

pub returns-in_err-end-clause-many : goal.returns-in_err-end-clause-many
returns-in_err-end-clause-many c =
    let p = err_from_is_err_and c.from_residual.result c.from_residual.ensures.1 in
    let part = c.args.part.now in
    let number = c.args.number in
    let first = take c.args.count c.args.into.now.items in
    let below = c.count_below-below.result in
    let long : length first ≡ c.args.count = length-take-le c.args.count c.args.into.now.items c.requires.within in
    let many = c.in_err-end.ensures.many in
    let few : length first ≤ most_entities = omega (arith, long, c.requires.within, c.in_err-end.ensures.fits) in
    let more : most_entities < length first + length (take below part) = omega (arith, long, many.1) in
    rw (p.1, p.2) (λ after.
    let parts = ap (λ xs. xs ++ after) (sym (take-append-drop below part)) ∙ append_assoc (take below part) (drop below part) after in
    ap (kept_below number first) parts ∙ kept_below-many number first (take below part) (drop below part ++ after) c.count_below-below.ensures.below few more
    ∙ refused many.0)

pub returns-clause-kept : goal.returns-clause-kept
returns-clause-kept c =
    let part = c.args.part.now in
    let number = c.args.number in
    let first = take c.args.count c.args.into.now.items in
    let below = c.count_below-below.result in
    let long : length first ≡ c.args.count = length-take-le c.args.count c.args.into.now.items c.requires.within in
    let fit : length first + length (take below part) ≤ most_entities = omega (arith, long, c.in_ok-end.ensures.few) in
    let items = c.in_ok-end.ensures.put in
    rw (take_rest part below) (record {
      goes_on = λ after.
          ap (kept_below number first) (ap (λ xs. xs ++ after) (sym (take-append-drop below part)) ∙ append_assoc (take below part) (drop below part) after)
          ∙ kept_below-fits number first (take below part) (drop below part ++ after) c.count_below-below.ensures.below fit
          ∙ ap (λ xs. kept_below number xs (drop below part ++ after)) (sym items);
      from = c.count_below-below.ensures.after;
    })
