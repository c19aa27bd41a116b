use Rattle.std.proofs.Common.{◌≡◌, ◌^◌, [], ◌++◌, length, take, sym, ap, ◌∙◌, arith}
use Rattle.std.proofs.lemmas.Bool.{eqb-true, eqb-false}
use Rattle.std.proofs.lemmas.List.{append-nil, drop_all}
use Rattle.std.proofs.lemmas.Result.{err_from_is_err_and}
use Rattle.q3_entity.specs.Walking.{kept_below}
use Rattle.q3_entity.proofs.Risen.{rise-front, rise-after}
use Rattle.q3_entity.proofs.Numbers.{kept_below-left, kept_below-part}
use Rattle.q3_entity.proofs.list_reading.keep_below.Goals as goal

pub returns-then-not-is_empty-clause-kept : goal.returns-then-not-is_empty-clause-kept
returns-then-not-is_empty-clause-kept c =
    let head = c.in_ok-head.head.now in
    sym (kept_below-left c.args.number (take c.args.count c.args.into.now.items) c.args.base.head.now (take c.in_ok-head.count c.keep_front.new.into.items) head c.args.base.tail.now c.in_ok-head.ensures.kept
    (eqb-false (length head) 0 (sym c.is_empty.ensures ∙ c.if-not-is_empty.true)))

pub returns-in_err-tail-clause-kept : goal.returns-in_err-tail-clause-kept
returns-in_err-tail-clause-kept c =
    let head = c.in_ok-head.head.now in
    let tail = c.args.base.tail.now in
    let kept = take c.in_ok-head.count c.keep_front.new.into.items in
    let p = err_from_is_err_and c.from_residual-in_err-tail.result c.from_residual-in_err-tail.ensures.1 in
    let none : length head ≡ 0 = eqb-true (length head) 0 (sym c.is_empty.ensures ∙ c.if-not-is_empty.false) in
    let empty : head ≡ [] = drop_all 0 head (omega arith) in
    rw (p.1, p.2)
    (sym (c.in_ok-head.ensures.kept.goes_on tail ∙ ap (λ xs. kept_below c.args.number kept (xs ++ tail)) empty
    ∙ ap (kept_below c.args.number kept) (sym (append-nil tail)) ∙ c.in_err-tail.ensures.many []))

pub returns-clause-kept : goal.returns-clause-kept
returns-clause-kept c =
    let head = c.in_ok-head.head.now in
    let tail = c.args.base.tail.now in
    let kept = take c.in_ok-head.count c.keep_front.new.into.items in
    let none : length head ≡ 0 = eqb-true (length head) 0 (sym c.is_empty.ensures ∙ c.if-not-is_empty.false) in
    let empty : head ≡ [] = drop_all 0 head (omega arith) in
    let first = c.in_ok-head.ensures.kept.goes_on tail ∙ ap (λ xs. kept_below c.args.number kept (xs ++ tail)) empty in
    rw empty (sym (first ∙ kept_below-part c.args.number kept tail (take c.in_ok-tail.count c.keep_front-2.new.into.items) c.in_ok-tail.tail.now c.in_ok-tail.ensures.kept))

pub keep_front-requires-clause-rise : goal.keep_front-requires-clause-rise
keep_front-requires-clause-rise c = rise-front (2 ^ 16) 0 c.args.base.head.now c.args.base.tail.now c.requires.rise

pub keep_front-requires-2-clause-rise : goal.keep_front-requires-2-clause-rise
keep_front-requires-2-clause-rise c = rise-after (2 ^ 16) c.args.base.head.now c.args.base.tail.now c.requires.rise
