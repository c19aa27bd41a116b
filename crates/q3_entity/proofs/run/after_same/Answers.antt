use Rattle.std.proofs.Common.{◌++◌, take, drop, sym, ap, ◌∙◌}
use Rattle.std.proofs.lemmas.List.{take-append-drop, take_rest}
use Rattle.q3_entity.proofs.run.after_same.Goals as goal

pub returns : goal.returns
returns c =
    let base = c.args.base.now in
    let now = c.args.now.now in
    let count = c.count_same-count.result in
    rw (take_rest base count, take_rest now count) (record {
      front = take count base;
      base-is = sym (take-append-drop count base);
      now-is = sym (take-append-drop count now) ∙ ap (λ front. front ++ drop count now) (sym c.count_same-count.ensures.same);
    })
