use Rattle.std.proofs.Common.{◌≡◌, ◌^◌, get_or, sym, ap, arith}
use Rattle.std.proofs.lemmas.Option.{get_or_from_slice_get}
use Rattle.q3_entity.specs.declared.state.EntityState.{EntityState}
use Rattle.q3_entity.proofs.Near.{from-near}
use Rattle.q3_entity.proofs.run.most_below.Goals as goal

pub returns-clause-after : goal.returns-clause-after
returns-clause-after c =
    let part = c.args.part.now in
    let first = c.in-Some.first.now in
    let here : get_or part 0 first ≡ first = get_or_from_slice_get part 0 first first (sym c.in-Some.ensures.value) in
    from-near (2 ^ 16) c.args.number c.min.result part first c.requires
    (omega (arith, c.min.ensures, c.from.ensures, c.saturating_sub.ensures, ap (λ (entity : EntityState). entity.number) here))
