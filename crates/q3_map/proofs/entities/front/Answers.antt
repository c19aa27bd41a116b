use Rattle.std.proofs.Common.{sym, inl, inr, arith}
use Rattle.std.proofs.lemmas.List.{take_all}
use Rattle.q3_entity.specs.Entities.{most_entities}
use Rattle.q3_map.proofs.entities.front.Goals as goal

pub returns-in-None-clause-items : goal.returns-in-None-clause-items
returns-in-None-clause-items c =
    elim c.in-None.ensures.lookup.0 [
      | inl backwards ↦ absurd (omega arith)
      | inr short ↦ sym (take_all most_entities c.args.entities.now (omega (arith, short)))
    ]
