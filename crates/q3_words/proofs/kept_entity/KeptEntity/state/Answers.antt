use Rattle.std.proofs.Common.{◌≡◌, ◌∙◌, List, ap}
use Rattle.q3_fields.specs.Places.{Change, with_changes}
use Rattle.q3_entity.specs.declared.state.EntityState.{EntityState}
use Rattle.q3_entity.specs.Entities.{zero_entity}
use Rattle.q3_words.specs.Fields.{values_of}
use Rattle.q3_words.proofs.kept_entity.KeptEntity.state.Goals as goal

pub returns : goal.returns
unfolding zero_entity
returns c =
    let kept = c.self.inside.words.items in
    let over : c.put.new.words ≡ with_changes c.zero-state.result.words kept = c.put.ensures ∙ ap (λ (ks : List Change). with_changes c.zero-state.result.words ks) c.deref.ensures.value in
    let put : c.put.new.words ≡ values_of 64 kept = over ∙ ap (λ (state : EntityState). with_changes state.words kept) c.zero-state.ensures in
    let number : c.zero-state.result.number ≡ c.self.inside.number = ap (λ (state : EntityState). state.number) c.zero-state.ensures in
    rw (number, put) c.self.view_is
