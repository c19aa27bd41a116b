-- Lists that begin with the same entities.
use Rattle.std.proofs.Common.{List, [], ◌++◌, sym, ap, ◌∙◌, append_assoc}
use Rattle.q3_entity.specs.declared.state.EntityState.{EntityState}
use Rattle.q3_entity.specs.Runs.{ShareFront}

-- a base in two pieces, of which the first is used up
pub share-both : (head now now' tail tail' now'' : List EntityState) → ShareFront head now [] now' → ShareFront tail now' tail' now'' → ShareFront (head ++ tail) now tail' now''
share-both head now now' tail tail' now'' share after = record {
  front = share.front ++ after.front;
  base-is =
      ap (λ entities. entities ++ tail) share.base-is ∙ append_assoc share.front [] tail ∙ ap (λ entities. share.front ++ entities) after.base-is
      ∙ sym (append_assoc share.front after.front tail');
  now-is = share.now-is ∙ ap (λ entities. share.front ++ entities) after.now-is ∙ sym (append_assoc share.front after.front now'');
}

-- more follows one of them
pub share-more : (base head base' head' tail : List EntityState) → ShareFront base head base' head' → ShareFront base (head ++ tail) base' (head' ++ tail)
share-more base head base' head' tail share = record {
  front = share.front;
  base-is = share.base-is;
  now-is = ap (λ entities. entities ++ tail) share.now-is ∙ append_assoc share.front head' tail;
}

-- and where it is in two pieces, of which the first is used up
pub share-on : (base base' base'' head tail tail' : List EntityState) → ShareFront base head base' [] → ShareFront base' tail base'' tail' → ShareFront base (head ++ tail) base'' tail'
share-on base base' base'' head tail tail' share after = record {
  front = share.front ++ after.front;
  base-is = share.base-is ∙ ap (λ entities. share.front ++ entities) after.base-is ∙ sym (append_assoc share.front after.front base'');
  now-is =
      ap (λ entities. entities ++ tail) share.now-is ∙ append_assoc share.front [] tail ∙ ap (λ entities. share.front ++ entities) after.now-is
      ∙ sym (append_assoc share.front after.front tail');
}
