use Rattle.std.proofs.Common.{◌≡◌, ◌≢◌, ◌<◌, ◌++◌, ◌∷◌, [], ℕ, List, get_or, set, length, refl, subst, sym, ap, ◌∙◌, rules, arith}
use Rattle.q3_entity.specs.declared.state.EntityState.{EntityState}
use Rattle.q3_entity.specs.KeptBaselines.{nowhere, baselines_in, AreKept}
use Rattle.q3_entity.proofs.Placed.{few, place_is, replaced, added}
use Rattle.q3_entity.proofs.baselines.put.Goals as goal

pub returns-then-place-clause-baselines : goal.returns-then-place-clause-baselines
returns-then-place-clause-baselines c =
    let places = c.args.places.now.items in
    let states = c.args.states.now.items in
    let state = c.args.state.now in
    let inside : state.number < length places = omega (arith, c.requires.number, c.requires.kept.all) in
    let read : c.index-place.result.now ≡ get_or places state.number nowhere = c.index-place.ensures ∙ place_is places c.from-number.result state.number _ c.from-number.ensures inside in
    let at : c.from.result ≡ get_or places state.number nowhere = c.from.ensures ∙ read in
    let some : get_or places state.number nowhere ≢ nowhere = λ none. c.if-place.true (read ∙ none) in
    let is = replaced places states state.number state c.requires.kept c.requires.number refl some in
    ap (λ (n : ℕ). baselines_in places (set states n state)) at ∙ is.baselines

pub overflow_cast-len : goal.overflow_cast-len
overflow_cast-len c = omega (arith, c.len.ensures, few c.args.places.now.items c.args.states.now.items c.requires.kept)

pub unwrap-requires : goal.unwrap-requires
unwrap-requires c =
    let places = c.args.places.now.items in
    let states = c.args.states.now.items in
    let state = c.args.state.now in
    let inside : state.number < length places = omega (arith, c.requires.number, c.requires.kept.all) in
    let read : c.index-place.result.now ≡ get_or places state.number nowhere = c.index-place.ensures ∙ place_is places c.from-number.result state.number _ c.from-number.ensures inside in
    let is = added places states state.number state c.requires.kept c.requires.number refl (sym read ∙ c.if-place.false) in
    c.push.ensures.succeeds (omega (arith, is.room, c.requires.room))

pub returns-clause-baselines : goal.returns-clause-baselines
returns-clause-baselines c =
    let places = c.args.places.now.items in
    let states = c.args.states.now.items in
    let state = c.args.state.now in
    let inside : state.number < length places = omega (arith, c.requires.number, c.requires.kept.all) in
    let read : c.index-place.result.now ≡ get_or places state.number nowhere = c.index-place.ensures ∙ place_is places c.from-number.result state.number _ c.from-number.ensures inside in
    let is = added places states state.number state c.requires.kept c.requires.number refl (sym read ∙ c.if-place.false) in
    let len : c.len.result ≡ length states = search rules in
    let pushed : c.push.new.self.items ≡ states ++ state ∷ [] = rw c.unwrap.ensures at c.push.ensures.items in
    ap (λ (i : ℕ). baselines_in (set places i c.len.result) c.push.new.self.items) c.from-number.ensures
    ∙ ap (λ (n : ℕ). baselines_in (set places state.number n) c.push.new.self.items) len
    ∙ ap (λ (ss : List EntityState). baselines_in (set places state.number (length states)) ss) pushed
    ∙ is.baselines

pub returns-clause-kept : goal.returns-clause-kept
returns-clause-kept c =
    let places = c.args.places.now.items in
    let states = c.args.states.now.items in
    let state = c.args.state.now in
    let inside : state.number < length places = omega (arith, c.requires.number, c.requires.kept.all) in
    let read : c.index-place.result.now ≡ get_or places state.number nowhere = c.index-place.ensures ∙ place_is places c.from-number.result state.number _ c.from-number.ensures inside in
    let is = added places states state.number state c.requires.kept c.requires.number refl (sym read ∙ c.if-place.false) in
    let len : c.len.result ≡ length states = search rules in
    let pushed : c.push.new.self.items ≡ states ++ state ∷ [] = rw c.unwrap.ensures at c.push.ensures.items in
    subst (AreKept (set places c.from-number.result c.len.result)) (sym pushed)
    (subst (λ (i : ℕ). AreKept (set places i c.len.result) (states ++ state ∷ [])) (sym c.from-number.ensures)
    (subst (λ (n : ℕ). AreKept (set places state.number n) (states ++ state ∷ [])) (sym len) is.kept))
