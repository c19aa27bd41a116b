use Rattle.std.proofs.Common.{◌≡◌, Bool, true, false, ◌&&◌, refl, sym, ◌∙◌}
use Rattle.q3_player.specs.Arrays.{arrays_changed}
use Rattle.q3_player.proofs.writing.same_arrays.Goals as goal

-- a test that fails decides
fails : (a rest : Bool) → a ≡ false → false ≡ (a && rest)
fails false rest x = refl
fails true rest x = absurd cc

-- a test that holds leaves it to those after it
holds : (a rest answer : Bool) → a ≡ true → answer ≡ rest → answer ≡ (a && rest)
holds true rest answer x y = y
holds false rest answer x y = absurd cc

-- the last test decides
last : (a answer : Bool) → answer ≡ a → answer ≡ (a && true)
last true answer x = x
last false answer x = x

pub returns-then-not-same_shorts : goal.returns-then-not-same_shorts
unfolding arrays_changed
returns-then-not-same_shorts c = fails _ _ (sym c.same_shorts.ensures ∙ c.if-not-same_shorts.true)

pub returns-then-not-same_shorts-2 : goal.returns-then-not-same_shorts-2
unfolding arrays_changed
returns-then-not-same_shorts-2 c =
    holds _ _ _ (sym c.same_shorts.ensures ∙ c.if-not-same_shorts.false) (fails _ _ (sym c.same_shorts-2.ensures ∙ c.if-not-same_shorts-2.true))

pub returns-then-not-same_shorts-3 : goal.returns-then-not-same_shorts-3
unfolding arrays_changed
returns-then-not-same_shorts-3 c =
    holds _ _ _ (sym c.same_shorts.ensures ∙ c.if-not-same_shorts.false)
    (holds _ _ _ (sym c.same_shorts-2.ensures ∙ c.if-not-same_shorts-2.false) (fails _ _ (sym c.same_shorts-3.ensures ∙ c.if-not-same_shorts-3.true)))

pub returns : goal.returns
unfolding arrays_changed
returns c =
    holds _ _ _ (sym c.same_shorts.ensures ∙ c.if-not-same_shorts.false)
    (holds _ _ _ (sym c.same_shorts-2.ensures ∙ c.if-not-same_shorts-2.false)
    (holds _ _ _ (sym c.same_shorts-3.ensures ∙ c.if-not-same_shorts-3.false) (last _ _ c.same_words.ensures)))
