use Rattle.std.proofs.Common.{◌≡◌, ◌<◌, ℕ, List, [], true, length, get_or, sym, ap, ◌∙◌, arith}
use Rattle.std.proofs.lemmas.List.Sums.{position_or_len_is}
use Rattle.std.specs.Str.{bytes_eq}
use Rattle.q3_testio.proofs.store.first.Goals as goal

pub returns-then-eq : goal.returns-then-eq
returns-then-eq c =
    let texts = c.args.texts.now.texts in
    let place = c.loop-place.place in
    let within : place < length texts = omega arith in
    let hit : bytes_eq (get_or texts place []) c.args.text.now ≡ true = ap (λ (z : List ℕ). bytes_eq z c.args.text.now) (sym c.get.ensures) ∙ sym c.if-eq.ensures in
    let at = position_or_len_is (λ (one : List ℕ). bytes_eq one c.args.text.now) texts place [] (omega arith) c.loop-place.invariant (λ h. hit) in
    grind (arith, at, within)

pub returns : goal.returns
returns c =
    let texts = c.args.texts.now.texts in
    let at = position_or_len_is (λ (one : List ℕ). bytes_eq one c.args.text.now) texts (length texts) [] (omega arith) (λ k h. c.loop-place.invariant k (omega arith)) (λ h. absurd (omega arith)) in
    grind (arith, at)
