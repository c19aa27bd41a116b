-- Rows of lines that grow by one number after the other, and drawn lines.
use Rattle.std.proofs.Common.{◌≡◌, ℕ, zero, suc, ◌+◌, List, [], ◌∷◌, ◌++◌, map, refl, ap, ◌∙◌, arith, append_assoc}
use Rattle.std.specs.List.{flat_map, range_with_len}
use Rattle.std.proofs.lemmas.List.{append-nil, map-append}
use Rattle.std.proofs.lemmas.List.Concat.{flat_map-append}
use Rattle.std.proofs.lemmas.List.Sums.{sum_by-append}
use Rattle.rand_pcg.specs.Lcg.{Lcg}
use Rattle.q3_script.specs.declared.event.Event.{Event}
use Rattle.q3_make.specs.Generated.{made_by, made_in, drawn_line, drawn_from, closing, DrawnState, rest_of}

-- the next number of a row
range_next : (a k j : ℕ) → a + k ≡ j → range_with_len a (suc k) ≡ range_with_len a k ++ j ∷ []
range_next a zero j e = let same : a ≡ j = omega arith in ap (λ (x : ℕ). x ∷ []) same
range_next a (suc k) j e = ap (λ (xs : List ℕ). a ∷ xs) (range_next (a + 1) k j (omega arith))

range_more : (a k j : ℕ) → a + k ≡ j → range_with_len a (k + 1) ≡ range_with_len a k ++ j ∷ []
range_more a k j e =
    let more : k + 1 ≡ suc k = omega arith in
    ap (λ (n : ℕ). range_with_len a n) more ∙ range_next a k j e

-- a line for the next number
pub one_more : (f : ℕ → Event) (a k j : ℕ) (old now : List Event) (event : Event) → a + k ≡ j → now ≡ old ++ map f (range_with_len a k) → event ≡ f j → now ++ event ∷ [] ≡ old ++ map f (range_with_len a (k + 1))
one_more f a k j old now event e so_far is =
    rw (so_far, is, range_more a k j e, map-append f (range_with_len a k) (j ∷ [])) (append_assoc old (map f (range_with_len a k)) (f j ∷ []))

-- lines for the next number
pub some_more : (f : ℕ → List Event) (a k j : ℕ) (old now lines : List Event) → a + k ≡ j → now ≡ old ++ flat_map f (range_with_len a k) → lines ≡ f j → now ++ lines ≡ old ++ flat_map f (range_with_len a (k + 1))
some_more f a k j old now lines e so_far is =
    let last : f j ++ [] ≡ f j = append-nil (f j) in
    rw (so_far, is, range_more a k j e, flat_map-append f (range_with_len a k) (j ∷ []), last) (append_assoc old (flat_map f (range_with_len a k)) (f j))

-- the datagrams of a line, and of those after it
pub made_more : (event : Event) (events : List Event) → made_in (event ∷ events) ≡ made_by event + made_in events
made_more event events =
    let one : 0 + made_by event ≡ made_by event = omega arith in
    sum_by-append made_by (event ∷ []) events ∙ ap (λ (n : ℕ). n + made_in events) one

-- ---- what is left of a script

-- a drawn line, and what is left after it
pub rest_next : (left : ℕ) (state : DrawnState) (event : Event) (drawn made : ℕ) (generator : Lcg) → (event, generator) ≡ drawn_line (state.drawn + 1) state.made state.generator
    → drawn ≡ state.drawn + 1 → made ≡ state.made + made_by event → rest_of (left + 1) state ≡ event ∷ rest_of left (record { drawn = drawn; made = made; generator = generator })
unfolding drawn_from rest_of
rest_next left state event drawn made generator line counts makes =
    let is : event ≡ (drawn_line (state.drawn + 1) state.made state.generator).0 = ap (λ (p : Event × Lcg). p.0) line in
    let goes : generator ≡ (drawn_line (state.drawn + 1) state.made state.generator).1 = ap (λ (p : Event × Lcg). p.1) line in
    let more : left + 1 ≡ suc left = omega arith in
    let rest = drawn_from left (drawn + 1) made generator in
    let one : drawn_from (left + 1) (state.drawn + 1) state.made state.generator ≡ event ∷ rest = rw (more, counts, makes, is, goes) refl in
    let e = made_more event rest in
    let sum : state.made + made_in (event ∷ rest) ≡ made + made_in rest = omega arith in
    ap (λ (lines : List Event). lines ++ closing (state.made + made_in lines)) one ∙ ap (λ (n : ℕ). event ∷ (rest ++ closing n)) sum

-- no drawn line is left
pub rest_none : (state : DrawnState) → rest_of 0 state ≡ closing state.made
unfolding drawn_from rest_of
rest_none state =
    let none : state.made + made_in [] ≡ state.made = omega arith in
    ap closing none
