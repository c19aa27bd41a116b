-- Texts that lie one after the other.
use Rattle.std.proofs.Common.{◌≡◌, ℕ, ◌+◌, ◌<◌, ◌≤◌, List, [], ◌∷◌, ◌++◌, length, map, take, drop, get_or, set, zero, suc, refl, sym, ap, ◌∙◌, append_assoc, arith}
use Rattle.std.proofs.Math.Seq.{take-append_seam, drop-append_seam, drop-append-add, take-append-add}
use Rattle.std.proofs.lemmas.List.{length-append, append-nil, map-append, map-set, take-map, get_or-map, length-map}
use Rattle.std.proofs.lemmas.List.Folds.{concat-append}
use Rattle.std.proofs.lemmas.List.Sums.{sum_by-cons, sum_by_more_le}
use Rattle.std.specs.List.{concat, sum}
use Rattle.q3_testio.specs.Texts.{texts_of, LieInTurn, AreCutFrom, StartsAt}

-- texts are cut again as they were
texts_of-concat : (texts : List (List ℕ)) → texts_of (map length texts) (concat texts) ≡ texts
unfolding texts_of
texts_of-concat [] = refl
texts_of-concat (text ∷ texts) =
    rw (take-append_seam text (concat texts), drop-append_seam text (concat texts)) (ap (λ (t : List (List ℕ)). text ∷ t) (texts_of-concat texts))

-- what lies one after another does so as texts
are_cut_from : (texts : List (List ℕ)) (lengths bytes : List ℕ) → lengths ≡ map length texts → bytes ≡ concat texts → AreCutFrom texts lengths bytes
are_cut_from texts lengths bytes l b = rw (l, b) (record {
  lie = record {
    bytes_are = ap concat (texts_of-concat texts);
    lengths_are = ap (map length) (texts_of-concat texts);
  };
  same = texts_of-concat texts;
})

-- as many bytes as the lengths say
length-concat : (texts : List (List ℕ)) → length (concat texts) ≡ sum (map length texts)
length-concat [] = refl
length-concat (text ∷ texts) =
    length-append text (concat texts) ∙ (ap (λ n. length text + n) (length-concat texts) ∙ sym (sum_by-cons (λ n. n) (length text) (map length texts)))

-- the texts before a place, the one there, and those after it
parts : (texts : List (List ℕ)) (place : ℕ) → place < length texts
    → concat texts ≡ concat (take place texts) ++ (get_or texts place [] ++ concat (drop (suc place) texts))
parts [] place within = absurd (omega arith)
parts (text ∷ texts) zero within = refl
parts (text ∷ texts) (suc place) within =
    ap (λ (t : List ℕ). text ++ t) (parts texts place (omega arith)) ∙ sym (append_assoc text (concat (take place texts)) (get_or texts place [] ++ concat (drop (suc place) texts)))

-- the same with another there
set_parts : (texts : List (List ℕ)) (place : ℕ) (text : List ℕ) → place < length texts
    → concat (set texts place text) ≡ concat (take place texts) ++ (text ++ concat (drop (suc place) texts))
set_parts [] place text within = absurd (omega arith)
set_parts (one ∷ texts) zero text within = refl
set_parts (one ∷ texts) (suc place) text within =
    ap (λ (t : List ℕ). one ++ t) (set_parts texts place text (omega arith)) ∙ sym (append_assoc one (concat (take place texts)) (text ++ concat (drop (suc place) texts)))

-- a list in three parts, cut after the second and between the first two
cut_after : (f t g : List ℕ) → drop (length f + length t) (f ++ (t ++ g)) ≡ g
cut_after f t g = drop-append-add f (t ++ g) (length t) ∙ drop-append_seam t g

cut_with : (f t g : List ℕ) → take (length f + length t) (f ++ (t ++ g)) ≡ f ++ t
cut_with f t g = take-append-add f (t ++ g) (length t) ∙ ap (λ (z : List ℕ). f ++ z) (take-append_seam t g)

starts_at : (texts : List (List ℕ)) (lengths bytes : List ℕ) (place start : ℕ) → map length texts ≡ lengths → concat texts ≡ bytes
    → place < length lengths → start ≡ sum (take place lengths) → StartsAt lengths bytes place start
starts_at texts lengths bytes place start l b within is =
    let front = concat (take place texts) in
    let text = get_or texts place [] in
    let back = concat (drop (suc place) texts) in
    let inside : place < length texts = omega (arith, within, ap (λ (z : List ℕ). length z) l, length-map texts (λ (z : List ℕ). length z)) in
    let whole : bytes ≡ front ++ (text ++ back) = sym b ∙ parts texts place inside in
    let count : get_or lengths place 0 ≡ length text = ap (λ (z : List ℕ). get_or z place 0) (sym l) ∙ get_or-map length texts place [] 0 inside in
    let begins : start ≡ length front = is ∙ (ap (λ (z : List ℕ). sum (take place z)) (sym l) ∙ (ap sum (take-map length place texts) ∙ sym (length-concat (take place texts)))) in
    let same : texts_of lengths bytes ≡ texts = (are_cut_from texts lengths bytes (sym l) (sym b)).same in
    record {
      within = rw (count, begins, whole) (omega (arith, length-append front (text ++ back), length-append text back));
      count = rw same (sym count);
      text = rw (same, count, begins, whole, drop-append_seam front (text ++ back)) (take-append_seam text back);
      cleared = rw same (are_cut_from (set texts place []) (set lengths place 0) _ (rw (← l) (sym (map-set length texts place [])))
          (rw (count, begins, whole, take-append_seam front (text ++ back), cut_after front text back) (sym (set_parts texts place [] inside))));
      added = λ more. rw same (are_cut_from (set texts place (text ++ more)) (set lengths place (get_or lengths place 0 + length more)) _
          (rw (count, ← l, ← length-append text more) (sym (map-set length texts place (text ++ more))))
          (rw (count, begins, whole, cut_with front text back, cut_after front text back) (simp append_assoc (sym (set_parts texts place (text ++ more) inside ∙ ap (λ (z : List ℕ). front ++ z) (append_assoc text more back))))));
    }

-- where a text starts, as the sum of the lengths before it
pub starts : (lengths bytes : List ℕ) (place start : ℕ) → LieInTurn lengths bytes → place < length lengths → start ≡ sum (take place lengths) → StartsAt lengths bytes place start
starts lengths bytes place start lie within is = starts_at (texts_of lengths bytes) lengths bytes place start lie.lengths_are lie.bytes_are within is

-- the sum of the first lengths is within the bytes
pub sum_within : (lengths bytes : List ℕ) (k : ℕ) → LieInTurn lengths bytes → k < length lengths → sum (take k lengths) + get_or lengths k 0 ≤ length bytes
sum_within lengths bytes k lie within =
    let whole : length bytes ≡ sum lengths = ap length (sym lie.bytes_are) ∙ (length-concat (texts_of lengths bytes) ∙ ap sum lie.lengths_are) in
    omega (arith, whole, sum_by_more_le (λ n. n) lengths k 0 within)

-- a text more
pub pushed : (lengths bytes text : List ℕ) → LieInTurn lengths bytes → AreCutFrom (texts_of lengths bytes ++ text ∷ []) (lengths ++ length text ∷ []) (bytes ++ text)
pushed lengths bytes text lie =
    let texts = texts_of lengths bytes in
    are_cut_from (texts ++ text ∷ []) (lengths ++ length text ∷ []) (bytes ++ text)
    (ap (λ (z : List ℕ). z ++ length text ∷ []) (sym lie.lengths_are) ∙ sym (map-append length texts (text ∷ [])))
    (ap (λ (z : List ℕ). z ++ text) (sym lie.bytes_are) ∙ (ap (λ (z : List ℕ). concat texts ++ z) (sym (append-nil text)) ∙ sym (concat-append texts (text ∷ []))))

-- as many texts as lengths
pub length_texts_of : (lengths bytes : List ℕ) → length (texts_of lengths bytes) ≡ length lengths
unfolding texts_of
length_texts_of [] bytes = refl
length_texts_of (count ∷ lengths) bytes = ap suc (length_texts_of lengths (drop count bytes))
