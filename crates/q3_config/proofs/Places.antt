-- Where strings lie: what stays of them when bytes come after, when one gets another place, and when all are copied.
use Rattle.std.proofs.Common.{◌≡◌, ℕ, zero, suc, ◌+◌, ◌<◌, ◌≤◌, List, [], ◌∷◌, ◌++◌, length, get_or, set, take, drop, replicate, refl, sym, ap, subst, ◌∙◌, arith, length-append, length-drop, length-take-le, take_all}
use Rattle.std.specs.List.{concat}
use Rattle.std.proofs.Math.Seq.{take-suc, take-suc-set, drop-append_seam, drop-cons}
use Rattle.std.proofs.lemmas.List.{take-append-le, drop-append-le, take-append-drop, map-set, map-append, length-map, length-set, append-nil, drop-set-lt, get_or-drop, get_or-map}
use Rattle.std.proofs.lemmas.List.Folds.{concat-append}
use Rattle.std.proofs.lemmas.List.Elements.{All-head, All-tail, All-nil, All-cons, All-set, All-weaker, All-append, All-get_or, All-replicate}
use Rattle.q3_config.specs.declared.table.Place.{Place}
use Rattle.q3_config.specs.Table.{text_in, texts_in, LieWithin}

-- a place within bytes
abbrev pub Within : List ℕ → Place → Type 0
Within bytes place = place.start + place.length ≤ length bytes

-- how many bytes its string has
length-text_in : (bytes : List ℕ) (place : Place) → Within bytes place → length (text_in bytes place) ≡ place.length
length-text_in bytes place within = length-take-le place.length (drop place.start bytes) (omega (arith, length-drop place.start bytes))

-- it stays the same when bytes come after it
text_in-more : (bytes more : List ℕ) (place : Place) → Within bytes place → text_in (bytes ++ more) place ≡ text_in bytes place
text_in-more bytes more place within =
    ap (λ (bs : List ℕ). take place.length bs) (drop-append-le place.start bytes more (omega arith))
    ∙ take-append-le place.length (drop place.start bytes) more (omega (arith, length-drop place.start bytes))

-- and so do all
texts_in-more : (bytes more : List ℕ) (places : List Place) → LieWithin bytes places → texts_in (bytes ++ more) places ≡ texts_in bytes places
texts_in-more bytes more [] within = refl
texts_in-more bytes more (place ∷ places) within =
    let first = text_in-more bytes more place (All-head (Within bytes) place places within) in
    let others = texts_in-more bytes more places (All-tail (Within bytes) place places within) in
    cc

-- and lie within the bytes
within-more : (bytes more : List ℕ) (places : List Place) → LieWithin bytes places → LieWithin (bytes ++ more) places
within-more bytes more places within = All-weaker (Within bytes) (Within (bytes ++ more)) (λ place inside. omega (arith, length-append bytes more)) places within

-- the place after all bytes
abbrev pub place_after : List ℕ → ℕ → Place
place_after bytes n = record { start = length bytes; length = n }

-- the string that is put there
text_in-new : (bytes text : List ℕ) (n : ℕ) → n ≡ length text → text_in (bytes ++ text) (place_after bytes n) ≡ text
text_in-new bytes text n is = ap (λ (bs : List ℕ). take n bs) (drop-append_seam bytes text) ∙ take_all n text (omega arith)

within-new : (bytes text : List ℕ) (n : ℕ) → n ≡ length text → Within (bytes ++ text) (place_after bytes n)
within-new bytes text n is = omega (arith, length-append bytes text)

-- the strings at places
pub record Lie (bytes : List ℕ) (places : List Place) (texts : List (List ℕ)) : Type 0 where
  pub within : LieWithin bytes places
  pub same : texts_in bytes places ≡ texts

-- a string that is put after all bytes, and its place there at an index
pub put : (bytes : List ℕ) (places : List Place) (index : ℕ) (text : List ℕ) (n : ℕ) → LieWithin bytes places → n ≡ length text
    → Lie (bytes ++ text) (set places index (place_after bytes n)) (set (texts_in bytes places) index text)
put bytes places index text n within is = record {
  within = All-set (Within (bytes ++ text)) places index (place_after bytes n) (within-new bytes text n is) (within-more bytes text places within);
  same = map-set (λ place. text_in (bytes ++ text) place) places index (place_after bytes n)
      ∙ ap (λ (texts : List (List ℕ)). set texts index (text_in (bytes ++ text) (place_after bytes n))) (texts_in-more bytes text places within)
      ∙ ap (λ (other : List ℕ). set (texts_in bytes places) index other) (text_in-new bytes text n is);
}

-- a string that is put there after others
added : (bytes : List ℕ) (places : List Place) (texts : List (List ℕ)) (text : List ℕ) (n : ℕ) → Lie bytes places texts → n ≡ length text
    → Lie (bytes ++ text) (places ++ (place_after bytes n ∷ [])) (texts ++ (text ∷ []))
added bytes places texts text n lie is =
    let old : texts_in (bytes ++ text) places ≡ texts = texts_in-more bytes text places lie.within ∙ lie.same in
    let new = text_in-new bytes text n is in
    record {
      within = All-append (Within (bytes ++ text)) places (place_after bytes n ∷ []) (within-more bytes text places lie.within)
          (All-cons (Within (bytes ++ text)) (place_after bytes n) [] (within-new bytes text n is) (All-nil (Within (bytes ++ text))));
      same = map-append (λ place. text_in (bytes ++ text) place) places (place_after bytes n ∷ [])
          ∙ ap (λ (front : List (List ℕ)). front ++ (text_in (bytes ++ text) (place_after bytes n) ∷ [])) old
          ∙ ap (λ (last : List ℕ). texts ++ (last ∷ [])) new;
    }

-- so many strings lie in other bytes, and no others; the places of those that are left are the old ones
pub record Copied (bytes into : List ℕ) (old now : List Place) (k : ℕ) : Type 0 where
  pub count : length now ≡ length old
  pub whole : into ≡ concat (take k (texts_in bytes old))
  pub lie : Lie into (take k now) (take k (texts_in bytes old))
  pub left : drop k now ≡ drop k old

pub begin : (bytes into : List ℕ) (old : List Place) → into ≡ [] → Copied bytes into old old 0
begin bytes into old none = record {
  count = refl;
  whole = none;
  lie = record { within = All-nil (Within into); same = refl };
  left = refl;
}

-- the place of the next string is the old one
next : (bytes into : List ℕ) (old now : List Place) (k : ℕ) (d : Place) → Copied bytes into old now k → get_or now k d ≡ get_or old k d
next bytes into old now k d done =
    let same : k ≡ k + 0 = omega arith in
    ap (λ i. get_or now i d) same ∙ sym (get_or-drop k now 0 d) ∙ ap (λ (places : List Place). get_or places 0 d) done.left ∙ get_or-drop k old 0 d ∙ ap (λ i. get_or old i d) (sym same)

-- the places after it
drop_next : (places : List Place) (k : ℕ) (d : Place) → k < length places → drop 1 (drop k places) ≡ drop (suc k) places
drop_next places k d lt = ap (λ (ps : List Place). drop 1 ps) (drop-cons places k d lt)

-- the strings up to it
take_next : (bytes : List ℕ) (old : List Place) (k : ℕ) (d : Place) → k < length old → take (suc k) (texts_in bytes old) ≡ take k (texts_in bytes old) ++ (text_in bytes (get_or old k d) ∷ [])
take_next bytes old k d lt =
    take-suc (texts_in bytes old) k [] (omega (arith, length-map old (λ place. text_in bytes place)))
    ∙ ap (λ (text : List ℕ). take k (texts_in bytes old) ++ (text ∷ [])) (get_or-map (λ place. text_in bytes place) old k d [] lt)

concat_next : (bytes : List ℕ) (old : List Place) (k : ℕ) (d : Place) → k < length old → concat (take (suc k) (texts_in bytes old)) ≡ concat (take k (texts_in bytes old)) ++ text_in bytes (get_or old k d)
concat_next bytes old k d lt =
    ap concat (take_next bytes old k d lt)
    ∙ concat-append (take k (texts_in bytes old)) (text_in bytes (get_or old k d) ∷ [])
    ∙ ap (λ (text : List ℕ). concat (take k (texts_in bytes old)) ++ text) (append-nil (text_in bytes (get_or old k d)))

-- the next string lies within the bytes, and has room after those that are copied
pub record HasNext (bytes into : List ℕ) (old : List Place) (place : Place) : Type 0 where
  pub within : Within bytes place
  pub fits : length into + place.length ≤ length (concat (texts_in bytes old))

pub has_next : (bytes into : List ℕ) (old now : List Place) (k : ℕ) (d : Place) → LieWithin bytes old → Copied bytes into old now k → k < length old → HasNext bytes into old (get_or now k d)
has_next bytes into old now k d within done lt =
    let is = next bytes into old now k d done in
    let inside : Within bytes (get_or old k d) = All-get_or (Within bytes) old k d lt within in
    let texts = texts_in bytes old in
    let front = ap (λ (bs : List ℕ). length bs) (concat_next bytes old k d lt) in
    let all = ap (λ (ts : List (List ℕ)). length (concat ts)) (take-append-drop (suc k) texts) in
    let parts = ap (λ (bs : List ℕ). length bs) (concat-append (take (suc k) texts) (drop (suc k) texts)) in
    let fits : length into + (get_or old k d).length ≤ length (concat texts) = omega (
      arith,
      ap (λ (bs : List ℕ). length bs) done.whole,
      length-text_in bytes (get_or old k d) inside,
      length-append (concat (take k texts)) (text_in bytes (get_or old k d)),
      length-append (concat (take (suc k) texts)) (concat (drop (suc k) texts)),
    ) in
    subst (λ (place : Place). HasNext bytes into old place) (sym is) (record { within = inside; fits = fits })

-- it is copied
copied : (bytes into new : List ℕ) (old now : List Place) (k : ℕ) (d : Place) → LieWithin bytes old → Copied bytes into old now k → k < length old
    → new ≡ into ++ text_in bytes (get_or now k d) → Copied bytes new old (set now k (place_after into (get_or now k d).length)) (suc k)
copied bytes into new old now k d within done lt is =
    let place = get_or now k d in
    let inside : k < length now = (let count = done.count in omega arith) in
    let same = next bytes into old now k d done in
    let text = text_in bytes place in
    let here = has_next bytes into old now k d within done lt in
    let next_texts : take (suc k) (texts_in bytes old) ≡ take k (texts_in bytes old) ++ (text ∷ []) =
    take_next bytes old k d lt ∙ ap (λ (p : Place). take k (texts_in bytes old) ++ (text_in bytes p ∷ [])) (sym same) in
    let places : take (suc k) (set now k (place_after into place.length)) ≡ take k now ++ (place_after into place.length ∷ []) = take-suc-set now k (place_after into place.length) inside in
    let lie = added into (take k now) (take k (texts_in bytes old)) text place.length done.lie (sym (length-text_in bytes place here.within)) in
    let moved : Lie (into ++ text) (take (suc k) (set now k (place_after into place.length))) (take (suc k) (texts_in bytes old)) = rw (places, next_texts) lie in
    record {
      count = length-set now k (place_after into place.length) ∙ done.count;
      whole = is ∙ ap (λ (bs : List ℕ). bs ++ text) done.whole ∙ ap (λ (p : Place). concat (take k (texts_in bytes old)) ++ text_in bytes p) same ∙ sym (concat_next bytes old k d lt);
      lie = subst (λ (bs : List ℕ). Lie bs (take (suc k) (set now k (place_after into place.length))) (take (suc k) (texts_in bytes old))) (sym is) moved;
      left = drop-set-lt (suc k) now k (place_after into place.length) (omega arith) ∙ sym (drop_next now k d inside) ∙ ap (λ (ps : List Place). drop 1 ps) done.left ∙ drop_next old k d lt;
    }

pub more : (bytes into new : List ℕ) (old now : List Place) (k : ℕ) (d place : Place) → LieWithin bytes old → Copied bytes into old now k → k < length old
    → new ≡ into ++ text_in bytes (get_or now k d) → place ≡ place_after into (get_or now k d).length → Copied bytes new old (set now k place) (k + 1)
more bytes into new old now k d place within done lt is place_is =
    let next : suc k ≡ k + 1 = omega arith in
    subst (λ (p : Place). Copied bytes new old (set now k p) (k + 1)) (sym place_is)
    (subst (λ (n : ℕ). Copied bytes new old (set now k (place_after into (get_or now k d).length)) n) next (copied bytes into new old now k d within done lt is))

-- all are copied
pub all : (bytes into : List ℕ) (old now : List Place) (k : ℕ) → Copied bytes into old now k → k ≡ length old → (into ≡ concat (texts_in bytes old)) × Lie into now (texts_in bytes old)
all bytes into old now k done end =
    let texts : take k (texts_in bytes old) ≡ texts_in bytes old = take_all k (texts_in bytes old) (omega (arith, length-map old (λ place. text_in bytes place))) in
    let places : take k now ≡ now = take_all k now (let count = done.count in omega arith) in
    (done.whole ∙ ap concat texts, subst (λ (ps : List Place). Lie into ps (texts_in bytes old)) places (subst (λ (ts : List (List ℕ)). Lie into (take k now) ts) texts done.lie))

-- no bytes, and places that start at 0 and have none
pub nowhere : (bytes : List ℕ) (places : List Place) (n : ℕ) → places ≡ replicate n (record { start = 0; length = 0 }) → Lie bytes places (replicate n [])
nowhere bytes places n are = subst (λ (ps : List Place). Lie bytes ps (replicate n [])) (sym are) (record {
  within = All-replicate (Within bytes) n (record { start = 0; length = 0 }) (omega arith);
  same = empty n;
})
  where
    empty : (n : ℕ) → texts_in bytes (replicate n (record { start = 0; length = 0 })) ≡ replicate n []
    empty zero = refl
    empty (suc n) = ap (λ (ts : List (List ℕ)). [] ∷ ts) (empty n)
