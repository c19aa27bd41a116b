-- Numbers that are read one by one.
use Rattle.std.proofs.Common.{◌≡◌, ℕ, ◌+◌, ◌-◌, ◌*◌, ◌^◌, ◌<◌, ◌≤◌, List, [], ◌∷◌, ◌++◌, length, take, map, zero, suc, Ok, Err, refl, sym, ap, ◌∙◌, append_assoc, arith}
use Rattle.std.proofs.lemmas.List.{append-nil, map-id, take_all, take_more_set, length-set}
use Rattle.std.proofs.Math.ListN.{set}
use Rattle.std.specs.Prelude.{ℤ}
use Rattle.std.specs.Int.{w16, cast_signed}
use Rattle.q3_bits.specs.ResultBind.{◌>>=◌}
use Rattle.q3_savestate.specs.Cursor.{Cursor, Field, number_at}
use Rattle.q3_savestate.specs.Snapshots.{numbers_at, shorts_at}
use Rattle.q3_savestate.specs.Reading.{as_field}

-- those that are read by now, and the others
abbrev after_front : {X : Type 0} → (ℕ → X) → List X → Field (List ℕ) → Field (List X)
after_front f front = as_field (λ numbers. front ++ map f numbers)

-- the next of them
front_grows : {X : Type 0} (f : ℕ → X) (front : List X) (number : ℕ) (others : Field (List ℕ))
    → after_front f front (others >>= λ others. Ok (number ∷ others.0, others.1)) ≡ after_front f (front ++ f number ∷ []) others
front_grows f front number (Ok x) = ap (λ list. Ok (list, x.1)) (sym (append_assoc front (f number ∷ []) (map f x.0)))
front_grows f front number (Err at) = refl

number_more : {X : Type 0} (f : ℕ → X) (bytes left most number : ℕ) (front : List X) (cursor next : Cursor) → 0 < left → most ≡ 2 ^ (8 * bytes) - 1
    → Ok (number, next) ≡ number_at bytes 0 most cursor
    → after_front f front (numbers_at bytes left cursor) ≡ after_front f (front ++ f number ∷ []) (numbers_at bytes (left - 1) next)
unfolding numbers_at
number_more f bytes zero most number front cursor next some most_is is = absurd (omega arith)
number_more f bytes (suc left) most number front cursor next some most_is is =
    let before : left ≡ suc left - 1 = omega arith in
    rw (← most_is, ← is) (front_grows f front number (numbers_at bytes left next) ∙ ap (λ (left : ℕ). after_front f (front ++ f number ∷ []) (numbers_at bytes left next)) before)

number_stops : {X : Type 0} (f : ℕ → X) (bytes left most at : ℕ) (front : List X) (cursor : Cursor) → 0 < left → most ≡ 2 ^ (8 * bytes) - 1
    → Err at ≡ number_at bytes 0 most cursor → after_front f front (numbers_at bytes left cursor) ≡ Err at
unfolding numbers_at
number_stops f bytes zero most at front cursor some most_is is = absurd (omega arith)
number_stops f bytes (suc left) most at front cursor some most_is is = rw (← most_is, ← is) refl

-- none is left
numbers_end : {X : Type 0} (f : ℕ → X) (bytes left : ℕ) (front : List X) (cursor : Cursor) → left ≡ 0 → after_front f front (numbers_at bytes left cursor) ≡ Ok (front, cursor)
unfolding numbers_at
numbers_end f bytes zero front cursor none = ap (λ list. Ok (list, cursor)) (append-nil front)
numbers_end f bytes (suc left) front cursor none = absurd (omega arith)

-- ---- sixteen of them

-- so many are read, each as a value in its place, and what is left makes the whole
pub record HasNumbers {X : Type 0} (f : ℕ → X) (bytes : ℕ) (whole : Field (List X)) (now : Cursor) (k : ℕ) (values : List X) : Type 0 where
  pub count : length values ≡ 16
  pub left : after_front f (take k values) (numbers_at bytes (16 - k) now) ≡ whole

pub words_begin : (start : Cursor) (words : List ℕ) → length words ≡ 16 → HasNumbers (λ word. word) 4 (numbers_at 4 16 start) start 0 words
words_begin start words count = record { count = count; left = all_words (numbers_at 4 16 start) }
  where
    all_words : (whole : Field (List ℕ)) → after_front (λ word. word) [] whole ≡ whole
    all_words (Ok x) = ap (λ list. Ok (list, x.1)) (map-id x.0)
    all_words (Err at) = refl

pub shorts_begin : (start : Cursor) (values : List ℤ) → length values ≡ 16 → HasNumbers (cast_signed w16) 2 (shorts_at start) start 0 values
shorts_begin start values count = record { count = count; left = all_shorts (numbers_at 2 16 start) }
  where
    all_shorts : (whole : Field (List ℕ)) → after_front (cast_signed w16) [] whole ≡ (whole >>= λ numbers. Ok (map (cast_signed w16) numbers.0, numbers.1))
    all_shorts (Ok x) = refl
    all_shorts (Err at) = refl

-- one more
pub more : {X : Type 0} (f : ℕ → X) (bytes most number k : ℕ) (whole : Field (List X)) (now next : Cursor) (values : List X) (value : X) → HasNumbers f bytes whole now k values → k < 16
    → most ≡ 2 ^ (8 * bytes) - 1 → Ok (number, next) ≡ number_at bytes 0 most now → value ≡ f number → HasNumbers f bytes whole next (k + 1) (set values k value)
more f bytes most number k whole now next values value has within most_is is same =
    let count = has.count in
    let less : 16 - (k + 1) ≡ 16 - k - 1 = omega arith in
    record {
      count = length-set values k value ∙ count;
      left =
          ap (λ left. after_front f (take (k + 1) (set values k value)) (numbers_at bytes left next)) less
          ∙ ap (λ front. after_front f front (numbers_at bytes (16 - k - 1) next)) (take_more_set values k value (omega arith) ∙ ap (λ value. take k values ++ value ∷ []) same)
          ∙ sym (number_more f bytes (16 - k) most number (take k values) now next (omega arith) most_is is)
          ∙ has.left;
    }

-- one can't be read
pub stops : {X : Type 0} (f : ℕ → X) (bytes most at k : ℕ) (whole : Field (List X)) (now : Cursor) (values : List X) → HasNumbers f bytes whole now k values → k < 16
    → most ≡ 2 ^ (8 * bytes) - 1 → Err at ≡ number_at bytes 0 most now → Err at ≡ whole
stops f bytes most at k whole now values has within most_is is =
    sym (number_stops f bytes (16 - k) most at (take k values) now (omega arith) most_is is) ∙ has.left

-- all are read
pub all : {X : Type 0} (f : ℕ → X) (bytes k : ℕ) (whole : Field (List X)) (now : Cursor) (values : List X) → HasNumbers f bytes whole now k values → 16 ≤ k → Ok (values, now) ≡ whole
all f bytes k whole now values has end =
    let count = has.count in
    ap (λ list. Ok (list, now)) (sym (take_all k values (omega arith)))
    ∙ sym (numbers_end f bytes (16 - k) (take k values) now (omega arith)) ∙ has.left
