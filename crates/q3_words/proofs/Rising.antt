-- The leading fields of a letter, taken one after the other.
use Rattle.std.proofs.Common.{◌≡◌, ℕ, ◌+◌, List, [], ◌∷◌, set, Option, Some, None}
use Rattle.q3_fields.specs.Places.{Change, with_changes}
use Rattle.q3_words.specs.Words.{next_of}
use Rattle.q3_words.specs.Fields.{field_at, Fields, fields_at}
use Rattle.q3_words.proofs.Spaces.{some_next, none_next, next_of_some, next_of_none}

abbrev no_field : Option Change
no_field = None

abbrev some_field : Change → Option Change
some_field field = Some field

-- the fields that are left, put over the values so far, are all fields put over the first values; and what is left after them is the same
pub record Reached (letter : List ℕ) (limit least : ℕ) (values : List ℕ) (left : List (List ℕ)) (start : List ℕ) (total : Fields) : Type 0 where
  pub put : with_changes values (fields_at letter limit least left).fields ≡ with_changes start total.fields
  pub after : (fields_at letter limit least left).left ≡ total.left

-- and these are all
pub record Ended (values : List ℕ) (left : List (List ℕ)) (start : List ℕ) (total : Fields) : Type 0 where
  pub put : values ≡ with_changes start total.fields
  pub after : left ≡ total.left

-- with no word left they end
pub ends : {letter : List ℕ} {limit least : ℕ} {values : List ℕ} {left : List (List ℕ)} {start : List ℕ} {total : Fields} → Reached letter limit least values left start total → none_next ≡ next_of left → Ended values left start total
unfolding fields_at with_changes
ends {left} reached none =
    let e : left ≡ [] = next_of_none left none in
    record { put = rw e at reached.put; after = rw e (rw e at reached.after) }

-- and so they do at a word that is none
pub stops : {letter : List ℕ} {limit least : ℕ} {values : List ℕ} {left : List (List ℕ)} {start : List ℕ} {total : Fields} → Reached letter limit least values left start total
    → (word : List ℕ) (others : List (List ℕ)) → some_next (word, others) ≡ next_of left → no_field ≡ field_at letter limit least word → Ended values left start total
unfolding fields_at with_changes
stops {left} reached word others next none =
    let e : left ≡ word ∷ others = next_of_some word others left next in
    record { put = rw (e, ← none) at reached.put; after = rw e (rw (e, ← none) at reached.after) }

-- with a field they go on after it
pub goes_on : {letter : List ℕ} {limit least : ℕ} {values : List ℕ} {left : List (List ℕ)} {start : List ℕ} {total : Fields} → Reached letter limit least values left start total
    → (word : List ℕ) (others : List (List ℕ)) (index value : ℕ) → some_next (word, others) ≡ next_of left → some_field (index, value) ≡ field_at letter limit least word → Reached letter limit (index + 1) (set values index value) others start total
unfolding fields_at with_changes
goes_on {left} reached word others index value next some =
    let e : left ≡ word ∷ others = next_of_some word others left next in
    record { put = rw (e, ← some) at reached.put; after = rw (e, ← some) at reached.after }
