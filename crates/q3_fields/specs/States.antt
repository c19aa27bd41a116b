-- The words of a state, and their normal form over a table.
use Rattle.std.specs.Prelude.{◌≡◌, ℕ, ◌^◌, ◌<◌, List, [], ◌∷◌, length, All}
use Rattle.q3_fields.specs.declared.kind.Kind.{Kind}
use Rattle.q3_fields.specs.Kinds.{norm}

-- so many words of 32 bits
pub record AreWords (places : ℕ) (words : List ℕ) : Type 0 where
  pub count : length words ≡ places
  pub each : All (λ word. word < 2 ^ 32) words

-- each word in the normal form of its field, and 0 after the table's fields
unfoldable pub normal_words : List Kind → List ℕ → List ℕ
normal_words (kind ∷ table) (word ∷ words) = norm kind word ∷ normal_words table words
normal_words [] (word ∷ words) = 0 ∷ normal_words [] words
normal_words table [] = []
