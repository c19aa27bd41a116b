-- Texts that lie one after the other in memory.
use Rattle.std.specs.Prelude.{◌≡◌, ◌≤◌, ℕ, ◌+◌, List, [], ◌∷◌, ◌++◌, length, map, take, drop, slice_index, slice_index_or, slice_set}
use Rattle.std.specs.List.{concat}

-- the texts, how many more there may be, and for how many bytes more there is room
pub record TextsState : Type 0 where
  pub texts : List (List ℕ)
  pub spare : ℕ
  pub room : ℕ

-- texts of these lengths, cut from bytes
unfoldable pub texts_of : List ℕ → List ℕ → List (List ℕ)
texts_of [] bytes = []
texts_of (count ∷ counts) bytes = take count bytes ∷ texts_of counts (drop count bytes)

-- the bytes are those of the texts and no others
pub record LieInTurn (lengths bytes : List ℕ) : Type 0 where
  pub bytes_are : concat (texts_of lengths bytes) ≡ bytes
  pub lengths_are : map length (texts_of lengths bytes) ≡ lengths

-- texts of these lengths in these bytes
pub record AreCutFrom (texts : List (List ℕ)) (lengths bytes : List ℕ) : Type 0 where
  pub lie : LieInTurn lengths bytes
  pub same : texts_of lengths bytes ≡ texts

-- the text at a place starts here, and what stands when it is taken away or bytes are put after it
pub record StartsAt (lengths bytes : List ℕ) (place start : ℕ) : Type 0 where
  pub within : start + slice_index lengths place ≤ length bytes
  pub count : length (slice_index_or (texts_of lengths bytes) place []) ≡ slice_index lengths place
  pub text : take (slice_index lengths place) (drop start bytes) ≡ slice_index_or (texts_of lengths bytes) place []
  pub cleared : AreCutFrom (slice_set (texts_of lengths bytes) place []) (slice_set lengths place 0)
      (take start bytes ++ drop (start + slice_index lengths place) bytes)
  pub added : (more : List ℕ) → AreCutFrom (slice_set (texts_of lengths bytes) place (slice_index_or (texts_of lengths bytes) place [] ++ more))
      (slice_set lengths place (slice_index lengths place + length more))
      (take (start + slice_index lengths place) bytes ++ more ++ drop (start + slice_index lengths place) bytes)
