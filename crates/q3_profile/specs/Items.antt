-- The items of an array of a document.
use Rattle.std.specs.Prelude.{List, [], ◌∷◌, Option, Some}
use Rattle.toml.specs.Data.{Data, Items, no_items, item}
use Rattle.q3_bits.specs.OptionBind.{◌>>=◌}

-- each item, where all are of the type
unfoldable pub items_as : {A : Type 0} → (Data → Option A) → Items → Option (List A)
items_as type no_items = Some []
items_as type (item one others) = do
  first ← type one
  rest ← items_as type others
  Some (first ∷ rest)
