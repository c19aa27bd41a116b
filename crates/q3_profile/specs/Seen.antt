-- What the private functions answer, beside the definitions.
use Rattle.std.specs.Prelude.{◌≡◌, ◌⊎◌, List, Result, Ok, Err, MatchResult}
use Rattle.std.specs.Borrow.{Bor}
use Rattle.std.specs.Option.{ok_or}
use Rattle.toml.specs.Data.{Data, Items, Members, as_array}
use Rattle.toml.specs.View.{view, items_view}
use Rattle.toml.specs.declared.value.Value.{Value}
use Rattle.q3_bits.specs.ResultBind.{◌>>=◌}
use Rattle.q3_profile.specs.declared.error.Key.{Key}
use Rattle.q3_profile.specs.declared.error.ProfileError.{ProfileError}
use Rattle.q3_profile.specs.declared.error.ProfileError.TheVariants.{NoMemory, Kind}
use Rattle.q3_profile.specs.Document.{value_at}

-- the data of a value that is lent
abbrev pub seen : Result (Bor Value) ProfileError → Result Data ProfileError
seen (Ok value) = Ok (view value.now)
seen (Err e) = Err e

-- the whole's value or error, or want of memory
abbrev pub Gives : {A B : Type 0} → (A → B) → Result A ProfileError → Result B ProfileError → Type 0
Gives of result whole = MatchResult result (λ x. whole ≡ Ok (of x)) (λ e. (e ≡ NoMemory) ⊎ (whole ≡ Err e))

-- the items of an array under a key
abbrev pub items_at : Key → Members → Result Items ProfileError
items_at key document = do
  value ← value_at key document
  ok_or (as_array value) (Kind key)

abbrev pub seen_items : Result (Bor (List Value)) ProfileError → Result Items ProfileError
seen_items (Ok values) = Ok (items_view values.now)
seen_items (Err e) = Err e
