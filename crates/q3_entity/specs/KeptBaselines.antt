-- How baselines are kept: at which place each number's state stands, and the states that are set.
use Rattle.std.specs.Prelude.{◌≡◌, ◌⊎◌, ℕ, ◌+◌, ◌<◌, ◌≤◌, ◌==◌, if◌then◌else◌, List, [], ◌∷◌, length, map, replicate, All, slice_get, slice_index_or}
use Rattle.q3_entity.specs.declared.state.EntityState.{EntityState}
use Rattle.q3_entity.specs.Entities.{zero_entity}
use Rattle.q3_entity.specs.Baselines.{Baselines, most_baselines}

-- the place of a number that has no state: fewer states are set, so none stands there
abbrev pub nowhere : ℕ
nowhere = 65535

-- so many numbers, of which none has a place
unfoldable pub unplaced : ℕ → List ℕ
unplaced count = replicate count nowhere

-- for each number the state at its place, if one stands there
abbrev pub baselines_in : List ℕ → List EntityState → Baselines
baselines_in places states = map (slice_get states) places

-- a number has no place, or that of its own state
abbrev pub IsPlaced : List EntityState → ℕ → ℕ → Type 0
IsPlaced states number place = (place ≡ nowhere) ⊎ ((place < length states) × ((slice_index_or states place (zero_entity 0)).number ≡ number))

-- how many numbers have a place
unfoldable pub count_placed : List ℕ → ℕ
count_placed [] = 0
count_placed (place ∷ places) = (if place == nowhere then 0 else 1) + count_placed places

-- each number has its own state's place, or none, and there are as many states as numbers with a place
pub record AreKept (places : List ℕ) (states : List EntityState) : Type 0 where
  pub all : length places ≡ most_baselines
  pub placed : (number : ℕ) → number < most_baselines → IsPlaced states number (slice_index_or places number nowhere)
  pub below : All (λ state. state.number < most_baselines) states
  pub count : length states ≡ count_placed places
