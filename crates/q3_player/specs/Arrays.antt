-- The arrays of a player: what changed in one is a finite map from places to values, by rising place.
use Rattle.std.specs.Prelude.{ℕ, ◌+◌, ◌^◌, ◌==◌, if◌then◌else◌, List, [], ◌∷◌}
use Rattle.q3_fields.specs.Places.{Change}
use Rattle.q3_fields.specs.declared.kind.Kind.{Kind}
use Rattle.q3_player.specs.declared.state.PlayerState.{PlayerState}
use Rattle.q3_player.specs.State.{array_kinds, arrays_of}

-- what changed, counted from a place on
unfoldable pub changes_from : ℕ → List ℕ → List ℕ → List Change
changes_from place (x ∷ from) (y ∷ to) =
    if x == y then changes_from (place + 1) from to else (place, y) ∷ changes_from (place + 1) from to
changes_from place from to = []

-- what changed from one array to another
abbrev pub changes : List ℕ → List ℕ → List Change
changes from to = changes_from 0 from to

-- what changed in each array, with the kind of its values
unfoldable pub arrays_changed : List Kind → List (List ℕ) → List (List ℕ) → List (Kind × List Change)
arrays_changed (kind ∷ kinds) (x ∷ from) (y ∷ to) = (kind, changes x y) ∷ arrays_changed kinds from to
arrays_changed kinds from to = []

abbrev pub player_changes : PlayerState → PlayerState → List (Kind × List Change)
player_changes from to = arrays_changed array_kinds (arrays_of from) (arrays_of to)

-- the mask of the places: a bit for each
unfoldable pub mask_of : List Change → ℕ
mask_of [] = 0
mask_of (change ∷ others) = 2 ^ change.0 + mask_of others
