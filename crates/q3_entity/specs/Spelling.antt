-- The spellings of an entity list that a reader accepts: any rising entries, each in any spelling of its delta, also
-- for an entity that is as it was.
use Rattle.std.specs.Prelude.{◌≡◌, ◌⊎◌, ℕ, ◌+◌, ◌==◌, ◌<◌, ◌≤◌, Bool, List, [], ◌∷◌, ◌++◌, find, Option, Some, None, IsSome}
use Rattle.q3_bits.specs.Words.{field_bits}
use Rattle.q3_fields.specs.Kinds.{Layout, end_mark}
use Rattle.q3_fields.specs.declared.delta.StateKind.TheVariants.{Entity}
use Rattle.q3_fields.specs.Spelling.{SpellsWords}
use Rattle.q3_entity.specs.declared.state.EntityState.{EntityState}
use Rattle.q3_entity.specs.declared.reading.Entry.{Entry}
use Rattle.q3_entity.specs.declared.reading.Entry.TheVariants.{Removed}
use Rattle.q3_entity.specs.Entities.{IsList, with_number}
use Rattle.q3_entity.specs.Baselines.{Baselines, no_baselines}
use Rattle.q3_entity.specs.Delta.{opening, removal}
use Rattle.q3_entity.specs.Lists.{words_from}

-- an entry: a number, and the entity's words, or none where it is removed
pub record Entered : Type 0 where
  pub number : ℕ
  pub words : Option (List ℕ)

-- the words of an entity that is there
abbrev pub words_there : Entry → List ℕ → Option (List ℕ)
words_there Removed words = None
words_there other words = Some words

-- an entry's text, against the words that it changed from
abbrev pub SpellsEntry : List (List Bool) → Layout → List ℕ → Entered → List Bool → Type 0
SpellsEntry words table from entry text =
    ((entry.words ≡ None) × (text ≡ removal words table entry.number))
    ⊎ ((entry.words ≡ Some from) × (text ≡ opening words table entry.number ((0, 1) ∷ (0, 1) ∷ [])))
    ⊎ ((to : List ℕ) × (delta : List Bool) × (entry.words ≡ Some to) × SpellsWords Entity words table.kinds from to delta
    × (text ≡ opening words table entry.number ((0, 1) ∷ (1, 1) ∷ []) ++ delta))

-- the entries one after the other, and the end mark
abbrev pub SpellsEntries : List (List Bool) → Layout → Baselines → List EntityState → List Entered → List Bool → Type 0
SpellsEntries words table baselines base [] text = text ≡ field_bits words table.number_bits (end_mark table)
SpellsEntries words table baselines base (entry ∷ entries) text =
    (first : List Bool) × (rest : List Bool) × (text ≡ first ++ rest)
    × SpellsEntry words table (words_from baselines entry.number (with_number entry.number base)) entry first
    × SpellsEntries words table baselines base entries rest

-- the numbers of entries rise, from least on, and stay below a limit
abbrev pub EntriesRise : ℕ → ℕ → List Entered → Type 0
EntriesRise limit least [] = Unit {0}
EntriesRise limit least (entry ∷ entries) = (least ≤ entry.number) × (entry.number < limit) × EntriesRise limit (entry.number + 1) entries

-- only what the base has is removed
abbrev pub RemoveFrom : List EntityState → List Entered → Type 0
RemoveFrom base [] = Unit {0}
RemoveFrom base (entry ∷ entries) = ((entry.words ≡ None) → IsSome (with_number entry.number base)) × RemoveFrom base entries

-- the state of a number after the entries: that of its entry, if it has one, else that of the base
abbrev pub state_after : Option EntityState → ℕ → Option Entered → Option EntityState
state_after from number None = from
state_after from number (Some entry) = entered_state entry.words
  where
    entered_state : Option (List ℕ) → Option EntityState
    entered_state None = None
    entered_state (Some words) = Some (record { number = number; words = words })

-- the text spells the entities `now` against those of a base
pub record SpellsList (words : List (List Bool)) (table : Layout) (baselines : Baselines) (base now : List EntityState) (text : List Bool) : Type 0 where
  pub entries : List Entered
  pub rise : EntriesRise (end_mark table) 0 entries
  pub removes : RemoveFrom base entries
  pub spells : SpellsEntries words table baselines base entries text
  pub list : IsList table now
  pub states : (number : ℕ) → with_number number now ≡ state_after (with_number number base) number (find (λ entry. entry.number == number) entries)

-- the text spells a list whose base isn't there: any rising entries, each against the zero state
pub record SpellsSkipped (words : List (List Bool)) (table : Layout) (text : List Bool) : Type 0 where
  pub entries : List Entered
  pub rise : EntriesRise (end_mark table) 0 entries
  pub spells : SpellsEntries words table no_baselines [] entries text
