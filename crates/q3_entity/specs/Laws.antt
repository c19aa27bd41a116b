-- Laws of entity deltas and lists.
use Rattle.std.specs.Prelude.{◌≡◌, ◌≢◌, ℕ, ◌<◌, Bool, true, List, [], ◌++◌, map, Some, Ok}
use Rattle.q3_bits.specs.Words.{IsCode, field_bits, field_at}
use Rattle.q3_fields.specs.Kinds.{Layout, IsTable, end_mark}
use Rattle.q3_fields.specs.States.{AreWords, normal_words}
use Rattle.q3_entity.specs.declared.state.EntityState.{EntityState}
use Rattle.q3_entity.specs.declared.reading.Entry.{Entry}
use Rattle.q3_entity.specs.declared.reading.Entry.TheVariants.{Removed}
use Rattle.q3_entity.specs.Entities.{zero_entity, normal_entity, IsNormal, IsList, Rises, AreStates, AreNormal}
use Rattle.q3_entity.specs.Baselines.{Baselines, AreBaselines, no_baselines, with_baseline}
use Rattle.q3_entity.specs.Delta.{entity_delta, entry_of, removal, entity_at}
use Rattle.q3_entity.specs.Lists.{entity_list_bits, entity_list_at, list_skipped}
use Rattle.q3_entity.specs.Spelling.{Entered, words_there, SpellsEntry, SpellsList, SpellsSkipped}

-- the normal form of a state is a state, in normal form; so is the zero state
abbrev pub NormalIsNormal : Type 0
NormalIsNormal = (table : Layout) (entity : EntityState) → IsTable table → AreWords 64 entity.words
    → AreWords 64 (normal_entity table entity).words × IsNormal table (normal_entity table entity)

abbrev pub ZeroIsNormal : Type 0
ZeroIsNormal = (table : Layout) (number : ℕ) → IsTable table → AreWords 64 (zero_entity number).words × IsNormal table (zero_entity number)

-- a list rises, so another may be read against it
abbrev pub ListRises : Type 0
ListRises = (table : Layout) (entities : List EntityState) → IsTable table → IsList table entities → Rises entities

-- where none is set they are baselines, and so they are with a state in normal form set
abbrev pub NoneAreBaselines : Type 0
NoneAreBaselines = (table : Layout) → AreBaselines table no_baselines

abbrev pub BaselineIsAdded : Type 0
BaselineIsAdded = (table : Layout) (baselines : Baselines) (state : EntityState) → AreBaselines table baselines → state.number < end_mark table
    → AreWords 64 state.words → IsNormal table state → AreBaselines table (with_baseline baselines state)

-- what is written of an entity against a state in normal form is read back: its number, and after it the words in
-- normal form, as those of an entity that is the same exactly where no word changed
abbrev pub EntityWrittenIsRead : Type 0
EntityWrittenIsRead = (words : List (List Bool)) (table : Layout) (from to : EntityState) (force : Bool) (rest : List Bool) → IsCode words → IsTable table
    → AreWords 64 from.words → IsNormal table from → AreWords 64 to.words → to.number < end_mark table
    → entity_delta words table from to force ≢ []
    → (left : List Bool) × (field_at words table.number_bits (entity_delta words table from to force ++ rest) ≡ Ok (to.number, left))
    × (entity_at words table from.words left ≡ Ok ((entry_of table from to, (normal_entity table to).words), rest))

-- and so is a removal
abbrev pub RemovalIsRead : Type 0
RemovalIsRead = (words : List (List Bool)) (table : Layout) (number : ℕ) (from : List ℕ) (rest : List Bool) → IsCode words → IsTable table
    → number < end_mark table
    → (left : List Bool) × (field_at words table.number_bits (removal words table number ++ rest) ≡ Ok (number, left))
    × (entity_at words table from left ≡ Ok ((Removed, from), rest))

-- what is written of an entity by force, against a state in normal form, spells its entry, in normal form
abbrev pub ForcedIsSpelled : Type 0
ForcedIsSpelled = (words : List (List Bool)) (table : Layout) (from to : EntityState) → IsCode words → IsTable table
    → AreWords 64 from.words → IsNormal table from → AreWords 64 to.words
    → SpellsEntry words table from.words (record { number = to.number; words = Some (normal_entity table to).words }) (entity_delta words table from to true)

-- what is read after a number was spelled so, and its words are in normal form where those that it changed from are
abbrev pub EntryReadIsSpelled : Type 0
EntryReadIsSpelled = (words : List (List Bool)) (table : Layout) (from to : List ℕ) (kind : Entry) (number : ℕ) (bits rest : List Bool) → IsCode words
    → IsTable table → AreWords 64 from → entity_at words table from bits ≡ Ok ((kind, to), rest)
    → AreWords 64 to × (normal_words table.kinds from ≡ from → normal_words table.kinds to ≡ to) × (own : List Bool) × (bits ≡ own ++ rest)
    × SpellsEntry words table from (record { number = number; words = words_there kind to }) (field_bits words table.number_bits number ++ own)

-- an entry that is spelled so is read: its number, and what stands after it, with whatever follows
abbrev pub EntrySpelledIsRead : Type 0
EntrySpelledIsRead = (words : List (List Bool)) (table : Layout) (from : List ℕ) (entry : Entered) (text rest : List Bool) → IsCode words → IsTable table
    → AreWords 64 from → entry.number < end_mark table → SpellsEntry words table from entry text
    → (left : List Bool) × (kind : Entry) × (to : List ℕ) × (words_there kind to ≡ entry.words)
    × (field_at words table.number_bits (text ++ rest) ≡ Ok (entry.number, left)) × (entity_at words table from left ≡ Ok ((kind, to), rest))

-- what is written of a list against a base and baselines in normal form spells the entities in normal form
abbrev pub ListIsSpelled : Type 0
ListIsSpelled = (words : List (List Bool)) (table : Layout) (baselines : Baselines) (base now : List EntityState) → IsCode words → IsTable table
    → AreBaselines table baselines → IsList table base → AreStates base → AreNormal table base → IsList table now → AreStates now
    → SpellsList words table baselines base (map (normal_entity table) now) (entity_list_bits words table baselines base now)

-- what is read was spelled so, and is in normal form where the base and the baselines are
abbrev pub ListReadIsSpelled : Type 0
ListReadIsSpelled = (words : List (List Bool)) (table : Layout) (baselines : Baselines) (base now : List EntityState) (bits rest : List Bool) → IsCode words
    → IsTable table → AreBaselines table baselines → IsList table base → AreStates base → entity_list_at words table baselines base bits ≡ Ok (now, rest)
    → AreStates now × (AreNormal table base → AreNormal table now)
    × (text : List Bool) × (bits ≡ text ++ rest) × SpellsList words table baselines base now text

-- what is spelled so is read, with whatever follows it: so where a reader refuses, no front of the bits is spelled so
abbrev pub ListSpelledIsRead : Type 0
ListSpelledIsRead = (words : List (List Bool)) (table : Layout) (baselines : Baselines) (base now : List EntityState) (text rest : List Bool) → IsCode words
    → IsTable table → AreBaselines table baselines → IsList table base → AreStates base → SpellsList words table baselines base now text
    → entity_list_at words table baselines base (text ++ rest) ≡ Ok (now, rest)

-- what is written against a base and baselines in normal form is read back as the entities in normal form, with whatever
-- follows it
abbrev pub ListWrittenIsRead : Type 0
ListWrittenIsRead = (words : List (List Bool)) (table : Layout) (baselines : Baselines) (base now : List EntityState) (rest : List Bool) → IsCode words
    → IsTable table → AreBaselines table baselines → IsList table base → AreStates base → AreNormal table base → IsList table now → AreStates now
    → entity_list_at words table baselines base (entity_list_bits words table baselines base now ++ rest) ≡ Ok (map (normal_entity table) now, rest)

-- what is read as a list is skipped to the same place
abbrev pub ReadIsSkipped : Type 0
ReadIsSkipped = (words : List (List Bool)) (table : Layout) (baselines : Baselines) (base now : List EntityState) (bits rest : List Bool) → IsTable table
    → AreBaselines table baselines → AreStates base → entity_list_at words table baselines base bits ≡ Ok (now, rest) → list_skipped words table bits ≡ Ok (tt, rest)

-- what is skipped was spelled so, and what is spelled so is skipped, with whatever follows it
abbrev pub SkippedIsSpelled : Type 0
SkippedIsSpelled = (words : List (List Bool)) (table : Layout) (bits rest : List Bool) → IsCode words → IsTable table
    → list_skipped words table bits ≡ Ok (tt, rest) → (text : List Bool) × (bits ≡ text ++ rest) × SpellsSkipped words table text

abbrev pub SpelledIsSkipped : Type 0
SpelledIsSkipped = (words : List (List Bool)) (table : Layout) (text rest : List Bool) → IsCode words → IsTable table
    → SpellsSkipped words table text → list_skipped words table (text ++ rest) ≡ Ok (tt, rest)
