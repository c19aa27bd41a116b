-- What the messages that were applied left, as it is printed.
use Rattle.std.specs.Prelude.{ℕ, zero, suc, ◌+◌, List, [], ◌∷◌, ◌++◌, codes, decimal, Option, Some, None}
use Rattle.std.specs.List.{concat, flat_map}
use Rattle.q3_io.specs.Quoted.{quoted}
use Rattle.q3_config.specs.Strings.{Pending}
use Rattle.q3_entity.specs.declared.state.EntityState.{EntityState}
use Rattle.q3_entity.specs.Report.{fields_text}
use Rattle.q3_rings.specs.Rings.{HeldSnapshot, HeldSnapshots}
use Rattle.q3_rings.specs.ByNumber.{held_under}
use Rattle.q3_clstate.specs.State.{AppliedState}
use Rattle.q3_clstate.specs.Report.{snapshot_text}

-- the first line: how many records were played
abbrev pub count_text : ℕ → List ℕ
count_text records = concat (codes "state " ∷ decimal records ∷ codes "\n" ∷ [])

-- what the last gamestate told, and the number of the last command executed
abbrev pub map_text : AppliedState → List ℕ
map_text state =
    concat (codes "+ id " ∷ decimal state.id ∷ codes " slot " ∷ decimal state.slot ∷ codes " feed " ∷ decimal state.feed
    ∷ codes " command " ∷ decimal state.executed.executed ∷ codes "\n" ∷ [])

-- a line of a text at an index
abbrev pub indexed_text : List ℕ → ℕ → List ℕ → List ℕ
indexed_text word index text = concat (codes "+ " ∷ word ∷ codes " " ∷ decimal index ∷ codes " " ∷ quoted text ∷ codes "\n" ∷ [])

-- the text that is pending, if one is
abbrev pub pending_text : Option Pending → List ℕ
pending_text None = []
pending_text (Some pending) = indexed_text (codes "pending") pending.index pending.text

-- a config string, unless it is empty
abbrev pub config_text : ℕ → List ℕ → List ℕ
config_text index [] = []
config_text index text = indexed_text (codes "config") index text

-- the config strings from an index on
unfoldable pub configs_text : ℕ → List (List ℕ) → List ℕ
configs_text index [] = []
configs_text index (text ∷ texts) = config_text index text ++ configs_text (index + 1) texts

-- a baseline, if it is set
abbrev pub baseline_text : Option EntityState → List ℕ
baseline_text None = []
baseline_text (Some state) = concat (codes "+ baseline " ∷ decimal state.number ∷ fields_text state.words ∷ codes "\n" ∷ [])

-- the line of a snapshot that is held
abbrev pub held_text : Option HeldSnapshot → List ℕ
held_text None = []
held_text (Some held) = concat (codes "+ held " ∷ decimal held.snapshot.head.number ∷ codes " " ∷ decimal held.age ∷ codes "\n" ∷ [])

-- the lines of those up to a number, by rising number
unfoldable pub held_texts : HeldSnapshots → ℕ → List ℕ
held_texts snapshots zero = []
held_texts snapshots (suc number) = held_texts snapshots number ++ held_text (held_under snapshots (suc number))

-- the newest snapshot, if one was accepted
abbrev pub newest_text : Option HeldSnapshot → List ℕ
newest_text None = []
newest_text (Some held) = codes "+" ++ snapshot_text held.snapshot

-- all that so many records left
abbrev pub state_text : AppliedState → ℕ → List ℕ
state_text state records =
    concat (count_text records ∷ map_text state ∷ pending_text state.strings.pending ∷ configs_text 0 state.strings.texts ∷ flat_map baseline_text state.baselines
    ∷ held_texts state.held state.held.newest ∷ newest_text (held_under state.held state.held.newest) ∷ [])
