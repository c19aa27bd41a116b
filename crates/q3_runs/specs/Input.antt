-- The files of a run: what it reads of each, which names it gives, and what it leaves.
use Rattle.std.specs.Prelude.{◌≡◌, ◌≢◌, ◌⊎◌, ℕ, ◌+◌, ◌*◌, ◌==◌, ◌||◌, ◌≤◌, ⊤, Bool, if◌then◌else◌, List, [], ◌∷◌, ◌++◌, length, map, count_by, slice_index, Option, Some, None, Result, Ok, Err}
use Rattle.std.specs.Str.{bytes_eq}
use Rattle.std.specs.Global.{Vec}
use Rattle.q3_demo.specs.Running.{HasFrom}
use Rattle.q3_io.specs.declared.sink.Failed.{Failed}
use Rattle.q3_io.specs.Acts.{FileAct, Makes, Extends, after_acts}
use Rattle.q3_io.specs.Told.{Told, Named, Lookup, Create, contents_of, contents_at}
use Rattle.q3_runs.specs.declared.fault.Fault.{Fault}
use Rattle.q3_runs.specs.declared.fault.Fault.TheVariants.{NoMemory, Read}
use Rattle.q3_runs.specs.Faults.{IsEarly}

abbrev pub IsFront : {A : Type 0} → List A → List A → Type 0
IsFront {A} front whole = (rest : List A) × (front ++ rest ≡ whole)

-- ---- what is read

-- where it is told, the file of a name holds this, or there is no such file; else it may be anything
abbrev pub Holds : Option Told → List ℕ → Option (List ℕ) → Type 0
Holds (Some told) name file = contents_of told.files name ≡ file
Holds None name file = Unit {0}

-- a front of the contents, and all of them unless it is longer than the limit
abbrev pub ReadsFront : ℕ → List ℕ → List ℕ → Type 0
ReadsFront most contents bytes = (rest : List ℕ) × (bytes ++ rest ≡ contents) × (length bytes ≤ most → rest ≡ [])

-- an answer with the bytes of its vector
abbrev pub with_items : Result (Vec ℕ) Fault → Result (List ℕ) Fault
with_items (Ok bytes) = Ok bytes.items
with_items (Err e) = Err e

-- the file of a name was read up to the limit, unless memory ran out or a read failed
abbrev pub ReadsFile : ℕ → List ℕ → Option Told → Result (List ℕ) Fault → Type 0
ReadsFile most name told (Ok bytes) = (contents : List ℕ) × Holds told name (Some contents) × ReadsFront most contents bytes
ReadsFile most name told (Err e) = (e ≡ NoMemory) ⊎ (e ≡ Read)

-- the file of a name was looked up: where it is told, its number holds what the name does
abbrev pub Finds : List ℕ → Option Told → Option Told → Result ℕ Fault → Type 0
Finds name told now (Ok file) = (contents : List ℕ) → HasFrom now file 0 contents → Holds told name (Some contents)
Finds name told now (Err e) = e ≡ Read

-- a call of files that answers a number, its fault aside
abbrev pub as_told : Result ℕ Fault → Result ℕ Failed
as_told (Ok file) = Ok file
as_told (Err e) = Err (record {})

-- of a file that was looked up: what is asked for grows, and nothing else changes
abbrev pub ReadsWhole : ℕ → List ℕ → Result (List ℕ) Fault → Type 0
ReadsWhole most contents (Ok bytes) = ReadsFront most contents bytes
ReadsWhole most contents (Err e) = (e ≡ NoMemory) ⊎ (e ≡ Read)

abbrev pub ReadsPieces : ℕ → ℕ → Option Told → Option Told → Result (List ℕ) Fault → Type 0
ReadsPieces most file None now result = (now ≡ None) × (contents : List ℕ) × ReadsWhole most contents result
ReadsPieces most file (Some told) now result =
    (asked : List ℕ) × (now ≡ Some (record told { asked = asked })) × ReadsWhole most (contents_at told file) result

-- ---- what is asked of the file of a name

-- how many bytes of it were asked for by the numbers from this one on that stand for the name
unfoldable pub asked_from : ℕ → List (List ℕ) → List ℕ → List ℕ → ℕ
asked_from file [] asked name = 0
asked_from file (called ∷ others) asked name =
    (if bytes_eq called name then slice_index asked file else 0) + asked_from (file + 1) others asked name

-- and by all, where it is told
abbrev pub asked_by_name : Option Told → List ℕ → ℕ
asked_by_name None name = 0
asked_by_name (Some told) name = asked_from 0 told.numbers told.asked name

-- nothing was asked for by a number that isn't given
abbrev pub IsCounted : Option Told → Type 0
IsCounted None = ⊤
IsCounted (Some told) = (file : ℕ) → length told.numbers ≤ file → slice_index told.asked file ≡ 0

-- only of the file of a name more was asked for, where nothing was asked for by a number that isn't given, and so it stays
abbrev pub AsksOfName : List ℕ → Option Told → Option Told → Type 0
AsksOfName name told now = IsCounted told → IsCounted now × ((other : List ℕ) → other ≢ name → asked_by_name now other ≡ asked_by_name told other)

-- ---- what a profile's document may take

-- a byte that may begin a table, `.`, `[` or `{`, and one that may end a key, `=`
abbrev pub may_begin_table : ℕ → Bool
may_begin_table byte = byte == 46 || byte == 91 || byte == 123

abbrev pub may_end_key : ℕ → Bool
may_end_key byte = byte == 61

-- how many bytes of memory its tables and its keys may take
abbrev pub document_memory : List ℕ → ℕ
document_memory bytes = 1280 * count_by may_begin_table bytes + 224 * count_by may_end_key bytes

-- and how many they may at most
abbrev pub most_memory : ℕ
most_memory = 33554432

-- ---- what becomes of the files

abbrev pub looked_up : List ℕ → Named
looked_up name = record { name = name; call = Lookup }

-- the names of the files that are made
unfoldable pub created : List FileAct → List Named
created [] = []
created (Makes name ∷ acts) = record { name = name; call = Create } ∷ created acts
created (Extends name bytes ∷ acts) = created acts

-- these names were given, each with its call, in this order; the files are as these acts leave them
pub record Leaves (told now : Told) (names : List Named) (acts : List FileAct) : Type 0 where
  pub named : now.named ≡ told.named ++ names
  pub files : now.files ≡ (after_acts told acts).files

-- the same where the files are told
abbrev pub LeavesTold : Option Told → Option Told → List Named → List FileAct → Type 0
LeavesTold None now named acts = now ≡ None
LeavesTold (Some told) now named acts = (after : Told) × (now ≡ Some after) × Leaves told after named acts

-- of acts the first ones; of the last of these, where it puts bytes after those of a file, maybe a front of the bytes
abbrev pub AreBegun : List FileAct → List FileAct → Type 0
AreBegun begun acts =
    IsFront begun acts
    ⊎ ((first : List FileAct) × (name : List ℕ) × (added : List ℕ) × (bytes : List ℕ) × (begun ≡ first ++ Extends name added ∷ [])
    × IsFront added bytes × IsFront (first ++ Extends name bytes ∷ []) acts)

-- only the first of the names, so many, maybe none, and of the acts as many as were done by then
abbrev pub LeavesFirst : Option Told → Option Told → List Named → List FileAct → Type 0
LeavesFirst told now named acts =
    (first : List Named) × (begun : List FileAct) × IsFront first named × AreBegun begun acts × LeavesTold told now first begun

-- all of this, or, where something from outside ended it early, the first of it
abbrev pub Touches : {A : Type 0} → Result A Fault → List Named → List FileAct → Option Told → Option Told → Type 0
Touches ended named acts told now = LeavesTold told now named acts ⊎ (IsEarly ended × LeavesFirst told now named acts)

-- these names were given to `lookup`, once each and in this order; nothing was made, and every file stays
abbrev pub LooksUpTold : Option Told → Option Told → List (List ℕ) → Type 0
LooksUpTold told now names = LeavesTold told now (map looked_up names) []

-- or the first of them
abbrev pub LooksUpFirst : Option Told → Option Told → List (List ℕ) → Type 0
LooksUpFirst told now names = LeavesFirst told now (map looked_up names) []

-- all of them, or, where something from outside ended it early, the first
abbrev pub Gives : {A : Type 0} → Result A Fault → List (List ℕ) → Option Told → Option Told → Type 0
Gives ended names told now = LooksUpTold told now names ⊎ (IsEarly ended × LooksUpFirst told now names)
