-- What is told of files, and what each call changes.
use Rattle.std.specs.Prelude.{◌≡◌, ◌⊎◌, ℕ, ◌+◌, ◌-◌, ◌<◌, ◌≤◌, ⊤, Bool, nat_le, min, IsTrue, if◌then◌else◌, List, [], ◌∷◌, ◌++◌, length, take, drop, slice_index, slice_index_or, slice_set, Option, Some, None, unwrap_or, IsSome, Result, Ok, Err}
use Rattle.std.specs.Str.{bytes_eq}
use Rattle.q3_io.specs.declared.sink.Failed.{Failed}
use Rattle.q3_io.specs.Faults.{last_count}
use Rattle.q3_io.specs.Written.{Added}

pub record File : Type 0 where
  pub name : List ℕ
  pub contents : List ℕ

-- the calls that are given a name
pub data Call : Type 0 where
  Lookup : Call
  Create : Call

pub record Named : Type 0 where
  pub name : List ℕ
  pub call : Call

-- the files; for each number its name and how many bytes `read_at` was asked for, also where it failed; and the names that were given
pub record Told : Type 0 where
  pub files : List File
  pub numbers : List (List ℕ)
  pub asked : List ℕ
  pub named : List Named

-- what the file of a name holds
unfoldable pub contents_of : List File → List ℕ → Option (List ℕ)
contents_of [] name = None
contents_of (file ∷ files) name = if bytes_eq file.name name then Some file.contents else contents_of files name

-- the files, where the one of this name holds these bytes
unfoldable pub with_contents : List File → List ℕ → List ℕ → List File
with_contents [] name contents = record { name = name; contents = contents } ∷ []
with_contents (file ∷ files) name contents =
    if bytes_eq file.name name then record { name = file.name; contents = contents } ∷ files else file ∷ with_contents files name contents

-- the name that a number stands for, and what its file holds
abbrev pub name_of : Told → ℕ → List ℕ
name_of told file = slice_index_or told.numbers file []

abbrev pub contents_at : Told → ℕ → List ℕ
contents_at told file = unwrap_or (contents_of told.files (name_of told file)) []

abbrev pub after_named : Told → List ℕ → Call → Told
after_named told name call = record told { named = told.named ++ record { name = name; call = call } ∷ [] }

-- one number more
abbrev pub after_given : Told → List ℕ → Told
after_given told name = record told { numbers = told.numbers ++ name ∷ []; asked = told.asked ++ 0 ∷ [] }

-- a number's count of bytes that were asked for rises, as far as 64 bits count
abbrev pub can_ask : List ℕ → ℕ → ℕ → Bool
can_ask asked file count = nat_le (slice_index asked file + count) last_count

abbrev pub with_asked : List ℕ → ℕ → ℕ → List ℕ
with_asked asked file count = if can_ask asked file count then slice_set asked file (slice_index asked file + count) else asked

abbrev pub after_asked : Told → ℕ → ℕ → Told
after_asked told file count = record told { asked = with_asked told.asked file count }

abbrev pub after_written : Told → List ℕ → List ℕ → Told
after_written told name contents = record told { files = with_contents told.files name contents }

-- a number was given, and no number is lost
abbrev pub IsGiven : ℕ → ℕ → Result ℕ Failed → Type 0
IsGiven before now (Ok file) = (before ≤ now) × (file < now)
IsGiven before now (Err e) = now ≡ before

-- at a fault the name may be missing
abbrev pub MayBeNamed : Told → Option Told → List ℕ → Call → Type 0
MayBeNamed told now name call = (now ≡ Some told) ⊎ (now ≡ Some (after_named told name call))

abbrev pub LooksUp : Option Told → Option Told → List ℕ → Result ℕ Failed → Type 0
LooksUp None now name result = now ≡ None
LooksUp (Some told) now name (Ok file) =
    IsSome (contents_of told.files name) × (file ≡ length told.numbers) × (now ≡ Some (after_given (after_named told name Lookup) name))
LooksUp (Some told) now name (Err e) = MayBeNamed told now name Lookup

abbrev pub Measures : Option Told → Option Told → ℕ → Result ℕ Failed → Type 0
Measures None now file result = now ≡ None
Measures (Some told) now file (Ok size) = (now ≡ Some told) × (size ≡ length (contents_at told file))
Measures (Some told) now file (Err e) = now ≡ Some told

-- the first bytes of the buffer are the file's from a place on; none come only at its end or into an empty buffer
pub record Gives (contents : List ℕ) (at count : ℕ) (before after : List ℕ) : Type 0 where
  pub within : count ≤ length before
  pub there : at + count ≤ length contents ⊎ (count ≡ 0)
  pub bytes : after ≡ take count (drop at contents) ++ drop count before
  pub end : count ≡ 0 → (length before ≡ 0) ⊎ (length contents ≤ at)

abbrev pub ReadsAt : Option Told → Option Told → ℕ → ℕ → List ℕ → List ℕ → Result ℕ Failed → Type 0
ReadsAt None now file at before after result = now ≡ None
ReadsAt (Some told) now file at before after (Ok count) =
    (now ≡ Some (after_asked told file (length before))) × Gives (contents_at told file) at count before after
    × IsTrue (can_ask told.asked file (length before))
ReadsAt (Some told) now file at before after (Err e) = now ≡ Some (after_asked told file (length before))

-- a read into a buffer with so much room gave all that the file has there
abbrev pub GivesAll : Option Told → ℕ → ℕ → ℕ → Result ℕ Failed → Type 0
GivesAll (Some told) file at room (Ok count) = count ≡ min room (length (contents_at told file) - at)
GivesAll told file at room result = ⊤

abbrev pub Creates : Option Told → Option Told → List ℕ → Result ℕ Failed → Type 0
Creates None now name result = now ≡ None
Creates (Some told) now name (Ok file) =
    (file ≡ length told.numbers) × (now ≡ Some (after_given (after_written (after_named told name Create) name []) name))
Creates (Some told) now name (Err e) = MayBeNamed told now name Create

-- the bytes, or at an error a front of them, stand after those of the number's file
abbrev pub Appends : Option Told → Option Told → ℕ → List ℕ → Result (Unit {0}) Failed → Type 0
Appends None now file bytes result = now ≡ None
Appends (Some told) now file bytes result =
    (added : List ℕ) × Added bytes result added × (now ≡ Some (after_written told (name_of told file) (contents_at told file ++ added)))
