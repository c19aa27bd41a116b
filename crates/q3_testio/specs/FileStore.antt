-- Files in memory, by their names, and the room that is left for more.
use Rattle.std.specs.Prelude.{◌≡◌, ◌<◌, ℕ, ◌+◌, ◌-◌, Bool, ◌&&◌, ◌||◌, nat_le, nat_lt, min, if◌then◌else◌, List, [], ◌∷◌, ◌++◌, length, slice_index_or, slice_set, Some, unwrap_or, is_some}
use Rattle.q3_io.specs.Told.{File, contents_of, with_contents}

-- what stands past the last file
abbrev pub no_file : File
no_file = record { name = []; contents = [] }

-- the files, how many more there may be, and for how many bytes more there is room
pub record StoreState : Type 0 where
  pub files : List File
  pub spare : ℕ
  pub room : ℕ

-- what the file of a name holds, and nothing where there is none
abbrev pub held : StoreState → List ℕ → List ℕ
held store name = unwrap_or (contents_of store.files name) []

-- the room that a file of this name takes with so many bytes: that of its name is taken once
abbrev pub needed : StoreState → List ℕ → ℕ → ℕ
needed store name count = if is_some (contents_of store.files name) then count else length name + count

abbrev pub has_room : StoreState → List ℕ → ℕ → Bool
has_room store name count =
    nat_le (needed store name count) store.room && (is_some (contents_of store.files name) || nat_lt 0 store.spare)

-- the file of this name holds these bytes, and so much room is taken
abbrev pub after_put : StoreState → List ℕ → List ℕ → ℕ → StoreState
after_put store name bytes count = record {
  files = with_contents store.files name bytes;
  spare = if is_some (contents_of store.files name) then store.spare else store.spare - 1;
  room = store.room - needed store name count;
}

abbrev pub can_add : StoreState → List ℕ → List ℕ → Bool
can_add store name bytes = is_some (contents_of store.files name) && nat_le (length bytes) store.room

abbrev pub after_add : StoreState → List ℕ → List ℕ → StoreState
after_add store name bytes =
    record store { files = with_contents store.files name (held store name ++ bytes); room = store.room - length bytes }

-- how many bytes a read from a place on gives
abbrev pub read_count : List ℕ → ℕ → List ℕ → ℕ
read_count contents at into = min (length into) (length contents - at)

-- files by their names and contents
unfoldable pub files_of : List (List ℕ) → List (List ℕ) → List File
files_of (name ∷ names) (text ∷ texts) = record { name = name; contents = text } ∷ files_of names texts
files_of [] texts = []
files_of names [] = []

-- the file at a place
abbrev pub file_at : List File → ℕ → File
file_at files place = slice_index_or files place no_file

-- the file at a place holds these bytes
abbrev pub with_contents_at : List File → ℕ → List ℕ → List File
with_contents_at files place contents = slice_set files place (record (file_at files place) { contents = contents })

-- the file of this name stands at this place
pub record StandsAt (files : List File) (name : List ℕ) (place : ℕ) : Type 0 where
  pub within : place < length files
  pub contents : contents_of files name ≡ Some (file_at files place).contents
  pub put : (bytes : List ℕ) → with_contents files name bytes ≡ with_contents_at files place bytes
