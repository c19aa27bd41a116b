-- Files in memory: what each call answers, and what stands after it.
use Rattle.std.specs.Prelude.{ℕ, ◌-◌, Bool, not, ◌&&◌, nat_le, nat_lt, if◌then◌else◌, List, [], ◌++◌, length, is_some}
use Rattle.q3_io.specs.Told.{Told, Lookup, Create, contents_of, name_of, contents_at, after_named, after_given, can_ask, after_asked, after_written}
use Rattle.q3_testio.specs.MemoryCalls.{MadeCalls, one_more, next_fails, after_call}
use Rattle.q3_testio.specs.FileStore.{StoreState, has_room, after_put}
use Rattle.q3_testio.specs.FileNumbers.{NumbersState}

-- what is told, the room that is left in bytes, files and numbers, the calls, and the counts of faults
pub record FilesState : Type 0 where
  pub told : Told
  pub room : ℕ
  pub files : ℕ
  pub numbers : ℕ
  pub calls : MadeCalls
  pub faults : ℕ
  pub write_faults : ℕ

-- what stands where the files, their numbers and the calls are these
abbrev pub files_state : StoreState → NumbersState → MadeCalls → ℕ → ℕ → FilesState
files_state store numbers calls faults write_faults = record {
  told = record { files = store.files; numbers = numbers.numbers; asked = numbers.asked; named = numbers.named };
  room = store.room;
  files = store.spare;
  numbers = numbers.spare;
  calls = calls;
  faults = faults;
  write_faults = write_faults;
}

-- no files yet, with room for so many, for so many bytes and for so many numbers
abbrev pub no_files : ℕ → ℕ → ℕ → List ℕ → FilesState
no_files files room numbers fails = record {
  told = record { files = []; numbers = []; asked = []; named = [] };
  room = room;
  files = files;
  numbers = numbers;
  calls = record { made = 0; fails = fails };
  faults = 0;
  write_faults = 0;
}

-- the files, and the room for more
abbrev pub store_of : FilesState → StoreState
store_of state = record { files = state.told.files; spare = state.files; room = state.room }

-- after a fault nothing else has changed
abbrev pub after_fault : FilesState → FilesState
after_fault state = record state { calls = after_call state.calls; faults = one_more state.faults }

abbrev pub after_write_fault : FilesState → FilesState
after_write_fault state = record state { calls = after_call state.calls; write_faults = one_more state.write_faults }

-- a file is found exactly where there is one of the name, and there is room for the name and for a number
abbrev pub finds : FilesState → List ℕ → Bool
finds state name =
    not (next_fails state.calls) && is_some (contents_of state.told.files name) && nat_le (length name) state.room && nat_lt 0 state.numbers

abbrev pub after_lookup : FilesState → List ℕ → FilesState
after_lookup state name =
    if finds state name
    then record state {
      told = after_given (after_named state.told name Lookup) name;
      room = state.room - length name;
      numbers = state.numbers - 1;
      calls = after_call state.calls;
    }
    else after_fault state

-- a size is told exactly where the call isn't one of those that fail
abbrev pub after_size : FilesState → FilesState
after_size state = if not (next_fails state.calls) then record state { calls = after_call state.calls } else after_fault state

-- bytes are read exactly where the call isn't one of those that fail, and the count of all that were asked for fits
abbrev pub reads : FilesState → ℕ → ℕ → Bool
reads state file count = not (next_fails state.calls) && can_ask state.told.asked file count

-- what was asked for counts also where the call fails
abbrev pub after_read : FilesState → ℕ → ℕ → FilesState
after_read state file count =
    if reads state file count
    then record state { told = after_asked state.told file count; calls = after_call state.calls }
    else after_fault (record state { told = after_asked state.told file count })

-- a file is created exactly where there is room for it, for its name once more, and for a number
abbrev pub creates : FilesState → List ℕ → Bool
creates state name = not (next_fails state.calls) && nat_lt 0 state.numbers && has_room (store_of state) name (length name)

abbrev pub after_create : FilesState → List ℕ → FilesState
after_create state name =
    if creates state name
    then record {
      told = after_given (after_written (after_named state.told name Create) name []) name;
      room = (after_put (store_of state) name [] (length name)).room;
      files = (after_put (store_of state) name [] (length name)).spare;
      numbers = state.numbers - 1;
      calls = after_call state.calls;
      faults = state.faults;
      write_faults = state.write_faults;
    }
    else after_write_fault state

-- bytes are written exactly where there is room for them
abbrev pub appends : FilesState → List ℕ → Bool
appends state bytes = not (next_fails state.calls) && nat_le (length bytes) state.room

abbrev pub after_append : FilesState → ℕ → List ℕ → FilesState
after_append state file bytes =
    if appends state bytes
    then record state {
      told = after_written state.told (name_of state.told file) (contents_at state.told file ++ bytes);
      room = state.room - length bytes;
      calls = after_call state.calls;
    }
    else after_write_fault state

-- a file is put there before a run exactly where there is room for it
abbrev pub stores : FilesState → List ℕ → List ℕ → Bool
stores state name bytes = has_room (store_of state) name (length bytes)

abbrev pub after_store : FilesState → List ℕ → List ℕ → FilesState
after_store state name bytes =
    if stores state name bytes
    then record state {
      told = after_written state.told name bytes;
      room = (after_put (store_of state) name bytes (length bytes)).room;
      files = (after_put (store_of state) name bytes (length bytes)).spare;
    }
    else state
