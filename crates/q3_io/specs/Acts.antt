-- What is done to files: they are made, and bytes are put after theirs.
use Rattle.std.specs.Prelude.{◌≡◌, ◌⊎◌, ℕ, List, [], ◌∷◌, ◌++◌, Option, Some, None, unwrap_or, Result, Ok, Err}
use Rattle.q3_io.specs.declared.sink.Failed.{Failed}
use Rattle.q3_io.specs.Told.{Told, File, Named, Create, contents_of, after_named, after_given, after_written}
use Rattle.q3_io.specs.Written.{Added}

-- a file of a name is made, empty, also where there was one; or bytes go after those of the file of a name
pub data FileAct : Type 0 where
  Makes : List ℕ → FileAct
  Extends : List ℕ → List ℕ → FileAct

-- what the file of a name holds, nothing where there is none
abbrev pub held_by : List File → List ℕ → List ℕ
held_by files name = unwrap_or (contents_of files name) []

-- what is told after an act: a file that is made gets the next number
abbrev pub after_act : Told → FileAct → Told
after_act told (Makes name) = after_given (after_written (after_named told name Create) name []) name
after_act told (Extends name bytes) = after_written told name (held_by told.files name ++ bytes)

-- after acts, one by one
unfoldable pub after_acts : Told → List FileAct → Told
after_acts told [] = told
after_acts told (act ∷ acts) = after_acts (after_act told act) acts

-- an act that failed: the file's name was given or not, and no file was made; or a front of the bytes was put there
abbrev pub BreaksOff : Told → FileAct → Told → Type 0
BreaksOff told (Makes name) now = (now ≡ told) ⊎ (now ≡ after_named told name Create)
BreaksOff told (Extends name bytes) now = (added : List ℕ) × Added {T = Unit {0}} {E = Failed} bytes (Err (record {})) added × (now ≡ after_act told (Extends name added))

-- acts were done, one after the other; at a failure those before the one that failed, and a part of that
abbrev pub ActsOn : Option Told → Option Told → List FileAct → Result (Unit {0}) Failed → Type 0
ActsOn None now acts result = now ≡ None
ActsOn (Some told) now acts (Ok x) = now ≡ Some (after_acts told acts)
ActsOn (Some told) now acts (Err e) =
    (first : List FileAct) × (act : FileAct) × (rest : List FileAct) × (acts ≡ first ++ act ∷ rest)
    × (after : Told) × (now ≡ Some after) × BreaksOff (after_acts told first) act after
