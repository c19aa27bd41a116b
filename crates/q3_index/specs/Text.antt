-- The index of a demo: how long the demo is and by which profile it was played, and every 256 records what they left. There are two
-- versions: the first doesn't tell how many bits the number of an entity has, which are the engine's 10 then.
use Rattle.std.specs.Prelude.{◌≡◌, ℕ, ◌/◌, ◌%◌, ◌==◌, Bool, List, [], ◌∷◌, ◌++◌, length, map, filter, codes, Result, Ok}
use Rattle.std.specs.List.{concat, flat_map}
use Rattle.byteorder.specs.Endian.{little_bytes}
use Rattle.q3_bits.specs.ResultBind.{◌>>=◌}
use Rattle.q3_fields.specs.Kinds.{least_number_bits}
use Rattle.q3_profile.specs.declared.profile.Profile.{Profile}
use Rattle.q3_savestate.specs.State.{state_bytes}
use Rattle.q3_savestate.specs.Applied.{saved_in}
use Rattle.q3_demo.specs.declared.error.DemoError.{DemoError}
use Rattle.q3_demo.specs.Playing.{Played, Stepped, records_of, play_of}
use Rattle.q3_index.specs.declared.opening.Version.{Version}
use Rattle.q3_index.specs.declared.opening.Version.TheVariants.{First, Second}

-- how many records lie between two checkpoints
abbrev pub spacing : ℕ
spacing = 256

-- what an index begins with
abbrev pub magic : Version → List ℕ
magic First = codes "Q3INDEX1"
magic Second = codes "Q3INDEX2"

-- how it tells how many bits the number of an entity has
abbrev pub width_bytes : Version → ℕ → List ℕ
width_bytes First width = []
width_bytes Second width = little_bytes 1 width

-- it may be told so
abbrev pub Tells : Version → ℕ → Type 0
Tells First width = width ≡ least_number_bits
Tells Second width = Unit {0}

-- its head: the demo's length, the profile's mark, the bits of an entity's number, how many records, and how many checkpoints
abbrev pub head_bytes : Version → ℕ → ℕ → ℕ → ℕ → List ℕ
head_bytes version length mark width records =
    concat (magic version ∷ little_bytes 8 length ∷ little_bytes 8 mark ∷ width_bytes version width ∷ little_bytes 4 records ∷ little_bytes 4 (records / spacing) ∷ [])

-- a checkpoint: how many records were played, the place of the next one, and what they left, after its length
abbrev pub state_of : Profile → Played → List ℕ
state_of profile played = state_bytes profile (saved_in played.state)

abbrev pub checkpoint_bytes : Profile → Played → List ℕ
checkpoint_bytes profile played =
    concat (little_bytes 4 played.records ∷ little_bytes 8 played.at ∷ little_bytes 4 (length (state_of profile played)) ∷ state_of profile played ∷ [])

-- one stands after every 256th record
abbrev pub is_checkpoint : Played → Bool
is_checkpoint played = played.records % spacing == 0

abbrev pub checkpoints : List Stepped → List Played
checkpoints records = filter is_checkpoint (map (λ (stepped : Stepped). stepped.played) records)

-- the index of a demo, by a version
abbrev pub text_by : Version → Profile → List ℕ → List ℕ
text_by version profile demo =
    head_bytes version (length demo) profile.mark profile.entity.number_bits (length (records_of profile demo))
    ++ flat_map (checkpoint_bytes profile) (checkpoints (records_of profile demo))

-- it is made of a demo whose records all may be played; else the first that may not is told
abbrev pub index_by : Version → Profile → List ℕ → Result (List ℕ) DemoError
index_by version profile demo = do
  none ← (play_of profile demo).ending
  Ok (text_by version profile demo)

-- that which is made now
abbrev pub index_text : Profile → List ℕ → List ℕ
index_text profile demo = text_by Second profile demo

abbrev pub index_of : Profile → List ℕ → Result (List ℕ) DemoError
index_of profile demo = index_by Second profile demo
