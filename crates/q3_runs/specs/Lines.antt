-- The fault lines of a run that ends early, and their statuses.
use Rattle.std.specs.Prelude.{ℕ, List, [], ◌∷◌, codes, decimal, Option, Some, None, Result, Ok, Err}
use Rattle.q3_bits.specs.declared.words.CodeError.{CodeError}
use Rattle.q3_bits.specs.declared.words.CodeError.TheVariants as codes_of
use Rattle.q3_profile.specs.declared.error.Key.{Key}
use Rattle.q3_profile.specs.declared.error.Key.TheVariants.{File}
use Rattle.q3_profile.specs.declared.error.ProfileError.{ProfileError}
use Rattle.q3_profile.specs.declared.error.ProfileError.TheVariants as profile
use Rattle.q3_profile.specs.Document.{key_name}
use Rattle.q3_words.specs.declared.cause.LineCause.{LineCause}
use Rattle.q3_words.specs.declared.cause.LineCause.TheVariants.{Large, Many, Word, Count, Number, Fields, Text, Name, Address, Order}
use Rattle.std.specs.List.{concat}
use Rattle.q3_svmsg.specs.Report.{cause_word as illegible_word, cause_number}
use Rattle.q3_demo.specs.declared.error.DemoError.{DemoError}
use Rattle.q3_demo.specs.declared.error.DemoError.TheVariants as demo
use Rattle.q3_index.specs.declared.error.IndexError.{IndexError}
use Rattle.q3_index.specs.declared.error.IndexError.TheVariants as opening
use Rattle.q3_runs.specs.declared.fault.Fault.{Fault}
use Rattle.q3_runs.specs.declared.fault.Fault.TheVariants.{NoMemory, Usage, Read, Write, FileWrite, Profile, Script, Wire, Turns, Demo, Index, PastEnd}

abbrev pub cause_word : LineCause → List ℕ
cause_word Large = codes "large"
cause_word Many = codes "many"
cause_word Word = codes "word"
cause_word Count = codes "count"
cause_word Number = codes "number"
cause_word Fields = codes "fields"
cause_word Text = codes "text"
cause_word Name = codes "name"
cause_word Address = codes "address"
cause_word Order = codes "order"

-- want of memory, wherever it is noticed
abbrev pub no_memory_line : List ℕ
no_memory_line = codes "no memory\n"

-- a rule of a key, and one of a code's texts
abbrev pub key_line : List ℕ → Key → List ℕ
key_line rule key = concat (codes "profile: " ∷ rule ∷ key_name key ∷ codes "\n" ∷ [])

abbrev pub text_line : List ℕ → ℕ → List ℕ
text_line rule i = concat (codes "profile: code " ∷ rule ∷ decimal i ∷ codes "\n" ∷ [])

-- what is wrong with the texts of a code
abbrev pub code_line : CodeError → List ℕ
code_line codes_of.NoMemory = no_memory_line
code_line codes_of.Count = codes "profile: code count\n"
code_line (codes_of.Empty i) = text_line (codes "empty ") i
code_line (codes_of.Long i) = text_line (codes "long ") i
code_line (codes_of.NotBits i) = text_line (codes "bits ") i
code_line (codes_of.Clash i j) = concat (codes "profile: code clash " ∷ decimal i ∷ codes " " ∷ decimal j ∷ codes "\n" ∷ [])

-- what is wrong with a profile
abbrev pub profile_line : ProfileError → List ℕ
profile_line profile.NoMemory = no_memory_line
profile_line profile.NotToml = codes "profile: toml\n"
profile_line (profile.Missing key) = key_line (codes "missing ") key
profile_line (profile.Kind key) = key_line (codes "kind ") key
profile_line (profile.Code e) = code_line e
profile_line (profile.Width key i) = concat (codes "profile: width " ∷ key_name key ∷ codes " " ∷ decimal i ∷ codes "\n" ∷ [])
profile_line (profile.Fields key) = key_line (codes "fields ") key
profile_line (profile.Limit File) = codes "profile: large\n"
profile_line (profile.Limit key) = key_line (codes "limit ") key

-- what is wrong with the record at a place of a demo
abbrev pub record_line : List ℕ → ℕ → List ℕ
record_line rule at = concat (codes "demo: " ∷ rule ∷ codes " at " ∷ decimal at ∷ codes "\n" ∷ [])

abbrev pub illegible_text : List ℕ → Option ℕ → ℕ → List ℕ
illegible_text word None at = concat (codes " illegible " ∷ word ∷ codes " at " ∷ decimal at ∷ codes "\n" ∷ [])
illegible_text word (Some number) at = concat (codes " illegible " ∷ word ∷ codes " " ∷ decimal number ∷ codes " at " ∷ decimal at ∷ codes "\n" ∷ [])

abbrev pub demo_line : DemoError → List ℕ
demo_line demo.ReadFault = codes "read fault\n"
demo_line demo.NoMemory = no_memory_line
demo_line demo.WriteFault = []
demo_line (demo.Truncated at) = record_line (codes "truncated") at
demo_line (demo.BadLength at) = record_line (codes "length") at
demo_line (demo.BadNumber at) = record_line (codes "number") at
demo_line (demo.Message at cause) = concat (codes "demo:" ∷ illegible_text (illegible_word cause) (cause_number cause) at ∷ [])

-- what is wrong with an index: the place of what breaks its rules; the demo's length and the profile's mark as they are, and as it keeps them;
-- or how many bits the number of an entity has in it, and by the profile
abbrev pub index_line : IndexError → List ℕ
index_line opening.ReadFault = codes "read fault\n"
index_line opening.NoMemory = no_memory_line
index_line (opening.NotIndex at) = concat (codes "index: bad at " ∷ decimal at ∷ codes "\n" ∷ [])
index_line (opening.OtherDemo kept found) =
    concat (codes "index: other demo " ∷ decimal found.0 ∷ codes " " ∷ decimal found.1 ∷ codes ", kept " ∷ decimal kept.0 ∷ codes " " ∷ decimal kept.1 ∷ codes "\n" ∷ [])
index_line (opening.OtherWidth kept found) = concat (codes "index: width " ∷ decimal kept ∷ codes ", profile " ∷ decimal found ∷ codes "\n" ∷ [])

-- the line that a fault prints; none is asked for where the sink failed
abbrev pub fault_line : Fault → List ℕ
fault_line NoMemory = no_memory_line
fault_line Usage = codes "usage\n"
fault_line Read = codes "read fault\n"
fault_line Write = []
fault_line FileWrite = codes "write fault\n"
fault_line (Profile e) = profile_line e
fault_line Wire = codes "wire fault\n"
fault_line Turns = codes "turns spent\n"
fault_line (Demo e) = demo_line e
fault_line (Index e) = index_line e
fault_line (PastEnd records) = concat (codes "past end: " ∷ decimal records ∷ codes "\n" ∷ [])
fault_line (Script line cause) = concat (codes "script: line " ∷ decimal line ∷ codes ": " ∷ cause_word cause ∷ codes "\n" ∷ [])

abbrev pub fault_status : Fault → ℕ
fault_status NoMemory = 1
fault_status Usage = 2
fault_status Read = 3
fault_status Write = 4
fault_status FileWrite = 4
fault_status (Profile e) = 5
fault_status (Script line cause) = 6
fault_status Wire = 9
fault_status Turns = 11
fault_status (Demo e) = 7
fault_status (Index e) = 8
fault_status (PastEnd records) = 10

abbrev pub ending_line : Result (Unit {0}) Fault → List ℕ
ending_line (Ok x) = []
ending_line (Err fault) = fault_line fault

abbrev pub ending_status : Result (Unit {0}) Fault → ℕ
ending_status (Ok x) = 0
ending_status (Err fault) = fault_status fault
