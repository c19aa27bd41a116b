-- The command lines, by position.
use Rattle.std.specs.Prelude.{◌≢◌, ℕ, ◌-◌, ◌^◌, ◌≤◌, ◌||◌, if◌then◌else◌, List, [], ◌∷◌, Option, Some, None, option_map, option_and_then, codes}
use Rattle.std.specs.Str.{bytes_eq}
use Rattle.q3_io.specs.declared.address.Address.{Address}
use Rattle.q3_text.specs.Decimals.{number_at}
use Rattle.q3_words.specs.Addresses.{address_at}
use Rattle.q3_command.specs.declared.command.Command.{Command as CommandLine}
use Rattle.q3_command.specs.declared.command.Command.TheVariants as lines
use Rattle.q3_command.specs.declared.command.Draws.{Draws}

-- what the words ask for
pub data Command : Type 0 where
  Help : Command
  Version : Command
  Replay : (profile script : List ℕ) → Command
  Make : (draws : Draws) → Command
  Trial : (profile : List ℕ) (draws : Draws) → Command
  Serve : (profile script : List ℕ) (at : Address) → Command
  Join : (profile script : List ℕ) (at server : Address) → Command
  Play : (profile demo : List ℕ) → Command
  Index : (profile demo index : List ℕ) → Command
  Seek : (profile demo index : List ℕ) (records : ℕ) → Command

-- how many events of a generated script may be drawn
abbrev pub most_drawn : ℕ
most_drawn = 65000

-- what two words ask of the generator: how many events it draws, and the seed
abbrev pub draws_at : List ℕ → List ℕ → Option Draws
draws_at number seed =
    option_and_then (λ number. option_map (λ seed. record { number = number; seed = seed }) (number_at 0 (2 ^ 64 - 1) seed)) (number_at 1 most_drawn number)

-- a server at the address that a word spells, and a client at one of a server at another
abbrev pub serve_at : List ℕ → List ℕ → List ℕ → Option Command
serve_at profile script at = option_map (Serve profile script) (address_at at)

abbrev pub join_at : List ℕ → List ℕ → List ℕ → List ℕ → Option Command
join_at profile script at server = option_and_then (λ at. option_map (Join profile script at) (address_at server)) (address_at at)

-- an index goes into another file than those that it is made of
abbrev pub index_at : List ℕ → List ℕ → List ℕ → Option Command
index_at profile demo index = if bytes_eq index profile || bytes_eq index demo then None else Some (Index profile demo index)

-- what so many records of a demo leave, as far as 32 bits count
abbrev pub seek_at : List ℕ → List ℕ → List ℕ → List ℕ → Option Command
seek_at profile demo index records = option_map (Seek profile demo index) (number_at 0 4294967295 records)

abbrev pub command_of : List (List ℕ) → Option Command
command_of (word ∷ []) =
    if bytes_eq word (codes "--help") then Some Help
    else (if bytes_eq word (codes "--version") then Some Version else None)
command_of (word ∷ first ∷ second ∷ []) =
    if bytes_eq word (codes "replay") then Some (Replay first second)
    else (if bytes_eq word (codes "make") then option_map Make (draws_at first second)
    else (if bytes_eq word (codes "play") then Some (Play first second) else None))
command_of (word ∷ profile ∷ second ∷ third ∷ []) =
    if bytes_eq word (codes "trial") then option_map (Trial profile) (draws_at second third)
    else (if bytes_eq word (codes "serve") then serve_at profile second third
    else (if bytes_eq word (codes "index") then index_at profile second third else None))
command_of (word ∷ profile ∷ second ∷ third ∷ fourth ∷ []) =
    if bytes_eq word (codes "join") then join_at profile second third fourth
    else (if bytes_eq word (codes "seek") then seek_at profile second third fourth else None)
command_of words = None

-- the command of the program's own type
abbrev pub command_value : CommandLine → Command
command_value lines.Help = Help
command_value lines.Version = Version
command_value (lines.Replay profile script) = Replay profile.now script.now
command_value (lines.Make draws) = Make draws
command_value (lines.Trial profile draws) = Trial profile.now draws
command_value (lines.Serve profile script at) = Serve profile.now script.now at
command_value (lines.Join profile script at server) = Join profile.now script.now at server
command_value (lines.Play profile demo) = Play profile.now demo.now
command_value (lines.Index profile demo index) = Index profile.now demo.now index.now
command_value (lines.Seek profile demo index records) = Seek profile.now demo.now index.now records

-- the generator draws so many
abbrev pub AreDraws : Draws → Type 0
AreDraws draws = (1 ≤ draws.number) × (draws.number ≤ most_drawn)

-- what a command asks of the generator may be drawn, and an index goes into another file than its demo
abbrev pub MayRun : CommandLine → Type 0
MayRun (lines.Make draws) = AreDraws draws
MayRun (lines.Trial profile draws) = AreDraws draws
MayRun (lines.Index profile demo index) = index.now ≢ demo.now
MayRun other = Unit {0}

-- the files that a command reads, in this order
abbrev pub files_of : Option Command → List (List ℕ)
files_of (Some (Replay profile script)) = profile ∷ script ∷ []
files_of (Some (Trial profile draws)) = profile ∷ []
files_of (Some (Serve profile script at)) = profile ∷ script ∷ []
files_of (Some (Join profile script at server)) = profile ∷ script ∷ []
files_of (Some (Play profile demo)) = profile ∷ demo ∷ []
files_of (Some (Index profile demo index)) = profile ∷ demo ∷ []
files_of (Some (Seek profile demo index records)) = profile ∷ demo ∷ index ∷ []
files_of other = []
