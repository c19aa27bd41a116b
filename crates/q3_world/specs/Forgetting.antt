-- What a replay may forget: the bytes of a datagram that no later line names.
use Rattle.std.specs.Prelude.{◌≡◌, ◌≢◌, ◌⊎◌, ℕ, ◌+◌, ◌-◌, ◌<◌, ◌≤◌, List, [], ◌∷◌, ◌++◌, length, get_or, set, drop, All, Option, Some, None, IfSome, option_map, slice_get}
use Rattle.std.specs.Option.{option_map_or}
use Rattle.q3_script.specs.declared.event.Event.{Event}
use Rattle.q3_script.specs.declared.event.Event.TheVariants as events
use Rattle.q3_world.specs.Kept.{Kept, SentBytes, kept_step}
use Rattle.q3_world.specs.Counting.{Counting}
use Rattle.q3_world.specs.Files.{acts_of}

-- the place, from 0 on, of the datagram that a line names, if it names one
unfoldable pub named_by : Event → Option ℕ
named_by (events.Deliver number) = Some (number - 1)
named_by (events.Bytes number) = Some (number - 1)
named_by other = None

-- the datagrams, where that at a place has no bytes any more
abbrev pub forgotten : List SentBytes → ℕ → List SentBytes
forgotten datagrams at = option_map_or (λ (sent : SentBytes). set datagrams at (record sent { bytes = [] })) (slice_get datagrams at) datagrams

abbrev pub with_forgotten : Kept → ℕ → Kept
with_forgotten kept at = record kept { datagrams = forgotten kept.datagrams at }

-- what is kept differs in datagrams alone, of which there are as many, and in none that one of these lines names
pub record AreAlike (all : List Event) (one other : Kept) : Type 0 where
  pub profile : one.profile ≡ other.profile
  pub ends : one.ends ≡ other.ends
  pub many : length one.datagrams ≡ length other.datagrams
  pub named : All (λ event. IfSome (named_by event) (λ at. slice_get one.datagrams at ≡ slice_get other.datagrams at)) all

-- none of these lines names the datagram at a place
abbrev pub AreSilentOf : List Event → ℕ → Type 0
AreSilentOf all at = All (λ event. named_by event ≢ Some at) all

-- only datagrams that one of these lines names have bytes
abbrev pub AreWanted : List Event → List SentBytes → Type 0
AreWanted all datagrams = (at : ℕ) → AreSilentOf all at → IfSome (slice_get datagrams at) (λ sent. sent.bytes ≡ [])

-- only these and the last datagram have bytes
abbrev pub AreWantedBefore : List Event → List SentBytes → Type 0
AreWantedBefore all datagrams = (at : ℕ) → at + 1 < length datagrams → AreSilentOf all at → IfSome (slice_get datagrams at) (λ sent. sent.bytes ≡ [])

-- what is kept is alike itself; each line answers the same, does the same to files, and leaves what is alike for the others; and so does
-- forgetting a datagram that none of them names. A line makes one datagram at most, and leaves all others
pub record ForgettingIsAlike : Type 0 where
  pub itself : (all : List Event) (kept : Kept) → AreAlike all kept kept
  pub steps : (event : Event) (all : List Event) (one other : Kept) → AreAlike (event ∷ all) one other
      → ((kept_step one event).answer ≡ (kept_step other event).answer) × (acts_of one event ≡ acts_of other event)
      × AreAlike all (kept_step one event).kept (kept_step other event).kept
  pub forgets : (at : ℕ) (all : List Event) (one other : Kept) → AreSilentOf all at → AreAlike all one other
      → AreAlike all (with_forgotten one at) other
  pub makes : (event : Event) (kept : Kept) → (made : List SentBytes) × (length made ≤ 1) × ((kept_step kept event).kept.datagrams ≡ kept.datagrams ++ made)

-- ---- which datagrams later lines name

-- for each datagram that a script may make, how many of its lines there are up to the last that names it, 0 where none does
pub record TellsLast (last : List ℕ) (all : List Event) : Type 0 where
  pub many : length last ≡ length all
  pub after : (k : ℕ) (event : Event) → k < length all → IfSome (named_by (get_or all k event)) (λ at. at < length last → k < get_or last at 0)
  pub names : (at : ℕ) (event : Event) → at < length last → 0 < get_or last at 0
      → (get_or last at 0 ≤ length all) × (named_by (get_or all (get_or last at 0 - 1) event) ≡ Some at)

-- ---- what is let go

-- what is let go after so many lines: datagrams lose their bytes, and nothing else is another
pub record LetsGo (last : List ℕ) (done : ℕ) (old now : Counting) : Type 0 where
  pub alike : (all : List Event) (other : Kept) → TellsLast last all → AreAlike (drop done all) old.kept other → AreAlike (drop done all) now.kept other
  pub many : length now.kept.datagrams ≡ length old.kept.datagrams
  pub lost : (at : ℕ) → (slice_get now.kept.datagrams at ≡ slice_get old.kept.datagrams at)
      ⊎ (slice_get now.kept.datagrams at ≡ option_map (λ (sent : SentBytes). record sent { bytes = [] }) (slice_get old.kept.datagrams at))
  pub others : now ≡ record old { kept = record old.kept { datagrams = now.kept.datagrams } }
