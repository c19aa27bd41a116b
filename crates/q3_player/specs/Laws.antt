-- Laws of the player delta.
use Rattle.std.specs.Prelude.{◌≡◌, ℕ, ℤ, ◌<◌, ◌^◌, Bool, List, ◌++◌, length, All, Ok}
use Rattle.q3_bits.specs.ResultBind.{left_of}
use Rattle.q3_bits.specs.Words.{IsCode}
use Rattle.q3_fields.specs.declared.kind.Kind.{Kind}
use Rattle.q3_fields.specs.Kinds.{AreKinds}
use Rattle.q3_player.specs.declared.state.PlayerState.{PlayerState}
use Rattle.q3_fields.specs.Places.{AreRising, with_changes}
use Rattle.q3_player.specs.Arrays.{changes_from}
use Rattle.q3_player.specs.State.{zero_player, normal_player, IsState, IsNormal, IsShort, patterns_of, shorts_of}
use Rattle.q3_player.specs.Delta.{player_delta, player_at}
use Rattle.q3_player.specs.Spelling.{SpellsPlayer}

-- the normal form of a state is a state, in normal form
abbrev pub NormalIsNormal : Type 0
NormalIsNormal = (table : List Kind) (player : PlayerState) → AreKinds table → IsState player
    → IsState (normal_player table player) × IsNormal table (normal_player table player)

-- what is written against a normal state spells the normal form of the other
abbrev pub WrittenIsSpelled : Type 0
WrittenIsSpelled = (words : List (List Bool)) (table : List Kind) (from to : PlayerState) → IsCode words → AreKinds table
    → IsState from → IsNormal table from → IsState to → SpellsPlayer words table from (normal_player table to) (player_delta words table from to)

-- what is read was spelled so, and is a state, in normal form where the other is
abbrev pub ReadIsSpelled : Type 0
ReadIsSpelled = (words : List (List Bool)) (table : List Kind) (from to : PlayerState) (bits rest : List Bool) → IsCode words → AreKinds table
    → IsState from → player_at words table from bits ≡ Ok (to, rest)
    → IsState to × (IsNormal table from → IsNormal table to) × (text : List Bool) × (bits ≡ text ++ rest) × SpellsPlayer words table from to text

-- what is spelled so is read, with whatever follows it: so where a reader refuses, no front of the bits is spelled so
abbrev pub SpelledIsRead : Type 0
SpelledIsRead = (words : List (List Bool)) (table : List Kind) (from to : PlayerState) (text rest : List Bool) → IsCode words → AreKinds table
    → IsState from → IsState to → SpellsPlayer words table from to text → player_at words table from (text ++ rest) ≡ Ok (to, rest)

-- what is written against a normal state is read back as the normal form of the other, with whatever follows it
abbrev pub WrittenIsRead : Type 0
WrittenIsRead = (words : List (List Bool)) (table : List Kind) (from to : PlayerState) (rest : List Bool) → IsCode words → AreKinds table
    → IsState from → IsNormal table from → IsState to
    → player_at words table from (player_delta words table from to ++ rest) ≡ Ok (normal_player table to, rest)

-- the zero state is a state, in the normal form of every table
abbrev pub ZeroIsNormal : Type 0
ZeroIsNormal = (table : List Kind) → AreKinds table → IsState zero_player × IsNormal table zero_player

-- what is read over another state ends at the same place, or is refused in the same way
abbrev pub PlayersEndAlike : Type 0
PlayersEndAlike = (words : List (List Bool)) (table : List Kind) (from other : PlayerState) (bits : List Bool) → IsState from → IsState other
    → left_of (player_at words table from bits) ≡ left_of (player_at words table other bits)

-- an array by its words, and by what changed of it
pub record ArraysAreKept : Type 0 where
  -- the words of signed values have 32 bits, and give the values back
  pub words : (values : List ℤ) → All IsShort values → All (λ word. word < 2 ^ 32) (patterns_of values)
  pub back : (values : List ℤ) → All IsShort values → shorts_of (patterns_of values) ≡ values
  -- what changed has rising places, and put over the one array makes the other
  pub rise : (from to : List ℕ) → AreRising (length from) 0 (changes_from 0 from to)
  pub made : (from to : List ℕ) → length from ≡ length to → with_changes from (changes_from 0 from to) ≡ to
