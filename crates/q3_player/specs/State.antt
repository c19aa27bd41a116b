-- Player states: what the program's type holds, the zero state, and the normal form that a state is kept in.
use Rattle.std.specs.Prelude.{◌≡◌, ℕ, ◌%◌, ◌^◌, List, [], ◌∷◌, length, map, replicate, All, ℤ, pos, neg_ℤ, ◌≤ℤ◌}
use Rattle.std.specs.Int.{w16, w32, cast_unsigned, cast_signed}
use Rattle.q3_fields.specs.declared.kind.Kind.{Kind}
use Rattle.q3_fields.specs.declared.kind.Kind.TheVariants.{Unsigned, Signed}
use Rattle.q3_fields.specs.States.{AreWords, normal_words}
use Rattle.q3_player.specs.declared.state.PlayerState.{PlayerState}

-- a signed value of 16 bits
abbrev pub IsShort : ℤ → Type 0
IsShort value = (neg_ℤ (pos 32768) ≤ℤ value) × (value ≤ℤ pos 32767)

-- 16 signed values of 16 bits
pub record AreShorts (values : List ℤ) : Type 0 where
  pub count : length values ≡ 16
  pub each : All IsShort values

-- a state as the program's type holds it
pub record IsState (player : PlayerState) : Type 0 where
  pub words : AreWords 64 player.words
  pub stats : AreShorts player.stats
  pub persistant : AreShorts player.persistant
  pub ammo : AreShorts player.ammo
  pub powerups : AreWords 16 player.powerups

-- the state with nothing in it
unfoldable pub zero_player : PlayerState
zero_player = record {
  words = replicate 64 0;
  stats = replicate 16 (pos 0);
  persistant = replicate 16 (pos 0);
  ammo = replicate 16 (pos 0);
  powerups = replicate 16 0;
}

-- signed values as words of 32 bits
abbrev pub patterns_of : List ℤ → List ℕ
patterns_of values = map (cast_unsigned w32) values

-- the signed values that words of their patterns are
abbrev pub shorts_of : List ℕ → List ℤ
shorts_of words = map (λ word. cast_signed w16 (word % 2 ^ 16)) words

-- what the arrays hold, in the order of the delta: three of them signed values of 16 bits, the powerups words of 32
abbrev pub array_kinds : List Kind
array_kinds = Signed 16 ∷ Signed 16 ∷ Signed 16 ∷ Unsigned 32 ∷ []

-- the arrays, as words of 32 bits
abbrev pub arrays_of : PlayerState → List (List ℕ)
arrays_of player = patterns_of player.stats ∷ patterns_of player.persistant ∷ patterns_of player.ammo ∷ player.powerups ∷ []

-- the state with these arrays
abbrev pub with_arrays : PlayerState → List (List ℕ) → PlayerState
with_arrays player (stats ∷ persistant ∷ ammo ∷ powerups ∷ []) =
    record player { stats = shorts_of stats; persistant = shorts_of persistant; ammo = shorts_of ammo; powerups = powerups }
with_arrays player arrays = player

-- a state in normal form; the arrays' values have no other
abbrev pub normal_player : List Kind → PlayerState → PlayerState
normal_player table player = record player { words = normal_words table player.words }

abbrev pub IsNormal : List Kind → PlayerState → Type 0
IsNormal table player = normal_player table player ≡ player
