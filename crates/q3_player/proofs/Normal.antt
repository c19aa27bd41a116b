-- The normal form of a state, and the state with nothing in it.
use Rattle.std.proofs.Common.{◌≡◌, ℕ, zero, suc, ◌^◌, ◌<◌, List, [], ◌∷◌, replicate, refl, ap, arith, inl, inr}
use Rattle.std.proofs.lemmas.List.Elements.{All-head, All-tail, All-replicate}
use Rattle.std.proofs.lemmas.List.{length-replicate}
use Rattle.std.proofs.lemmas.Int.{ints}
use Rattle.std.proofs.Math.Nat.{zero-mod}
use Rattle.std.specs.List.{All}
use Rattle.q3_fields.specs.declared.kind.Kind.{Kind}
use Rattle.q3_fields.specs.declared.kind.Kind.TheVariants.{Float, Unsigned, Signed}
use lib.IntN.{pos}
use Rattle.q3_fields.specs.Kinds.{IsKind, AreKinds, norm}
use Rattle.q3_fields.specs.Laws.{NormalWordsAreNormal}
use Rattle.q3_player.specs.declared.state.PlayerState.{PlayerState}
use Rattle.q3_fields.specs.States.{AreWords, normal_words}
use Rattle.q3_player.specs.State.{IsState, IsNormal, AreShorts, IsShort, zero_player, normal_player}

-- the normal form of a state is a state, in normal form
pub normal_player-normal : NormalWordsAreNormal → (table : List Kind) (player : PlayerState) → AreKinds table → IsState player → IsState (normal_player table player) × IsNormal table (normal_player table player)
normal_player-normal law table player is_table state =
    let words = law table player.words is_table state.words in (
      record { words = words.0; stats = state.stats; persistant = state.persistant; ammo = state.ammo; powerups = state.powerups },
      ap (λ (ws : List ℕ). record player { words = ws }) words.1,
    )

-- a word of 0
norm-zero : (kind : Kind) → IsKind kind → norm kind 0 ≡ 0
unfolding norm
norm-zero Float allowed = refl
norm-zero (Unsigned width) allowed = zero-mod (2 ^ width)
norm-zero (Signed width) (inl is) = rw is refl
norm-zero (Signed width) (inr (inl is)) = rw is refl
norm-zero (Signed width) (inr (inr is)) = rw is refl

normal_words-zero : (table : List Kind) (count : ℕ) → All IsKind table → normal_words table (replicate count 0) ≡ replicate count 0
unfolding normal_words
normal_words-zero [] zero allowed = refl
normal_words-zero [] (suc count) allowed = ap (λ (ys : List ℕ). 0 ∷ ys) (normal_words-zero [] count allowed)
normal_words-zero (kind ∷ table) zero allowed = refl
normal_words-zero (kind ∷ table) (suc count) allowed =
    rw (norm-zero kind (All-head IsKind kind table allowed), normal_words-zero table count (All-tail IsKind kind table allowed)) refl

-- the state with nothing in it
zeros-words : (count : ℕ) → AreWords count (replicate count 0)
zeros-words count = record { count = length-replicate count 0; each = All-replicate (λ word. word < 2 ^ 32) count 0 (omega arith) }

zeros-shorts : AreShorts (replicate 16 (pos 0))
zeros-shorts = record { count = length-replicate 16 (pos 0); each = All-replicate IsShort 16 (pos 0) (omega (arith, ints), omega (arith, ints)) }

pub zero_player-normal : (table : List Kind) → AreKinds table → IsState zero_player × IsNormal table zero_player
unfolding zero_player
zero_player-normal table is_table = (
  record { words = zeros-words 64; stats = zeros-shorts; persistant = zeros-shorts; ammo = zeros-shorts; powerups = zeros-words 16 },
  rw (normal_words-zero table 64 is_table.each) refl,
)
