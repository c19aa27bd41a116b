-- A player in the five parts by which it is read, and an entity in its one.
use Rattle.std.proofs.Common.{◌≡◌, ℕ, ◌<◌, cond, eqb, List, [], ◌∷◌, length, Ok, Err, refl, sym, ◌∙◌, arith}
use Rattle.std.specs.Prelude.{codes}
use Rattle.q3_player.specs.declared.state.PlayerState.{PlayerState}
use Rattle.q3_words.specs.declared.cause.LineCause.TheVariants.{Fields as BadFields}
use Rattle.q3_words.specs.Words.{words_left}
use Rattle.q3_words.specs.Fields.{fields_at, entity_at, player_of, player_at}
use Rattle.q3_words.proofs.Spaces.{some_left}

-- the words in front of each part, and those after the last
pub record Parts (words : List (List ℕ)) (stats persistant ammo powerups others : List (List ℕ)) : Type 0 where
  pub at_stats : stats ≡ (fields_at [] 64 0 words).left
  pub at_persistant : persistant ≡ (fields_at (codes "s") 16 0 stats).left
  pub at_ammo : ammo ≡ (fields_at (codes "p") 16 0 persistant).left
  pub at_powerups : powerups ≡ (fields_at (codes "a") 16 0 ammo).left
  pub at_others : others ≡ (fields_at (codes "u") 16 0 powerups).left

abbrev player_from : List (List ℕ) → List (List ℕ) → List (List ℕ) → List (List ℕ) → List (List ℕ) → PlayerState
player_from words stats persistant ammo powerups =
    player_of (fields_at [] 64 0 words).fields (fields_at (codes "s") 16 0 stats).fields (fields_at (codes "p") 16 0 persistant).fields (fields_at (codes "a") 16 0 ammo).fields (fields_at (codes "u") 16 0 powerups).fields

in_parts : {words stats persistant ammo powerups others : List (List ℕ)} → Parts words stats persistant ammo powerups others
    → player_at words ≡ cond (eqb (length others) 0) (Ok (player_from words stats persistant ammo powerups)) (Err BadFields)
unfolding player_at
in_parts p = rw (p.at_others, p.at_powerups, p.at_ammo, p.at_persistant, p.at_stats) refl

-- words are left after a player
pub is_refused : {words stats persistant ammo powerups : List (List ℕ)} (left : List ℕ) → Parts words stats persistant ammo powerups (words_left left) → 0 < length left → Err BadFields ≡ player_at words
is_refused left p some = sym (in_parts p ∙ rw (some_left left some) refl)

-- none is left
pub is_read : {words stats persistant ammo powerups : List (List ℕ)} (left : List ℕ) → Parts words stats persistant ammo powerups (words_left left) → length left ≡ 0 → Ok (player_from words stats persistant ammo powerups) ≡ player_at words
is_read [] p none = sym (in_parts p)
is_read (space ∷ text) p none = absurd (omega arith)

-- words are left after an entity
pub is_no_entity : (number : ℕ) (words : List (List ℕ)) (left : List ℕ) → words_left left ≡ (fields_at [] 64 0 words).left → 0 < length left → Err BadFields ≡ entity_at number words
unfolding entity_at
is_no_entity number words left after some = rw (← after, some_left left some) refl
