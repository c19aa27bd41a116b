-- A player as scripts and reports spell it: the words that aren't 0, and after their letters those of the arrays.
use Rattle.std.specs.Prelude.{ℕ, List, [], ◌∷◌, codes}
use Rattle.std.specs.List.{concat}
use Rattle.q3_io.specs.Print.{words_text}
use Rattle.q3_player.specs.declared.state.PlayerState.{PlayerState}
use Rattle.q3_player.specs.State.{patterns_of}

-- signed values as words of 32 bits
unfoldable pub player_text : PlayerState → List ℕ
player_text player = concat (
    words_text [] 0 player.words
    ∷ words_text (codes "s") 0 (patterns_of player.stats)
    ∷ words_text (codes "p") 0 (patterns_of player.persistant)
    ∷ words_text (codes "a") 0 (patterns_of player.ammo)
    ∷ words_text (codes "u") 0 player.powerups
    ∷ [])
