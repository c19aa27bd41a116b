-- A player in one list of words, as an event keeps it.
use Rattle.std.specs.Prelude.{ℕ, List, take, drop}
use Rattle.q3_player.specs.declared.state.PlayerState.{PlayerState}
use Rattle.q3_player.specs.State.{shorts_of}

-- the player whose words these 128 are
abbrev pub player_of_words : List ℕ → PlayerState
player_of_words words = record {
  words = take 64 words;
  stats = shorts_of (take 16 (drop 64 words));
  persistant = shorts_of (take 16 (drop 80 words));
  ammo = shorts_of (take 16 (drop 96 words));
  powerups = take 16 (drop 112 words);
}
