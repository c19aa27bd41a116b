use Rattle.q3_words.proofs.kept_player.KeptPlayer.of.Goals as goal

pub returns : goal.returns
returns c = c.in_ok-places.ensures.player
