use Rattle.std.proofs.Common.{refl}
use Rattle.q3_words.proofs.kept_player.player_of_words.Goals as goal

pub returns : goal.returns
returns c = rw (c.shorts.ensures, c.shorts-2.ensures, c.shorts-3.ensures, c.copy_from_slice.ensures.after, c.copy_from_slice-2.ensures.after) refl
