use Rattle.q3_words.proofs.Placed.{gives_player}
use Rattle.q3_words.proofs.kept_player.places.Goals as goal

pub returns-clause-player : goal.returns-clause-player
returns-clause-player c =
    let kept = rw (c.in_ok-push_words-4.ensures, c.in_ok-push_words-3.ensures, c.in_ok-push_words-2.ensures, c.in_ok-push_words.ensures, c.in_ok-words.ensures.items, c.patterns-stats.ensures, c.patterns-persistant.ensures, c.patterns-ammo.ensures) at c.in_ok-push_words-5.ensures in
    (gives_player c.arrays_are_kept.ensures c.args.player.now c.push_words-5.new.kept.items c.is_state.ensures kept).is

pub returns-clause-kept : goal.returns-clause-kept
returns-clause-kept c =
    let kept = rw (c.in_ok-push_words-4.ensures, c.in_ok-push_words-3.ensures, c.in_ok-push_words-2.ensures, c.in_ok-push_words.ensures, c.in_ok-words.ensures.items, c.patterns-stats.ensures, c.patterns-persistant.ensures, c.patterns-ammo.ensures) at c.in_ok-push_words-5.ensures in
    (gives_player c.arrays_are_kept.ensures c.args.player.now c.push_words-5.new.kept.items c.is_state.ensures kept).are_kept
