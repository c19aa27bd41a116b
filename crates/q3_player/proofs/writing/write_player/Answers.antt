use Rattle.std.proofs.Common.{refl}
use Rattle.std.proofs.lemmas.Result.{err_from_is_err_and}
use Rattle.q3_fields.specs.Deltas.{words_delta}
use Rattle.q3_player.specs.Arrays.{player_changes}
use Rattle.q3_player.specs.Delta.{arrays_bits, player_delta}
use Rattle.q3_player.proofs.writing.write_player.Goals as goal

pub returns-in_err-write_counted : goal.returns-in_err-write_counted
unfolding player_delta words_delta
returns-in_err-write_counted c =
    let p = err_from_is_err_and c.from_residual.result c.from_residual.ensures.1 in
    rw (p.1, p.2, ← c.changed_count-count.ensures.count) (c.texts_are_written.ensures.early _ _ _ _ _ _ refl c.in_err-write_counted.ensures)

pub returns : goal.returns
unfolding player_delta words_delta
returns c =
    let from = c.args.from.now in
    let to = c.args.to.now in
    rw (← c.changed_count-count.ensures.count)
    (c.texts_are_written.ensures.then _ _ _ _ _ (λ ws. arrays_bits ws (player_changes from to)) _ refl c.in_ok-write_counted.ensures c.write_arrays.ensures)
