use Rattle.std.proofs.Common.{◌∙◌}
use Rattle.std.proofs.lemmas.Result.{err_from_is_err_and}
use Rattle.q3_player.proofs.ArraysRead.{all_arrays_at-stats, all_arrays_at-persistant, all_arrays_at-ammo, all_arrays_at-powerups}
use Rattle.q3_player.proofs.reading.read_each.Goals as goal

pub returns-in_err-read_shorts : goal.returns-in_err-read_shorts
returns-in_err-read_shorts c =
    let p = err_from_is_err_and c.from_residual.result c.from_residual.ensures.1 in
    let first = c.in_err-read_shorts.ensures in
    rw (p.1, p.2) (record {
      value = all_arrays_at-stats c.args.r.now.words c.args.into.now c.args.r.now.left _ first.value;
      words = first.words;
      place = first.place;
    })

pub returns-in_err-read_shorts-2 : goal.returns-in_err-read_shorts-2
returns-in_err-read_shorts-2 c =
    let p = err_from_is_err_and c.from_residual-in_err-read_shorts-2.result c.from_residual-in_err-read_shorts-2.ensures.1 in
    let first = c.in_ok-read_shorts.ensures in
    let second = c.in_err-read_shorts-2.ensures in
    rw (p.1, p.2) (record {
      value = all_arrays_at-persistant c.args.r.now.words _ c.args.into.now c.args.r.now.left _ _ _ first.words first.value second.value;
      words = second.words ∙ first.words;
      place = second.place ∙ first.place;
    })

pub returns-in_err-read_shorts-3 : goal.returns-in_err-read_shorts-3
returns-in_err-read_shorts-3 c =
    let p = err_from_is_err_and c.from_residual-in_err-read_shorts-3.result c.from_residual-in_err-read_shorts-3.ensures.1 in
    let first = c.in_ok-read_shorts.ensures in
    let second = c.in_ok-read_shorts-2.ensures in
    let third = c.in_err-read_shorts-3.ensures in
    rw (p.1, p.2) (record {
      value = all_arrays_at-ammo c.args.r.now.words _ _ c.args.into.now c.args.r.now.left _ _ _ _ _ first.words (second.words ∙ first.words) first.value second.value third.value;
      words = third.words ∙ (second.words ∙ first.words);
      place = third.place ∙ (second.place ∙ first.place);
    })

pub returns : goal.returns
returns c =
    let first = c.in_ok-read_shorts.ensures in
    let second = c.in_ok-read_shorts-2.ensures in
    let third = c.in_ok-read_shorts-3.ensures in
    let last = c.read_array.ensures in
    let two = second.words ∙ first.words in
    let three = third.words ∙ two in
    record {
      value = all_arrays_at-powerups c.args.r.now.words _ _ _ c.args.into.now c.args.r.now.left _ _ _ _ _ _ _ _ c.read_array.result first.words two three first.value second.value third.value last.value;
      words = last.words ∙ three;
      place = last.place ∙ (third.place ∙ (second.place ∙ first.place));
    }
