use Rattle.std.proofs.Common.{refl}
use Rattle.std.proofs.lemmas.Result.{err_from_is_err_and}
use Rattle.q3_savestate.specs.Entities.{words_bytes}
use Rattle.q3_savestate.proofs.entities.write_entity.Goals as goal

pub returns-in_err-write_short-clause-adds : goal.returns-in_err-write_short-clause-adds
returns-in_err-write_short-clause-adds g c =
    let p = err_from_is_err_and c.from_residual.result c.from_residual.ensures.1 in
    rw p.1 (c.texts_follow.ensures.early (words_bytes c.args.table.now.kinds c.args.entity.now.words) c.in_err-write_short.ensures.adds refl)
