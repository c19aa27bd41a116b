use Rattle.std.proofs.Common.{◌≡◌, Some, arith, get_or, sym}
use Rattle.std.specs.Prelude.{slice_get}
use Rattle.q3_fields.specs.declared.kind.Kind.TheVariants.{Float}
use Rattle.std.proofs.lemmas.Option.{slice_get-get_or}
use Rattle.std.proofs.lemmas.Result.{err_from_is_err_and}
use Rattle.q3_savestate.proofs.WordsRead.{more, stops, all}
use Rattle.q3_savestate.proofs.entities.read_words.Goals as goal
use Rattle.q3_savestate.proofs.entities.read_words.Goals.{in-Some+in_ok-words, in_default}

pub returns-in_err-words : goal.returns-in_err-words
returns-in_err-words c =
    let p = err_from_is_err_and c.from_residual.result c.from_residual.ensures.1 in
    rw (p.1, p.2) (stops c.args.table.now.kinds c.args.cursor.now c.loop-i.cursor c.loop-i.i c.loop-i.words c.in-Some.kind _ c.loop-i.invariant (omega arith)
    (sym c.in-Some.ensures.kind) c.in_err-words.ensures)

pub loop-i-preserved : goal.loop-i-preserved
loop-i-preserved c =
    let kinds = c.args.table.now.kinds in
    let i = c.loop-i.i in
    elim c.match-kind.branch [
      | in-Some+in_ok-words w ↦ rw (w.words-is, w.cursor-is) (more kinds c.args.cursor.now c.loop-i.cursor _ i c.loop-i.words w.in-Some.kind _ (omega arith) c.loop-i.invariant (omega arith)
          (sym w.in-Some.ensures.kind) w.in_ok-words.ensures)
      | in_default w ↦ absurd (
          let some : slice_get kinds i ≡ Some (get_or kinds i Float) = slice_get-get_or kinds i Float (omega arith) in
          cc w.in_default.ensures.kind)
    ]

pub returns : goal.returns
returns c = all c.args.table.now.kinds c.args.cursor.now c.loop-i.cursor c.loop-i.i c.loop-i.words (omega arith) c.loop-i.invariant (omega arith)
