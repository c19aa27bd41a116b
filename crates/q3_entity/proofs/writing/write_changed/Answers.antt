use Rattle.std.proofs.Common.{◌≡◌, [], ◌∷◌, ◌++◌, append_assoc}
use Rattle.q3_bits.specs.Words.{field_bits}
use Rattle.q3_fields.specs.Deltas.{counted_bits}
use Rattle.q3_fields.specs.declared.delta.StateKind.TheVariants.{Entity}
use Rattle.q3_entity.specs.Delta.{opening}
use Rattle.q3_entity.proofs.DeltaTexts.{opening-marks}
use Rattle.q3_entity.proofs.writing.write_changed.Goals as goal

pub returns : goal.returns
returns c =
    let words = c.args.w.now.words in
    let table = c.args.table.now in
    let to = c.args.to.now in
    let delta = counted_bits Entity words table.kinds c.args.count c.args.from.now.words to.words in
    let opened : opening words table to.number ((0, 1) ∷ (1, 1) ∷ []) ≡ field_bits words table.number_bits to.number ++ field_bits words 2 2 = opening-marks words table to.number 2 in
    rw (opened, append_assoc (field_bits words table.number_bits to.number) (field_bits words 2 2) delta) (rw (c.from.ensures, c.from-2.ensures, c.bits.ensures.bits) at c.write_numbered.ensures)
