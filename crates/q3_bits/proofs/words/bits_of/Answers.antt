use Rattle.std.proofs.Common.{refl, ◌∙◌, arith}
use Rattle.std.proofs.lemmas.Grind.{pow_more}
use Rattle.std.proofs.lemmas.Nat.{one_shl}
use Rattle.q3_bits.proofs.Numbers.{number_of-nil}
use Rattle.q3_bits.proofs.WordTexts.{text_more_one, text_more_zero, text_whole}
use Rattle.q3_bits.proofs.words.bits_of.Goals as goal
use Rattle.q3_bits.proofs.words.bits_of.Goals.{then-letters-k-eq49, else-letters-k-eq49}

pub loop-k-init : goal.loop-k-init
loop-k-init c = record { spells = rw number_of-nil refl; fits = omega arith }

pub loop-k-preserved : goal.loop-k-preserved
loop-k-preserved c =
    let text = c.args.letters.now in
    let k = c.loop-k.k in
    let before = c.loop-k.invariant in
    elim c.if-letters-k-eq49.branch [
      | then-letters-k-eq49 w ↦
          let more = text_more_one text k c.loop-k-test.true w.if-letters-k-eq49.true in
          record { spells = omega (arith, w.bits-is, before.spells, more, one_shl k 32 (omega arith)); fits = omega (arith, w.bits-is, before.fits, one_shl k 32 (omega arith), pow_more 2 k) }
      | else-letters-k-eq49 w ↦
          let more = text_more_zero text k c.loop-k-test.true w.if-letters-k-eq49.false in
          record { spells = omega (arith, w.bits-is, before.spells, more); fits = omega (arith, w.bits-is, before.fits, pow_more 2 k) }
    ]

pub returns-clause-spells : goal.returns-clause-spells
returns-clause-spells c = c.loop-k.invariant.spells ∙ text_whole c.args.letters.now c.loop-k.k c.loop-k-test.false
