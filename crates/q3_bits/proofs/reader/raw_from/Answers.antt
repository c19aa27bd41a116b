use Rattle.std.proofs.Common.{length, refl, sym, arith, inl, inr}
use Rattle.std.proofs.lemmas.Bool.{cases_lt, false≢true}
use Rattle.std.proofs.lemmas.Nat.{one_shl}
use Rattle.q3_bits.specs.Unread.{bits_ahead}
use Rattle.q3_bits.proofs.CodeText.{raw_at_few, raw_at_enough, window_of_word}
use Rattle.q3_bits.proofs.reader.raw_from.Goals as goal

pub returns-then-not-has-clause-bits : goal.returns-then-not-has-clause-bits
returns-then-not-has-clause-bits c =
    let left = bits_ahead c.args.ahead in
    elim (cases_lt (length left) c.args.count) [
      | inl few ↦ sym (raw_at_few c.args.count left few)
      | inr enough ↦ absurd (false≢true (c.if-not-has.ensures.gathered.1 (c.if-not-has.ensures.left.1 enough)))
    ]

pub returns-clause-bits : goal.returns-clause-bits
returns-clause-bits c =
    rw (raw_at_enough c.args.count (bits_ahead c.args.ahead) (c.if-not-has.ensures.left.0 (c.if-not-has.ensures.gathered.0 refl)), one_shl c.args.count 32 (omega arith), window_of_word c.window.result (bits_ahead c.args.ahead) c.args.count c.window.ensures.bits c.requires.few, c.skip.ensures) refl
