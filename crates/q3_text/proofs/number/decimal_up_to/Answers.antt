use Rattle.std.proofs.Common.{◌≡◌, ◌+◌, ◌-◌, ◌^◌, leb, Some, sym, ap, ◌∙◌, arith}
use Rattle.std.specs.Bool.{then_some}
use Rattle.std.proofs.lemmas.Bool.{le-leb}
use Rattle.q3_text.specs.Decimals.{number_at}
use Rattle.q3_text.proofs.Decimals.{none_at_byte, none_above, some_at_digits, value_of_more}
use Rattle.q3_text.proofs.number.decimal_up_to.Goals as goal

pub returns-then-not-is_ascii_digit-clause-value : goal.returns-then-not-is_ascii_digit-clause-value
returns-then-not-is_ascii_digit-clause-value c = none_at_byte _ _ c.args.word.now c.loop-byte.byte-index (omega arith) (cc)

pub returns-then-value-from-clause-value : goal.returns-then-value-from-clause-value
returns-then-value-from-clause-value c = none_above _ _ c.args.word.now (c.loop-byte.byte-index + 1) (omega (arith, value_of_more c.args.word.now c.loop-byte.byte-index))

pub returns-clause-value : goal.returns-clause-value
returns-clause-value c =
    let value = c.loop-byte.value in
    let least : then_some (leb 0 value) value ≡ Some value = ap (λ b. then_some b value) (le-leb 0 value (omega arith)) in
    let spelled : then_some (leb 0 value) value ≡ number_at 0 c.args.high c.args.word.now = grind (arith, some_at_digits) in
    sym least ∙ spelled
