use Rattle.std.proofs.Common.{sym, ◌∙◌}
use Rattle.q3_words.proofs.Fronts.{capital_refused, digits_refused, digits_taken}
use Rattle.q3_words.proofs.quotes.hex_byte.Goals as goal

pub returns-then-has_capital : goal.returns-then-has_capital
returns-then-has_capital c = capital_refused c.args.high c.args.low (sym c.has_capital.ensures ∙ c.if-has_capital.true)

pub returns-then-is_err : goal.returns-then-is_err
returns-then-is_err c =
    digits_refused c.args.high c.args.low c.decode_to_slice.result c.decode_to_slice.new.out
    (sym c.has_capital.ensures ∙ c.if-has_capital.false) c.decode_to_slice.ensures.value (sym c.is_err.ensures.value ∙ c.if-is_err.true)

pub returns : goal.returns
returns c =
    digits_taken c.args.high c.args.low c.decode_to_slice.result c.decode_to_slice.new.out
    (sym c.has_capital.ensures ∙ c.if-has_capital.false) c.decode_to_slice.ensures.value (sym c.is_err.ensures.value ∙ c.if-is_err.false)
