use Rattle.q3_text.proofs.Numerals.{decimals-are-numbers}
use Rattle.q3_text.proofs.laws.decimals_are_numbers.Goals as goal

pub returns : goal.returns
returns c = decimals-are-numbers
