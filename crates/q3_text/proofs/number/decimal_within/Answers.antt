use Rattle.std.proofs.Common.{◌≡◌, None, Some, sym, ◌∙◌, rules}
use Rattle.q3_text.specs.Decimals.{number_at}
use Rattle.q3_text.proofs.Decimals.{none_from, some_from}
use Rattle.q3_text.proofs.number.decimal_within.Goals as goal

pub returns-in_err-value-clause-value : goal.returns-in_err-value-clause-value
returns-in_err-value-clause-value c =
    let none : None ≡ number_at 0 c.args.high c.args.word.now = search rules in
    let same = none_from c.args.low c.args.high c.args.word.now none in
    search rules

pub returns-clause-value : goal.returns-clause-value
returns-clause-value c =
    let some : Some c.in_ok-value.value ≡ number_at 0 c.args.high c.args.word.now = search rules in
    let same = some_from c.args.low c.args.high c.in_ok-value.value c.args.word.now some in
    search rules
