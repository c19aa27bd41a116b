use Rattle.std.proofs.Common.{◌≡◌, ◌<◌, ◌≤◌, ◌/◌, length, sym, ap, ◌∙◌, rules, arith}
use Rattle.std.proofs.lemmas.Bool.Decides.{nat_tests}
use Rattle.q3_words.specs.Hex.{most_handed}
use Rattle.q3_words.proofs.HexWords.{some_bytes, dash_is_none, none_empty, none_capital, MaySpell, none_above, none_refused, some_decoded, all_of}
use Rattle.q3_words.proofs.area.handed_bytes.Goals as goal
use Rattle.q3_words.proofs.area.handed_bytes.Goals.{then-is_empty-via-then-is_empty, then-is_empty-via-else-is_empty+then-has_capital, then-is_empty-via-else-is_empty+else-has_capital+then-word-gt-MOST_HANDED}

pub returns-then-is : goal.returns-then-is
returns-then-is c = dash_is_none most_handed c.args.word.now c.in_ok-of.field-0 (sym c.is.ensures ∙ c.if-is.true) c.in_ok-of.ensures

pub returns-then-is_empty : goal.returns-then-is_empty
returns-then-is_empty c =
    let other = sym c.is.ensures ∙ c.if-is.false in
    elim c.then-is_empty.branch [
      | then-is_empty-via-then-is_empty w ↦ none_empty most_handed c.args.word.now other (grind (arith, nat_tests))
      | then-is_empty-via-else-is_empty+then-has_capital w ↦ none_capital most_handed c.args.word.now other (sym w.has_capital.ensures ∙ w.if-has_capital.true)
      | then-is_empty-via-else-is_empty+else-has_capital+then-word-gt-MOST_HANDED w ↦
          let some : 0 < length c.args.word.now = grind (arith, nat_tests) in
          none_above most_handed c.args.word.now (record { other = other; some = some; small = sym w.has_capital.ensures ∙ w.if-has_capital.false }) (grind (arith, nat_tests))
    ]

pub returns-then-is_err : goal.returns-then-is_err
returns-then-is_err c =
    let some : 0 < length c.args.word.now = grind (arith, nat_tests) in
    let may : MaySpell c.args.word.now = record { other = sym c.is.ensures ∙ c.if-is.false; some = some; small = sym c.has_capital.ensures ∙ c.if-has_capital.false } in
    let lent : length c.as_mut_slice.result.now ≡ length c.args.word.now / 2 = search rules in
    none_refused most_handed c.args.word.now (length c.as_mut_slice.result.now) c.decode_to_slice.result c.decode_to_slice.new.out may lent c.decode_to_slice.ensures.value (sym c.is_err.ensures.value ∙ c.if-is_err.true)

pub returns : goal.returns
returns c =
    let some : 0 < length c.args.word.now = grind (arith, nat_tests) in
    let may : MaySpell c.args.word.now = record { other = sym c.is.ensures ∙ c.if-is.false; some = some; small = sym c.has_capital.ensures ∙ c.if-has_capital.false } in
    let few : length c.args.word.now / 2 ≤ most_handed = grind (arith, nat_tests) in
    let lent : length c.as_mut_slice.result.now ≡ length c.args.word.now / 2 = search rules in
    let was = some_decoded most_handed c.args.word.now (length c.as_mut_slice.result.now) c.decode_to_slice.result c.decode_to_slice.new.out may lent (omega arith) c.decode_to_slice.ensures.value (sym c.is_err.ensures.value ∙ c.if-is_err.false) in
    let all = c.keep.ensures ∙ all_of _ c.decode_to_slice.new.out _ (c.in_ok-bytes.ensures.len ∙ sym (was.size ∙ lent)) in
    ap some_bytes all ∙ was.is
