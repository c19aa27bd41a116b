use Rattle.std.proofs.Common.{◌≡◌, ℕ, ◌<◌, ◌≤◌, ◌/◌, List, length, sym, ap, ◌∙◌, arith}
use Rattle.std.proofs.lemmas.Bool.Decides.{nat_tests}
use Rattle.q3_words.proofs.HexWords.{some_bytes, dash_is_none, MaySpell, none_above, size_of_cut, none_refused, some_decoded, refilled}
use Rattle.q3_words.proofs.area.hex_bytes.Goals as goal

pub returns-then-is : goal.returns-then-is
returns-then-is g c = dash_is_none g.row.MOST c.args.word.now c.new.result.items (sym c.is.ensures ∙ c.if-is.true) c.new.ensures

pub returns-then-count : goal.returns-then-count
returns-then-count g c =
    let some : 0 < length c.args.word.now = grind (arith, nat_tests) in
    let may : MaySpell c.args.word.now = record { other = sym c.is.ensures ∙ c.if-is.false; some = some; small = sym c.has_capital.ensures ∙ c.if-has_capital.false } in
    none_above g.row.MOST c.args.word.now may (grind (arith, nat_tests))

pub returns-then-is_err : goal.returns-then-is_err
returns-then-is_err g c =
    let some : 0 < length c.args.word.now = grind (arith, nat_tests) in
    let may : MaySpell c.args.word.now = record { other = sym c.is.ensures ∙ c.if-is.false; some = some; small = sym c.has_capital.ensures ∙ c.if-has_capital.false } in
    let few : length c.args.word.now / 2 ≤ g.row.MOST = grind (arith, nat_tests) in
    let places = c.from-bytes.ensures.1 in
    let half = size_of_cut (length c.args.word.now / 2) c.from-bytes.result.items c.truncate.new.self.items c.truncate.ensures.items (omega arith) in
    let lent : length c.as_mut_slice.result.now ≡ length c.args.word.now / 2 = ap (λ (xs : List ℕ). length xs) c.as_mut_slice.ensures.value ∙ half in
    none_refused g.row.MOST c.args.word.now (length c.as_mut_slice.result.now) c.decode_to_slice.result c.decode_to_slice.new.out may lent c.decode_to_slice.ensures.value (sym c.is_err.ensures.value ∙ c.if-is_err.true)

pub returns : goal.returns
returns g c =
    let some : 0 < length c.args.word.now = grind (arith, nat_tests) in
    let may : MaySpell c.args.word.now = record { other = sym c.is.ensures ∙ c.if-is.false; some = some; small = sym c.has_capital.ensures ∙ c.if-has_capital.false } in
    let few : length c.args.word.now / 2 ≤ g.row.MOST = grind (arith, nat_tests) in
    let places = c.from-bytes.ensures.1 in
    let half = size_of_cut (length c.args.word.now / 2) c.from-bytes.result.items c.truncate.new.self.items c.truncate.ensures.items (omega arith) in
    let lent : length c.as_mut_slice.result.now ≡ length c.args.word.now / 2 = ap (λ (xs : List ℕ). length xs) c.as_mut_slice.ensures.value ∙ half in
    let was = some_decoded g.row.MOST c.args.word.now (length c.as_mut_slice.result.now) c.decode_to_slice.result c.decode_to_slice.new.out may lent (omega arith) c.decode_to_slice.ensures.value (sym c.is_err.ensures.value ∙ c.if-is_err.false) in
    let size : length c.decode_to_slice.new.out ≡ length c.truncate.new.self.items = was.size ∙ ap (λ (xs : List ℕ). length xs) c.as_mut_slice.ensures.value in
    ap some_bytes (refilled c.truncate.new.self.items c.decode_to_slice.new.out size) ∙ was.is
