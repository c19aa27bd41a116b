use Rattle.std.proofs.Common.{◌≡◌, ◌+◌, ℕ, false, true, List, [], ◌∷◌, Option, Some, length, refl, ap, sym, ◌∙◌, rules, arith, length-append}
use Rattle.std.specs.Prelude.{option_map}
use Rattle.q3_words.proofs.Coming.{nothing_begun, begins, nothing_stops, goes, ends_all}
use Rattle.q3_words.proofs.quotes.count_of.Goals as goal

abbrev counted : Option (List ℕ) → Option ℕ
counted found = option_map (λ (bytes : List ℕ). length bytes) found

pub returns-in_err-left : goal.returns-in_err-left
returns-in_err-left c = c.from_residual.ensures ∙ ap counted (nothing_begun c.args.word.now c.in_err-left.ensures)

pub loop-left-init : goal.loop-left-init
loop-left-init c = record { come = ([], begins c.args.word.now c.in_ok-left.left.now c.in_ok-left.ensures, refl); room = grind arith }

pub returns-in_err-left-2 : goal.returns-in_err-left-2
returns-in_err-left-2 c =
    let no : c.is.result ≡ false = search rules in
    c.from_residual-in_err-left-2.ensures ∙ ap counted (nothing_stops c.args.word.now c.loop-left.invariant.come.1 (sym c.is.ensures ∙ no) c.in_err-left-2.ensures.value)

pub loop-left-preserved : goal.loop-left-preserved
loop-left-preserved c =
    let no : c.is.result ≡ false = search rules in
    let come = c.loop-left.invariant.come in
    let front = c.in_ok-left-2.field-0 in
    let more = length-append come.0 (front.0 ∷ []) in
    record {
      come = (_, goes come.1 front.0 front.1.now (sym c.is.ensures ∙ no) c.in_ok-left-2.ensures.value c.in_ok-left-2.ensures.shorter, more ∙ ap (λ (n : ℕ). n + 1) come.2);
      room = (let shorter = c.in_ok-left-2.ensures.shorter in let room = c.loop-left.invariant.room in omega arith);
    }

pub returns : goal.returns
returns c =
    let yes : c.is.result ≡ true = search rules in
    let come = c.loop-left.invariant.come in
    ap (λ (n : ℕ). Some n) (sym come.2) ∙ ap counted (ends_all c.args.word.now come.1 (sym c.is.ensures ∙ yes))
