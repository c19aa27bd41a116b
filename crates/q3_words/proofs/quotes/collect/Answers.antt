use Rattle.std.proofs.Common.{◌≡◌, false, true, sym, ◌∙◌, rules}
use Rattle.q3_words.proofs.Coming.{nothing_begun, begins, nothing_stops, goes, ends_all}
use Rattle.q3_words.proofs.quotes.collect.Goals as goal

pub returns-in_default : goal.returns-in_default
returns-in_default c = nothing_begun c.args.word.now c.in_default.ensures

pub loop-left-init : goal.loop-left-init
loop-left-init c = rw c.in_ok-bytes.ensures.items (begins c.args.word.now c.in-Some.left.now c.in-Some.ensures)

pub returns-in_default-front : goal.returns-in_default-front
returns-in_default-front c =
    let no : c.is.result ≡ false = search rules in
    nothing_stops c.args.word.now c.loop-left.invariant (sym c.is.ensures ∙ no) c.in_default-front.ensures.value

pub loop-left-preserved : goal.loop-left-preserved
loop-left-preserved c =
    let no : c.is.result ≡ false = search rules in
    rw c.in_ok-push.ensures.items (goes c.loop-left.invariant c.in-Some-front.byte c.in-Some-front.rest.now (sym c.is.ensures ∙ no) c.in-Some-front.ensures.value c.in-Some-front.ensures.shorter)

pub returns : goal.returns
returns c =
    let yes : c.is.result ≡ true = search rules in
    rw c.keep.ensures (ends_all c.args.word.now c.loop-left.invariant (sym c.is.ensures ∙ yes))
