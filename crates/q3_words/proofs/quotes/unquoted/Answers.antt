use Rattle.std.proofs.Common.{◌≡◌, ◌<◌, false, true, length, sym, ◌∙◌, rules, arith}
use Rattle.std.proofs.lemmas.Bool.Decides.{nat_tests}
use Rattle.q3_words.proofs.Coming.{not_begun, begins, stops, fills, goes, ends}
use Rattle.q3_words.proofs.quotes.unquoted.Goals as goal

pub returns-in_err-left : goal.returns-in_err-left
returns-in_err-left g c = search (rules, not_begun g.row.MOST c.args.word.now)

pub loop-left-init : goal.loop-left-init
loop-left-init g c = record { came = rw c.new-bytes.ensures (begins c.args.word.now c.in_ok-left.left.now c.in_ok-left.ensures); few = rw c.new-bytes.ensures (omega arith) }

pub returns-in_err-byte : goal.returns-in_err-byte
returns-in_err-byte g c =
    let no : c.is.result ≡ false = search rules in
    search (rules, stops g.row.MOST c.args.word.now c.loop-left.invariant.came (sym c.is.ensures ∙ no))

pub returns-then-is_full : goal.returns-then-is_full
returns-then-is_full g c =
    let no : c.is.result ≡ false = search rules in
    let full : length c.loop-left.bytes.items ≡ g.row.MOST = grind (arith, nat_tests) in
    fills g.row.MOST c.args.word.now c.loop-left.invariant.came c.in_ok-byte.byte c.in_ok-byte.rest.now (sym c.is.ensures ∙ no) c.in_ok-byte.ensures.value c.in_ok-byte.ensures.shorter full

pub loop-left-preserved : goal.loop-left-preserved
loop-left-preserved g c =
    let no : c.is.result ≡ false = search rules in
    let room : length c.loop-left.bytes.items < g.row.MOST = grind (arith, nat_tests) in
    record {
      came = rw c.push.ensures.items (goes c.loop-left.invariant.came c.in_ok-byte.byte c.in_ok-byte.rest.now (sym c.is.ensures ∙ no) c.in_ok-byte.ensures.value c.in_ok-byte.ensures.shorter);
      few = omega arith;
    }

pub returns : goal.returns
returns g c =
    let yes : c.is.result ≡ true = search rules in
    ends g.row.MOST c.args.word.now c.loop-left.invariant.came (sym c.is.ensures ∙ yes) c.loop-left.invariant.few
