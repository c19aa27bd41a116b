use Rattle.std.proofs.Common.{◌≡◌, ◌∙◌, ◌≤◌, ◌%◌, ◌*◌, ◌^◌, ℕ, Bool, List, get_or, sym, ap, subst, arith}
use Rattle.std.specs.List.{All}
use Rattle.std.proofs.lemmas.Nat.{one_shl}
use Rattle.q3_bits.specs.declared.code.Word.{Word}
use Rattle.q3_bits.specs.Words.{byte_from}
use Rattle.q3_bits.specs.Table.{words_of, IsWord}
use Rattle.q3_bits.proofs.CodeText.{word_hit, word_miss, word_end}
use Rattle.q3_bits.proofs.code.Code.search.Goals as goal
use Rattle.q3_bits.proofs.code.Code.search.Goals.{else-length-count-via-then-length-count+else-window-length, else-length-count-via-else-length-count}

pub returns-then-window-length-clause-found : goal.returns-then-window-length-clause-found
returns-then-window-length-clause-found c = λ left within spells.
    let words = c.deref-word-items.result.now in
    let none : Word = record { bits = 0; length = 0 } in
    let is = subst (λ (ws : List Word). All IsWord ws) (sym c.deref-word-items.ensures.value) c.self.invariant.each c.loop-byte.byte none c.loop-byte-test.true in
    let view : words_of words ≡ c.args.self.now = ap words_of c.deref-word-items.ensures.value ∙ c.self.view_is in
    let long = (get_or words c.loop-byte.byte none).length in
    let short : long ≤ c.args.count = omega (arith, c.if-length-count.true, c.from-length.ensures) in
    let shift : (1 * 2 ^ c.from-length.result) % 2 ^ 32 ≡ 2 ^ long = one_shl c.from-length.result 32 (omega (arith, is.short, c.from-length.ensures)) ∙ ap (λ (n : ℕ). 2 ^ n) c.from-length.ensures in
    let same = rw shift at c.if-window-length.true in
    sym (word_hit words c.loop-byte.byte c.args.count c.args.window left none c.loop-byte-test.true is within spells short same)
    ∙ c.loop-byte.invariant left within spells ∙ ap (λ (ws : List (List Bool)). byte_from 0 ws left) view

pub loop-byte-preserved : goal.loop-byte-preserved
loop-byte-preserved c = λ left within spells.
    let words = c.deref-word-items.result.now in
    let none : Word = record { bits = 0; length = 0 } in
    let is = subst (λ (ws : List Word). All IsWord ws) (sym c.deref-word-items.ensures.value) c.self.invariant.each c.loop-byte.byte none c.loop-byte-test.true in
    let long = (get_or words c.loop-byte.byte none).length in
    let shift : (1 * 2 ^ c.from-length.result) % 2 ^ 32 ≡ 2 ^ long = one_shl c.from-length.result 32 (omega (arith, is.short, c.from-length.ensures)) ∙ ap (λ (n : ℕ). 2 ^ n) c.from-length.ensures in
    let passed = word_miss words c.loop-byte.byte c.args.count c.args.window left none c.loop-byte-test.true is within spells
    (λ short same. elim c.else-length-count.branch [
      | else-length-count-via-then-length-count+else-window-length w ↦ w.if-window-length.false (rw shift same)
      | else-length-count-via-else-length-count w ↦ omega (arith, w.if-length-count.false, c.from-length.ensures)
    ]) in
    sym passed ∙ c.loop-byte.invariant left within spells

pub returns-clause-found : goal.returns-clause-found
returns-clause-found c = λ left within spells.
    let words = c.deref-word-items.result.now in
    let view : words_of words ≡ c.args.self.now = ap words_of c.deref-word-items.ensures.value ∙ c.self.view_is in
    sym (word_end words c.loop-byte.byte left c.loop-byte-test.false) ∙ c.loop-byte.invariant left within spells ∙ ap (λ (ws : List (List Bool)). byte_from 0 ws left) view
