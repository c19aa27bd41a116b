use Rattle.std.proofs.Common.{◌≡◌, ◌∙◌, List, Bool, sym, ap}
use Rattle.q3_bits.specs.declared.code.Word.{Word}
use Rattle.q3_bits.specs.Words.{begins_word}
use Rattle.q3_bits.specs.Table.{words_of}
use Rattle.q3_bits.proofs.Causes.{begins_hit, begins_miss, begins_none}
use Rattle.q3_bits.proofs.code.Code.begins_with.Goals as goal

pub returns-then-starts_with : goal.returns-then-starts_with
returns-then-starts_with c = λ bits is spells.
    let words = c.deref-word-items.result.now in
    let none : Word = record { bits = 0; length = 0 } in
    let view : words_of words ≡ c.args.self.now = ap words_of c.deref-word-items.ensures.value ∙ c.self.view_is in
    sym (begins_hit words c.loop-word.word-index bits none c.loop-word-test.true (c.if-starts_with.ensures bits is spells))
    ∙ c.loop-word.invariant bits is spells ∙ ap (λ (ws : List (List Bool)). begins_word ws bits) view

pub loop-word-preserved : goal.loop-word-preserved
loop-word-preserved c = λ bits is spells.
    let words = c.deref-word-items.result.now in
    let none : Word = record { bits = 0; length = 0 } in
    sym (begins_miss words c.loop-word.word-index bits none c.loop-word-test.true (c.if-starts_with.ensures bits is spells))
    ∙ c.loop-word.invariant bits is spells

pub returns : goal.returns
returns c = λ bits is spells.
    let words = c.deref-word-items.result.now in
    let view : words_of words ≡ c.args.self.now = ap words_of c.deref-word-items.ensures.value ∙ c.self.view_is in
    sym (begins_none words c.loop-word.word-index bits c.loop-word-test.false)
    ∙ c.loop-word.invariant bits is spells ∙ ap (λ (ws : List (List Bool)). begins_word ws bits) view
