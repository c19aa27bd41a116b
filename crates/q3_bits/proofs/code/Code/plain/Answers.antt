use Rattle.std.proofs.Common.{◌≡◌, ◌∙◌, ◌+◌, ◌++◌, [], ◌∷◌, List, Bool, map, ℕ, ap, refl, sym, subst, rules, arith}
use Rattle.std.proofs.lemmas.List.{map_push, length_push}
use Rattle.std.proofs.lemmas.List.Elements.{All-nil, All-push}
use Rattle.std.proofs.lemmas.List.FromFn.{map-range_with_len_more}
use Rattle.std.specs.List.{range_with_len}
use Rattle.q3_bits.specs.Bits.{low_bits}
use Rattle.q3_bits.specs.Table.{IsWord, bits_of_word, words_of}
use Rattle.q3_bits.specs.Words.{IsCode, plain_words}
use Rattle.q3_bits.specs.declared.code.Word.{Word}
use Rattle.q3_bits.proofs.CodeText.{plain_is_code}
use Rattle.q3_bits.proofs.code.Code.plain.Goals as goal

pub loop-bits-init : goal.loop-bits-init
loop-bits-init c =
    rw c.in_ok-words.ensures.items (record { count = refl; each = All-nil IsWord; words = refl })

pub loop-bits-preserved : goal.loop-bits-preserved
loop-bits-preserved c =
    let items = c.loop-bits.words.items in
    let word : Word = record { bits = c.loop-bits.bits; length = 8 } in
    let h = c.loop-bits.invariant in
    let t = c.loop-bits-test.true in
    rw c.in_ok-push.ensures.items (record {
      count = length_push items word ∙ ap (λ n. n + 1) h.count;
      each = All-push IsWord items word h.each (record { short = omega arith; fits = omega arith });
      words = map_push bits_of_word items word ∙ ap (λ (ws : List (List Bool)). ws ++ low_bits 8 c.loop-bits.bits ∷ []) h.words ∙ sym (map-range_with_len_more (low_bits 8) 0 c.loop-bits.bits c.loop-bits.bits (omega arith));
    })

-- the words are the plain ones
is_plain : (words : List Word) (count : ℕ) → words_of words ≡ map (low_bits 8) (range_with_len 0 count) → count ≡ 256 → words_of words ≡ plain_words
unfolding plain_words
is_plain words count e all = e ∙ ap (λ n. map (low_bits 8) (range_with_len 0 n)) all

pub returns-clause-words : goal.returns-clause-words
returns-clause-words c = is_plain c.loop-bits.words.items c.loop-bits.bits c.loop-bits.invariant.words (omega arith)

pub returns-clause-is_code : goal.returns-clause-is_code
returns-clause-is_code c =
    subst IsCode (sym (is_plain c.loop-bits.words.items c.loop-bits.bits c.loop-bits.invariant.words (omega arith))) plain_is_code

pub invariant_of-result : goal.invariant_of-result
invariant_of-result c = record {
  each = c.loop-bits.invariant.each;
  is_code = returns-clause-is_code c;
  index = search rules;
}
