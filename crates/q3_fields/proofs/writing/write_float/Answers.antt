use Rattle.std.proofs.Common.{◌≡◌, ◌+◌, ◌*◌, ◌^◌, ℕ, ◌++◌, ℤ, Bool, List, Option, Some, None, refl, sym, ap, subst, ◌∙◌, append_assoc, arith}
use Rattle.std.specs.Prelude.{option_map}
use Rattle.std.proofs.lemmas.Nat.{one_shl}
use Rattle.q3_bits.specs.Words.{field_bits}
use Rattle.q3_bits.specs.Streams.{Writes}
use Rattle.q3_fields.specs.Floats.{small_float}
use Rattle.q3_fields.specs.Texts.{biased, float_bits}
use Rattle.q3_fields.proofs.writing.write_float.Goals as goal

-- a float that isn't small, and one that is
in_full : (words : List (List Bool)) (word : ℕ) (o : Option ℤ) → None ≡ option_map biased o → field_bits words 1 1 ++ field_bits words 32 word ≡ float_bits words word o
in_full words word None e = refl
in_full words word (Some k) e = absurd cc

in_13 : (words : List (List Bool)) (word carried : ℕ) (o : Option ℤ) → Some carried ≡ option_map biased o → field_bits words 1 0 ++ field_bits words 13 carried ≡ float_bits words word o
in_13 words word carried None e = absurd cc
in_13 words word carried (Some k) e = (let is : carried ≡ biased k = cc in rw is refl)

-- a mark more is joined with those before it
joined : (a b text both : List Bool) → both ≡ a ++ b → both ++ text ≡ a ++ (b ++ text)
joined a b text both is = rw is (append_assoc a b text)

pub returns-in_default : goal.returns-in_default
returns-in_default c =
    let words = c.args.w.now.words in
    let mark = c.args.mark in
    let count = c.args.count in
    let shift = one_shl count 32 (omega (arith, c.requires.few)) in
    let one : mark + 1 * 2 ^ count ≡ mark + 2 ^ count = omega arith in
    let both = c.marks_are_joined.ensures.join words count 1 mark 1 (omega (arith, c.requires.few)) c.requires.fits in
    let text = joined (field_bits words count mark) (field_bits words 1 1) (field_bits words 32 c.args.word) (field_bits words (count + 1) (mark + 1 * 2 ^ count)) both
    ∙ ap (λ (x : List Bool). field_bits words count mark ++ x) (in_full words c.args.word (small_float c.args.word) (sym c.in_default.is ∙ c.carried_in_13.ensures)) in
    let writes = rw (shift, ← one) at c.put_marked.ensures.writes in
    subst (λ (x : List Bool). Writes c.args.w.now c.put_marked.new.self x c.put_marked.result) text writes

pub returns : goal.returns
returns c =
    let words = c.args.w.now.words in
    let mark = c.args.mark in
    let count = c.args.count in
    let same : mark + 0 * 2 ^ count ≡ mark = omega arith in
    let both = c.marks_are_joined.ensures.join words count 1 mark 0 (omega (arith, c.requires.few)) c.requires.fits in
    let text = joined (field_bits words count mark) (field_bits words 1 0) (field_bits words 13 c.in-Some.carried) (field_bits words (count + 1) mark) (rw same at both)
    ∙ ap (λ (x : List Bool). field_bits words count mark ++ x) (in_13 words c.args.word c.in-Some.carried (small_float c.args.word) (sym c.in-Some.is ∙ c.carried_in_13.ensures)) in
    subst (λ (x : List Bool). Writes c.args.w.now c.put_marked-2.new.self x c.put_marked-2.result) text c.put_marked-2.ensures.writes
