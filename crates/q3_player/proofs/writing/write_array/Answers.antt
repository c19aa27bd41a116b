use Rattle.std.proofs.Common.{◌≡◌, ◌∙◌, ◌++◌, ◌≢◌, refl, sym, append_assoc}
use Rattle.std.proofs.lemmas.Result.{err_from_is_err_and}
use Rattle.q3_bits.specs.Words.{field_bits}
use Rattle.q3_player.specs.Arrays.{changes, mask_of}
use Rattle.q3_player.specs.Delta.{values_bits, array_bits}
use Rattle.q3_player.proofs.Changes.{array_text_none, array_text_some}
use Rattle.q3_player.proofs.writing.write_array.Goals as goal

pub returns-then-mask-eq0 : goal.returns-then-mask-eq0
returns-then-mask-eq0 c =
    rw (array_text_none c.args.w.now.words c.args.kind (changes c.args.from.now c.args.to.now) (sym c.changed_mask-mask.ensures ∙ c.if-mask-eq0.true)) c.put.ensures.writes

pub returns-in_err-put : goal.returns-in_err-put
returns-in_err-put c =
    let words = c.args.w.now.words in
    let changed = changes c.args.from.now c.args.to.now in
    let p = err_from_is_err_and c.from_residual.result c.from_residual.ensures.1 in
    let some : mask_of changed ≢ 0 = λ e. c.if-mask-eq0.false (c.changed_mask-mask.ensures ∙ e) in
    let text : array_bits words c.args.kind changed ≡ field_bits words 1 1 ++ (field_bits words 16 (mask_of changed) ++ values_bits words c.args.kind changed) = array_text_some words c.args.kind changed some ∙ append_assoc (field_bits words 1 1) (field_bits words 16 (mask_of changed)) (values_bits words c.args.kind changed) in
    rw (p.1, p.2) (c.texts_are_written.ensures.early _ _ _ _ _ _ text c.in_err-put.ensures.writes)

pub returns-in_err-put-2 : goal.returns-in_err-put-2
returns-in_err-put-2 c =
    let words = c.args.w.now.words in
    let changed = changes c.args.from.now c.args.to.now in
    let law = c.texts_are_written.ensures in
    let p = err_from_is_err_and c.from_residual-in_err-put-2.result c.from_residual-in_err-put-2.ensures.1 in
    let some : mask_of changed ≢ 0 = λ e. c.if-mask-eq0.false (c.changed_mask-mask.ensures ∙ e) in
    let mask = rw c.changed_mask-mask.ensures at c.in_err-put-2.ensures.writes in
    let both = law.then _ _ _ (field_bits words 1 1) (field_bits words 1 1 ++ field_bits words 16 (mask_of changed)) (λ ws. field_bits ws 16 (mask_of changed)) _ refl c.in_ok-put.ensures.writes mask in
    rw (p.1, p.2) (law.early _ _ _ _ _ _ (array_text_some words c.args.kind changed some) both)

pub returns : goal.returns
returns c =
    let words = c.args.w.now.words in
    let changed = changes c.args.from.now c.args.to.now in
    let law = c.texts_are_written.ensures in
    let some : mask_of changed ≢ 0 = λ e. c.if-mask-eq0.false (c.changed_mask-mask.ensures ∙ e) in
    let mask = rw c.changed_mask-mask.ensures at c.in_ok-put-2.ensures.writes in
    let both = law.then _ _ _ (field_bits words 1 1) (field_bits words 1 1 ++ field_bits words 16 (mask_of changed)) (λ ws. field_bits ws 16 (mask_of changed)) _ refl c.in_ok-put.ensures.writes mask in
    law.then _ _ _ _ (array_bits words c.args.kind changed) (λ ws. values_bits ws c.args.kind changed) _ (array_text_some words c.args.kind changed some) both c.write_values.ensures
