use Rattle.std.proofs.Common.{◌≡◌, ◌+◌, ◌<◌, ◌++◌, [], length, take, drop, get_or, false, arith, refl, ap, ◌∙◌, rules}
use Rattle.std.specs.List.{flat_map}
use Rattle.std.proofs.lemmas.Result.{err_from_is_err_and}
use Rattle.byteorder.specs.Endian.{little_bytes}
use Rattle.q3_savestate.specs.Texts.{string_bytes, set_strings}
use Rattle.q3_savestate.proofs.SetStrings.{some_bytes, no_bytes, set_none, unset_more, bytes_more, bytes_split}
use Rattle.q3_savestate.proofs.texts.write_strings.Goals as goal
use Rattle.q3_savestate.proofs.texts.write_strings.Goals.{then-not-is_empty+in_ok-write_string, else-not-is_empty}

pub returns-in_err-write_short-clause-adds : goal.returns-in_err-write_short-clause-adds
returns-in_err-write_short-clause-adds g c =
    let p = err_from_is_err_and c.from_residual.result c.from_residual.ensures.1 in
    let strings = flat_map string_bytes (set_strings 0 c.args.configs.now.texts) in
    rw p.1 (c.texts_follow.ensures.early strings (rw c.count_set.ensures at c.in_err-write_short.ensures.adds) refl)

pub loop-index-init : goal.loop-index-init
loop-index-init g c = record {
  adds = rw set_none (rw c.count_set.ensures at c.in_ok-write_short.ensures.adds);
  cause = c.in_ok-write_short.ensures.cause;
  places = λ h. absurd (omega arith);
}

pub returns-in_err-write_string-clause-adds : goal.returns-in_err-write_string-clause-adds
returns-in_err-write_string-clause-adds g c =
    let p = err_from_is_err_and c.from_residual-in_err-write_string.result c.from_residual-in_err-write_string.ensures.1 in
    let texts = c.args.configs.now.texts in
    let k = c.loop-index.index in
    let count = little_bytes 2 (length (set_strings 0 texts)) in
    let rest = flat_map string_bytes (set_strings (length (take (k + 1) texts)) (drop (k + 1) texts)) in
    let lt : k < length texts = omega (arith, c.get-text.ensures.strings.count) in
    let here : c.get-text.result.now ≡ get_or texts k [] = c.get-text.ensures.string ∙ ap (λ n. get_or texts n []) c.from.ensures in
    let some = some_bytes c.get-text.result.now (get_or texts k []) c.is_empty.result c.is_empty.ensures here c.if-not-is_empty.true in
    rw p.1 (c.texts_follow.ensures.early rest
    (c.texts_follow.ensures.more {all = false} c.loop-index.invariant.adds (rw here at c.in_err-write_string.ensures.adds) refl)
    (ap (λ strings. count ++ strings) (bytes_split string_bytes texts (k + 1) ∙ ap (λ front. front ++ rest) (bytes_more string_bytes texts k lt some))))

pub loop-index-preserved : goal.loop-index-preserved
loop-index-preserved g c =
    let texts = c.args.configs.now.texts in
    let k = c.loop-index.index in
    let count = little_bytes 2 (length (set_strings 0 texts)) in
    let lt : k < length texts = omega (arith, c.get-text.ensures.strings.count) in
    let here : c.get-text.result.now ≡ get_or texts k [] = c.get-text.ensures.string ∙ ap (λ n. get_or texts n []) c.from.ensures in
    elim c.if-not-is_empty.branch [
      | then-not-is_empty+in_ok-write_string w ↦
          let some = some_bytes c.get-text.result.now (get_or texts k []) c.is_empty.result c.is_empty.ensures here w.if-not-is_empty.true in
          record {
            adds = rw w.out-is (c.texts_follow.ensures.more c.loop-index.invariant.adds (rw here at w.in_ok-write_string.ensures.adds) (ap (λ strings. count ++ strings) (bytes_more string_bytes texts k lt some)));
            cause = search rules;
            places = λ h. c.get-text.ensures.strings.count;
          }
      | else-not-is_empty w ↦
          let none = no_bytes c.get-text.result.now (get_or texts k []) c.is_empty.result c.is_empty.ensures here w.if-not-is_empty.false in
          record {
            adds = rw (w.out-is, unset_more texts k lt none) c.loop-index.invariant.adds;
            cause = rw w.out-is c.loop-index.invariant.cause;
            places = λ h. c.get-text.ensures.strings.count;
          }
    ]
