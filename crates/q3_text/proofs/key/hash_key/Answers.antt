use Rattle.std.proofs.Common.{◌≡◌, ◌∙◌, min, length, take, refl, arith}
use Rattle.std.proofs.lemmas.List.{take_min}
use Rattle.q3_text.specs.Keys.{weighted, key_of}
use Rattle.q3_text.proofs.key.hash_key.Goals as goal

pub returns : goal.returns
unfolding key_of
returns c =
    let text = c.args.text.now in
    let least : c.min.result ≡ min 32 (length text) = rw (← c.bytes-bytes.ensures.bytes) (omega (arith, c.min.ensures)) in
    let sum : c.weigh-sum.result ≡ weighted 119 (take 32 text) = c.weigh-sum.ensures ∙ rw (least, c.bytes-bytes.ensures.bytes, take_min) refl in
    rw sum refl
