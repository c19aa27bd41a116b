use Rattle.std.proofs.Common.{◌≡◌, ◌≤◌, length, List, ℕ, ap, ◌∙◌, rules, arith}
use Rattle.q3_config.specs.Strings.{Strings, no_strings, with_string, after_set, set_fault}
use Rattle.q3_map.specs.Map.{id_text}
use Rattle.q3_map.proofs.Strings.{alone_fits}
use Rattle.q3_map.proofs.map.tell_id.Goals as goal

pub returns : goal.returns
returns c =
    let text = c.deref.result.now in
    let is : text ≡ id_text c.args.id = search rules in
    let short : length text ≤ 32 = omega (arith, c.extend.ensures.length, c.extend-2.ensures.length, ap (λ (xs : List ℕ). length xs) c.deref.ensures.0) in
    let cleared : c.clear.new.self ≡ no_strings = c.clear.ensures in
    c.set.ensures.strings
    ∙ ap (λ (strings : Strings). after_set strings 1 text (set_fault strings 1 text)) cleared
    ∙ ap (after_set no_strings 1 text) (alone_fits 1 text (omega arith) short)
    ∙ ap (with_string no_strings 1) is
