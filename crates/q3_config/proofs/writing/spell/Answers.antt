use Rattle.std.proofs.Common.{◌≡◌, map, Ok, rules, refl, sym, ap, ◌∙◌}
use Rattle.q3_text.specs.Texts.{translated, text_of}
use Rattle.q3_config.specs.Commands.{change_text}
use Rattle.q3_config.specs.Parts.{meant}
use Rattle.q3_config.proofs.Texts.{built, text_of-raw}
use Rattle.q3_config.proofs.writing.spell.Goals as goal

pub unwrap-requires : goal.unwrap-requires
unwrap-requires c =
    let all = built (meant c.args.word) c.args.index c.new-bytes.result.items c.extend.new.bytes.items c.extend-2.new.bytes.items c.extend-3.new.bytes.items c.extend-4.new.bytes.items c.extend-5.new.bytes.items c.extend-6.new.bytes.items
    c.deref.result.now c.spelled.result.now c.as_bytes.result.now c.args.text.now c.spelled.ensures (c.as_bytes.ensures.value ∙ c.format.ensures.text) (search rules) c.extend.ensures.items c.extend-2.ensures.items
    c.extend-3.ensures.items c.extend-4.ensures.items c.extend-5.ensures.items c.extend-6.ensures.items c.deref.ensures.0 in
    let whole : c.of.result ≡ Ok (change_text (record { word = meant c.args.word; index = c.args.index; text = map translated c.args.text.now })) =
    c.of.ensures.exact ∙ ap text_of all ∙ text_of-raw c.text_laws.ensures (meant c.args.word) c.args.index c.args.text.now c.requires.index c.requires.short c.requires.chars in
    rw whole refl

pub returns : goal.returns
returns c =
    let all = built (meant c.args.word) c.args.index c.new-bytes.result.items c.extend.new.bytes.items c.extend-2.new.bytes.items c.extend-3.new.bytes.items c.extend-4.new.bytes.items c.extend-5.new.bytes.items c.extend-6.new.bytes.items
    c.deref.result.now c.spelled.result.now c.as_bytes.result.now c.args.text.now c.spelled.ensures (c.as_bytes.ensures.value ∙ c.format.ensures.text) (search rules) c.extend.ensures.items c.extend-2.ensures.items
    c.extend-3.ensures.items c.extend-4.ensures.items c.extend-5.ensures.items c.extend-6.ensures.items c.deref.ensures.0 in
    let whole : c.of.result ≡ Ok (change_text (record { word = meant c.args.word; index = c.args.index; text = map translated c.args.text.now })) =
    c.of.ensures.exact ∙ ap text_of all ∙ text_of-raw c.text_laws.ensures (meant c.args.word) c.args.index c.args.text.now c.requires.index c.requires.short c.requires.chars in
    cc (sym c.unwrap.ensures ∙ whole)
