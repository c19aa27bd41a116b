use Rattle.std.proofs.Common.{map, length, sym, ◌∙◌}
use Rattle.std.proofs.lemmas.List.{length-map}
use Rattle.q3_text.specs.Texts.{translated}
use Rattle.q3_config.proofs.Places.{put}
use Rattle.q3_config.proofs.table.put_at.Goals as goal

pub returns-clause-texts : goal.returns-clause-texts
returns-clause-texts c =
    let lie = put c.args.bytes.now.items c.args.places.now.items c.args.index (map translated c.args.text.now) (length c.args.text.now) c.requires.within (sym (length-map c.args.text.now translated)) in
    rw (c.extend.ensures.items, c.len.ensures ∙ c.args.bytes.now.ok.0) lie.same
