use Rattle.std.proofs.Common.{◌+◌, ap, ◌∙◌, refl}
use Rattle.q3_savestate.specs.Texts.{strings_after}
use Rattle.q3_savestate.proofs.StringsRead.{ReadsString, is_set, stands, is_step}
use Rattle.q3_savestate.proofs.texts.read_string.Goals as goal

pub unwrap-requires : goal.unwrap-requires
unwrap-requires c =
    let reads : ReadsString c.args.configs.now c.args.least c.room_in.result c.from.result c.args.cursor.now c.short.new.self c.short-2.new.self c.text.new.self c.in_ok-index.index c.in_ok-length.length c.in_ok-text.text.now = record {
      are = c.room_in.ensures.strings;
      empty = c.requires;
      room_is = c.room_in.ensures.room;
      taken_is = c.from.ensures;
      index_read = c.in_ok-index.ensures;
      count_read = c.in_ok-length.ensures;
      text_read = c.in_ok-text.ensures;
    } in
    let is = is_set c.sizes_add_up.ensures reads in
    rw (c.set.ensures.answer, c.from-2.ensures, is.0) refl

pub returns-clause-step : goal.returns-clause-step
returns-clause-step c = λ count.
    let reads : ReadsString c.args.configs.now c.args.least c.room_in.result c.from.result c.args.cursor.now c.short.new.self c.short-2.new.self c.text.new.self c.in_ok-index.index c.in_ok-length.length c.in_ok-text.text.now = record {
      are = c.room_in.ensures.strings;
      empty = c.requires;
      room_is = c.room_in.ensures.room;
      taken_is = c.from.ensures;
      index_read = c.in_ok-index.ensures;
      count_read = c.in_ok-length.ensures;
      text_read = c.in_ok-text.ensures;
    } in
    is_step reads count ∙ ap (λ texts. strings_after count (c.in_ok-index.index + 1) texts c.text.new.self) (stands c.sizes_add_up.ensures reads c.from-2.result c.set.new.self c.from-2.ensures c.set.ensures.strings)
