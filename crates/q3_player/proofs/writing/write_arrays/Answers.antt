use Rattle.std.proofs.Common.{◌≡◌, ◌∙◌, ◌++◌, false, List, refl, sym}
use Rattle.std.specs.List.{flat_map, list_all}
use Rattle.q3_bits.specs.Words.{field_bits}
use Rattle.q3_fields.specs.declared.kind.Kind.{Kind}
use Rattle.q3_fields.specs.Places.{Change}
use Rattle.q3_player.specs.Arrays.{player_changes}
use Rattle.q3_player.specs.Delta.{is_empty, array_bits, arrays_bits}
use Rattle.q3_player.proofs.writing.write_arrays.Goals as goal

pub returns : goal.returns
unfolding arrays_bits
returns c =
    let words = c.args.w.now.words in
    let changed = player_changes c.args.from.now c.args.to.now in
    let some : list_all (λ (array : Kind × List Change). is_empty array.1) changed ≡ false = sym c.same_arrays.ensures ∙ c.if-same_arrays.false in
    rw some
    (c.texts_are_written.ensures.then _ _ _ (field_bits words 1 1) (field_bits words 1 1 ++ flat_map (λ (array : Kind × List Change). array_bits words array.0 array.1) changed)
    (λ ws. flat_map (λ (array : Kind × List Change). array_bits ws array.0 array.1) changed) _ refl c.in_ok-put.ensures.writes c.write_each.ensures)
