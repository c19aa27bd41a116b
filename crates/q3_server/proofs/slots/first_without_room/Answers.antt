use Rattle.std.proofs.Common.{◌≡◌, ◌∙◌, ℕ, length, sym, ap, arith}
use Rattle.std.specs.List.{position}
use Rattle.q3_config.specs.Laws.{piece_texts}
use Rattle.q3_slot.specs.Slots.{lacks_places}
use Rattle.q3_server.proofs.Sizes.{few_pieces, counted}
use Rattle.q3_server.proofs.slots.first_without_room.Goals as goal

pub overflow_cast-count : goal.overflow_cast-count
overflow_cast-count c =
    let few = few_pieces (length c.args.text.now) c.requires.short in
    omega (arith, few, c.pieces-count.ensures)

pub returns : goal.returns
returns c =
    let texts = piece_texts c.args.index c.args.text.now in
    let count : c.pieces-count.result ≡ length texts = c.pieces-count.ensures ∙ sym (counted c.args.index c.args.text.now) in
    c.least_without_room.ensures
    ∙ ap (λ (count : ℕ). position (lacks_places count c.size_of_pieces.result) c.args.slots.now) count
    ∙ ap (λ (bytes : ℕ). position (lacks_places (length texts) bytes) c.args.slots.now) c.size_of_pieces.ensures
