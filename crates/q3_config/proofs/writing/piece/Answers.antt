use Rattle.std.proofs.Common.{List, ℕ, length, map, ap, ◌∙◌}
use Rattle.q3_text.specs.Texts.{translated}
use Rattle.q3_config.specs.Commands.{Word, change_text, config_piece, piece_count, word_of}
use Rattle.q3_config.proofs.Texts.{length-part, carried-part}
use Rattle.q3_config.proofs.writing.piece.Goals as goal

pub spell-requires-clause-chars : goal.spell-requires-clause-chars
spell-requires-clause-chars c = rw c.part_at.ensures (carried-part c.args.text.now c.args.k c.requires.chars)

pub spell-requires-clause-short : goal.spell-requires-clause-short
spell-requires-clause-short c = rw c.part_at.ensures (length-part c.args.text.now c.args.k)

pub returns : goal.returns
unfolding config_piece
returns c =
    c.spell.ensures
    ∙ ap (λ (word : Word). change_text (record { word = word; index = c.args.index; text = map translated c.part_at.result.now })) (c.word_at.ensures ∙ ap (λ n. word_of n c.args.k) c.pieces.ensures)
    ∙ ap (λ (text : List ℕ). change_text (record { word = word_of (piece_count (length c.args.text.now)) c.args.k; index = c.args.index; text = map translated text })) c.part_at.ensures
