-- The pieces of a text: they are texts of commands, and in their order they make the change.
use Rattle.std.proofs.Common.{◌≡◌, ℕ, ◌<◌, List, length, get_or, None}
use Rattle.std.specs.Prelude.{IsTrue}
use Rattle.std.specs.List.{All, range_with_len}
use Rattle.std.proofs.lemmas.List.Elements.{All-map, All-from_get_or}
use Rattle.q3_text.specs.Texts.{IsText}
use Rattle.q3_config.specs.Strings.{Strings, places, is_config_byte, admit_fault}
use Rattle.q3_config.specs.Commands.{piece_count, word_of, change_text, config_piece}
use Rattle.q3_config.specs.Laws.{piece_texts}
use Rattle.q3_config.proofs.Faults.{admitted}
use Rattle.q3_config.proofs.Texts.{raw, part, length-part, carried-part, text_of-raw}
use Rattle.q3_text.specs.Laws.{TextLaws}

-- a piece is a text
piece-is_text : (laws : TextLaws) (index : ℕ) (text : List ℕ) (k : ℕ) → index < places → All (λ byte. IsTrue (is_config_byte byte)) text → IsText (change_text (config_piece index text k))
unfolding config_piece
piece-is_text laws index text k within carried =
    let word = word_of (piece_count (length text)) k in
    laws.texts (raw word index (part text k)) _ (text_of-raw laws word index (part text k) within (length-part text k) (carried-part text k carried))

pub pieces-are-texts : (laws : TextLaws) (strings : Strings) (index : ℕ) (text : List ℕ) → admit_fault strings index text ≡ None → All IsText (piece_texts index text)
pieces-are-texts laws strings index text none =
    let may = admitted strings index text none in
    let places = range_with_len 0 (piece_count (length text)) in
    All-map IsText (λ k. change_text (config_piece index text k)) places
    (All-from_get_or (λ k. IsText (change_text (config_piece index text k))) places 0 (λ i lt. piece-is_text laws index text (get_or places i 0) may.within may.carried))
