-- The pieces of a change to a config string leave string 1 alone.
use Rattle.std.proofs.Common.{◌≡◌, ℕ, ◌<◌, true, false, List, length, get_or, Option, Some, refl, ap, ◌∙◌, inl}
use Rattle.std.specs.Prelude.{All}
use Rattle.std.specs.List.{range_with_len}
use Rattle.std.proofs.lemmas.Bool.{ne_eqb}
use Rattle.std.proofs.lemmas.List.Elements.{All-map, All-from_get_or}
use Rattle.q3_config.specs.Strings.{places, is_config_byte}
use Rattle.q3_config.specs.Commands.{Change, piece_count, change_text, change_in, config_piece}
use Rattle.q3_config.specs.Laws.{SpelledIsRead, PiecesAreChanges, piece_texts}
use Rattle.q3_slot.specs.Slots.{is_of_index, changes_own}

-- the pieces of a change leave string 1 as it is
pub pieces_own : SpelledIsRead → PiecesAreChanges → (index : ℕ) (text : List ℕ) → (index ≡ 1 → ⊥) → index < places → All (λ byte. is_config_byte byte ≡ true) text
    → All (λ text. changes_own text ≡ false) (piece_texts index text)
unfolding config_piece
pieces_own law are_changes index text other within carried =
    let numbers = range_with_len 0 (piece_count (length text)) in
    All-map (λ text. changes_own text ≡ false) (λ k. change_text (config_piece index text k)) numbers
    (All-from_get_or (λ k. changes_own (change_text (config_piece index text k)) ≡ false) numbers 0 (λ i lt. leaves_own (get_or numbers i 0)))
  where
    leaves_own : (k : ℕ) → changes_own (change_text (config_piece index text k)) ≡ false
    leaves_own k =
        let piece = config_piece index text k in
        let read : change_in (change_text piece) ≡ Some piece = law piece (change_text piece) (are_changes index text k within carried) (inl refl) in
        ap (λ (change : Option Change). is_of_index 1 change) read ∙ ne_eqb index 1 other
