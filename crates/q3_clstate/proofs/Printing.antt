-- The lines of a snapshot, in parts.
use Rattle.std.proofs.Common.{◌≡◌, ℕ, List, [], ◌∷◌, ◌++◌, codes, decimal, refl, append_assoc}
use Rattle.std.specs.List.{concat, flat_map}
use Rattle.std.proofs.lemmas.List.{append-nil}
use Rattle.q3_io.specs.Print.{hex_word}
use Rattle.q3_player.specs.Report.{player_text}
use Rattle.q3_entity.specs.declared.state.EntityState.{EntityState}
use Rattle.q3_entity.specs.Report.{fields_text}
use Rattle.q3_player.specs.declared.head.SnapHead.{SnapHead}
use Rattle.q3_entity_ring.specs.Snapshot.{Snapshot}
use Rattle.q3_clstate.specs.Report.{start_text, head_text, entity_text, snapshot_text}

three_in_parts : (a b d : List ℕ) → concat (a ∷ b ∷ d ∷ []) ≡ a ++ (b ++ d)
three_in_parts a b d = simp (append_assoc, append-nil) refl

four_in_parts : (a b d e : List ℕ) → concat (a ∷ b ∷ d ∷ e ∷ []) ≡ a ++ (b ++ (d ++ e))
four_in_parts a b d e = simp (append_assoc, append-nil) refl

-- the head is what stands in front of the area, the area, and the beginning of the player's line
pub head_in_parts : (head : SnapHead) → head_text head ≡ start_text head ++ (hex_word head.area.items ++ codes "\n+ player")
head_in_parts head = three_in_parts (start_text head) (hex_word head.area.items) (codes "\n+ player")

-- a snapshot is what stands in front of the player, the player, the end of its line, and the entities
pub snapshot_in_parts : (snapshot : Snapshot) → snapshot_text snapshot
    ≡ head_text snapshot.head ++ (player_text snapshot.head.player ++ (codes "\n" ++ flat_map entity_text snapshot.entities))
snapshot_in_parts snapshot = four_in_parts (head_text snapshot.head) (player_text snapshot.head.player) (codes "\n") (flat_map entity_text snapshot.entities)

three : (a b fields end : List ℕ) → concat (a ∷ b ∷ fields ∷ end ∷ []) ≡ concat (a ∷ b ∷ []) ++ (fields ++ end)
three a b fields end = simp (append_assoc, append-nil) refl

-- an entity's line
pub entity_in_parts : (entity : EntityState) → entity_text entity ≡ concat (codes "+ entity " ∷ decimal entity.number ∷ []) ++ (fields_text entity.words ++ codes "\n")
entity_in_parts entity = three (codes "+ entity ") (decimal entity.number) (fields_text entity.words) (codes "\n")
