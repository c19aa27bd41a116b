-- A replay's line that hands nothing in.
use Rattle.std.proofs.Common.{◌≡◌, ℕ, false, List, ◌∷◌, refl}
use Rattle.std.specs.Prelude.{codes}
use Rattle.std.specs.Str.{bytes_eq}
use Rattle.q3_script.specs.declared.cause.ScriptKind.TheVariants.{Replay}
use Rattle.q3_script.specs.Lines.{turn_lines, line_in, line_at}

-- a word that is none of the first ones is one of the others, or none
pub others_turn : (word : List ℕ) (others : List (List ℕ)) → bytes_eq (codes "client") word ≡ false → bytes_eq (codes "port") word ≡ false → bytes_eq (codes "toclient") word ≡ false → bytes_eq (codes "toserver") word ≡ false → bytes_eq (codes "map") word ≡ false → bytes_eq (codes "entity") word ≡ false → bytes_eq (codes "remove") word ≡ false → bytes_eq (codes "baseline") word ≡ false → bytes_eq (codes "player") word ≡ false → bytes_eq (codes "area") word ≡ false → bytes_eq (codes "time") word ≡ false → bytes_eq (codes "config") word ≡ false → bytes_eq (codes "say") word ≡ false → bytes_eq (codes "type") word ≡ false → bytes_eq (codes "move") word ≡ false → line_in turn_lines word others ≡ line_at Replay (word ∷ others)
unfolding line_at
others_turn word others no_client no_port no_toclient no_toserver no_map no_entity no_remove no_baseline no_player no_area no_time no_config no_say no_type no_move = rw (no_client, no_port, no_toclient, no_toserver, no_map, no_entity, no_remove, no_baseline, no_player, no_area, no_time, no_config, no_say, no_type, no_move) refl
