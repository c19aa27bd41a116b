-- Texts that are cut at a byte.
use Rattle.std.specs.Prelude.{ℕ, ◌+◌, ◌==◌, not, Bool, List, take, drop, position, Option, option_map}
use Rattle.std.specs.List.{list_all}

-- what stands before and after the first such byte, if there is one
unfoldable pub cut_at : ℕ → List ℕ → Option (List ℕ × List ℕ)
cut_at byte text = option_map (λ place. (take place text, drop (place + 1) text)) (position (λ other. other == byte) text)

-- a text without such a byte
abbrev pub lacks : ℕ → List ℕ → Bool
lacks byte text = list_all (λ other. not (other == byte)) text
