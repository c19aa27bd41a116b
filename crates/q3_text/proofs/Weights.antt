-- The sum of weighted bytes, byte by byte.
use Rattle.std.proofs.Common.{◌≡◌, ℕ, ◌+◌, ◌*◌, ◌<◌, ◌≤◌, List, length, get_or, drop, refl}
use Rattle.std.proofs.lemmas.List.{drop_more, drop_all}
use Rattle.q3_text.specs.Keys.{weighted}

-- the next byte with its weight
pub weighted-next : (weight : ℕ) (text : List ℕ) (k : ℕ) → k < length text → weighted weight (drop k text) ≡ get_or text k 0 * weight + weighted (weight + 1) (drop (k + 1) text)
unfolding weighted
weighted-next weight text k more = rw (drop_more text k 0 more) refl

-- nothing is left at the end
pub weighted-end : (weight : ℕ) (text : List ℕ) (k : ℕ) → length text ≤ k → weighted weight (drop k text) ≡ 0
unfolding weighted
weighted-end weight text k past = rw (drop_all k text past) refl
