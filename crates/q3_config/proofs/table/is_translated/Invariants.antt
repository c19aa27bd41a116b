use Rattle.std.proofs.Common.{◌≡◌, ℕ, ◌<◌, get_or}
use Rattle.q3_text.specs.Texts.{translated}
use Rattle.q3_config.proofs.table.is_translated.Given as goal

-- so far all bytes are the same
abbrev pub invariant-loop-place : goal.invariant-loop-place
invariant-loop-place l = (k : ℕ) → k < l.place → get_or l.bytes k 0 ≡ translated (get_or l.text k 0)
