use Rattle.toml.specs.Data.{as_integer}
use Rattle.q3_profile.proofs.Items.{HasItems}
use Rattle.q3_profile.proofs.document.integers_at.Given as goal

-- the integers so far
abbrev pub invariant-loop-item : goal.invariant-loop-item
invariant-loop-item l = HasItems as_integer l.items l.item-index l.numbers.items
