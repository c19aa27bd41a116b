use Rattle.toml.specs.Data.{as_str}
use Rattle.q3_bits.specs.CodeWords.{texts_of}
use Rattle.q3_profile.proofs.Items.{HasItems}
use Rattle.q3_profile.proofs.document.texts_at.Given as goal

-- the texts so far
abbrev pub invariant-loop-item : goal.invariant-loop-item
invariant-loop-item l = HasItems as_str l.items l.item-index (texts_of l.texts.items)
