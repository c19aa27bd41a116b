use Rattle.std.proofs.Common.{◌≡◌, take, map}
use Rattle.q3_text.specs.Texts.{translated}
use Rattle.q3_text.proofs.text.Text.of.Given as goal

-- so many bytes were translated
abbrev pub invariant-loop-byte : goal.invariant-loop-byte
invariant-loop-byte l = l.kept.items ≡ map translated (take l.byte-index l.bytes)
