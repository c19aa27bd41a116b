use Rattle.std.proofs.Common.{subst, sym}
use Rattle.std.specs.Str.{IsUtf8}
use Rattle.q3_words.proofs.NameWords.{name_utf8, reads_text}
use Rattle.q3_words.proofs.name.Name.as_str.Goals as goal

pub unwrap-requires : goal.unwrap-requires
unwrap-requires c = reads_text _ _ c.deref.result.now c.from_utf8.result c.from_utf8.ensures.cases (subst IsUtf8 (sym c.deref.ensures.0) (name_utf8 c.self.inside.bytes.items c.self.invariant))
