use Rattle.std.proofs.Common.{ap, ◌∙◌}
use Rattle.q3_config.specs.Strings.{Strings}
use Rattle.q3_savestate.proofs.state.read_parts.Goals as goal

pub read_strings-requires : goal.read_strings-requires
read_strings-requires c = c.read_pending.ensures.texts ∙ ap (λ (strings : Strings). strings.texts) c.requires.configs
