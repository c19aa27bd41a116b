use Rattle.q3_profile.proofs.Rules.{file_names}
use Rattle.q3_profile.proofs.laws.checked_names_rule.Goals as goal

pub returns : goal.returns
returns c = file_names
