use Rattle.toml.specs.View.{table_view}
use Rattle.q3_profile.specs.Profile.{profile_at}
use Rattle.q3_profile.proofs.Rules.{profiles, gives_rule}
use Rattle.q3_profile.proofs.read.read_profile.Goals as goal

pub returns-clause-rule : goal.returns-clause-rule
returns-clause-rule c =
    let document = table_view c.in_ok-document.document in
    gives_rule (λ profile. profile) c.profile_at.result (profile_at c.mark.result document) (profiles c.mark.result document) c.profile_at.ensures.exact
