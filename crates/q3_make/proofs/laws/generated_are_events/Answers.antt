use Rattle.q3_make.proofs.MadeScripts.{generated_is_made}
use Rattle.q3_make.proofs.laws.generated_are_events.Goals as goal

pub returns : goal.returns
returns c = λ number seed few. generated_is_made c.text_laws.ensures number seed few
