use Rattle.std.proofs.lemmas.Option.{same_Some}
use Rattle.std.proofs.Common.{sym, ◌∙◌}
use Rattle.q3_node.proofs.node.join_loop.Goals as goal

pub returns-clause-ran : goal.returns-clause-ran
returns-clause-ran g c = λ end is. rw (same_Some end c.in_ok-end.end (sym is ∙ c.in_ok-end.ensures.made)) c.run.ensures.ran
