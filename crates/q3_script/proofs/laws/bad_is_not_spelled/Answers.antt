use Rattle.q3_script.proofs.SpelledScripts.{bad_is_not_ok}
use Rattle.q3_script.proofs.laws.bad_is_not_spelled.Goals as goal

pub returns : goal.returns
returns c = λ kind bytes bad events refused spelled. bad_is_not_ok kind bytes bad events refused ((c.read_is_spelled.ensures kind bytes events).1 spelled)
