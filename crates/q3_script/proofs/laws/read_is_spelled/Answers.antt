use Rattle.q3_script.proofs.SpelledScripts.{script_at-spelled, script_at-again}
use Rattle.q3_script.proofs.laws.read_is_spelled.Goals as goal

pub returns : goal.returns
returns c = λ kind bytes events. (script_at-spelled c.word_laws.ensures kind bytes events, script_at-again c.word_laws.ensures kind bytes events)
