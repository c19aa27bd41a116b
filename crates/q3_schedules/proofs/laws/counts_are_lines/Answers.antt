use Rattle.q3_schedules.proofs.CountedLines.{counts_are_lines, replay_is_counted}
use Rattle.q3_schedules.proofs.laws.counts_are_lines.Goals as goal

pub returns : goal.returns
returns c = record { answers = counts_are_lines; replay = replay_is_counted }
