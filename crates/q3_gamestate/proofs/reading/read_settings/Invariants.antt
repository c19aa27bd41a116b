use Rattle.std.proofs.Common.{length}
use Rattle.q3_gamestate.specs.Reading.{settings_at}
use Rattle.q3_strings.specs.Turns.{HasTurned}
use Rattle.q3_gamestate.proofs.reading.read_settings.Given as goal

abbrev pub invariant-loop-r : goal.invariant-loop-r
invariant-loop-r l =
    HasTurned l.fn.r l.r (λ turns bits. settings_at (record l.profile { code = l.fn.r.words }) turns l.configs l.baselines bits)
    (settings_at (record l.profile { code = l.fn.r.words }) (length l.fn.r.left) l.fn.configs l.fn.baselines l.fn.r.left)

abbrev pub decreases-loop-r : goal.decreases-loop-r
decreases-loop-r l = length l.r.left
