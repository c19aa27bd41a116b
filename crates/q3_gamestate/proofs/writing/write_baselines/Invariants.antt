use Rattle.std.proofs.Common.{◌-◌}
use Rattle.q3_bits.specs.Streams.{HasWritten}
use Rattle.q3_entity.specs.Baselines.{most_baselines, set_at}
use Rattle.q3_gamestate.specs.Texts.{baseline_bits, numbered}
use Rattle.q3_gamestate.proofs.writing.write_baselines.Given as goal

-- those below a number were written
abbrev pub invariant-loop-number : goal.invariant-loop-number
invariant-loop-number l = HasWritten l.fn.w l.w (numbered (most_baselines - l.number) l.number (λ number. baseline_bits l.fn.w.words l.table (set_at l.baselines number))) (numbered most_baselines 0 (λ number. baseline_bits l.fn.w.words l.table (set_at l.baselines number)))
