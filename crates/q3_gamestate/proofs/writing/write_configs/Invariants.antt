use Rattle.std.proofs.Common.{◌-◌}
use Rattle.q3_bits.specs.Streams.{HasWritten}
use Rattle.q3_config.specs.Strings.{places, string_at}
use Rattle.q3_gamestate.specs.Texts.{config_bits, numbered}
use Rattle.q3_gamestate.proofs.writing.write_configs.Given as goal

-- those below a number were written
abbrev pub invariant-loop-index : goal.invariant-loop-index
invariant-loop-index l = HasWritten l.fn.w l.w (numbered (places - l.index) l.index (λ index. config_bits l.fn.w.words index (string_at l.configs index))) (numbered places 0 (λ index. config_bits l.fn.w.words index (string_at l.configs index)))
