use Rattle.std.proofs.Common.{◌≡◌, ◌<◌, ◌++◌, length, take, Ok, true}
use Rattle.std.specs.List.{flat_map}
use Rattle.byteorder.specs.Endian.{little_bytes}
use Rattle.q3_io.specs.Faults.{HasCause}
use Rattle.q3_io.specs.Written.{Wrote}
use Rattle.q3_io.specs.declared.sink.Failed.{Failed}
use Rattle.q3_config.specs.Strings.{places}
use Rattle.q3_savestate.specs.Texts.{set_strings, string_bytes}
use Rattle.q3_savestate.proofs.texts.write_strings.Given as goal

abbrev pub invariant-loop-index : goal.invariant-loop-index
invariant-loop-index g l = record {
  adds : Wrote (g.O.Sink.written l.fn.out) (g.O.Sink.written l.out)
      (little_bytes 2 (length (set_strings 0 l.configs.texts)) ++ flat_map string_bytes (set_strings 0 (take l.index l.configs.texts))) true;
  cause : HasCause {T = Unit {0}} {E = Failed} (g.O.Sink.faults l.fn.out) (g.O.Sink.faults l.out) (Ok tt);
  places : 0 < l.index → length l.configs.texts ≡ places;
}
