use Rattle.std.proofs.Common.{◌≡◌}
use Rattle.q3_savestate.proofs.StringsRead.{HasStrings}
use Rattle.q3_savestate.proofs.texts.read_strings.Given as goal

abbrev pub invariant-loop : goal.invariant-loop
invariant-loop l = record {
  texts : HasStrings l.count l.initial.cursor l.cursor l.counter l.least l.configs.texts;
  pending : l.configs.pending ≡ l.fn.configs.pending;
}
