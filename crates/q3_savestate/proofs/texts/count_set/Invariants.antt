use Rattle.std.proofs.Common.{◌≡◌, ◌<◌, ◌≤◌, length, take}
use Rattle.q3_config.specs.Strings.{places}
use Rattle.q3_savestate.specs.Texts.{set_strings}
use Rattle.q3_savestate.proofs.texts.count_set.Given as goal

abbrev pub invariant-loop-index : goal.invariant-loop-index
invariant-loop-index l = record {
  count : l.count ≡ length (set_strings 0 (take l.index l.configs.texts));
  few : l.count ≤ l.index;
  places : 0 < l.index → length l.configs.texts ≡ places;
}
