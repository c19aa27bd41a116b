use Rattle.std.proofs.Common.{◌^◌}
use Rattle.q3_fields.specs.declared.kind.Kind.TheVariants.{Signed}
use Rattle.q3_player.specs.State.{patterns_of}
use Rattle.q3_player.proofs.Kept.{patterns-kept, kept-fits, shorts-back}
use Rattle.q3_player.proofs.Maps.{changes-rise, with_changes-changes}
use Rattle.q3_player.proofs.laws.arrays_are_kept.Goals as goal

pub returns : goal.returns
returns c = record {
  words = λ values short. kept-fits (Signed 16) (patterns_of values) (patterns-kept values short);
  back = shorts-back;
  rise = changes-rise;
  made = with_changes-changes;
}
