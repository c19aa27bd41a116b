-- The laws of the crates below that the laws of states rest on.
use Rattle.q3_config.specs.Laws.{StringsStay, TextsStay}
use Rattle.q3_entity.specs.Laws.{NoneAreBaselines}
use Rattle.q3_svmsg.specs.Laws.{ReadIsSpelled}
use Rattle.q3_rings.specs.Laws.{SnapshotsStay}

pub record Below : Type 0 where
  pub strings : StringsStay
  pub texts : TextsStay
  pub baselines : NoneAreBaselines
  pub read : ReadIsSpelled
  pub snapshots : SnapshotsStay
