-- The laws of the crates below that the laws of gamestates rest on.
use Rattle.q3_bits.specs.Laws.{ReadWasPut, PutIsRead}
use Rattle.q3_strings.specs.Laws.{StringIsSpelled, StringReadIsSpelled, StringSpelledIsRead, TurnsAreTaken}
use Rattle.q3_entity.specs.Laws.{ZeroIsNormal, NoneAreBaselines, BaselineIsAdded, ForcedIsSpelled, EntryReadIsSpelled, EntrySpelledIsRead}

-- what is written is spelled so
pub record WasWritten : Type 0 where
  pub string : StringIsSpelled
  pub no_entity : ZeroIsNormal
  pub entry : ForcedIsSpelled

-- what is read was spelled so
pub record WasRead : Type 0 where
  pub put : ReadWasPut
  pub string : StringReadIsSpelled
  pub no_entity : ZeroIsNormal
  pub no_baselines : NoneAreBaselines
  pub baseline : BaselineIsAdded
  pub entry : EntryReadIsSpelled

-- what is spelled so is read
pub record IsRead : Type 0 where
  pub put : PutIsRead
  pub turns : TurnsAreTaken
  pub string : StringSpelledIsRead
  pub no_entity : ZeroIsNormal
  pub entry : EntrySpelledIsRead
