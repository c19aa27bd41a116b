-- The laws of the crates below that the laws of messages rest on.
use Rattle.q3_bits.specs.Laws.{ReadWasPut, PutIsRead}
use Rattle.q3_strings.specs.Laws.{BytesWerePut, BytesAreRead, CommandsAreSpelled, NopsAreNops, RowReadIsSpelled, RowSpelledIsRead, EndingReadIsSpelled, EndingSpelledIsRead}
use Rattle.q3_player.specs.Laws as players
use Rattle.q3_entity.specs.Laws as entities
use Rattle.q3_gamestate.specs.Laws as games

-- what is written is spelled so
pub record WasWritten : Type 0 where
  pub commands : CommandsAreSpelled
  pub game : games.WrittenIsSpelled
  pub no_player : players.ZeroIsNormal
  pub normal : players.NormalIsNormal
  pub player : players.WrittenIsSpelled
  pub list : entities.ListIsSpelled

-- what is read was spelled so
pub record WasRead : Type 0 where
  pub put : ReadWasPut
  pub bytes : BytesWerePut
  pub row : RowReadIsSpelled
  pub ending : EndingReadIsSpelled
  pub game : games.ReadIsSpelled
  pub no_player : players.ZeroIsNormal
  pub player : players.ReadIsSpelled
  pub list : entities.ListReadIsSpelled
  pub skipped : entities.SkippedIsSpelled

-- what is spelled so is read
pub record IsRead : Type 0 where
  pub put : PutIsRead
  pub bytes : BytesAreRead
  pub nops : NopsAreNops
  pub row : RowSpelledIsRead
  pub ending : EndingSpelledIsRead
  pub game : games.SpelledIsRead
  pub no_player : players.ZeroIsNormal
  pub player : players.SpelledIsRead
  pub list : entities.ListSpelledIsRead
  pub skipped : entities.SpelledIsSkipped
