-- What the laws over schedules use of the layers below.
use Rattle.q3_player.specs.Laws.{NormalIsNormal, ZeroIsNormal}
use Rattle.q3_entity.specs.Laws.{NormalIsNormal as EntityNormalIsNormal}
use Rattle.q3_chan.specs.Senders.{QportIsTold}
use Rattle.q3_chan.specs.Laws.{SentIsTagged, TaggedDoes, EndsGather, EndsSend}
use Rattle.q3_frames.specs.Laws.{NothingIsHeld, HeldWasBuilt, BuildKeeps, BaseIsNear}
use Rattle.q3_map.specs.Laws.{ListsStayHeld}
use Rattle.q3_config.specs.Laws.{AdmittedMayGo, PiecesAreChanges, PiecesAreTexts, PiecesMakeChange, SpelledIsRead}
use Rattle.q3_window.specs.Flow.{FlowLaws}
use Rattle.q3_window.specs.Laws.{StaysOutgoing}
use Rattle.q3_rings.specs.Laws.{AcceptedIsHeld, NothingStands, AcceptIsAdded, BaseIsOfList, HeldWasAccepted, NearIsHeldByAge, UsualRingHolds}
use Rattle.q3_server.specs.Apart.{SlotsApart}
use Rattle.q3_server.specs.Laws.{MapStays, BeginsAsBuilt}
use Rattle.q3_client.specs.Laws.{BeginsSaid, ClientStays}
use Rattle.q3_messages.specs.MessageLaws.{BuiltIsRead, SaidIsRead, BegunMayBeSent}

-- that a server's entities stay held, what its frames hold, which of these is a base, and what a call for one client leaves the others
pub record ServerLaws : Type 0 where
  pub lists : ListsStayHeld
  pub nothing : NothingIsHeld
  pub held : HeldWasBuilt
  pub keeps : BuildKeeps
  pub near : BaseIsNear
  pub apart : SlotsApart

-- what a client holds, by all that it accepted
pub record RingLaws : Type 0 where
  pub none : NothingStands
  pub added : AcceptIsAdded
  pub there : AcceptedIsHeld
  pub of_list : BaseIsOfList
  pub accepted : HeldWasAccepted
  pub by_age : NearIsHeldByAge
  pub usual : UsualRingHolds

-- what may go out as commands, and that its pieces are changes and texts of commands, which make the change
pub record ConfigLaws : Type 0 where
  pub admitted : AdmittedMayGo
  pub changes : PiecesAreChanges
  pub pieces : PiecesAreTexts
  pub make : PiecesMakeChange
  pub read : SpelledIsRead

-- what becomes of commands on their way, and what every window of those issued is
pub record WindowLaws : Type 0 where
  pub flow : FlowLaws
  pub stays : StaysOutgoing

-- what either end begins is read back, what the messages left at a client, what the game hands in and what either end begins is well formed
-- and may be sent, the normal form of a state is normal, what a datagram does and which qport it tells, how both ends gather and send, what a
-- server and a client hold, what becomes of commands, and what the pieces of a config change make
pub record Layers : Type 0 where
  pub reads : BuiltIsRead
  pub hears : SaidIsRead
  pub stays : ClientStays
  pub maps : MapStays
  pub begins : BeginsAsBuilt
  pub says : BeginsSaid
  pub sent : BegunMayBeSent
  pub entity : EntityNormalIsNormal
  pub normal : NormalIsNormal
  pub zero : ZeroIsNormal
  pub tags : SentIsTagged
  pub qport : QportIsTold
  pub does : TaggedDoes
  pub gathers : EndsGather
  pub sends : EndsSend
  pub server : ServerLaws
  pub rings : RingLaws
  pub windows : WindowLaws
  pub configs : ConfigLaws
