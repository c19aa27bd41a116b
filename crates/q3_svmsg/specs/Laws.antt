-- Laws of a server's messages.
use Rattle.std.specs.Prelude.{◌≡◌, ℕ, ◌^◌, ◌<◌, ◌≤◌, Bool, List, ◌++◌, length, map, Option, Some, None, All, Ok}
use Rattle.q3_strings.specs.Laws.{IsCommand}
use Rattle.q3_player.specs.declared.head.SnapHead.{SnapHead}
use Rattle.q3_player.specs.State.{IsState, IsNormal, normal_player}
use Rattle.q3_entity.specs.declared.state.EntityState.{EntityState}
use Rattle.q3_entity.specs.Entities.{normal_entity, IsList, AreStates, AreNormal}
use Rattle.q3_entity.specs.Baselines.{AreBaselines}
use Rattle.q3_profile.specs.declared.profile.Profile.{Profile}
use Rattle.q3_profile.specs.Profile.{IsCodec}
use Rattle.q3_gamestate.specs.Laws.{IsGamestate}
use Rattle.q3_svmsg.specs.Values.{Base, IsNamed, Context, Told, Nothing, Game, Snap, Skipped, HasNumber, Message}
use Rattle.q3_svmsg.specs.Texts.{server_message_bits}
use Rattle.q3_svmsg.specs.Spelling.{SpellsMessage}
use Rattle.q3_svmsg.specs.Reading.{held_base, server_message_at}

-- the head of a snapshot as the program's type holds it
pub record IsHead (head : SnapHead) : Type 0 where
  pub number : head.number < 2 ^ 32
  pub time : head.time < 2 ^ 32
  pub flags : head.flags < 256
  pub area : All (λ byte. byte < 256) head.area.items
  pub short : length head.area.items ≤ 32
  pub player : IsState head.player

-- the entities of a snapshot or of a base
pub record AreEntities (profile : Profile) (entities : List EntityState) : Type 0 where
  pub list : IsList profile.entity entities
  pub states : AreStates entities

-- a base in normal form
pub record IsBase (profile : Profile) (base : Base) : Type 0 where
  pub state : IsState base.player
  pub normal : IsNormal profile.player.kinds base.player
  pub entities : AreEntities profile base.entities
  pub normal_entities : AreNormal profile.entity base.entities

-- what a reader's bases and baselines are: in normal form
pub record IsContext (profile : Profile) (context : Context) : Type 0 where
  pub bases : (number : ℕ) (base : Base) → context.base number ≡ Some base → IsBase profile base
  pub baselines : AreBaselines profile.entity context.baselines

-- a message with a gamestate, with a snapshot, or with no section
abbrev pub IsTold : Profile → Context → Told → Type 0
IsTold profile context Nothing = Unit {0}
IsTold profile context (Game game) = IsGamestate profile game
IsTold profile context (Snap base head entities) =
    IsHead head × AreEntities profile entities × IsNamed (held_base context base) head.number base
IsTold profile context (Skipped base) = ⊥

pub record IsMessage (profile : Profile) (context : Context) (number : ℕ) (message : Message) : Type 0 where
  pub ack : message.ack < 2 ^ 32
  pub few : length message.commands ≤ 64
  pub commands : All IsCommand message.commands
  pub section : IsTold profile context message.section
  pub number_is : HasNumber number message.section

-- a section that was read: one that an end may send, its states in normal form; or a snapshot whose base isn't held
abbrev pub IsReadTold : Profile → Context → Told → Type 0
IsReadTold profile context (Snap base head entities) =
    IsTold profile context (Snap base head entities) × IsNormal profile.player.kinds head.player × AreNormal profile.entity entities
IsReadTold profile context (Skipped base) = held_base context base ≡ None
IsReadTold profile context told = IsTold profile context told

-- a message that was read under a number
pub record IsRead (profile : Profile) (context : Context) (number : ℕ) (message : Message) : Type 0 where
  pub ack : message.ack < 2 ^ 32
  pub few : length message.commands ≤ 64
  pub commands : All IsCommand message.commands
  pub section : IsReadTold profile context message.section
  pub number_is : HasNumber number message.section

-- the base that a section is written against
abbrev pub base_in : Context → Told → Option Base
base_in context (Snap base head entities) = held_base context base
base_in context other = None

-- the section with its states in normal form
abbrev pub normal_told : Profile → Told → Told
normal_told profile (Snap base head entities) =
    Snap base (record head { player = normal_player profile.player.kinds head.player }) (map (normal_entity profile.entity) entities)
normal_told profile other = other

-- what is written of a message is read back, its states in normal form, with whatever follows it
abbrev pub WrittenIsRead : Type 0
WrittenIsRead = (profile : Profile) (context : Context) (number : ℕ) (message : Message) (rest : List Bool) → IsCodec profile
    → IsContext profile context → IsMessage profile context number message
    → server_message_at profile context number (server_message_bits profile context.baselines (base_in context message.section) message ++ rest)
    ≡ Ok (record message { section = normal_told profile message.section }, rest)

-- what is written of a message spells it, its states in normal form
abbrev pub WrittenIsSpelled : Type 0
WrittenIsSpelled = (profile : Profile) (context : Context) (number : ℕ) (message : Message) → IsCodec profile
    → IsContext profile context → IsMessage profile context number message
    → SpellsMessage profile context number (record message { section = normal_told profile message.section })
    (server_message_bits profile context.baselines (base_in context message.section) message)

-- what is read as a message is well formed, its states in normal form, and was spelled so
abbrev pub ReadIsSpelled : Type 0
ReadIsSpelled = (profile : Profile) (context : Context) (number : ℕ) (message : Message) (bits rest : List Bool) → IsCodec profile
    → IsContext profile context → server_message_at profile context number bits ≡ Ok (message, rest)
    → (number < 2 ^ 32 → IsRead profile context number message) × (text : List Bool) × (bits ≡ text ++ rest) × SpellsMessage profile context number message text

-- what is spelled so is read, with whatever follows it: so where a reader refuses, no front of the bits is spelled so
abbrev pub SpelledIsRead : Type 0
SpelledIsRead = (profile : Profile) (context : Context) (number : ℕ) (message : Message) (text rest : List Bool) → IsCodec profile
    → IsContext profile context → SpellsMessage profile context number message text
    → server_message_at profile context number (text ++ rest) ≡ Ok (message, rest)

-- a message whose snapshot is read against a base is read to the same place where that base isn't held, and nothing of the
-- snapshot is kept
abbrev pub ReadIsSkipped : Type 0
ReadIsSkipped = (profile : Profile) (context other : Context) (number base : ℕ) (head : SnapHead) (entities : List EntityState) (message : Message) (bits rest : List Bool)
    → IsCodec profile → IsContext profile context → IsContext profile other → message.section ≡ Snap base head entities → 0 < base → held_base other base ≡ None
    → server_message_at profile context number bits ≡ Ok (message, rest)
    → server_message_at profile other number bits ≡ Ok (record message { section = Skipped base }, rest)
