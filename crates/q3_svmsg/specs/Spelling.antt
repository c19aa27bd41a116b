-- The spellings of a server's message that a reader accepts: nops between operations, strings of which bytes become `.`,
-- and every spelling of a gamestate, of a player and of a list.
use Rattle.std.specs.Prelude.{◌≡◌, ◌⊎◌, ℕ, ◌^◌, ◌<◌, ◌≤◌, Bool, List, [], ◌∷◌, ◌++◌, length, All, None, IsSome}
use Rattle.q3_bits.specs.Words.{row_bits}
use Rattle.q3_strings.specs.Texts.{bytes_row}
use Rattle.q3_strings.specs.Commands.{SpellsOperations}
use Rattle.q3_player.specs.declared.head.SnapHead.{SnapHead}
use Rattle.q3_player.specs.State.{IsState, zero_player}
use Rattle.q3_player.specs.Spelling.{SpellsPlayer}
use Rattle.q3_entity.specs.declared.state.EntityState.{EntityState}
use Rattle.q3_entity.specs.Spelling.{SpellsList, SpellsSkipped}
use Rattle.q3_profile.specs.declared.profile.Profile.{Profile}
use Rattle.q3_gamestate.specs.Spelling.{SpellsGamestate}
use Rattle.q3_svmsg.specs.Values.{base_player, base_entities, number_of_base, Context, Told, Nothing, Game, Snap, Skipped, Message}
use Rattle.q3_svmsg.specs.Reading.{held_base}

-- what a snapshot says before its player: the operation, the time, how far below the base is, the flags, and the area
pub record SpellsHead (words : List (List Bool)) (number distance : ℕ) (head : SnapHead) (bits : List Bool) : Type 0 where
  pub under : head.number ≡ number
  pub time : head.time < 2 ^ 32
  pub near : distance < 256
  pub flags : head.flags < 256
  pub area : All (λ byte. byte < 256) head.area.items
  pub short : length head.area.items ≤ 32
  pub text : bits ≡ row_bits words ((7, 8) ∷ (head.time, 32) ∷ (distance, 8) ∷ (head.flags, 8) ∷ (length head.area.items, 8) ∷ [])
      ++ bytes_row words head.area.items

-- a snapshot without a base, or against one that is held
pub record SpellsSnapshot (profile : Profile) (context : Context) (number base : ℕ) (snap : SnapHead) (entities : List EntityState) (bits : List Bool) : Type 0 where
  pub distance : ℕ
  pub named : base ≡ number_of_base number distance
  pub held : (distance ≡ 0) ⊎ IsSome (held_base context base)
  pub head : List Bool
  pub player : List Bool
  pub list : List Bool
  pub of_head : SpellsHead profile.code number distance snap head
  pub state : IsState snap.player
  pub of_player : SpellsPlayer profile.code profile.player.kinds (base_player (held_base context base)) snap.player player
  pub of_list : SpellsList profile.code profile.entity context.baselines (base_entities (held_base context base)) entities list
  pub whole : bits ≡ head ++ player ++ list

-- a snapshot whose base isn't held: any that reads against the zero player, with entries against zero states
pub record SpellsSkippedSnapshot (profile : Profile) (context : Context) (number base : ℕ) (bits : List Bool) : Type 0 where
  pub distance : ℕ
  pub some : 0 < distance
  pub named : base ≡ number_of_base number distance
  pub not_held : held_base context base ≡ None
  pub snap : SnapHead
  pub head : List Bool
  pub player : List Bool
  pub list : List Bool
  pub of_head : SpellsHead profile.code number distance snap head
  pub state : IsState snap.player
  pub of_player : SpellsPlayer profile.code profile.player.kinds zero_player snap.player player
  pub of_list : SpellsSkipped profile.code profile.entity list
  pub whole : bits ≡ head ++ player ++ list

-- the section of a message under a number, or none
abbrev pub SpellsSection : Profile → Context → ℕ → Told → List Bool → Type 0
SpellsSection profile context number Nothing bits = bits ≡ []
SpellsSection profile context number (Game game) bits = SpellsGamestate profile game bits
SpellsSection profile context number (Snap base head entities) bits = SpellsSnapshot profile context number base head entities bits
SpellsSection profile context number (Skipped base) bits = SpellsSkippedSnapshot profile context number base bits

-- the bits spell a message under a number, up to its end: commands are the operation 5, and the end is 8
pub record SpellsMessage (profile : Profile) (context : Context) (number : ℕ) (message : Message) (bits : List Bool) : Type 0 where
  pub ack : message.ack < 2 ^ 32
  pub few : length message.commands ≤ 64
  pub section : List Bool
  pub operations : List Bool
  pub of_section : SpellsSection profile context number message.section section
  pub of_operations : SpellsOperations profile.code 5 8 message.commands section operations
  pub whole : bits ≡ row_bits profile.code ((message.ack, 32) ∷ []) ++ operations
