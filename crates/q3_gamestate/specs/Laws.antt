-- Laws of gamestates.
use Rattle.std.specs.Prelude.{◌≡◌, ◌^◌, ◌<◌, Bool, List, [], ◌∷◌, ◌++◌, All, None, IsSome, Ok}
use Rattle.q3_bits.specs.Words.{row_bits}
use Rattle.q3_text.specs.Texts.{IsTextByte}
use Rattle.q3_config.specs.Strings.{AreStrings, server_id}
use Rattle.q3_entity.specs.Baselines.{AreBaselines}
use Rattle.q3_profile.specs.declared.profile.Profile.{Profile}
use Rattle.q3_profile.specs.Profile.{IsCodec}
use Rattle.q3_gamestate.specs.Values.{Gamestate}
use Rattle.q3_gamestate.specs.Texts.{gamestate_bits}
use Rattle.q3_gamestate.specs.Reading.{gamestate_at}
use Rattle.q3_gamestate.specs.Spelling.{SpellsGamestate}

-- a gamestate as an end may send it: texts that a string can carry, baselines in normal form, and a server id
pub record IsGamestate (profile : Profile) (game : Gamestate) : Type 0 where
  pub command : game.command < 2 ^ 32
  pub slot : game.slot < 2 ^ 32
  pub feed : game.feed < 2 ^ 32
  pub strings : AreStrings game.strings
  pub texts : All (All IsTextByte) game.strings.texts
  pub pending : game.strings.pending ≡ None
  pub baselines : AreBaselines profile.entity game.baselines
  pub id : IsSome (server_id game.strings)

-- what is written of a gamestate spells it
abbrev pub WrittenIsSpelled : Type 0
WrittenIsSpelled = (profile : Profile) (game : Gamestate) → IsCodec profile → IsGamestate profile game
    → SpellsGamestate profile game (gamestate_bits profile game)

-- what is read as a gamestate, after the operation 2, is one that an end may send, and was spelled so
abbrev pub ReadIsSpelled : Type 0
ReadIsSpelled = (profile : Profile) (game : Gamestate) (bits rest : List Bool) → IsCodec profile → gamestate_at profile bits ≡ Ok (game, rest)
    → IsGamestate profile game × (text : List Bool) × (row_bits profile.code ((2, 8) ∷ []) ++ bits ≡ text ++ rest) × SpellsGamestate profile game text

-- what is spelled so is read after the operation 2, with whatever follows it: so where a reader refuses, no front of the
-- bits is spelled so
abbrev pub SpelledIsRead : Type 0
SpelledIsRead = (profile : Profile) (game : Gamestate) (text rest : List Bool) → IsCodec profile → SpellsGamestate profile game text
    → (bits : List Bool) × (text ≡ row_bits profile.code ((2, 8) ∷ []) ++ bits) × (gamestate_at profile (bits ++ rest) ≡ Ok (game, rest))
