-- The section with a gamestate: its text, what is read of it, and what is spelled so.
use Rattle.std.proofs.Common.{◌≡◌, ℕ, Bool, List, Ok, None, refl, subst, arith, inl}
use Rattle.q3_bits.specs.ResultBind.{fault_as}
use Rattle.q3_bits.proofs.Binds.{bind_ok, map_err_ok}
use Rattle.q3_entity.specs.Baselines.{Baselines}
use Rattle.q3_profile.specs.declared.profile.Profile.{Profile}
use Rattle.q3_profile.specs.Profile.{IsCodec}
use Rattle.q3_gamestate.specs.Values.{Gamestate}
use Rattle.q3_gamestate.specs.Reading.{gamestate_at}
use Rattle.q3_gamestate.specs.Spelling.{SpellsGamestate}
use Rattle.q3_gamestate.specs.Laws.{ReadIsSpelled, SpelledIsRead}
use Rattle.q3_svmsg.specs.Values.{Context, Told, Game, Message}
use Rattle.q3_svmsg.specs.Texts.{section_bits, server_message_bits}
use Rattle.q3_svmsg.specs.Reading.{game_error, game_at}
use Rattle.q3_svmsg.proofs.SectionSpelled.{ReadSection, TakenSection}

-- the text of a message with a gamestate depends on no baselines but its own
pub game_text : (profile : Profile) (baselines other : Baselines) (message : Message) (game : Gamestate) → message.section ≡ Game game
    → server_message_bits profile baselines None message ≡ server_message_bits profile other None (record message { section = Game game })
unfolding server_message_bits section_bits
game_text profile baselines other message game is = rw is refl

pub game_was_spelled : ReadIsSpelled → (profile : Profile) (context : Context) (number : ℕ) (bits : List Bool) (found : Told × List Bool) → IsCodec profile → game_at profile bits ≡ Ok found
    → ReadSection profile context number 2 bits found
unfolding game_at
game_was_spelled law profile context number bits found codec e =
    let game = bind_ok (fault_as game_error (gamestate_at profile bits)) (λ game. Ok (Game game.0, game.1)) found e in
    let made = game.2 in
    let same : (Game game.0.0, game.0.1) ≡ found = cc in
    let was = law profile game.0.0 bits game.0.1 codec (map_err_ok game_error (gamestate_at profile bits) game.0 game.1) in
    subst (ReadSection profile context number 2 bits) {x = (Game game.0.0, game.0.1)} same (record {
      text = was.1;
      spells = was.3;
      is = λ low. was.0;
      number_is = tt;
      parts = was.2;
    })

pub game_is_read : SpelledIsRead → (profile : Profile) (context : Context) (number : ℕ) (game : Gamestate) (text rest : List Bool) → IsCodec profile → SpellsGamestate profile game text
    → TakenSection profile context number (Game game) text rest
unfolding game_at
game_is_read law profile context number game text rest codec s =
    let read = law profile game text rest codec s in
    record { operation = 2; fits = omega arith; bits = read.0; parts = read.1; reads = inl (refl, rw read.2 refl) }
