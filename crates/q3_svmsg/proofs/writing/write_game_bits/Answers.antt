use Rattle.std.proofs.Common.{◌∷◌, []}
use Rattle.std.proofs.lemmas.Result.{err_from_is_err_and}
use Rattle.q3_bits.specs.Words.{row_bits}
use Rattle.q3_gamestate.specs.Values.{gamestate_of}
use Rattle.q3_gamestate.specs.Texts.{gamestate_bits}
use Rattle.q3_svmsg.specs.Texts.{section_bits, server_message_bits}
use Rattle.q3_svmsg.proofs.writing.write_game_bits.Goals as goal

pub returns-in_err-write_front : goal.returns-in_err-write_front
unfolding server_message_bits section_bits
returns-in_err-write_front c =
    let law = c.texts_are_written.ensures in
    let parts = c.args.parts in
    let profile = record c.args.profile.now { code = c.args.w.now.words } in
    let p = err_from_is_err_and c.from_residual.result c.from_residual.ensures.1 in
    let game = gamestate_of parts.numbers parts.configs.now parts.baselines.now in
    rw (p.1, p.2) (law.refused (row_bits profile.code ((8, 8) ∷ [])) (law.refused (gamestate_bits profile game) c.in_err-write_front.ensures))

pub returns-in_err-write_gamestate : goal.returns-in_err-write_gamestate
unfolding server_message_bits section_bits
returns-in_err-write_gamestate c =
    let law = c.texts_are_written.ensures in
    let parts = c.args.parts in
    let profile = c.args.profile.now in
    let p = err_from_is_err_and c.from_residual-in_err-write_gamestate.result c.from_residual-in_err-write_gamestate.ensures.1 in
    let game = gamestate_of parts.numbers parts.configs.now parts.baselines.now in
    let both = law.next (λ ws. gamestate_bits (record profile { code = ws }) game) c.in_ok-write_front.ensures c.in_err-write_gamestate.ensures in
    rw (p.1, p.2) (law.refused (row_bits c.args.w.now.words ((8, 8) ∷ [])) both)

pub returns : goal.returns
unfolding server_message_bits section_bits
returns c =
    let law = c.texts_are_written.ensures in
    let parts = c.args.parts in
    let profile = c.args.profile.now in
    let game = gamestate_of parts.numbers parts.configs.now parts.baselines.now in
    let both = law.next (λ ws. gamestate_bits (record profile { code = ws }) game) c.in_ok-write_front.ensures c.in_ok-write_gamestate.ensures in
    law.next (λ ws. row_bits ws ((8, 8) ∷ [])) both c.put_all.ensures
