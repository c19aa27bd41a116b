use Rattle.std.proofs.Common.{◌∷◌, []}
use Rattle.std.proofs.lemmas.Result.{err_from_is_err_and}
use Rattle.q3_bits.specs.Words.{row_bits}
use Rattle.q3_strings.specs.Commands.{commands_bits}
use Rattle.q3_clmsg.specs.Values.{parts_said}
use Rattle.q3_clmsg.specs.Texts.{move_section_bits, client_message_bits}
use Rattle.q3_clmsg.proofs.writing.write_message.Goals as goal

pub returns-in_err-put_all : goal.returns-in_err-put_all
unfolding client_message_bits
returns-in_err-put_all c =
    let law = c.texts_are_written.ensures in
    let words = c.args.w.now.words in
    let said = parts_said c.args.parts in
    let p = err_from_is_err_and c.from_residual.result c.from_residual.ensures.1 in
    let front = law.refused (commands_bits words 4 said.commands) c.in_err-put_all.ensures in
    rw (p.1, p.2) (law.refused (row_bits words ((5, 8) ∷ [])) (law.refused (move_section_bits words c.args.key said.delta said.moves) front))

pub returns-in_err-write_commands : goal.returns-in_err-write_commands
unfolding client_message_bits
returns-in_err-write_commands c =
    let law = c.texts_are_written.ensures in
    let words = c.args.w.now.words in
    let said = parts_said c.args.parts in
    let p = err_from_is_err_and c.from_residual-in_err-write_commands.result c.from_residual-in_err-write_commands.ensures.1 in
    let both = law.next (λ ws. commands_bits ws 4 said.commands) c.in_ok-put_all.ensures c.in_err-write_commands.ensures in
    rw (p.1, p.2) (law.refused (row_bits words ((5, 8) ∷ [])) (law.refused (move_section_bits words c.args.key said.delta said.moves) both))

pub returns-in_err-write_section : goal.returns-in_err-write_section
unfolding client_message_bits
returns-in_err-write_section c =
    let law = c.texts_are_written.ensures in
    let words = c.args.w.now.words in
    let said = parts_said c.args.parts in
    let p = err_from_is_err_and c.from_residual-in_err-write_section.result c.from_residual-in_err-write_section.ensures.1 in
    let both = law.next (λ ws. commands_bits ws 4 said.commands) c.in_ok-put_all.ensures c.in_ok-write_commands.ensures in
    let three = law.next (λ ws. move_section_bits ws c.args.key said.delta said.moves) both c.in_err-write_section.ensures in
    rw (p.1, p.2) (law.refused (row_bits words ((5, 8) ∷ [])) three)

pub returns : goal.returns
unfolding client_message_bits
returns c =
    let law = c.texts_are_written.ensures in
    let said = parts_said c.args.parts in
    let both = law.next (λ ws. commands_bits ws 4 said.commands) c.in_ok-put_all.ensures c.in_ok-write_commands.ensures in
    let three = law.next (λ ws. move_section_bits ws c.args.key said.delta said.moves) both c.in_ok-write_section.ensures in
    law.next (λ ws. row_bits ws ((5, 8) ∷ [])) three c.put_all-2.ensures
