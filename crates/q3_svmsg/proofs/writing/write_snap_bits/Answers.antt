use Rattle.std.proofs.Common.{◌∷◌, [], option_map}
use Rattle.std.proofs.lemmas.Result.{err_from_is_err_and}
use Rattle.q3_bits.specs.Words.{row_bits}
use Rattle.q3_entity.specs.Entities.{run_of}
use Rattle.q3_svmsg.specs.Values.{base_viewed}
use Rattle.q3_svmsg.specs.Texts.{snapshot_bits, section_bits, server_message_bits}
use Rattle.q3_svmsg.proofs.writing.write_snap_bits.Goals as goal

pub returns-in_err-write_front : goal.returns-in_err-write_front
unfolding server_message_bits section_bits
returns-in_err-write_front c =
    let law = c.texts_are_written.ensures in
    let parts = c.args.parts in
    let profile = record c.args.profile.now { code = c.args.w.now.words } in
    let base = option_map base_viewed c.args.base in
    let p = err_from_is_err_and c.from_residual.result c.from_residual.ensures.1 in
    let section = snapshot_bits profile c.args.baselines.now base parts.base parts.head.now (run_of parts.entities) in
    rw (p.1, p.2) (law.refused (row_bits profile.code ((8, 8) ∷ [])) (law.refused section c.in_err-write_front.ensures))

pub returns-in_err-write_snapshot : goal.returns-in_err-write_snapshot
unfolding server_message_bits section_bits
returns-in_err-write_snapshot c =
    let law = c.texts_are_written.ensures in
    let parts = c.args.parts in
    let profile = c.args.profile.now in
    let base = option_map base_viewed c.args.base in
    let p = err_from_is_err_and c.from_residual-in_err-write_snapshot.result c.from_residual-in_err-write_snapshot.ensures.1 in
    let both = law.next (λ ws. snapshot_bits (record profile { code = ws }) c.args.baselines.now base parts.base parts.head.now (run_of parts.entities)) c.in_ok-write_front.ensures c.in_err-write_snapshot.ensures in
    rw (p.1, p.2) (law.refused (row_bits c.args.w.now.words ((8, 8) ∷ [])) both)

pub returns : goal.returns
unfolding server_message_bits section_bits
returns c =
    let law = c.texts_are_written.ensures in
    let parts = c.args.parts in
    let profile = c.args.profile.now in
    let base = option_map base_viewed c.args.base in
    let both = law.next (λ ws. snapshot_bits (record profile { code = ws }) c.args.baselines.now base parts.base parts.head.now (run_of parts.entities)) c.in_ok-write_front.ensures c.in_ok-write_snapshot.ensures in
    law.next (λ ws. row_bits ws ((8, 8) ∷ [])) both c.put_all.ensures
