use Rattle.std.proofs.Common.{sym, ap, ◌∙◌}
use Rattle.q3_config.specs.Strings.{Strings, refused, room_fault}
use Rattle.q3_config.proofs.Faults.{admit_fault-carried, all-carried, on_ok}
use Rattle.q3_config.proofs.configs.Configs.admit.Goals as goal

pub returns-clause-answer : goal.returns-clause-answer
returns-clause-answer c =
    let strings = c.args.self.now in
    c.check_room.ensures c.self.inside.pending
    ∙ ap (λ (s : Strings). refused (room_fault s c.args.index c.args.text.now)) c.self.view_is
    ∙ ap refused (sym (admit_fault-carried strings c.args.index c.args.text.now c.if-index-ge-STRINGS.false (sym c.in_default.ensures)))

pub returns-clause-chars : goal.returns-clause-chars
returns-clause-chars c = on_ok c.check_room.result _ (all-carried c.args.text.now (sym c.in_default.ensures))
