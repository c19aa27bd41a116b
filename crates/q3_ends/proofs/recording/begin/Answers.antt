use Rattle.std.proofs.Common.{List, ap, sym, subst, ◌∙◌, Ok, Err}
use Rattle.std.proofs.lemmas.Result.{err_from_is_err_and}
use Rattle.q3_io.specs.Acts.{FileAct}
use Rattle.q3_io.specs.Told.{Creates}
use Rattle.q3_clstate.specs.State.{AppliedState}
use Rattle.q3_ends.specs.Recording.{RecordingState, WritesFiles}
use Rattle.q3_ends.proofs.Files.{begins_new, done_cause, goes_some, makes_file, no_game, none_goes, made_stands, writes_nothing}
use Rattle.q3_ends.proofs.recording.begin.Goals as goal

pub returns-then-not-has_game-clause-files : goal.returns-then-not-has_game-clause-files
returns-then-not-has_game-clause-files g c =
    let none = ap (λ (s : AppliedState). s.has_game) (sym c.state.ensures) ∙ (sym c.has_game.ensures ∙ c.if-not-has_game.true) in
    subst (λ (acts : List FileAct). WritesFiles (g.F.Files.told c.args.files.now) (g.F.Files.told c.args.files.now) (g.F.Files.given c.args.files.now) (g.F.Files.given c.args.files.now) (g.F.Files.faults c.args.files.now) (g.F.Files.faults c.args.files.now) (g.F.Files.write_faults c.args.files.now) (g.F.Files.write_faults c.args.files.now) acts (Ok tt))
    (sym (no_game c.args.client.now c.args.recording.now c.args.fresh none)) (writes_nothing _ _ _ _)

pub returns-then-is_some-clause-files : goal.returns-then-is_some-clause-files
returns-then-is_some-clause-files g c =
    subst (λ (acts : List FileAct). WritesFiles (g.F.Files.told c.args.files.now) (g.F.Files.told c.args.files.now) (g.F.Files.given c.args.files.now) (g.F.Files.given c.args.files.now) (g.F.Files.faults c.args.files.now) (g.F.Files.faults c.args.files.now) (g.F.Files.write_faults c.args.files.now) (g.F.Files.write_faults c.args.files.now) acts (Ok tt))
    (sym (goes_some c.args.client.now c.args.recording.now c.args.fresh (sym c.is_some.ensures ∙ c.if-is_some.true))) (writes_nothing _ _ _ _)

pub returns-in_err-number-clause-files : goal.returns-in_err-number-clause-files
returns-in_err-number-clause-files g c =
    let p = err_from_is_err_and c.from_residual.result c.from_residual.ensures.1 in
    let has = ap (λ (s : AppliedState). s.has_game) (sym c.state.ensures) ∙ (sym c.has_game.ensures ∙ c.if-not-has_game.false) in
    let acts = begins_new c.args.client.now c.args.recording.now c.args.fresh has (none_goes c.args.recording.now (sym c.is_some.ensures ∙ c.if-is_some.false)) in
    rw (p.1, p.2, acts)
    (makes_file _ _ _ _ _ _ _ _ c.args.fresh.name (Err c.in_err-number.field-0.0) (g.met.F.Files.numbered c.args.files.now) c.in_err-number.ensures.given (subst (λ (r : RecordingState). Creates (g.F.Files.told c.args.files.now) (g.F.Files.told c.create.new.self) r.name (Err c.in_err-number.field-0.0)) c.fresh.view_is (rw c.as_str.ensures at c.in_err-number.ensures.told))
    (done_cause _ _ (Err c.in_err-number.field-0.0) c.in_err-number.ensures.cause) c.in_err-number.ensures.others)

pub returns-clause-files : goal.returns-clause-files
returns-clause-files g c =
    let has = ap (λ (s : AppliedState). s.has_game) (sym c.state.ensures) ∙ (sym c.has_game.ensures ∙ c.if-not-has_game.false) in
    let acts = begins_new c.args.client.now c.args.recording.now c.args.fresh has (none_goes c.args.recording.now (sym c.is_some.ensures ∙ c.if-is_some.false)) in
    rw acts
    (makes_file _ _ _ _ _ _ _ _ c.args.fresh.name (Ok c.in_ok-number.field-0) (g.met.F.Files.numbered c.args.files.now) c.in_ok-number.ensures.given (subst (λ (r : RecordingState). Creates (g.F.Files.told c.args.files.now) (g.F.Files.told c.create.new.self) r.name (Ok c.in_ok-number.field-0)) c.fresh.view_is (rw c.as_str.ensures at c.in_ok-number.ensures.told))
    (done_cause _ _ (Ok c.in_ok-number.field-0) c.in_ok-number.ensures.cause) c.in_ok-number.ensures.others)

pub returns-clause-file : goal.returns-clause-file
returns-clause-file g c =
    (c.in_ok-number.ensures.given.1, made_stands _ _ c.in_ok-number.field-0 c.args.fresh.name (subst (λ (r : RecordingState). Creates (g.F.Files.told c.args.files.now) (g.F.Files.told c.create.new.self) r.name (Ok c.in_ok-number.field-0)) c.fresh.view_is (rw c.as_str.ensures at c.in_ok-number.ensures.told)))
