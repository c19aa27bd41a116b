use Rattle.std.proofs.Common.{◌≡◌, ◌≢◌, ℕ, List, [], ◌∷◌, length, drop, drop_of_length-le, ◌+◌, ◌≤◌, Ok, Err, IsErr, refl, sym, ap, subst, arith, ◌∙◌}
use Rattle.std.proofs.lemmas.Grind.{common_steps}
use Rattle.std.proofs.lemmas.Result.{err_from_is_err_and}
use Rattle.q3_script.specs.declared.event.Event.{Event}
use Rattle.q3_script.specs.Grammar.{IsReplayEvent}
use Rattle.q3_io.specs.Acts.{FileAct, ActsOn}
use Rattle.q3_world.specs.Ends.{Ends}
use Rattle.q3_world.specs.Files.{AreNumbered, acts_by, acts_of, acts_from, by_files, ending_acts}
use Rattle.q3_world.specs.Forgetting.{AreAlike, AreWanted, AreWantedBefore}
use Rattle.q3_world.specs.Kept.{Kept, kept_step}
use Rattle.q3_runs.proofs.Acting.{none_on}
use Rattle.q3net.specs.Run.{DoesFirst}
use Rattle.q3net.proofs.RunActs.{HasActed-more, HasActed-early, HasActed-all}
use Rattle.q3net.proofs.Stepping.{HasStepped-more, HasStepped-early, HasStepped-all}
use Rattle.q3net.proofs.Thinning.{full_at, full_of, IsAlike-begin, does_alike, DoesAlike, stepped_begin, acted_begin, stands_full, prints_full, wanted_begin, wanted_more}
use Rattle.q3net.proofs.replay.step_all.Goals as goal

pub returns-in_err-step-clause-adds : goal.returns-in_err-step-clause-adds
returns-in_err-step-clause-adds g c =
    let p = err_from_is_err_and c.from_residual.result c.from_residual.ensures.1 in
    let event = c.event-item.result in
    let start = c.args.world.now in
    let index = c.loop-event.event-index in
    let replayed : IsReplayEvent event = subst IsReplayEvent (sym c.event-item.is) (c.requires.events index event c.loop-event-test.true) in
    let does = does_alike c.forgetting_is_alike.ensures start.kept c.loop-event.world.kept c.args.events.now index event c.event-item.is c.loop-event-test.true c.loop-event.invariant.7 in
    rw (p.1, p.2) (λ profile. HasStepped-early c.texts_follow.ensures profile start (full_of start c.loop-event.world c.args.events.now index) _ (g.O.Sink.written c.loop-event.out) (g.O.Sink.written c.step.new.out) c.args.events.now index event
    c.in_err-step.field-0.0 c.event-item.is c.loop-event-test.true (c.loop-event.invariant.0 profile)
    (prints_full c.step_follows.ensures profile start.kept c.loop-event.world.kept c.args.events.now index event replayed does (g.O.Sink.written c.loop-event.out) (g.O.Sink.written c.step.new.out) (Err c.in_err-step.field-0.0) c.in_err-step.ensures.printed))

pub returns-in_err-step-clause-files : goal.returns-in_err-step-clause-files
returns-in_err-step-clause-files g c =
    let p = err_from_is_err_and c.from_residual.result c.from_residual.ensures.1 in
    let event = c.event-item.result in
    let start = c.args.world.now.kept in
    let index = c.loop-event.event-index in
    let does = does_alike c.forgetting_is_alike.ensures start c.loop-event.world.kept c.args.events.now index event c.event-item.is c.loop-event-test.true c.loop-event.invariant.7 in
    let files = c.in_err-step.ensures.files in
    rw (p.1, p.2) (HasActed-early start (full_at start c.args.events.now index) (g.F.Files.told c.args.files.now) (g.F.Files.told c.loop-event.files) (g.F.Files.told c.step.new.files) c.args.events.now index event
    c.in_err-step.field-0.0 (ending_acts c.step.new.self.kept.ends) c.event-item.is c.loop-event-test.true c.loop-event.invariant.3
    (subst (λ (acts : List FileAct). ActsOn (g.F.Files.told c.loop-event.files) (g.F.Files.told c.step.new.files) (acts_by (Err c.in_err-step.field-0.0) acts) (by_files (Err c.in_err-step.field-0.0))) does.acts files.acts_on)
    (subst (λ (acts : List FileAct). IsErr (by_files (Err c.in_err-step.field-0.0)) → acts_by (Err c.in_err-step.field-0.0) acts ≢ []) does.acts files.some))

pub returns-in_err-step-clause-file_cause : goal.returns-in_err-step-clause-file_cause
returns-in_err-step-clause-file_cause g c =
    let p = err_from_is_err_and c.from_residual.result c.from_residual.ensures.1 in
    rw (p.1, p.2, ← c.loop-event.invariant.4) c.in_err-step.ensures.files.cause

pub returns-in_err-step-clause-reads : goal.returns-in_err-step-clause-reads
returns-in_err-step-clause-reads g c = c.in_err-step.ensures.files.reads ∙ c.loop-event.invariant.5

-- there was no memory to look at the lines
pub returns-in-Err-clause-files : goal.returns-in-Err-clause-files
returns-in-Err-clause-files g c = ([], acts_from c.args.world.now.kept c.args.events.now, refl, none_on (g.F.Files.told c.args.files.now), tt, λ failed. absurd cc)

pub loop-event-init : goal.loop-event-init
loop-event-init g c = (
  λ profile. stepped_begin c.texts_follow.ensures profile c.args.world.now (g.O.Sink.written c.args.out.now) c.args.events.now,
  omega arith,
  refl,
  acted_begin c.args.world.now.kept (g.F.Files.told c.args.files.now) c.args.events.now,
  refl,
  refl,
  c.requires.numbered,
  IsAlike-begin c.forgetting_is_alike.ensures c.args.world.now.kept c.args.events.now,
  refl,
  λ none. wanted_begin c.args.events.now c.args.world.now.kept.datagrams none,
)

pub loop-event-preserved : goal.loop-event-preserved
loop-event-preserved g c =
    let event = c.event-item.result in
    let start = c.args.world.now in
    let index = c.loop-event.event-index in
    let replayed : IsReplayEvent event = subst IsReplayEvent (sym c.event-item.is) (c.requires.events index event c.loop-event-test.true) in
    let does = does_alike c.forgetting_is_alike.ensures start.kept c.loop-event.world.kept c.args.events.now index event c.event-item.is c.loop-event-test.true c.loop-event.invariant.7 in
    let done = c.in_ok-step.ensures in
    let gone = c.forget_unnamed.ensures.lets_go in
    let same : c.loop-event.done + 1 ≡ index + 1 = ap (λ (n : ℕ). n + 1) c.loop-event.invariant.8 in
    let left : AreAlike (drop (index + 1) c.args.events.now) c.step.new.self.kept (full_at start.kept c.args.events.now (index + 1)) =
    subst (λ (kept : Kept). AreAlike (drop (index + 1) c.args.events.now) kept (full_at start.kept c.args.events.now (index + 1))) (sym done.kept) does.left in (
      λ profile. HasStepped-more c.texts_follow.ensures profile start (full_of start c.loop-event.world c.args.events.now index) (full_of start c.forget_unnamed.new.self c.args.events.now (index + 1)) _
          (g.O.Sink.written c.loop-event.out) (g.O.Sink.written c.step.new.out) c.args.events.now index event c.event-item.is c.loop-event-test.true (c.loop-event.invariant.0 profile)
          (stands_full c.step_follows.ensures profile start.kept c.loop-event.world.kept c.args.events.now index event replayed does)
          (prints_full c.step_follows.ensures profile start.kept c.loop-event.world.kept c.args.events.now index event replayed does (g.O.Sink.written c.loop-event.out) (g.O.Sink.written c.step.new.out) (Ok tt) done.printed),
      omega (arith, c.loop-event.invariant.1, done.few, gone.many),
      grind (arith, common_steps),
      HasActed-more start.kept (full_at start.kept c.args.events.now index) (full_at start.kept c.args.events.now (index + 1)) (g.F.Files.told c.args.files.now) (g.F.Files.told c.loop-event.files) (g.F.Files.told c.step.new.files)
          c.args.events.now index event c.event-item.is c.loop-event-test.true c.loop-event.invariant.3
          (subst (λ (acts : List FileAct). ActsOn (g.F.Files.told c.loop-event.files) (g.F.Files.told c.step.new.files) acts (Ok tt)) does.acts done.files.acts_on) does.full,
      done.files.cause.ok refl ∙ c.loop-event.invariant.4,
      done.files.reads ∙ c.loop-event.invariant.5,
      rw gone.others done.numbered,
      subst (λ (n : ℕ). AreAlike (drop n c.args.events.now) c.forget_unnamed.new.self.kept (full_at start.kept c.args.events.now (index + 1))) same
          (gone.alike c.args.events.now (full_at start.kept c.args.events.now (index + 1)) c.in-Ok.ensures
          (subst (λ (n : ℕ). AreAlike (drop n c.args.events.now) c.step.new.self.kept (full_at start.kept c.args.events.now (index + 1))) (sym same) left)),
      omega (arith, c.loop-event.invariant.8),
      λ none. (
          let events = c.args.events.now in
          let before = wanted_more c.forgetting_is_alike.ensures c.loop-event.world.kept events index event c.event-item.is c.loop-event-test.true (c.loop-event.invariant.9 none) in
          let within : length c.step.new.self.kept.datagrams ≤ length events = omega (arith, none, c.loop-event.invariant.1, done.few, c.loop-event-test.true) in
          subst (λ (n : ℕ). AreWanted (drop n events) c.forget_unnamed.new.self.kept.datagrams) same
          (c.forget_unnamed.ensures.wanted events c.in-Ok.ensures within
          (subst (λ (n : ℕ). AreWantedBefore (event ∷ drop n events) c.step.new.self.kept.datagrams) (sym same)
          (subst (λ (kept : Kept). AreWantedBefore (event ∷ drop (index + 1) events) kept.datagrams) (sym done.kept) before)))
          ),
    )

pub returns-clause-adds : goal.returns-clause-adds
returns-clause-adds g c =
    λ profile. HasStepped-all profile c.args.world.now (full_of c.args.world.now c.loop-event.world c.args.events.now c.loop-event.event-index) _ (g.O.Sink.written c.loop-event.out) c.args.events.now c.loop-event.event-index c.loop-event-test.false (c.loop-event.invariant.0 profile)

pub returns-clause-files : goal.returns-clause-files
returns-clause-files g c =
    let start = c.args.world.now.kept in
    let index = c.loop-event.event-index in
    subst (λ (ends : Ends). DoesFirst (g.F.Files.told c.args.files.now) (g.F.Files.told c.loop-event.files) (acts_from start c.args.events.now) (ending_acts ends) (Ok tt)) (sym c.loop-event.invariant.7.ends)
    (HasActed-all start (full_at start c.args.events.now index) (g.F.Files.told c.args.files.now) (g.F.Files.told c.loop-event.files) c.args.events.now index c.loop-event-test.false c.loop-event.invariant.3)

pub returns-clause-forgets : goal.returns-clause-forgets
returns-clause-forgets g c = λ none ok.
    let events = c.args.events.now in
    let all : length events ≤ c.loop-event.event-index = omega (arith, c.loop-event-test.false) in
    subst (λ (left : List Event). AreWanted left c.loop-event.world.kept.datagrams) (drop_of_length-le events all) (c.loop-event.invariant.9 none)
