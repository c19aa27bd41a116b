use Rattle.std.proofs.Common.{rules, ◌≡◌, ◌^◌, ◌<◌, true, false, refl, arith}
use Rattle.q3_window.specs.Incoming.{fresh_of}
use Rattle.q3_svmsg.specs.declared.message.Section.TheVariants.{Nothing, Game, Snap}
use Rattle.q3_clstate.specs.State.{is_stale, hearing, apply_at, state_after_message}
use Rattle.q3_clstate.specs.contracts.state.ClState.{the_view}
use Rattle.q3_clstate.proofs.Accepting.{snap_state, skip_state, stands_as}
use Rattle.q3_clstate.proofs.state.ClState.apply.Goals as goal

pub returns-in-Nothing-clause-state : goal.returns-in-Nothing-clause-state
returns-in-Nothing-clause-state c =
    let message = c.read_server_message.new.into in
    let now = the_view c.self.inside in
    let none : message.section ≡ Nothing = search rules in
    let commands : c.as_slice.result.now ≡ message.commands = search rules in
    let ran : c.as_slice-2.result.now ≡ fresh_of now.executed.executed message.commands = search rules in
    rw (← c.self.view_is, ← c.in_ok-read_server_message.ensures.reads, none, c.execute.ensures.window, commands, c.execute-2.ensures, ran) refl

pub returns-in-Snap-default-true-clause-state : goal.returns-in-Snap-default-true-clause-state
returns-in-Snap-default-true-clause-state c =
    let message = c.read_server_message.new.into in
    let now = the_view c.self.inside in
    let base = c.in-Snap-default-true.base in
    let held : message.section ≡ Snap base true = search rules in
    let commands : c.as_slice.result.now ≡ message.commands = search rules in
    let ran : c.as_slice-2.result.now ≡ fresh_of now.executed.executed message.commands = search rules in
    let heard = hearing now message.commands in
    rw (← c.self.view_is, ← c.in_ok-read_server_message.ensures.reads, held, c.accept-snap.ensures.held, c.accept-snap.ensures.baselines, c.execute.ensures.window, commands, c.execute-2.ensures, ran)
    (snap_state heard c.args.number base (record { head = message.head; entities = message.entities.value.items }) (is_stale now.held c.args.number))

pub returns-in-Snap-default-false-clause-state : goal.returns-in-Snap-default-false-clause-state
returns-in-Snap-default-false-clause-state c =
    let message = c.read_server_message.new.into in
    let now = the_view c.self.inside in
    let base = c.in-Snap-default-false.base in
    let skipped : message.section ≡ Snap base false = search rules in
    let commands : c.as_slice.result.now ≡ message.commands = search rules in
    let ran : c.as_slice-2.result.now ≡ fresh_of now.executed.executed message.commands = search rules in
    let heard = hearing now message.commands in
    rw (← c.self.view_is, ← c.in_ok-read_server_message.ensures.reads, skipped, c.execute.ensures.window, commands, c.execute-2.ensures, ran)
    (skip_state heard c.args.number base (is_stale now.held c.args.number))

pub invariant_of-self-in-Nothing : goal.invariant_of-self-in-Nothing
invariant_of-self-in-Nothing c =
    let now = the_view c.self.inside in
    let fits : c.args.number < 2 ^ 32 = omega arith in
    let message = c.read_server_message.new.into in
    let none : message.section ≡ Nothing = search rules in
    let commands : c.as_slice.result.now ≡ message.commands = search rules in
    let ran : c.as_slice-2.result.now ≡ fresh_of now.executed.executed message.commands = search rules in
    record {
      applied = stands_as (state_after_message now (apply_at now c.args.number c.args.message.now)) _ (c.apply_stays.ensures.apply now c.args.number c.args.message.now fits c.self.invariant.applied)
          (rw (← c.in_ok-read_server_message.ensures.reads, none, c.execute.ensures.window, commands, c.execute-2.ensures, ran) refl);
      none = c.self.invariant.none;
    }

pub invariant_of-self-in-Snap-default-true : goal.invariant_of-self-in-Snap-default-true
invariant_of-self-in-Snap-default-true c =
    let now = the_view c.self.inside in
    let fits : c.args.number < 2 ^ 32 = omega arith in
    let message = c.read_server_message.new.into in
    let base = c.in-Snap-default-true.base in
    let held : message.section ≡ Snap base true = search rules in
    let commands : c.as_slice.result.now ≡ message.commands = search rules in
    let ran : c.as_slice-2.result.now ≡ fresh_of now.executed.executed message.commands = search rules in
    let heard = hearing now message.commands in
    record {
      applied = stands_as (state_after_message now (apply_at now c.args.number c.args.message.now)) _ (c.apply_stays.ensures.apply now c.args.number c.args.message.now fits c.self.invariant.applied)
          (rw (← c.in_ok-read_server_message.ensures.reads, held, c.accept-snap.ensures.held, c.accept-snap.ensures.baselines, c.execute.ensures.window, commands, c.execute-2.ensures, ran)
          (snap_state heard c.args.number base (record { head = message.head; entities = message.entities.value.items }) (is_stale now.held c.args.number)));
      none = c.accept-snap.ensures.none;
    }

pub invariant_of-self-in-Snap-default-false : goal.invariant_of-self-in-Snap-default-false
invariant_of-self-in-Snap-default-false c =
    let now = the_view c.self.inside in
    let fits : c.args.number < 2 ^ 32 = omega arith in
    let message = c.read_server_message.new.into in
    let base = c.in-Snap-default-false.base in
    let skipped : message.section ≡ Snap base false = search rules in
    let commands : c.as_slice.result.now ≡ message.commands = search rules in
    let ran : c.as_slice-2.result.now ≡ fresh_of now.executed.executed message.commands = search rules in
    let heard = hearing now message.commands in
    record {
      applied = stands_as (state_after_message now (apply_at now c.args.number c.args.message.now)) _ (c.apply_stays.ensures.apply now c.args.number c.args.message.now fits c.self.invariant.applied)
          (rw (← c.in_ok-read_server_message.ensures.reads, skipped, c.execute.ensures.window, commands, c.execute-2.ensures, ran)
          (skip_state heard c.args.number base (is_stale now.held c.args.number)));
      none = c.self.invariant.none;
    }

pub invariant_of-self-in-Game : goal.invariant_of-self-in-Game
invariant_of-self-in-Game c =
    let now = the_view c.self.inside in
    let fits : c.args.number < 2 ^ 32 = omega arith in
    let message = c.read_server_message.new.into in
    let game : message.section ≡ Game = search rules in
    let commands : c.as_slice.result.now ≡ message.commands = search rules in
    let ran : c.as_slice-2.result.now ≡ fresh_of now.executed.executed message.commands = search rules in
    record {
      applied = stands_as (state_after_message now (apply_at now c.args.number c.args.message.now)) _ (c.apply_stays.ensures.apply now c.args.number c.args.message.now fits c.self.invariant.applied)
          (rw (← c.in_ok-read_server_message.ensures.reads, game, c.start.ensures.settings, c.start-in-Game.ensures.held, c.start-in-Game.ensures.baselines, c.start.ensures.baselines, c.jump.ensures, c.execute.ensures.window, commands, c.execute-2.ensures, ran) refl);
      none = c.start-in-Game.ensures.none;
    }
