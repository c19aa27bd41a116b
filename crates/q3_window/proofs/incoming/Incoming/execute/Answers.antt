use Rattle.std.proofs.Common.{◌≡◌, ◌-◌, length, Some, None, slice_get, sym, ap, ◌∙◌}
use Rattle.std.specs.Option.{option_copied}
use Rattle.q3_window.specs.Incoming.{IncomingState, fresh_of}
use Rattle.q3_window.proofs.Runs.{executes_some, executes_none}
use Rattle.q3_window.proofs.incoming.Incoming.execute.Goals as goal

pub returns-in-Some-clause-window : goal.returns-in-Some-clause-window
returns-in-Some-clause-window c =
    let ran = c.as_slice.result.now in
    let same = ap (λ (window : IncomingState). fresh_of window.executed c.args.commands.now) c.self.view_is in
    let last : slice_get ran (length ran - 1) ≡ Some c.in-Some.last.now = sym c.last.ensures.value ∙ ap option_copied c.in-Some.is in
    c.run.ensures ∙ executes_some c.args.self.now c.args.commands.now ran c.in-Some.last.now (c.as_slice.ensures.commands ∙ c.put_fresh.ensures ∙ same) last

pub returns-in_default-clause-window : goal.returns-in_default-clause-window
returns-in_default-clause-window c =
    let ran = c.as_slice.result.now in
    let same = ap (λ (window : IncomingState). fresh_of window.executed c.args.commands.now) c.self.view_is in
    let last : slice_get ran (length ran - 1) ≡ None = sym c.last.ensures.value ∙ ap option_copied c.in_default.is in
    executes_none c.args.self.now c.args.commands.now ran (c.as_slice.ensures.commands ∙ c.put_fresh.ensures ∙ same) last
