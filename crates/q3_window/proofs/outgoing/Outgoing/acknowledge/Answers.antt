use Rattle.std.proofs.Common.{◌≡◌, ◌⊎◌, ℕ, ◌-◌, ◌<◌, Err, inl, inr, sym, ap, subst, ◌∙◌, arith}
use Rattle.q3_window.specs.Outgoing.{OutgoingState, issued_of, acknowledge_at}
use Rattle.q3_window.specs.Cells.{AreKept, window_of}
use Rattle.q3_window.proofs.Held.{issued-window, refused_is, acknowledge_is, acknowledged_are_kept, passed_within}
use Rattle.q3_window.proofs.outgoing.Outgoing.acknowledge.Goals.{then-number-self-via-then-number-self, then-number-self-via-else-number-self+then-self-number}
use Rattle.q3_window.proofs.outgoing.Outgoing.acknowledge.Goals as goal

pub returns-then-number-self : goal.returns-then-number-self
returns-then-number-self c =
    let inside = c.self.inside in
    let window = window_of inside.cells.items inside.acknowledged inside.issued in
    let kept = c.self.invariant.kept in
    let last = issued-window inside.cells.items inside.acknowledged inside.issued kept.within in
    let outside : (c.args.number < inside.acknowledged) ⊎ (issued_of window < c.args.number) =
    elim c.then-number-self.branch [
      | then-number-self-via-then-number-self w ↦ let below = w.if-number-self.true in inl (omega arith)
      | then-number-self-via-else-number-self+then-self-number w ↦ let above = w.if-self-number.true in inr (omega arith)
    ] in
    subst (λ (window : OutgoingState). acknowledge_at window c.args.number ≡ record { window = window; answer = Err (record {}) }) c.self.view_is
    (refused_is window c.args.number outside)

pub bytes_of-passed-requires-clause-few : goal.bytes_of-passed-requires-clause-few
bytes_of-passed-requires-clause-few c =
    let inside = c.self.inside in
    let kept = c.self.invariant.kept in
    let few = kept.is.few in
    let last = issued-window inside.cells.items inside.acknowledged inside.issued kept.within in
    omega arith

pub bytes_of-passed-requires-clause-last : goal.bytes_of-passed-requires-clause-last
bytes_of-passed-requires-clause-last c =
    let inside = c.self.inside in
    let kept = c.self.invariant.kept in
    let numbers = kept.is.numbers in
    let last = issued-window inside.cells.items inside.acknowledged inside.issued kept.within in
    omega arith

pub overflow_sub-self : goal.overflow_sub-self
overflow_sub-self c =
    let inside = c.self.inside in
    let within = passed_within inside.cells.items inside.acknowledged inside.issued inside.bytes c.args.number c.self.invariant.kept (omega arith) (omega arith) in
    omega (arith, within)

pub invariant_of-self : goal.invariant_of-self
invariant_of-self c =
    let inside = c.self.inside in
    record {
      kept =
          subst (λ (passed : ℕ). AreKept inside.cells.items c.args.number inside.issued (inside.bytes - passed)) (sym c.bytes_of-passed.ensures)
          (acknowledged_are_kept inside.cells.items inside.acknowledged inside.issued inside.bytes c.args.number c.self.invariant.kept (omega arith) (omega arith));
      empty = c.self.invariant.empty;
    }

pub returns : goal.returns
returns c =
    let inside = c.self.inside in
    sym (ap (λ (window : OutgoingState). acknowledge_at window c.args.number) c.self.view_is)
    ∙ acknowledge_is inside.cells.items inside.acknowledged inside.issued c.args.number (omega arith) (omega arith)
