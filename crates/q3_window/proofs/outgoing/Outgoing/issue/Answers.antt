use Rattle.std.proofs.Common.{◌≡◌, ℕ, ◌+◌, List, length, true, sym, ap, subst, ◌∙◌, arith}
use Rattle.q3_text.specs.declared.text.Command.{Command}
use Rattle.q3_window.specs.Outgoing.{OutgoingState, fits, issue_at}
use Rattle.q3_window.specs.Cells.{AreKept, window_of}
use Rattle.q3_window.proofs.Held.{put_after, fits_is, issued-window, issue_is, issued_are_kept}
use Rattle.q3_window.proofs.outgoing.Outgoing.issue.Goals as goal

pub overflow_add-number : goal.overflow_add-number
overflow_add-number c =
    let inside = c.self.inside in
    let kept = c.self.invariant.kept in
    let numbers = kept.is.numbers in
    let last = issued-window inside.cells.items inside.acknowledged inside.issued kept.within in
    omega arith

pub invariant_of-self : goal.invariant_of-self
invariant_of-self c =
    let inside = c.self.inside in
    let text = c.args.text.now in
    let window = window_of inside.cells.items inside.acknowledged inside.issued in
    let fit : fits window 1 (length text) ≡ true =
    ap (λ (window : OutgoingState). fits window 1 (length text)) c.self.view_is ∙ sym (ap (λ (text : List ℕ). fits c.args.self.now 1 (length text)) c.bytes.ensures.bytes)
    ∙ sym c.fits.ensures ∙ c.if-not-fits.false in
    let kept = issued_are_kept inside.cells.items inside.acknowledged inside.issued inside.bytes text c.self.invariant.kept c.bytes.ensures.is_text (fits_is window 1 (length text) fit) in
    record {
      kept =
          subst (λ (cells : List Command). AreKept cells inside.acknowledged (inside.issued + 1) (inside.bytes + length c.bytes.result.now)) (sym c.put.ensures)
          (subst (λ (text : List ℕ). AreKept (put_after inside.cells.items inside.issued c.args.text.now) inside.acknowledged (inside.issued + 1) (inside.bytes + length text)) (sym c.bytes.ensures.bytes) kept);
      empty = c.self.invariant.empty;
    }

pub returns : goal.returns
returns c =
    let inside = c.self.inside in
    let text = c.args.text.now in
    let window = window_of inside.cells.items inside.acknowledged inside.issued in
    let fit : fits window 1 (length text) ≡ true =
    ap (λ (window : OutgoingState). fits window 1 (length text)) c.self.view_is ∙ sym (ap (λ (text : List ℕ). fits c.args.self.now 1 (length text)) c.bytes.ensures.bytes)
    ∙ sym c.fits.ensures ∙ c.if-not-fits.false in
    let kept = c.self.invariant.kept in
    sym (ap (λ (window : OutgoingState). issue_at window text) c.self.view_is)
    ∙ issue_is inside.cells.items c.put.new.cells.items inside.acknowledged inside.issued text kept.count kept.within fit c.put.ensures
