use Rattle.std.proofs.Common.{◌≡◌, ◌≤◌, inl, inr, sym, ap, ◌∙◌, arith}
use Rattle.q3_text.specs.declared.text.Command.{Command}
use Rattle.q3_window.specs.Outgoing.{OutgoingState, issued_of, text_at}
use Rattle.q3_window.proofs.Round.{cell_is, kept_text-cell}
use Rattle.q3_window.proofs.Held.{issued-window, text_is}
use Rattle.q3_window.proofs.outgoing.Outgoing.text.Goals as goal

pub returns : goal.returns
returns c = elim c.requires [
  | inl none ↦ absurd (c.if-number-eq0.false none)
  | inr range ↦
      let inside = c.self.inside in
      let cells = inside.cells.items in
      let kept = c.self.invariant.kept in
      let number = c.args.number in
      let first : inside.acknowledged ≡ c.args.self.now.acknowledged = ap (λ (window : OutgoingState). window.acknowledged) c.self.view_is in
      let last : inside.issued ≡ issued_of c.args.self.now =
      sym (issued-window cells inside.acknowledged inside.issued kept.within) ∙ ap issued_of c.self.view_is in
      let least : c.args.self.now.acknowledged ≤ number = range.0 in
      let most : number ≤ issued_of c.args.self.now = range.1 in
      ap (λ (cell : Command). cell.text) (cell_is cells number c.index.result.now kept.count c.index.ensures)
      ∙ sym (kept_text-cell cells number (omega arith)) ∙ sym (text_is cells inside.acknowledged inside.issued number (omega arith) (omega arith))
      ∙ ap (λ (window : OutgoingState). text_at window number) c.self.view_is
]
