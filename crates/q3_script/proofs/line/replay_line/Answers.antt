use Rattle.std.proofs.Common.{◌≡◌, ◌∷◌, ℕ, List, Result, sym, subst, ◌∙◌}
use Rattle.std.specs.Prelude.{codes, IfOk}
use Rattle.std.proofs.lemmas.Slice.Eq.{bytes_eq-Decides}
use Rattle.q3_words.specs.Words.{words_left}
use Rattle.q3_words.specs.declared.cause.LineCause.{LineCause}
use Rattle.q3_script.specs.declared.event.Event.{Event}
use Rattle.q3_script.specs.declared.cause.ScriptKind.TheVariants.{Replay}
use Rattle.q3_script.specs.Lines.{line_at}
use Rattle.q3_script.proofs.TurnLines.{others_turn}
use Rattle.q3_script.proofs.line.replay_line.Goals as goal

pub returns-then-is-14 : goal.returns-then-is-14
unfolding line_at
returns-then-is-14 c =
    let same = (bytes_eq-Decides (codes "type") c.args.word.now).0 (sym c.is-else-is-13.ensures ∙ c.if-is-14.true) in
    subst (λ (word : List ℕ). IfOk c.type_text.result (λ answer. answer ≡ line_at Replay (word ∷ words_left c.args.left.now))) same c.type_text.ensures

pub returns-else-is-15 : goal.returns-else-is-15
returns-else-is-15 c =
    let same = others_turn c.args.word.now (words_left c.args.left.now)
    (sym c.is.ensures ∙ c.if-is.false)
    (sym c.is-else-is.ensures ∙ c.if-is-2.false)
    (sym c.is-else-is-2.ensures ∙ c.if-is-3.false)
    (sym c.is-else-is-3.ensures ∙ c.if-is-4.false)
    (sym c.is-else-is-4.ensures ∙ c.if-is-5.false)
    (sym c.is-else-is-5.ensures ∙ c.if-is-6.false)
    (sym c.is-else-is-6.ensures ∙ c.if-is-7.false)
    (sym c.is-else-is-7.ensures ∙ c.if-is-8.false)
    (sym c.is-else-is-8.ensures ∙ c.if-is-9.false)
    (sym c.is-else-is-9.ensures ∙ c.if-is-10.false)
    (sym c.is-else-is-10.ensures ∙ c.if-is-11.false)
    (sym c.is-else-is-11.ensures ∙ c.if-is-12.false)
    (sym c.is-else-is-12.ensures ∙ c.if-is-13.false)
    (sym c.is-else-is-13.ensures ∙ c.if-is-14.false)
    (sym c.is-else-is-14.ensures ∙ c.if-is-15.false) in
    subst (λ (line : Result Event LineCause). IfOk c.turn_line.result (λ answer. answer ≡ line)) same c.turn_line.ensures
