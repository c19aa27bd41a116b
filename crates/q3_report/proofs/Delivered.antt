-- The lines of a delivery of what was applied.
use Rattle.std.proofs.Common.{◌≡◌, ℕ, List, [], ◌∷◌, ◌++◌, codes, decimal, ap, ◌∙◌}
use Rattle.std.specs.List.{concat}
use Rattle.std.proofs.lemmas.List.{append-nil}
use Rattle.std.proofs.lemmas.List.Folds.{concat-append}
use Rattle.q3_text.specs.declared.text.Command.{Command}
use Rattle.q3_clstate.specs.declared.applied.Applied.{Applied}
use Rattle.q3_clstate.specs.State.{AppliedState}
use Rattle.q3_clstate.specs.Report.{applied_text}
use Rattle.q3_client.specs.declared.client.ClientTook.TheVariants as took
use Rattle.q3_report.specs.ClientLines.{took_text, client_text}

-- the rest of the delivery's line, and after it those of what was applied
pub delivered_lines : (state : AppliedState) (c : ℕ) (applied : Applied) (commands : List Command)
    → client_text state c (took.Applied applied) commands
    ≡ concat (codes " client " ∷ decimal c ∷ codes " applied " ∷ decimal applied.number ∷ codes "\n" ∷ []) ++ applied_text state applied commands
delivered_lines state c applied commands =
    let line = codes " client " ∷ decimal c ∷ codes " applied " ∷ decimal applied.number ∷ codes "\n" ∷ [] in
    ap (λ (text : List ℕ). codes " client " ++ (decimal c ++ text)) (append-nil (took_text state (took.Applied applied) commands))
    ∙ (concat-append line (applied_text state applied commands ∷ []) ∙ ap (λ (text : List ℕ). concat line ++ text) (append-nil (applied_text state applied commands)))
