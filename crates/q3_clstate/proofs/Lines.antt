-- The line of a snapshot that was skipped.
use Rattle.std.proofs.Common.{◌≡◌, ℕ, [], ◌∷◌, ◌++◌, codes, decimal}
use Rattle.std.specs.List.{concat}
use Rattle.std.proofs.lemmas.List.Folds.{concat-append}
use Rattle.q3_rings.specs.declared.rings.NoBase.{NoBase}
use Rattle.q3_clstate.specs.declared.applied.SnapOutcome.TheVariants.{Skipped}
use Rattle.q3_clstate.specs.Report.{cause_text, outcome_text}

-- its front, and after it the cause
pub skipped_line : (number base : ℕ) (cause : NoBase)
    → outcome_text number (Skipped base cause)
    ≡ concat (codes "+ skipped " ∷ decimal number ∷ codes " base " ∷ decimal base ∷ codes " " ∷ []) ++ (cause_text cause ++ codes "\n")
skipped_line number base cause =
    concat-append (codes "+ skipped " ∷ decimal number ∷ codes " base " ∷ decimal base ∷ codes " " ∷ []) (cause_text cause ∷ codes "\n" ∷ [])
