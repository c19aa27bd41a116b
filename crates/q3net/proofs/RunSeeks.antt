-- What is sought by the index that was made of a demo is what playing leaves.
use Rattle.std.proofs.Common.{◌≡◌, ℕ, ◌<◌, ◌≤◌, true, List, [], ◌∷◌, Option, Some, Result, Ok, Err, sym, ap, subst, ◌∙◌, inl, inr, rules}
use Rattle.std.specs.Prelude.{◌⊎◌, ◌^◌}
use Rattle.std.proofs.lemmas.List.{append-nil}
use Rattle.q3_io.specs.Laws.{TextsFollow}
use Rattle.q3_io.specs.Written.{Written, Wrote}
use Rattle.q3_profile.specs.declared.profile.Profile.{Profile}
use Rattle.q3_demo.specs.Playing as demos
use Rattle.q3_demo.specs.Report.{state_text}
use Rattle.q3_runs.specs.declared.fault.Fault.{Fault}
use Rattle.q3_runs.specs.declared.fault.Fault.TheVariants as faults
use Rattle.q3_command.specs.Command.{Command, Seek}
use Rattle.q3_runs.specs.Lines.{ending_line, ending_status}
use Rattle.q3_runs.specs.Verdict.{Outside}
use Rattle.q3_runs.specs.Run.{EndsWithPlayedState}
use Rattle.q3net.specs.Run.{Took, SeekReportsPlayedState, CommandEndsWithPlayedState, WhereSeekIndexWasMade, ReportsPlayedState}

-- of other commands nothing is said
of_made : (command : Option Command) (told : Outside) (First Then : Profile → List ℕ → ℕ → Type 0) → ((by : Profile) (bytes : List ℕ) (number : ℕ) → First by bytes number → Then by bytes number)
    → WhereSeekIndexWasMade command told First → WhereSeekIndexWasMade command told Then
of_made (Some (Seek profile demo index number)) told First Then so first =
    λ files by version bytes made is says of_demo of_index long tells whole few. so by bytes number (first files by version bytes made is says of_demo of_index long tells whole few)
of_made other told First Then so first = tt

done_as : (follow : TextsFollow) (old mid now : Option Written) (status : ℕ) (by : Profile) (bytes : List ℕ) (number : ℕ) (played : demos.Played)
    → demos.play_state by bytes number ≡ Ok played → Wrote old mid (state_text played.state number) true → Took (Ok tt) [] mid now status → ReportsPlayedState by bytes number old now status
done_as follow old mid now status by bytes number played plays wrote took =
    elim took [
      | inl all ↦ inl (all.0, played, plays, (follow.more wrote all.1.0 (sym (append-nil (state_text played.state number))), all.1.1))
      | inr failed ↦ inr (inr (inr failed.0))
    ]

-- the status of a fault, or 4 where its line can't be written
fault_as : (mid now : Option Written) (ended : Result (Unit {0}) Fault) (e : Fault) (status : ℕ) → ended ≡ Err e → Took ended (ending_line ended) mid now status → (status ≡ ending_status (Err e)) ⊎ (status ≡ 4)
fault_as mid now ended e status is took = elim took [ inl all ↦ inl (all.0 ∙ ap ending_status is) | inr failed ↦ inr failed.0 ]

ended_as : (follow : TextsFollow) (old mid now : Option Written) (status : ℕ) (ended : Result (Unit {0}) Fault) → Took ended (ending_line ended) mid now status
    → (by : Profile) (bytes : List ℕ) (number : ℕ) → EndsWithPlayedState by bytes number old mid ended → ReportsPlayedState by bytes number old now status
ended_as follow old mid now status ended took by bytes number ends =
    elim ends [
      | inl printed ↦ elim printed.2 [
        | inl all ↦ done_as follow old mid now status by bytes number printed.0 printed.1 all.1 (subst (λ (e : Result (Unit {0}) Fault). Took e (ending_line e) mid now status) all.0 took)
        | inr front ↦ elim (fault_as mid now ended faults.Write status front.0 took) [ inl four ↦ inr (inr (inr four)) | inr four ↦ inr (inr (inr four)) ]
      ]
      | inr early ↦ elim early [
        | inl memory ↦ elim (fault_as mid now ended faults.NoMemory status memory took) [ inl one ↦ inr (inl one) | inr four ↦ inr (inr (inr four)) ]
        | inr read ↦ elim (fault_as mid now ended faults.Read status read took) [ inl three ↦ inr (inr (inl three)) | inr four ↦ inr (inr (inr four)) ]
      ]
    ]

pub seeks_as : (follow : TextsFollow) (command : Option Command) (told : Outside) (old mid now : Option Written) (ended : Result (Unit {0}) Fault) (status : ℕ)
    → CommandEndsWithPlayedState command told old mid ended → Took ended (ending_line ended) mid now status → SeekReportsPlayedState command told old now status
seeks_as follow command told old mid now ended status ends took =
    of_made command told (λ by bytes number. EndsWithPlayedState by bytes number old mid ended) (λ by bytes number. ReportsPlayedState by bytes number old now status) (ended_as follow old mid now status ended took) ends
