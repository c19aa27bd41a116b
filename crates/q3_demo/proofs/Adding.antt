-- One message more in a recording.
use Rattle.std.proofs.Common.{◌≡◌, ℕ, List, [], ◌∷◌, ◌++◌, refl, sym, ap, ◌∙◌, append_assoc}
use Rattle.std.proofs.lemmas.List.{append-nil}
use Rattle.q3_demo.specs.declared.recorder.Stage.{Stage}
use Rattle.q3_demo.specs.Recording.{Noted, note_of, noted_from}
use Rattle.q3_demo.specs.Laws.{RecordingGoesOn}

stage_on : (stage : Stage) (messages : List Noted) (noted : Noted)
    → (noted_from stage (messages ++ noted ∷ [])).stage ≡ (note_of (noted_from stage messages).stage noted).stage
unfolding noted_from
stage_on stage [] noted = refl
stage_on stage (first ∷ messages) noted = stage_on (note_of stage first).stage messages noted

bytes_on : (stage : Stage) (messages : List Noted) (noted : Noted)
    → (noted_from stage (messages ++ noted ∷ [])).bytes ≡ (noted_from stage messages).bytes ++ (note_of (noted_from stage messages).stage noted).bytes
unfolding noted_from
bytes_on stage [] noted = append-nil (note_of stage noted).bytes
bytes_on stage (first ∷ messages) noted =
    let now = note_of stage first in
    ap (λ (bytes : List ℕ). now.bytes ++ bytes) (bytes_on now.stage messages noted)
    ∙ sym (append_assoc now.bytes (noted_from now.stage messages).bytes (note_of (noted_from now.stage messages).stage noted).bytes)

pub goes_on : RecordingGoesOn
goes_on = record { stage = stage_on; bytes = bytes_on }
