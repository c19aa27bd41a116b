-- What a recording has of what its client took.
use Rattle.std.proofs.Common.{◌≡◌, [], false, refl, subst, arith}
use Rattle.q3_clstate.specs.declared.applied.Applied.{Applied as AppliedSo}
use Rattle.q3_clstate.specs.State.{AppliedState}
use Rattle.q3_clstate.specs.Standing.{IsApplied}
use Rattle.q3_client.specs.declared.client.ClientTook.{ClientTook}
use Rattle.q3_client.specs.declared.client.ClientTook.TheVariants as took
use Rattle.q3_client.specs.Client.{ClientState, Taken}
use Rattle.q3_client.specs.Laws.{WasApplied}
use Rattle.q3_demo.specs.declared.recorder.Stage.{Stage}
use Rattle.q3_demo.specs.Laws.{AppliedMayBeNoted}
use Rattle.q3_demo.specs.Recorder.{MayNote}
use Rattle.q3_ends.specs.Recording.{RecorderTook, recorder_took}

-- where nothing was applied, nothing is noted
pub nothing_noted : (Says : RecorderTook → Type 0) (stage : Stage) (client : ClientState) (taken : Taken) (answer : ClientTook) → ((applied : AppliedSo) → answer ≡ took.Applied applied → ⊥)
    → Says (record { stage = stage; ended = false; bytes = [] }) → Says (recorder_took stage client taken answer)
nothing_noted Says stage client taken (took.Applied applied) not says = absurd (not applied refl)
nothing_noted Says stage client taken (took.Dropped cause) not says = says
nothing_noted Says stage client taken took.Runt not says = says
nothing_noted Says stage client taken took.Connectionless not says = says
nothing_noted Says stage client taken took.Old not says = says
nothing_noted Says stage client taken took.OutOfOrder not says = says
nothing_noted Says stage client taken took.BadFragment not says = says
nothing_noted Says stage client taken took.BadCheck not says = says
nothing_noted Says stage client taken took.Partial not says = says
nothing_noted Says stage client taken (took.Illegible cause) not says = says

-- what was applied may be noted
pub may_note : AppliedMayBeNoted → (stage : Stage) (client : ClientState) (taken : Taken) (applied : AppliedSo) → IsApplied client.state → WasApplied client taken applied
    → MayNote stage taken.client.state applied taken.client.message
may_note law stage client taken applied stands was =
    subst (λ (state : AppliedState). MayNote stage state applied taken.client.message) was.state
    (subst (λ (answer : AppliedSo). MayNote stage was.application.state answer taken.client.message) was.answer
    (law client.state applied.number taken.client.message was.application stage stands (let fits = was.fits in omega (arith, fits)) was.does))
