-- What bytes do has their message's number.
use Rattle.std.proofs.Common.{◌≡◌, ℕ, List, Result, Ok, refl, subst}
use Rattle.std.proofs.lemmas.Bool.{cond_both}
use Rattle.q3_bits.specs.Bits.{bits_of}
use Rattle.q3_bits.proofs.Binds.{bind_ok}
use Rattle.q3_svmsg.specs.declared.error.Illegible.{Illegible}
use Rattle.q3_svmsg.specs.Reading.{server_message_in}
use Rattle.q3_svmsg.specs.Values as told
use Rattle.q3_svmsg.specs.Values.{Told, Message}
use Rattle.q3_clstate.specs.declared.applied.Applied.{Applied}
use Rattle.q3_clstate.specs.declared.applied.SnapOutcome.TheVariants.{Stale, Skipped}
use Rattle.q3_clstate.specs.State.{AppliedState, Application, context_of, passes, accepts, is_stale, skipped_for, apply_section, apply_read, apply_at, hearing}
use Rattle.q3_rings.specs.Rings.{held_snapshot}
use Rattle.q3_client.specs.declared.client.ClientTook.TheVariants as took

section_numbered : (state : AppliedState) (number : ℕ) (section : Told) → (apply_section state number section).answer.number ≡ number
section_numbered state number told.Nothing = refl
section_numbered state number (told.Game game) = refl
section_numbered state number (told.Snap base head entities) =
    cond_both (is_stale state.held number) (passes state number Stale) (accepts state number base (record { head = head; entities = entities }))
    (λ (applied : Application). applied.answer.number ≡ number) (λ e. refl) (λ e. refl)
section_numbered state number (told.Skipped base) =
    cond_both (is_stale state.held number) (passes state number Stale) (passes state number (Skipped base (skipped_for (held_snapshot state.held base))))
    (λ (applied : Application). applied.answer.number ≡ number) (λ e. refl) (λ e. refl)

abbrev pub applied_as : Application → Result Application Illegible
applied_as application = Ok application

pub are_same : (one other : Application) → applied_as one ≡ applied_as other → one ≡ other
are_same one other e = cc

pub numbered : (state : AppliedState) (number : ℕ) (bytes : List ℕ) (application : Application) → apply_at state number bytes ≡ Ok application → application.answer.number ≡ number
numbered state number bytes application e =
    let read = bind_ok (server_message_in state.profile (context_of state.held state.baselines) number (bits_of bytes)) (λ (read : Message). applied_as (apply_read state number read)) application e in
    let does = are_same (apply_read state number read.0) application read.2 in
    subst (λ (a : Application). a.answer.number ≡ number) does (section_numbered (hearing state read.0.commands) number read.0.section)

-- an answer tells what was applied
pub applied_same : (one other : Applied) → took.Applied one ≡ took.Applied other → one ≡ other
applied_same one other e = cc
