-- A line about an entity: it does what it does, or its number is out of range and nothing changes.
use Rattle.std.proofs.Common.{ℕ, ◌<◌}
use Rattle.std.specs.Prelude.{nat_lt}
use Rattle.std.proofs.lemmas.Bool.{cond_both, ltb-true}
use Rattle.q3_fields.specs.Kinds.{end_mark}
use Rattle.q3_server.specs.Server.{ServerState}
use Rattle.q3_report.specs.declared.answer.HandedIn.{HandedIn}
use Rattle.q3_ends.specs.AtServer.{ServerStep, in_range}

-- what holds of both holds of it
pub in_range_or : (P : ServerStep → Type 0) (server : ServerState) (number : ℕ) (refusal : HandedIn) (step : ServerStep) → (number < end_mark server.profile.entity → P step)
    → P (record { server = server; answer = refusal }) → P (in_range server number refusal step)
in_range_or P server number refusal step within beyond =
    cond_both (nat_lt number (end_mark server.profile.entity)) step (record { server = server; answer = refusal }) P
    (λ below. within (ltb-true number (end_mark server.profile.entity) below)) (λ past. beyond)
