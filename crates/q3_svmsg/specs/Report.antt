-- Why a message isn't legible, as reports print it.
use Rattle.std.specs.Prelude.{ℕ, List, codes, Option, Some, None}
use Rattle.q3_bits.specs.Report.{bits_word}
use Rattle.q3_fields.specs.declared.delta.DeltaError.{DeltaError}
use Rattle.q3_fields.specs.declared.delta.DeltaError.TheVariants as deltas
use Rattle.q3_entity.specs.declared.error.EntityError.{EntityError}
use Rattle.q3_entity.specs.declared.error.EntityError.TheVariants as entities
use Rattle.q3_svmsg.specs.declared.error.Illegible.{Illegible}
use Rattle.q3_svmsg.specs.declared.error.Illegible.TheVariants as causes

-- why a message isn't legible: a word, and for some causes a number after it
abbrev pub player_word : DeltaError → List ℕ
player_word (deltas.Bits e) = bits_word e
player_word (deltas.Count count) = codes "count"

abbrev pub entity_word : EntityError → List ℕ
entity_word (entities.Bits e) = bits_word e
entity_word (entities.Count count) = codes "count"
entity_word (entities.Order number) = codes "order"
entity_word entities.Many = codes "many"
entity_word (entities.Removes number) = codes "removes"

abbrev pub cause_word : Illegible → List ℕ
cause_word (causes.Bits e) = bits_word e
cause_word (causes.BadOp byte) = codes "op"
cause_word (causes.Entity e) = entity_word e
cause_word (causes.Player e) = player_word e
cause_word (causes.Area count) = codes "area"
cause_word (causes.Config e) = codes "config"
cause_word causes.TextLong = codes "text"
cause_word causes.NoServerId = codes "serverid"
cause_word causes.Commands = codes "commands"
cause_word (causes.Ack number) = codes "ack"

abbrev pub player_number : DeltaError → Option ℕ
player_number (deltas.Bits e) = None
player_number (deltas.Count count) = Some count

abbrev pub entity_number : EntityError → Option ℕ
entity_number (entities.Bits e) = None
entity_number (entities.Count count) = Some count
entity_number (entities.Order number) = Some number
entity_number entities.Many = None
entity_number (entities.Removes number) = Some number

abbrev pub cause_number : Illegible → Option ℕ
cause_number (causes.Bits e) = None
cause_number (causes.BadOp byte) = Some byte
cause_number (causes.Entity e) = entity_number e
cause_number (causes.Player e) = player_number e
cause_number (causes.Area count) = Some count
cause_number (causes.Config e) = None
cause_number causes.TextLong = None
cause_number causes.NoServerId = None
cause_number causes.Commands = None
cause_number (causes.Ack number) = Some number
