-- What stands at the end of a line: words of refusals and of causes.
use Rattle.std.proofs.Common.{◌≡◌, ℕ, true, List, [], ◌∷◌, ◌++◌, Result, Ok, Err, codes, decimal, refl}
use Rattle.std.specs.List.{concat}
use Rattle.q3_bits.specs.Report.{bits_word}
use Rattle.q3_bits.specs.declared.reader.ReadError.{ReadError}
use Rattle.q3_bits.specs.declared.reader.ReadError.TheVariants as reading
use Rattle.q3_fields.specs.declared.delta.DeltaError.{DeltaError}
use Rattle.q3_fields.specs.declared.delta.DeltaError.TheVariants as deltas
use Rattle.q3_entity.specs.declared.error.EntityError.{EntityError}
use Rattle.q3_entity.specs.declared.error.EntityError.TheVariants as entities
use Rattle.q3_clmsg.specs.declared.error.ClientIllegible.{ClientIllegible}
use Rattle.q3_clmsg.specs.declared.error.ClientIllegible.TheVariants as heard
use Rattle.q3_clmsg.specs.Report as client_words
use Rattle.q3_svmsg.specs.declared.error.Illegible.{Illegible as ServerIllegible}
use Rattle.q3_svmsg.specs.declared.error.Illegible.TheVariants as causes
use Rattle.q3_svmsg.specs.Report as server_words
use Rattle.q3_rings.specs.declared.rings.NoBase.{NoBase}
use Rattle.q3_rings.specs.declared.rings.NoBase.TheVariants as bases
use Rattle.q3_clstate.specs.Report.{cause_text}
use Rattle.q3_map.specs.declared.map.NotLater.{NotLater}
use Rattle.q3_slot.specs.declared.answer.NoClient.{NoClient}
use Rattle.q3_slot.specs.declared.answer.SayError.{SayError}
use Rattle.q3_slot.specs.declared.answer.SayError.TheVariants as unsaid
use Rattle.q3_server.specs.declared.server.SlotError.{SlotError}
use Rattle.q3_server.specs.declared.server.SlotError.TheVariants.{Range, Taken, Twin}
use Rattle.q3_server.specs.declared.server.ConfigRefused.{ConfigRefused}
use Rattle.q3_server.specs.declared.server.ConfigRefused.TheVariants as config
use Rattle.q3_client.specs.declared.client.MoveError.{MoveError}
use Rattle.q3_client.specs.declared.client.MoveError.TheVariants as unmoved
use Rattle.q3_report.specs.ServerLines.{slot_error_text, not_later_text, no_client_text, config_refused_text, say_error_text}
use Rattle.q3_report.specs.ClientLines.{move_error_text}
use Rattle.q3_report.specs.declared.answer.OutOfRange.{OutOfRange}
use Rattle.q3_report.specs.declared.answer.BaselineRefused.{BaselineRefused}
use Rattle.q3_report.specs.declared.answer.BaselineRefused.TheVariants as unset
use Rattle.q3_report.specs.declared.answer.MoveRefused.{MoveRefused}
use Rattle.q3_report.specs.declared.answer.MoveRefused.TheVariants as refused
use Rattle.q3_report.specs.declared.answer.TypeRefused.{TypeRefused}
use Rattle.q3_report.specs.declared.answer.TypeRefused.TheVariants as untyped
use Rattle.q3_report.specs.declared.answer.RecordRefused.{RecordRefused}
use Rattle.q3_report.specs.declared.answer.RecordRefused.TheVariants as unrecorded
use Rattle.q3_report.specs.declared.answer.StopRefused.{StopRefused}
use Rattle.q3_report.specs.declared.answer.StopRefused.TheVariants as unstopped
use Rattle.q3_report.specs.AnswerLines.{handed_in_text, issued_text, out_of_range_text, baseline_refused_text, type_refused_text, move_refused_text, record_refused_text, stop_refused_text}
use Rattle.q3_text.specs.Cuts.{lacks}
use Rattle.q3_schedules.proofs.PlainTexts.{lacks_both, number}
use Rattle.q3_schedules.proofs.SpelledLines.{Spelled, nothing, in_front, newline, last}

-- the text is one line
pub record OneLine (text : List ℕ) : Type 0 where
  pub line : List ℕ
  pub spelled : Spelled text (line ∷ [])

-- after something
abbrev pub after_part : (part text : List ℕ) → lacks 10 part ≡ true → OneLine text → OneLine (part ++ text)
after_part part text plain is = record { line = part ++ is.line; spelled = in_front part text is.line [] plain is.spelled }

abbrev pub ending : OneLine (codes "\n")
ending = record { line = []; spelled = newline [] [] nothing }

abbrev pub whole : (part : List ℕ) → lacks 10 part ≡ true → OneLine (part ++ codes "\n")
whole part plain = after_part part (codes "\n") plain ending

-- and where nothing follows, as in a `concat`
abbrev pub closed : (text : List ℕ) → OneLine text → OneLine (text ++ [])
closed text is = record { line = is.line; spelled = last text (is.line ∷ []) is.spelled }

-- a word, and a number after it
pub numbered : (word : List ℕ) (n : ℕ) → lacks 10 word ≡ true → lacks 10 (concat (word ∷ decimal n ∷ [])) ≡ true
numbered word n plain = lacks_both 10 word (decimal n ++ []) plain (lacks_both 10 (decimal n) [] (number n) refl)

-- ---- words of refusals

pub slot_error : (e : SlotError) → lacks 10 (slot_error_text e) ≡ true
slot_error Range = refl
slot_error Taken = refl
slot_error (Twin slot) = numbered (codes "twin ") slot refl

pub no_client : (e : NoClient) → lacks 10 (no_client_text e) ≡ true
no_client e = refl

pub not_later : (e : NotLater) → lacks 10 (not_later_text e) ≡ true
not_later e = numbered (codes "notlater ") e.last refl

pub out_of_range : (e : OutOfRange) → lacks 10 (out_of_range_text e) ≡ true
out_of_range e = refl

pub baseline_refused : (e : BaselineRefused) → lacks 10 (baseline_refused_text e) ≡ true
baseline_refused unset.OutOfRange = refl
baseline_refused unset.Late = refl

pub config_refused : (e : ConfigRefused) → lacks 10 (config_refused_text e) ≡ true
config_refused (config.Chars byte) = numbered (codes "chars ") byte refl
config_refused (config.WindowFull slot) = numbered (codes "windowfull ") slot refl
config_refused e = refl

pub say_error : (e : SayError) → lacks 10 (say_error_text e) ≡ true
say_error unsaid.NoClient = refl
say_error unsaid.Own = refl
say_error unsaid.NotPrimed = refl
say_error unsaid.WindowFull = refl

pub type_refused : (e : TypeRefused) → lacks 10 (type_refused_text e) ≡ true
type_refused untyped.NoClient = refl
type_refused untyped.WindowFull = refl

move_error : (e : MoveError) → lacks 10 (move_error_text e) ≡ true
move_error (unmoved.NotLater time) = numbered (codes "notlater ") time refl
move_error e = refl

pub move_refused : (e : MoveRefused) → lacks 10 (move_refused_text e) ≡ true
move_refused refused.NoClient = refl
move_refused (refused.Error e) = move_error e

pub record_refused : (e : RecordRefused) → lacks 10 (record_refused_text e) ≡ true
record_refused unrecorded.NoClient = refl
record_refused unrecorded.NoGame = refl
record_refused unrecorded.Already = refl

pub stop_refused : (e : StopRefused) → lacks 10 (stop_refused_text e) ≡ true
stop_refused unstopped.NoClient = refl
stop_refused unstopped.NotRecording = refl

refusal : (text : List ℕ) → lacks 10 text ≡ true → OneLine (concat (codes " refused " ∷ text ∷ codes "\n" ∷ []))
refusal text plain = after_part (codes " refused ") (text ++ codes "\n") refl (whole text plain)

pub handed_in : {E : Type 0} (text : E → List ℕ) → ((e : E) → lacks 10 (text e) ≡ true) → (outcome : Result (Unit {0}) E) → OneLine (handed_in_text text outcome)
handed_in text plain (Ok x) = whole (codes " ok") refl
handed_in text plain (Err e) = refusal (text e) (plain e)

pub issued : {E : Type 0} (text : E → List ℕ) → ((e : E) → lacks 10 (text e) ≡ true) → (outcome : Result ℕ E) → OneLine (issued_text text outcome)
issued text plain (Ok n) = after_part (codes " ok ") (decimal n ++ codes "\n") refl (whole (decimal n) (number n))
issued text plain (Err e) = refusal (text e) (plain e)

-- ---- words of causes

bits : (e : ReadError) → lacks 10 (bits_word e) ≡ true
bits reading.End = refl
bits reading.NoWord = refl

pub client_cause : (e : ClientIllegible) → lacks 10 (client_words.cause_word e) ≡ true
client_cause (heard.Bits e) = bits e
client_cause e = refl

entity_cause : (e : EntityError) → lacks 10 (server_words.entity_word e) ≡ true
entity_cause (entities.Bits e) = bits e
entity_cause e = refl

player_cause : (e : DeltaError) → lacks 10 (server_words.player_word e) ≡ true
player_cause (deltas.Bits e) = bits e
player_cause (deltas.Count count) = refl

pub server_cause : (e : ServerIllegible) → lacks 10 (server_words.cause_word e) ≡ true
server_cause (causes.Bits e) = bits e
server_cause (causes.Entity e) = entity_cause e
server_cause (causes.Player e) = player_cause e
server_cause e = refl

pub base_cause : (e : NoBase) → lacks 10 (cause_text e) ≡ true
base_cause bases.NeverHeld = refl
base_cause (bases.Overwritten other) = numbered (codes "overwritten ") other refl
base_cause (bases.EntitiesGone age) = numbered (codes "entitiesgone ") age refl
