-- The parts of a state, each as a row reads it.
use Rattle.std.proofs.Common.{◌≡◌, ℕ, ◌^◌, ◌<◌, ◌≤◌, true, List, length, take, refl, sym, ap, subst, ◌∙◌}
use Rattle.std.specs.Prelude.{All, IfSome, Option}
use Rattle.std.specs.List.{flat_map}
use Rattle.std.proofs.lemmas.List.{length-take-le}
use Rattle.std.proofs.lemmas.List.Elements.{All-take}
use Rattle.std.proofs.lemmas.Option.{IfSome_then}
use Rattle.byteorder.specs.Endian.{little_bytes}
use Rattle.q3_fields.specs.declared.kind.Kind.{Kind}
use Rattle.q3_fields.specs.Kinds.{AreKinds, Layout, IsTable, end_mark}
use Rattle.q3_fields.specs.States.{AreWords, normal_words}
use Rattle.q3_entity.specs.declared.state.EntityState.{EntityState}
use Rattle.q3_entity.specs.Entities.{RiseFrom, AreStates, AreNormal}
use Rattle.q3_entity.specs.Baselines.{Baselines, AreBaselines, most_baselines}
use Rattle.q3_text.specs.Texts.{IsTextByte}
use Rattle.q3_config.specs.Strings.{Pending, Strings, AreStrings, places, longest_string, most_size, config_size}
use Rattle.q3_config.specs.Laws.{HoldTexts, SizesAddUp}
use Rattle.q3_savestate.specs.Cursor.{field_at, number_at, text_at}
use Rattle.q3_savestate.specs.Entities.{words_bytes, state_words_at, entity_bytes, entities_at, baselines_bytes, baselines_at}
use Rattle.q3_savestate.specs.Texts.{strings_bytes, strings_at, pending_bytes, pending_at}
use Rattle.q3_savestate.proofs.Fields.{Took, field_back, field_was, took_field, number_back, numbered, text_back, worded}
use Rattle.q3_savestate.proofs.Words.{words_back, reads_words}
use Rattle.q3_savestate.proofs.EntitiesBack.{entities_back}
use Rattle.q3_savestate.proofs.EntitiesWere.{reads_entities}
use Rattle.q3_savestate.proofs.BaselinesBack.{baselines_back, reads_baselines}
use Rattle.q3_savestate.proofs.TextsBack.{strings_back, reads_strings, pending_back, reads_pending}
use Rattle.q3_savestate.proofs.Rows.{IsByte, ReadsBack, reads_back, WasRead}
use Rattle.q3_entity.specs.Laws.{NoneAreBaselines, BaselineIsAdded}

-- ---- fields

-- bytes as they are
pub bytes_read : (count : ℕ) (bytes : List ℕ) → length bytes ≡ count → ReadsBack (field_at count (λ bytes. bytes) (λ bytes. true)) bytes bytes
bytes_read count bytes long =
    reads_back (field_at count (λ bytes. bytes) (λ bytes. true)) bytes bytes count
    (λ at rest. field_back count (λ bytes. bytes) (λ bytes. true) bytes bytes rest at long refl refl)

-- so many stood there
pub bytes_were_read : (count : ℕ) → WasRead (field_at count (λ bytes. bytes) (λ bytes. true)) (λ bytes. bytes) (λ bytes. (length bytes ≡ count) × All IsByte bytes)
bytes_were_read count = record {
  was = λ cursor x left bytes is.
      let was = field_was count (λ bytes. bytes) (λ bytes. true) cursor x left is in
      let front = take count cursor.bytes in (
        (ap length was.1 ∙ length-take-le count cursor.bytes was.0, subst (All IsByte) (sym was.1) (All-take IsByte count cursor.bytes bytes)),
        subst (λ text. Took cursor text left) (sym was.1) (took_field count cursor left bytes was.0 was.3),
      );
}

-- a number
pub number_read : (count least most n : ℕ) → n < 256 ^ count → least ≤ n → n ≤ most → ReadsBack (number_at count least most) (little_bytes count n) n
number_read count least most n fits above below =
    reads_back (number_at count least most) (little_bytes count n) n count (λ at rest. number_back count least most n at rest fits above below)

-- a number within its limits
pub record IsWithin (count least most n : ℕ) : Type 0 where
  pub above : least ≤ n
  pub below : n ≤ most
  pub fits : n < 256 ^ count

-- a number that is read is within them, and its bytes stood there
pub number_was_read : (count least most : ℕ) → WasRead (number_at count least most) (little_bytes count) (IsWithin count least most)
number_was_read count least most = record {
  was = λ cursor n left bytes is.
      let was = numbered count least most cursor n left bytes is in
      (record { above = was.above; below = was.below; fits = was.fits }, was.took);
}

-- ---- words

-- a state's words
pub words_read : (kinds : List Kind) (words : List ℕ) → AreKinds kinds → AreWords 64 words → normal_words kinds words ≡ words
    → ReadsBack (state_words_at kinds) (words_bytes kinds words) words
words_read kinds words are state normal =
    reads_back (state_words_at kinds) (words_bytes kinds words) words (length (words_bytes kinds words)) (λ at rest. words_back kinds words at rest are.few state normal)

-- words that are read are in normal form
pub words_were_read : (kinds : List Kind) → AreKinds kinds → WasRead (state_words_at kinds) (words_bytes kinds) (λ words. AreWords 64 words × (normal_words kinds words ≡ words))
words_were_read kinds are = record {
  was = λ cursor words left bytes is. let was = reads_words kinds cursor words left are.few bytes is in ((was.are, was.normal), was.took);
}

-- ---- entities

-- entities by rising number
pub entities_read : (table : Layout) (least : ℕ) (entities : List EntityState) → IsTable table → RiseFrom (end_mark table) least entities → AreStates entities
    → AreNormal table entities → ReadsBack (entities_at table (length entities) least) (flat_map (entity_bytes table) entities) entities
entities_read table least entities is rise states normal =
    reads_back (entities_at table (length entities) least) (flat_map (entity_bytes table) entities) entities (length (flat_map (entity_bytes table) entities))
    (λ at rest. entities_back table least entities at rest is rise states normal)

-- entities that rise by number
pub record AreRising (table : Layout) (count least : ℕ) (entities : List EntityState) : Type 0 where
  pub long : length entities ≡ count
  pub rise : RiseFrom (end_mark table) least entities
  pub states : AreStates entities
  pub normal : AreNormal table entities

-- entities that are read rise
pub entities_were_read : (table : Layout) (count least : ℕ) → IsTable table
    → WasRead (entities_at table count least) (flat_map (entity_bytes table)) (AreRising table count least)
entities_were_read table count least is = record {
  was = λ cursor entities left bytes e.
      let was = reads_entities table count least cursor entities left is bytes e in
      (record { long = was.long; rise = was.rise; states = was.are; normal = was.normal }, was.took);
}

-- ---- texts

-- bytes that a text may hold
pub text_read : (text : List ℕ) → All IsTextByte text → ReadsBack (text_at (length text)) text text
text_read text each = reads_back (text_at (length text)) text text (length text) (λ at rest. text_back text at rest each)

-- and only such bytes are read
pub text_was_read : (count : ℕ) → WasRead (text_at count) (λ text. text) (λ text. (length text ≡ count) × All IsTextByte text)
text_was_read count = record {
  was = λ cursor text left bytes is. let was = worded count cursor text left bytes is in ((was.long, was.each), was.took);
}

-- ---- the pending text, config strings and baselines

-- a text that may be pending
pub record MayPend (pending : Option Pending) : Type 0 where
  pub fits : IfSome pending (λ pending. (pending.index < places) × (length pending.text ≤ longest_string))
  pub each : IfSome pending (λ pending. All IsTextByte pending.text)

-- what may be pending is read
pub pending_read : (pending : Option Pending) → MayPend pending → ReadsBack pending_at (pending_bytes pending) pending
pending_read pending is = reads_back pending_at (pending_bytes pending) pending (length (pending_bytes pending)) (λ at rest. pending_back pending at rest is.fits is.each)

-- and what is read may be pending
pub pending_was_read : WasRead pending_at pending_bytes MayPend
pending_was_read = record {
  was = λ cursor pending left bytes e.
      let was = reads_pending cursor pending left bytes e in (
        record {
          fits = IfSome_then pending was.is (λ pending is. (is.within, is.short));
          each = IfSome_then pending was.is (λ pending is. is.each);
        },
        was.took,
      );
}

-- config strings are read
pub strings_read : (strings : Strings) → AreStrings strings → HoldTexts strings → ReadsBack strings_at (strings_bytes strings.texts) strings.texts
strings_read strings are hold =
    reads_back strings_at (strings_bytes strings.texts) strings.texts (length (strings_bytes strings.texts)) (λ at rest. strings_back strings strings.texts at rest are hold refl)

-- texts that may be config strings
pub record MayBeStrings (texts : List (List ℕ)) : Type 0 where
  pub count : length texts ≡ places
  pub size : config_size texts ≤ most_size
  pub short : All (λ text. length text ≤ longest_string) texts
  pub each : All (All IsTextByte) texts

-- and what is read may be config strings
pub strings_were_read : (sizes : SizesAddUp) → WasRead strings_at strings_bytes MayBeStrings
strings_were_read sizes = record {
  was = λ cursor texts left bytes e.
      let was = reads_strings sizes cursor texts left bytes e in
      (record { count = was.long; size = was.fits; short = was.short; each = was.each }, was.took);
}

-- baselines are read
pub baselines_read : (table : Layout) (baselines : Baselines) → IsTable table → AreBaselines table baselines → ReadsBack (baselines_at table) (baselines_bytes table baselines) baselines
baselines_read table baselines is are =
    reads_back (baselines_at table) (baselines_bytes table baselines) baselines (length (baselines_bytes table baselines)) (λ at rest. baselines_back table baselines at rest is are)

-- and what is read are baselines, where no number is above the last place
pub baselines_were_read : (adds : BaselineIsAdded) (bare : NoneAreBaselines) (table : Layout) → IsTable table → end_mark table ≤ most_baselines → WasRead (baselines_at table) (baselines_bytes table) (AreBaselines table)
baselines_were_read adds bare table is few = record {
  was = λ cursor baselines left bytes e. let was = reads_baselines adds bare table cursor baselines left is few bytes e in (was.are, was.took);
}
