-- The spellings of a delta of words: what is written is one of them, and a reader takes each of them and no other text.
use Rattle.std.proofs.Common.{◌≡◌, ℕ, ◌^◌, ◌≤◌, ◌<◌, Bool, false, cond, ltb, List, ◌++◌, length, take, Result, Err, refl, sym, ◌∙◌, append_assoc, arith}
use Rattle.std.proofs.lemmas.Bool.{ltb-false, le-ltb}
use Rattle.std.proofs.lemmas.List.{length-take-le}
use Rattle.std.proofs.lemmas.List.Elements.{All-take}
use Rattle.q3_bits.proofs.Binds.{bind_ok}
use Rattle.q3_bits.specs.Words.{field_bits, field_at}
use Rattle.q3_bits.specs.Laws.{ReadWasPut, PutIsRead}
use Rattle.q3_fields.specs.declared.kind.Kind.{Kind}
use Rattle.q3_fields.specs.declared.delta.StateKind.{StateKind}
use Rattle.q3_fields.specs.declared.delta.DeltaError.{DeltaError}
use Rattle.q3_fields.specs.declared.delta.DeltaError.TheVariants.{Count}
use Rattle.q3_fields.specs.Kinds.{IsKind}
use Rattle.q3_fields.specs.Deltas.{changed_count, fields_bits, words_delta, fields_at, bits_read, words_at}
use Rattle.q3_fields.specs.Laws.{NormIsNormal, NormalWordsAreNormal, WordsAreSpelled, UnchangedIsNormal, WordsReadAreSpelled, WordsSpelledAreRead}
use Rattle.q3_fields.proofs.LastChanged.{last_changed-agrees, last_changed-le}
use Rattle.q3_fields.proofs.NormalWords.{normal_words-twice, normal_words-fit, length-normal_words, normal_words-front}
use Rattle.q3_fields.proofs.Results.{bits_ok, guard_ok, bits_were_put, after_mark}
use Rattle.q3_fields.proofs.Changed.{ChangedIsSpelled, ChangedWasSpelled, ChangedIsRead}
use Rattle.q3_fields.proofs.FieldSpelled.{fronts, fields_are_spelled, fields_were_spelled, fields_are_normal, fields_are_read}

-- the normal form of words
pub words_are_normal : NormIsNormal → NormalWordsAreNormal
words_are_normal law table words is_table are = (
  record { count = length-normal_words table words ∙ are.count; each = normal_words-fit law table words is_table.each are.each },
  normal_words-twice law table words is_table.each are.each,
)

-- words that are written against normal ones are spelled in their normal form
pub delta_is_spelled : ChangedIsSpelled → WordsAreSpelled
unfolding words_delta
delta_is_spelled law state words table from to code is_table are normal are' =
    let count = changed_count table from to in
    let long : length from ≡ length to = are.count ∙ sym are'.count in
    let within : length table ≤ length from = omega (arith, is_table.few, are.count) in
    let front : length (take (length table) from) ≡ length table = length-take-le (length table) from within in
    record {
      count = count;
      fields = fields_bits state words (take count table) from to;
      in_table = omega (arith, last_changed-le (take (length table) from) (take (length table) to), front);
      of_fields = fields_are_spelled law state words table is_table.each from to long are'.each normal;
      whole = refl;
    }

-- where no field changed, the table's words agree
pub unchanged : UnchangedIsNormal
unchanged table from to is_table are normal are' none =
    let long : length from ≡ length to = are.count ∙ sym are'.count in
    let agree : take (length table) from ≡ take (length table) to = rw none at (last_changed-agrees (take (length table) from) (take (length table) to) (fronts (length table) from to long)) in
    sym (normal_words-front table from to long agree) ∙ normal

-- the fields, where the table has so many
abbrev some_fields : StateKind → List (List Bool) → List Kind → List ℕ → ℕ × List Bool → Result (List ℕ × List Bool) DeltaError
some_fields state words table from count = cond (ltb (length table) count.0) (Err (Count count.0)) (bits_read (fields_at state words (take count.0 table) from count.1))

-- words that are read were spelled so
pub words_were_spelled : ReadWasPut → ChangedWasSpelled → WordsReadAreSpelled
unfolding words_at
words_were_spelled put law state words table from to bits rest code is_table are e =
    let count = bind_ok (bits_read (field_at words 8 bits)) (some_fields state words table from) (to, rest) e in
    let kinds = take count.0.0 table in
    let few = guard_ok (ltb (length table) count.0.0) (Count count.0.0) (bits_read (fields_at state words kinds from count.0.1)) (to, rest) count.2 in
    let reads = bits_ok (fields_at state words kinds from count.0.1) (to, rest) few.1 in
    let spelled = fields_were_spelled put law state words code kinds (All-take IsKind count.0.0 table is_table.each) from count.0.1 (to, rest) reads in
    let eight = field_bits words 8 count.0.0 in
    let first : bits ≡ eight ++ count.0.1 = (bits_were_put put words code 8 bits count.0 (bits_ok (field_at words 8 bits) count.0 count.1)).1 in (
      record { count = spelled.long ∙ are.count; each = spelled.fits are.each },
      λ normal. fields_are_normal put law state words code count.0.0 table is_table.each from count.0.1 (to, rest) reads normal,
      eight ++ spelled.text,
      after_mark bits eight spelled.text count.0.1 rest first spelled.parts,
      record {
        count = count.0.0;
        fields = spelled.text;
        in_table = ltb-false (length table) count.0.0 few.0;
        of_fields = spelled.spells;
        whole = refl {a = eight ++ spelled.text};
      },
    )

-- words that are spelled so are read
pub words_are_read : PutIsRead → ChangedIsRead → WordsSpelledAreRead
unfolding words_at
words_are_read put law state words table from to text rest code is_table are s =
    let few : s.count < 2 ^ 8 = omega (arith, s.in_table, is_table.few) in
    let within : ltb (length table) s.count ≡ false = le-ltb (length table) s.count s.in_table in
    let regrouped : text ++ rest ≡ field_bits words 8 s.count ++ (s.fields ++ rest) = rw s.whole (append_assoc (field_bits words 8 s.count) s.fields rest) in
    rw (
      regrouped,
      put words 8 s.count (s.fields ++ rest) code few,
      within,
      fields_are_read put law state words code (take s.count table) (All-take IsKind s.count table is_table.each) from to s.fields rest s.of_fields,
    ) refl
