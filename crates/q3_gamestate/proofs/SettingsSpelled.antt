-- The settings of a gamestate that are read were spelled so, and leave strings and baselines that an end may send.
use Rattle.std.proofs.Common.{◌≡◌, ◌<◌, ◌≤◌, ℕ, zero, suc, Bool, true, false, eqb, ltb, cond, nat_lt, List, [], ◌∷◌, ◌++◌, length, replicate, Option, Some, None, Result, Ok, Err, refl, sym, ap, subst, ◌∙◌, append_assoc, arith, inl, inr}
use Rattle.std.specs.List.{All}
use Rattle.std.proofs.lemmas.Bool.{cases_Bool, eqb-true, eqb-false}
use Rattle.std.proofs.lemmas.Bool.Decides.{nat_tests}
use Rattle.std.proofs.lemmas.List.{length-append, length-map}
use Rattle.q3_bits.specs.ResultBind.{◌>>=◌, fault_as}
use Rattle.q3_bits.proofs.Binds.{bind_ok, map_err_ok}
use Rattle.q3_bits.specs.Words.{IsCode, row_bits, field_at, field_bits}
use Rattle.q3_bits.specs.Laws.{ReadWasPut}
use Rattle.q3_text.specs.Texts.{IsTextByte}
use Rattle.q3_strings.specs.Reading.{bounded_string_at}
use Rattle.q3_strings.specs.Spelling.{SpellsString}
use Rattle.q3_strings.proofs.FieldRows.{row-none, row-after}
use Rattle.q3_strings.specs.Laws.{StringReadIsSpelled}
use Rattle.q3_fields.specs.Kinds.{IsTable, end_mark}
use Rattle.q3_fields.specs.States.{AreWords}
use Rattle.q3_entity.specs.declared.state.EntityState.{EntityState}
use Rattle.q3_entity.specs.declared.reading.Entry.{Entry}
use Rattle.q3_entity.specs.declared.reading.Entry.TheVariants.{Removed, Changed, Same}
use Rattle.q3_entity.specs.declared.error.EntityError.TheVariants.{Order}
use Rattle.q3_entity.specs.Entities.{IsNormal}
use Rattle.q3_entity.specs.Baselines.{Baselines, with_baseline}
use Rattle.q3_entity.specs.Delta.{entity_at}
use Rattle.q3_entity.specs.Spelling.{words_there, SpellsEntry}
use Rattle.q3_entity.specs.Laws.{ZeroIsNormal, BaselineIsAdded, EntryReadIsSpelled}
use Rattle.q3_config.specs.declared.error.ConfigError.{ConfigError}
use Rattle.q3_config.specs.declared.error.ConfigError.TheVariants.{Index}
use Rattle.q3_config.specs.Strings.{Strings, places, longest_string, most_size, config_size, with_string, fits, room_fault, set_fault}
use Rattle.q3_profile.specs.declared.profile.Profile.{Profile}
use Rattle.q3_profile.specs.Profile.{IsCodec}
use Rattle.q3_gamestate.specs.declared.error.GamestateError.{GamestateError}
use Rattle.q3_gamestate.specs.declared.error.GamestateError.TheVariants.{Bits, BadOp, Entity, Config}
use Rattle.q3_gamestate.specs.Reading.{field_read, string_error, config_set, config_at, baseline_set, baseline_at, settings_at}
use Rattle.q3_gamestate.specs.Spelling.{Setting, ConfigString, Baseline, SpellsSettings, strings_after, baselines_after, StayWithin}
use Rattle.q3_gamestate.proofs.Below.{WasRead}
use Rattle.q3_gamestate.proofs.Fields.{field_was}
use Rattle.q3_gamestate.proofs.Settings.{zeros_are_words}
use Rattle.q3_gamestate.proofs.Kept.{AreSettings, with_string_are, with_baseline_are}

-- the operation after the settings
abbrev pub over : List (List Bool) → List Bool
over words = row_bits words ((8, 8) ∷ [])

-- ---- when a string is set

-- where nothing is wrong with a string, all are small enough
set_within : (strings : Strings) (index : ℕ) (text : List ℕ) → index < places → set_fault strings index text ≡ None → config_size (with_string strings index text).texts ≤ most_size
unfolding set_fault
set_within strings index text inside none =
    let low : nat_lt index places ≡ true = grind (arith, nat_tests) in
    let room : room_fault strings index text ≡ None = rw low at none in
    elim (cases_Bool (nat_lt longest_string (length text))) [
      | inl long ↦ absurd (let wrong = rw long at room in cc)
      | inr short ↦
          let small = rw short at room in
          elim (cases_Bool (fits strings index text)) [
            | inl fitting ↦ grind (arith, nat_tests)
            | inr large ↦ absurd (let wrong = rw large at small in cc)
          ]
    ]

-- and the other way round
pub within_set : (strings : Strings) (index : ℕ) (text : List ℕ) → index < places → length text ≤ longest_string → config_size (with_string strings index text).texts ≤ most_size
    → set_fault strings index text ≡ None
unfolding set_fault
within_set strings index text inside short small =
    let low : nat_lt index places ≡ true = grind (arith, nat_tests) in
    let not_long : nat_lt longest_string (length text) ≡ false = grind (arith, nat_tests) in
    let fitting : fits strings index text ≡ true = grind (arith, nat_tests) in
    rw (low, not_long, fitting) refl

was_set : (strings : Strings) (index : ℕ) (text : List ℕ) (fault : Option ConfigError) (set : Strings) → config_set strings index text fault ≡ Ok set
    → (fault ≡ None) × (set ≡ with_string strings index text)
was_set strings index text None set e = (refl, cc)
was_set strings index text (Some fault) set e = absurd cc

-- ---- when a baseline is set

baseline_set_was : (baselines : Baselines) (number : ℕ) (kind : Entry) (words : List ℕ) (set : Baselines) → baseline_set baselines number kind words ≡ Ok set
    → (words_there kind words ≡ Some words) × (set ≡ with_baseline baselines (record { number = number; words = words }))
baseline_set_was baselines number Removed words set e = absurd cc
baseline_set_was baselines number Changed words set e = (refl, cc)
baseline_set_was baselines number Same words set e = (refl, cc)

pub baseline_set_is : (baselines : Baselines) (number : ℕ) (kind : Entry) (to words : List ℕ) → words_there kind to ≡ Some words
    → baseline_set baselines number kind to ≡ Ok (with_baseline baselines (record { number = number; words = words }))
baseline_set_is baselines number Removed to words e = absurd cc
baseline_set_is baselines number Changed to words e =
    let same : to ≡ words = cc in
    ap (λ (ws : List ℕ). Ok (with_baseline baselines (record { number = number; words = ws }))) same
baseline_set_is baselines number Same to words e =
    let same : to ≡ words = cc in
    ap (λ (ws : List ℕ). Ok (with_baseline baselines (record { number = number; words = ws }))) same

-- ---- what is read of a setting

-- a text of a string is as long as its spelling
pub string_short : (words : List (List Bool)) (most : ℕ) (text : List ℕ) (bits : List Bool) → SpellsString words most text bits → length text ≤ most
string_short words most text bits (bytes, each, short, is, whole) = rw (is, length-map) short

-- a config string that was read
pub record ReadConfig (words : List (List Bool)) (strings : Strings) (bits : List Bool) (found : Strings × List Bool) : Type 0 where
  pub index : ℕ
  pub text : List ℕ
  pub string : List Bool
  pub inside : index < places
  pub bytes : All IsTextByte text
  pub short : length text ≤ longest_string
  pub spells : SpellsString words longest_string text string
  pub small : config_size (with_string strings index text).texts ≤ most_size
  pub is : found.0 ≡ with_string strings index text
  pub parts : bits ≡ row_bits words ((index, 16) ∷ []) ++ (string ++ found.1)

pub config_was : ReadWasPut → StringReadIsSpelled → (words : List (List Bool)) → IsCode words → (strings : Strings) (bits : List Bool) (found : Strings × List Bool)
    → config_at words strings bits ≡ Ok found → ReadConfig words strings bits found
unfolding config_at
config_was put law words code strings bits found e =
    let on_text : ℕ → List ℕ × List Bool → Result (Strings × List Bool) GamestateError = λ index text. config_set strings index text.0 (set_fault strings index text.0) >>= λ set. Ok (set, text.1) in
    let on_index : ℕ × List Bool → Result (Strings × List Bool) GamestateError =
    λ index. cond (ltb index.0 places) (fault_as string_error (bounded_string_at words longest_string index.1) >>= λ text. on_text index.0 text) (Err (Config Index)) in
    let index = bind_ok (field_read words 16 bits) on_index found e in
    let was = field_was put words 16 bits index.0 code index.1 in
    elim (cases_Bool (ltb index.0.0 places)) [
      | inr past ↦ absurd (let wrong = rw past at index.2 in cc)
      | inl low ↦
          let text = bind_ok (fault_as string_error (bounded_string_at words longest_string index.0.1)) (λ text. on_text index.0.0 text) found (rw low at index.2) in
          let were = law words longest_string text.0.0 index.0.1 text.0.1 code (map_err_ok string_error (bounded_string_at words longest_string index.0.1) text.0 text.1) in
          let set = bind_ok (config_set strings index.0.0 text.0.0 (set_fault strings index.0.0 text.0.0)) (λ set. Ok (set, text.0.1)) found text.2 in
          let is = was_set strings index.0.0 text.0.0 (set_fault strings index.0.0 text.0.0) set.0 set.1 in
          let made = set.2 in
          let same : (set.0, text.0.1) ≡ found = cc in
          let inside : index.0.0 < places = grind (arith, nat_tests) in
          subst (ReadConfig words strings bits) {x = (set.0, text.0.1)} same (record {
            index = index.0.0;
            text = text.0.0;
            string = were.1;
            inside = inside;
            bytes = were.0;
            short = string_short words longest_string text.0.0 were.1 were.3;
            spells = were.3;
            small = set_within strings index.0.0 text.0.0 inside is.0;
            is = is.1;
            parts = was.row [] index.0.1 (row-none words index.0.1) ∙ ap (λ (left : List Bool). row_bits words ((index.0.0, 16) ∷ []) ++ left) were.2;
          })
    ]

-- no bit is taken twice
pub config_shorter : ReadWasPut → StringReadIsSpelled → (words : List (List Bool)) → IsCode words → (strings : Strings) (bits : List Bool) (found : Strings × List Bool)
    → config_at words strings bits ≡ Ok found → length found.1 ≤ length bits
config_shorter put law words code strings bits found e =
    let was = config_was put law words code strings bits found e in
    let row = row_bits words ((was.index, 16) ∷ []) in
    omega (arith, ap length was.parts, length-append row (was.string ++ found.1), length-append was.string found.1)

-- a baseline that was read
pub record ReadBaseline (profile : Profile) (baselines : Baselines) (bits : List Bool) (found : Baselines × List Bool) : Type 0 where
  pub state : EntityState
  pub text : List Bool
  pub within : state.number < end_mark profile.entity
  pub words : AreWords 64 state.words
  pub normal : IsNormal profile.entity state
  pub spells : SpellsEntry profile.code profile.entity (replicate 64 0) (record { number = state.number; words = Some state.words }) text
  pub is : found.0 ≡ with_baseline baselines state
  pub parts : bits ≡ text ++ found.1

pub baseline_was : ReadWasPut → ZeroIsNormal → EntryReadIsSpelled → (profile : Profile) → IsCode profile.code → IsTable profile.entity → (baselines : Baselines) (bits : List Bool) (found : Baselines × List Bool) → baseline_at profile baselines bits ≡ Ok found
    → ReadBaseline profile baselines bits found
unfolding baseline_at row_bits
baseline_was put no_entity entry profile code is_table baselines bits found e =
    let words = profile.code in
    let table = profile.entity in
    let zeros = zeros_are_words table is_table no_entity in
    let on_state = λ (number : ℕ) (state : (Entry × List ℕ) × List Bool). baseline_set baselines number state.0.0 state.0.1 >>= λ set. Ok (set, state.1) in
    let number = bind_ok (field_read words table.number_bits bits)
    (λ number. cond (eqb number.0 (end_mark table)) (Err (Entity (Order number.0))) (fault_as Entity (entity_at words table (replicate 64 0) number.1) >>= λ state. on_state number.0 state)) found e in
    let was = put words table.number_bits number.0.0 bits number.0.1 code (map_err_ok Bits (field_at words table.number_bits bits) number.0 number.1) in
    elim (cases_Bool (eqb number.0.0 (end_mark table))) [
      | inl end ↦ absurd (let wrong = rw end at number.2 in cc)
      | inr before ↦
          let state = bind_ok (fault_as Entity (entity_at words table (replicate 64 0) number.0.1)) (λ state. on_state number.0.0 state) found (rw before at number.2) in
          let were = entry words table (replicate 64 0) state.0.0.1 state.0.0.0 number.0.0 number.0.1 state.0.1 code is_table zeros.0
          (map_err_ok Entity (entity_at words table (replicate 64 0) number.0.1) state.0 state.1) in
          let set = bind_ok (baseline_set baselines number.0.0 state.0.0.0 state.0.0.1) (λ set. Ok (set, state.0.1)) found state.2 in
          let is = baseline_set_was baselines number.0.0 state.0.0.0 state.0.0.1 set.0 set.1 in
          let made = set.2 in
          let same : (set.0, state.0.1) ≡ found = cc in
          let field = field_bits words table.number_bits number.0.0 in
          subst (ReadBaseline profile baselines bits) {x = (set.0, state.0.1)} same (record {
            state = record { number = number.0.0; words = state.0.0.1 };
            text = field ++ were.2;
            within = omega (arith, was.0, eqb-false number.0.0 (end_mark table) before);
            words = were.0;
            normal = ap (λ (words : List ℕ). let s : EntityState = record { number = number.0.0; words = words } in s) (were.1 zeros.1);
            spells = subst (λ there. SpellsEntry words table (replicate 64 0) (record { number = number.0.0; words = there }) (field ++ were.2)) is.0 were.4;
            is = is.1;
            parts = was.1 ∙ ap (λ (left : List Bool). field ++ left) were.3 ∙ sym (append_assoc field were.2 state.0.1);
          })
    ]

pub baseline_shorter : ReadWasPut → ZeroIsNormal → EntryReadIsSpelled → (profile : Profile) → IsCode profile.code → IsTable profile.entity → (baselines : Baselines) (bits : List Bool) (found : Baselines × List Bool)
    → baseline_at profile baselines bits ≡ Ok found → length found.1 ≤ length bits
baseline_shorter put no_entity entry profile code is_table baselines bits found e =
    let was = baseline_was put no_entity entry profile code is_table baselines bits found e in
    omega (arith, ap length was.parts, length-append was.text found.1)

-- ---- what is read of settings

-- settings that were read over strings and baselines
pub record ReadSettings (profile : Profile) (strings : Strings) (baselines : Baselines) (bits : List Bool) (found : (Strings × Baselines) × List Bool) : Type 0 where
  pub settings : List Setting
  pub text : List Bool
  pub spells : SpellsSettings profile.code profile.entity settings text
  pub within : StayWithin strings settings
  pub strings_are : found.0.0 ≡ strings_after strings settings
  pub baselines_are : found.0.1 ≡ baselines_after baselines settings
  pub kept : AreSettings profile.entity strings baselines → AreSettings profile.entity found.0.0 found.0.1
  pub parts : bits ≡ text ++ (over profile.code ++ found.1)

-- a config string, and those after it
config_first : (profile : Profile) (strings : Strings) (baselines : Baselines) (bits left : List Bool) (config : Strings × List Bool) (found : (Strings × Baselines) × List Bool)
    → bits ≡ row_bits profile.code ((3, 8) ∷ []) ++ left → ReadConfig profile.code strings left config → ReadSettings profile config.0 baselines config.1 found
    → ReadSettings profile strings baselines bits found
config_first profile strings baselines bits left config found is first others =
    let words = profile.code in
    let fields = (first.index, 16) ∷ [] in
    let text = row_bits words ((3, 8) ∷ fields) ++ first.string in
    let after = over words ++ found.1 in
    record {
      settings = ConfigString first.index first.text ∷ others.settings;
      text = text ++ others.text;
      spells = (text, others.text, refl, (first.string, first.inside, first.spells, refl), others.spells);
      within = (first.small, subst (λ (s : Strings). StayWithin s others.settings) first.is others.within);
      strings_are = others.strings_are ∙ ap (λ (s : Strings). strings_after s others.settings) first.is;
      baselines_are = others.baselines_are;
      kept = λ so_far.
          others.kept (subst (λ (s : Strings). AreSettings profile.entity s baselines) (sym first.is)
          (with_string_are profile.entity strings baselines first.index first.text so_far first.bytes first.short first.small));
      parts =
          is
          ∙ ap (λ (left : List Bool). row_bits words ((3, 8) ∷ []) ++ left) first.parts
          ∙ sym (row-after words 3 8 fields (first.string ++ config.1))
          ∙ ap (λ (left : List Bool). row_bits words ((3, 8) ∷ fields) ++ (first.string ++ left)) others.parts
          ∙ sym (append_assoc (row_bits words ((3, 8) ∷ fields)) first.string (others.text ++ after))
          ∙ sym (append_assoc text others.text after);
    }

-- a baseline, and those after it
baseline_first : BaselineIsAdded → (profile : Profile) (strings : Strings) (baselines : Baselines) (bits left : List Bool) (baseline : Baselines × List Bool) (found : (Strings × Baselines) × List Bool)
    → bits ≡ row_bits profile.code ((4, 8) ∷ []) ++ left → ReadBaseline profile baselines left baseline → ReadSettings profile strings baseline.0 baseline.1 found
    → ReadSettings profile strings baselines bits found
baseline_first law profile strings baselines bits left baseline found is first others =
    let words = profile.code in
    let operation = row_bits words ((4, 8) ∷ []) in
    let text = operation ++ first.text in
    let after = over words ++ found.1 in
    record {
      settings = Baseline first.state ∷ others.settings;
      text = text ++ others.text;
      spells = (text, others.text, refl, (first.text, first.within, first.spells, refl), others.spells);
      within = others.within;
      strings_are = others.strings_are;
      baselines_are = others.baselines_are ∙ ap (λ (l : Baselines). baselines_after l others.settings) first.is;
      kept = λ so_far.
          others.kept (subst (AreSettings profile.entity strings) (sym first.is) (with_baseline_are law profile.entity strings baselines first.state so_far first.within first.words first.normal));
      parts =
          is
          ∙ ap (λ (left : List Bool). operation ++ left) first.parts
          ∙ ap (λ (left : List Bool). operation ++ (first.text ++ left)) others.parts
          ∙ sym (append_assoc operation first.text (others.text ++ after))
          ∙ sym (append_assoc text others.text after);
    }

pub settings_were : WasRead → (profile : Profile) → IsCodec profile → (turns : ℕ) (strings : Strings) (baselines : Baselines) (bits : List Bool) (found : (Strings × Baselines) × List Bool)
    → settings_at profile turns strings baselines bits ≡ Ok found → ReadSettings profile strings baselines bits found
unfolding settings_at
settings_were laws profile codec zero strings baselines bits found e = absurd cc
settings_were laws profile codec (suc turns) strings baselines bits found e =
    let words = profile.code in
    let on_config = λ (left : List Bool). config_at words strings left >>= λ config. settings_at profile turns config.0 baselines config.1 in
    let on_baseline = λ (left : List Bool). baseline_at profile baselines left >>= λ baseline. settings_at profile turns strings baseline.0 baseline.1 in
    let operation = bind_ok (field_read words 8 bits)
    (λ operation. cond (eqb operation.0 8) (Ok ((strings, baselines), operation.1))
    (cond (eqb operation.0 3) (on_config operation.1) (cond (eqb operation.0 4) (on_baseline operation.1) (Err (BadOp operation.0))))) found e in
    let left = operation.0.1 in
    let was = field_was laws.put words 8 bits operation.0 codec.code operation.1 in
    let front = λ (byte : ℕ) (here : eqb operation.0.0 byte ≡ true).
    was.row [] left (row-none words left) ∙ ap (λ (n : ℕ). row_bits words ((n, 8) ∷ []) ++ left) (eqb-true operation.0.0 byte here) in
    elim (cases_Bool (eqb operation.0.0 8)) [
      | inl done ↦
          let made = rw done at operation.2 in
          let same : ((strings, baselines), left) ≡ found = cc in
          subst (ReadSettings profile strings baselines bits) {x = ((strings, baselines), left)} same
          (record { settings = []; text = []; spells = refl; within = tt; strings_are = refl; baselines_are = refl; kept = λ so_far. so_far; parts = front 8 done })
      | inr more ↦
          let next = rw more at operation.2 in
          elim (cases_Bool (eqb operation.0.0 3)) [
            | inl string ↦
                let config = bind_ok (config_at words strings left) (λ config. settings_at profile turns config.0 baselines config.1) found (rw string at next) in
                config_first profile strings baselines bits left config.0 found (front 3 string) (config_was laws.put laws.string words codec.code strings left config.0 config.1)
                (settings_were laws profile codec turns config.0.0 baselines config.0.1 found config.2)
            | inr other ↦
                let last = rw other at next in
                elim (cases_Bool (eqb operation.0.0 4)) [
                  | inl fourth ↦
                      let baseline = bind_ok (baseline_at profile baselines left) (λ baseline. settings_at profile turns strings baseline.0 baseline.1) found (rw fourth at last) in
                      baseline_first laws.baseline profile strings baselines bits left baseline.0 found (front 4 fourth) (baseline_was laws.put laws.no_entity laws.entry profile codec.code codec.entity baselines left baseline.0 baseline.1)
                      (settings_were laws profile codec turns strings baseline.0.0 baseline.0.1 found baseline.2)
                  | inr bad ↦ absurd (let wrong = rw bad at last in cc)
                ]
          ]
    ]
