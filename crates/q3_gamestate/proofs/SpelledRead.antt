-- A gamestate that is spelled so is read.
use Rattle.std.proofs.Common.{◌≡◌, ◌<◌, ◌≤◌, ◌==◌, ℕ, Bool, true, false, nat_lt, List, [], ◌∷◌, ◌++◌, length, replicate, Option, Some, None, IsSome, Ok, refl, sym, ap, ◌∙◌, append_assoc, arith}
use Rattle.std.specs.Option.{is_some}
use Rattle.std.proofs.lemmas.Bool.Decides.{nat_tests}
use Rattle.std.proofs.lemmas.List.{length-append}
use Rattle.q3_bits.specs.Words.{IsCode, row_bits}
use Rattle.q3_strings.specs.Spelling.{SpellsString}
use Rattle.q3_strings.proofs.FieldRows.{row-after, row-first, row-last}
use Rattle.q3_fields.specs.Kinds.{end_mark}
use Rattle.q3_entity.specs.declared.state.EntityState.{EntityState}
use Rattle.q3_entity.specs.Baselines.{Baselines, no_baselines, with_baseline}
use Rattle.q3_entity.specs.Spelling.{SpellsEntry}
use Rattle.q3_config.specs.Strings.{Strings, places, longest_string, most_size, no_strings, config_size, with_string, server_id}
use Rattle.q3_profile.specs.declared.profile.Profile.{Profile}
use Rattle.q3_profile.specs.Profile.{IsCodec}
use Rattle.q3_gamestate.specs.Values.{Gamestate}
use Rattle.q3_gamestate.specs.Reading.{config_at, baseline_at, settings_at, gamestate_at}
use Rattle.q3_gamestate.specs.Spelling.{Setting, ConfigString, Baseline, SpellsSettings, strings_after, baselines_after, StayWithin, SpellsGamestate}
use Rattle.q3_gamestate.specs.Laws.{SpelledIsRead}
use Rattle.q3_gamestate.proofs.Below.{IsRead}
use Rattle.q3_gamestate.proofs.Settings.{zeros_are_words, settings_done, settings_config, settings_baseline}
use Rattle.q3_gamestate.proofs.SettingsSpelled.{over, within_set, baseline_set_is, string_short}

config_is : IsRead → (words : List (List Bool)) → IsCode words → (strings : Strings) (index : ℕ) (text : List ℕ) (string rest : List Bool) → index < places
    → SpellsString words longest_string text string → length text ≤ longest_string → config_size (with_string strings index text).texts ≤ most_size
    → config_at words strings (row_bits words ((index, 16) ∷ []) ++ (string ++ rest)) ≡ Ok (with_string strings index text, rest)
unfolding config_at
config_is laws words code strings index text string rest inside spelled short small =
    let low : nat_lt index places ≡ true = grind (arith, nat_tests) in
    rw (
      row-last words code laws.put index 16 (string ++ rest) (omega (arith, inside)),
      low,
      laws.string words longest_string text string rest code spelled,
      within_set strings index text inside short small,
    ) refl

baseline_is : IsRead → (profile : Profile) → IsCodec profile → (baselines : Baselines) (state : EntityState) (text rest : List Bool) → state.number < end_mark profile.entity
    → SpellsEntry profile.code profile.entity (replicate 64 0) (record { number = state.number; words = Some state.words }) text
    → baseline_at profile baselines (text ++ rest) ≡ Ok (with_baseline baselines state, rest)
unfolding baseline_at
baseline_is laws profile codec baselines state text rest within spelled =
    let table = profile.entity in
    let read = laws.entry profile.code table (replicate 64 0) (record { number = state.number; words = Some state.words }) text rest codec.code codec.entity
    (zeros_are_words table codec.entity laws.no_entity).0 within spelled in
    let before : (state.number == end_mark table) ≡ false = grind (arith, nat_tests) in
    rw (read.4, before, read.5, baseline_set_is baselines state.number read.1 read.2 state.words read.3) refl

settings_are : IsRead → (profile : Profile) → IsCodec profile → (settings : List Setting) (turns : ℕ) (strings : Strings) (baselines : Baselines) (text rest : List Bool)
    → SpellsSettings profile.code profile.entity settings text → StayWithin strings settings → length (text ++ (over profile.code ++ rest)) ≤ turns
    → settings_at profile turns strings baselines (text ++ (over profile.code ++ rest)) ≡ Ok ((strings_after strings settings, baselines_after baselines settings), rest)
settings_are laws profile codec [] turns strings baselines text rest s within enough =
    let words = profile.code in
    let bits = over words ++ rest in
    let read = sym (row-last words codec.code laws.put 8 8 rest (omega arith)) in
    let same : text ++ bits ≡ bits = ap (λ (text : List Bool). text ++ bits) s in
    let one = laws.turns.turn words bits rest 8 turns codec.code read (omega (arith, enough, ap length same)) in
    ap (λ (bits : List Bool). settings_at profile turns strings baselines bits) same ∙ settings_done profile strings baselines bits rest turns one.left read one.is
settings_are laws profile codec (ConfigString index value ∷ settings) turns strings baselines text rest (first, others, whole, (string, inside, spelled, first_is), more) within enough =
    let words = profile.code in
    let after = others ++ (over words ++ rest) in
    let fields : List (ℕ × ℕ) = (index, 16) ∷ [] in
    let left = row_bits words fields ++ (string ++ after) in
    let bits = row_bits words ((3, 8) ∷ fields) ++ (string ++ after) in
    let same : text ++ (over words ++ rest) ≡ bits = rw (whole, first_is) (simp append_assoc) in
    let read = sym (row-first words codec.code laws.put 3 8 fields (string ++ after) (omega arith)) in
    let one = laws.turns.turn words bits left 3 turns codec.code read (omega (arith, enough, ap length same)) in
    let config = sym (config_is laws words codec.code strings index value string after inside spelled (string_short words longest_string value string spelled) within.0) in
    ap (λ (bits : List Bool). settings_at profile turns strings baselines bits) same
    ∙ settings_config profile strings baselines bits left after (with_string strings index value) turns one.left read one.is config
    ∙ settings_are laws profile codec settings one.left (with_string strings index value) baselines others rest more within.1
    (omega (arith, one.enough, length-append (row_bits words fields) (string ++ after), length-append string after))
settings_are laws profile codec (Baseline state ∷ settings) turns strings baselines text rest (first, others, whole, (entry, inside, spelled, first_is), more) within enough =
    let words = profile.code in
    let after = others ++ (over words ++ rest) in
    let left = entry ++ after in
    let bits = row_bits words ((4, 8) ∷ []) ++ left in
    let same : text ++ (over words ++ rest) ≡ bits = rw (whole, first_is) (simp append_assoc) in
    let read = sym (row-last words codec.code laws.put 4 8 left (omega arith)) in
    let one = laws.turns.turn words bits left 4 turns codec.code read (omega (arith, enough, ap length same)) in
    let baseline = sym (baseline_is laws profile codec baselines state entry after inside spelled) in
    ap (λ (bits : List Bool). settings_at profile turns strings baselines bits) same
    ∙ settings_baseline profile strings baselines bits left after (with_baseline baselines state) turns one.left read one.is baseline
    ∙ settings_are laws profile codec settings one.left strings (with_baseline baselines state) others rest more within (omega (arith, one.enough, length-append entry after))

is_some_id : (id : Option ℕ) → IsSome id → is_some id ≡ true
is_some_id (Some id) some = refl
is_some_id None some = absurd cc

gamestate_after : IsRead → (profile : Profile) → IsCodec profile → (game : Gamestate) (text rest : List Bool) → (s : SpellsGamestate profile game text)
    → gamestate_at profile (row_bits profile.code ((game.command, 32) ∷ []) ++ (s.text ++ (over profile.code ++ (row_bits profile.code ((game.slot, 32) ∷ (game.feed, 32) ∷ []) ++ rest))))
    ≡ Ok (game, rest)
unfolding gamestate_at
gamestate_after laws profile codec game text rest s =
    let words = profile.code in
    let last = row_bits words ((game.slot, 32) ∷ (game.feed, 32) ∷ []) ++ rest in
    let left = s.text ++ (over words ++ last) in
    let settings = settings_are laws profile codec s.settings (length left) no_strings no_baselines s.text last s.of_settings s.within (omega arith)
    ∙ ap (λ (strings : Strings). Ok ((strings, baselines_after no_baselines s.settings), last)) (sym s.strings)
    ∙ ap (λ (baselines : Baselines). Ok ((game.strings, baselines), last)) (sym s.baselines) in
    rw (
      row-last words codec.code laws.put game.command 32 left s.command,
      settings,
      is_some_id (server_id game.strings) s.id,
      row-first words codec.code laws.put game.slot 32 ((game.feed, 32) ∷ []) rest s.slot,
      row-last words codec.code laws.put game.feed 32 rest s.feed,
    ) refl

pub gamestate_is_read : IsRead → SpelledIsRead
gamestate_is_read laws profile game text rest codec s =
    let words = profile.code in
    let command = row_bits words ((game.command, 32) ∷ []) in
    let fields : List (ℕ × ℕ) = (game.slot, 32) ∷ (game.feed, 32) ∷ [] in
    let last = row_bits words ((8, 8) ∷ fields) in
    let bits = command ++ s.text ++ last in
    let same : bits ++ rest ≡ command ++ (s.text ++ (over words ++ (row_bits words fields ++ rest))) =
    append_assoc (command ++ s.text) last rest ∙ append_assoc command s.text (last ++ rest)
    ∙ ap (λ (left : List Bool). command ++ (s.text ++ left)) (row-after words 8 8 fields rest) in
    let one = row-after words 2 8 ((game.command, 32) ∷ []) (s.text ++ last) in (
      bits,
      s.whole ∙ append_assoc (row_bits words ((2, 8) ∷ (game.command, 32) ∷ [])) s.text last ∙ one
          ∙ ap (λ (left : List Bool). row_bits words ((2, 8) ∷ []) ++ left) (sym (append_assoc command s.text last)),
      ap (λ (bits : List Bool). gamestate_at profile bits) same ∙ gamestate_after laws profile codec game text rest s,
    )
