-- What is written of a gamestate spells it.
use Rattle.std.proofs.Common.{◌≡◌, ◌+◌, ◌<◌, ◌≤◌, ℕ, suc, Bool, true, List, [], ◌∷◌, ◌++◌, length, map, replicate, get_or, Option, Some, None, refl, sym, ap, subst, ◌∙◌, append_assoc, arith}
use Rattle.std.specs.List.{All}
use Rattle.std.specs.Option.{IfSome}
use Rattle.std.proofs.lemmas.List.{append-nil, length-append}
use Rattle.std.proofs.lemmas.List.Sums.{sum_by-append}
use Rattle.std.proofs.lemmas.List.Elements.{All-head, All-tail}
use Rattle.std.proofs.Math.ListN.{set}
use Rattle.std.proofs.Math.Seq.{set-append_seam}
use Rattle.q3_bits.specs.Words.{row_bits}
use Rattle.q3_text.specs.Texts.{translated, IsTextByte}
use Rattle.q3_strings.specs.Texts.{string_bits}
use Rattle.q3_strings.specs.Laws.{StringIsSpelled}
use Rattle.q3_fields.specs.Kinds.{Layout, end_mark}
use Rattle.q3_fields.specs.States.{AreWords}
use Rattle.q3_entity.specs.declared.state.EntityState.{EntityState}
use Rattle.q3_entity.specs.Entities.{zero_entity, IsNormal}
use Rattle.q3_entity.specs.Baselines.{Baselines, no_baselines, most_baselines, set_at, with_baseline, AreBaselines}
use Rattle.q3_entity.specs.Delta.{entity_delta}
use Rattle.q3_entity.specs.Spelling.{SpellsEntry}
use Rattle.q3_config.specs.Strings.{Strings, Pending, places, longest_string, most_size, size_of, config_size, no_strings, string_at, with_string}
use Rattle.q3_profile.specs.declared.profile.Profile.{Profile}
use Rattle.q3_profile.specs.Profile.{IsCodec}
use Rattle.q3_gamestate.specs.Values.{Gamestate}
use Rattle.q3_gamestate.specs.Texts.{config_bits, baseline_bits, numbered, gamestate_bits}
use Rattle.q3_gamestate.specs.Spelling.{Setting, ConfigString, Baseline, SpellsSetting, SpellsSettings, strings_after, baselines_after, StayWithin}
use Rattle.q3_gamestate.specs.Laws.{IsGamestate, WrittenIsSpelled}
use Rattle.q3_gamestate.proofs.Below.{WasWritten}
use Rattle.q3_gamestate.proofs.Kept.{text_bytes, sizes-none, size_is}

-- ---- settings, one after the other

spells_both : (words : List (List Bool)) (table : Layout) (first second : List Setting) (a b : List Bool) → SpellsSettings words table first a → SpellsSettings words table second b
    → SpellsSettings words table (first ++ second) (a ++ b)
spells_both words table [] second a b s t = subst (SpellsSettings words table second) (ap (λ (text : List Bool). text ++ b) (sym s)) t
spells_both words table (setting ∷ first) second a b (one, rest, whole, is, more) t =
    (one, rest ++ b, ap (λ (text : List Bool). text ++ b) whole ∙ append_assoc one rest b, is, spells_both words table first second rest b more t)

strings_both : (strings : Strings) (first second : List Setting) → strings_after strings (first ++ second) ≡ strings_after (strings_after strings first) second
strings_both strings [] second = refl
strings_both strings (ConfigString index text ∷ first) second = strings_both (with_string strings index text) first second
strings_both strings (Baseline state ∷ first) second = strings_both strings first second

baselines_both : (baselines : Baselines) (first second : List Setting) → baselines_after baselines (first ++ second) ≡ baselines_after (baselines_after baselines first) second
baselines_both baselines [] second = refl
baselines_both baselines (ConfigString index text ∷ first) second = baselines_both baselines first second
baselines_both baselines (Baseline state ∷ first) second = baselines_both (with_baseline baselines state) first second

within_both : (strings : Strings) (first second : List Setting) → StayWithin strings first → StayWithin (strings_after strings first) second → StayWithin strings (first ++ second)
within_both strings [] second a b = b
within_both strings (ConfigString index text ∷ first) second a b = (a.0, within_both (with_string strings index text) first second a.1 b)
within_both strings (Baseline state ∷ first) second a b = within_both strings first second a b

-- the texts of numbers, one after the other
numbered-first : (n k : ℕ) (text : ℕ → List Bool) → numbered (suc n) k text ≡ text k ++ numbered n (k + 1) text
unfolding numbered
numbered-first n k text = refl

numbered-none : (k : ℕ) (text : ℕ → List Bool) → numbered 0 k text ≡ []
unfolding numbered
numbered-none k text = refl

-- ---- config strings

-- what is said of strings from an index on
string_settings : ℕ → List (List ℕ) → List Setting
string_settings k [] = []
string_settings k ([] ∷ texts) = string_settings (k + 1) texts
string_settings k ((byte ∷ text) ∷ texts) = ConfigString k (byte ∷ text) ∷ string_settings (k + 1) texts

-- texts as they may be written
AreTexts : List (List ℕ) → Type 0
AreTexts texts = All (All IsTextByte) texts × All (λ text. length text ≤ longest_string) texts

texts_tail : (text : List ℕ) (texts : List (List ℕ)) → AreTexts (text ∷ texts) → AreTexts texts
unfolding AreTexts
texts_tail text texts are = (All-tail (All IsTextByte) text texts are.0, All-tail (λ (text : List ℕ). length text ≤ longest_string) text texts are.1)

text_head : (text : List ℕ) (texts : List (List ℕ)) → AreTexts (text ∷ texts) → All IsTextByte text × (length text ≤ longest_string)
unfolding AreTexts
text_head text texts are = (All-head (All IsTextByte) text texts are.0, All-head (λ (text : List ℕ). length text ≤ longest_string) text texts are.1)

-- the texts stand at their indexes
strings_spelled : StringIsSpelled → (words : List (List Bool)) (table : Layout) (at : ℕ → List ℕ) (k : ℕ) (texts : List (List ℕ)) → AreTexts texts → k + length texts ≤ places
    → ((i : ℕ) → i < length texts → at (k + i) ≡ get_or texts i [])
    → SpellsSettings words table (string_settings k texts) (numbered (length texts) k (λ index. config_bits words index (at index)))
unfolding string_settings
strings_spelled law words table at k [] are few is = numbered-none k (λ index. config_bits words index (at index))
strings_spelled law words table at k (text ∷ texts) are few is =
    let others = strings_spelled law words table at (k + 1) texts (texts_tail text texts are) (omega (arith, few))
    (λ i more.
    let next : k + 1 + i ≡ k + suc i = omega arith in
    ap at next ∙ is (suc i) (omega (arith, more))) in
    let first : at k ≡ text =
    let next : k ≡ k + 0 = omega arith in
    ap at next ∙ is 0 (omega arith) in
    let rest = numbered (length texts) (k + 1) (λ index. config_bits words index (at index)) in
    let whole = numbered-first (length texts) k (λ index. config_bits words index (at index)) ∙ ap (λ (text : List ℕ). config_bits words k text ++ rest) first in
    subst (SpellsSettings words table (string_settings k (text ∷ texts))) (sym whole)
    (one law words table k text texts rest (text_head text texts are) (omega (arith, few)) others)
  where
    one : StringIsSpelled → (words : List (List Bool)) (table : Layout) (k : ℕ) (text : List ℕ) (texts : List (List ℕ)) (rest : List Bool) → All IsTextByte text × (length text ≤ longest_string)
        → k < places → SpellsSettings words table (string_settings (k + 1) texts) rest → SpellsSettings words table (string_settings k (text ∷ texts)) (config_bits words k text ++ rest)
    one law words table k [] texts rest is few others = others
    one law words table k (byte ∷ text) texts rest is few others =
        (config_bits words k (byte ∷ text), rest, refl, (string_bits words (byte ∷ text), few, law words longest_string (byte ∷ text) is.0 is.1, refl), others)

-- the strings that are there, and none after them
so_far : List (List ℕ) → ℕ → Strings
so_far front n = record { texts = front ++ replicate n []; pending = None }

-- one string more
set_next : (front : List (List ℕ)) (n : ℕ) (text : List ℕ) → All IsTextByte text → with_string (so_far front (suc n)) (length front) text ≡ so_far (front ++ text ∷ []) n
unfolding so_far
set_next front n text each =
    ap (λ (texts : List (List ℕ)). let s : Strings = record { texts = texts; pending = None } in s)
    (set-append_seam front [] (replicate n []) (map translated text) ∙ ap (λ (t : List ℕ). front ++ t ∷ replicate n []) (text_bytes text each) ∙ sym (append_assoc front (text ∷ []) (replicate n [])))

none_next : (front : List (List ℕ)) (n : ℕ) → so_far front (suc n) ≡ so_far (front ++ [] ∷ []) n
unfolding so_far
none_next front n = ap (λ (texts : List (List ℕ)). let s : Strings = record { texts = texts; pending = None } in s) (sym (append_assoc front ([] ∷ []) (replicate n [])))

longer : (front : List (List ℕ)) (text : List ℕ) → length front + 1 ≡ length (front ++ text ∷ [])
longer front text = sym (length-append front (text ∷ []))

-- they are what the settings make
strings_made : (front texts : List (List ℕ)) → AreTexts texts → strings_after (so_far front (length texts)) (string_settings (length front) texts) ≡ so_far (front ++ texts) 0
unfolding string_settings
strings_made front [] are = ap (λ (front : List (List ℕ)). so_far front 0) (sym (append-nil front))
strings_made front ([] ∷ texts) are =
    ap (λ (strings : Strings). strings_after strings (string_settings (length front + 1) texts)) (none_next front (length texts))
    ∙ ap (λ (k : ℕ). strings_after (so_far (front ++ [] ∷ []) (length texts)) (string_settings k texts)) (longer front [])
    ∙ strings_made (front ++ [] ∷ []) texts (texts_tail [] texts are) ∙ ap (λ (all : List (List ℕ)). so_far all 0) (append_assoc front ([] ∷ []) texts)
strings_made front ((byte ∷ text) ∷ texts) are =
    let one = byte ∷ text in
    ap (λ (strings : Strings). strings_after strings (string_settings (length front + 1) texts)) (set_next front (length texts) one (text_head one texts are).0)
    ∙ ap (λ (k : ℕ). strings_after (so_far (front ++ one ∷ []) (length texts)) (string_settings k texts)) (longer front one)
    ∙ strings_made (front ++ one ∷ []) texts (texts_tail one texts are) ∙ ap (λ (all : List (List ℕ)). so_far all 0) (append_assoc front (one ∷ []) texts)

-- fewer strings are no larger
fewer : (front others : List (List ℕ)) (n : ℕ) → config_size (front ++ others) ≤ most_size → config_size (so_far front n).texts ≤ most_size
unfolding so_far
fewer front others n small =
    omega (arith, size_is (front ++ others), size_is (front ++ replicate n []), sum_by-append size_of front others, sum_by-append size_of front (replicate n []), sizes-none n, small)

strings_within : (front texts : List (List ℕ)) → AreTexts texts → config_size (front ++ texts) ≤ most_size → StayWithin (so_far front (length texts)) (string_settings (length front) texts)
unfolding string_settings
strings_within front [] are small = tt
strings_within front ([] ∷ texts) are small =
    let all : config_size ((front ++ [] ∷ []) ++ texts) ≤ most_size = subst (λ (all : List (List ℕ)). config_size all ≤ most_size) (sym (append_assoc front ([] ∷ []) texts)) small in
    let rest = strings_within (front ++ [] ∷ []) texts (texts_tail [] texts are) all in
    subst (λ (strings : Strings). StayWithin strings (string_settings (length front + 1) texts)) (sym (none_next front (length texts)))
    (subst (λ (k : ℕ). StayWithin (so_far (front ++ [] ∷ []) (length texts)) (string_settings k texts)) (sym (longer front [])) rest)
strings_within front ((byte ∷ text) ∷ texts) are small =
    let one = byte ∷ text in
    let all : config_size ((front ++ one ∷ []) ++ texts) ≤ most_size = subst (λ (all : List (List ℕ)). config_size all ≤ most_size) (sym (append_assoc front (one ∷ []) texts)) small in
    let rest = strings_within (front ++ one ∷ []) texts (texts_tail one texts are) all in
    let set = sym (set_next front (length texts) one (text_head one texts are).0) in (
      subst (λ (strings : Strings). config_size strings.texts ≤ most_size) set (fewer (front ++ one ∷ []) texts (length texts) all),
      subst (λ (strings : Strings). StayWithin strings (string_settings (length front + 1) texts)) set
          (subst (λ (k : ℕ). StayWithin (so_far (front ++ one ∷ []) (length texts)) (string_settings k texts)) (sym (longer front one)) rest),
    )

-- ---- baselines

-- what is said of baselines
baseline_settings : Baselines → List Setting
baseline_settings [] = []
baseline_settings (None ∷ baselines) = baseline_settings baselines
baseline_settings (Some state ∷ baselines) = Baseline state ∷ baseline_settings baselines

-- a baseline that stands at a number
record IsBaseline (table : Layout) (number : ℕ) (state : EntityState) : Type 0 where
  number_is : state.number ≡ number
  below : state.number < end_mark table
  words : AreWords 64 state.words
  normal : IsNormal table state

-- its text spells it
baseline_spelled : WasWritten → (profile : Profile) → IsCodec profile → (state : EntityState) → state.number < end_mark profile.entity → AreWords 64 state.words → IsNormal profile.entity state
    → SpellsSetting profile.code profile.entity (Baseline state) (baseline_bits profile.code profile.entity (Some state))
unfolding zero_entity
baseline_spelled laws profile codec state below are normal =
    let words = profile.code in
    let table = profile.entity in
    let zero = zero_entity state.number in
    let none = laws.no_entity table state.number codec.entity in
    let entry = entity_delta words table zero state true in
    let spelled = laws.entry words table zero state codec.code codec.entity none.0 none.1 are in
    (entry, below, subst (λ (s : EntityState). SpellsEntry words table (replicate 64 0) (record { number = state.number; words = Some s.words }) entry) normal spelled, refl)

baselines_spelled : WasWritten → (profile : Profile) → IsCodec profile → (at : ℕ → Option EntityState) (k : ℕ) (baselines : Baselines)
    → ((i : ℕ) → i < length baselines → at (k + i) ≡ get_or baselines i None)
    → ((number : ℕ) → IfSome (at number) (IsBaseline profile.entity number))
    → SpellsSettings profile.code profile.entity (baseline_settings baselines) (numbered (length baselines) k (λ number. baseline_bits profile.code profile.entity (at number)))
unfolding baseline_settings
baselines_spelled laws profile codec at k [] is are = numbered-none k (λ number. baseline_bits profile.code profile.entity (at number))
baselines_spelled laws profile codec at k (baseline ∷ baselines) is are =
    let words = profile.code in
    let table = profile.entity in
    let others = baselines_spelled laws profile codec at (k + 1) baselines
    (λ i more.
    let next : k + 1 + i ≡ k + suc i = omega arith in
    ap at next ∙ is (suc i) (omega (arith, more))) are in
    let first : at k ≡ baseline =
    let next : k ≡ k + 0 = omega arith in
    ap at next ∙ is 0 (omega arith) in
    let rest = numbered (length baselines) (k + 1) (λ number. baseline_bits words table (at number)) in
    let whole = numbered-first (length baselines) k (λ number. baseline_bits words table (at number)) ∙ ap (λ (baseline : Option EntityState). baseline_bits words table baseline ++ rest) first in
    subst (SpellsSettings words table (baseline_settings (baseline ∷ baselines))) (sym whole)
    (one laws profile codec k baseline baselines rest (subst (λ (baseline : Option EntityState). IfSome baseline (IsBaseline table k)) first (are k)) others)
  where
    one : WasWritten → (profile : Profile) → IsCodec profile → (k : ℕ) (baseline : Option EntityState) (baselines : Baselines) (rest : List Bool) → IfSome baseline (IsBaseline profile.entity k)
        → SpellsSettings profile.code profile.entity (baseline_settings baselines) rest
        → SpellsSettings profile.code profile.entity (baseline_settings (baseline ∷ baselines)) (baseline_bits profile.code profile.entity baseline ++ rest)
    one laws profile codec k None baselines rest is others = others
    one laws profile codec k (Some state) baselines rest is others =
        (baseline_bits profile.code profile.entity (Some state), rest, refl, baseline_spelled laws profile codec state is.below is.words is.normal, others)

shift : (front : Baselines) (baseline : Option EntityState) (i : ℕ) → length front + suc i ≡ length (front ++ baseline ∷ []) + i
shift front baseline i = omega (arith, length-append front (baseline ∷ []))

-- the baselines that are there, and none after them
baselines_made : (front baselines : Baselines) → ((i : ℕ) → i < length baselines → IfSome (get_or baselines i None) (λ state. state.number ≡ length front + i))
    → baselines_after (front ++ replicate (length baselines) None) (baseline_settings baselines) ≡ front ++ baselines
unfolding baseline_settings
baselines_made front [] is = refl
baselines_made front (baseline ∷ baselines) is =
    one front baseline baselines (replicate (length baselines) None) (is 0 (omega arith))
    ∙ baselines_made (front ++ baseline ∷ []) baselines
    (λ i more. subst (λ (n : ℕ). IfSome (get_or baselines i None) (λ state. state.number ≡ n)) (shift front baseline i) (is (suc i) (omega (arith, more))))
    ∙ append_assoc front (baseline ∷ []) baselines
  where
    one : (front : Baselines) (baseline : Option EntityState) (baselines after : Baselines) → IfSome baseline (λ state. state.number ≡ length front + 0)
        → baselines_after (front ++ None ∷ after) (baseline_settings (baseline ∷ baselines)) ≡ baselines_after ((front ++ baseline ∷ []) ++ after) (baseline_settings baselines)
    one front None baselines after is = ap (λ (l : Baselines). baselines_after l (baseline_settings baselines)) (sym (append_assoc front (None ∷ []) after))
    one front (Some state) baselines after is =
        let here : state.number ≡ length front = omega (arith, is) in
        ap (λ (l : Baselines). baselines_after l (baseline_settings baselines))
        (ap (λ (k : ℕ). set (front ++ None ∷ after) k (Some state)) here ∙ set-append_seam front None after (Some state) ∙ sym (append_assoc front (Some state ∷ []) after))

-- ---- a gamestate

-- settings of strings change no baseline, and those of baselines change no string
no_baselines_changed : (baselines : Baselines) (k : ℕ) (texts : List (List ℕ)) → baselines_after baselines (string_settings k texts) ≡ baselines
unfolding string_settings
no_baselines_changed baselines k [] = refl
no_baselines_changed baselines k ([] ∷ texts) = no_baselines_changed baselines (k + 1) texts
no_baselines_changed baselines k ((byte ∷ text) ∷ texts) = no_baselines_changed baselines (k + 1) texts

no_strings_changed : (strings : Strings) (baselines : Baselines) → strings_after strings (baseline_settings baselines) ≡ strings
unfolding baseline_settings
no_strings_changed strings [] = refl
no_strings_changed strings (None ∷ baselines) = no_strings_changed strings baselines
no_strings_changed strings (Some state ∷ baselines) = no_strings_changed strings baselines

baselines_stay_within : (strings : Strings) (baselines : Baselines) → StayWithin strings (baseline_settings baselines)
unfolding baseline_settings
baselines_stay_within strings [] = tt
baselines_stay_within strings (None ∷ baselines) = baselines_stay_within strings baselines
baselines_stay_within strings (Some state ∷ baselines) = baselines_stay_within strings baselines

-- each baseline stands at its number
is_line : (table : Layout) (baselines : Baselines) → AreBaselines table baselines → (number : ℕ) → IfSome (set_at baselines number) (IsBaseline table number)
is_line table baselines are number = go (set_at baselines number) (are.numbers number) (are.below number) (are.states number) (are.normal number)
  where
    go : (baseline : Option EntityState) → IfSome baseline (λ state. state.number ≡ number) → IfSome baseline (λ state. state.number < end_mark table) → IfSome baseline (λ state. AreWords 64 state.words) → IfSome baseline (IsNormal table) → IfSome baseline (IsBaseline table number)
    go None a below b c = tt
    go (Some state) a below b c = record { number_is = a; below = below; words = b; normal = c }

-- the strings at the beginning, and at the end
strings_begin : no_strings ≡ so_far [] places
unfolding so_far
strings_begin = refl

strings_end : (strings : Strings) → strings.pending ≡ None → so_far strings.texts 0 ≡ strings
unfolding so_far
strings_end strings none =
    ap (λ (texts : List (List ℕ)). let s : Strings = record { texts = texts; pending = None } in s) (append-nil strings.texts)
    ∙ ap (λ (pending : Option Pending). let s : Strings = record { texts = strings.texts; pending = pending } in s) (sym none)

are_texts : (profile : Profile) (game : Gamestate) → IsGamestate profile game → AreTexts game.strings.texts
unfolding AreTexts
are_texts profile game is = (is.texts, is.strings.each)

pub gamestate_is_spelled : WasWritten → WrittenIsSpelled
unfolding gamestate_bits
gamestate_is_spelled laws profile game codec is =
    let words = profile.code in
    let table = profile.entity in
    let texts = game.strings.texts in
    let count = is.strings.count in
    let places_are = is.baselines.places in
    let are = are_texts profile game is in
    let strings = string_settings 0 texts in
    let baselines = baseline_settings game.baselines in
    let string_text = numbered places 0 (λ index. config_bits words index (string_at game.strings index)) in
    let line_text = numbered most_baselines 0 (λ number. baseline_bits words table (set_at game.baselines number)) in
    let begin : so_far [] (length texts) ≡ no_strings = ap (so_far []) count ∙ sym strings_begin in
    let made : strings_after no_strings strings ≡ game.strings =
    ap (λ (s : Strings). strings_after s strings) (sym begin) ∙ strings_made [] texts are ∙ strings_end game.strings is.pending in
    let baselines_begin : replicate (length game.baselines) None ≡ no_baselines = ap (λ (n : ℕ). replicate n None) places_are in
    let from_none : (i : ℕ) → 0 + i ≡ i = λ i. omega arith in
    let numbers : (i : ℕ) → i < length game.baselines → IfSome (get_or game.baselines i None) (λ state. state.number ≡ 0 + i) =
    λ i more. subst (λ (k : ℕ). IfSome (get_or game.baselines i None) (λ state. state.number ≡ k)) (sym (from_none i)) (is.baselines.numbers i) in
    let baselines_are : baselines_after no_baselines baselines ≡ game.baselines = ap (λ (l : Baselines). baselines_after l baselines) (sym baselines_begin) ∙ baselines_made [] game.baselines numbers in
    record {
      command = is.command;
      slot = is.slot;
      feed = is.feed;
      settings = strings ++ baselines;
      text = string_text ++ line_text;
      of_settings = spells_both words table strings baselines string_text line_text
          (subst (λ (n : ℕ). SpellsSettings words table strings (numbered n 0 (λ index. config_bits words index (string_at game.strings index)))) count
          (strings_spelled laws.string words table (string_at game.strings) 0 texts are (omega (arith, count)) (λ i more. ap (string_at game.strings) (from_none i))))
          (subst (λ (n : ℕ). SpellsSettings words table baselines (numbered n 0 (λ number. baseline_bits words table (set_at game.baselines number)))) places_are
          (baselines_spelled laws profile codec (set_at game.baselines) 0 game.baselines (λ i more. ap (set_at game.baselines) (from_none i)) (is_line table game.baselines is.baselines)));
      within = within_both no_strings strings baselines
          (subst (λ (s : Strings). StayWithin s strings) begin (strings_within [] texts are is.strings.size))
          (baselines_stay_within (strings_after no_strings strings) game.baselines);
      strings = sym (strings_both no_strings strings baselines ∙ no_strings_changed (strings_after no_strings strings) game.baselines ∙ made);
      baselines = sym (baselines_both no_baselines strings baselines ∙ ap (λ (l : Baselines). baselines_after l baselines) (no_baselines_changed no_baselines 0 texts) ∙ baselines_are);
      id = is.id;
      whole = ap (λ (text : List Bool). text ++ row_bits words ((8, 8) ∷ (game.slot, 32) ∷ (game.feed, 32) ∷ [])) (append_assoc (row_bits words ((2, 8) ∷ (game.command, 32) ∷ [])) string_text line_text);
    }
