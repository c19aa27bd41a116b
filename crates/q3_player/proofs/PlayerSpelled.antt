-- The spellings of a delta: what is written is one of them, and a reader takes each of them and no other text.
use Rattle.std.proofs.Common.{◌≡◌, ℕ, Bool, true, cond, eqb, List, [], ◌∷◌, ◌++◌, length, Result, Ok, refl, sym, ap, subst, ◌∙◌, append_assoc, arith, inl, inr}
use Rattle.std.proofs.lemmas.Bool.{cases_Bool, eqb-true, eqb-false, and_parts}
use Rattle.std.proofs.lemmas.List.{nil_from_length}
use Rattle.std.proofs.lemmas.List.Concat.{flat_map-cons}
use Rattle.std.specs.List.{All, flat_map, list_all}
use Rattle.q3_bits.specs.ResultBind.{◌>>=◌}
use Rattle.q3_bits.proofs.Binds.{bind_ok}
use Rattle.q3_bits.specs.Words.{IsCode, field_bits, field_at}
use Rattle.q3_bits.specs.Laws.{ReadWasPut, PutIsRead}
use Rattle.q3_bits.specs.declared.reader.ReadError.{ReadError}
use Rattle.q3_fields.specs.declared.kind.Kind.{Kind}
use Rattle.q3_fields.specs.declared.kind.Kind.TheVariants.{Unsigned}
use Rattle.q3_fields.specs.Kinds.{IsKind, AreKinds}
use Rattle.q3_fields.specs.Places.{Change, with_changes}
use Rattle.q3_fields.specs.declared.delta.StateKind.TheVariants.{Player}
use Rattle.q3_fields.specs.declared.delta.DeltaError.{DeltaError}
use Rattle.q3_fields.specs.States.{normal_words}
use Rattle.q3_fields.specs.Deltas.{words_delta, bits_read, words_at}
use Rattle.q3_fields.specs.Spelling.{SpellsWords}
use Rattle.q3_fields.specs.Laws.{PlayerFieldIsSpelled, PlayerReadIsSpelled, PlayerSpelledIsRead, WordsAreSpelled, WordsReadAreSpelled, WordsSpelledAreRead}
use Rattle.q3_player.specs.declared.state.PlayerState.{PlayerState}
use Rattle.q3_player.specs.State.{IsState, array_kinds, arrays_of, with_arrays, normal_player, IsNormal}
use Rattle.q3_player.specs.Arrays.{changes, arrays_changed, player_changes}
use Rattle.q3_player.specs.Delta.{is_empty, array_bits, arrays_bits, player_delta, array_at, arrays_at, all_arrays_at, marked_arrays_at, player_at}
use Rattle.q3_player.specs.Spelling.{SpellsArrays, SpellsMarked, SpellsPlayer}
use Rattle.q3_player.proofs.Results.{bits_ok, answer_parts}
use Rattle.q3_player.proofs.BitsSpelled.{bits_were_put, bits_were}
use Rattle.q3_player.proofs.Kept.{IsKept, patterns-kept, powerups-kept, kept-fits, shorts-back, patterns-back, are-shorts, length-patterns}
use Rattle.q3_player.proofs.Maps.{with_changes-changes}
use Rattle.q3_player.proofs.ArraySpelled.{array_is_spelled, array_was_spelled, array_is_read}

-- ---- the arrays

-- arrays of these kinds: 16 values each, in normal form
abbrev AreArrays : List Kind → List (List ℕ) → Type 0
AreArrays (kind ∷ kinds) (x ∷ arrays) = IsKind kind × (length x ≡ 16) × All (IsKept kind) x × AreArrays kinds arrays
AreArrays [] [] = Unit {0}
AreArrays kinds arrays = ⊥

-- those of a state
are_arrays : (player : PlayerState) → IsState player → AreArrays array_kinds (arrays_of player)
are_arrays player state = (
  inr (inl refl),
  length-patterns player.stats ∙ state.stats.count,
  patterns-kept player.stats state.stats.each,
  (
    inr (inl refl),
    length-patterns player.persistant ∙ state.persistant.count,
    patterns-kept player.persistant state.persistant.each,
    (
      inr (inl refl),
      length-patterns player.ammo ∙ state.ammo.count,
      patterns-kept player.ammo state.ammo.each,
      ((omega arith, omega arith), state.powerups.count, powerups-kept player.powerups state.powerups.each, tt),
    ),
  ),
)

-- words of which none changed
same-words : (from to : List ℕ) → length from ≡ length to → is_empty (changes from to) ≡ true → from ≡ to
unfolding with_changes
same-words from to long none =
    let nothing : changes from to ≡ [] = nil_from_length (changes from to) (eqb-true (length (changes from to)) 0 none) in
    sym (ap (with_changes from) nothing) ∙ with_changes-changes from to long

-- arrays of which none changed
same-arrays : (kinds : List Kind) (from to : List (List ℕ)) → AreArrays kinds from → AreArrays kinds to → list_all (λ array. is_empty array.1) (arrays_changed kinds from to) ≡ true → from ≡ to
unfolding arrays_changed
same-arrays [] [] [] are are' none = refl
same-arrays [] [] (y ∷ to) are are' none = absurd are'
same-arrays [] (x ∷ from) to are are' none = absurd are
same-arrays (kind ∷ kinds) [] to are are' none = absurd are
same-arrays (kind ∷ kinds) (x ∷ from) [] are are' none = absurd are'
same-arrays (kind ∷ kinds) (x ∷ from) (y ∷ to) are are' none =
    let parts = and_parts (is_empty (changes x y)) (list_all (λ array. is_empty array.1) (arrays_changed kinds from to)) none in
    rw (same-words x y (are.1 ∙ sym are'.1) parts.0, same-arrays kinds from to are.3 are'.3 parts.1) refl

-- arrays that are written spell those that they go to
arrays_are_spelled : PlayerFieldIsSpelled → (words : List (List Bool)) (kinds : List Kind) (from to : List (List ℕ)) → AreArrays kinds from → AreArrays kinds to
    → SpellsArrays words kinds from to (flat_map (λ array. array_bits words array.0 array.1) (arrays_changed kinds from to))
unfolding arrays_changed
arrays_are_spelled law words [] [] [] are are' = (refl, refl)
arrays_are_spelled law words [] [] (y ∷ to) are are' = absurd are'
arrays_are_spelled law words [] (x ∷ from) to are are' = absurd are
arrays_are_spelled law words (kind ∷ kinds) [] to are are' = absurd are
arrays_are_spelled law words (kind ∷ kinds) (x ∷ from) [] are are' = absurd are'
arrays_are_spelled law words (kind ∷ kinds) (x ∷ from) (y ∷ to) are are' = (
  y,
  to,
  array_bits words kind (changes x y),
  flat_map (λ array. array_bits words array.0 array.1) (arrays_changed kinds from to),
  refl,
  flat_map-cons (λ (array : Kind × List Change). array_bits words array.0 array.1) (kind, changes x y) (arrays_changed kinds from to),
  array_is_spelled law words kind are.0 x y are.1 are'.1 are'.2,
  arrays_are_spelled law words kinds from to are.3 are'.3,
)

marked_is_spelled : PlayerFieldIsSpelled → (words : List (List Bool)) (from to : PlayerState) → IsState from → IsState to
    → SpellsMarked words (arrays_of from) (arrays_of to) (arrays_bits words (player_changes from to))
unfolding arrays_bits
marked_is_spelled law words from to state state' =
    let are = are_arrays from state in
    let are' = are_arrays to state' in
    elim (cases_Bool (list_all (λ array. is_empty array.1) (player_changes from to))) [
      | inl none ↦ rw none (inl (sym (same-arrays array_kinds (arrays_of from) (arrays_of to) are are' none), refl))
      | inr some ↦
          rw some
          (inr (flat_map (λ array. array_bits words array.0 array.1) (player_changes from to), arrays_are_spelled law words array_kinds (arrays_of from) (arrays_of to) are are', refl))
    ]

-- arrays that are read
record ReadArrays (words : List (List Bool)) (kinds : List Kind) (from : List (List ℕ)) (bits : List Bool) (found : List (List ℕ) × List Bool) : Type 0 where
  text : List Bool
  parts : bits ≡ text ++ found.1
  spells : SpellsArrays words kinds from found.0 text
  are : AreArrays kinds found.0

-- how they go on after the first
abbrev others_after : List (List Bool) → List Kind → List (List ℕ) → List ℕ × List Bool → Result (List (List ℕ) × List Bool) ReadError
others_after words kinds from first = arrays_at words kinds from first.1 >>= λ others. Ok (first.0 ∷ others.0, others.1)

-- were spelled so
arrays_were_spelled : ReadWasPut → PlayerReadIsSpelled → (words : List (List Bool)) → IsCode words → (kinds : List Kind) (from : List (List ℕ)) (bits : List Bool) (found : List (List ℕ) × List Bool)
    → AreArrays kinds from → arrays_at words kinds from bits ≡ Ok found → ReadArrays words kinds from bits found
unfolding arrays_at
arrays_were_spelled put law words code [] [] bits found are e =
    let parts = answer_parts [] found.0 bits found.1 e in
    record { text = []; parts = parts.1; spells = (sym parts.0, refl); are = subst (AreArrays []) parts.0 tt }
arrays_were_spelled put law words code [] (x ∷ from) bits found are e = absurd are
arrays_were_spelled put law words code (kind ∷ kinds) [] bits found are e = absurd are
arrays_were_spelled put law words code (kind ∷ kinds) (x ∷ from) bits found are e =
    let first = bind_ok (array_at words kind x bits) (others_after words kinds from) found e in
    let others = bind_ok (arrays_at words kinds from first.0.1) (λ others. Ok (first.0.0 ∷ others.0, others.1)) found first.2 in
    let parts = answer_parts (first.0.0 ∷ others.0.0) found.0 others.0.1 found.1 others.2 in
    let here = array_was_spelled put law words code kind are.0 x bits first.0 are.1 are.2 first.1 in
    let more = arrays_were_spelled put law words code kinds from first.0.1 others.0 are.3 others.1 in
    record {
      text = here.text ++ more.text;
      parts = here.parts ∙ ap (λ (left : List Bool). here.text ++ left) (more.parts ∙ ap (λ (left : List Bool). more.text ++ left) parts.1) ∙ sym (append_assoc here.text more.text found.1);
      spells = (first.0.0, others.0.0, here.text, more.text, sym parts.0, refl, here.spells, more.spells);
      are = subst (AreArrays (kind ∷ kinds)) parts.0 (are.0, here.long, here.kept, more.are);
    }

-- arrays that are spelled so are read
arrays_are_read : PutIsRead → PlayerSpelledIsRead → (words : List (List Bool)) → IsCode words → (kinds : List Kind) (from to : List (List ℕ)) (text rest : List Bool)
    → AreArrays kinds from → SpellsArrays words kinds from to text → arrays_at words kinds from (text ++ rest) ≡ Ok (to, rest)
unfolding arrays_at
arrays_are_read put law words code [] [] to text rest are s = rw (s.0, s.1) refl
arrays_are_read put law words code [] (x ∷ from) to text rest are s = absurd are
arrays_are_read put law words code (kind ∷ kinds) [] to text rest are s = absurd are
arrays_are_read put law words code (kind ∷ kinds) (x ∷ from) to text rest are (y, others, first, more, is, whole, spells, spelled) =
    rw (
      is,
      whole,
      append_assoc,
      array_is_read put law words code kind are.0 x y first (more ++ rest) are.1 spells,
      arrays_are_read put law words code kinds from others more rest are.3 spelled,
    ) refl

-- a state with other arrays is one, and has these arrays
record HasArrays (from : PlayerState) (arrays : List (List ℕ)) : Type 0 where
  state : IsState (with_arrays from arrays)
  arrays_are : arrays_of (with_arrays from arrays) ≡ arrays
  words : (with_arrays from arrays).words ≡ from.words

has_arrays : (from : PlayerState) (arrays : List (List ℕ)) → IsState from → AreArrays array_kinds arrays → HasArrays from arrays
has_arrays from [] state are = absurd are
has_arrays from (s ∷ []) state are = absurd are.3
has_arrays from (s ∷ p ∷ []) state are = absurd are.3.3
has_arrays from (s ∷ p ∷ a ∷ []) state are = absurd are.3.3.3
has_arrays from (s ∷ p ∷ a ∷ u ∷ x ∷ others) state are = absurd are.3.3.3.3
has_arrays from (s ∷ p ∷ a ∷ u ∷ []) state are =
    let second = are.3 in
    let third = second.3 in
    let last = third.3 in
    record {
      state = record {
        words = state.words;
        stats = are-shorts s are.1;
        persistant = are-shorts p second.1;
        ammo = are-shorts a third.1;
        powerups = record { count = last.1; each = kept-fits (Unsigned 32) u last.2 };
      };
      arrays_are = rw (patterns-back s are.2, patterns-back p second.2, patterns-back a third.2) refl;
      words = refl;
    }

-- a state's own arrays over another with the same words
over-arrays : (over to : PlayerState) → IsState to → over.words ≡ to.words → with_arrays over (arrays_of to) ≡ to
over-arrays over to state same = rw (shorts-back to.stats state.stats.each, shorts-back to.persistant state.persistant.each, shorts-back to.ammo state.ammo.each, same) refl

-- ---- the state

-- a state that is written against a normal one is spelled in its normal form
pub delta_is_spelled : WordsAreSpelled → PlayerFieldIsSpelled → (words : List (List Bool)) (table : List Kind) (from to : PlayerState) → IsCode words → AreKinds table → IsState from → IsNormal table from → IsState to
    → SpellsPlayer words table from (normal_player table to) (player_delta words table from to)
unfolding player_delta
delta_is_spelled spelled law words table from to code is_table state normal state' = record {
  fields = words_delta Player words table from.words to.words;
  arrays = arrays_bits words (player_changes from to);
  of_words = spelled Player words table from.words to.words code is_table state.words (ap (λ (p : PlayerState). p.words) normal) state'.words;
  of_arrays = marked_is_spelled law words from to state state';
  whole = refl;
}

-- the answer after the words
abbrev at_words : List (List Bool) → PlayerState → List ℕ × List Bool → Result (PlayerState × List Bool) DeltaError
at_words words from fields = bits_read (marked_arrays_at words (record from { words = fields.0 }) fields.1)

-- how the arrays go on after their mark
abbrev after_mark : List (List Bool) → PlayerState → ℕ × List Bool → Result (PlayerState × List Bool) ReadError
after_mark words over mark = cond (eqb mark.0 0) (Ok (over, mark.1)) (all_arrays_at words over mark.1)

-- a mark of the arrays that is read, and what follows it
record ReadMarked (words : List (List Bool)) (over : PlayerState) (bits : List Bool) (to : PlayerState) (rest : List Bool) : Type 0 where
  text : List Bool
  parts : bits ≡ text ++ rest
  spells : SpellsMarked words (arrays_of over) (arrays_of to) text
  state : IsState to
  others : to.words ≡ over.words

-- was spelled so
marked_was_spelled : ReadWasPut → PlayerReadIsSpelled → (words : List (List Bool)) → IsCode words → (over : PlayerState) (bits : List Bool) (to : PlayerState) (rest : List Bool)
    → IsState over → marked_arrays_at words over bits ≡ Ok (to, rest) → ReadMarked words over bits to rest
unfolding marked_arrays_at all_arrays_at
marked_was_spelled put law words code over bits to rest state e =
    let mark = bind_ok (field_at words 1 bits) (after_mark words over) (to, rest) e in
    let bit = bits_were_put put words code 1 bits mark.0 mark.1 in
    elim (cases_Bool (eqb mark.0.0 0)) [
      | inl none ↦
          let same = answer_parts over to mark.0.1 rest (rw none at mark.2) in
          record {
            text = field_bits words 1 0;
            parts = bits_were put words code 1 bits mark.0 0 rest mark.1 (eqb-true mark.0.0 0 none) same.1;
            spells = inl (ap arrays_of (sym same.0), refl);
            state = subst IsState same.0 state;
            others = ap (λ (p : PlayerState). p.words) (sym same.0);
          }
      | inr some ↦
          let one : mark.0.0 ≡ 1 = omega (arith, bit.0, eqb-false mark.0.0 0 some) in
          let arrays = bind_ok (arrays_at words array_kinds (arrays_of over) mark.0.1) (λ arrays. Ok (with_arrays over arrays.0, arrays.1)) (to, rest) (rw some at mark.2) in
          let same = answer_parts (with_arrays over arrays.0.0) to arrays.0.1 rest arrays.2 in
          let read = arrays_were_spelled put law words code array_kinds (arrays_of over) mark.0.1 arrays.0 (are_arrays over state) arrays.1 in
          let has = has_arrays over arrays.0.0 state read.are in
          let is : arrays_of to ≡ arrays.0.0 = ap arrays_of (sym same.0) ∙ has.arrays_are in
          record {
            text = field_bits words 1 1 ++ read.text;
            parts = bits_were put words code 1 bits mark.0 1 (read.text ++ rest) mark.1 one (read.parts ∙ ap (λ (left : List Bool). read.text ++ left) same.1) ∙ sym (append_assoc (field_bits words 1 1) read.text rest);
            spells = inr (read.text, subst (λ (arrays : List (List ℕ)). SpellsArrays words array_kinds (arrays_of over) arrays read.text) (sym is) read.spells, refl);
            state = subst IsState same.0 has.state;
            others = ap (λ (p : PlayerState). p.words) (sym same.0) ∙ has.words;
          }
    ]

-- a mark that is spelled so is read
marked_is_read : PutIsRead → PlayerSpelledIsRead → (words : List (List Bool)) → IsCode words → (over to : PlayerState) (text rest : List Bool) → IsState over → IsState to → over.words ≡ to.words
    → SpellsMarked words (arrays_of over) (arrays_of to) text → marked_arrays_at words over (text ++ rest) ≡ Ok (to, rest)
unfolding marked_arrays_at all_arrays_at
marked_is_read put law words code over to text rest state state' same (inl (is, whole)) =
    let one : over ≡ to = sym (over-arrays over over state refl) ∙ ap (with_arrays over) (sym is) ∙ over-arrays over to state' same in
    rw (whole, put words 1 0 rest code (omega arith)) (ap (λ (p : PlayerState). Ok (p, rest)) one)
marked_is_read put law words code over to text rest state state' same (inr (arrays, spelled, whole)) =
    rw (
      whole,
      append_assoc,
      put words 1 1 (arrays ++ rest) code (omega arith),
      arrays_are_read put law words code array_kinds (arrays_of over) (arrays_of to) arrays rest (are_arrays over state) spelled,
    ) (ap (λ (p : PlayerState). Ok (p, rest)) (over-arrays over to state' same))

-- a text after another, and what follows both
in_two : (bits one two left rest : List Bool) → bits ≡ one ++ left → left ≡ two ++ rest → bits ≡ (one ++ two) ++ rest
in_two bits one two left rest whole part = whole ∙ ap (λ (ys : List Bool). one ++ ys) part ∙ sym (append_assoc one two rest)

-- a state that is read was spelled so
pub player_was_spelled : WordsReadAreSpelled → ReadWasPut → PlayerReadIsSpelled → (words : List (List Bool)) (table : List Kind) (from to : PlayerState) (bits rest : List Bool) → IsCode words → AreKinds table
    → IsState from → player_at words table from bits ≡ Ok (to, rest)
    → IsState to × (IsNormal table from → IsNormal table to) × (text : List Bool) × (bits ≡ text ++ rest) × SpellsPlayer words table from to text
unfolding player_at
player_was_spelled read put law words table from to bits rest code is_table state e =
    let fields = bind_ok (words_at Player words table from.words bits) (at_words words from) (to, rest) e in
    let spelled = read Player words table from.words fields.0.0 bits fields.0.1 code is_table state.words fields.1 in
    let over = record from { words = fields.0.0 } in
    let over_state : IsState over = record { words = spelled.0; stats = state.stats; persistant = state.persistant; ammo = state.ammo; powerups = state.powerups } in
    let arrays = marked_was_spelled put law words code over fields.0.1 to rest over_state (bits_ok (marked_arrays_at words over fields.0.1) (to, rest) fields.2) in (
      arrays.state,
      λ normal.
          let words_are = spelled.1 (ap (λ (p : PlayerState). p.words) normal) in
          ap (λ (ws : List ℕ). record to { words = ws }) (subst (λ (ws : List ℕ). normal_words table ws ≡ ws) (sym arrays.others) words_are),
      spelled.2 ++ arrays.text,
      in_two bits spelled.2 arrays.text fields.0.1 rest spelled.3 arrays.parts,
      record {
        fields = spelled.2;
        arrays = arrays.text;
        of_words = subst (λ (ys : List ℕ). SpellsWords Player words table from.words ys spelled.2) (sym arrays.others) spelled.4;
        of_arrays = arrays.spells;
        whole = refl {a = spelled.2 ++ arrays.text};
      },
    )

-- a state that is spelled so is read
pub player_is_read : WordsSpelledAreRead → PutIsRead → PlayerSpelledIsRead → (words : List (List Bool)) (table : List Kind) (from to : PlayerState) (text rest : List Bool) → IsCode words → AreKinds table
    → IsState from → IsState to → SpellsPlayer words table from to text → player_at words table from (text ++ rest) ≡ Ok (to, rest)
unfolding player_at
player_is_read read put law words table from to text rest code is_table state state' s =
    let regrouped : text ++ rest ≡ s.fields ++ (s.arrays ++ rest) = rw s.whole (append_assoc s.fields s.arrays rest) in
    let over = record from { words = to.words } in
    let over_state : IsState over = record { words = state'.words; stats = state.stats; persistant = state.persistant; ammo = state.ammo; powerups = state.powerups } in
    rw (
      regrouped,
      read Player words table from.words to.words s.fields (s.arrays ++ rest) code is_table state.words s.of_words,
      marked_is_read put law words code over to s.arrays rest over_state state' refl s.of_arrays,
    ) refl
