-- Moves: what is written spells them, what is read was spelled so, and what is spelled so is read.
use Rattle.std.proofs.Common.{◌≡◌, ◌⊎◌, ◌<◌, ℕ, zero, suc, Bool, true, eqb, cond, List, [], ◌∷◌, ◌++◌, length, Ok, refl, sym, ap, subst, ◌∙◌, append_assoc, arith, inl, inr}
use Rattle.std.specs.List.{All}
use Rattle.std.specs.Str.{bytes_eq}
use Rattle.std.proofs.lemmas.Bool.{cases_Bool, eqb-true, eqb-false}
use Rattle.std.proofs.lemmas.Slice.Eq.{bytes_eq-Decides}
use Rattle.std.proofs.lemmas.List.Elements.{All-nil, All-cons, All-head, All-tail}
use Rattle.q3_bits.specs.ResultBind.{◌>>=◌}
use Rattle.q3_bits.proofs.Binds.{bind_ok}
use Rattle.q3_bits.specs.Words.{IsCode, field_bits, field_at}
use Rattle.q3_bits.specs.Laws.{PutIsRead, ReadWasPut}
use Rattle.q3_clmsg.specs.declared.moves.Move.{Move}
use Rattle.q3_clmsg.specs.Moves.{IsMove, move_widths, fields_of, move_of, move_key, time_bits, fields_bits, changed_bits, move_delta, moves_bits, time_at, fields_at, move_at, moves_at}
use Rattle.q3_clmsg.specs.Spelling.{SpellsTime, SpellsFields, SpellsMove, SpellsMoves}
use Rattle.q3_clmsg.proofs.Steps.{fields_are, fields_long, fields_back, fields_give, move_time}
use Rattle.q3_clmsg.proofs.TimeSpelled.{time_is_spelled, ReadTime, time_was_spelled, time_is_read}
use Rattle.q3_clmsg.proofs.FieldsSpelled.{fields_are_spelled, ReadFields, fields_were_spelled, fields_are_read}

-- what follows a move's time: nothing else changed, or the fields
abbrev SpellsRest : List (List Bool) → ℕ → Move → Move → List Bool → Type 0
SpellsRest words key from to rest =
    ((to ≡ record from { time = to.time }) × (rest ≡ field_bits words 1 0))
    ⊎ ((fields : List ℕ) × (text : List Bool) × (to ≡ move_of to.time fields)
    × SpellsFields words (move_key key to.time) move_widths (fields_of from) fields text × (rest ≡ field_bits words 1 1 ++ text))

-- ---- what is written

-- fields that are the same
same_fields : (from to : List ℕ) → bytes_eq from to ≡ true → from ≡ to
same_fields from to is = (bytes_eq-Decides from to).0 is

changed_is_spelled : (words : List (List Bool)) (key : ℕ) (from to : Move) → IsMove from → IsMove to
    → SpellsRest words key from to (changed_bits words (move_key key to.time) (fields_of from) (fields_of to))
changed_is_spelled words key from to is is' =
    elim (cases_Bool (bytes_eq (fields_of from) (fields_of to))) [
      | inl same ↦
          let alike : fields_of from ≡ fields_of to = same_fields (fields_of from) (fields_of to) same in
          rw same (inl (sym (fields_back to.time to is') ∙ ap (λ (fields : List ℕ). move_of to.time fields) (sym alike) ∙ fields_back to.time from is, refl))
      | inr other ↦
          rw other (inr (
            fields_of to,
            fields_bits words (move_key key to.time) move_widths (fields_of from) (fields_of to),
            sym (fields_back to.time to is'),
            fields_are_spelled words (move_key key to.time) move_widths (fields_of from) (fields_of to) (fields_long from is) (fields_long to is') (fields_are to is'),
            refl,
          ))
    ]

move_is_spelled : (words : List (List Bool)) (key : ℕ) (from to : Move) → IsMove from → IsMove to → SpellsMove words key from to (move_delta words key from to)
unfolding move_delta
move_is_spelled words key from to is is' = record {
  time = time_bits words from.time to.time;
  rest = changed_bits words (move_key key to.time) (fields_of from) (fields_of to);
  of_time = time_is_spelled words from.time to.time is.time is'.time;
  of_rest = changed_is_spelled words key from to is is';
  whole = refl;
}

pub moves_are_spelled : (words : List (List Bool)) (key : ℕ) (from : Move) (moves : List Move) → IsMove from → All IsMove moves
    → SpellsMoves words key from moves (moves_bits words key from moves)
unfolding moves_bits
moves_are_spelled words key from [] is each = refl
moves_are_spelled words key from (one ∷ moves) is each =
    let first = All-head IsMove one moves each in (
      move_delta words key from one,
      moves_bits words key one moves,
      refl,
      move_is_spelled words key from one is first,
      moves_are_spelled words key one moves first (All-tail IsMove one moves each),
    )

-- ---- what is read

-- a move that was read after another
record ReadMove (words : List (List Bool)) (key : ℕ) (from : Move) (bits : List Bool) (found : Move × List Bool) : Type 0 where
  text : List Bool
  spells : SpellsMove words key from found.0 text
  is : IsMove found.0
  parts : bits ≡ text ++ found.1

-- nothing but its time changed
move_unmarked : ReadWasPut → (words : List (List Bool)) → IsCode words → (key : ℕ) (from : Move) (bits : List Bool) (time changed : ℕ × List Bool) → IsMove from
    → ReadTime words from.time bits time → field_at words 1 time.1 ≡ Ok changed → changed.0 ≡ 0 → ReadMove words key from bits (record from { time = time.0 }, changed.1)
move_unmarked put words code key from bits time changed is of_time e unmarked =
    let was = put words 1 changed.0 time.1 changed.1 code e in
    record {
      text = of_time.text ++ field_bits words 1 0;
      spells = record { time = of_time.text; rest = field_bits words 1 0; of_time = of_time.spells; of_rest = inl (refl, refl); whole = refl };
      is = record {
        time = of_time.fits;
        three = is.three;
        angles = is.angles;
        forward = is.forward;
        right = is.right;
        up = is.up;
        buttons = is.buttons;
        weapon = is.weapon;
      };
      parts =
          of_time.parts
          ∙ ap (λ (left : List Bool). of_time.text ++ left) (was.1 ∙ ap (λ (mark : ℕ). field_bits words 1 mark ++ changed.1) unmarked)
          ∙ sym (append_assoc of_time.text (field_bits words 1 0) changed.1);
    }

-- the fields may have changed
move_marked : ReadWasPut → (words : List (List Bool)) → IsCode words → (key : ℕ) (from : Move) (bits : List Bool) (time changed : ℕ × List Bool) (fields : List ℕ × List Bool)
    → ReadTime words from.time bits time → field_at words 1 time.1 ≡ Ok changed → 0 < changed.0
    → ReadFields words (move_key key time.0) move_widths (fields_of from) changed.1 fields → ReadMove words key from bits (move_of time.0 fields.0, fields.1)
move_marked put words code key from bits time changed fields of_time e marked were =
    let was = put words 1 changed.0 time.1 changed.1 code e in
    let mark : changed.0 ≡ 1 = omega (arith, was.0, marked) in
    let one = move_of time.0 fields.0 in
    let Tells : ℕ → Type 0 = λ t. SpellsTime words from.time t of_time.text × (one ≡ move_of t fields.0) × SpellsFields words (move_key key t) move_widths (fields_of from) fields.0 were.text in
    let told = subst Tells (sym (move_time time.0 fields.0 were.long)) (of_time.spells, refl, were.spells) in
    record {
      text = of_time.text ++ (field_bits words 1 1 ++ were.text);
      spells = record {
        time = of_time.text;
        rest = field_bits words 1 1 ++ were.text;
        of_time = told.0;
        of_rest = inr (fields.0, were.text, told.1, told.2, refl);
        whole = refl;
      };
      is = fields_give time.0 fields.0 of_time.fits were.are were.long;
      parts =
          of_time.parts
          ∙ ap (λ (left : List Bool). of_time.text ++ left) (was.1 ∙ ap (λ (mark : ℕ). field_bits words 1 mark ++ changed.1) mark
          ∙ ap (λ (left : List Bool). field_bits words 1 1 ++ left) were.parts ∙ sym (append_assoc (field_bits words 1 1) were.text fields.1))
          ∙ sym (append_assoc of_time.text (field_bits words 1 1 ++ were.text) fields.1);
    }

move_was_spelled : ReadWasPut → (words : List (List Bool)) → IsCode words → (key : ℕ) (from : Move) (bits : List Bool) (found : Move × List Bool) → IsMove from
    → move_at words key from bits ≡ Ok found → ReadMove words key from bits found
unfolding move_at
move_was_spelled put words code key from bits found is e =
    let after = λ (time : ℕ × List Bool) (changed : ℕ × List Bool).
    cond (eqb changed.0 0) (Ok (record from { time = time.0 }, changed.1))
    (fields_at words (move_key key time.0) move_widths (fields_of from) changed.1 >>= λ fields. Ok (move_of time.0 fields.0, fields.1)) in
    let time = bind_ok (time_at words from.time bits) (λ time. field_at words 1 time.1 >>= λ changed. after time changed) found e in
    let changed = bind_ok (field_at words 1 time.0.1) (λ changed. after time.0 changed) found time.2 in
    let of_time = time_was_spelled put words code from.time bits time.0 time.1 in
    elim (cases_Bool (eqb changed.0.0 0)) [
      | inl same ↦
          let made = rw same at changed.2 in
          let whole : (record from { time = time.0.0 }, changed.0.1) ≡ found = cc in
          subst (ReadMove words key from bits) {x = (record from { time = time.0.0 }, changed.0.1)} whole
          (move_unmarked put words code key from bits time.0 changed.0 is of_time changed.1 (eqb-true changed.0.0 0 same))
      | inr other ↦
          let fields = bind_ok (fields_at words (move_key key time.0.0) move_widths (fields_of from) changed.0.1) (λ fields. Ok (move_of time.0.0 fields.0, fields.1)) found (rw other at changed.2) in
          let were = fields_were_spelled put words code (move_key key time.0.0) move_widths (fields_of from) changed.0.1 fields.0 (fields_long from is) (fields_are from is) fields.1 in
          let made = fields.2 in
          let whole : (move_of time.0.0 fields.0.0, fields.0.1) ≡ found = cc in
          subst (ReadMove words key from bits) {x = (move_of time.0.0 fields.0.0, fields.0.1)} whole
          (move_marked put words code key from bits time.0 changed.0 fields.0 of_time changed.1 (omega (arith, eqb-false changed.0.0 0 other)) were)
    ]

-- moves that were read, each after the one before
pub record ReadMoves (words : List (List Bool)) (key count : ℕ) (from : Move) (bits : List Bool) (found : List Move × List Bool) : Type 0 where
  pub long : length found.0 ≡ count
  pub each : All IsMove found.0
  pub text : List Bool
  pub spells : SpellsMoves words key from found.0 text
  pub parts : bits ≡ text ++ found.1

pub moves_were_spelled : ReadWasPut → (words : List (List Bool)) → IsCode words → (key count : ℕ) (from : Move) (bits : List Bool) (found : List Move × List Bool) → IsMove from
    → moves_at words key count from bits ≡ Ok found → ReadMoves words key count from bits found
unfolding moves_at
moves_were_spelled put words code key zero from bits found is e =
    let whole : ([], bits) ≡ found = cc in
    subst (ReadMoves words key 0 from bits) {x = ([], bits)} whole (record { long = refl; each = All-nil IsMove; text = []; spells = refl; parts = refl })
moves_were_spelled put words code key (suc count) from bits found is e =
    let one = bind_ok (move_at words key from bits) (λ one. moves_at words key count one.0 one.1 >>= λ others. Ok (one.0 ∷ others.0, others.1)) found e in
    let others = bind_ok (moves_at words key count one.0.0 one.0.1) (λ others. Ok (one.0.0 ∷ others.0, others.1)) found one.2 in
    let was = move_was_spelled put words code key from bits one.0 is one.1 in
    let were = moves_were_spelled put words code key count one.0.0 one.0.1 others.0 was.is others.1 in
    let made = others.2 in
    let whole : (one.0.0 ∷ others.0.0, others.0.1) ≡ found = cc in
    subst (ReadMoves words key (suc count) from bits) {x = (one.0.0 ∷ others.0.0, others.0.1)} whole (record {
      long = ap (λ (n : ℕ). suc n) were.long;
      each = All-cons IsMove one.0.0 others.0.0 was.is were.each;
      text = was.text ++ were.text;
      spells = (was.text, were.text, refl, was.spells, were.spells);
      parts = was.parts ∙ ap (λ (left : List Bool). was.text ++ left) were.parts ∙ sym (append_assoc was.text were.text others.0.1);
    })

-- ---- what is spelled

move_is_read : PutIsRead → (words : List (List Bool)) → IsCode words → (key : ℕ) (from to : Move) (text rest : List Bool) → SpellsMove words key from to text
    → move_at words key from (text ++ rest) ≡ Ok (to, rest)
unfolding move_at
move_is_read put words code key from to text rest s =
    let same : text ++ rest ≡ s.time ++ (s.rest ++ rest) = ap (λ (text : List Bool). text ++ rest) s.whole ∙ append_assoc s.time s.rest rest in
    elim s.of_rest [
      | inl only ↦
          rw (same, time_is_read put words code from.time to.time s.time (s.rest ++ rest) s.of_time, only.1, put words 1 0 rest code (omega arith))
          (ap (λ (one : Move). Ok (one, rest)) (sym only.0))
      | inr some ↦
          let after : s.rest ++ rest ≡ field_bits words 1 1 ++ (some.1 ++ rest) = ap (λ (text : List Bool). text ++ rest) some.4 ∙ append_assoc (field_bits words 1 1) some.1 rest in
          rw (
            same,
            time_is_read put words code from.time to.time s.time (s.rest ++ rest) s.of_time,
            after,
            put words 1 1 (some.1 ++ rest) code (omega arith),
            fields_are_read put words code (move_key key to.time) move_widths (fields_of from) some.0 some.1 rest some.3,
          )
          (ap (λ (one : Move). Ok (one, rest)) (sym some.2))
    ]

pub moves_are_read : PutIsRead → (words : List (List Bool)) → IsCode words → (key : ℕ) (from : Move) (moves : List Move) (text rest : List Bool) → SpellsMoves words key from moves text
    → moves_at words key (length moves) from (text ++ rest) ≡ Ok (moves, rest)
unfolding moves_at
moves_are_read put words code key from [] text rest s = rw s refl
moves_are_read put words code key from (one ∷ moves) text rest (first, others, whole, of_one, of_others) =
    let same : text ++ rest ≡ first ++ (others ++ rest) = ap (λ (text : List Bool). text ++ rest) whole ∙ append_assoc first others rest in
    rw (same, move_is_read put words code key from one first (others ++ rest) of_one, moves_are_read put words code key one moves others rest of_others) refl
