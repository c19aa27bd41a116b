-- The spellings of an array: what is written is one of them, and a reader takes each of them and no other text.
use Rattle.std.proofs.Common.{◌≡◌, ◌≢◌, ◌⊎◌, ℕ, suc, ◌/◌, ◌%◌, ◌^◌, ◌<◌, Bool, true, false, cond, eqb, List, [], ◌∷◌, ◌++◌, length, Result, Ok, refl, sym, ap, subst, ◌∙◌, append_assoc, arith, inl, inr}
use Rattle.std.proofs.Math.Dec.{eqb-suc-zero}
use Rattle.std.proofs.Math.Nat.{pow-suc}
use Rattle.std.proofs.lemmas.Bool.{cases_Bool, eqb-true, eqb-false, eq-eqb, ne_eqb}
use Rattle.std.proofs.lemmas.List.Elements.{All-cons, All-head, All-tail}
use Rattle.std.specs.List.{All}
use Rattle.q3_bits.specs.ResultBind.{◌>>=◌}
use Rattle.q3_bits.proofs.Binds.{bind_ok}
use Rattle.q3_bits.specs.Words.{IsCode, field_bits, field_at}
use Rattle.q3_bits.specs.Laws.{ReadWasPut, PutIsRead}
use Rattle.q3_bits.specs.declared.reader.ReadError.{ReadError}
use Rattle.q3_fields.specs.declared.kind.Kind.{Kind}
use Rattle.q3_fields.specs.Kinds.{IsKind}
use Rattle.q3_fields.specs.Places.{Change, with_changes, AreRising}
use Rattle.q3_fields.specs.Texts.{player_field_at}
use Rattle.q3_fields.specs.Laws.{PlayerFieldIsSpelled, PlayerReadIsSpelled, PlayerSpelledIsRead}
use Rattle.q3_player.specs.Arrays.{changes, mask_of}
use Rattle.q3_player.specs.Delta.{values_bits, array_bits, value_at, values_at, array_at}
use Rattle.q3_player.specs.Spelling.{SpellsValues, SpellsArray}
use Rattle.q3_player.proofs.Results.{answer_parts}
use Rattle.q3_player.proofs.BitsSpelled.{bits_were_put, bits_were}
use Rattle.q3_player.proofs.Kept.{IsKept}
use Rattle.q3_player.proofs.Maps.{rises-weaker, up, mask_of-up, with_changes-up, rises-up, splits, mask-below, mask-one_up, mask-one_up_and_first, changes-rise, with_changes-changes, values-up, values-down, values-spelled}
use Rattle.q3_player.proofs.PlacesRead.{places_after_none}

-- ---- places that are read

-- the places after the first
abbrev others_at : List (List Bool) → Kind → ℕ → List ℕ → ℕ × List Bool → Result (List ℕ × List Bool) ReadError
others_at words kind mask from first = values_at words kind mask from first.1 >>= λ others. Ok (first.0 ∷ others.0, others.1)

-- what places spell: a map whose mask is the one that was read
pub record ReadPlaces (words : List (List Bool)) (kind : Kind) (mask : ℕ) (from : List ℕ) (bits : List Bool) (found : List ℕ × List Bool) : Type 0 where
  pub changed : List Change
  pub text : List Bool
  pub rises : AreRising (length from) 0 changed
  pub mask_is : mask_of changed ≡ mask
  pub values_are : found.0 ≡ with_changes from changed
  pub parts : bits ≡ text ++ found.1
  pub spells : SpellsValues words kind changed text
  pub kept : All (IsKept kind) from → All (IsKept kind) found.0
  pub long : length found.0 ≡ length from

-- a place that is read: its value, or what it was
place_parts : (words : List (List Bool)) (kind : Kind) (mask x : ℕ) (bits : List Bool) (found : ℕ × List Bool) → value_at words kind mask x bits ≡ Ok found
    → ((mask % 2 ≡ 1) × (player_field_at words kind bits ≡ Ok found)) ⊎ ((mask % 2 ≡ 0) × (x ≡ found.0) × (bits ≡ found.1))
unfolding value_at
place_parts words kind mask x bits found e =
    elim (cases_Bool (eqb (mask % 2) 1)) [
      | inl one ↦ inl (eqb-true (mask % 2) 1 one, rw one at e)
      | inr none ↦
          let parts = answer_parts x found.0 bits found.1 (rw none at e) in
          inr (omega (arith, eqb-false (mask % 2) 1 none), parts.0, parts.1)
    ]

-- places that are read were spelled so
pub places_were_spelled : PlayerReadIsSpelled → (words : List (List Bool)) → IsCode words → (kind : Kind) → IsKind kind → (mask : ℕ) (from : List ℕ) (bits : List Bool) (found : List ℕ × List Bool)
    → mask < 2 ^ length from → values_at words kind mask from bits ≡ Ok found → ReadPlaces words kind mask from bits found
unfolding values_at value_at mask_of with_changes
places_were_spelled law words code kind allowed mask [] bits found below e =
    let parts = answer_parts [] found.0 bits found.1 e in
    record {
      changed = [];
      text = [];
      rises = tt;
      mask_is = omega arith;
      values_are = sym parts.0;
      parts = parts.1;
      spells = refl;
      kept = λ all. rw (← parts.0) all;
      long = ap length (sym parts.0);
    }
places_were_spelled law words code kind allowed mask (x ∷ from) bits found below e =
    let half : mask / 2 < 2 ^ length from = omega (arith, pow-suc 2 (length from)) in
    let first = bind_ok (value_at words kind mask x bits) (others_at words kind (mask / 2) from) found e in
    let others = bind_ok (values_at words kind (mask / 2) from first.0.1) (λ others. Ok (first.0.0 ∷ others.0, others.1)) found first.2 in
    let parts = answer_parts (first.0.0 ∷ others.0.0) found.0 others.0.1 found.1 others.2 in
    let more = places_were_spelled law words code kind allowed (mask / 2) from first.0.1 others.0 half others.1 in
    elim (place_parts words kind mask x bits first.0 first.1) [
      | inl one ↦
          let here = law words kind first.0.0 bits first.0.1 code allowed one.1 in
          record {
            changed = (0, first.0.0) ∷ up more.changed;
            text = here.2 ++ more.text;
            rises = (omega arith, omega arith, rises-up (length from) 0 more.changed more.rises);
            mask_is = omega (arith, one.0, mask_of-up more.changed, more.mask_is);
            values_are = sym parts.0 ∙ ap (λ (ys : List ℕ). first.0.0 ∷ ys) more.values_are ∙ sym (with_changes-up first.0.0 from more.changed);
            parts = here.3 ∙ ap (λ (rest : List Bool). here.2 ++ rest) (more.parts ∙ ap (λ (rest : List Bool). more.text ++ rest) parts.1) ∙ sym (append_assoc here.2 more.text found.1);
            spells = (here.2, more.text, refl, here.4, values-up words kind more.changed more.text more.spells);
            kept = λ all. rw (← parts.0) (All-cons (IsKept kind) first.0.0 others.0.0 (record { fits = here.0; normal = here.1 }) (more.kept (All-tail (IsKept kind) x from all)));
            long = ap length (sym parts.0) ∙ ap suc more.long;
          }
      | inr none ↦ record {
        changed = up more.changed;
        text = more.text;
        rises = rises-weaker (suc (length from)) 1 0 (up more.changed) (omega arith) (rises-up (length from) 0 more.changed more.rises);
        mask_is = omega (arith, none.0, mask_of-up more.changed, more.mask_is);
        values_are = sym parts.0 ∙ ap (λ (ys : List ℕ). first.0.0 ∷ ys) more.values_are ∙ ap (λ (y : ℕ). y ∷ with_changes from more.changed) (sym none.1) ∙ sym (with_changes-up x from more.changed);
        parts = none.2 ∙ more.parts ∙ ap (λ (rest : List Bool). more.text ++ rest) parts.1;
        spells = values-up words kind more.changed more.text more.spells;
        kept = λ all. rw (← parts.0) (All-cons (IsKept kind) first.0.0 others.0.0 (rw (← none.1) (All-head (IsKept kind) x from all)) (more.kept (All-tail (IsKept kind) x from all)));
        long = ap length (sym parts.0) ∙ ap suc more.long;
      }
    ]

-- places that are spelled so are read
pub places_are_read : PlayerSpelledIsRead → (words : List (List Bool)) → IsCode words → (kind : Kind) → IsKind kind → (from : List ℕ) (changed : List Change) (text rest : List Bool)
    → AreRising (length from) 0 changed → SpellsValues words kind changed text → values_at words kind (mask_of changed) from (text ++ rest) ≡ Ok (with_changes from changed, rest)
unfolding values_at value_at mask_of with_changes
places_are_read law words code kind allowed [] [] text rest rises spells = rw spells refl
places_are_read law words code kind allowed [] (change ∷ others) text rest rises spells = absurd (omega (arith, rises.1))
places_are_read law words code kind allowed (x ∷ from) changed text rest rises spells =
    let parts = splits (length from) changed rises in
    let lower = parts.lower in
    elim parts.is [
      | inl is ↦
          let mask = mask-one_up changed lower is in
          let test : eqb (mask_of changed % 2) 1 ≡ false = ne_eqb (mask_of changed % 2) 1 (λ one. omega (arith, mask, one)) in
          let half : mask_of changed / 2 ≡ mask_of lower = omega (arith, mask) in
          let spelled = values-down words kind lower text (subst (λ (xs : List Change). SpellsValues words kind xs text) is spells) in
          rw (test, half, places_are_read law words code kind allowed from lower text rest parts.rises spelled)
          (ap (λ (ys : List ℕ). Ok (ys, rest)) (sym (ap (with_changes (x ∷ from)) is ∙ with_changes-up x from lower)))
      | inr is ↦
          let mask = mask-one_up_and_first changed lower is.0 is.1 in
          let test : eqb (mask_of changed % 2) 1 ≡ true = eq-eqb (mask_of changed % 2) 1 (omega (arith, mask)) in
          let half : mask_of changed / 2 ≡ mask_of lower = omega (arith, mask) in
          let s = subst (λ (xs : List Change). SpellsValues words kind xs text) is.1 spells in
          let others = values-down words kind lower s.1 s.4 in
          rw (
            test,
            half,
            s.2,
            append_assoc,
            law words kind is.0 s.0 (s.1 ++ rest) code allowed s.3,
            places_are_read law words code kind allowed from lower s.1 rest parts.rises others,
          ) (ap (λ (ys : List ℕ). Ok (ys, rest)) (sym (ap (with_changes (x ∷ from)) is.1 ∙ with_changes-up is.0 from lower)))
    ]

-- ---- an array

-- a map of what changed, written
map_is_spelled : PlayerFieldIsSpelled → (words : List (List Bool)) (kind : Kind) → IsKind kind → (from to : List ℕ) → All (IsKept kind) to
    → (changed : List Change) → changed ≡ changes from to → AreRising 16 0 changed → with_changes from changed ≡ to → SpellsArray words kind from to (array_bits words kind changed)
unfolding array_bits with_changes
map_is_spelled law words kind allowed from to kept [] is rising over = inl (sym over, refl)
map_is_spelled law words kind allowed from to kept (change ∷ others) is rising over =
    rw (eqb-suc-zero (length others)) (inr (
      change ∷ others,
      values_bits words kind (change ∷ others),
      rising,
      sym over,
      subst (λ (xs : List Change). SpellsValues words kind xs (values_bits words kind xs)) (sym is) (values-spelled law words kind allowed 0 from to kept),
      refl,
    ))

-- an array that is written against another spells what it holds
pub array_is_spelled : PlayerFieldIsSpelled → (words : List (List Bool)) (kind : Kind) → IsKind kind → (from to : List ℕ) → length from ≡ 16 → length to ≡ 16 → All (IsKept kind) to
    → SpellsArray words kind from to (array_bits words kind (changes from to))
array_is_spelled law words kind allowed from to long long' kept =
    let rises = subst (λ (n : ℕ). AreRising n 0 (changes from to)) long (changes-rise from to) in
    map_is_spelled law words kind allowed from to kept (changes from to) refl rises (with_changes-changes from to (long ∙ sym long'))

-- an array that is read
pub record ReadArray (words : List (List Bool)) (kind : Kind) (from : List ℕ) (bits : List Bool) (found : List ℕ × List Bool) : Type 0 where
  pub text : List Bool
  pub parts : bits ≡ text ++ found.1
  pub spells : SpellsArray words kind from found.0 text
  pub kept : All (IsKept kind) found.0
  pub long : length found.0 ≡ 16

-- the mask after a mark
abbrev mask_at : List (List Bool) → ℕ × List Bool → Result (ℕ × List Bool) ReadError
mask_at words mark = cond (eqb mark.0 0) (Ok (0, mark.1)) (field_at words 16 mark.1)

abbrev places_at : List (List Bool) → Kind → List ℕ → ℕ × List Bool → Result (List ℕ × List Bool) ReadError
places_at words kind from mask = values_at words kind mask.0 from mask.1

-- no mask, or one of 16 bits
mask_parts : (words : List (List Bool)) (mark mask : ℕ × List Bool) → mask_at words mark ≡ Ok mask
    → ((mark.0 ≡ 0) × (mask.0 ≡ 0) × (mask.1 ≡ mark.1)) ⊎ ((mark.0 ≢ 0) × (field_at words 16 mark.1 ≡ Ok mask))
mask_parts words mark mask e =
    elim (cases_Bool (eqb mark.0 0)) [
      | inl none ↦
          let parts = answer_parts 0 mask.0 mark.1 mask.1 (rw none at e) in
          inl (eqb-true mark.0 0 none, sym parts.0, sym parts.1)
      | inr some ↦ inr (eqb-false mark.0 0 some, rw some at e)
    ]

-- was spelled so
pub array_was_spelled : ReadWasPut → PlayerReadIsSpelled → (words : List (List Bool)) → IsCode words → (kind : Kind) → IsKind kind → (from : List ℕ) (bits : List Bool) (found : List ℕ × List Bool)
    → length from ≡ 16 → All (IsKept kind) from → array_at words kind from bits ≡ Ok found → ReadArray words kind from bits found
unfolding array_at
array_was_spelled put law words code kind allowed from bits found long kept e =
    let mark = bind_ok (field_at words 1 bits) (λ mark. mask_at words mark >>= places_at words kind from) found e in
    let mask = bind_ok (mask_at words mark.0) (places_at words kind from) found mark.2 in
    elim (mask_parts words mark.0 mask.0 mask.1) [
      | inl none ↦
          let read = sym (places_after_none words kind from mask.0.1) ∙ ap (λ (m : ℕ). values_at words kind m from mask.0.1) (sym none.1) ∙ mask.2 in
          let parts = answer_parts from found.0 mask.0.1 found.1 read in
          record {
            text = field_bits words 1 0;
            parts = bits_were put words code 1 bits mark.0 0 found.1 mark.1 none.0 (sym none.2 ∙ parts.1);
            spells = inl (sym parts.0, refl);
            kept = subst (All (IsKept kind)) parts.0 kept;
            long = ap length (sym parts.0) ∙ long;
          }
      | inr some ↦
          let bit = bits_were_put put words code 1 bits mark.0 mark.1 in
          let one : mark.0.0 ≡ 1 = omega (arith, bit.0, some.0) in
          let sixteen = bits_were_put put words code 16 mark.0.1 mask.0 some.1 in
          let below : mask.0.0 < 2 ^ length from = rw long sixteen.0 in
          let read = places_were_spelled law words code kind allowed mask.0.0 from mask.0.1 found below mask.2 in
          let first : bits ≡ field_bits words 1 1 ++ mark.0.1 = bits_were put words code 1 bits mark.0 1 mark.0.1 mark.1 one refl in
          let regrouped : field_bits words 1 1 ++ (field_bits words 16 mask.0.0 ++ (read.text ++ found.1)) ≡ (field_bits words 1 1 ++ field_bits words 16 mask.0.0 ++ read.text) ++ found.1 = simp append_assoc in
          record {
            text = field_bits words 1 1 ++ field_bits words 16 mask.0.0 ++ read.text;
            parts =
                first ∙ ap (λ (left : List Bool). field_bits words 1 1 ++ left) (sixteen.1 ∙ ap (λ (left : List Bool). field_bits words 16 mask.0.0 ++ left) read.parts)
                ∙ regrouped;
            spells = inr (
              read.changed,
              read.text,
              subst (λ (n : ℕ). AreRising n 0 read.changed) long read.rises,
              read.values_are,
              read.spells,
              ap (λ (m : ℕ). field_bits words 1 1 ++ field_bits words 16 m ++ read.text) (sym read.mask_is),
            );
            kept = read.kept kept;
            long = read.long ∙ long;
          }
    ]

-- an array that is spelled so is read
pub array_is_read : PutIsRead → PlayerSpelledIsRead → (words : List (List Bool)) → IsCode words → (kind : Kind) → IsKind kind → (from to : List ℕ) (text rest : List Bool)
    → length from ≡ 16 → SpellsArray words kind from to text → array_at words kind from (text ++ rest) ≡ Ok (to, rest)
unfolding array_at
array_is_read put law words code kind allowed from to text rest long (inl none) =
    rw (none.1, none.0, put words 1 0 rest code (omega arith), places_after_none words kind from rest) refl
array_is_read put law words code kind allowed from to text rest long (inr some) =
    let changed = some.0 in
    let values = some.1 in
    let rises = subst (λ (n : ℕ). AreRising n 0 changed) (sym long) some.2 in
    let below : mask_of changed < 2 ^ 16 = mask-below 16 changed some.2 in
    let regrouped : text ++ rest ≡ field_bits words 1 1 ++ (field_bits words 16 (mask_of changed) ++ (values ++ rest)) = rw some.5 (simp append_assoc) in
    rw (
      regrouped,
      put words 1 1 (field_bits words 16 (mask_of changed) ++ (values ++ rest)) code (omega arith),
      put words 16 (mask_of changed) (values ++ rest) code below,
      places_are_read law words code kind allowed from changed values rest rises some.4,
    ) (ap (λ (ys : List ℕ). Ok (ys, rest)) (sym some.3))
