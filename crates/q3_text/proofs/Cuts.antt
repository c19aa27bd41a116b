-- Texts that are cut at a byte: what is read was spelled so, and what is spelled so is read.
use Rattle.std.proofs.Common.{◌≡◌, ◌≢◌, ℕ, suc, ◌<◌, ◌+◌, Bool, true, false, ltb, eqb, List, [], ◌∷◌, ◌++◌, length, get_or, take, drop, Option, Some, None, inl, inr, refl, ap, subst, ◌∙◌, arith, one-add, add-one}
use Rattle.std.specs.Prelude.{not}
use Rattle.std.specs.List.{All, position_or_len}
use Rattle.std.proofs.Math.Seq.{take-append_seam}
use Rattle.std.proofs.lemmas.Bool.{cases_Bool, ltb-true, lt-ltb, eqb-true, eqb-false, eq-eqb, and_parts, not-true}
use Rattle.std.proofs.lemmas.Option.{same_Some}
use Rattle.std.proofs.lemmas.List.Sums.{split_at_first, passes_at_first, fails_before_first}
use Rattle.std.proofs.lemmas.List.Elements.{All-from_get_or}
use Rattle.std.proofs.lemmas.List.{length-append, length-take-le, get_or-take}
use Rattle.q3_text.specs.Cuts.{cut_at, lacks}
use Rattle.q3_text.specs.Laws.{CutsAreFirst}

abbrev is_byte : ℕ → ℕ → Bool
is_byte byte x = eqb x byte

abbrev some_parts : List ℕ × List ℕ → Option (List ℕ × List ℕ)
some_parts parts = Some parts

abbrev no_parts : Option (List ℕ × List ℕ)
no_parts = None

-- a text that was cut is what stood before and after the byte
cut-spelled : (byte : ℕ) (text : List ℕ) (parts : List ℕ × List ℕ) → cut_at byte text ≡ Some parts → text ≡ parts.0 ++ byte ∷ parts.1
unfolding cut_at
cut-spelled byte text parts e =
    let place = position_or_len (is_byte byte) text in
    elim (cases_Bool (ltb place (length text))) [
      | inl inside ↦
          let lt = ltb-true place (length text) inside in
          let is : get_or text place 0 ≡ byte = eqb-true _ _ (passes_at_first (is_byte byte) text 0 lt) in
          let whole : some_parts (take place text, drop (place + 1) text) ≡ some_parts parts = rw inside at e in
          let same = same_Some (take place text, drop (place + 1) text) parts whole in
          split_at_first (is_byte byte) text 0 lt ∙ rw (is, ← same) refl
      | inr outside ↦ let nothing : no_parts ≡ some_parts parts = rw outside at e in absurd cc
    ]

-- and what stood before it lacks the byte
cut-lacks : (byte : ℕ) (text : List ℕ) (parts : List ℕ × List ℕ) → cut_at byte text ≡ Some parts → All (λ x. x ≢ byte) parts.0
unfolding cut_at
cut-lacks byte text parts e =
    let place = position_or_len (is_byte byte) text in
    elim (cases_Bool (ltb place (length text))) [
      | inl inside ↦
          let lt = ltb-true place (length text) inside in
          let whole : some_parts (take place text, drop (place + 1) text) ≡ some_parts parts = rw inside at e in
          let same = same_Some (take place text, drop (place + 1) text) parts whole in
          let front : take place text ≡ parts.0 = ap (λ (p : List ℕ × List ℕ). p.0) same in
          let count = length-take-le place text (omega arith) in
          let each : All (λ x. x ≢ byte) (take place text) = All-from_get_or (λ x. x ≢ byte) (take place text) 0 (λ i lt.
          let below : i < place = omega arith in
          rw (get_or-take place text i 0 below) (eqb-false _ _ (fails_before_first (is_byte byte) text i 0 below))) in
          subst (λ (front : List ℕ). All (λ x. x ≢ byte) front) front each
      | inr outside ↦ let nothing : no_parts ≡ some_parts parts = rw outside at e in absurd cc
    ]

-- the place of a byte after a text without it
place-again : (byte : ℕ) (front rest : List ℕ) → lacks byte front ≡ true → position_or_len (is_byte byte) (front ++ byte ∷ rest) ≡ length front
place-again byte [] rest none = rw (eq-eqb byte byte refl) refl
place-again byte (x ∷ front) rest none =
    let parts = and_parts (not (eqb x byte)) (lacks byte front) none in
    let differs : eqb x byte ≡ false = not-true (eqb x byte) parts.0 in
    rw (differs, place-again byte front rest parts.1, one-add) refl

drop_past : (byte : ℕ) (front rest : List ℕ) → drop (suc (length front)) (front ++ byte ∷ rest) ≡ rest
drop_past byte [] rest = refl
drop_past byte (x ∷ front) rest = drop_past byte front rest

-- and a byte after a text without it is where that is cut
cut-again : (byte : ℕ) (front rest : List ℕ) → lacks byte front ≡ true → cut_at byte (front ++ byte ∷ rest) ≡ Some (front, rest)
unfolding cut_at
cut-again byte front rest none =
    let place = place-again byte front rest none in
    let inside : ltb (length front) (length (front ++ byte ∷ rest)) ≡ true = lt-ltb _ _ (let size = length-append front (byte ∷ rest) in omega arith) in
    let before : take (length front) (front ++ byte ∷ rest) ≡ front = take-append_seam front (byte ∷ rest) in
    let after : drop (length front + 1) (front ++ byte ∷ rest) ≡ rest = rw add-one (drop_past byte front rest) in
    rw (place, inside, before, after) refl

pub cuts-are-first : CutsAreFirst
cuts-are-first = record { parts = cut-spelled; before = cut-lacks; again = cut-again }
