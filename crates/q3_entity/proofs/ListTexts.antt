-- The text of a list goes on by the entry of its least number.
use Rattle.std.proofs.Common.{◌≡◌, inl, inr, ℕ, zero, suc, ◌+◌, ◌<◌, ◌≤◌, Bool, false, List, [], ◌∷◌, ◌++◌, length, take, Some, refl, sym, ap, subst, ◌∙◌, append_assoc, arith}
use Rattle.std.specs.List.{range_with_len, flat_map}
use Rattle.std.proofs.lemmas.Bool.{eq-eqb, cases_eq, cases_lt}
use Rattle.q3_bits.specs.Words.{field_bits}
use Rattle.q3_fields.specs.Kinds.{Layout, end_mark}
use Rattle.q3_fields.specs.Deltas.{changed_count}
use Rattle.q3_fields.specs.Laws.{LastChangedIsLeast}
use Rattle.q3_entity.specs.declared.state.EntityState.{EntityState}
use Rattle.q3_entity.specs.Entities.{RiseFrom, with_number}
use Rattle.q3_entity.specs.Baselines.{Baselines}
use Rattle.q3_entity.specs.Delta.{removal}
use Rattle.q3_entity.specs.Lists.{piece, entity_list_bits}
use Rattle.q3_entity.specs.Runs.{taken, from_number, ShareFront}
use Rattle.q3_entity.specs.Merging.{removals, end_bits, entry_bits, left_after}
use Rattle.q3_entity.proofs.DeltaTexts.{entity_delta-unchanged}
use Rattle.q3_entity.proofs.Gone.{removals-next, removals-stay, removals-none, from_number-next, from_number-stay, from_number-none, is_first}
use Rattle.q3_entity.proofs.Risen.{rise-lower, rise-after, with_number-first, with_number-after, with_number-below, from_number-rises, from_number-limit, is_taken}

-- the pieces of numbers, where they are the same, where there are none, and from the first on that has one
pub pieces-same : (f g : ℕ → List Bool) (a count : ℕ) → ((n : ℕ) → a ≤ n → f n ≡ g n) → flat_map f (range_with_len a count) ≡ flat_map g (range_with_len a count)
pieces-same f g a zero same = refl
pieces-same f g a (suc count) same =
    ap (λ t. t ++ flat_map f (range_with_len (a + 1) count)) (same a (omega arith))
    ∙ ap (λ t. g a ++ t) (pieces-same f g (a + 1) count (λ n above. same n (omega (arith, above))))

pub pieces-none : (f : ℕ → List Bool) (a count : ℕ) → ((n : ℕ) → f n ≡ []) → flat_map f (range_with_len a count) ≡ []
pieces-none f a zero none = refl
pieces-none f a (suc count) none = ap (λ t. t ++ flat_map f (range_with_len (a + 1) count)) (none a) ∙ pieces-none f (a + 1) count none

pub pieces-first : (f g : ℕ → List Bool) (m a count : ℕ) → a ≤ m → m < a + count → ((n : ℕ) → n < m → f n ≡ []) → ((n : ℕ) → n ≤ m → g n ≡ []) → ((n : ℕ) → m < n → f n ≡ g n)
    → flat_map f (range_with_len a count) ≡ f m ++ flat_map g (range_with_len a count)
pieces-first f g m a zero le lt below gone same = absurd (omega (arith, le, lt))
pieces-first f g m a (suc count) le lt below gone same =
    elim (cases_eq a m) [
      | inl here ↦
          ap (λ n. f n ++ flat_map f (range_with_len (a + 1) count)) here
          ∙ ap (λ t. f m ++ t) (pieces-same f g (a + 1) count (λ n above. same n (omega (arith, above, here))))
          ∙ ap (λ t. f m ++ (t ++ flat_map g (range_with_len (a + 1) count))) (sym (gone a (omega (arith, here))))
      | inr other ↦
          ap (λ t. t ++ flat_map f (range_with_len (a + 1) count)) (below a (omega (arith, le, other)))
          ∙ pieces-first f g m (a + 1) count (omega (arith, le, other)) (omega (arith, lt)) below gone same
          ∙ ap (λ t. f m ++ (t ++ flat_map g (range_with_len (a + 1) count))) (sym (gone a le))
    ]

-- ---- the text of a list

module _ (words : List (List Bool)) (table : Layout) (baselines : Baselines) where
  -- where nothing is left, the end mark is
  pub entity_list_bits-nothing : entity_list_bits words table baselines [] [] ≡ field_bits words table.number_bits (end_mark table)
  unfolding entity_list_bits
  entity_list_bits-nothing = ap (λ t. t ++ field_bits words table.number_bits (end_mark table)) (pieces-none (λ n. []) 0 (end_mark table) (λ n. refl))

  -- the piece of a number below which there is nothing, and then the text of what follows it
  pub entity_list_bits-next : (number : ℕ) (base now base' now' : List EntityState) → number < end_mark table
      → RiseFrom (end_mark table) number base → RiseFrom (end_mark table) number now
      → RiseFrom (end_mark table) (number + 1) base' → RiseFrom (end_mark table) (number + 1) now'
      → ((n : ℕ) → number < n → with_number n base ≡ with_number n base') → ((n : ℕ) → number < n → with_number n now ≡ with_number n now')
      → entity_list_bits words table baselines base now ≡ piece words table baselines number (with_number number base) (with_number number now) ++ entity_list_bits words table baselines base' now'
  unfolding entity_list_bits
  entity_list_bits-next number base now base' now' within rise rise-now rise' rise-now' same same-now =
      let end = end_mark table in
      let f : ℕ → List Bool = λ n. piece words table baselines n (with_number n base) (with_number n now) in
      let g : ℕ → List Bool = λ n. piece words table baselines n (with_number n base') (with_number n now') in
      let first = pieces-first f g number 0 end (omega arith) (omega (arith, within))
      (λ n below. rw (with_number-below end number n base rise below, with_number-below end number n now rise-now below) refl)
      (λ n le. rw (with_number-below end (number + 1) n base' rise' (omega (arith, le)), with_number-below end (number + 1) n now' rise-now' (omega (arith, le))) refl)
      (λ n above. rw (same n above, same-now n above) refl) in
      ap (λ t. t ++ field_bits words table.number_bits end) first
      ∙ append_assoc (f number) (flat_map g (range_with_len 0 end)) (field_bits words table.number_bits end)

  -- what is gone below a number is in front
  pub entity_list_bits-gone : (number least : ℕ) (base now : List EntityState) → RiseFrom (end_mark table) least base → RiseFrom (end_mark table) number now
      → entity_list_bits words table baselines base now ≡ removals words table number base ++ entity_list_bits words table baselines (from_number number base) now
  entity_list_bits-gone number least [] now rise rise-now = rw (removals-none words table number, from_number-none number) refl
  entity_list_bits-gone number least (entity ∷ others) now rise rise-now =
      elim (cases_lt entity.number number) [
        | inl below ↦
            let end = end_mark table in
            let n = entity.number in
            let next = entity_list_bits-next n (entity ∷ others) now others now rise.1 (omega arith, rise.1, rise.2) (rise-lower end number n now (omega (arith, below)) rise-now) rise.2
            (rise-lower end number (n + 1) now (omega (arith, below)) rise-now) (λ m above. with_number-after m entity others (omega (arith, above))) (λ m above. refl) in
            rw (removals-next words table number entity others below, from_number-next number entity others below)
            (next
            ∙ ap (λ o. piece words table baselines n o (with_number n now) ++ entity_list_bits words table baselines others now) (with_number-first entity others)
            ∙ ap (λ o. piece words table baselines n (Some entity) o ++ entity_list_bits words table baselines others now) (with_number-below end number n now rise-now below)
            ∙ ap (λ t. removal words table n ++ t) (entity_list_bits-gone number (n + 1) others now rise.2 rise-now)
            ∙ sym (append_assoc (removal words table n) (removals words table number others) (entity_list_bits words table baselines (from_number number others) now)))
        | inr above ↦ rw (removals-stay words table number entity others above, from_number-stay number entity others above) refl
      ]

  -- an entity that there is now comes after what is gone below it
  pub entity_list_bits-entry : (least : ℕ) (base : List EntityState) (to : EntityState) (now : List EntityState) → RiseFrom (end_mark table) least base → RiseFrom (end_mark table) 0 (to ∷ now)
      → entity_list_bits words table baselines base (to ∷ now) ≡ entry_bits words table baselines base to ++ entity_list_bits words table baselines (left_after to base) now
  entity_list_bits-entry least base to now rise rise-now =
      let end = end_mark table in
      let n = to.number in
      let left = from_number n base in
      let risen = from_number-rises end least n base rise in
      let h = is_taken end n left risen in
      let next = entity_list_bits-next n left (to ∷ now) (taken n left).1 now rise-now.1 risen (omega arith, rise-now.1, rise-now.2) h.rise rise-now.2
      h.after (λ m above. with_number-after m to now (omega (arith, above))) in
      entity_list_bits-gone n least base (to ∷ now) rise (omega arith, rise-now.1, rise-now.2)
      ∙ ap (λ t. removals words table n base ++ t)
      (next
      ∙ ap (λ o. piece words table baselines n o (with_number n (to ∷ now)) ++ entity_list_bits words table baselines (taken n left).1 now) (sym h.found)
      ∙ ap (λ o. piece words table baselines n (taken n left).0 o ++ entity_list_bits words table baselines (taken n left).1 now) (with_number-first to now))
      ∙ sym (append_assoc (removals words table n base) (piece words table baselines n (taken n left).0 (Some to)) (entity_list_bits words table baselines (taken n left).1 now))

  -- where nothing is there now, all that is left is gone
  pub entity_list_bits-ends : (base : List EntityState) → RiseFrom (end_mark table) 0 base
      → entity_list_bits words table baselines base [] ≡ end_bits words table base
  entity_list_bits-ends base rise =
      entity_list_bits-gone (end_mark table) 0 base [] rise tt
      ∙ ap (λ left. removals words table (end_mark table) base ++ entity_list_bits words table baselines left []) (from_number-limit (end_mark table) 0 base rise)
      ∙ ap (λ t. removals words table (end_mark table) base ++ t) entity_list_bits-nothing

  -- one entity more of those that there are now, written by the same words: the text goes on by its entry, and what is left
  -- rises as before
  pub record IsTurn (same : List (List Bool)) (base : List EntityState) (to : EntityState) (now : List EntityState) : Type 0 where
    pub text : entity_list_bits words table baselines base (to ∷ now) ≡ entry_bits same table baselines base to ++ entity_list_bits words table baselines (left_after to base) now
    pub rise : RiseFrom (end_mark table) 0 (left_after to base)
    pub rise-now : RiseFrom (end_mark table) 0 now

  pub is_turn : (same : List (List Bool)) (base : List EntityState) (to : EntityState) (now : List EntityState) → same ≡ words
      → RiseFrom (end_mark table) 0 base → RiseFrom (end_mark table) 0 (to ∷ now) → IsTurn same base to now
  is_turn same base to now is rise rise-now =
      let end = end_mark table in
      let left = from_number to.number base in
      record {
        text = entity_list_bits-entry 0 base to now rise rise-now ∙ ap (λ ws. entry_bits ws table baselines base to ++ entity_list_bits words table baselines (left_after to base) now) (sym is);
        rise = rise-lower end (to.number + 1) 0 (taken to.number left).1 (omega arith) (is_taken end to.number left (from_number-rises end 0 to.number base rise)).rise;
        rise-now = rise-lower end (to.number + 1) 0 now (omega arith) rise-now.2;
      }

  -- of entities, the same in both, with which both begin, nothing is said
  entity_list_bits-same : LastChangedIsLeast → (front base now : List EntityState) → RiseFrom (end_mark table) 0 (front ++ base) → RiseFrom (end_mark table) 0 (front ++ now)
      → entity_list_bits words table baselines (front ++ base) (front ++ now) ≡ entity_list_bits words table baselines base now
  entity_list_bits-same law [] base now rise rise-now = refl
  entity_list_bits-same law (entity ∷ front) base now rise rise-now =
      let end = end_mark table in
      let n = entity.number in
      let fields = take (length table.kinds) entity.words in
      let none : changed_count table.kinds entity.words entity.words ≡ 0 = omega (arith, (law fields fields refl).1 0 refl) in
      let first = is_first words table baselines (entity ∷ (front ++ base)) entity entity (front ++ base) (rw (eq-eqb n n refl) refl) in
      entity_list_bits-entry 0 (entity ∷ (front ++ base)) entity (front ++ now) rise rise-now
      ∙ ap (λ t. t ++ entity_list_bits words table baselines (left_after entity (entity ∷ (front ++ base))) (front ++ now)) (first.text ∙ entity_delta-unchanged words table entity entity false none)
      ∙ ap (λ left. entity_list_bits words table baselines left (front ++ now)) first.left
      ∙ entity_list_bits-same law front base now (rise-lower end (n + 1) 0 (front ++ base) (omega arith) rise.2) (rise-lower end (n + 1) 0 (front ++ now) (omega arith) rise-now.2)

  -- they are passed over
  pub record IsSkipped (base now base' now' : List EntityState) : Type 0 where
    pub text : entity_list_bits words table baselines base now ≡ entity_list_bits words table baselines base' now'
    pub rise : RiseFrom (end_mark table) 0 base'
    pub rise-now : RiseFrom (end_mark table) 0 now'

  pub is_skipped : LastChangedIsLeast → (base now base' now' : List EntityState) → ShareFront base now base' now'
      → RiseFrom (end_mark table) 0 base → RiseFrom (end_mark table) 0 now → IsSkipped base now base' now'
  is_skipped law base now base' now' share rise rise-now =
      let risen = subst (RiseFrom (end_mark table) 0) share.base-is rise in
      let risen-now = subst (RiseFrom (end_mark table) 0) share.now-is rise-now in
      record {
        text = rw (share.base-is, share.now-is) (entity_list_bits-same law share.front base' now' risen risen-now);
        rise = rise-after (end_mark table) share.front base' risen;
        rise-now = rise-after (end_mark table) share.front now' risen-now;
      }
