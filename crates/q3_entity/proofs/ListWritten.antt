-- What is written of a list is a spelling of the entities that there are now.
use Rattle.std.proofs.Common.{◌≡◌, ◌≢◌, inl, inr, ℕ, zero, suc, ◌+◌, ◌==◌, ◌<◌, ◌≤◌, Bool, true, false, cond, eqb, List, [], ◌∷◌, ◌++◌, map, find, Option, Some, None, IfSome, unwrap_or, refl, sym, ap, subst, ◌∙◌, append_assoc, arith}
use Rattle.std.specs.List.{All, range_with_len, flat_map}
use Rattle.std.specs.Option.{is_some, option_or, option_map}
use Rattle.std.proofs.lemmas.Bool.{cases_Bool, cases_eq, cases_lt, eq-eqb, ne_eqb, eqb-true, eqb-false}
use Rattle.std.proofs.lemmas.List.{length-map}
use Rattle.std.proofs.lemmas.List.Elements.{All-head, All-tail}
use Rattle.std.proofs.lemmas.List.Folds.{find-append}
use Rattle.q3_bits.specs.Words.{IsCode, field_bits}
use Rattle.q3_fields.specs.Kinds.{Layout, IsTable, end_mark}
use Rattle.q3_fields.specs.States.{AreWords, normal_words}
use Rattle.q3_fields.specs.Deltas.{changed_count}
use Rattle.q3_fields.specs.Laws.{WordsAreSpelled, UnchangedIsNormal}
use Rattle.q3_entity.specs.declared.state.EntityState.{EntityState}
use Rattle.q3_entity.specs.Entities.{zero_entity, normal_entity, IsNormal, RiseFrom, AreStates, AreNormal, with_number}
use Rattle.q3_entity.specs.Baselines.{Baselines, AreBaselines, set_at, baseline_of}
use Rattle.q3_entity.specs.Delta.{removal, entity_delta}
use Rattle.q3_entity.specs.Lists.{piece, entity_list_bits, words_from}
use Rattle.q3_entity.specs.Spelling.{Entered, SpellsEntry, SpellsEntries, EntriesRise, RemoveFrom, state_after}
use Rattle.q3_entity.specs.Laws.{ZeroIsNormal, ListIsSpelled}
use Rattle.q3_entity.proofs.DeltaTexts.{entity_delta-unchanged}
use Rattle.q3_entity.proofs.WrittenSpelled.{present, changed_is_spelled, forced_is_spelled}

-- ---- what is found under a number

-- has it
pub found-number : (number : ℕ) (entities : List EntityState) (entity : EntityState) → with_number number entities ≡ Some entity → entity.number ≡ number
found-number number [] entity e = absurd cc
found-number number (x ∷ others) entity e =
    elim (cases_Bool (eqb x.number number)) [
      | inl here ↦
          let first : Some x ≡ Some entity = rw here at e in
          let same : x ≡ entity = cc in
          ap (λ (y : EntityState). y.number) (sym same) ∙ eqb-true x.number number here
      | inr other ↦ found-number number others entity (rw other at e)
    ]

-- and what all have
pub found-all : (P : EntityState → Type 0) (number : ℕ) (entities : List EntityState) → All P entities → IfSome (with_number number entities) P
found-all P number [] all = tt
found-all P number (x ∷ others) all =
    elim (cases_Bool (eqb x.number number)) [
      | inl here ↦ rw here (All-head P x others all)
      | inr other ↦ rw other (found-all P number others (All-tail P x others all))
    ]

-- among those in normal form it is in normal form
pub found-normal : (table : Layout) (number : ℕ) (entities : List EntityState) → with_number number (map (normal_entity table) entities) ≡ option_map (normal_entity table) (with_number number entities)
found-normal table number [] = refl
found-normal table number (x ∷ others) =
    elim (cases_Bool (eqb x.number number)) [
      | inl here ↦ rw here refl
      | inr other ↦ rw other (found-normal table number others)
    ]

-- from the limit on there is none
pub found-limit : (limit least number : ℕ) (entities : List EntityState) → RiseFrom limit least entities → limit ≤ number → with_number number entities ≡ None
found-limit limit least number [] rise past = refl
found-limit limit least number (x ∷ others) rise past =
    rw (ne_eqb x.number number (λ e. omega (arith, e, rise.1, past))) (found-limit limit (x.number + 1) number others rise.2 past)

-- numbers rise also in normal form
pub normal-rises : (table : Layout) (limit least : ℕ) (entities : List EntityState) → RiseFrom limit least entities → RiseFrom limit least (map (normal_entity table) entities)
normal-rises table limit least [] rise = tt
normal-rises table limit least (x ∷ others) rise = (rise.0, rise.1, normal-rises table limit (x.number + 1) others rise.2)

-- ---- the entries of numbers

-- the entry of a number, or none
abbrev entries_at : Layout → ℕ → Option EntityState → Option EntityState → List Entered
entries_at table number None None = []
entries_at table number (Some from) None = record { number = number; words = None } ∷ []
entries_at table number None (Some to) = present table number to ∷ []
entries_at table number (Some from) (Some to) = cond (eqb (changed_count table.kinds from.words to.words) 0) [] (present table number to ∷ [])

-- an entry by its number
abbrev entered_at : ℕ → List Entered → Option Entered
entered_at number entries = find (λ entry. entry.number == number) entries

-- of another number there is none
entered-other : (table : Layout) (n m : ℕ) (o t : Option EntityState) → n ≢ m → entered_at m (entries_at table n o t) ≡ None
entered-other table n m None None other = refl
entered-other table n m (Some from) None other = rw (ne_eqb n m other) refl
entered-other table n m None (Some to) other = rw (ne_eqb n m other) refl
entered-other table n m (Some from) (Some to) other =
    elim (cases_Bool (eqb (changed_count table.kinds from.words to.words) 0)) [
      | inl none ↦ rw none refl
      | inr some ↦ rw (some, ne_eqb n m other) refl
    ]

module _ (table : Layout) (base now : List EntityState) where
  abbrev entries_of : ℕ → List Entered
  entries_of n = entries_at table n (with_number n base) (with_number n now)

  -- those of so many numbers, from one on
  abbrev entries_from : ℕ → ℕ → List Entered
  entries_from a count = flat_map entries_of (range_with_len a count)

  entered-before : (m a count : ℕ) → m < a → entered_at m (entries_from a count) ≡ None
  entered-before m a zero before = refl
  entered-before m a (suc count) before =
      find-append (λ (entry : Entered). entry.number == m) (entries_of a) (entries_from (a + 1) count)
      ∙ ap (λ o. option_or o (entered_at m (entries_from (a + 1) count))) (entered-other table a m (with_number a base) (with_number a now) (λ e. omega (arith, e, before)))
      ∙ entered-before m (a + 1) count (omega (arith, before))

  entered-past : (m a count : ℕ) → a + count ≤ m → entered_at m (entries_from a count) ≡ None
  entered-past m a zero past = refl
  entered-past m a (suc count) past =
      find-append (λ (entry : Entered). entry.number == m) (entries_of a) (entries_from (a + 1) count)
      ∙ ap (λ o. option_or o (entered_at m (entries_from (a + 1) count))) (entered-other table a m (with_number a base) (with_number a now) (λ e. omega (arith, e, past)))
      ∙ entered-past m (a + 1) count (omega (arith, past))

  or-none : (o : Option Entered) → option_or o None ≡ o
  or-none None = refl
  or-none (Some entry) = refl

  entered-here : (m a count : ℕ) → a ≤ m → m < a + count → entered_at m (entries_from a count) ≡ entered_at m (entries_of m)
  entered-here m a zero le lt = absurd (omega (arith, le, lt))
  entered-here m a (suc count) le lt =
      find-append (λ (entry : Entered). entry.number == m) (entries_of a) (entries_from (a + 1) count)
      ∙ elim (cases_eq a m) [
        | inl here ↦
            ap (λ o. option_or (entered_at m (entries_of a)) o) (entered-before m (a + 1) count (omega (arith, here)))
            ∙ or-none (entered_at m (entries_of a))
            ∙ ap (λ n. entered_at m (entries_of n)) here
        | inr other ↦
            ap (λ o. option_or o (entered_at m (entries_from (a + 1) count))) (entered-other table a m (with_number a base) (with_number a now) other)
            ∙ entered-here m (a + 1) count (omega (arith, le, other)) (omega (arith, lt))
      ]

-- the numbers of entries rise
pub rise-weaker : (limit most least : ℕ) (entries : List Entered) → least ≤ most → EntriesRise limit most entries → EntriesRise limit least entries
rise-weaker limit most least [] le rise = tt
rise-weaker limit most least (entry ∷ entries) le rise = (omega (arith, le, rise.0), rise.1, rise.2)

rise-at : (table : Layout) (limit n : ℕ) (o t : Option EntityState) (entries : List Entered) → n < limit → EntriesRise limit (n + 1) entries → EntriesRise limit n (entries_at table n o t ++ entries)
rise-at table limit n None None entries within rise = rise-weaker limit (n + 1) n entries (omega arith) rise
rise-at table limit n (Some from) None entries within rise = (omega arith, within, rise)
rise-at table limit n None (Some to) entries within rise = (omega arith, within, rise)
rise-at table limit n (Some from) (Some to) entries within rise =
    elim (cases_Bool (eqb (changed_count table.kinds from.words to.words) 0)) [
      | inl none ↦ rw none (rise-weaker limit (n + 1) n entries (omega arith) rise)
      | inr some ↦ rw some (omega arith, within, rise)
    ]

entries-rise : (table : Layout) (base now : List EntityState) (limit a count : ℕ) → a + count ≤ limit → EntriesRise limit a (entries_from table base now a count)
entries-rise table base now limit a zero within = tt
entries-rise table base now limit a (suc count) within =
    rise-at table limit a (with_number a base) (with_number a now) (entries_from table base now (a + 1) count) (omega (arith, within))
    (entries-rise table base now limit (a + 1) count (omega (arith, within)))

-- only what the base has is removed
removes-at : (table : Layout) (base : List EntityState) (n : ℕ) (o t : Option EntityState) (entries : List Entered) → with_number n base ≡ o → RemoveFrom base entries → RemoveFrom base (entries_at table n o t ++ entries)
removes-at table base n None None entries is removes = removes
removes-at table base n (Some from) None entries is removes = (λ none. ap (λ (o : Option EntityState). is_some o) is, removes)
removes-at table base n None (Some to) entries is removes = (λ none. absurd cc, removes)
removes-at table base n (Some from) (Some to) entries is removes =
    elim (cases_Bool (eqb (changed_count table.kinds from.words to.words) 0)) [
      | inl none ↦ rw none removes
      | inr some ↦ rw some (λ none. absurd cc, removes)
    ]

entries-remove : (table : Layout) (base now : List EntityState) (a count : ℕ) → RemoveFrom base (entries_from table base now a count)
entries-remove table base now a zero = tt
entries-remove table base now a (suc count) =
    removes-at table base a (with_number a base) (with_number a now) (entries_from table base now (a + 1) count) refl (entries-remove table base now (a + 1) count)

-- ---- the states after the entries

-- what is known of a state of the base, and of one that there is now
abbrev KnownFrom : Layout → ℕ → EntityState → Type 0
KnownFrom table number from = (from.number ≡ number) × AreWords 64 from.words × IsNormal table from

abbrev KnownTo : ℕ → EntityState → Type 0
KnownTo number to = (to.number ≡ number) × AreWords 64 to.words

-- a state by its parts
abbrev state : ℕ → List ℕ → EntityState
state number words = record { number = number; words = words }

normal-at : (table : Layout) (number : ℕ) (to : EntityState) → to.number ≡ number → normal_entity table to ≡ state number (normal_words table.kinds to.words)
normal-at table number to is = ap (λ (n : ℕ). state n (normal_words table.kinds to.words)) is

state-at : UnchangedIsNormal → (table : Layout) (n : ℕ) (o t : Option EntityState) → IsTable table → IfSome o (KnownFrom table n) → IfSome t (KnownTo n)
    → option_map (normal_entity table) t ≡ state_after o n (entered_at n (entries_at table n o t))
state-at law table n None None is_table from to = refl
state-at law table n (Some x) None is_table from to = rw (eq-eqb n n refl) refl
state-at law table n None (Some y) is_table from to = rw (eq-eqb n n refl) (ap (λ (e : EntityState). Some e) (normal-at table n y to.0))
state-at law table n (Some x) (Some y) is_table from to =
    elim (cases_Bool (eqb (changed_count table.kinds x.words y.words) 0)) [
      | inl none ↦
          let same = law table.kinds x.words y.words is_table.kinds from.1 (ap (λ (e : EntityState). e.words) from.2) to.1 (eqb-true (changed_count table.kinds x.words y.words) 0 none) in
          rw none (ap (λ (e : EntityState). Some e) (normal-at table n y to.0 ∙ ap (λ (words : List ℕ). state n words) same ∙ ap (λ (m : ℕ). state m x.words) (sym from.0)))
      | inr some ↦ rw (some, eq-eqb n n refl) (ap (λ (e : EntityState). Some e) (normal-at table n y to.0))
    ]

-- ---- the texts of the entries

-- a baseline's words
pub baseline-known : ZeroIsNormal → (table : Layout) (baselines : Baselines) (n : ℕ) → IsTable table → AreBaselines table baselines → AreWords 64 (baseline_of baselines n).words × IsNormal table (baseline_of baselines n)
baseline-known law table baselines n is_table are = known (set_at baselines n) (are.states n) (are.normal n)
  where
    known : (o : Option EntityState) → IfSome o (λ state. AreWords 64 state.words) → IfSome o (IsNormal table) → AreWords 64 (unwrap_or o (zero_entity n)).words × IsNormal table (unwrap_or o (zero_entity n))
    known None words normal = law table n is_table
    known (Some baseline) words normal = (words, normal)

-- an entry of a number in front of others
module _ (law : WordsAreSpelled) (same : UnchangedIsNormal) (zeros : ZeroIsNormal) (words : List (List Bool)) (table : Layout) (baselines : Baselines) (base : List EntityState) (code : IsCode words) (is_table : IsTable table) (are : AreBaselines table baselines) where
  spells-at : (n : ℕ) (o t : Option EntityState) (entries : List Entered) (text : List Bool) → with_number n base ≡ o → IfSome o (KnownFrom table n) → IfSome t (KnownTo n)
      → SpellsEntries words table baselines base entries text → SpellsEntries words table baselines base (entries_at table n o t ++ entries) (piece words table baselines n o t ++ text)
  spells-at n None None entries text is from to spells = spells
  spells-at n (Some x) None entries text is from to spells = (removal words table n, text, refl, inl (refl, refl), spells)
  spells-at n None (Some y) entries text is from to spells =
      let baseline = baseline_of baselines n in
      let known = baseline-known zeros table baselines n is_table are in
      let spelled = forced_is_spelled law same words table n baseline y code is_table known.0 known.1 to.1 to.0 in (
        entity_delta words table baseline y true,
        text,
        refl,
        subst (λ (o : Option EntityState). SpellsEntry words table (words_from baselines n o) (present table n y) (entity_delta words table baseline y true)) (sym is) spelled,
        spells,
      )
  spells-at n (Some x) (Some y) entries text is from to spells =
      elim (cases_Bool (eqb (changed_count table.kinds x.words y.words) 0)) [
        | inl none ↦ rw (none, entity_delta-unchanged words table x y false (eqb-true (changed_count table.kinds x.words y.words) 0 none)) spells
        | inr some ↦
            let spelled = changed_is_spelled law words table n x y false code is_table from.1 from.2 to.1 to.0 (eqb-false (changed_count table.kinds x.words y.words) 0 some) in
            rw some (
              entity_delta words table x y false,
              text,
              refl,
              subst (λ (o : Option EntityState). SpellsEntry words table (words_from baselines n o) (present table n y) (entity_delta words table x y false)) (sym is) spelled,
              spells,
            )
      ]

  -- those of so many numbers
  spells-from : (now : List EntityState) (end : List Bool) (a count : ℕ) → ((n : ℕ) → IfSome (with_number n base) (KnownFrom table n)) → ((n : ℕ) → IfSome (with_number n now) (KnownTo n))
      → SpellsEntries words table baselines base [] end
      → SpellsEntries words table baselines base (entries_from table base now a count) (flat_map (λ n. piece words table baselines n (with_number n base) (with_number n now)) (range_with_len a count) ++ end)
  spells-from now end a zero from to ends = ends
  spells-from now end a (suc count) from to ends =
      let others = flat_map (λ n. piece words table baselines n (with_number n base) (with_number n now)) (range_with_len (a + 1) count) in
      let first = piece words table baselines a (with_number a base) (with_number a now) in
      subst (SpellsEntries words table baselines base (entries_from table base now a (suc count))) (sym (append_assoc first others end))
      (spells-at a (with_number a base) (with_number a now) (entries_from table base now (a + 1) count) (others ++ end) refl (from a) (to a) (spells-from now end (a + 1) count from to ends))

-- ---- the whole list

-- what is known of states that are found
known-from : (table : Layout) (base : List EntityState) (n : ℕ) → AreStates base → AreNormal table base → IfSome (with_number n base) (KnownFrom table n)
known-from table base n states normal =
    known (with_number n base) refl (found-all (λ entity. AreWords 64 entity.words) n base states) (found-all (IsNormal table) n base normal)
  where
    known : (o : Option EntityState) → with_number n base ≡ o → IfSome o (λ entity. AreWords 64 entity.words) → IfSome o (IsNormal table) → IfSome o (KnownFrom table n)
    known None is words normal = tt
    known (Some from) is words normal = (found-number n base from is, words, normal)

known-to : (now : List EntityState) (n : ℕ) → AreStates now → IfSome (with_number n now) (KnownTo n)
known-to now n states = known (with_number n now) refl (found-all (λ entity. AreWords 64 entity.words) n now states)
  where
    known : (o : Option EntityState) → with_number n now ≡ o → IfSome o (λ entity. AreWords 64 entity.words) → IfSome o (KnownTo n)
    known None is words = tt
    known (Some to) is words = (found-number n now to is, words)

pub list_is_spelled : ZeroIsNormal → WordsAreSpelled → UnchangedIsNormal → ListIsSpelled
unfolding entity_list_bits
list_is_spelled zeros law same words table baselines base now code is_table are is_base states normal is_now states-now =
    let end = end_mark table in
    let from : (n : ℕ) → IfSome (with_number n base) (KnownFrom table n) = λ n. known-from table base n states normal in
    let to : (n : ℕ) → IfSome (with_number n now) (KnownTo n) = λ n. known-to now n states-now in
    record {
      entries = entries_from table base now 0 end;
      rise = entries-rise table base now end 0 end (omega arith);
      removes = entries-remove table base now 0 end;
      spells = spells-from law same zeros words table baselines base code is_table are now (field_bits words table.number_bits end) 0 end from to refl;
      list = record { rise = normal-rises table end 0 now is_now.rise; few = omega (arith, length-map now (normal_entity table), is_now.few) };
      states = λ n.
          found-normal table n now
          ∙ elim (cases_lt n end) [
            | inl below ↦
                state-at same table n (with_number n base) (with_number n now) is_table (from n) (to n)
                ∙ ap (λ (o : Option Entered). state_after (with_number n base) n o) (sym (entered-here table base now n 0 end (omega arith) (omega (arith, below))))
            | inr past ↦
                rw (found-limit end 0 n now is_now.rise past, found-limit end 0 n base is_base.rise past, entered-past table base now n 0 end (omega (arith, past))) refl
          ];
    }
