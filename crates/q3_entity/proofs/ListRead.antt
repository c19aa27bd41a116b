-- A list that is spelled so is read.
use Rattle.std.proofs.Common.{◌≡◌, ◌≢◌, ℕ, zero, suc, ◌+◌, ◌≤◌, Bool, true, List, [], ◌∷◌, ◌++◌, length, Option, None, Ok, refl, sym, ap, subst, ◌∙◌, append_assoc, arith, inl, inr}
use Rattle.std.proofs.lemmas.Bool.{cases_eq, eq-eqb, ne_eqb}
use Rattle.std.proofs.lemmas.List.{append-nil}
use Rattle.std.specs.Option.{is_some}
use Rattle.q3_bits.specs.Words.{IsCode, field_bits}
use Rattle.q3_bits.specs.Laws.{PutIsRead}
use Rattle.q3_fields.specs.Kinds.{Layout, IsTable, end_mark}
use Rattle.q3_fields.specs.Laws.{WordsSpelledAreRead}
use Rattle.q3_entity.specs.declared.state.EntityState.{EntityState}
use Rattle.q3_entity.specs.Entities.{RiseFrom, AreStates, most_entities, with_number}
use Rattle.q3_entity.specs.Baselines.{Baselines, AreBaselines}
use Rattle.q3_entity.specs.Lists.{words_from, numbers_at, entity_list_at}
use Rattle.q3_entity.specs.Laws.{ZeroIsNormal, ListSpelledIsRead}
use Rattle.q3_entity.specs.Spelling.{Entered, EntriesRise, RemoveFrom, state_after, words_there}
use Rattle.q3_entity.proofs.Results.{number_is_read}
use Rattle.q3_entity.proofs.EntrySpelled.{SpellsMarks, marks_are_read}
use Rattle.q3_entity.proofs.EntriesSpelled.{first_number, first-least, SpellsAfter, after_of_entries}
use Rattle.q3_entity.proofs.OneNumber.{with_first, cut, entry_of, entry_of-below, entry_of-first, entry_of-others, state_there, pushed, pushed-first, stays-is, entered-is}
use Rattle.q3_entity.proofs.ListSpelled.{from_words}

-- the entities that are still to come at a number
record ToCome (table : Layout) (base : List EntityState) (number : ℕ) (entities added : List EntityState) (entries : List Entered) : Type 0 where
  rise : EntriesRise (end_mark table) number entries
  removes : RemoveFrom base entries
  risen : RiseFrom (end_mark table) number added
  few : length (entities ++ added) ≤ most_entities
  states : (n : ℕ) → number ≤ n → with_number n added ≡ state_after (with_number n base) n (entry_of n entries)

-- what is to come after a number
record CutOff (table : Layout) (base : List EntityState) (number : ℕ) (entities added : List EntityState) (entries : List Entered) (o : Option EntityState) : Type 0 where
  others : List EntityState
  come : ToCome table base (number + 1) (pushed entities o) others entries
  few : length (entities ++ with_first o others) ≤ most_entities
  whole : pushed entities o ++ others ≡ entities ++ added

cut_off : (table : Layout) (base : List EntityState) (number : ℕ) (entities added : List EntityState) (entries : List Entered) (o : Option EntityState) → with_number number added ≡ o
    → RiseFrom (end_mark table) number added → length (entities ++ added) ≤ most_entities → EntriesRise (end_mark table) (number + 1) entries → RemoveFrom base entries
    → ((n : ℕ) → number + 1 ≤ n → with_number n added ≡ state_after (with_number n base) n (entry_of n entries)) → CutOff table base number entities added entries o
cut_off table base number entities added entries o is risen few rise removes states =
    let c = cut (end_mark table) number added risen in
    let first : with_first o c.others ≡ added = ap (λ (o : Option EntityState). with_first o c.others) (sym is) ∙ sym c.whole in
    let whole : pushed entities o ++ c.others ≡ entities ++ added = pushed-first entities o c.others ∙ ap (λ (xs : List EntityState). entities ++ xs) first in
    record {
      others = c.others;
      come = record {
        rise = rise;
        removes = removes;
        risen = c.rise;
        few = subst (λ (xs : List EntityState). length xs ≤ most_entities) (sym whole) few;
        states = λ n more. c.same n more ∙ states n more;
      };
      few = subst (λ (xs : List EntityState). length (entities ++ xs) ≤ most_entities) (sym first) few;
      whole = whole;
    }

-- the entities after a number are read
abbrev AreRead : List (List Bool) → Layout → Baselines → List EntityState → ℕ → ℕ → ℕ → List Entered → List Bool → List Bool → Type 0
AreRead words table baselines base left number next entries bits rest =
    (entities added : List EntityState) → ToCome table base number entities added entries → numbers_at words table baselines base left number next entities bits ≡ Ok (entities ++ added, rest)

-- where the number has no entry, its entity stays
read_over : (words : List (List Bool)) (table : Layout) (baselines : Baselines) (base : List EntityState) (left number next : ℕ) (entries : List Entered) (bits rest : List Bool)
    → number ≢ next → entry_of number entries ≡ None → EntriesRise (end_mark table) (number + 1) entries
    → AreRead words table baselines base left (number + 1) next entries bits rest → AreRead words table baselines base (suc left) number next entries bits rest
unfolding numbers_at
read_over words table baselines base left number next entries bits rest other none rise others entities added come =
    let from = with_number number base in
    let is : with_number number added ≡ from = come.states number (omega arith) ∙ ap (λ (e : Option Entered). state_after from number e) none in
    let off = cut_off table base number entities added entries from is come.risen come.few rise come.removes (λ n more. come.states n (omega arith)) in
    rw (ne_eqb number next other, stays-is entities from off.others off.few) (others (pushed entities from) off.others off.come ∙ ap (λ (xs : List EntityState). Ok (xs, rest)) off.whole)

-- an entry is read
read_entry : PutIsRead → WordsSpelledAreRead → ZeroIsNormal → (words : List (List Bool)) (table : Layout) (baselines : Baselines) (base : List EntityState) → IsCode words → IsTable table
    → AreBaselines table baselines → AreStates base → (left number next : ℕ) (entry : Entered) (entries : List Entered) (text own after rest : List Bool)
    → entry.number ≡ number → number + 1 ≤ next → next ≤ end_mark table → text ≡ own ++ (field_bits words table.number_bits next ++ after)
    → SpellsMarks words table (words_from baselines entry.number (with_number entry.number base)) entry.words own
    → AreRead words table baselines base left (number + 1) next entries (after ++ rest) rest → AreRead words table baselines base (suc left) number number (entry ∷ entries) (text ++ rest) rest
unfolding numbers_at
read_entry put law law' words table baselines base code is_table are states left number next entry entries text own after rest same low high whole spelled others entities added come =
    let from = with_number number base in
    let changed = words_from baselines number from in
    let field = field_bits words table.number_bits next in
    let spells = subst (λ (n : ℕ). SpellsMarks words table (words_from baselines n (with_number n base)) entry.words own) same spelled in
    let took = marks_are_read put law words table changed entry.words own (field ++ (after ++ rest)) code is_table (from_words table baselines base number law' is_table are states).are spells in
    let o = state_there number (words_there took.kind took.to) in
    let here : with_number number added ≡ o =
    come.states number (omega arith) ∙ ap (λ (e : Option Entered). state_after from number e) (entry_of-first entry entries number same) ∙ ap (state_there number) (sym took.is) in
    let removes = come.removes in
    let held : (words_there took.kind took.to ≡ None) → is_some from ≡ true = λ gone. subst (λ (n : ℕ). is_some (with_number n base) ≡ true) same (removes.0 (sym took.is ∙ gone)) in
    let rise = come.rise in
    let risen : EntriesRise (end_mark table) (number + 1) entries = subst (λ (n : ℕ). EntriesRise (end_mark table) (n + 1) entries) same rise.2 in
    let off = cut_off table base number entities added entries o here come.risen come.few risen removes.1
    (λ n more. come.states n (omega arith) ∙ ap (λ (e : Option Entered). state_after (with_number n base) n e) (entry_of-others entry entries n (λ is. omega arith))) in
    let regrouped : text ++ rest ≡ own ++ (field ++ (after ++ rest)) = rw whole (simp append_assoc) in
    rw (
      eq-eqb number number refl,
      regrouped,
      took.reads,
      entered-is entities (is_some from) number took.kind took.to off.others off.few held,
      number_is_read put words table (number + 1) next (after ++ rest) code low high,
    ) (others (pushed entities o) off.others off.come ∙ ap (λ (xs : List EntityState). Ok (xs, rest)) off.whole)

-- the entities from a number on are read
numbers_are_read : PutIsRead → WordsSpelledAreRead → ZeroIsNormal → (words : List (List Bool)) (table : Layout) (baselines : Baselines) (base : List EntityState) → IsCode words → IsTable table
    → AreBaselines table baselines → AreStates base → (left number : ℕ) (entries : List Entered) (text rest : List Bool) → left + number ≡ end_mark table → EntriesRise (end_mark table) number entries
    → SpellsAfter words table baselines base entries text → AreRead words table baselines base left number (first_number table entries) entries (text ++ rest) rest
unfolding numbers_at
numbers_are_read put law law' words table baselines base code is_table are states zero number [] text rest sum rise s entities [] come = rw (s, append-nil) refl
numbers_are_read put law law' words table baselines base code is_table are states zero number [] text rest sum rise s entities (x ∷ added) come =
    let risen = come.risen in
    absurd (omega (arith, risen.0, risen.1))
numbers_are_read put law law' words table baselines base code is_table are states zero number (entry ∷ entries) text rest sum rise s entities added come = absurd (omega (arith, rise.0, rise.1))
numbers_are_read put law law' words table baselines base code is_table are states (suc left) number [] text rest sum rise s entities added come =
    read_over words table baselines base left number (end_mark table) [] (text ++ rest) rest (λ same. omega arith) refl tt
    (numbers_are_read put law law' words table baselines base code is_table are states left (number + 1) [] text rest (omega arith) tt s) entities added come
numbers_are_read put law law' words table baselines base code is_table are states (suc left) number (entry ∷ entries) text rest sum rise s entities added come =
    elim (cases_eq entry.number number) [
      | inl same ↦
          let next = first_number table entries in
          let risen : EntriesRise (end_mark table) (number + 1) entries = subst (λ (n : ℕ). EntriesRise (end_mark table) (n + 1) entries) same rise.2 in
          let least = first-least table (number + 1) entries (omega (arith, rise.1)) risen in
          let all = read_entry put law law' words table baselines base code is_table are states left number next entry entries text s.0 s.1 rest same least.0 least.1 s.2 s.3
          (numbers_are_read put law law' words table baselines base code is_table are states left (number + 1) entries s.1 rest (omega arith) risen s.4) in
          subst (λ (n : ℕ). AreRead words table baselines base (suc left) number n (entry ∷ entries) (text ++ rest) rest) (sym same) all entities added come
      | inr later ↦
          let risen : EntriesRise (end_mark table) (number + 1) (entry ∷ entries) = (omega (arith, rise.0, later), rise.1, rise.2) in
          read_over words table baselines base left number entry.number (entry ∷ entries) (text ++ rest) rest (λ same. later (sym same))
          (entry_of-below (end_mark table) (number + 1) number (entry ∷ entries) risen (omega arith)) risen
          (numbers_are_read put law law' words table baselines base code is_table are states left (number + 1) (entry ∷ entries) text rest (omega arith) risen s) entities added come
    ]

-- a list that is spelled so is read
pub list_is_read : PutIsRead → WordsSpelledAreRead → ZeroIsNormal → ListSpelledIsRead
unfolding entity_list_at
list_is_read put law law' words table baselines base now text rest code is_table are list states s =
    let after = after_of_entries words table baselines base s.entries text s.spells in
    let first = first_number table s.entries in
    let least = first-least table 0 s.entries (omega arith) s.rise in
    let field = field_bits words table.number_bits first in
    let regrouped : text ++ rest ≡ field ++ (after.0 ++ rest) = ap (λ (t : List Bool). t ++ rest) after.2 ∙ append_assoc field after.0 rest in
    let come : ToCome table base 0 [] now s.entries = record { rise = s.rise; removes = s.removes; risen = s.list.rise; few = s.list.few; states = λ n more. s.states n } in
    rw (regrouped, number_is_read put words table 0 first (after.0 ++ rest) code (omega arith) least.1)
    (numbers_are_read put law law' words table baselines base code is_table are states (end_mark table) 0 s.entries after.0 rest (omega arith) s.rise after.1 [] now come)
