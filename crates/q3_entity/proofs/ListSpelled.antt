-- What is read of a list was spelled so.
use Rattle.std.proofs.Common.{◌≡◌, ℕ, zero, suc, ◌+◌, ◌<◌, ◌≤◌, Bool, true, List, [], ◌∷◌, ◌++◌, Option, Some, None, Ok, refl, sym, ap, subst, ◌∙◌, append_assoc, arith, inl, inr}
use Rattle.std.proofs.lemmas.Bool.{cases_eq, eqb-true, eqb-false}
use Rattle.std.proofs.lemmas.List.{append-nil}
use Rattle.std.proofs.lemmas.List.Elements.{All-nil}
use Rattle.std.specs.Option.{is_some}
use Rattle.q3_bits.specs.ResultBind.{◌>>=◌}
use Rattle.q3_bits.proofs.Binds.{bind_ok}
use Rattle.q3_bits.specs.Words.{IsCode, field_bits}
use Rattle.q3_bits.specs.Laws.{ReadWasPut}
use Rattle.q3_fields.specs.Kinds.{Layout, IsTable, end_mark}
use Rattle.q3_fields.specs.States.{AreWords, normal_words}
use Rattle.q3_fields.specs.Laws.{WordsReadAreSpelled}
use Rattle.q3_entity.specs.declared.state.EntityState.{EntityState}
use Rattle.q3_entity.specs.declared.reading.Entry.{Entry}
use Rattle.q3_entity.specs.declared.reading.Entry.TheVariants.{Removed, Changed, Same}
use Rattle.q3_entity.specs.Entities.{IsNormal, RiseFrom, IsList, AreStates, AreNormal, with_number}
use Rattle.q3_entity.specs.Baselines.{Baselines, AreBaselines}
use Rattle.q3_entity.specs.Lists.{number_at, words_from, numbers_at, entity_list_at}
use Rattle.q3_entity.specs.Laws.{ZeroIsNormal, ListReadIsSpelled}
use Rattle.q3_entity.specs.Spelling.{Entered, SpellsEntries, EntriesRise, RemoveFrom, state_after, words_there}
use Rattle.q3_entity.proofs.Results.{number_was_read}
use Rattle.q3_entity.proofs.EntrySpelled.{ReadMarks, marks_were_spelled}
use Rattle.q3_entity.proofs.EntriesSpelled.{first_number, SpellsAfter, entries_of_after, rest_texts}
use Rattle.q3_entity.proofs.OneNumber.{with_first, IsNamed, first-rises, first-found, first-others, first-all, with_number-all, entry_of, entry_of-below, entry_of-first, entry_of-others, state_there, pushed, pushed-first, stays-was, entered-was}
use Rattle.q3_entity.proofs.Steps.{number_step}
use Rattle.q3_entity.proofs.Listed.{list_is_listed}
use Rattle.q3_entity.proofs.ListWritten.{found-number, found-limit, rise-weaker, baseline-known}

-- the words that an entry changed from are words, in normal form where the base's are
pub record FromWords (table : Layout) (base : List EntityState) (from : List ℕ) : Type 0 where
  pub are : AreWords 64 from
  pub normal : AreNormal table base → normal_words table.kinds from ≡ from

pub from_words : (table : Layout) (baselines : Baselines) (base : List EntityState) (number : ℕ) → ZeroIsNormal → IsTable table → AreBaselines table baselines → AreStates base
    → FromWords table base (words_from baselines number (with_number number base))
from_words table baselines base number law is_table are states =
    from_entity (with_number number base) (λ x e. with_number-all (λ entity. AreWords 64 entity.words) number base x states e)
    (λ normal x e. with_number-all (IsNormal table) number base x normal e)
  where
    from_entity : (o : Option EntityState) → ((x : EntityState) → o ≡ Some x → AreWords 64 x.words) → (AreNormal table base → (x : EntityState) → o ≡ Some x → IsNormal table x)
        → FromWords table base (words_from baselines number o)
    from_entity None words normal =
        let baseline = baseline-known law table baselines number is_table are in
        record { are = baseline.0; normal = λ _. ap (λ (x : EntityState). x.words) baseline.1 }
    from_entity (Some x) words normal = record { are = words x refl; normal = λ all. ap (λ (x : EntityState). x.words) (normal all x refl) }

-- what was read from a number on
record ReadNumbers (words : List (List Bool)) (table : Layout) (baselines : Baselines) (base : List EntityState) (number next : ℕ) (entities : List EntityState) (bits : List Bool)
    (found : List EntityState × List Bool) : Type 0 where
  entries : List Entered
  added : List EntityState
  text : List Bool
  parts : bits ≡ text ++ found.1
  whole : found.0 ≡ entities ++ added
  first : first_number table entries ≡ next
  rise : EntriesRise (end_mark table) next entries
  removes : RemoveFrom base entries
  spells : SpellsAfter words table baselines base entries text
  risen : RiseFrom (end_mark table) number added
  states : (n : ℕ) → number ≤ n → with_number n added ≡ state_after (with_number n base) n (entry_of n entries)
  are : AreStates added
  normal : AreNormal table base → AreNormal table added

-- at the end mark nothing is left
at_end : (words : List (List Bool)) (table : Layout) (baselines : Baselines) (base : List EntityState) (number next : ℕ) (entities : List EntityState) (bits : List Bool)
    → IsList table base → number ≡ end_mark table → next ≡ end_mark table → ReadNumbers words table baselines base number next entities bits (entities, bits)
at_end words table baselines base number next entities bits list last mark = record {
  entries = [];
  added = [];
  text = [];
  parts = refl;
  whole = sym (append-nil entities);
  first = sym mark;
  rise = tt;
  removes = tt;
  spells = refl;
  risen = tt;
  states = λ n more. sym (found-limit (end_mark table) 0 n base list.rise (omega arith));
  are = All-nil (λ (x : EntityState). AreWords 64 x.words);
  normal = λ _. All-nil (IsNormal table);
}

-- a number without an entry, whose entity stays
over_number : (words : List (List Bool)) (table : Layout) (baselines : Baselines) (base : List EntityState) (number next : ℕ) (entities kept : List EntityState) (bits : List Bool)
    (found : List EntityState × List Bool) → AreStates base → number < next → number < end_mark table → kept ≡ pushed entities (with_number number base)
    → ReadNumbers words table baselines base (number + 1) next kept bits found → ReadNumbers words table baselines base number next entities bits found
over_number words table baselines base number next entities kept bits found states below within is read =
    let from = with_number number base in
    let named : IsNamed number from = named_base from (λ x e. found-number number base x e) in
    record {
      entries = read.entries;
      added = with_first from read.added;
      text = read.text;
      parts = read.parts;
      whole = read.whole ∙ ap (λ (xs : List EntityState). xs ++ read.added) is ∙ pushed-first entities from read.added;
      first = read.first;
      rise = read.rise;
      removes = read.removes;
      spells = read.spells;
      risen = first-rises (end_mark table) number from read.added named within read.risen;
      states = λ n least.
          elim (cases_eq n number) [
            | inl here ↦
                let none : entry_of n read.entries ≡ None = entry_of-below (end_mark table) next n read.entries read.rise (omega arith) in
                rw (none, here) (first-found (end_mark table) number from read.added named read.risen)
            | inr other ↦ first-others number n from read.added named other ∙ read.states n (omega (arith, least, other))
          ];
      are = first-all (λ (x : EntityState). AreWords 64 x.words) from read.added (λ x e. with_number-all (λ (x : EntityState). AreWords 64 x.words) number base x states e) read.are;
      normal = λ normal. first-all (IsNormal table) from read.added (λ x e. with_number-all (IsNormal table) number base x normal e) (read.normal normal);
    }
  where
    named_base : (o : Option EntityState) → ((x : EntityState) → o ≡ Some x → x.number ≡ number) → IsNamed number o
    named_base None h = tt
    named_base (Some x) h = h x refl

-- the state of an entry that is there
named_there : (number : ℕ) (there : Option (List ℕ)) → IsNamed number (state_there number there)
named_there number None = tt
named_there number (Some ws) = refl

there_words : (kind : Entry) (to ws : List ℕ) → words_there kind to ≡ Some ws → to ≡ ws
there_words Removed to ws e = absurd cc
there_words Changed to ws e = cc
there_words Same to ws e = cc

some_value : (x y : EntityState) → (let o : Option EntityState = Some x in o) ≡ Some y → x ≡ y
some_value x y e = cc

are_there : (number : ℕ) (there : Option (List ℕ)) → ((ws : List ℕ) → there ≡ Some ws → AreWords 64 ws) → (x : EntityState) → state_there number there ≡ Some x → AreWords 64 x.words
are_there number None h x e = absurd cc
are_there number (Some ws) h x e = subst (λ (y : EntityState). AreWords 64 y.words) (some_value (record { number = number; words = ws }) x e) (h ws refl)

normal_there : (table : Layout) (number : ℕ) (there : Option (List ℕ)) → ((ws : List ℕ) → there ≡ Some ws → normal_words table.kinds ws ≡ ws) → (x : EntityState) → state_there number there ≡ Some x
    → IsNormal table x
normal_there table number None h x e = absurd cc
normal_there table number (Some ws) h x e =
    subst (IsNormal table) (some_value (record { number = number; words = ws }) x e) (ap (λ (ws : List ℕ). let made : EntityState = record { number = number; words = ws } in made) (h ws refl))

-- a number with its entry
after_number : (words : List (List Bool)) (table : Layout) (baselines : Baselines) (base : List EntityState) (number next : ℕ) (entities now : List EntityState) (bits left after : List Bool)
    (kind : Entry) (to : List ℕ) (found : List EntityState × List Bool) → number < end_mark table
    → (marks : ReadMarks words table (words_from baselines number (with_number number base)) bits ((kind, to), left))
    → (AreNormal table base → normal_words table.kinds (words_from baselines number (with_number number base)) ≡ words_from baselines number (with_number number base))
    → now ≡ pushed entities (state_there number (words_there kind to)) → ((words_there kind to ≡ None) → is_some (with_number number base) ≡ true)
    → number < next → left ≡ field_bits words table.number_bits next ++ after
    → ReadNumbers words table baselines base (number + 1) next now after found → ReadNumbers words table baselines base number number entities bits found
after_number words table baselines base number next entities now bits left after kind to found within marks was_normal is held rises number_text read =
    let there = words_there kind to in
    let o = state_there number there in
    let entry : Entered = record { number = number; words = there } in
    let named : IsNamed number o = named_there number there in
    let field = field_bits words table.number_bits next in
    record {
      entries = entry ∷ read.entries;
      added = with_first o read.added;
      text = marks.text ++ (field ++ read.text);
      parts = rest_texts bits marks.text field read.text left after found.1 marks.parts number_text read.parts;
      whole = read.whole ∙ ap (λ (xs : List EntityState). xs ++ read.added) is ∙ pushed-first entities o read.added;
      first = refl;
      rise = (omega arith, within, rise-weaker (end_mark table) next (number + 1) read.entries (omega arith) read.rise);
      removes = (held, read.removes);
      spells = (
        marks.text,
        read.text,
        ap (λ (n : ℕ). marks.text ++ (field_bits words table.number_bits n ++ read.text)) (sym read.first),
        marks.spells,
        read.spells,
      );
      risen = first-rises (end_mark table) number o read.added named within read.risen;
      states = λ n least.
          elim (cases_eq n number) [
            | inl here ↦
                let found_here = first-found (end_mark table) number o read.added named read.risen
                ∙ ap (λ (e : Option Entered). state_after (with_number number base) number e) (sym (entry_of-first entry read.entries number refl)) in
                subst (λ (m : ℕ). with_number m (with_first o read.added) ≡ state_after (with_number m base) m (entry_of m (entry ∷ read.entries))) (sym here) found_here
            | inr other ↦
                first-others number n o read.added named other ∙ read.states n (omega (arith, least, other))
                ∙ ap (λ (e : Option Entered). state_after (with_number n base) n e) (sym (entry_of-others entry read.entries n (λ same. other (sym same))))
          ];
      are = first-all (λ (x : EntityState). AreWords 64 x.words) o read.added (are_there number there (λ ws e. subst (AreWords 64) (there_words kind to ws e) marks.are)) read.are;
      normal = λ normal.
          first-all (IsNormal table) o read.added (normal_there table number there (λ ws e. subst (λ (ws : List ℕ). normal_words table.kinds ws ≡ ws) (there_words kind to ws e) (marks.normal (was_normal normal)))) (read.normal normal);
    }

-- the entities from a number on were spelled so
numbers_were_spelled : ReadWasPut → WordsReadAreSpelled → ZeroIsNormal → (words : List (List Bool)) (table : Layout) (baselines : Baselines) (base : List EntityState) → IsCode words → IsTable table
    → AreBaselines table baselines → IsList table base → AreStates base → (left number next : ℕ) (entities : List EntityState) (bits : List Bool) (found : List EntityState × List Bool)
    → left + number ≡ end_mark table → number ≤ next → next ≤ end_mark table
    → numbers_at words table baselines base left number next entities bits ≡ Ok found → ReadNumbers words table baselines base number next entities bits found
unfolding numbers_at
numbers_were_spelled put law law' words table baselines base code is_table are list states zero number next entities bits found sum low high e =
    let same : (entities, bits) ≡ found = cc in
    subst (ReadNumbers words table baselines base number next entities bits) {x = (entities, bits)} same (at_end words table baselines base number next entities bits list (omega arith) (omega arith))
numbers_were_spelled put law law' words table baselines base code is_table are list states (suc left) number next entities bits found sum low high e =
    let from = with_number number base in
    let within : number < end_mark table = omega arith in
    elim (number_step words table baselines base left number next entities bits found e) [
      | inl r ↦
          let fw = from_words table baselines base number law' is_table are states in
          let marks = marks_were_spelled put law words table (words_from baselines number from) bits r.entry code is_table fw.are r.entry_is in
          let was = entered-was entities (is_some from) number r.entry.0.0 r.entry.0.1 r.now r.now_is in
          let read = number_was_read put words table (number + 1) r.entry.1 r.more code r.more_is in
          let others = numbers_were_spelled put law law' words table baselines base code is_table are list states left (number + 1) r.more.0 r.now r.more.1 found (omega arith) read.0 read.1 r.others in
          let all = after_number words table baselines base number r.more.0 entities r.now bits r.entry.1 r.more.1 r.entry.0.0 r.entry.0.1 found within marks fw.normal was.0 was.1 (omega (arith, read.0)) read.2 others in
          subst (λ (n : ℕ). ReadNumbers words table baselines base number n entities bits found) (eqb-true number next r.here) all
      | inr r ↦
          let below : number < next = omega (arith, low, eqb-false number next r.there) in
          let others = numbers_were_spelled put law law' words table baselines base code is_table are list states left (number + 1) next r.kept bits found (omega arith) (omega arith) high r.others in
          over_number words table baselines base number next entities r.kept bits found states below within (stays-was entities from r.kept r.kept_is) others
    ]

-- the same, folded
entity_list_at_is : (words : List (List Bool)) (table : Layout) (baselines : Baselines) (base : List EntityState) (bits : List Bool) (now : List EntityState) (rest : List Bool)
    → (number_at words table 0 bits >>= λ first. numbers_at words table baselines base (end_mark table) 0 first.0 [] first.1) ≡ Ok (now, rest) → entity_list_at words table baselines base bits ≡ Ok (now, rest)
unfolding entity_list_at
entity_list_at_is words table baselines base bits now rest e = e

-- a list that was read was spelled so
pub list_was_spelled : ReadWasPut → WordsReadAreSpelled → ZeroIsNormal → ListReadIsSpelled
unfolding entity_list_at
list_was_spelled put law law' words table baselines base now bits rest code is_table are list states e =
    let first = bind_ok (number_at words table 0 bits) (λ first. numbers_at words table baselines base (end_mark table) 0 first.0 [] first.1) (now, rest) e in
    let number = number_was_read put words table 0 bits first.0 code first.1 in
    let read = numbers_were_spelled put law law' words table baselines base code is_table are list states (end_mark table) 0 first.0.0 [] first.0.1 (now, rest) (omega arith) (omega arith) number.1 first.2 in
    let field = field_bits words table.number_bits first.0.0 in
    let is : read.added ≡ now = sym read.whole in (
      subst AreStates is read.are,
      λ normal. subst (AreNormal table) is (read.normal normal),
      field ++ read.text,
      number.2 ∙ ap (λ (ys : List Bool). field ++ ys) read.parts ∙ sym (append_assoc field read.text rest),
      record {
        entries = read.entries;
        rise = rise-weaker (end_mark table) first.0.0 0 read.entries (omega arith) read.rise;
        removes = read.removes;
        spells = subst (λ (n : ℕ). SpellsEntries words table baselines base read.entries (field_bits words table.number_bits n ++ read.text)) read.first
            (entries_of_after words table baselines base read.entries read.text read.spells);
        list = list_is_listed words table baselines base bits now rest (entity_list_at_is words table baselines base bits now rest e);
        states = λ n. ap (with_number n) (sym is) ∙ read.states n (omega arith);
      },
    )
