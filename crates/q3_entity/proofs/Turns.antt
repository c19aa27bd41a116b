-- The entities after a list, turn by turn: up to the next entry the base's entities stay, and then the entry is read.
use Rattle.std.proofs.Common.{◌≡◌, ◌≢◌, ℕ, zero, suc, ◌+◌, ◌-◌, ◌<◌, ◌≤◌, Bool, true, false, List, [], ◌∷◌, ◌++◌, length, take, Option, Result, Ok, Err, refl, sym, ap, subst, ◌∙◌, arith, ltb, cond, inl, inr}
use Rattle.std.proofs.lemmas.Bool.{cases_eq, cases_lt, eq-eqb, ne_eqb, cases_Bool, lt-ltb, le-ltb, ltb-false}
use Rattle.std.specs.Option.{is_some}
use Rattle.q3_bits.specs.ResultBind.{◌>>=◌}
use Rattle.q3_bits.proofs.Binds.{bind_ok, bind_same, bind_assoc}
use Rattle.q3_fields.specs.Kinds.{Layout, end_mark}
use Rattle.q3_entity.specs.declared.state.EntityState.{EntityState}
use Rattle.q3_entity.specs.declared.error.EntityError.{EntityError}
use Rattle.q3_entity.specs.declared.error.EntityError.TheVariants.{Order, Many}
use Rattle.q3_entity.specs.Entities.{RiseFrom, with_number, most_entities}
use Rattle.q3_entity.specs.Baselines.{Baselines}
use Rattle.q3_entity.specs.Delta.{bits_read, entity_at}
use Rattle.q3_entity.specs.Lists.{number_at, one_more, stays, entered, words_from, numbers_at, entity_list_at}
use Rattle.q3_entity.specs.Runs.{taken}
use Rattle.q3_entity.specs.Walking.{kept_below, Reached, next_at, entry_at, turn_at, count_after, first_of}
use Rattle.q3_entity.proofs.Results.{number_was_read}
use Rattle.q3_entity.proofs.Risen.{with_number-after, with_number-below, is_taken}
use Rattle.q3_entity.proofs.Numbers.{with_number-named, kept_below-none, kept_below-more, kept_below-rises}
use Rattle.q3_bits.specs.Words.{IsCode, field_at}
use Rattle.q3_bits.specs.Laws.{ReadWasPut}
use Rattle.q3_bits.specs.Streams.{with_rest}
use Rattle.q3_entity.specs.declared.reading.Entry.{Entry}
use Rattle.q3_entity.specs.declared.reading.Entry.TheVariants.{Removed, Changed, Same}

abbrev pub Answer : Type 0
Answer = Result (List EntityState × List Bool) EntityError

-- a number that is read is one that may come
pub number_at-least : (words : List (List Bool)) (table : Layout) (least : ℕ) (bits : List Bool) (found : ℕ × List Bool) → number_at words table least bits ≡ Ok found → least ≤ found.0
unfolding number_at
number_at-least words table least bits found e =
    let number = bind_ok (bits_read (field_at words table.number_bits bits)) (λ number. cond (ltb number.0 least) (Err (Order number.0)) (Ok number)) found e in
    elim (cases_Bool (ltb number.0.0 least)) [
      | inl low ↦ absurd (let wrong = rw low at number.2 in cc)
      | inr high ↦
          let same = rw high at number.2 in
          let is : number.0 ≡ found = cc in
          subst (λ (x : ℕ × List Bool). least ≤ x.0) is (ltb-false number.0.0 least high)
    ]

-- an entry, the number after it, and what is read from there on
abbrev after_entry : List (List Bool) → Layout → Baselines → ℕ → Option EntityState → List EntityState → List Bool → (ℕ → List EntityState → List Bool → Answer) → Answer
after_entry words table baselines number from entities bits go =
    entry_at words table (words_from baselines number from) (is_some from) number entities bits
    >>= λ now. (number_at words table (number + 1) now.1 >>= λ more. go more.0 now.0 more.1)

after_entry-same : (words : List (List Bool)) (table : Layout) (baselines : Baselines) (number : ℕ) (from : Option EntityState) (entities : List EntityState) (bits : List Bool)
    (go go' : ℕ → List EntityState → List Bool → Answer)
    → ((left : List Bool) (now : List EntityState) (more : ℕ × List Bool) → number_at words table (number + 1) left ≡ Ok more → go more.0 now more.1 ≡ go' more.0 now more.1)
    → after_entry words table baselines number from entities bits go ≡ after_entry words table baselines number from entities bits go'
after_entry-same words table baselines number from entities bits go go' same =
    bind_same (entry_at words table (words_from baselines number from) (is_some from) number entities bits)
    (λ now. number_at words table (number + 1) now.1 >>= λ more. go more.0 now.0 more.1)
    (λ now. number_at words table (number + 1) now.1 >>= λ more. go' more.0 now.0 more.1)
    (λ now is.
    bind_same (number_at words table (number + 1) now.1) (λ more. go more.0 now.0 more.1) (λ more. go' more.0 now.0 more.1)
    (λ more is'. same now.1 now.0 more is'))

-- at the number of the next entry
numbers_at-here : (words : List (List Bool)) (table : Layout) (baselines : Baselines) (base : List EntityState) (left number : ℕ) (entities : List EntityState) (bits : List Bool)
    → numbers_at words table baselines base (suc left) number number entities bits
    ≡ after_entry words table baselines number (with_number number base) entities bits (λ next now left'. numbers_at words table baselines base left (number + 1) next now left')
unfolding numbers_at entry_at
numbers_at-here words table baselines base left number entities bits =
    let from = with_number number base in
    let others = λ (now : List EntityState × List Bool). number_at words table (number + 1) now.1 >>= λ more. numbers_at words table baselines base left (number + 1) more.0 now.0 more.1 in
    let read = entity_at words table (words_from baselines number from) bits in
    rw (eq-eqb number number refl)
    (sym (bind_assoc read (λ entry. entered entities (is_some from) number entry.0.0 entry.0.1 >>= λ now. Ok (now, entry.1)) others
    ∙ bind_same read (λ entry. (entered entities (is_some from) number entry.0.0 entry.0.1 >>= λ now. Ok (now, entry.1)) >>= others)
    (λ entry. entered entities (is_some from) number entry.0.0 entry.0.1 >>= λ now. others (now, entry.1))
    (λ entry is. bind_assoc (entered entities (is_some from) number entry.0.0 entry.0.1) (λ now. Ok (now, entry.1)) others)))

-- at a number that has no entry
numbers_at-there : (words : List (List Bool)) (table : Layout) (baselines : Baselines) (base : List EntityState) (left number next : ℕ) (entities : List EntityState) (bits : List Bool) → number ≢ next
    → numbers_at words table baselines base (suc left) number next entities bits
    ≡ (stays entities (with_number number base) >>= λ kept. numbers_at words table baselines base left (number + 1) next kept bits)
unfolding numbers_at
numbers_at-there words table baselines base left number next entities bits other = rw (ne_eqb number next other) refl

-- an entity below the number says nothing more
forget : (words : List (List Bool)) (table : Layout) (baselines : Baselines) (x : EntityState) (base : List EntityState) (left number next : ℕ) (entities : List EntityState) (bits : List Bool)
    → x.number < number
    → numbers_at words table baselines (x ∷ base) left number next entities bits ≡ numbers_at words table baselines base left number next entities bits
unfolding numbers_at
forget words table baselines x base zero number next entities bits below = refl
forget words table baselines x base (suc left) number next entities bits below =
    let gone = with_number-after number x base (λ same. omega arith) in
    elim (cases_eq number next) [
      | inl same ↦
          rw (← same)
          (numbers_at-here words table baselines (x ∷ base) left number entities bits
          ∙ ap (λ (from : Option EntityState). after_entry words table baselines number from entities bits (λ next now left'. numbers_at words table baselines (x ∷ base) left (number + 1) next now left')) gone
          ∙ after_entry-same words table baselines number (with_number number base) entities bits _ _
          (λ left' now more is. forget words table baselines x base left (number + 1) more.0 now more.1 (omega arith))
          ∙ sym (numbers_at-here words table baselines base left number entities bits))
      | inr other ↦
          numbers_at-there words table baselines (x ∷ base) left number next entities bits other
          ∙ ap (λ (from : Option EntityState). stays entities from >>= λ kept. numbers_at words table baselines (x ∷ base) left (number + 1) next kept bits) gone
          ∙ bind_same (stays entities (with_number number base)) (λ kept. numbers_at words table baselines (x ∷ base) left (number + 1) next kept bits)
          (λ kept. numbers_at words table baselines base left (number + 1) next kept bits)
          (λ kept is. forget words table baselines x base left (number + 1) next kept bits (omega arith))
          ∙ sym (numbers_at-there words table baselines base left number next entities bits other)
    ]

-- from a number on that the next entry has
abbrev pub from_next : List (List Bool) → Layout → Baselines → ℕ → List EntityState → List EntityState → List Bool → Answer
from_next words table baselines next base entities bits = numbers_at words table baselines base (end_mark table - next) next next entities bits

-- at the next entry's number no entity of the base is passed over
jump-here : (words : List (List Bool)) (table : Layout) (baselines : Baselines) (base : List EntityState) (limit left number next : ℕ) (entities : List EntityState) (bits : List Bool)
    → RiseFrom limit number base → left + number ≡ end_mark table → number ≡ next
    → numbers_at words table baselines base left number next entities bits
    ≡ (kept_below next entities base >>= λ kept. from_next words table baselines next kept.1 kept.0 bits)
jump-here words table baselines base limit left number next entities bits rise sum same =
    let all : end_mark table - number ≡ left = omega arith in
    rw (← same, kept_below-none limit number entities base rise, all) refl

-- up to the next entry the base's entities stay
jump : (words : List (List Bool)) (table : Layout) (baselines : Baselines) (base : List EntityState) (limit left number next : ℕ) (entities : List EntityState) (bits : List Bool)
    → RiseFrom limit number base → left + number ≡ end_mark table → number ≤ next → next ≤ end_mark table
    → numbers_at words table baselines base left number next entities bits
    ≡ (kept_below next entities base >>= λ kept. from_next words table baselines next kept.1 kept.0 bits)
unfolding numbers_at kept_below
jump words table baselines [] limit zero number next entities bits rise sum below within =
    let none : end_mark table - next ≡ 0 = omega arith in
    rw none refl
jump words table baselines (x ∷ xs) limit zero number next entities bits rise sum below within = jump-here words table baselines (x ∷ xs) limit zero number next entities bits rise sum (omega arith)
jump words table baselines [] limit (suc left) number next entities bits rise sum below within =
    elim (cases_eq number next) [
      | inl same ↦ jump-here words table baselines [] limit (suc left) number next entities bits rise sum same
      | inr other ↦
          numbers_at-there words table baselines [] left number next entities bits other
          ∙ jump words table baselines [] limit left (number + 1) next entities bits tt (omega arith) (omega arith) within
    ]
jump words table baselines (x ∷ xs) limit (suc left) number next entities bits rise sum below within =
    let base = x ∷ xs in
    elim (cases_eq number next) [
      | inl same ↦ jump-here words table baselines base limit (suc left) number next entities bits rise sum same
      | inr other ↦
          elim (cases_eq x.number number) [
            | inl here ↦
                let risen : RiseFrom limit (number + 1) xs = rw here at rise.2 in
                numbers_at-there words table baselines base left number next entities bits other
                ∙ ap (λ (from : Option EntityState). stays entities from >>= λ kept. numbers_at words table baselines base left (number + 1) next kept bits) (with_number-named x xs number here)
                ∙ bind_same (one_more entities x) (λ kept. numbers_at words table baselines base left (number + 1) next kept bits)
                (λ kept. kept_below next kept xs >>= λ kept'. from_next words table baselines next kept'.1 kept'.0 bits)
                (λ kept is.
                forget words table baselines x xs left (number + 1) next kept bits (omega arith)
                ∙ jump words table baselines xs limit left (number + 1) next kept bits risen (omega arith) (omega arith) within)
                ∙ sym (bind_assoc (one_more entities x) (λ more. kept_below next more xs) (λ kept'. from_next words table baselines next kept'.1 kept'.0 bits))
                ∙ ap (λ (r : Result (List EntityState × List EntityState) EntityError). r >>= λ kept'. from_next words table baselines next kept'.1 kept'.0 bits)
                (sym (kept_below-more next entities x xs (omega arith)))
            | inr later ↦
                let risen : RiseFrom limit (number + 1) base = (omega (arith, rise.0, later), rise.1, rise.2) in
                numbers_at-there words table baselines base left number next entities bits other
                ∙ ap (λ (from : Option EntityState). stays entities from >>= λ kept. numbers_at words table baselines base left (number + 1) next kept bits)
                (with_number-below limit (number + 1) number base risen (omega arith))
                ∙ jump words table baselines base limit left (number + 1) next entities bits risen (omega arith) (omega arith) within
          ]
    ]

-- from where a list stands
abbrev pub from_reached : List (List Bool) → Layout → Baselines → Reached × List Bool → Answer
from_reached words table baselines at = from_next words table baselines at.0.next at.0.base at.0.entities at.1

-- the number after an entry, and what is read from there on
next_goes_on : (words : List (List Bool)) (table : Layout) (baselines : Baselines) (least : ℕ) (base entities : List EntityState) (bits : List Bool)
    → (next_at words table least base entities bits >>= from_reached words table baselines)
    ≡ (number_at words table least bits >>= λ number. (kept_below number.0 entities base >>= λ kept. from_next words table baselines number.0 kept.1 kept.0 number.1))
unfolding next_at
next_goes_on words table baselines least base entities bits =
    let number = number_at words table least bits in
    let kept = λ (number : ℕ × List Bool). kept_below number.0 entities base in
    let made = λ (number : ℕ × List Bool) (kept : List EntityState × List EntityState). let at : Reached = record { next = number.0; base = kept.1; entities = kept.0 } in Ok (at, number.1) in
    bind_assoc number (λ number. kept number >>= made number) (from_reached words table baselines)
    ∙ bind_same number (λ number. (kept number >>= made number) >>= from_reached words table baselines)
    (λ number. kept number >>= λ kept. from_next words table baselines number.0 kept.1 kept.0 number.1)
    (λ number is. bind_assoc (kept number) (made number) (from_reached words table baselines))

-- a whole list is read from its first number on
pub list_begins : ReadWasPut → (words : List (List Bool)) (table : Layout) (baselines : Baselines) (base : List EntityState) (limit : ℕ) (bits : List Bool) → IsCode words → RiseFrom limit 0 base
    → entity_list_at words table baselines base bits ≡ (next_at words table 0 base [] bits >>= from_reached words table baselines)
unfolding entity_list_at
list_begins put words table baselines base limit bits code rise =
    bind_same (number_at words table 0 bits) (λ first. numbers_at words table baselines base (end_mark table) 0 first.0 [] first.1)
    (λ first. kept_below first.0 [] base >>= λ kept. from_next words table baselines first.0 kept.1 kept.0 first.1)
    (λ first is.
    jump words table baselines base limit (end_mark table) 0 first.0 [] first.1 rise (omega arith) (omega arith) (number_was_read put words table 0 bits first code is).1)
    ∙ sym (next_goes_on words table baselines 0 base [] bits)

-- those after a number say all that comes
after_taken : (words : List (List Bool)) (table : Layout) (baselines : Baselines) (base : List EntityState) (left number next : ℕ) (entities : List EntityState) (bits : List Bool)
    → numbers_at words table baselines base left (number + 1) next entities bits ≡ numbers_at words table baselines (taken number base).1 left (number + 1) next entities bits
after_taken words table baselines [] left number next entities bits = refl
after_taken words table baselines (x ∷ xs) left number next entities bits =
    elim (cases_eq x.number number) [
      | inl same ↦ rw (eq-eqb x.number number same) (forget words table baselines x xs left (number + 1) next entities bits (omega arith))
      | inr other ↦ rw (ne_eqb x.number number other) refl
    ]

-- a turn: the next entry, and the number after it
pub list_turns : ReadWasPut → (words : List (List Bool)) (table : Layout) (baselines : Baselines) (at : Reached) (limit : ℕ) (bits : List Bool) → IsCode words → at.next < end_mark table
    → RiseFrom limit at.next at.base
    → from_next words table baselines at.next at.base at.entities bits ≡ (turn_at words table baselines at bits >>= from_reached words table baselines)
unfolding turn_at
list_turns put words table baselines at limit bits code below rise =
    let found = taken at.next at.base in
    let rest = end_mark table - (at.next + 1) in
    let all : end_mark table - at.next ≡ suc rest = omega arith in
    let read = entry_at words table (words_from baselines at.next found.0) (is_some found.0) at.next at.entities bits in
    let after = λ (now : List EntityState × List Bool). next_at words table (at.next + 1) found.1 now.0 now.1 in
    ap (λ (left : ℕ). numbers_at words table baselines at.base left at.next at.next at.entities bits) all
    ∙ numbers_at-here words table baselines at.base rest at.next at.entities bits
    ∙ ap (λ (from : Option EntityState). after_entry words table baselines at.next from at.entities bits (λ next now left. numbers_at words table baselines at.base rest (at.next + 1) next now left))
    (sym (is_taken limit at.next at.base rise).found)
    ∙ after_entry-same words table baselines at.next found.0 at.entities bits
    (λ next now left. numbers_at words table baselines at.base rest (at.next + 1) next now left)
    (λ next now left. kept_below next now found.1 >>= λ kept. from_next words table baselines next kept.1 kept.0 left)
    (λ left now more is.
    let number = number_was_read put words table (at.next + 1) left more code is in
    after_taken words table baselines at.base rest at.next more.0 now more.1
    ∙ jump words table baselines found.1 limit rest (at.next + 1) more.0 now more.1 (is_taken limit at.next at.base rise).rise (omega arith) number.0 number.1)
    ∙ bind_same read (λ now. number_at words table (at.next + 1) now.1 >>= λ more. (kept_below more.0 now.0 found.1 >>= λ kept. from_next words table baselines more.0 kept.1 kept.0 more.1))
    (λ now. after now >>= from_reached words table baselines)
    (λ now is. sym (next_goes_on words table baselines (at.next + 1) found.1 now.0 now.1))
    ∙ sym (bind_assoc read after (from_reached words table baselines))

-- what is left of the base rises from the next number on
pub next_rises : (words : List (List Bool)) (table : Layout) (least : ℕ) (base entities : List EntityState) (bits : List Bool) (at : Reached × List Bool) (limit from : ℕ) → RiseFrom limit from base
    → next_at words table least base entities bits ≡ Ok at → RiseFrom limit at.0.next at.0.base
unfolding next_at
next_rises words table least base entities bits at limit from rise e =
    let number = bind_ok (number_at words table least bits) (λ number. kept_below number.0 entities base >>= λ kept. let at : Reached = record { next = number.0; base = kept.1; entities = kept.0 } in Ok (at, number.1)) at e in
    let kept = bind_ok (kept_below number.0.0 entities base) (λ kept. let at : Reached = record { next = number.0.0; base = kept.1; entities = kept.0 } in Ok (at, number.0.1)) at number.2 in
    let made : Reached = record { next = number.0.0; base = kept.0.1; entities = kept.0.0 } in
    let is : (made, number.0.1) ≡ at = cc in
    subst (λ (a : Reached × List Bool). RiseFrom limit a.0.next a.0.base) {x = (made, number.0.1)} is (kept_below-rises limit from number.0.0 entities base kept.0 rise kept.1)

pub turn_rises : (words : List (List Bool)) (table : Layout) (baselines : Baselines) (at : Reached) (bits : List Bool) (now : Reached × List Bool) (limit : ℕ) → RiseFrom limit at.next at.base
    → turn_at words table baselines at bits ≡ Ok now → RiseFrom limit now.0.next now.0.base
unfolding turn_at
turn_rises words table baselines at bits now limit rise e =
    let found = taken at.next at.base in
    let read = bind_ok (entry_at words table (words_from baselines at.next found.0) (is_some found.0) at.next at.entities bits) (λ entry. next_at words table (at.next + 1) found.1 entry.0 entry.1) now e in
    next_rises words table (at.next + 1) found.1 read.0.0 read.0.1 now limit (at.next + 1) (is_taken limit at.next at.base rise).rise read.2

-- what the code reads, as a whole list is read: its beginning
pub list_begun : ReadWasPut → (words : List (List Bool)) (table : Layout) (baselines : Baselines) (base none : List EntityState) (limit : ℕ) (bits : List Bool) (at : Reached) (left : List Bool) → IsCode words → RiseFrom limit 0 base
    → none ≡ []
    → Ok (at, left) ≡ next_at words table 0 base none bits → from_reached words table baselines (at, left) ≡ entity_list_at words table baselines base bits
list_begun put words table baselines base none limit bits at left code rise empty e = rw (list_begins put words table baselines base limit bits code rise, ← empty, ← e) refl

pub list_refused : ReadWasPut → (words : List (List Bool)) (table : Layout) (baselines : Baselines) (base none : List EntityState) (limit : ℕ) (bits : List Bool) (e : EntityError) → IsCode words → RiseFrom limit 0 base
    → none ≡ []
    → Err e ≡ next_at words table 0 base none bits → Err e ≡ entity_list_at words table baselines base bits
list_refused put words table baselines base none limit bits e code rise empty is = rw (list_begins put words table baselines base limit bits code rise, ← empty, ← is) refl

-- a turn
pub list_goes_on : ReadWasPut → (words same : List (List Bool)) (table : Layout) (baselines : Baselines) (at : Reached) (limit : ℕ) (bits : List Bool) (now : Reached) (left : List Bool) → same ≡ words
    → IsCode words → at.next < end_mark table → RiseFrom limit at.next at.base → Ok (now, left) ≡ turn_at same table baselines at bits
    → from_reached words table baselines (now, left) ≡ from_reached words table baselines (at, bits)
list_goes_on put words same table baselines at limit bits now left is code below rise e = rw (list_turns put words table baselines at limit bits code below rise, ← is, ← e) refl

pub list_stops : ReadWasPut → (words same : List (List Bool)) (table : Layout) (baselines : Baselines) (at : Reached) (limit : ℕ) (bits : List Bool) (e : EntityError) → same ≡ words
    → IsCode words → at.next < end_mark table → RiseFrom limit at.next at.base → Err e ≡ turn_at same table baselines at bits
    → Err e ≡ from_reached words table baselines (at, bits)
list_stops put words same table baselines at limit bits e is code below rise stop = rw (list_turns put words table baselines at limit bits code below rise, ← is, ← stop) refl

-- and its end
pub list_ends : (words : List (List Bool)) (table : Layout) (baselines : Baselines) (at : Reached) (bits : List Bool) → end_mark table ≤ at.next
    → from_reached words table baselines (at, bits) ≡ Ok (at.entities, bits)
unfolding numbers_at
list_ends words table baselines at bits past =
    let none : end_mark table - at.next ≡ 0 = omega arith in
    rw none refl

-- the state of a number and words
named : (state : EntityState) (number : ℕ) → state.number ≡ number → (let made : EntityState = record { number = number; words = state.words } in made) ≡ state
named state number same = rw (← same) refl

-- the first of the entities that are there, as many as were counted
front_counted : (items now : List EntityState) (count : ℕ) (left : List Bool) → take count items ≡ now
    → with_rest left (first_of items (let r : Result ℕ EntityError = Ok count in r)) ≡ Ok (now, left)
front_counted items now count left front = rw front refl

-- an entity that isn't removed counts as one more
one_counted : (number count : ℕ) (entities items : List EntityState) (left : List Bool) (state : EntityState) → state.number ≡ number → length entities ≡ count
    → (count < most_entities → take (count + 1) items ≡ entities ++ state ∷ [])
    → with_rest left (first_of items (cond (ltb count most_entities) (Ok (count + 1)) (Err Many)))
    ≡ (one_more entities (record { number = number; words = state.words }) >>= λ now. Ok (now, left))
one_counted number count entities items left state same long after =
    rw (named state number same, long)
    (elim (cases_lt count most_entities) [
      | inl room ↦ rw (lt-ltb count most_entities room) (front_counted items (entities ++ state ∷ []) (count + 1) left (after room))
      | inr full ↦ rw (le-ltb count most_entities full) refl
    ])

-- an entry that was read over the entity after the first ones, or beside them where there is no room
pub entry_counted : (words : List (List Bool)) (table : Layout) (from : List ℕ) (in_base : Bool) (number count : ℕ) (entities items : List EntityState) (bits left : List Bool) (kind : Entry)
    (state : EntityState) → state.number ≡ number → length entities ≡ count → take count items ≡ entities → (count < most_entities → take (count + 1) items ≡ entities ++ state ∷ [])
    → Ok ((kind, state.words), left) ≡ entity_at words table from bits
    → with_rest left (first_of items (count_after count in_base number kind)) ≡ entry_at words table from in_base number entities bits
unfolding entry_at
entry_counted words table from true number count entities items bits left Removed state same long front after e = rw (← e) (front_counted items entities count left front)
entry_counted words table from false number count entities items bits left Removed state same long front after e = rw (← e) refl
entry_counted words table from in_base number count entities items bits left Changed state same long front after e =
    rw (← e) (one_counted number count entities items left state same long after)
entry_counted words table from in_base number count entities items bits left Same state same long front after e =
    rw (← e) (one_counted number count entities items left state same long after)

-- and one that was refused
pub entry_refused : (words : List (List Bool)) (table : Layout) (from : List ℕ) (in_base : Bool) (number : ℕ) (entities : List EntityState) (bits : List Bool) (e : EntityError)
    → Err e ≡ entity_at words table from bits → Err e ≡ entry_at words table from in_base number entities bits
unfolding entry_at
entry_refused words table from in_base number entities bits e is = rw (← is) refl
