-- Entities by rising number: one is put in, one is taken away, one is looked for, and the lowest are taken.
use Rattle.std.proofs.Common.{◌≡◌, ℕ, zero, suc, ◌+◌, ◌^◌, ◌<◌, ◌≤◌, Bool, true, false, cond, eqb, ltb, List, [], ◌∷◌, ◌++◌, length, get_or, set, take, Option, Some, None, refl, sym, ap, subst, ◌∙◌, inl, inr, arith}
use Rattle.std.specs.Prelude.{All, not, nat_le, nat_lt}
use Rattle.std.specs.List.Sorted.{IsPartitionedBy, IsPartitionPoint}
use Rattle.std.specs.List.{insert, remove, position, position_or_len}
use Rattle.std.proofs.lemmas.List.{length_push, length-take}
use Rattle.std.proofs.lemmas.List.Edits.{length-insert}
use Rattle.std.proofs.lemmas.List.Elements.{All-nil, All-cons, All-head, All-tail}
use Rattle.std.proofs.lemmas.List.Quantifiers.{position-Some}
use Rattle.std.proofs.lemmas.List.Sums.{fails_before_first, position_or_len_is}
use Rattle.std.proofs.lemmas.List.Sorted.{IsPartitionedBy-ltb}
use Rattle.std.proofs.lemmas.Bool.{cases_Bool, cases_lt, ltb-true, ltb-false, le-leb, lt-leb, lt-ltb, le-ltb, leb-true, leb-false, ne_eqb, eqb-false, cond-true}
use Rattle.q3_entity.specs.declared.state.EntityState.{EntityState}
use Rattle.q3_fields.specs.Kinds.{Layout, end_mark, most_end}
use Rattle.q3_entity.specs.Entities.{RiseFrom, IsList, Rises, most_entities}
use Rattle.q3_map.specs.Map.{with_entity, without_entity}

-- ---- rising numbers

pub rise_lower : (limit least lower : ℕ) (entities : List EntityState) → lower ≤ least → RiseFrom limit least entities → RiseFrom limit lower entities
rise_lower limit least lower [] le rise = tt
rise_lower limit least lower (entity ∷ others) le rise = (omega (arith, rise.0), rise.1, rise.2)

-- there are at most as many entities as numbers
pub rise_few : (limit least : ℕ) (entities : List EntityState) → least ≤ limit → RiseFrom limit least entities → length entities + least ≤ limit
rise_few limit least [] le rise = omega arith
rise_few limit least (entity ∷ others) le rise =
    omega (arith, rise.0, rise.1, rise_few limit (entity.number + 1) others (omega (arith, rise.1)) rise.2)

pub rise_take : (limit least count : ℕ) (entities : List EntityState) → RiseFrom limit least entities → RiseFrom limit least (take count entities)
rise_take limit least zero entities rise = tt
rise_take limit least (suc count) [] rise = tt
rise_take limit least (suc count) (entity ∷ others) rise = (rise.0, rise.1, rise_take limit (entity.number + 1) count others rise.2)

pub few_taken : {X : Type 0} (count : ℕ) (xs : List X) → length (take count xs) ≤ count
few_taken count xs = omega (arith, length-take count xs)

-- numbers below a limit are below a wider one
pub rise_wider : (limit wider least : ℕ) (entities : List EntityState) → limit ≤ wider → RiseFrom limit least entities → RiseFrom wider least entities
rise_wider limit wider least [] le rise = tt
rise_wider limit wider least (entity ∷ others) le rise =
    (rise.0, omega (arith, rise.1, le), rise_wider limit wider (entity.number + 1) others le rise.2)

-- the lowest of entities whose numbers rise are those of a snapshot
pub lowest_listed : (table : Layout) (entities : List EntityState) → RiseFrom (end_mark table) 0 entities → IsList table (take most_entities entities)
lowest_listed table entities rise = record { rise = rise_take (end_mark table) 0 most_entities entities rise; few = few_taken most_entities entities }

pub lowest_rise : (entities : List EntityState) → RiseFrom most_end 0 entities → Rises (take most_entities entities)
lowest_rise entities rise =
    record { rise = rise_wider most_end (2 ^ 16) 0 (take most_entities entities) (omega arith) (rise_take most_end 0 most_entities entities rise); few = few_taken most_entities entities }

-- ---- an entity is put in

abbrev put_at : Bool → Bool → EntityState → EntityState → List EntityState → List EntityState
put_at below same entity first others =
    cond below (first ∷ with_entity entity others) (cond same (entity ∷ others) (entity ∷ first ∷ others))

put_is : (entity first : EntityState) (others : List EntityState)
    → with_entity entity (first ∷ others) ≡ put_at (nat_lt first.number entity.number) (eqb first.number entity.number) entity first others
unfolding with_entity
put_is entity first others = refl

none_is : (entity : EntityState) → with_entity entity [] ≡ entity ∷ []
unfolding with_entity
none_is entity = refl

put_below : (entity first : EntityState) (others : List EntityState) → first.number < entity.number → with_entity entity (first ∷ others) ≡ first ∷ with_entity entity others
put_below entity first others lt = put_is entity first others ∙ rw (lt-ltb first.number entity.number lt) refl

put_same : (entity first : EntityState) (others : List EntityState) → first.number ≡ entity.number → with_entity entity (first ∷ others) ≡ entity ∷ others
put_same entity first others same =
    let below : ltb first.number entity.number ≡ false = le-ltb first.number entity.number (omega (arith, same)) in
    let equal : eqb first.number entity.number ≡ true = rw same (eqb_itself entity.number) in
    put_is entity first others ∙ rw (below, equal) refl
  where
    eqb_itself : (n : ℕ) → eqb n n ≡ true
    eqb_itself n = elim (cases_Bool (eqb n n)) [
      | inl equal ↦ equal
      | inr other ↦ absurd (eqb-false n n other refl)
    ]

put_above : (entity first : EntityState) (others : List EntityState) → entity.number < first.number → with_entity entity (first ∷ others) ≡ entity ∷ first ∷ others
put_above entity first others lt =
    let below : ltb first.number entity.number ≡ false = le-ltb first.number entity.number (omega (arith, lt)) in
    let other : eqb first.number entity.number ≡ false = ne_eqb first.number entity.number (λ same. omega (arith, lt, same)) in
    put_is entity first others ∙ rw (below, other) refl

-- all below a place have lower numbers
abbrev pub Below : ℕ → ℕ → List EntityState → Type 0
Below number i entities = (k : ℕ) (d : EntityState) → k < i → (get_or entities k d).number < number

below_tail : (number i : ℕ) (entity : EntityState) (others : List EntityState) → Below number (suc i) (entity ∷ others) → Below number i others
below_tail number i entity others below k d lt = below (suc k) d (omega (arith, lt))

pub put_there : (entity d : EntityState) (entities : List EntityState) (i : ℕ) → i < length entities → Below entity.number i entities
    → (get_or entities i d).number ≡ entity.number → with_entity entity entities ≡ set entities i entity
put_there entity d [] i lt below same = absurd (omega arith)
put_there entity d (first ∷ others) zero lt below same = put_same entity first others same
put_there entity d (first ∷ others) (suc i) lt below same =
    put_below entity first others (below 0 d (omega arith))
    ∙ ap (λ (rest : List EntityState). first ∷ rest) (put_there entity d others i (omega arith) (below_tail entity.number i first others below) same)

pub put_before : (entity d : EntityState) (entities : List EntityState) (i : ℕ) → i < length entities → Below entity.number i entities
    → entity.number < (get_or entities i d).number → with_entity entity entities ≡ insert entities i entity
put_before entity d [] i lt below above = absurd (omega arith)
put_before entity d (first ∷ others) zero lt below above = put_above entity first others above
put_before entity d (first ∷ others) (suc i) lt below above =
    put_below entity first others (below 0 d (omega arith))
    ∙ ap (λ (rest : List EntityState). first ∷ rest) (put_before entity d others i (omega arith) (below_tail entity.number i first others below) above)

pub put_after : (entity : EntityState) (entities : List EntityState) → Below entity.number (length entities) entities → with_entity entity entities ≡ entities ++ entity ∷ []
put_after entity [] below = none_is entity
put_after entity (first ∷ others) below =
    put_below entity first others (below 0 first (omega arith))
    ∙ ap (λ (rest : List EntityState). first ∷ rest) (put_after entity others (below_tail entity.number (length others) first others below))

-- the numbers still rise
pub put_rises : (limit least : ℕ) (entity : EntityState) (entities : List EntityState) → least ≤ entity.number → entity.number < limit
    → RiseFrom limit least entities → RiseFrom limit least (with_entity entity entities)
put_rises limit least entity [] le lt rise = rw (none_is entity) (le, lt, tt)
put_rises limit least entity (first ∷ others) le lt rise =
    elim (cases_lt first.number entity.number) [
      | inl below ↦ rw (put_below entity first others below) (rise.0, rise.1, put_rises limit (first.number + 1) entity others (omega (arith, below)) lt rise.2)
      | inr past ↦ elim (cases_lt entity.number first.number) [
        | inl above ↦ rw (put_above entity first others above) (le, lt, (omega (arith, above), rise.1, rise.2))
        | inr same ↦
            let equal : first.number ≡ entity.number = omega arith in
            rw (put_same entity first others equal) (le, lt, subst (λ (n : ℕ). RiseFrom limit (n + 1) others) equal rise.2)
      ]
    ]

-- what holds of each entity holds of each then
pub put_all : (P : EntityState → Type 0) (entity : EntityState) (entities : List EntityState) → P entity → All P entities → All P (with_entity entity entities)
put_all P entity [] is all = rw (none_is entity) (All-cons P entity [] is (All-nil P))
put_all P entity (first ∷ others) is all =
    let head = All-head P first others all in
    let tail = All-tail P first others all in
    elim (cases_lt first.number entity.number) [
      | inl below ↦ rw (put_below entity first others below) (All-cons P first (with_entity entity others) head (put_all P entity others is tail))
      | inr past ↦ elim (cases_lt entity.number first.number) [
        | inl above ↦ rw (put_above entity first others above) (All-cons P entity (first ∷ others) is all)
        | inr same ↦
            let equal : first.number ≡ entity.number = omega arith in
            rw (put_same entity first others equal) (All-cons P entity others is tail)
      ]
    ]

-- ---- an entity is taken away

abbrev others_of : ℕ → EntityState → Bool
others_of number entity = not (eqb entity.number number)

stays_first : (number : ℕ) (entity : EntityState) (others : List EntityState) → (entity.number ≡ number → ⊥) → without_entity number (entity ∷ others) ≡ entity ∷ without_entity number others
stays_first number entity others other = rw (ne_eqb entity.number number other) refl

goes_first : (number : ℕ) (entity : EntityState) (others : List EntityState) → entity.number ≡ number → without_entity number (entity ∷ others) ≡ without_entity number others
goes_first number entity others same =
    elim (cases_Bool (eqb entity.number number)) [
      | inl equal ↦ rw equal refl
      | inr other ↦ absurd (eqb-false entity.number number other same)
    ]

-- all above a number stay
stay_above : (limit least number : ℕ) (entities : List EntityState) → number < least → RiseFrom limit least entities → without_entity number entities ≡ entities
stay_above limit least number [] lt rise = refl
stay_above limit least number (entity ∷ others) lt rise =
    stays_first number entity others (λ same. omega (arith, lt, rise.0, same))
    ∙ ap (λ (rest : List EntityState). entity ∷ rest) (stay_above limit (entity.number + 1) number others (omega (arith, lt, rise.0)) rise.2)

-- and all below
pub stay_below : (number : ℕ) (entities : List EntityState) → Below number (length entities) entities → without_entity number entities ≡ entities
stay_below number [] below = refl
stay_below number (entity ∷ others) below =
    let lt = below 0 entity (omega arith) in
    stays_first number entity others (λ same. omega (arith, lt, same))
    ∙ ap (λ (rest : List EntityState). entity ∷ rest) (stay_below number others (below_tail number (length others) entity others below))

-- the one that stands at its place goes
pub goes_there : (limit least number : ℕ) (d : EntityState) (entities : List EntityState) (i : ℕ) → RiseFrom limit least entities → i < length entities
    → Below number i entities → (get_or entities i d).number ≡ number → without_entity number entities ≡ remove entities i
goes_there limit least number d [] i rise lt below same = absurd (omega arith)
goes_there limit least number d (entity ∷ others) zero rise lt below same =
    goes_first number entity others same ∙ stay_above limit (entity.number + 1) number others (omega (arith, same)) rise.2
goes_there limit least number d (entity ∷ others) (suc i) rise lt below same =
    let less = below 0 d (omega arith) in
    stays_first number entity others (λ e. omega (arith, less, e))
    ∙ ap (λ (rest : List EntityState). entity ∷ rest) (goes_there limit (entity.number + 1) number d others i rise.2 (omega arith) (below_tail number i entity others below) same)

-- and there may be none
pub none_goes : (limit least number : ℕ) (d : EntityState) (entities : List EntityState) (i : ℕ) → RiseFrom limit least entities → i < length entities
    → Below number i entities → number < (get_or entities i d).number → without_entity number entities ≡ entities
none_goes limit least number d [] i rise lt below above = absurd (omega arith)
none_goes limit least number d (entity ∷ others) zero rise lt below above =
    stay_above limit entity.number number (entity ∷ others) above (omega arith, rise.1, rise.2)
none_goes limit least number d (entity ∷ others) (suc i) rise lt below above =
    let less = below 0 d (omega arith) in
    stays_first number entity others (λ e. omega (arith, less, e))
    ∙ ap (λ (rest : List EntityState). entity ∷ rest) (none_goes limit (entity.number + 1) number d others i rise.2 (omega arith) (below_tail number i entity others below) above)

pub without_rises : (limit least number : ℕ) (entities : List EntityState) → RiseFrom limit least entities → RiseFrom limit least (without_entity number entities)
without_rises limit least number [] rise = tt
without_rises limit least number (entity ∷ others) rise =
    let rest = without_rises limit (entity.number + 1) number others rise.2 in
    elim (cases_Bool (eqb entity.number number)) [
      | inl gone ↦ rw gone (rise_lower limit (entity.number + 1) least (without_entity number others) (omega (arith, rise.0)) rest)
      | inr stays ↦ rw stays (rise.0, rise.1, rest)
    ]

-- ---- a place that was looked for

abbrev from_number : ℕ → EntityState → Bool
from_number number entity = nat_le number entity.number

-- numbers that rise are in order
rise_least : (limit least : ℕ) (entities : List EntityState) (j : ℕ) (d : EntityState) → RiseFrom limit least entities → j < length entities
    → least ≤ (get_or entities j d).number
rise_least limit least [] j d rise lt = absurd (omega (arith, lt))
rise_least limit least (entity ∷ others) zero d rise lt = rise.0
rise_least limit least (entity ∷ others) (suc j) d rise lt =
    omega (arith, rise.0, rise_least limit (entity.number + 1) others j d rise.2 (omega (arith, lt)))

rise_in_order : (limit least : ℕ) (entities : List EntityState) (i j : ℕ) (d : EntityState) → RiseFrom limit least entities → i ≤ j → j < length entities
    → (get_or entities i d).number ≤ (get_or entities j d).number
rise_in_order limit least [] i j d rise le lt = absurd (omega (arith, lt))
rise_in_order limit least (entity ∷ others) zero zero d rise le lt = omega arith
rise_in_order limit least (entity ∷ others) zero (suc j) d rise le lt =
    omega (arith, rise_least limit (entity.number + 1) others j d rise.2 (omega (arith, lt)))
rise_in_order limit least (entity ∷ others) (suc i) zero d rise le lt = absurd (omega (arith, le))
rise_in_order limit least (entity ∷ others) (suc i) (suc j) d rise le lt =
    rise_in_order limit (entity.number + 1) others i j d rise.2 (omega (arith, le)) (omega (arith, lt))

-- those below a number stand in front of the others
abbrev pub below_number : ℕ → EntityState → Bool
below_number number entity = nat_lt entity.number number

pub parted : (limit least number : ℕ) (entities : List EntityState) → RiseFrom limit least entities → IsPartitionedBy (below_number number) entities
parted limit least number entities rise =
    IsPartitionedBy-ltb (λ (entity : EntityState). entity.number) entities number (λ i j d le lt. rise_in_order limit least entities i j d rise le lt)

-- and the place after them is the first of a number from there on
pub point_is_first : (number : ℕ) (entities : List EntityState) (i : ℕ) → i ≤ length entities
    → IsPartitionPoint (λ entity. below_number number entity ≡ true) (λ entity. below_number number entity ≡ false) entities i
    → position_or_len (from_number number) entities ≡ i
point_is_first number entities i le point =
    let none : EntityState = record { number = 0; words = [] } in
    position_or_len_is (from_number number) entities i none le
    (λ k lt. lt-leb number (get_or entities k none).number (ltb-true (get_or entities k none).number number (point.0 k none (omega arith) lt)))
    (λ lt. le-leb number (get_or entities i none).number (ltb-false (get_or entities i none).number number (point.1 i none (omega arith) lt)))

-- what is told of a place that was found
pub found_at : (number i : ℕ) (d : EntityState) (entities : List EntityState) → position (from_number number) entities ≡ Some i
    → (i < length entities) × (number ≤ (get_or entities i d).number) × Below number i entities
found_at number i d entities is =
    let at = position-Some (from_number number) entities i d is in (
      at.0,
      leb-true number (get_or entities i d).number at.1,
      λ k e lt. leb-false number (get_or entities k e).number ((position-Some (from_number number) entities i e is).2 k lt),
    )

some_is_none : (place : ℕ) (given : Option ℕ) → given ≡ None → Some place ≡ given → ⊥
some_is_none place given e same = absurd cc

-- where none was found, all numbers are lower
pub none_from : (number : ℕ) (entities : List EntityState) → position (from_number number) entities ≡ None → Below number (length entities) entities
none_from number entities is k d lt =
    let place = position_or_len (from_number number) entities in
    elim (cases_Bool (nat_lt place (length entities))) [
      | inl within ↦ absurd (some_is_none place (position (from_number number) entities) is (sym (cond-true (nat_lt place (length entities)) (Some place) None within)))
      | inr past ↦ leb-false number (get_or entities k d).number
          (fails_before_first (from_number number) entities k d (omega (arith, ltb-false place (length entities) past, lt)))
    ]

-- ---- what is done at such a place

-- the place that a look answered
abbrev pub Looks : ℕ → List EntityState → Option ℕ → Option ℕ → Type 0
Looks number entities answer found = (seen : List EntityState) × (answer ≡ position (from_number number) seen) × (seen ≡ entities) × (answer ≡ found)

looked : (number : ℕ) (entities : List EntityState) (answer found : Option ℕ) → Looks number entities answer found → position (from_number number) entities ≡ found
looked number entities answer found looks = ap (position (from_number number)) (sym looks.2) ∙ (sym looks.1 ∙ looks.3)

-- one is found that reads as the one at its place
abbrev At : List EntityState → ℕ → EntityState → Type 0
At entities place there = there ≡ get_or entities place there

pub push_is : (limit : ℕ) (entity : EntityState) (entities : List EntityState) (answer : Option ℕ) → RiseFrom limit 0 entities → entity.number < limit
    → Looks entity.number entities answer None → (with_entity entity entities ≡ entities ++ entity ∷ []) × (length entities < limit)
push_is limit entity entities answer rise lt looks =
    let is = put_after entity entities (none_from entity.number entities (looked entity.number entities answer None looks)) in
    let more = rise_few limit 0 (with_entity entity entities) (omega arith) (put_rises limit 0 entity entities (omega arith) lt rise) in
    (is, omega (arith, more, ap (λ (es : List EntityState). length es) is, length_push entities entity))

pub set_is : (entity there : EntityState) (entities : List EntityState) (answer : Option ℕ) (place : ℕ)
    → Looks entity.number entities answer (Some place) → At entities place there → there.number ≡ entity.number
    → with_entity entity entities ≡ set entities place entity
set_is entity there entities answer place looks at same =
    let found = found_at entity.number place there entities (looked entity.number entities answer (Some place) looks) in
    put_there entity there entities place found.0 found.2 (ap (λ (e : EntityState). e.number) (sym at) ∙ same)

pub insert_is : (limit : ℕ) (entity there : EntityState) (entities : List EntityState) (answer : Option ℕ) (place : ℕ) → RiseFrom limit 0 entities → entity.number < limit
    → Looks entity.number entities answer (Some place) → At entities place there → (there.number ≡ entity.number → ⊥)
    → (with_entity entity entities ≡ insert entities place entity) × (length entities < limit)
insert_is limit entity there entities answer place rise lt looks at other =
    let found = found_at entity.number place there entities (looked entity.number entities answer (Some place) looks) in
    let named = ap (λ (e : EntityState). e.number) at in
    let above : entity.number < (get_or entities place there).number =
    elim (cases_lt entity.number (get_or entities place there).number) [
      | inl less ↦ less
      | inr past ↦ absurd (other (named ∙ omega (arith, past, found.1)))
    ] in
    let is = put_before entity there entities place found.0 found.2 above in
    let more = rise_few limit 0 (with_entity entity entities) (omega arith) (put_rises limit 0 entity entities (omega arith) lt rise) in
    (is, omega (arith, more, ap (λ (es : List EntityState). length es) is, length-insert entities place entity (omega (arith, found.0))))

pub remove_is : (limit number : ℕ) (there : EntityState) (entities : List EntityState) (answer : Option ℕ) (place : ℕ) → RiseFrom limit 0 entities
    → Looks number entities answer (Some place) → At entities place there → there.number ≡ number
    → without_entity number entities ≡ remove entities place
remove_is limit number there entities answer place rise looks at same =
    let found = found_at number place there entities (looked number entities answer (Some place) looks) in
    goes_there limit 0 number there entities place rise found.0 found.2 (ap (λ (e : EntityState). e.number) (sym at) ∙ same)

pub stays_is : (limit number : ℕ) (there : EntityState) (entities : List EntityState) (answer : Option ℕ) (place : ℕ) → RiseFrom limit 0 entities
    → Looks number entities answer (Some place) → At entities place there → (there.number ≡ number → ⊥)
    → without_entity number entities ≡ entities
stays_is limit number there entities answer place rise looks at other =
    let found = found_at number place there entities (looked number entities answer (Some place) looks) in
    let named = ap (λ (e : EntityState). e.number) at in
    let above : number < (get_or entities place there).number =
    elim (cases_lt number (get_or entities place there).number) [
      | inl less ↦ less
      | inr past ↦ absurd (other (named ∙ omega (arith, past, found.1)))
    ] in
    none_goes limit 0 number there entities place rise found.0 found.2 above

pub none_is_gone : (number : ℕ) (entities : List EntityState) (answer : Option ℕ) → Looks number entities answer None → without_entity number entities ≡ entities
none_is_gone number entities answer looks = stay_below number entities (none_from number entities (looked number entities answer None looks))
