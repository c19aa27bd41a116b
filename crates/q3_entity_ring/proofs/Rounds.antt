-- A list read round its end, what is put into it round its end, and what it has where nothing was put.
use Rattle.std.proofs.Common.{◌≡◌, ℕ, ◌+◌, ◌-◌, ◌%◌, ◌<◌, ◌≤◌, min, List, [], ◌++◌, length, take, drop, set, replicate, refl, sym, ap, ◌∙◌, append_assoc, arith, inl, inr}
use Rattle.std.proofs.Math.Nat.{mod-add-mod, add-mod_right, mod-eq_of_lt, mod-eq-sub-mod, mod-lt, mod_self}
use Rattle.std.proofs.Math.Seq.{drop-append-add, take-append-add, take-length, drop-length, take-set-lt}
use Rattle.std.proofs.Math.ListN.{drop_of_length-le}
use Rattle.std.proofs.lemmas.Bool.{cases_lt}
use Rattle.std.proofs.lemmas.List.{length-append, length-take, length-take-le, length-drop, append-nil, take_at, drop_at, take_rest, drop-append-le, take-append-le, take-take, drop-take, drop-drop, drop_all, length-replicate, drop-replicate, length-set, drop-set-lt, drop-set-add, take-set-le, take_more_set, set-append_left, set-append_right}
use Rattle.q3_entity.specs.declared.state.EntityState.{EntityState}
use Rattle.q3_entity.specs.Entities.{zero_entity}
use Rattle.q3_entity_ring.specs.declared.ring.Ring.TheInside.{Inside}
use Rattle.q3_entity_ring.specs.Turned.{turned, filled}
use Rattle.q3_entity_ring.specs.Ring.{RingState, with_entities, with_entity_at, entities_from}
use Rattle.q3_entity_ring.specs.Cells.{ring_in, IsRing}
use Rattle.q3_entity_ring.specs.Laws.{PutIsNext, PutLeavesOthers}

-- ---- `take` and `drop` over two lists

drop_past : {X : Type 0} (n : ℕ) (xs ys : List X) → length xs ≤ n → drop n (xs ++ ys) ≡ drop (n - length xs) ys
drop_past n xs ys past =
    let e : n ≡ length xs + (n - length xs) = omega arith in
    ap (λ (k : ℕ). drop k (xs ++ ys)) e ∙ drop-append-add xs ys (n - length xs)

take_past : {X : Type 0} (n : ℕ) (xs ys : List X) → length xs ≤ n → take n (xs ++ ys) ≡ xs ++ take (n - length xs) ys
take_past n xs ys past =
    let e : n ≡ length xs + (n - length xs) = omega arith in
    ap (λ (k : ℕ). take k (xs ++ ys)) e ∙ take-append-add xs ys (n - length xs)

-- ---- numbers modulo the count of places

above-mod : (a n : ℕ) → n ≤ a → a < n + n → a % n ≡ a - n
above-mod a n least most = mod-eq-sub-mod {n = a} {m = n} least ∙ mod-eq_of_lt {n = a - n} {m = n} (omega arith)

-- ---- a list turned

turned-end : {X : Type 0} (xs : List X) → turned (length xs) xs ≡ turned 0 xs
turned-end {X = X} xs = ap (λ (ys : List X). ys ++ take (length xs) xs) (drop-length xs) ∙ take-length xs ∙ sym (append-nil xs)

-- a place within the list or at its end
turned-mod : {X : Type 0} (place n : ℕ) (xs : List X) → length xs ≡ n → place ≤ n → turned (place % n) xs ≡ turned place xs
turned-mod place n xs count most = elim (cases_lt place n) [
  | inl below ↦ ap (λ (k : ℕ). turned k xs) (mod-eq_of_lt {n = place} {m = n} below)
  | inr least ↦
      let end : place ≡ n = omega arith in
      let zero_is : place % n ≡ 0 = ap (λ (k : ℕ). k % n) end ∙ mod_self n in
      ap (λ (k : ℕ). turned k xs) zero_is ∙ sym (turned-end xs) ∙ ap (λ (k : ℕ). turned k xs) (count ∙ sym end)
]

-- what is after more of a turned list stands in front of the list turned further
pub turned_further : {X : Type 0} (place more n : ℕ) (xs : List X) → length xs ≡ n → place < n → more ≤ n
    → drop more (turned place xs) ≡ take (n - more) (turned ((place + more) % n) xs)
turned_further {X = X} place more n xs count below most = elim (cases_lt n (place + more)) [
  | inr within ↦
      let after : length (drop place xs) ≡ n - place = omega (arith, length-drop place xs) in
      let left : drop more (turned place xs) ≡ drop (place + more) xs ++ take place xs =
      drop-append-le more (drop place xs) (take place xs) (omega arith) ∙ ap (λ (ys : List X). ys ++ take place xs) (drop-drop more place xs) in
      let here : length (drop (place + more) xs) ≡ n - (place + more) = omega (arith, length-drop (place + more) xs) in
      let right : take (n - more) (turned (place + more) xs) ≡ drop (place + more) xs ++ take place xs =
      take_past (n - more) (drop (place + more) xs) (take (place + more) xs) (omega arith)
      ∙ ap (λ (ys : List X). drop (place + more) xs ++ ys)
      (let e : n - more - length (drop (place + more) xs) ≡ place = omega arith in
      ap (λ (k : ℕ). take k (take (place + more) xs)) e ∙ take-take place (place + more) xs (omega arith)) in
      left ∙ sym right ∙ sym (ap (take (n - more)) (turned-mod (place + more) n xs count within))
  | inl past ↦
      let at : ℕ = place + more - n in
      let is : (place + more) % n ≡ at = above-mod (place + more) n (omega arith) (omega arith) in
      let after : length (drop place xs) ≡ n - place = omega (arith, length-drop place xs) in
      let left : drop more (turned place xs) ≡ drop at (take place xs) =
      drop_past more (drop place xs) (take place xs) (omega arith) ∙ ap (λ (k : ℕ). drop k (take place xs)) (omega arith) in
      let here : length (drop at xs) ≡ n - at = omega (arith, length-drop at xs) in
      let right : take (n - more) (turned at xs) ≡ drop at (take place xs) =
      take-append-le (n - more) (drop at xs) (take at xs) (omega arith)
      ∙ sym (drop-take at (n - more) xs) ∙ ap (λ (k : ℕ). drop at (take k xs)) (omega arith) in
      left ∙ sym right ∙ sym (ap (λ (k : ℕ). take (n - more) (turned k xs)) is)
]

pub length-turned : {X : Type 0} (place : ℕ) (xs : List X) → length (turned place xs) ≡ length xs
length-turned place xs = omega (arith, length-append (drop place xs) (take place xs), length-drop place xs, length-take place xs)

-- ---- what is put into it

-- as far as its end
pub put_within : {X : Type 0} (start n : ℕ) (xs es new : List X) → length xs ≡ n → start < n → start + length es ≤ n
    → new ≡ take start xs ++ es ++ drop (start + length es) xs
    → turned ((start + length es) % n) new ≡ drop (length es) (turned start xs ++ es)
put_within {X = X} start n xs es new count below within is =
    let end : ℕ = start + length es in
    let front : length (take start xs ++ es) ≡ end = omega (arith, length-append (take start xs) es, length-take-le start xs (omega arith)) in
    let whole : length new ≡ n = ap length is ∙ omega (arith, front, length-append (take start xs ++ es) (drop end xs), length-drop end xs) in
    let after : drop end new ≡ drop end xs = ap (drop end) is ∙ drop_at (take start xs ++ es) (drop end xs) end front in
    let before : take end new ≡ take start xs ++ es = ap (take end) is ∙ take_at (take start xs ++ es) (drop end xs) end front in
    let left : turned end new ≡ drop end xs ++ (take start xs ++ es) = ap (λ (ys : List X). ys ++ take end new) after ∙ ap (λ (ys : List X). drop end xs ++ ys) before in
    let right : drop (length es) (turned start xs ++ es) ≡ drop end xs ++ (take start xs ++ es) =
    ap (drop (length es)) (append_assoc (drop start xs) (take start xs) es)
    ∙ drop-append-le (length es) (drop start xs) (take start xs ++ es) (omega (arith, length-drop start xs))
    ∙ ap (λ (ys : List X). ys ++ (take start xs ++ es)) (drop-drop (length es) start xs) in
    turned-mod end n new whole within ∙ left ∙ sym right

-- and on from its front
pub put_past : {X : Type 0} (start n : ℕ) (xs first rest es middle new : List X) → length xs ≡ n → start < n → first ++ rest ≡ es
    → start + length first ≡ n → 0 < length rest → length es ≤ n
    → middle ≡ take start xs ++ first ++ drop (start + length first) xs
    → new ≡ rest ++ drop (0 + length rest) middle
    → turned ((start + length es) % n) new ≡ drop (length es) (turned start xs ++ es)
put_past {X = X} start n xs first rest es middle new count below parts end some few middle_is new_is =
    let at : ℕ = length rest in
    let is : new ≡ rest ++ drop at middle = new_is ∙ ap (λ (k : ℕ). rest ++ drop k middle) (omega arith) in
    let es_count : length es ≡ length first + at = ap length (sym parts) ∙ length-append first rest in
    let none : drop (start + length first) xs ≡ [] = drop_of_length-le xs {i = start + length first} (omega arith) in
    let middle_whole : middle ≡ take start xs ++ first = middle_is ∙ ap (λ (ys : List X). take start xs ++ first ++ ys) none ∙ append-nil (take start xs ++ first) in
    let front : length (take start xs) ≡ start = length-take-le start xs (omega arith) in
    let round : (start + length es) % n ≡ at = above-mod (start + length es) n (omega arith) (omega arith) ∙ omega arith in
    let after : drop at new ≡ drop at middle = ap (drop at) is ∙ drop_at rest (drop at middle) at refl in
    let before : take at new ≡ rest = ap (take at) is ∙ take_at rest (drop at middle) at refl in
    let left : turned at new ≡ drop at (take start xs) ++ es =
    ap (λ (ys : List X). ys ++ take at new) after ∙ ap (λ (ys : List X). drop at middle ++ ys) before
    ∙ ap (λ (ys : List X). ys ++ rest) (ap (drop at) middle_whole ∙ drop-append-le at (take start xs) first (omega arith))
    ∙ append_assoc (drop at (take start xs)) first rest ∙ ap (λ (ys : List X). drop at (take start xs) ++ ys) parts in
    let right : drop (length es) (turned start xs ++ es) ≡ drop at (take start xs) ++ es =
    ap (drop (length es)) (append_assoc (drop start xs) (take start xs) es)
    ∙ drop_past (length es) (drop start xs) (take start xs ++ es) (omega (arith, length-drop start xs))
    ∙ ap (λ (k : ℕ). drop k (take start xs ++ es)) (omega (arith, length-drop start xs))
    ∙ drop-append-le at (take start xs) es (omega arith) in
    ap (λ (k : ℕ). turned k new) round ∙ left ∙ sym right

-- one put at one place
turned_set : {X : Type 0} (place at n : ℕ) (xs : List X) (x : X) → length xs ≡ n → place < n → at < n
    → turned place (set xs ((place + at) % n) x) ≡ set (turned place xs) at x
turned_set {X = X} place at n xs x count below within =
    let after : length (drop place xs) ≡ n - place = omega (arith, length-drop place xs) in
    elim (cases_lt (place + at) n) [
      | inl here ↦
          ap (λ (k : ℕ). turned place (set xs k x)) (mod-eq_of_lt {n = place + at} {m = n} here)
          ∙ ap (λ (ys : List X). ys ++ take place (set xs (place + at) x)) (drop-set-add place xs at x)
          ∙ ap (λ (ys : List X). set (drop place xs) at x ++ ys) (take-set-le place xs (place + at) x (omega arith))
          ∙ sym (set-append_left (drop place xs) (take place xs) at x (omega arith))
      | inr past ↦
          let round : ℕ = place + at - n in
          let same : at - (n - place) ≡ round = omega arith in
          ap (λ (k : ℕ). turned place (set xs k x)) (above-mod (place + at) n past (omega arith))
          ∙ ap (λ (ys : List X). ys ++ take place (set xs round x)) (drop-set-lt place xs round x (omega arith))
          ∙ ap (λ (ys : List X). drop place xs ++ ys) (take-set-lt place xs round x (omega arith))
          ∙ sym (set-append_right (drop place xs) (take place xs) (n - place) at x after (omega arith)
          ∙ ap (λ (k : ℕ). drop place xs ++ set (take place xs) k x) same)
    ]

-- ---- a list that is filled up

pub length-filled : {X : Type 0} (empty : X) (room : ℕ) (xs : List X) → length xs ≤ room → length (filled empty room xs) ≡ room
length-filled empty room xs most =
    omega (arith, length-append xs (replicate (room - length xs) empty), length-replicate (room - length xs) empty)

-- one that is full
filled_whole : {X : Type 0} (empty : X) (room : ℕ) (xs : List X) → length xs ≡ room → filled empty room xs ≡ xs
filled_whole empty room xs whole =
    let none : room - length xs ≡ 0 = omega arith in
    ap (λ (k : ℕ). xs ++ replicate k empty) none ∙ append-nil xs

-- one put where something stood
filled_set : {X : Type 0} (empty : X) (room place : ℕ) (xs : List X) (x : X) → place < length xs → filled empty room (set xs place x) ≡ set (filled empty room xs) place x
filled_set {X = X} empty room place xs x within =
    ap (λ (k : ℕ). set xs place x ++ replicate (room - k) empty) (length-set xs place x)
    ∙ sym (set-append_left xs (replicate (room - length xs) empty) place x within)

-- what is put where something stood, or right after that: how long the list is then
pub length-put : {X : Type 0} (place : ℕ) (xs es new : List X) → place ≤ length xs → new ≡ take place xs ++ es ++ drop (place + length es) xs
    → length new ≡ place + length es + (length xs - (place + length es))
length-put place xs es new within is = ap length is
    ∙ omega (arith, length-append (take place xs ++ es) (drop (place + length es) xs), length-append (take place xs) es, length-take-le place xs within, length-drop (place + length es) xs)

-- and that it is put so into the list that is filled up
pub filled_put : {X : Type 0} (empty : X) (room place : ℕ) (xs es new : List X) → place ≤ length xs → length xs ≤ room → place + length es ≤ room
    → new ≡ take place xs ++ es ++ drop (place + length es) xs
    → filled empty room new ≡ take place (filled empty room xs) ++ es ++ drop (place + length es) (filled empty room xs)
filled_put {X = X} empty room place xs es new within most few is =
    let end : ℕ = place + length es in
    let others : List X = replicate (room - length xs) empty in
    let left : room - length new ≡ room - length xs - (end - length xs) = omega (arith, length-put place xs es new within is) in
    let after : drop end (xs ++ others) ≡ drop end xs ++ replicate (room - length new) empty = elim (cases_lt (length xs) end) [
      | inl past ↦
          drop_past end xs others (omega arith) ∙ drop-replicate (end - length xs) (room - length xs) empty
          ∙ ap (λ (k : ℕ). replicate k empty) (sym left)
          ∙ sym (ap (λ (ys : List X). ys ++ replicate (room - length new) empty) (drop_all end xs (omega arith)))
      | inr here ↦
          drop-append-le end xs others here
          ∙ ap (λ (k : ℕ). drop end xs ++ replicate k empty) (let e : room - length xs ≡ room - length new = omega arith in e)
    ] in
    ap (λ (ys : List X). ys ++ replicate (room - length new) empty) is
    ∙ append_assoc (take place xs ++ es) (drop end xs) (replicate (room - length new) empty)
    ∙ sym (ap (λ (ys : List X). ys ++ es ++ drop end (xs ++ others)) (take-append-le place xs others within)
    ∙ ap (λ (ys : List X). take place xs ++ es ++ ys) after)

-- ---- a ring

pub placed_round : (placed room : ℕ) (cells new entities : List EntityState)
    → turned ((placed % room + length entities) % room) new ≡ drop (length entities) (turned (placed % room) cells ++ entities)
    → record { placed = placed + length entities; recent = turned ((placed + length entities) % room) new }
    ≡ with_entities (record { placed = placed; recent = turned (placed % room) cells }) entities
placed_round placed room cells new entities is =
    ap (λ (recent : List EntityState). record { placed = placed + length entities; recent = recent })
    (ap (λ (k : ℕ). turned k new) (sym (mod-add-mod placed room (length entities))) ∙ is)

-- the room of the ring's value
room_of : (r : Inside) (ring : RingState) → IsRing r → ring_in r ≡ ring → length ring.recent ≡ r.room
room_of r ring is view =
    ap (λ (ring : RingState). length ring.recent) (sym view)
    ∙ length-turned (r.placed % r.room) (filled (zero_entity 0) r.room r.cells.items) ∙ length-filled (zero_entity 0) r.room r.cells.items is.2

lent_round : (placed n first count : ℕ) (cells : List EntityState) → length cells ≡ n → 0 < n → first + count ≤ placed → placed ≤ first + n
    → take count (turned (first % n) cells) ≡ entities_from (record { placed = placed; recent = turned (placed % n) cells }) first count
lent_round placed n first count cells whole some were there =
    let more : ℕ = first + n - placed in
    let same : first + length (turned (placed % n) cells) - placed ≡ more = omega (arith, length-turned (placed % n) cells) in
    let further = turned_further (placed % n) more n cells whole (mod-lt placed {m = n} some) (omega arith) in
    let at : (placed % n + more) % n ≡ first % n =
    mod-add-mod placed n more ∙ ap (λ (k : ℕ). k % n) (let e : placed + more ≡ first + n = omega arith in e) ∙ add-mod_right first n in
    sym (ap (λ (k : ℕ). take count (drop k (turned (placed % n) cells))) same ∙ ap (take count) further
    ∙ take-take count (n - more) (turned ((placed % n + more) % n) cells) (omega arith)
    ∙ ap (λ (k : ℕ). take count (turned k cells)) at)

-- the same of the ring's value
lent_of : (r : Inside) (ring : RingState) (first count : ℕ) → IsRing r → ring_in r ≡ ring
    → first + count ≤ ring.placed → ring.placed ≤ first + length ring.recent
    → take count (turned (first % r.room) (filled (zero_entity 0) r.room r.cells.items)) ≡ entities_from ring first count
lent_of r ring first count is view were there =
    let cells = filled (zero_entity 0) r.room r.cells.items in
    let whole : length cells ≡ r.room = length-filled (zero_entity 0) r.room r.cells.items is.2 in
    let placed : ring.placed ≡ r.placed = ap (λ (ring : RingState). ring.placed) (sym view) in
    let room : length ring.recent ≡ r.room = room_of r ring is view in
    lent_round r.placed r.room first count cells whole is.0 (omega arith) (omega arith)
    ∙ ap (λ (ring : RingState). entities_from ring first count) view

-- what is lent was written
lies_within : (first count placed room n : ℕ) → 0 < room → first + count ≤ placed → placed ≤ first + room → min placed room ≤ n → n ≤ room
    → count ≤ room - first % room → first % room + count ≤ n
lies_within first count placed room n some were there written most few = elim (cases_lt placed room) [
  | inl fresh ↦ elim (cases_lt first room) [
    | inl below ↦ let same : first % room ≡ first = mod-eq_of_lt {n = first} {m = room} below in omega arith
    | inr past ↦ omega arith
  ]
  | inr full ↦ let below : first % room < room = mod-lt first {m = room} some in omega arith
]

-- and what is lent round the end only where all was written
is_full : (first count placed room n : ℕ) → 0 < room → first + count ≤ placed → min placed room ≤ n → n ≤ room
    → room - first % room < count → n ≡ room
is_full first count placed room n some were written most past = elim (cases_lt placed room) [
  | inl fresh ↦ let same : first % room ≡ first = mod-eq_of_lt {n = first} {m = room} (omega arith) in omega arith
  | inr full ↦ omega arith
]

-- the entities of one piece, where the slice that is lent from is told by an equation
pub lent_within : (r : Inside) (ring : RingState) (first count : ℕ) (lent : List EntityState) → IsRing r → ring_in r ≡ ring
    → first + count ≤ ring.placed → ring.placed ≤ first + length ring.recent → count ≤ r.room - first % r.room → lent ≡ r.cells.items
    → take count (take (length lent - first % r.room) (drop (first % r.room) lent)) ++ [] ≡ entities_from ring first count
lent_within r ring first count lent ring_is view were there few is =
    let start : ℕ = first % r.room in
    let cells = r.cells.items in
    let others : List EntityState = replicate (r.room - length cells) (zero_entity 0) in
    let placed : ring.placed ≡ r.placed = ap (λ (ring : RingState). ring.placed) (sym view) in
    let room : length ring.recent ≡ r.room = room_of r ring ring_is view in
    let within : start + count ≤ length cells = lies_within first count r.placed r.room (length cells) ring_is.0 (omega arith) (omega arith) ring_is.1 ring_is.2 few in
    let after : drop start (cells ++ others) ≡ drop start cells ++ others = drop-append-le start cells others (omega arith) in
    append-nil (take count (take (length lent - start) (drop start lent)))
    ∙ ap (take count) (take_rest lent start ∙ ap (drop start) is)
    ∙ sym (ap (λ (ys : List EntityState). take count (ys ++ take start (cells ++ others))) after
    ∙ ap (take count) (append_assoc (drop start cells) others (take start (cells ++ others)))
    ∙ take-append-le count (drop start cells) (others ++ take start (cells ++ others)) (omega (arith, length-drop start cells)))
    ∙ lent_of r ring first count ring_is view were there

-- and of two
pub lent_past : (r : Inside) (ring : RingState) (first count : ℕ) (lent other : List EntityState) → IsRing r → ring_in r ≡ ring
    → first + count ≤ ring.placed → ring.placed ≤ first + length ring.recent → r.room - first % r.room < count → lent ≡ r.cells.items → other ≡ r.cells.items
    → take (length lent - first % r.room) (drop (first % r.room) lent) ++ take (count - (r.room - first % r.room)) other ≡ entities_from ring first count
lent_past r ring first count lent other ring_is view were there past is other_is =
    let start : ℕ = first % r.room in
    let after : ℕ = r.room - start in
    let cells = r.cells.items in
    let placed : ring.placed ≡ r.placed = ap (λ (ring : RingState). ring.placed) (sym view) in
    let room : length ring.recent ≡ r.room = room_of r ring ring_is view in
    let whole : length cells ≡ r.room = is_full first count r.placed r.room (length cells) ring_is.0 (omega arith) ring_is.1 ring_is.2 past in
    let below : start < r.room = mod-lt first {m = r.room} ring_is.0 in
    let left : length (drop start cells) ≡ after = omega (arith, length-drop start cells) in
    ap (λ (ys : List EntityState). ys ++ take (count - after) other) (take_rest lent start ∙ ap (drop start) is)
    ∙ ap (λ (ys : List EntityState). drop start cells ++ take (count - after) ys) other_is
    ∙ sym (ap (λ (ys : List EntityState). take count (turned start ys)) (filled_whole (zero_entity 0) r.room cells whole)
    ∙ take_past count (drop start cells) (take start cells) (omega arith)
    ∙ ap (λ (ys : List EntityState). drop start cells ++ ys)
    (ap (λ (k : ℕ). take (count - k) (take start cells)) left ∙ take-take (count - after) start cells (omega arith)))
    ∙ lent_of r ring first count ring_is view were there

-- ---- what is put into the ring where something lay

-- the place of one that was placed was written
is_written : (r : Inside) (ring : RingState) (number : ℕ) → IsRing r → ring_in r ≡ ring → number < ring.placed → ring.placed ≤ number + length ring.recent
    → number % r.room < length r.cells.items
is_written r ring number is view were there =
    let placed : ring.placed ≡ r.placed = ap (λ (ring : RingState). ring.placed) (sym view) in
    let room : length ring.recent ≡ r.room = room_of r ring is view in
    let below : number % r.room < r.room = mod-lt number {m = r.room} is.0 in
    let within : number % r.room + 1 ≤ length r.cells.items =
    lies_within number 1 r.placed r.room (length r.cells.items) is.0 (omega arith) (omega arith) is.1 is.2 (omega arith) in
    omega arith

set_round : (placed n number : ℕ) (cells : List EntityState) (entity : EntityState) → length cells ≡ n → 0 < n → number < placed → placed ≤ number + n
    → turned (placed % n) (set cells (number % n) entity) ≡ (with_entity_at (record { placed = placed; recent = turned (placed % n) cells }) number entity).recent
set_round placed n number cells entity whole some were there =
    let at : ℕ = number + n - placed in
    let same : number + length (turned (placed % n) cells) - placed ≡ at = omega (arith, length-turned (placed % n) cells) in
    let round : (placed % n + at) % n ≡ number % n =
    mod-add-mod placed n at ∙ ap (λ (k : ℕ). k % n) (let e : placed + at ≡ number + n = omega arith in e) ∙ add-mod_right number n in
    ap (λ (k : ℕ). turned (placed % n) (set cells k entity)) (sym round)
    ∙ turned_set (placed % n) at n cells entity whole (mod-lt placed {m = n} some) (omega arith)
    ∙ ap (λ (k : ℕ). set (turned (placed % n) cells) k entity) (sym same)

-- and another that is put there is the ring's entity of that number
pub put_there : (r : Inside) (ring : RingState) (number : ℕ) (entity : EntityState) → IsRing r → ring_in r ≡ ring → number < ring.placed → ring.placed ≤ number + length ring.recent
    → record { placed = r.placed; recent = turned (r.placed % r.room) (filled (zero_entity 0) r.room (set r.cells.items (number % r.room) entity)) } ≡ with_entity_at ring number entity
put_there r ring number entity is view were there =
    let cells = filled (zero_entity 0) r.room r.cells.items in
    let whole : length cells ≡ r.room = length-filled (zero_entity 0) r.room r.cells.items is.2 in
    let placed : ring.placed ≡ r.placed = ap (λ (ring : RingState). ring.placed) (sym view) in
    let room : length ring.recent ≡ r.room = room_of r ring is view in
    let written = filled_set (zero_entity 0) r.room (number % r.room) r.cells.items entity (is_written r ring number is view were there) in
    let round = set_round r.placed r.room number cells entity whole is.0 (omega arith) (omega arith) in
    ap (λ (recent : List EntityState). record { placed = r.placed; recent = recent }) (ap (turned (r.placed % r.room)) written ∙ round)
    ∙ ap (λ (ring : RingState). with_entity_at ring number entity) view

-- the list from one on, after one that is put at it or after it
drop_put : (ring : RingState) (entity : EntityState) (number first : ℕ) → first ≤ number → number < ring.placed → ring.placed ≤ first + length ring.recent
    → drop (first + length (with_entity_at ring number entity).recent - ring.placed) (with_entity_at ring number entity).recent
    ≡ set (drop (first + length ring.recent - ring.placed) ring.recent) (number - first) entity
drop_put ring entity number first after was there =
    let start : ℕ = first + length ring.recent - ring.placed in
    let at : ℕ = number + length ring.recent - ring.placed in
    let same : at ≡ start + (number - first) = omega arith in
    ap (λ (k : ℕ). drop (first + k - ring.placed) (set ring.recent at entity)) (length-set ring.recent at entity)
    ∙ ap (λ (k : ℕ). drop start (set ring.recent k entity)) same
    ∙ drop-set-add start ring.recent (number - first) entity

pub put_next : PutIsNext
put_next ring entity first count was there =
    let start : ℕ = first + length ring.recent - ring.placed in
    let same : first + count - first ≡ count = omega arith in
    ap (take (count + 1)) (drop_put ring entity (first + count) first (omega arith) was there)
    ∙ ap (λ (k : ℕ). take (count + 1) (set (drop start ring.recent) k entity)) same
    ∙ take_more_set (drop start ring.recent) count entity (omega (arith, length-drop start ring.recent))

pub put_after : PutLeavesOthers
put_after ring entity number first count within was there =
    ap (take count) (drop_put ring entity number first (omega arith) was there)
    ∙ take-set-le count (drop (first + length ring.recent - ring.placed) ring.recent) (number - first) entity (omega arith)
