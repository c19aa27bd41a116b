-- What stands in a place of a slot's frames.
use Rattle.std.proofs.Common.{◌≡◌, ℕ, ◌<◌, Bool, List, [], ◌==◌, ◌&&◌, cond, length, map, get_or, set, replicate, slice_index_or, slice_set, Option, Some, None, inl, inr, ◌⊎◌, sym, ap, ◌∙◌, subst, arith}
use Rattle.std.proofs.Math.ListN.{get_or-map}
use Rattle.std.proofs.lemmas.Bool.{cases_Bool, cases_eq, cases_lt, false≢true, and_parts, and_from, eqb-true, eq-eqb}
use Rattle.std.proofs.lemmas.List.{get_or-set_other, get_or_past, get_or-replicate, length-set, length-replicate, map-set}
use Rattle.std.proofs.lemmas.Grind.{get_or-set_at}
use Rattle.std.proofs.lemmas.Nat.{mod_below}
use Rattle.std.specs.Option.{option_map}
use Rattle.q3_entity_ring.specs.Places.{most_places, place_of, no_places, at_number, put_at_number}
use Rattle.q3_frames.specs.Frames.{Frame, with_frame}

-- a function of each thing that stands in a place
abbrev pub each : {X Y : Type 0} → (X → Y) → List (Option X) → List (Option Y)
each f places = map (option_map f) places

pub at_each : {X Y : Type 0} (f : X → Y) (slots : List (List (Option X))) (slot number : ℕ)
    → at_number (slice_index_or (map (each f) slots) slot []) number ≡ option_map f (at_number (slice_index_or slots slot []) number)
at_each {X = X} {Y = Y} f slots slot number =
    ap (λ (places : List (Option Y)). at_number places number) (get_or-map (each f) slots slot [])
    ∙ get_or-map (option_map f) (get_or slots slot []) (place_of number) None

pub each-put : {X Y : Type 0} (f : X → Y) (slots : List (List (Option X))) (slot number : ℕ) (x : X)
    → map (each f) (slice_set slots slot (put_at_number (slice_index_or slots slot []) number x))
    ≡ slice_set (map (each f) slots) slot (put_at_number (slice_index_or (map (each f) slots) slot []) number (f x))
each-put {X = X} {Y = Y} f slots slot number x =
    map-set (each f) slots slot (put_at_number (get_or slots slot []) number x)
    ∙ ap (λ (places : List (Option Y)). set (map (each f) slots) slot places)
    (map-set (option_map f) (get_or slots slot []) (place_of number) (Some x)
    ∙ ap (λ (places : List (Option Y)). set places (place_of number) (Some (f x))) (sym (get_or-map (each f) slots slot [])))

pub none_at : {X : Type 0} (slots slot number : ℕ) → at_number (slice_index_or (replicate slots (no_places {X = X})) slot []) number ≡ None
none_at {X = X} slots slot number =
    let empty : at_number (no_places {X = X}) number ≡ None = get_or-replicate most_places (place_of number) None None (mod_below number most_places (omega arith)) in
    elim (cases_lt slot slots) [
      | inl within ↦ ap (λ (places : List (Option X)). at_number places number) (get_or-replicate slots slot (no_places {X = X}) [] within) ∙ empty
      | inr past ↦
          ap (λ (places : List (Option X)). at_number places number)
          (get_or_past (replicate slots (no_places {X = X})) slot [] (omega (arith, length-replicate slots (no_places {X = X}))))
    ]

-- ---- a frame in its place

-- what is read after a `set` was there before, and is the default at the place itself, or it was put there
set_read : {X : Type 0} (xs : List X) (i j : ℕ) (y d : X)
    → ((get_or (set xs i y) j d ≡ get_or xs j d) × (j ≡ i → get_or (set xs i y) j d ≡ d)) ⊎ ((j ≡ i) × (get_or (set xs i y) j d ≡ y))
set_read xs i j y d = elim (cases_eq j i) [
  | inr other ↦ inl (get_or-set_other xs i j y d other, λ same. absurd (other same))
  | inl same ↦ elim (cases_lt i (length xs)) [
    | inl within ↦ inr (same, get_or-set_at xs i j y d same within)
    | inr past ↦
        let none : get_or (set xs i y) j d ≡ d = get_or_past (set xs i y) j d (omega (arith, length-set xs i y)) in
        inl (none ∙ sym (get_or_past xs j d (omega arith)), λ same. none)
  ]
]

-- what stands in a place stood there before, and in the frame's own place nothing does, or it is the frame
pub with_frame_read : (slots : List (List (Option Frame))) (c : ℕ) (frame : Frame) (slot number : ℕ)
    → ((at_number (slice_index_or (with_frame slots c frame) slot []) number ≡ at_number (slice_index_or slots slot []) number)
    × (slot ≡ c → place_of number ≡ place_of frame.snapshot.head.number → at_number (slice_index_or (with_frame slots c frame) slot []) number ≡ None))
    ⊎ ((slot ≡ c) × (place_of number ≡ place_of frame.snapshot.head.number)
    × (at_number (slice_index_or (with_frame slots c frame) slot []) number ≡ Some frame))
with_frame_read slots c frame slot number =
    let named = frame.snapshot.head.number in
    let at : List (Option Frame) → Option Frame = λ places. at_number places number in
    elim (set_read slots c slot (put_at_number (get_or slots c []) named frame) []) [
      | inl e ↦ inl (ap at e.0, λ same place. ap at (e.1 same) ∙ get_or_past [] (place_of number) None (omega arith))
      | inr e ↦ elim (set_read (get_or slots c []) (place_of named) (place_of number) (Some frame) None) [
        | inl k ↦ inl (ap at e.1 ∙ k.0 ∙ ap (λ (s : ℕ). at (get_or slots s [])) (sym e.0), λ same place. ap at e.1 ∙ k.1 place)
        | inr k ↦ inr (e.0, k.0, ap at e.1 ∙ k.1)
      ]
    ]

-- exactly
pub with_frame_at : (slots : List (List (Option Frame))) (c : ℕ) (frame : Frame) (slot number : ℕ) → c < length slots
    → length (slice_index_or slots c []) ≡ most_places
    → at_number (slice_index_or (with_frame slots c frame) slot []) number
    ≡ cond (c == slot && place_of frame.snapshot.head.number == place_of number) (Some frame) (at_number (slice_index_or slots slot []) number)
with_frame_at slots c frame slot number within count =
    let named = frame.snapshot.head.number in
    let old = at_number (get_or slots slot []) number in
    let test : Bool = c == slot && place_of named == place_of number in
    let pick : Bool → Option Frame = λ b. cond b (Some frame) old in
    elim (cases_Bool test) [
      | inl holds ↦
          let parts = and_parts (c == slot) (place_of named == place_of number) holds in
          let same : slot ≡ c = sym (eqb-true c slot parts.0) in
          let place : place_of number ≡ place_of named = sym (eqb-true (place_of named) (place_of number) parts.1) in
          let below : place_of named < most_places = mod_below named most_places (omega arith) in
          ap (λ (places : List (Option Frame)). at_number places number) (get_or-set_at slots c slot (put_at_number (get_or slots c []) named frame) [] same within)
          ∙ get_or-set_at (get_or slots c []) (place_of named) (place_of number) (Some frame) None place (subst (λ (n : ℕ). place_of named < n) (sym count) below)
          ∙ sym (ap pick holds)
      | inr fails ↦ elim (with_frame_read slots c frame slot number) [
        | inl e ↦ e.0 ∙ sym (ap pick fails)
        | inr e ↦ absurd (false≢true (sym fails ∙ and_from (c == slot) (place_of named == place_of number)
            (eq-eqb c slot (sym e.0)) (eq-eqb (place_of named) (place_of number) (sym e.1))))
      ]
    ]

pub with_frame-count : (slots : List (List (Option Frame))) (c : ℕ) (frame : Frame) (slot : ℕ)
    → length (slice_index_or (with_frame slots c frame) slot []) ≡ length (slice_index_or slots slot [])
with_frame-count slots c frame slot =
    let new = put_at_number (get_or slots c []) frame.snapshot.head.number frame in
    let count : List (Option Frame) → ℕ = λ places. length places in
    elim (set_read slots c slot new []) [
      | inl e ↦ ap count e.0
      | inr e ↦ ap count e.1 ∙ length-set (get_or slots c []) (place_of frame.snapshot.head.number) (Some frame) ∙ ap (λ (s : ℕ). count (get_or slots s [])) (sym e.0)
    ]
