-- Baselines by their places: what stands for each number, where a state is set, replaced, or all are forgotten.
use Rattle.std.proofs.Common.{◌≡◌, ◌≢◌, ◌⊎◌, ◌≤◌, ◌<◌, ◌+◌, inl, inr, subst, ℕ, zero, suc, true, false, List, [], ◌∷◌, ◌++◌, length, get_or, set, map, replicate, Option, Some, None, refl, sym, ap, ◌∙◌, arith}
use Rattle.std.specs.Prelude.{◌==◌, slice_get}
use Rattle.std.specs.List.{All}
use Rattle.std.proofs.lemmas.Bool.{cases_Bool, cases_eq, ne_eqb}
use Rattle.std.proofs.lemmas.List.{ext_get_or, length-map, length-set, length_push, length-replicate, get_or-map, get_or_default, get_or-replicate, get_or-set_same, get_or-set_other, get_or_push, get_or_append_left}
use Rattle.std.proofs.lemmas.List.Elements.{All-nil, All-push, All-set, All-get_or}
use Rattle.std.proofs.lemmas.Option.{slice_get_past, slice_get-get_or}
use Rattle.q3_entity.specs.declared.state.EntityState.{EntityState}
use Rattle.q3_entity.specs.Baselines.{most_baselines, no_baselines, set_baselines}
use Rattle.q3_entity.specs.Entities.{zero_entity}
use Rattle.q3_entity.specs.KeptBaselines.{nowhere, baselines_in, IsPlaced, unplaced, count_placed, AreKept}

-- ---- how many numbers have a place

count-few : (places : List ℕ) → count_placed places ≤ length places
unfolding count_placed
count-few [] = omega arith
count-few (place ∷ places) = elim (cases_Bool (place == nowhere)) [
  | inl is ↦ rw is (omega (arith, count-few places))
  | inr not ↦ rw not (omega (arith, count-few places))
]

-- one more has
count-more : (places : List ℕ) (i place : ℕ) → i < length places → (get_or places i nowhere == nowhere) ≡ true → (place == nowhere) ≡ false → count_placed (set places i place) ≡ count_placed places + 1
unfolding count_placed
count-more [] i place within was is = absurd (omega arith)
count-more (one ∷ others) zero place within was is = rw (was, is) (omega arith)
count-more (one ∷ others) (suc i) place within was is = omega (arith, count-more others i place (omega arith) was is)

count-none : (n : ℕ) → count_placed (replicate n nowhere) ≡ 0
unfolding count_placed
count-none zero = refl
count-none (suc n) = omega (arith, count-none n)

-- ---- what stands for a number

abbrev pub no_state : EntityState
no_state = zero_entity 0

pub at : (places : List ℕ) (states : List EntityState) (number : ℕ) → number < length places → get_or (baselines_in places states) number None ≡ slice_get states (get_or places number nowhere)
at places states number within = get_or-map (slice_get states) places number nowhere None within

-- a place that was read, whatever stands for one that isn't there
pub place_is : (places : List ℕ) (i j d : ℕ) → i ≡ j → j < length places → get_or places i d ≡ get_or places j nowhere
place_is places i j d same within = ap (λ (n : ℕ). get_or places n d) same ∙ get_or_default places j d nowhere within

-- nothing stands nowhere
none_there : (states : List EntityState) (place : ℕ) → length states ≤ most_baselines → place ≡ nowhere → slice_get states place ≡ None
none_there states place few is = slice_get_past states place (omega (arith, few, is))

pub few : (places : List ℕ) (states : List EntityState) → AreKept places states → length states ≤ most_baselines
few places states kept = omega (arith, kept.count, count-few places, kept.all)

-- as many numbers have a state as have a place
counted : (places : List ℕ) (states : List EntityState) → length states ≤ most_baselines
    → ((i : ℕ) → i < length places → (get_or places i nowhere ≡ nowhere) ⊎ (get_or places i nowhere < length states)) → length (set_baselines (baselines_in places states)) ≡ count_placed places
unfolding count_placed
counted [] states few placed = refl
counted (place ∷ places) states few placed =
    let others : length (set_baselines (baselines_in places states)) ≡ count_placed places = counted places states few (λ i within. placed (suc i) (omega (arith, within))) in
    elim (placed 0 (omega arith)) [
      | inl none ↦
          let is : (place == nowhere) ≡ true = rw none refl in
          rw (is, none_there states place few none) (omega (arith, others))
      | inr there ↦
          let is : (place == nowhere) ≡ false = ne_eqb place nowhere (λ same. omega (arith, few, there, same)) in
          rw (is, slice_get-get_or states place no_state there) (omega (arith, others))
    ]

pub counts : (places : List ℕ) (states : List EntityState) → AreKept places states → length states ≡ length (set_baselines (baselines_in places states))
counts places states kept =
    kept.count
    ∙ sym (counted places states (few places states kept)
    (λ i within.
    elim (kept.placed i (omega (arith, within, kept.all))) [
      | inl none ↦ inl none
      | inr its ↦ inr its.0
    ]))

-- ---- a state over that of its number

pub record Replaced (places : List ℕ) (states : List EntityState) (number : ℕ) (state : EntityState) : Type 0 where
  pub baselines : baselines_in places (set states (get_or places number nowhere) state) ≡ set (baselines_in places states) number (Some state)
  pub kept : AreKept places (set states (get_or places number nowhere) state)

pub replaced : (places : List ℕ) (states : List EntityState) (number : ℕ) (state : EntityState) → AreKept places states → number < most_baselines → state.number ≡ number
    → get_or places number nowhere ≢ nowhere → Replaced places states number state
replaced places states number state kept low own some = elim (kept.placed number low) [
  | inl none ↦ absurd (some none)
  | inr there ↦
      let place = get_or places number nowhere in
      let long : length (set states place state) ≡ length states = length-set states place state in
      let others : (k : ℕ) → k < length places → k ≢ number → slice_get (set states place state) (get_or places k nowhere) ≡ slice_get states (get_or places k nowhere) = λ k within other.
      elim (kept.placed k (omega (arith, within, kept.all))) [
        | inl none ↦ none_there (set states place state) (get_or places k nowhere) (omega (arith, long, few places states kept)) none ∙ sym (none_there states (get_or places k nowhere) (few places states kept) none)
        | inr its ↦
            let p = get_or places k nowhere in
            let apart : p ≢ place = λ same. other (sym its.1 ∙ ap (λ (n : ℕ). (get_or states n no_state).number) same ∙ there.1) in
            slice_get-get_or (set states place state) p no_state (omega (arith, its.0, long))
            ∙ ap (λ (s : EntityState). Some s) (get_or-set_other states place p state no_state apart)
            ∙ sym (slice_get-get_or states p no_state its.0)
      ] in
      record {
        baselines = ext_get_or None (baselines_in places (set states place state)) (set (baselines_in places states) number (Some state))
            (length-map places (slice_get (set states place state)) ∙ sym (length-map places (slice_get states)) ∙ sym (length-set (baselines_in places states) number (Some state)))
            (λ k within.
            let inside : k < length places = omega (arith, within, length-map places (slice_get (set states place state))) in
            elim (cases_eq k number) [
              | inl same ↦
                  at places (set states place state) k inside
                  ∙ ap (λ (n : ℕ). slice_get (set states place state) (get_or places n nowhere)) same
                  ∙ slice_get-get_or (set states place state) place no_state (omega (arith, there.0, long))
                  ∙ ap (λ (s : EntityState). Some s) (get_or-set_same states place state no_state there.0)
                  ∙ sym (ap (λ (n : ℕ). get_or (set (baselines_in places states) number (Some state)) n None) same
                  ∙ get_or-set_same (baselines_in places states) number (Some state) None (omega (arith, inside, same, length-map places (slice_get states))))
              | inr other ↦
                  at places (set states place state) k inside
                  ∙ others k inside other
                  ∙ sym (get_or-set_other (baselines_in places states) number k (Some state) None other ∙ at places states k inside)
            ]);
        kept = record {
          all = kept.all;
          placed = λ k small. elim (kept.placed k small) [
            | inl none ↦ inl none
            | inr its ↦
                let p = get_or places k nowhere in
                inr (
                  omega (arith, its.0, long),
                  elim (cases_eq p place) [
                    | inl same ↦
                        let k_is : k ≡ number = sym its.1 ∙ ap (λ (n : ℕ). (get_or states n no_state).number) same ∙ there.1 in
                        ap (λ (n : ℕ). (get_or (set states place state) n no_state).number) same
                        ∙ ap (λ (s : EntityState). s.number) (get_or-set_same states place state no_state there.0)
                        ∙ own ∙ sym k_is
                    | inr apart ↦ ap (λ (s : EntityState). s.number) (get_or-set_other states place p state no_state apart) ∙ its.1
                  ],
                )
          ];
          below = All-set (λ (s : EntityState). s.number < most_baselines) states place state (omega (arith, own, low)) kept.below;
          count = long ∙ kept.count;
        };
      }
]

-- ---- a state after all others

pub record Added (places : List ℕ) (states : List EntityState) (number : ℕ) (state : EntityState) : Type 0 where
  pub baselines : baselines_in (set places number (length states)) (states ++ state ∷ []) ≡ set (baselines_in places states) number (Some state)
  pub kept : AreKept (set places number (length states)) (states ++ state ∷ [])
  pub room : length states < most_baselines

pub added : (places : List ℕ) (states : List EntityState) (number : ℕ) (state : EntityState) → AreKept places states → number < most_baselines → state.number ≡ number
    → get_or places number nowhere ≡ nowhere → Added places states number state
added places states number state kept low own none =
    let inside : number < length places = omega (arith, low, kept.all) in
    let count = length states in
    let was : (get_or places number nowhere == nowhere) ≡ true = rw none refl in
    let room : count < most_baselines =
    omega (arith, kept.count, count-more places number 0 inside was refl, count-few (set places number 0), length-set places number 0, kept.all) in
    let is : (count == nowhere) ≡ false = ne_eqb count nowhere (λ same. omega (arith, room, same)) in
    let more : length (states ++ state ∷ []) ≡ count + 1 = length_push states state in
    let stays : (p : ℕ) → p < count → get_or (states ++ state ∷ []) p no_state ≡ get_or states p no_state = λ p within. get_or_append_left states (state ∷ []) no_state p within in
    record {
      baselines = ext_get_or None (baselines_in (set places number count) (states ++ state ∷ [])) (set (baselines_in places states) number (Some state))
          (length-map (set places number count) (slice_get (states ++ state ∷ [])) ∙ length-set places number count ∙ sym (length-map places (slice_get states)) ∙ sym (length-set (baselines_in places states) number (Some state)))
          (λ k within.
          let here : k < length (set places number count) = omega (arith, within, length-map (set places number count) (slice_get (states ++ state ∷ []))) in
          let there : k < length places = omega (arith, here, length-set places number count) in
          elim (cases_eq k number) [
            | inl same ↦
                at (set places number count) (states ++ state ∷ []) k here
                ∙ ap (λ (n : ℕ). slice_get (states ++ state ∷ []) (get_or (set places number count) n nowhere)) same
                ∙ ap (slice_get (states ++ state ∷ [])) (get_or-set_same places number count nowhere inside)
                ∙ slice_get-get_or (states ++ state ∷ []) count no_state (omega (arith, more))
                ∙ ap (λ (s : EntityState). Some s) (get_or_push states state no_state count refl)
                ∙ sym (ap (λ (n : ℕ). get_or (set (baselines_in places states) number (Some state)) n None) same
                ∙ get_or-set_same (baselines_in places states) number (Some state) None (omega (arith, inside, length-map places (slice_get states))))
            | inr other ↦
                let p = get_or places k nowhere in
                let shown : slice_get (states ++ state ∷ []) p ≡ slice_get states p = elim (kept.placed k (omega (arith, there, kept.all))) [
                  | inl gone ↦ none_there (states ++ state ∷ []) p (omega (arith, more, room)) gone ∙ sym (none_there states p (omega (arith, room)) gone)
                  | inr its ↦
                      slice_get-get_or (states ++ state ∷ []) p no_state (omega (arith, its.0, more))
                      ∙ ap (λ (s : EntityState). Some s) (stays p its.0)
                      ∙ sym (slice_get-get_or states p no_state its.0)
                ] in
                at (set places number count) (states ++ state ∷ []) k here
                ∙ ap (slice_get (states ++ state ∷ [])) (get_or-set_other places number k count nowhere other)
                ∙ shown
                ∙ sym (get_or-set_other (baselines_in places states) number k (Some state) None other ∙ at places states k there)
          ]);
      kept = record {
        all = length-set places number count ∙ kept.all;
        placed = λ k small. elim (cases_eq k number) [
          | inl same ↦
              let here : get_or (set places number count) k nowhere ≡ count = ap (λ (n : ℕ). get_or (set places number count) n nowhere) same ∙ get_or-set_same places number count nowhere inside in
              subst (IsPlaced (states ++ state ∷ []) k) (sym here)
              (inr (omega (arith, more), ap (λ (s : EntityState). s.number) (get_or_push states state no_state count refl) ∙ own ∙ sym same))
          | inr other ↦
              let p = get_or places k nowhere in
              let stood : IsPlaced (states ++ state ∷ []) k p = elim (kept.placed k small) [
                | inl gone ↦ inl gone
                | inr its ↦ inr (omega (arith, its.0, more), ap (λ (s : EntityState). s.number) (stays p its.0) ∙ its.1)
              ] in
              subst (IsPlaced (states ++ state ∷ []) k) (sym (get_or-set_other places number k count nowhere other)) stood
        ];
        below = All-push (λ (s : EntityState). s.number < most_baselines) states state kept.below (omega (arith, own, low));
        count = more ∙ ap (λ (n : ℕ). n + 1) kept.count ∙ sym (count-more places number count inside was is);
      };
      room = room;
    }

-- ---- all are forgotten

-- a number has no place, or that of its own state, which isn't below `first`
abbrev IsPlacedFrom : List EntityState → ℕ → ℕ → ℕ → Type 0
IsPlacedFrom states first number place = (place ≡ nowhere) ⊎ ((first ≤ place) × (place < length states) × ((get_or states place no_state).number ≡ number))

abbrev pub ArePlacedFrom : List ℕ → List EntityState → ℕ → Type 0
ArePlacedFrom places states first = (number : ℕ) → number < most_baselines → IsPlacedFrom states first number (get_or places number nowhere)

pub placed_from : (places : List ℕ) (states : List EntityState) → AreKept places states → ArePlacedFrom places states 0
placed_from places states kept number low = elim (kept.placed number low) [
  | inl none ↦ inl none
  | inr its ↦ inr (omega arith, its.0, its.1)
]

-- the place of the next state's number
pub forgets : (places : List ℕ) (states : List EntityState) (k : ℕ) → length places ≡ most_baselines → All (λ (s : EntityState). s.number < most_baselines) states → k < length states
    → ArePlacedFrom places states k → ArePlacedFrom (set places (get_or states k no_state).number nowhere) states (k + 1)
forgets places states k all below more placed number low =
    let i = (get_or states k no_state).number in
    let inside : i < length places = omega (arith, All-get_or (λ (s : EntityState). s.number < most_baselines) states k no_state more below, all) in
    elim (cases_eq number i) [
      | inl same ↦ inl (ap (λ (n : ℕ). get_or (set places i nowhere) n nowhere) same ∙ get_or-set_same places i nowhere nowhere inside)
      | inr other ↦
          let p = get_or places number nowhere in
          let stood : IsPlacedFrom states (k + 1) number p = elim (placed number low) [
            | inl gone ↦ inl gone
            | inr its ↦
                let apart : p ≢ k = λ same. other (sym its.2 ∙ ap (λ (n : ℕ). (get_or states n no_state).number) same) in
                inr (omega (arith, its.0, apart), its.1, its.2)
          ] in
          subst (IsPlacedFrom states (k + 1) number) (sym (get_or-set_other places i number nowhere nowhere other)) stood
    ]

pub forgotten : (places : List ℕ) (states : List EntityState) (k : ℕ) → length places ≡ most_baselines → length states ≤ k → ArePlacedFrom places states k → places ≡ unplaced most_baselines
unfolding unplaced
forgotten places states k all end placed =
    ext_get_or nowhere places (replicate most_baselines nowhere) (all ∙ sym (length-replicate {A = ℕ} most_baselines nowhere))
    (λ number within.
    let low : number < most_baselines = omega (arith, within, all) in
    elim (placed number low) [
      | inl gone ↦ gone ∙ sym (get_or-replicate most_baselines number nowhere nowhere low)
      | inr its ↦ absurd (omega (arith, its.0, its.1, end))
    ])

-- ---- none is set

map-none : (n : ℕ) → map (slice_get {X = EntityState} []) (replicate n nowhere) ≡ replicate n None
map-none zero = refl
map-none (suc n) = ap (λ (baselines : List (Option EntityState)). None ∷ baselines) (map-none n)

pub none_in : baselines_in (unplaced most_baselines) [] ≡ no_baselines
unfolding unplaced
none_in = map-none most_baselines

pub none_kept : AreKept (unplaced most_baselines) []
unfolding unplaced
none_kept = record {
  all = length-replicate {A = ℕ} most_baselines nowhere;
  placed = λ number low. inl (get_or-replicate most_baselines number nowhere nowhere low);
  below = All-nil (λ (s : EntityState). s.number < most_baselines);
  count = sym (count-none most_baselines);
}
