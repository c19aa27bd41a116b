-- What is left of a frame, and what may be read of it.
use Rattle.std.proofs.Common.{◌≡◌, ℕ, ◌+◌, ◌-◌, ◌<◌, ◌≤◌, nat_lt, Bool, true, false, ◌==◌, ◌&&◌, cond, Option, Some, None, inl, inr, refl, sym, ap, ◌∙◌, arith}
use Rattle.std.proofs.lemmas.Bool.{cases_Bool, false≢true, and_parts, and_from, and_right, eqb-true, eq-eqb, ltb-true, lt-ltb}
use Rattle.std.specs.Option.{option_map}
use Rattle.q3_entity_ring.specs.Snapshot.{Snapshot, without_entities}
use Rattle.q3_frames.specs.Frames.{Frame, is_near, has_entities, frame_remains, frame_under}

pub remains-there : (ring placed : ℕ) (frame : Frame) → has_entities ring placed frame ≡ true → frame_remains ring placed frame ≡ frame
remains-there ring placed frame is = ap (λ (b : Bool). cond b frame (record { snapshot = without_entities frame.snapshot; first = frame.first })) is

pub remains-gone : (ring placed : ℕ) (frame : Frame) → has_entities ring placed frame ≡ false
    → frame_remains ring placed frame ≡ record { snapshot = without_entities frame.snapshot; first = frame.first }
remains-gone ring placed frame is = ap (λ (b : Bool). cond b frame (record { snapshot = without_entities frame.snapshot; first = frame.first })) is

-- entities that are there were there
pub has-earlier : (ring p q : ℕ) (frame : Frame) → p ≤ q → has_entities ring q frame ≡ true → has_entities ring p frame ≡ true
has-earlier ring p q frame least is = lt-ltb p (frame.first + ring) (omega (arith, ltb-true q (frame.first + ring) is))

pub remains_twice : (ring p q : ℕ) (frame : Frame) → p ≤ q → frame_remains ring q (frame_remains ring p frame) ≡ frame_remains ring q frame
remains_twice ring p q frame least = elim (cases_Bool (has_entities ring p frame)) [
  | inl is ↦ ap (frame_remains ring q) (remains-there ring p frame is)
  | inr is ↦
      let gone : has_entities ring q frame ≡ false = elim (cases_Bool (has_entities ring q frame)) [
        | inl there ↦ absurd (false≢true (sym is ∙ has-earlier ring p q frame least there))
        | inr gone ↦ gone
      ] in
      ap (frame_remains ring q) (remains-gone ring p frame is)
      ∙ remains-gone ring q (record { snapshot = without_entities frame.snapshot; first = frame.first }) gone ∙ sym (remains-gone ring q frame gone)
]

pub all_remain_twice : (ring p q : ℕ) (frame : Option Frame) → p ≤ q
    → option_map (frame_remains ring q) (option_map (frame_remains ring p) frame) ≡ option_map (frame_remains ring q) frame
all_remain_twice ring p q None least = refl
all_remain_twice ring p q (Some frame) least = ap Some (remains_twice ring p q frame least)

under-gone : (ring placed number : ℕ) (frame : Frame) → has_entities ring placed frame ≡ false → frame_under ring placed number (Some frame) ≡ None
under-gone ring placed number frame is =
    ap (λ (b : Bool). cond b (Some frame.snapshot) None) (and_right (frame.snapshot.head.number == number) (has_entities ring placed frame) is)

-- what is read of a frame is left of it
pub under_remains : (ring placed number : ℕ) (frame : Option Frame)
    → frame_under ring placed number (option_map (frame_remains ring placed) frame) ≡ frame_under ring placed number frame
under_remains ring placed number None = refl
under_remains ring placed number (Some frame) = elim (cases_Bool (has_entities ring placed frame)) [
  | inl is ↦ ap (λ (f : Frame). frame_under ring placed number (Some f)) (remains-there ring placed frame is)
  | inr is ↦
      ap (λ (f : Frame). frame_under ring placed number (Some f)) (remains-gone ring placed frame is)
      ∙ under-gone ring placed number (record { snapshot = without_entities frame.snapshot; first = frame.first }) is
      ∙ sym (under-gone ring placed number frame is)
]

-- what is read of a frame is its own
pub record IsUnder (ring placed number : ℕ) (frame : Frame) (held : Snapshot) : Type 0 where
  pub named : frame.snapshot.head.number ≡ number
  pub there : has_entities ring placed frame ≡ true
  pub same : frame.snapshot ≡ held

pub under-is : (ring placed number : ℕ) (frame : Frame) (held : Snapshot) → frame_under ring placed number (Some frame) ≡ Some held → IsUnder ring placed number frame held
under-is ring placed number frame held is =
    let test : Bool = frame.snapshot.head.number == number && has_entities ring placed frame in
    elim (cases_Bool test) [
      | inl holds ↦
          let parts = and_parts (frame.snapshot.head.number == number) (has_entities ring placed frame) holds in
          let found : Some frame.snapshot ≡ Some held = sym (ap (λ (b : Bool). cond b (Some frame.snapshot) None) holds) ∙ is in
          record { named = eqb-true frame.snapshot.head.number number parts.0; there = parts.1; same = cc }
      | inr fails ↦
          let none : None ≡ Some held = sym (ap (λ (b : Bool). cond b (Some frame.snapshot) None) fails) ∙ is in
          absurd cc
    ]

pub under-named : (ring placed number : ℕ) (frame : Option Frame) (held : Snapshot) → frame_under ring placed number frame ≡ Some held → held.head.number ≡ number
under-named ring placed number None held is = absurd cc
under-named ring placed number (Some frame) held is =
    let it = under-is ring placed number frame held is in
    ap (λ (s : Snapshot). s.head.number) (sym it.same) ∙ it.named

-- what can be read of a frame could be read of it earlier
pub under-earlier : (ring p q number : ℕ) (frame : Option Frame) (held : Snapshot) → p ≤ q
    → frame_under ring q number frame ≡ Some held → frame_under ring p number frame ≡ Some held
under-earlier ring p q number None held least is = is
under-earlier ring p q number (Some frame) held least is =
    let it = under-is ring q number frame held is in
    let test = and_from (frame.snapshot.head.number == number) (has_entities ring p frame)
    (eq-eqb frame.snapshot.head.number number it.named) (has-earlier ring p q frame least it.there) in
    ap (λ (b : Bool). cond b (Some frame.snapshot) None) test ∙ ap Some it.same

-- by how much a number is near
pub near_parts : (number base : ℕ) → is_near number base ≡ true → (0 < base) × (base < number) × (number < base + 29)
near_parts number base is =
    let all = and_parts (nat_lt 0 base && nat_lt base number) (nat_lt (number - base) 29) is in
    let low = and_parts (nat_lt 0 base) (nat_lt base number) all.0 in
    (ltb-true 0 base low.0, ltb-true base number low.1, omega (arith, ltb-true base number low.1, ltb-true (number - base) 29 all.1))
