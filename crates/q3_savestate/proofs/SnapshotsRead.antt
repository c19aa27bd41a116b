-- Snapshots that are read one after the other.
use Rattle.std.proofs.Common.{◌≡◌, ℕ, zero, suc, ◌+◌, ◌-◌, ◌<◌, ◌≤◌, length, get_or, replicate, Option, None, Ok, Err, refl, sym, ap, ◌∙◌, subst, arith}
use Rattle.std.specs.Prelude.{IfSome, ◌==◌, if◌then◌else◌}
use Rattle.q3_profile.specs.declared.profile.Profile.{Profile}
use Rattle.q3_entity_ring.specs.Places.{most_places}
use Rattle.q3_rings.specs.Rings.{HeldSnapshot, HeldSnapshots, RingsState, no_snapshots, no_rings}
use Rattle.q3_savestate.specs.Cursor.{Cursor, Field, number_at}
use Rattle.q3_savestate.specs.Snapshots.{last_number, snapshot_at, snapshots_after, snapshots_at}
use Rattle.q3_savestate.specs.Reading.{as_field, left_by_one, MayPutBack}
use Rattle.q3_savestate.proofs.SnapshotRead.{as_field_ok}

-- so many are put back, and what is left makes the whole
pub record HasBack (profile : Profile) (newest count : ℕ) (start now : Cursor) (k most : ℕ) (rings : RingsState) : Type 0 where
  pub may : MayPutBack profile.parse_ring most rings
  pub left : snapshots_after profile newest (count - k) most rings.held now ≡ snapshots_after profile newest count 4294967295 (no_snapshots profile.parse_ring) start

none_at : (count place : ℕ) → get_or {A = Option HeldSnapshot} (replicate count None) place None ≡ None
none_at zero place = refl
none_at (suc count) zero = refl
none_at (suc count) (suc place) = none_at count place

pub begin : (profile : Profile) (newest count : ℕ) (start : Cursor) (rings : RingsState) → rings ≡ no_rings profile.parse_ring → HasBack profile newest count start start 0 4294967295 rings
begin profile newest count start rings none = subst (HasBack profile newest count start start 0 4294967295) (sym none) (record {
  may = record {
    room_is = refl;
    none = refl;
    first = λ zero. refl;
    placed = λ some. absurd (omega arith);
    older = λ place. subst (λ found. IfSome found (λ held. length held.snapshot.entities + 4294967295 ≤ held.age)) (sym (none_at most_places place)) tt;
  };
  left = ap (λ count. snapshots_after profile newest count 4294967295 (no_snapshots profile.parse_ring) start) (let all : count - 0 ≡ count = omega arith in all);
})

next_back : (profile : Profile) (newest left most next : ℕ) (held after : HeldSnapshots) (now behind : Cursor) → Ok ((next, after), behind) ≡ as_field (left_by_one held) (snapshot_at profile held newest left most now)
    → snapshots_after profile newest (suc left) most held now ≡ snapshots_after profile newest left next after behind
unfolding snapshots_after
next_back profile newest left most next held after now behind read =
    let one = as_field_ok (left_by_one held) (snapshot_at profile held newest left most now) (next, after) behind read in
    rw one.1 (ap (λ (x : ℕ × HeldSnapshots). snapshots_after profile newest left x.0 x.1 behind) (sym one.2))

-- one more is put back
pub more : (profile : Profile) (newest count : ℕ) (start now behind : Cursor) (k most next : ℕ) (rings after : RingsState) → HasBack profile newest count start now k most rings → k < count
    → Ok ((next, after.held), behind) ≡ as_field (left_by_one rings.held) (snapshot_at profile rings.held newest (count - k - 1) most now) → MayPutBack profile.parse_ring next after
    → HasBack profile newest count start behind (k + 1) next after
more profile newest count start now behind k most next rings after has less read may = record {
  may = may;
  left =
      let one : count - k ≡ suc (count - k - 1) = omega arith in
      let others : count - (k + 1) ≡ count - k - 1 = omega arith in
      ap (λ left. snapshots_after profile newest left next after.held behind) others
      ∙ sym (next_back profile newest (count - k - 1) most next rings.held after.held now behind read)
      ∙ ap (λ left. snapshots_after profile newest left most rings.held now) (sym one)
      ∙ has.left;
}

refused_one : (held : HeldSnapshots) (read : Field HeldSnapshot) (at : ℕ) → Err at ≡ as_field (left_by_one held) read → read ≡ Err at
refused_one held (Ok x) at e = absurd cc
refused_one held (Err place) at e = cc

-- one can't be read
pub stops : (profile : Profile) (newest count : ℕ) (start now : Cursor) (k most at : ℕ) (rings : RingsState) → HasBack profile newest count start now k most rings → k < count
    → Err at ≡ as_field (left_by_one rings.held) (snapshot_at profile rings.held newest (count - k - 1) most now)
    → Err at ≡ snapshots_after profile newest count 4294967295 (no_snapshots profile.parse_ring) start
unfolding snapshots_after
stops profile newest count start now k most at rings has less read =
    let one : count - k ≡ suc (count - k - 1) = omega arith in
    let none : snapshots_after profile newest (suc (count - k - 1)) most rings.held now ≡ Err at =
    rw (refused_one rings.held (snapshot_at profile rings.held newest (count - k - 1) most now) at read) refl in
    sym none ∙ ap (λ left. snapshots_after profile newest left most rings.held now) (sym one) ∙ has.left

-- all are read
pub all : (profile : Profile) (newest count : ℕ) (start now : Cursor) (k most : ℕ) (rings : RingsState) → HasBack profile newest count start now k most rings → k ≡ count
    → Ok (rings.held, now) ≡ snapshots_after profile newest count 4294967295 (no_snapshots profile.parse_ring) start
unfolding snapshots_after
all profile newest count start now k most rings has end =
    let none : count - k ≡ 0 = omega arith in
    ap (λ left. snapshots_after profile newest left most rings.held now) (sym none) ∙ has.left

-- what stands in front of them
pub whole_is : (profile : Profile) (newest least count : ℕ) (start first second : Cursor) → Ok (newest, first) ≡ number_at 4 0 last_number start
    → Ok (count, second) ≡ number_at 1 least most_places first → least ≡ (if newest == 0 then 0 else 1)
    → snapshots_after profile newest count 4294967295 (no_snapshots profile.parse_ring) second ≡ snapshots_at profile start
unfolding snapshots_at
whole_is profile newest least count start first second newest_read count_read least_is = rw (← newest_read, ← least_is, ← count_read) refl
