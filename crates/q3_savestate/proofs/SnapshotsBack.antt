-- Snapshots: what was written is read.
use Rattle.std.proofs.Common.{◌≡◌, ℕ, zero, suc, ◌+◌, ◌-◌, ◌^◌, ◌<◌, ◌≤◌, ◌==◌, true, if◌then◌else◌, List, [], ◌∷◌, ◌++◌, length, Option, Some, Ok, inl, inr, refl, sym, ap, subst, arith}
use Rattle.std.specs.Prelude.{IfSome}
use Rattle.std.specs.List.{flat_map, concat}
use Rattle.std.proofs.lemmas.Bool.{cases_lt, cond_both, eqb-false}
use Rattle.std.proofs.lemmas.List.{append-nil}
use Rattle.byteorder.specs.Endian.{little_bytes, little_number}
use Rattle.q3_entity_ring.specs.Places.{most_places, place_of}
use Rattle.q3_rings.specs.Rings.{HeldSnapshot, HeldSnapshots, IsHeldIn, no_snapshots, put_back_at}
use Rattle.q3_rings.specs.ByNumber.{held_under, one_of, HoldsNewest}
use Rattle.q3_profile.specs.declared.profile.Profile.{Profile}
use Rattle.q3_profile.specs.Profile.{IsCodec}
use Rattle.q3_savestate.specs.Snapshots.{last_number, is_slot, slot_at, most_of, snapshot_bytes, snapshots_bytes, snapshot_at, snapshots_after, snapshots_at}
use Rattle.q3_savestate.specs.Standing.{IsHeldWell, AreWellHeld}
use Rattle.q3_savestate.proofs.Fields.{field_back, number_of_bytes}
use Rattle.q3_savestate.proofs.Rows.{ReadsBack, reads_back, back_then, back_end}
use Rattle.q3_savestate.proofs.PartsRead.{number_read, entities_read}
use Rattle.q3_savestate.proofs.Heads.{IsHead, head_read}
use Rattle.q3_savestate.proofs.HeldInOrder.{none_or_one, held_from, held_is_there, newest_is_held, some_left, IsUpTo, none_is_up_to, up_to_passes, up_to_put, up_to_newest}
use Rattle.q3_savestate.proofs.HeldRules.{each_at, in_order, few_are_held, next_is_slot, AreYounger, all_are_younger, others_are_younger, next_are_younger, next_is, few_entities}

-- a number that meets its rule
slot_read : (held : HeldSnapshots) (newest left number : ℕ) → number < 2 ^ 31 → is_slot held newest left number ≡ true
    → ReadsBack (slot_at held newest left) (little_bytes 4 number) number
slot_read held newest left number fits may =
    reads_back (slot_at held newest left) (little_bytes 4 number) number 4
    (λ at rest. field_back 4 (little_number 4) (is_slot held newest left) number (little_bytes 4 number) rest at refl (number_of_bytes 4 number (omega arith)) may)

-- the head of what is well held
is_head : (profile : Profile) (ring : ℕ) (one : HeldSnapshot) → IsHeldWell profile ring one → IsHead profile one.snapshot.head
is_head profile ring one is = record { time = is.time; flags = is.flags; area = is.area; short = is.short; player = (is.player, is.normal_player) }

-- one snapshot
snapshot_read : (profile : Profile) (held : HeldSnapshots) (newest left most place above : ℕ) (one : HeldSnapshot) → IsCodec profile
    → is_slot held newest left one.snapshot.head.number ≡ true → IsHeldWell profile held.ring one → IsHeldIn above place one → one.age ≤ most
    → ReadsBack (snapshot_at profile held newest left most) (snapshot_bytes profile one) one
unfolding snapshot_at
snapshot_read profile held newest left most place above one codec may well is young =
    let age = well.age in
    let few = well.entities.few in
    let count = few_entities held.ring one.age (length one.snapshot.entities) few is.counted (λ old. ap length (well.gone old)) in
    back_then _ (slot_read held newest left one.snapshot.head.number well.number may)
    (back_then _ (number_read 4 0 most one.age (omega arith) (omega arith) young)
    (back_then _ (head_read profile one.snapshot.head codec.player.kinds (is_head profile held.ring one well))
    (back_then _ (number_read 2 0 (most_of held.ring one.age) (length one.snapshot.entities) (omega arith) (omega arith) count)
    (back_then _ (entities_read profile.entity 0 one.snapshot.entities codec.entity well.entities.rise well.states well.normal) (back_end one)))))

-- those above a number, one after the other
others_read : (profile : Profile) (snapshots : HeldSnapshots) (n count most : ℕ) (held : HeldSnapshots) → IsCodec profile → AreWellHeld profile snapshots
    → n + count ≡ snapshots.newest → IsUpTo snapshots n held → AreYounger snapshots n most
    → ReadsBack (snapshots_after profile snapshots.newest (length (held_from snapshots n count)) most held) (flat_map (snapshot_bytes profile) (held_from snapshots n count)) snapshots
unfolding snapshots_after
others_read profile snapshots n zero most held codec are ends is young =
    let same : n ≡ snapshots.newest = omega arith in
    subst (λ (all : HeldSnapshots). ReadsBack (λ cursor. Ok (held, cursor)) [] all)
    (up_to_newest snapshots held are.held are.newest (subst (λ (n : ℕ). IsUpTo snapshots n held) same is)) (back_end held)
others_read profile snapshots n (suc count) most held codec are ends is young =
    let rest = held_from snapshots (suc n) count in
    let Reads : Option HeldSnapshot → Type 0 =
    λ o. ReadsBack (snapshots_after profile snapshots.newest (length (one_of o ++ rest)) most held) (flat_map (snapshot_bytes profile) (one_of o ++ rest)) snapshots in
    elim (none_or_one (held_under snapshots (suc n))) [
      | inl none ↦
          subst Reads (sym none)
          (others_read profile snapshots (suc n) count most held codec are (omega arith) (up_to_passes snapshots n held are.held is none) (others_are_younger snapshots n most young))
      | inr found ↦
          let one : HeldSnapshot = found.0 in
          let next = next_is profile snapshots n most one are young found.1 in
          let number = next.well.number in
          let well = subst (λ (ring : ℕ). IsHeldWell profile ring one) (sym is.ring) next.well in
          let may = next_is_slot snapshots n count held one are.newest is found.1 (omega arith) (omega arith) in
          subst Reads (sym found.1)
          (back_then _ (snapshot_read profile held snapshots.newest (length rest) most _ snapshots.newest one codec may well next.place next.age)
          (others_read profile snapshots (suc n) count (one.age - length one.snapshot.entities) (put_back_at held one) codec are (omega arith)
          (up_to_put snapshots n held one are.held is found.1) (next_are_younger snapshots n one are.held found.1)))
    ]

-- the newest number is one of a message
newest_fits : (profile : Profile) (snapshots : HeldSnapshots) → AreWellHeld profile snapshots → snapshots.newest ≤ last_number
newest_fits profile snapshots are = elim (cases_lt 0 snapshots.newest) [
  | inr none ↦ omega arith
  | inl some ↦
      let one = newest_is_held snapshots are.newest some in
      let there = held_is_there snapshots snapshots.newest one.0 one.1 in
      let well : IfSome (Some one.0) (IsHeldWell profile snapshots.ring) =
      subst (λ o. IfSome o (IsHeldWell profile snapshots.ring)) there.0 (each_at (IsHeldWell profile snapshots.ring) snapshots.places (place_of snapshots.newest) are.each) in
      let number = well.number in
      omega (arith, there.1)
]

-- some are held where the newest number isn't 0
enough : (snapshots : HeldSnapshots) → HoldsNewest snapshots → (if snapshots.newest == 0 then 0 else 1) ≤ length (held_from snapshots 0 snapshots.newest)
enough snapshots holds =
    cond_both (snapshots.newest == 0) 0 1 (λ least. least ≤ length (held_from snapshots 0 snapshots.newest)) (λ none. omega arith)
    (λ some.
    let apart = eqb-false snapshots.newest 0 some in
    let same : suc (snapshots.newest - 1) ≡ snapshots.newest = omega arith in
    subst (λ count. 1 ≤ length (held_from snapshots 0 count)) same (some_left snapshots 0 (snapshots.newest - 1) holds (omega arith)))

-- all of them
pub snapshots_read : (profile : Profile) (snapshots : HeldSnapshots) → IsCodec profile → AreWellHeld profile snapshots
    → ReadsBack (snapshots_at profile) (snapshots_bytes profile snapshots) snapshots
unfolding snapshots_at
snapshots_read profile snapshots codec are =
    let newest : ℕ = snapshots.newest in
    let all : List HeldSnapshot = held_from snapshots 0 newest in
    let most = newest_fits profile snapshots are in
    let few = few_are_held snapshots are.held in
    let start = subst (λ (ring : ℕ). IsUpTo snapshots 0 (no_snapshots ring)) are.room (none_is_up_to snapshots are.held) in
    let Reads : List ℕ → Type 0 = λ text. ReadsBack (snapshots_at profile) (little_bytes 4 newest ++ (little_bytes 1 (length all) ++ text)) snapshots in
    let read =
    subst Reads (sym (append-nil (flat_map (snapshot_bytes profile) all)))
    (back_then _ (number_read 4 0 last_number newest (omega arith) (omega arith) most)
    (back_then _ (number_read 1 (if newest == 0 then 0 else 1) most_places (length all) (omega arith) (enough snapshots are.newest) few)
    (others_read profile snapshots 0 newest 4294967295 (no_snapshots profile.parse_ring) codec are (omega arith) start (all_are_younger profile snapshots are)))) in
    subst (λ all. ReadsBack (snapshots_at profile) (concat (little_bytes 4 newest ∷ little_bytes 1 (length all) ∷ flat_map (snapshot_bytes profile) all ∷ [])) snapshots)
    (sym (in_order snapshots)) read
