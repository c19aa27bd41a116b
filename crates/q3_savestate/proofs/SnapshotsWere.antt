-- Snapshots: what is read is well held, and was written so.
use Rattle.std.proofs.Common.{◌≡◌, ℕ, zero, suc, ◌-◌, ◌<◌, ◌≤◌, ◌==◌, true, if◌then◌else◌, List, [], ◌∷◌, ◌++◌, length, inl, inr, refl, sym, ap, subst, ◌∙◌, append_assoc, arith}
use Rattle.std.specs.List.{flat_map, concat}
use Rattle.std.proofs.lemmas.Bool.{cases_lt, cond_both, eqb-true}
use Rattle.std.proofs.lemmas.List.{append-nil}
use Rattle.byteorder.specs.Endian.{little_bytes, little_number}
use Rattle.q3_entity.specs.declared.state.EntityState.{EntityState}
use Rattle.q3_player.specs.declared.head.SnapHead.{SnapHead}
use Rattle.q3_entity_ring.specs.Places.{most_places}
use Rattle.q3_rings.specs.Rings.{HeldSnapshot, HeldSnapshots, no_snapshots, put_back_at}
use Rattle.q3_rings.specs.ByNumber.{held_up_to, by_number}
use Rattle.q3_rings.specs.Laws.{SnapshotsStay}
use Rattle.q3_profile.specs.declared.profile.Profile.{Profile}
use Rattle.q3_profile.specs.Profile.{IsCodec}
use Rattle.q3_savestate.specs.Entities.{entity_bytes}
use Rattle.q3_savestate.specs.Snapshots.{last_number, is_slot, slot_at, most_of, head_bytes, snapshot_bytes, snapshots_bytes, snapshot_at, snapshots_after, snapshots_at}
use Rattle.q3_savestate.specs.Standing.{AreWellHeld}
use Rattle.q3_savestate.proofs.Fields.{field_was, word_was}
use Rattle.q3_savestate.proofs.Rows.{WasRead, HasRead, were_then, were_end, were_row, were_so}
use Rattle.q3_savestate.proofs.PartsRead.{IsWithin, number_was_read, entities_were_read, AreRising}
use Rattle.q3_savestate.proofs.Heads.{IsHead, head_was_read}
use Rattle.q3_savestate.proofs.HeldSoFar.{put_is_last, is_newer, IsReadNext, IsSoFar, none_so_far, one_more_so_far}

-- a number that meets its rule
slot_was_read : (held : HeldSnapshots) (newest left : ℕ) → WasRead (slot_at held newest left) (little_bytes 4) (λ number. is_slot held newest left number ≡ true)
slot_was_read held newest left = record {
  was = λ cursor number rest bytes is.
      let was = field_was 4 (little_number 4) (is_slot held newest left) cursor number rest is in
      (was.2, (word_was 4 cursor number rest bytes was.0 was.1 was.3).0);
}

-- its parts make a snapshot
made : (profile : Profile) (held : HeldSnapshots) (newest left most number age count : ℕ) (head : SnapHead) (entities : List EntityState) → is_slot held newest left number ≡ true
    → IsWithin 4 0 most age → IsHead profile head → head.number ≡ number → IsWithin 2 0 (most_of held.ring age) count → AreRising profile.entity count 0 entities
    → IsReadNext profile held newest left most (record { snapshot = record { head = head; entities = entities }; age = age })
made profile held newest left most number age count head entities may young is same few are =
    let below = few.below in
    record {
      may = subst (λ number. is_slot held newest left number ≡ true) (sym same) may;
      young = young.below;
      fits = young.fits;
      head = is;
      few = omega (arith, are.long);
      entities = record { long = refl; rise = are.rise; states = are.states; normal = are.normal };
    }

-- and their texts its text
spelled : (profile : Profile) (number age count : ℕ) (head : SnapHead) (entities : List EntityState) → head.number ≡ number → length entities ≡ count
    → concat (little_bytes 4 number ∷ little_bytes 4 age ∷ head_bytes profile head ∷ little_bytes 2 count ∷ flat_map (entity_bytes profile.entity) entities ∷ [])
    ≡ snapshot_bytes profile (record { snapshot = record { head = head; entities = entities }; age = age })
spelled profile number age count head entities same long =
    ap (λ (number : ℕ). concat (little_bytes 4 number ∷ little_bytes 4 age ∷ head_bytes profile head ∷ little_bytes 2 count ∷ flat_map (entity_bytes profile.entity) entities ∷ [])) (sym same)
    ∙ ap (λ (count : ℕ). concat (little_bytes 4 head.number ∷ little_bytes 4 age ∷ head_bytes profile head ∷ little_bytes 2 count ∷ flat_map (entity_bytes profile.entity) entities ∷ []))
    (sym long)

-- one snapshot
snapshot_was_read : (profile : Profile) (held : HeldSnapshots) (newest left most : ℕ) → IsCodec profile
    → WasRead (snapshot_at profile held newest left most) (snapshot_bytes profile) (IsReadNext profile held newest left most)
unfolding snapshot_at
snapshot_was_read profile held newest left most codec = were_row (snapshot_bytes profile) (IsReadNext profile held newest left most)
    (were_then _ (slot_was_read held newest left) (λ number may.
    were_then _ (number_was_read 4 0 most) (λ age young.
    were_then _ (head_was_read profile number codec.player.kinds) (λ head is.
    were_then _ (number_was_read 2 0 (most_of held.ring age)) (λ count few.
    were_then _ (entities_were_read profile.entity count 0 codec.entity) (λ entities are.
    were_end (record { snapshot = record { head = head; entities = entities }; age = age }) (
      made profile held newest left most number age count head entities may young is.0 is.1 few are,
      spelled profile number age count head entities is.1 are.long,
    )))))))

-- what was read after what is held so far
record IsReadOn (profile : Profile) (held : HeldSnapshots) (newest left : ℕ) (all : HeldSnapshots) (text : List ℕ) : Type 0 where
  well : AreWellHeld profile all
  others : List HeldSnapshot
  count : length others ≡ left
  order : by_number all ≡ by_number held ++ others
  spelled : text ≡ flat_map (snapshot_bytes profile) others
  some : 0 < left → all.newest ≡ newest
  none : left ≡ 0 → all.newest ≡ held.newest

-- one in front of others
read_on : (profile : Profile) (held : HeldSnapshots) (newest left most : ℕ) (one : HeldSnapshot) (all : HeldSnapshots) (text : List ℕ) → IsSoFar profile most held
    → IsReadNext profile held newest left most one → IsReadOn profile (put_back_at held one) newest left all text
    → IsReadOn profile held newest (suc left) all (snapshot_bytes profile one ++ text)
read_on profile held newest left most one all text so_far is on =
    let number = is_newer held newest left one.snapshot.head.number is.may in
    record {
      well = on.well;
      others = one ∷ on.others;
      count = ap suc on.count;
      order = on.order ∙ ap (λ front. front ++ on.others) (put_is_last held one so_far.well.held number.newer number.free) ∙ append_assoc (by_number held) (one ∷ []) on.others;
      spelled = ap (λ text. snapshot_bytes profile one ++ text) on.spelled;
      some = λ more. elim (cases_lt 0 left) [
        | inl others ↦ on.some others
        | inr last ↦ on.none (omega arith) ∙ number.last (omega arith)
      ];
      none = λ none. absurd (omega arith);
    }

-- so many, one after the other
others_were_read : (profile : Profile) (newest left most : ℕ) (held : HeldSnapshots) → IsCodec profile → SnapshotsStay → IsSoFar profile most held
    → HasRead (snapshots_after profile newest left most held) (IsReadOn profile held newest left)
unfolding snapshots_after
others_were_read profile newest zero most held codec stay so_far =
    were_end held (record { well = so_far.well; others = []; count = refl; order = sym (append-nil (by_number held)); spelled = refl; some = λ more. absurd (omega arith); none = λ none. refl })
others_were_read profile newest (suc left) most held codec stay so_far =
    were_then _ (snapshot_was_read profile held newest left most codec) (λ one is.
    were_so (others_were_read profile newest left (one.age - length one.snapshot.entities) (put_back_at held one) codec stay (one_more_so_far profile held newest left most one stay so_far is))
    (λ all text on. read_on profile held newest left most one all text so_far is on))

-- the newest number, how many there are, and all of them, as they are written
whole : (profile : Profile) (newest count ring : ℕ) (all : HeldSnapshots) (text : List ℕ) → (if newest == 0 then 0 else 1) ≤ count
    → IsReadOn profile (no_snapshots ring) newest count all text → little_bytes 4 newest ++ (little_bytes 1 count ++ text) ≡ snapshots_bytes profile all
unfolding held_up_to
whole profile newest count ring all text least on =
    let same : newest ≡ all.newest = elim (cases_lt 0 count) [
      | inl some ↦ sym (on.some some)
      | inr none ↦
          let zero_newest : newest ≡ 0 =
          cond_both (newest == 0) 0 1 (λ least. least ≤ count → newest ≡ 0) (λ is most. eqb-true newest 0 is) (λ other most. absurd (omega arith)) least in
          zero_newest ∙ sym (on.none (omega arith))
    ] in
    let order : on.others ≡ by_number all = sym on.order in
    let long : count ≡ length (by_number all) = sym on.count ∙ ap length order in
    let texts : text ≡ flat_map (snapshot_bytes profile) (by_number all) ++ [] =
    on.spelled ∙ ap (flat_map (snapshot_bytes profile)) order ∙ sym (append-nil (flat_map (snapshot_bytes profile) (by_number all))) in
    ap (λ (newest : ℕ). little_bytes 4 newest ++ (little_bytes 1 count ++ text)) same
    ∙ ap (λ (count : ℕ). little_bytes 4 all.newest ++ (little_bytes 1 count ++ text)) long
    ∙ ap (λ text. little_bytes 4 all.newest ++ (little_bytes 1 (length (by_number all)) ++ text)) texts

-- all of them
pub snapshots_were_read : (profile : Profile) → IsCodec profile → SnapshotsStay → 512 ≤ profile.parse_ring
    → WasRead (snapshots_at profile) (snapshots_bytes profile) (AreWellHeld profile)
unfolding snapshots_at
snapshots_were_read profile codec stay room = were_row (snapshots_bytes profile) (AreWellHeld profile)
    (were_then _ (number_was_read 4 0 last_number) (λ newest below.
    were_then _ (number_was_read 1 (if newest == 0 then 0 else 1) most_places) (λ count few.
    were_so (others_were_read profile newest count 4294967295 (no_snapshots profile.parse_ring) codec stay (none_so_far profile 4294967295 stay room))
    (λ all text on. (on.well, whole profile newest count profile.parse_ring all text few.above on)))))
