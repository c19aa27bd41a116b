-- Bases: what the frames of a server hold, what a client accepted, and that both are what was built.
use Rattle.std.proofs.Common.{◌≡◌, ◌+◌, ◌-◌, ◌<◌, ◌≤◌, List, [], ◌∷◌, ◌++◌, length, Option, Some, None, refl, sym, ap, subst, ◌∙◌, inl, inr, arith, ℕ}
use Rattle.std.specs.Prelude.{IfSome, All, Contains}
use Rattle.std.proofs.lemmas.List.{length_push, get_or_push}
use Rattle.std.proofs.lemmas.List.Elements.{All-contains, Contains-append_left, All-drop, All-contains_itself}
use Rattle.std.proofs.lemmas.Bool.{cases_eq, cases_lt}
use Rattle.q3_entity_ring.specs.Snapshot.{Snapshot}
use Rattle.q3_entity_ring.specs.Places.{place_of}
use Rattle.q3_profile.specs.declared.profile.Profile.{Profile}
use Rattle.q3_frames.specs.Frames.{FramesState, held_frame, base_of, build_at}
use Rattle.q3_built.specs.Built.{Built, Telling, IsSnapshot, IsNear, built_of}
use Rattle.q3_server.specs.Server.{places}
use Rattle.q3_world.specs.Layers.{ServerLaws}
use Rattle.q3_world.specs.World.{Played, History, no_history, no_message, history_at, with_history, built_at}
use Rattle.q3_world.specs.Games.{last_played, accepted_before, accepted_since}
use Rattle.q3_world.specs.StandsFor.{snapshot_in, WasBuilt, HasSnapshot, AreOfBuilt, KeepsFrames, WasAccepted}
use Rattle.q3_entity.specs.Baselines.{Baselines}
use Rattle.q3_world.proofs.OnePlace.{set_there, OnlyAt-set}
use Rattle.q3_world.proofs.Growth.{built_stays, was_built_more}

pub some_one : (x y : Snapshot) → Some x ≡ Some y → x ≡ y
some_one x y e = cc

-- of what was built under one number there is one
pub was_built_one : (built : List Built) (x y : Snapshot) → x.head.number ≡ y.head.number → WasBuilt built x → WasBuilt built y → x ≡ y
was_built_one built x y same first second =
    some_one x y (sym first.2 ∙ (ap (λ (n : ℕ). snapshot_in (built_at built n).message.section) same ∙ second.2))

-- what was built last was built
pub was_built_last : (built : List Built) (telling : Telling) (baselines : Baselines) (base : Option Snapshot) (snapshot : Snapshot) → snapshot.head.number ≡ length built + 1
    → WasBuilt (built ++ built_of telling baselines base snapshot ∷ []) snapshot
was_built_last built telling baselines base snapshot number =
    let next = built_of telling baselines base snapshot in
    let place : length built ≡ snapshot.head.number - 1 = omega (arith, number) in (
      omega (arith, number),
      omega (arith, number, length_push built next),
      ap (λ (b : Built). snapshot_in b.message.section) (get_or_push built next no_message (snapshot.head.number - 1) place),
    )

-- what holds of what may be there
pub if_some : {X : Type 0} (o : Option X) (P : X → Type 0) → ((x : X) → o ≡ Some x → P x) → IfSome o P
if_some None P each = tt
if_some (Some x) P each = each x refl

-- what was accepted stays so
pub was_accepted_more : (accepted more : List Snapshot) (number : ℕ) → WasAccepted accepted number → WasAccepted (accepted ++ more) number
was_accepted_more accepted more number was = (was.0, Contains-append_left accepted more was.0 was.1, was.2)

-- what was accepted since the last gamestate was accepted
pub since_accepted : (games : List Played) (accepted : List Snapshot) (number : ℕ) → WasAccepted (accepted_since games accepted) number → WasAccepted accepted number
since_accepted games accepted number was =
    let all = All-drop (Contains accepted) (accepted_before (last_played games)) accepted (All-contains_itself accepted) in
    (was.0, All-contains (Contains accepted) (accepted_since games accepted) was.0 all was.1, was.2)

-- what was accepted was built with a snapshot
pub accepted_has : (built : List Built) (accepted : List Snapshot) (number : ℕ) → All (WasBuilt built) accepted → WasAccepted accepted number → HasSnapshot built number
accepted_has built accepted number were was =
    let one = All-contains (WasBuilt built) accepted was.0 were was.1 in
    (was.0, subst (λ (n : ℕ). snapshot_in (built_at built n).message.section ≡ Some was.0) was.2 one.2)

-- ---- frames

-- under a number before the last, what is built stays
has_before : (began more : List Built) (number : ℕ) → 1 ≤ number → number ≤ length began → HasSnapshot (began ++ more) number → HasSnapshot began number
has_before began more number some few has = (has.0, sym (ap (λ (b : Built). snapshot_in b.message.section) (built_stays began more number some few)) ∙ has.1)

-- of a client for which a gamestate was begun: no frame was built
pub frames_of_game : (frames : FramesState) (c : ℕ) (began : List Built) (next : Built) → snapshot_in next.message.section ≡ None
    → AreOfBuilt frames c began → AreOfBuilt frames c (began ++ next ∷ [])
frames_of_game frames c began next none are number held is some few has =
    elim (cases_lt (length began) number) [
      | inl above ↦
          let place : length began ≡ number - 1 = omega (arith, above, few, length_push began next) in
          let there : snapshot_in (built_at (began ++ next ∷ []) number).message.section ≡ None = ap (λ (b : Built). snapshot_in b.message.section) (get_or_push began next no_message (number - 1) place) ∙ none in
          absurd (none_some (sym there ∙ has.1))
      | inr within ↦
          let was = are number held is some (omega (arith, within)) (has_before began (next ∷ []) number some (omega (arith, within)) has) in
          (was.0, was_built_more began (next ∷ []) held was.1)
    ]
  where
    none_some : None ≡ Some has.0 → ⊥
    none_some e = absurd cc

-- of a client for which a snapshot more was begun
pub frames_begun : ServerLaws → (frames : FramesState) (c : ℕ) (began : List Built) (telling : Telling) (baselines : Baselines) (base : Option Snapshot) (snapshot : Snapshot)
    → snapshot.head.number ≡ length began + 1 → AreOfBuilt frames c began → AreOfBuilt (build_at frames c snapshot) c (began ++ built_of telling baselines base snapshot ∷ [])
frames_begun laws frames c began telling baselines base snapshot number_is are number held is some few has =
    let next = built_of telling baselines base snapshot in
    elim (laws.held frames c c number snapshot held is) [
      | inl this ↦ (
        ap (λ (s : Snapshot). s.head.number) this.2 ∙ sym this.1,
        subst (WasBuilt (began ++ next ∷ [])) (sym this.2) (was_built_last began telling baselines base snapshot number_is),
      )
      | inr before ↦
          elim (cases_eq number snapshot.head.number) [
            | inl same ↦ absurd (before.0 refl (ap place_of same))
            | inr other ↦
                let within : number ≤ length began = omega (arith, few, other, number_is, length_push began next) in
                let was = are number held before.1 some within (has_before began (next ∷ []) number some within has) in
                (was.0, was_built_more began (next ∷ []) held was.1)
          ]
    ]

-- of one for which none was, though its frame was built
pub frames_too_long : ServerLaws → (frames : FramesState) (c : ℕ) (began : List Built) (snapshot : Snapshot)
    → snapshot.head.number ≡ length began + 1 → AreOfBuilt frames c began → AreOfBuilt (build_at frames c snapshot) c began
frames_too_long laws frames c began snapshot number_is are number held is some few has =
    elim (laws.held frames c c number snapshot held is) [
      | inl this ↦ let same = this.1 in absurd (omega (arith, same, few, number_is))
      | inr before ↦ are number held before.1 some few has
    ]

-- and of all others
frames_others : ServerLaws → (frames : FramesState) (c k : ℕ) (began : List Built) (snapshot : Snapshot) → (k ≡ c → ⊥)
    → AreOfBuilt frames k began → AreOfBuilt (build_at frames c snapshot) k began
frames_others laws frames c k began snapshot other are number held is some few has =
    elim (laws.held frames c k number snapshot held is) [
      | inl this ↦ absurd (other this.0)
      | inr before ↦ are number held before.1 some few has
    ]

-- a frame more was built
pub KeepsFrames-built : ServerLaws → (profile : Profile) (frames : FramesState) (histories : List History) (c : ℕ) (history : History) (snapshot : Snapshot) → c < places → length histories ≡ places
    → IsSnapshot profile snapshot → AreOfBuilt (build_at frames c snapshot) c history.built → KeepsFrames profile frames histories
    → KeepsFrames profile (build_at frames c snapshot) (with_history histories c history)
KeepsFrames-built laws profile frames histories c history snapshot lt count is here keeps =
    let next = build_at frames c snapshot in
    let only = OnlyAt-set no_history c histories history in
    record {
      are = laws.keeps.places frames c snapshot keeps.are;
      snapshots = record {
        each = λ k number. if_some (held_frame next k number) (IsSnapshot profile) (λ held found. elim (laws.held frames c k number snapshot held found) [
          | inl this ↦ subst (IsSnapshot profile) (sym this.2) is
          | inr before ↦ subst (λ (o : Option Snapshot). IfSome o (IsSnapshot profile)) before.1 (keeps.snapshots.each k number)
        ]);
      };
      count = laws.keeps.slots frames c snapshot ∙ keeps.count;
      each = λ k within. elim (cases_eq k c) [
        | inl same ↦
            subst (λ (j : ℕ). AreOfBuilt next j (history_at (with_history histories c history) j).built) (sym same)
            (rw (set_there histories c no_history history count lt) here)
        | inr other ↦ rw (only.others k other) (frames_others laws frames c k (history_at histories k).built snapshot other (keeps.each k within))
      ];
    }

-- none was, and no message was begun
pub KeepsFrames-same : (profile : Profile) (frames : FramesState) (histories : List History) (c : ℕ) (history : History) → c < places → length histories ≡ places
    → history.built ≡ (history_at histories c).built → KeepsFrames profile frames histories → KeepsFrames profile frames (with_history histories c history)
KeepsFrames-same profile frames histories c history lt count same_built keeps =
    let only = OnlyAt-set no_history c histories history in
    record {
      are = keeps.are;
      snapshots = keeps.snapshots;
      count = keeps.count;
      each = λ k within. elim (cases_eq k c) [
        | inl same ↦
            subst (λ (j : ℕ). AreOfBuilt frames j (history_at (with_history histories c history) j).built) (sym same)
            (rw (set_there histories c no_history history count lt)
            (subst (λ (built : List Built). AreOfBuilt frames c built) (sym same_built) (keeps.each c lt)))
        | inr other ↦ rw (only.others k other) (keeps.each k within)
      ];
    }

-- none was, and a message with a gamestate was begun
pub KeepsFrames-game : (profile : Profile) (frames : FramesState) (histories : List History) (c : ℕ) (history : History) → c < places → length histories ≡ places
    → AreOfBuilt frames c history.built → KeepsFrames profile frames histories → KeepsFrames profile frames (with_history histories c history)
KeepsFrames-game profile frames histories c history lt count here keeps =
    let only = OnlyAt-set no_history c histories history in
    record {
      are = keeps.are;
      snapshots = keeps.snapshots;
      count = keeps.count;
      each = λ k within. elim (cases_eq k c) [
        | inl same ↦
            subst (λ (j : ℕ). AreOfBuilt frames j (history_at (with_history histories c history) j).built) (sym same)
            (rw (set_there histories c no_history history count lt) here)
        | inr other ↦ rw (only.others k other) (keeps.each k within)
      ];
    }

-- nothing was built for any client
pub KeepsFrames-alike : (profile : Profile) (frames : FramesState) (old new : List History) → ((c : ℕ) → c < places → (history_at new c).built ≡ (history_at old c).built) → KeepsFrames profile frames old → KeepsFrames profile frames new
KeepsFrames-alike profile frames old new same keeps =
    record {
      are = keeps.are;
      snapshots = keeps.snapshots;
      count = keeps.count;
      each = λ c lt. subst (λ (built : List Built). AreOfBuilt frames c built) (sym (same c lt)) (keeps.each c lt);
    }

-- ---- the base of a message

-- it is near, it was built, and its number is the one that was asked for
pub found_base : ServerLaws → (frames : FramesState) (c delta : ℕ) (began : List Built) (snapshot base : Snapshot) → snapshot.head.number ≡ length began + 1
    → AreOfBuilt frames c began → (0 < delta → HasSnapshot began delta) → base_of (build_at frames c snapshot) c snapshot.head.number delta ≡ Some base
    → IsNear snapshot.head.number base × WasBuilt began base × (base.head.number ≡ delta)
found_base laws frames c delta began snapshot base number_is are has is =
    let n = snapshot.head.number in
    let near = laws.near (build_at frames c snapshot) c n delta base is in
    let some = near.0 in
    let below = near.1 in
    let within = near.2 in
    let number = near.3 in
    elim (laws.held frames c c delta snapshot base near.4) [
      | inl this ↦ let same = this.1 in absurd (omega (arith, same, below))
      | inr before ↦
          let was = are delta base before.1 (omega (arith, some)) (omega (arith, below, number_is)) (has (omega (arith, some))) in (
            record { some = omega (arith, some, number); below = omega (arith, below, number); near = omega (arith, within, number) },
            was.1,
            number,
          )
    ]
