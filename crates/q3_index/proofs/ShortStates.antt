-- How long a state is as bytes: its length has 32 bits.
use Rattle.std.proofs.Common.{ℕ, zero, suc, ◌+◌, ◌*◌, ◌^◌, ◌<◌, ◌≤◌, List, [], ◌∷◌, ◌++◌, length, take, Option, Some, None, inl, inr, sym, subst, arith, length-append}
use Rattle.std.specs.Prelude.{All, IfSome, ℤ}
use Rattle.std.specs.Int.{w16, cast_unsigned}
use Rattle.std.specs.List.{flat_map, sum_by}
use Rattle.std.proofs.lemmas.List.{length-take}
use Rattle.std.proofs.lemmas.List.Concat.{length-flat_map}
use Rattle.std.proofs.lemmas.List.Elements.{All-nil, All-cons, All-weaker}
use Rattle.std.proofs.lemmas.List.Sums.{sum_by-le, sum_by-cons, sum-map}
use Rattle.byteorder.specs.Endian.{little_bytes}
use Rattle.q3_fields.specs.declared.kind.Kind.{Kind}
use Rattle.q3_fields.specs.Kinds.{Layout}
use Rattle.q3_entity.specs.declared.state.EntityState.{EntityState}
use Rattle.q3_entity.specs.Baselines.{Baselines, set_baselines}
use Rattle.q3_player.specs.declared.state.PlayerState.{PlayerState}
use Rattle.q3_player.specs.declared.head.SnapHead.{SnapHead}
use Rattle.q3_player.specs.State.{AreShorts, IsState}
use Rattle.q3_config.specs.Strings.{Pending, size_of, config_size, places, longest_string}
use Rattle.q3_entity_ring.specs.Places.{place_of}
use Rattle.q3_rings.specs.Rings.{HeldSnapshot, HeldSnapshots}
use Rattle.q3_rings.specs.ByNumber.{held_under, one_of}
use Rattle.q3_profile.specs.declared.profile.Profile.{Profile}
use Rattle.q3_profile.specs.Profile.{IsCodec}
use Rattle.q3_savestate.specs.Entities.{counted, words_bytes, entity_bytes, baselines_bytes}
use Rattle.q3_savestate.specs.Texts.{set_strings, string_bytes, strings_bytes, pending_bytes}
use Rattle.q3_savestate.specs.Snapshots.{shorts_bytes, player_bytes, head_bytes, snapshot_bytes, snapshots_bytes}
use Rattle.q3_savestate.specs.State.{Saved, flag_bytes, start_bytes, state_bytes}
use Rattle.q3_savestate.proofs.HeldInOrder.{none_or_one, held_from, held_is_there}
use Rattle.q3_savestate.proofs.HeldRules.{in_order, few_are_held, each_at}
use Rattle.q3_clstate.specs.State.{AppliedState}
use Rattle.q3_savestate.specs.Applied.{saved_in}
use Rattle.q3_clstate.specs.Standing.{IsWellHeld, IsApplied}

-- ---- items

-- items of at most so many bytes each
items_most : {X : Type 0} (item : X → List ℕ) (most : ℕ) (items : List X) → All (λ x. length (item x) ≤ most) items → length (flat_map item items) ≤ length items * most
items_most item most items each = omega (arith, length-flat_map item items, sum_by-le (λ x. length (item x)) most items each)

-- and so for items that all are so
all_most : {X : Type 0} (item : X → List ℕ) (most : ℕ) (items : List X) → ((x : X) → length (item x) ≤ most) → length (flat_map item items) ≤ length items * most
all_most {X = X} item most items short = items_most item most items (each items)
  where
    each : (items : List X) → All (λ x. length (item x) ≤ most) items
    each [] = All-nil (λ x. length (item x) ≤ most)
    each (x ∷ items) = All-cons (λ x. length (item x) ≤ most) x items (short x) (each items)

-- ---- entities and baselines

-- words of a table of at most 64 fields
words_most : (kinds : List Kind) (words : List ℕ) → length kinds ≤ 64 → length (words_bytes kinds words) ≤ 256
words_most kinds words few = omega (arith, all_most (little_bytes 4) 4 (take (length kinds) words) (λ word. omega arith), length-take (length kinds) words)

-- an entity
entity_most : (table : Layout) (entity : EntityState) → length table.kinds ≤ 64 → length (entity_bytes table entity) ≤ 258
entity_most table entity few = omega (arith, words_most table.kinds entity.words few)

-- entities after their number
entities_most : (table : Layout) (entities : List EntityState) → length table.kinds ≤ 64 → length (counted (entity_bytes table) entities) ≤ 2 + length entities * 258
entities_most table entities few = omega (arith, all_most (entity_bytes table) 258 entities (λ entity. entity_most table entity few))

-- no more baselines are set than there are places
set_few : (baselines : Baselines) → length (set_baselines baselines) ≤ length baselines
set_few [] = omega arith
set_few (None ∷ baselines) = omega (arith, set_few baselines)
set_few (Some baseline ∷ baselines) = omega (arith, set_few baselines)

-- ---- strings

-- each string that is set takes three bytes more than it adds to their size
texts_most : (index : ℕ) (texts : List (List ℕ)) → length (flat_map string_bytes (set_strings index texts)) ≤ 3 * length texts + sum_by size_of texts
unfolding set_strings
texts_most index [] = omega arith
texts_most index ([] ∷ texts) = omega (arith, texts_most (index + 1) texts, sum_by-cons size_of [] texts)
texts_most index ((byte ∷ text) ∷ texts) =
    omega (arith, texts_most (index + 1) texts, sum_by-cons size_of (byte ∷ text) texts, length-append (string_bytes (index, byte ∷ text)) (flat_map string_bytes (set_strings (index + 1) texts)))

-- all of them, after their number
strings_most : (texts : List (List ℕ)) → length (strings_bytes texts) ≤ 2 + 3 * length texts + config_size texts
unfolding config_size
strings_most texts = omega (arith, texts_most 0 texts, sum-map size_of texts)

-- the text that is pending
pending_most : (pending : Option Pending) → IfSome pending (λ pending. (pending.index < places) × (length pending.text ≤ longest_string)) → length (pending_bytes pending) ≤ 8198
pending_most None fits = omega arith
pending_most (Some pending) fits = omega (arith, fits.1)

-- ---- snapshots

-- the values of an array of a player
shorts_most : (values : List ℤ) → AreShorts values → length (shorts_bytes values) ≤ 32
shorts_most values are = omega (arith, all_most (λ value. little_bytes 2 (cast_unsigned w16 value)) 2 values (λ value. omega arith), are.count)

-- a player
player_most : (profile : Profile) (player : PlayerState) → length profile.player.kinds ≤ 64 → IsState player → length (player_bytes profile player) ≤ 416
player_most profile player few is =
    let words = words_bytes profile.player.kinds player.words in
    let powerups = flat_map (little_bytes 4) player.powerups in
    let end : List ℕ = powerups ++ [] in
    let last : List ℕ = shorts_bytes player.ammo ++ end in
    let later : List ℕ = shorts_bytes player.persistant ++ last in
    let others : List ℕ = shorts_bytes player.stats ++ later in
    omega (
      arith,
      length-append words others,
      length-append (shorts_bytes player.stats) later,
      length-append (shorts_bytes player.persistant) last,
      length-append (shorts_bytes player.ammo) end,
      length-append powerups [],
      words_most profile.player.kinds player.words few,
      shorts_most player.stats is.stats,
      shorts_most player.persistant is.persistant,
      shorts_most player.ammo is.ammo,
      all_most (little_bytes 4) 4 player.powerups (λ word. omega arith),
      is.powerups.count,
    )

-- a head, but for its number
head_most : (profile : Profile) (head : SnapHead) → length profile.player.kinds ≤ 64 → IsState head.player → length head.area.items ≤ 32 → length (head_bytes profile head) ≤ 454
head_most profile head few is short =
    let player : List ℕ = player_bytes profile head.player ++ [] in
    omega (arith, length-append head.area.items player, length-append (player_bytes profile head.player) [], player_most profile head.player few is)

-- a snapshot
snapshot_most : (profile : Profile) (ring : ℕ) (held : HeldSnapshot) → IsCodec profile → IsWellHeld profile ring held → length (snapshot_bytes profile held) ≤ 66512
snapshot_most profile ring held codec is =
    let entities : List ℕ = counted (entity_bytes profile.entity) held.snapshot.entities ++ [] in
    let few = is.entities.list.few in
    omega (
      arith,
      length-append (head_bytes profile held.snapshot.head) entities,
      length-append (counted (entity_bytes profile.entity) held.snapshot.entities) [],
      head_most profile held.snapshot.head codec.player.kinds.few is.head.player is.head.short,
      entities_most profile.entity held.snapshot.entities codec.entity.kinds.few,
    )

-- what holds of each that is held, by rising number
each_held : (P : HeldSnapshot → Type 0) (snapshots : HeldSnapshots) (n count : ℕ) → All (λ place. IfSome place P) snapshots.places → All P (held_from snapshots n count)
each_held P snapshots n zero each = All-nil P
each_held P snapshots n (suc count) each =
    let others = each_held P snapshots (suc n) count each in
    elim (none_or_one (held_under snapshots (suc n))) [
      | inl none ↦ subst (λ o. All P (one_of o ++ held_from snapshots (suc n) count)) (sym none) others
      | inr found ↦
          let there = held_is_there snapshots (suc n) found.0 found.1 in
          let one : P found.0 = subst (λ o. IfSome o P) there.0 (each_at P snapshots.places (place_of (suc n)) each) in
          subst (λ o. All P (one_of o ++ held_from snapshots (suc n) count)) (sym found.1) (All-cons P found.0 (held_from snapshots (suc n) count) one others)
    ]

-- all that are held, of which there are at most 32
snapshots_most : (state : AppliedState) → IsApplied state → length (snapshots_bytes state.profile state.held) ≤ 2128389
snapshots_most state is =
    let snapshots : HeldSnapshots = state.held in
    let item : HeldSnapshot → List ℕ = snapshot_bytes state.profile in
    let IsShort : HeldSnapshot → Type 0 = λ held. length (item held) ≤ 66512 in
    let each : All IsShort (held_from snapshots 0 snapshots.newest) =
    All-weaker (IsWellHeld state.profile snapshots.ring) IsShort (λ held well. snapshot_most state.profile snapshots.ring held is.profile well) (held_from snapshots 0 snapshots.newest)
    (each_held (IsWellHeld state.profile snapshots.ring) snapshots 0 snapshots.newest is.snapshots) in
    subst (λ (all : List HeldSnapshot). length (little_bytes 4 snapshots.newest ++ (little_bytes 1 (length all) ++ (flat_map item all ++ []))) ≤ 2128389) (sym (in_order snapshots))
    (omega (arith, length-append (flat_map item (held_from snapshots 0 snapshots.newest)) [], items_most item 66512 (held_from snapshots 0 snapshots.newest) each, few_are_held snapshots is.held))

-- ---- the whole

-- all parts together
pub state_is_short : (state : AppliedState) → IsApplied state → length (state_bytes state.profile (saved_in state)) < 2 ^ 32
state_is_short state is =
    let saved : Saved = saved_in state in
    let held : List ℕ = snapshots_bytes state.profile saved.held ++ [] in
    let baselines : List ℕ = baselines_bytes state.profile.entity saved.baselines ++ held in
    let strings : List ℕ = strings_bytes saved.strings.texts ++ baselines in
    let flag : List ℕ = flag_bytes saved.has_game ++ strings in
    let pending : List ℕ = pending_bytes saved.strings.pending ++ flag in
    omega (
      arith,
      length-append (start_bytes saved) pending,
      length-append (pending_bytes saved.strings.pending) flag,
      length-append (flag_bytes saved.has_game) strings,
      length-append (strings_bytes saved.strings.texts) baselines,
      length-append (baselines_bytes state.profile.entity saved.baselines) held,
      length-append (snapshots_bytes state.profile saved.held) [],
      length-append state.executed.last [],
      is.last.short,
      pending_most state.strings.pending is.strings.pending,
      strings_most state.strings.texts,
      is.strings.count,
      is.strings.size,
      entities_most state.profile.entity (set_baselines state.baselines) is.profile.entity.kinds.few,
      set_few state.baselines,
      is.baselines.places,
      snapshots_most state is,
    )
