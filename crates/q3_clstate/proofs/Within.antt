-- Numbers and ages stay within their limits.
use Rattle.std.proofs.Common.{◌≡◌, ℕ, ◌+◌, ◌^◌, ◌<◌, ◌≤◌, List, length, map, replicate, zero, suc, Option, Some, None, Result, Ok, Err, refl, subst, arith}
use Rattle.std.specs.Prelude.{All, IfSome, option_map}
use Rattle.std.proofs.lemmas.Bool.{cond_both}
use Rattle.std.proofs.lemmas.List.Elements.{All-nil, All-cons, All-map, All-weaker, All-set}
use Rattle.q3_bits.specs.Bits.{bits_of}
use Rattle.q3_bits.specs.ResultBind.{◌>>=◌}
use Rattle.q3_bits.proofs.Binds.{bind_ok}
use Rattle.q3_entity.specs.Entities.{most_entities}
use Rattle.q3_profile.specs.declared.profile.Profile.{Profile}
use Rattle.q3_gamestate.specs.Values.{Gamestate}
use Rattle.q3_svmsg.specs.declared.error.Illegible.{Illegible}
use Rattle.q3_svmsg.specs.Values.{Context, Told, Nothing, Game, Snap, Skipped, HasNumber, Message}
use Rattle.q3_svmsg.specs.Laws.{IsReadTold, IsRead, ReadIsSpelled}
use Rattle.q3_svmsg.specs.Reading.{server_message_at, server_message_in}
use Rattle.q3_entity_ring.specs.Snapshot.{Snapshot, without_entities}
use Rattle.q3_entity_ring.specs.Places.{most_places, place_of, no_places}
use Rattle.q3_rings.specs.Rings.{HeldSnapshot, HeldSnapshots, held_snapshot, held_remains, is_young, older, accept_at}
use Rattle.q3_clstate.specs.declared.applied.SnapOutcome.{SnapOutcome}
use Rattle.q3_clstate.specs.declared.applied.SnapOutcome.TheVariants.{NoSnap, Skipped as SkippedFor, Stale}
use Rattle.q3_clstate.specs.State.{AppliedState, new_state, context_of, passes, accepts, applies_game, is_stale, skipped_for, apply_section, hearing, apply_read, apply_at, state_after_message}
use Rattle.q3_clstate.specs.Standing.{IsApplied}
use Rattle.q3_clstate.specs.Within.{IsWithin}
use Rattle.q3_clstate.proofs.HeldStays.{context_is}

-- each of what is held is at most so old
abbrev AreSoOld : ℕ → List (Option HeldSnapshot) → Type 0
AreSoOld most places = All (λ place. IfSome place (λ held. held.age ≤ most)) places

abbrev IsSoOld : ℕ → Option HeldSnapshot → Type 0
IsSoOld most place = IfSome place (λ held. held.age ≤ most)

none_old : (most : ℕ) → AreSoOld most (no_places {X = HeldSnapshot})
none_old most = all_none most_places
  where
    all_none : (count : ℕ) → All (IsSoOld most) (replicate {A = Option HeldSnapshot} count None)
    all_none zero = All-nil (IsSoOld most)
    all_none (suc count) = All-cons (IsSoOld most) None (replicate count None) tt (all_none count)

-- at a higher limit
longer : (most more : ℕ) (places : List (Option HeldSnapshot)) → AreSoOld most places → AreSoOld (most + more) places
longer most more places are = All-weaker (IsSoOld most) (IsSoOld (most + more)) one places are
  where
    one : (place : Option HeldSnapshot) → IsSoOld most place → IsSoOld (most + more) place
    one None is = tt
    one (Some held) is = omega (arith, is)

-- older by some entities
remains_age : (ring most : ℕ) (held : HeldSnapshot) → held.age ≤ most → (held_remains ring held).age ≤ most
remains_age ring most held le =
    cond_both (is_young ring held.age) held (record held { snapshot = without_entities held.snapshot }) (λ (h : HeldSnapshot). h.age ≤ most) (λ e. le) (λ e. le)

older_place : (ring most count more : ℕ) (place : Option HeldSnapshot) → count ≤ more → IsSoOld most place → IsSoOld (most + more) (option_map (older ring count) place)
older_place ring most count more None le is = tt
older_place ring most count more (Some held) le is = remains_age ring (most + more) (record held { age = held.age + count }) (omega (arith, le, is))

accepted_old : (held : HeldSnapshots) (most more : ℕ) (snapshot : Snapshot) → length snapshot.entities ≤ more → AreSoOld most held.places
    → AreSoOld (most + more) (accept_at held snapshot).places
accepted_old held most more snapshot few are =
    let count = length snapshot.entities in
    let grow = option_map (older held.ring count) in
    All-set (IsSoOld (most + more)) (map grow held.places) (place_of snapshot.head.number) (Some (record { snapshot = snapshot; age = count })) (omega (arith, few))
    (All-map (IsSoOld (most + more)) grow held.places
    (All-weaker (IsSoOld most) (λ place. IsSoOld (most + more) (grow place)) (λ place is. older_place held.ring most count more place few is) held.places are))

-- ---- a message

passes_within : (state : AppliedState) (most more number : ℕ) (outcome : SnapOutcome) → number < 2 ^ 31 → IsWithin most state
    → IsWithin (most + more) (passes state number outcome).state
passes_within state most more number outcome fits within = record { number = fits; newest = within.newest; ages = longer most more state.held.places within.ages }

game_within : (state : AppliedState) (most number : ℕ) (game : Gamestate) → number < 2 ^ 31 → IsWithin most (applies_game state number game).state
game_within state most number game fits = record { number = fits; newest = omega arith; ages = none_old most }

section_within : (state : AppliedState) (context : Context) (most number : ℕ) (section : Told) → number < 2 ^ 31 → IsReadTold state.profile context section
    → HasNumber number section → IsWithin most state → IsWithin (most + most_entities) (apply_section state number section).state
section_within state context most number Nothing fits read under within = passes_within state most most_entities number NoSnap fits within
section_within state context most number (Game game) fits read under within = game_within state (most + most_entities) number game fits
section_within state context most number (Snap base head entities) fits read under within =
    let snapshot : Snapshot = record { head = head; entities = entities } in
    cond_both (is_stale state.held number) (passes state number Stale) (accepts state number base snapshot) (λ applied. IsWithin (most + most_entities) applied.state)
    (λ stale. passes_within state most most_entities number Stale fits within)
    (λ fresh. record {
      number = fits;
      newest = omega (arith, under);
      ages = accepted_old state.held most most_entities snapshot read.0.1.list.few within.ages;
    })
section_within state context most number (Skipped base) fits read under within =
    let outcome = SkippedFor base (skipped_for (held_snapshot state.held base)) in
    cond_both (is_stale state.held number) (passes state number Stale) (passes state number outcome) (λ applied. IsWithin (most + most_entities) applied.state)
    (λ stale. passes_within state most most_entities number Stale fits within) (λ fresh. passes_within state most most_entities number outcome fits within)

pub new_within : (profile : Profile) → IsWithin 0 (new_state profile)
new_within profile = record { number = omega arith; newest = omega arith; ages = none_old 0 }

-- any bytes
pub bytes_within : ReadIsSpelled → (state : AppliedState) (most number : ℕ) (message : List ℕ) → number < 2 ^ 31 → IsApplied state → IsWithin most state
    → IsWithin (most + most_entities) (state_after_message state (apply_at state number message))
bytes_within law state most number message fits is within = of_read (server_message_in state.profile context number (bits_of message)) refl
  where
    context : Context
    context = context_of state.held state.baselines

    one : Result Message Illegible → Message → Type 0
    one r read = r ≡ Ok read

    same : (x y : Message) → one (Ok x) y → x ≡ y
    same x y e = cc

    of_read : (r : Result Message Illegible) → server_message_in state.profile context number (bits_of message) ≡ r
        → IsWithin (most + most_entities) (state_after_message state (r >>= λ read. Ok (apply_read state number read)))
    of_read (Err e) answer = record { number = within.number; newest = within.newest; ages = longer most most_entities state.held.places within.ages }
    of_read (Ok read) answer =
        let found = bind_ok (server_message_at state.profile context number (bits_of message)) (λ read. Ok read.0) read answer in
        let was = law state.profile context number found.0.0 (bits_of message) found.0.1 is.profile (context_is state is) found.1 in
        let told : IsRead state.profile context number read = subst (IsRead state.profile context number) (same found.0.0 read found.2) (was.0 (omega (arith, fits))) in
        section_within (hearing state read.commands) context most number read.section fits told.section told.number_is
        (record { number = within.number; newest = within.newest; ages = within.ages })
