-- A message is read alike where its base is held alike.
use Rattle.std.proofs.Common.{◌≡◌, ◌⊎◌, ℕ, zero, suc, ◌+◌, ◌^◌, ◌<◌, ◌≤◌, Bool, List, Option, Some, None, Ok, inl, inr, refl, sym, ap, subst, ◌∙◌, arith}
use Rattle.std.specs.Prelude.{IsSome, option_map}
use Rattle.q3_bits.specs.ResultBind.{◌>>=◌}
use Rattle.q3_bits.proofs.Binds.{bind_ok}
use Rattle.q3_player.specs.declared.head.SnapHead.{SnapHead}
use Rattle.q3_player.specs.Spelling.{SpellsPlayer}
use Rattle.q3_entity.specs.declared.state.EntityState.{EntityState}
use Rattle.q3_entity.specs.Baselines.{Baselines}
use Rattle.q3_entity.specs.Spelling.{SpellsList}
use Rattle.q3_profile.specs.declared.profile.Profile.{Profile}
use Rattle.q3_profile.specs.Profile.{IsCodec}
use Rattle.q3_svmsg.specs.Values.{Base, base_from, base_player, base_entities, Context, Told, Nothing, Game, Snap, Skipped, Message}
use Rattle.q3_svmsg.specs.Reading.{held_base, server_message_at, server_message_in}
use Rattle.q3_svmsg.specs.Spelling.{SpellsSnapshot, SpellsSkippedSnapshot, SpellsSection, SpellsMessage}
use Rattle.q3_svmsg.specs.Laws.{IsContext, IsReadTold, IsRead, ReadIsSpelled, SpelledIsRead}
use Rattle.q3_entity_ring.specs.Snapshot.{Snapshot}
use Rattle.q3_rings.specs.Rings.{HeldSnapshots, view_at}
use Rattle.q3_clstate.specs.State.{context_of}
use Rattle.q3_recordings.proofs.HeldSince.{held_since, view_from, view_none, view_some}

-- ---- what is spelled

-- the base that a section names is the same
abbrev pub SameBase : Context → Context → Told → Type 0
SameBase context other (Snap base head entities) = held_base other base ≡ held_base context base
SameBase context other (Skipped base) = held_base other base ≡ None
SameBase context other told = Unit {0}

snapshot_alike : (profile : Profile) (context other : Context) (number base : ℕ) (snap : SnapHead) (entities : List EntityState) (bits : List Bool) → other.baselines ≡ context.baselines
    → held_base other base ≡ held_base context base → SpellsSnapshot profile context number base snap entities bits → SpellsSnapshot profile other number base snap entities bits
snapshot_alike profile context other number base snap entities bits baselines same s = record {
  distance = s.distance;
  named = s.named;
  held = subst (λ (held : Option Base). (s.distance ≡ 0) ⊎ IsSome held) (sym same) s.held;
  head = s.head;
  player = s.player;
  list = s.list;
  of_head = s.of_head;
  state = s.state;
  of_player = subst (λ (held : Option Base). SpellsPlayer profile.code profile.player.kinds (base_player held) snap.player s.player) (sym same) s.of_player;
  of_list = subst (λ (held : Option Base). SpellsList profile.code profile.entity other.baselines (base_entities held) entities s.list) (sym same)
      (subst (λ (baselines : Baselines). SpellsList profile.code profile.entity baselines (base_entities (held_base context base)) entities s.list) (sym baselines) s.of_list);
  whole = s.whole;
}

skipped_alike : (profile : Profile) (context other : Context) (number base : ℕ) (bits : List Bool) → held_base other base ≡ None
    → SpellsSkippedSnapshot profile context number base bits → SpellsSkippedSnapshot profile other number base bits
skipped_alike profile context other number base bits none s = record {
  distance = s.distance;
  some = s.some;
  named = s.named;
  not_held = none;
  snap = s.snap;
  head = s.head;
  player = s.player;
  list = s.list;
  of_head = s.of_head;
  state = s.state;
  of_player = s.of_player;
  of_list = s.of_list;
  whole = s.whole;
}

section_alike : (profile : Profile) (context other : Context) (number : ℕ) (told : Told) (bits : List Bool) → other.baselines ≡ context.baselines → SameBase context other told
    → SpellsSection profile context number told bits → SpellsSection profile other number told bits
section_alike profile context other number Nothing bits baselines same s = s
section_alike profile context other number (Game game) bits baselines same s = s
section_alike profile context other number (Snap base head entities) bits baselines same s = snapshot_alike profile context other number base head entities bits baselines same s
section_alike profile context other number (Skipped base) bits baselines same s = skipped_alike profile context other number base bits same s

message_alike : (profile : Profile) (context other : Context) (number : ℕ) (message : Message) (bits : List Bool) → other.baselines ≡ context.baselines → SameBase context other message.section
    → SpellsMessage profile context number message bits → SpellsMessage profile other number message bits
message_alike profile context other number message bits baselines same s = record {
  ack = s.ack;
  few = s.few;
  section = s.section;
  operations = s.operations;
  of_section = section_alike profile context other number message.section s.section baselines same s.of_section;
  of_operations = s.of_operations;
  whole = s.whole;
}

-- ---- what is read

-- a message's value, and what follows its end
record WasRead (profile : Profile) (context : Context) (number : ℕ) (message : Message) (bits : List Bool) : Type 0 where
  rest : List Bool
  read : server_message_at profile context number bits ≡ Ok (message, rest)

was_read : (profile : Profile) (context : Context) (number : ℕ) (message : Message) (bits : List Bool) → server_message_in profile context number bits ≡ Ok message
    → WasRead profile context number message bits
was_read profile context number message bits e =
    let found = bind_ok (server_message_at profile context number bits) (λ read. Ok read.0) message e in
    let is : found.0.0 ≡ message = cc in
    record { rest = found.0.1; read = found.1 ∙ ap (λ (message : Message). Ok (message, found.0.1)) is }

-- what is read is well formed
pub read_is : ReadIsSpelled → (profile : Profile) (context : Context) (number : ℕ) (message : Message) (bits : List Bool) → IsCodec profile → IsContext profile context → number < 2 ^ 32
    → server_message_in profile context number bits ≡ Ok message → IsRead profile context number message
read_is spelled profile context number message bits codec is fits e =
    let was = was_read profile context number message bits e in
    (spelled profile context number message bits was.rest codec is was.read).0 fits

-- the same is read where the base that it names is the same
pub read_alike : ReadIsSpelled → SpelledIsRead → (profile : Profile) (context other : Context) (number : ℕ) (message : Message) (bits : List Bool) → IsCodec profile
    → IsContext profile context → IsContext profile other → other.baselines ≡ context.baselines → SameBase context other message.section
    → server_message_in profile context number bits ≡ Ok message → server_message_in profile other number bits ≡ Ok message
read_alike spelled is_read profile context other number message bits codec is is' baselines same e =
    let was = was_read profile context number message bits e in
    let found = spelled profile context number message bits was.rest codec is was.read in
    let again = is_read profile other number message found.1 was.rest codec is' (message_alike profile context other number message found.1 baselines same found.3) in
    let there : server_message_at profile other number bits ≡ Ok (message, was.rest) = ap (λ (bits : List Bool). server_message_at profile other number bits) found.2 ∙ again in
    ap (λ r. r >>= λ read. Ok read.0) there

-- ---- what a recording holds while it plays

-- a section names no base, or none that is below the first; one whose base isn't held may name any
abbrev pub NamesSince : ℕ → Told → Type 0
NamesSince first (Snap base head entities) = (base ≡ 0) ⊎ (first ≤ base)
NamesSince first told = Unit {0}

-- what is read against stays well formed
pub context_since : (profile : Profile) (first : ℕ) (held : HeldSnapshots) (baselines : Baselines) → IsContext profile (context_of held baselines) → IsContext profile (context_of (held_since first held) baselines)
context_since profile first held baselines is = record {
  bases = λ number base e. is.bases number base (based number base (view_at (held_since first held) number) refl e);
  baselines = is.baselines;
}
  where
    based : (number : ℕ) (base : Base) (found : Option Snapshot) → view_at (held_since first held) number ≡ found → option_map base_from found ≡ Some base
        → option_map base_from (view_at held number) ≡ Some base
    based number base None at e = absurd cc
    based number base (Some snapshot) at e = ap (option_map base_from) (view_some first held number snapshot at) ∙ e

same_from : (first : ℕ) (held : HeldSnapshots) (baselines : Baselines) (base : ℕ) → (base ≡ 0) ⊎ (first ≤ base)
    → held_base (context_of (held_since first held) baselines) base ≡ held_base (context_of held baselines) base
same_from first held baselines zero from = refl
same_from first held baselines (suc base) (inl none) = absurd (omega (arith, none))
same_from first held baselines (suc base) (inr from) = ap (option_map base_from) (view_from first held (base + 1) (omega (arith, from)))

none_from : (first : ℕ) (held : HeldSnapshots) (baselines : Baselines) (base : ℕ) → held_base (context_of held baselines) base ≡ None → held_base (context_of (held_since first held) baselines) base ≡ None
none_from first held baselines zero none = refl
none_from first held baselines (suc base) none = ap (option_map base_from) (view_none first held (base + 1) (nothing (view_at held (base + 1)) none))
  where
    nothing : (found : Option Snapshot) → option_map base_from found ≡ None → found ≡ None
    nothing None e = refl
    nothing (Some snapshot) e = absurd cc

same_since : (profile : Profile) (first : ℕ) (held : HeldSnapshots) (baselines : Baselines) (told : Told) → NamesSince first told → IsReadTold profile (context_of held baselines) told
    → SameBase (context_of held baselines) (context_of (held_since first held) baselines) told
same_since profile first held baselines Nothing named is = tt
same_since profile first held baselines (Game game) named is = tt
same_since profile first held baselines (Snap base head entities) named is = same_from first held baselines base named
same_since profile first held baselines (Skipped base) named is = none_from first held baselines base is

-- a message is read as the client read it, where it names none below the first
pub read_since : ReadIsSpelled → SpelledIsRead → (profile : Profile) (first : ℕ) (held : HeldSnapshots) (baselines : Baselines) (number : ℕ) (message : Message) (bits : List Bool)
    → IsCodec profile → IsContext profile (context_of held baselines) → number < 2 ^ 32 → NamesSince first message.section
    → server_message_in profile (context_of held baselines) number bits ≡ Ok message → server_message_in profile (context_of (held_since first held) baselines) number bits ≡ Ok message
read_since spelled is_read profile first held baselines number message bits codec is fits named e =
    let context = context_of held baselines in
    let other = context_of (held_since first held) baselines in
    let read = read_is spelled profile context number message bits codec is fits e in
    read_alike spelled is_read profile context other number message bits codec is (context_since profile first held baselines is) refl
    (same_since profile first held baselines message.section named read.section) e
