-- The text of a message that was built is read back, against all that a client holds.
use Rattle.std.proofs.Common.{◌≡◌, zero, suc, ◌+◌, ◌<◌, Bool, true, false, List, [], ◌∷◌, ◌++◌, map, Option, Some, None, Result, Ok, Err, refl, sym, ap, subst, ◌∙◌, inl, inr, arith, ℕ}
use Rattle.std.specs.Prelude.{◌==◌, ◌⊎◌, IfSome, is_ok, option_map, if◌then◌else◌}
use Rattle.std.specs.Result.{result_ok}
use Rattle.std.proofs.lemmas.List.Elements.{All-head, All-tail}
use Rattle.std.proofs.lemmas.Bool.{cases_Bool, eq-eqb, cond-true, cond-false}
use Rattle.q3_bits.specs.ResultBind.{◌>>=◌}
use Rattle.q3_fields.specs.Kinds.{Layout}
use Rattle.q3_profile.specs.declared.profile.Profile.{Profile}
use Rattle.q3_profile.specs.Profile.{IsCodec}
use Rattle.q3_player.specs.declared.state.PlayerState.{PlayerState}
use Rattle.q3_player.specs.declared.head.SnapHead.{SnapHead}
use Rattle.q3_entity.specs.declared.state.EntityState.{EntityState}
use Rattle.q3_entity.specs.Entities.{normal_entity, IsNormal, AreNormal}
use Rattle.q3_entity.specs.Baselines.{Baselines, AreBaselines}
use Rattle.q3_entity.specs.Lists.{entity_list_bits}
use Rattle.q3_gamestate.specs.Values.{Gamestate}
use Rattle.q3_gamestate.specs.Laws.{IsGamestate}
use Rattle.q3_svmsg.specs.declared.error.Illegible.{Illegible}
use Rattle.q3_svmsg.specs.Values.{Base, base_from, IsNamed, Context, Message}
use Rattle.q3_svmsg.specs.Texts.{snapshot_bits, section_bits, server_message_bits}
use Rattle.q3_svmsg.specs.Reading.{held_base, server_message_at}
use Rattle.q3_svmsg.specs.Laws.{IsBase, IsContext, IsMessage, WrittenIsRead, ReadIsSkipped}
use Rattle.q3_entity_ring.specs.Snapshot.{Snapshot}
use Rattle.q3_rings.specs.declared.rings.NoBase.{NoBase}
use Rattle.q3_rings.specs.Rings.{HeldSnapshots, held_snapshot, view_at}
use Rattle.q3_clstate.specs.State.{context_of, has_base, received}
use Rattle.q3_built.specs.Built.{Telling, number_of, message_of, game_message_of, IsSnapshot, IsNear, IsTelling}
use Rattle.q3_messages.specs.MessageLaws.{HoldsThis}

-- a base that a message names is there where it is held
pub has_base_is : (held : HeldSnapshots) (number : ℕ) → 0 < number → has_base held number ≡ is_ok (held_snapshot held number)
has_base_is held zero some = absurd (omega (arith, some))
has_base_is held (suc number) some = let same : number + 1 ≡ suc number = omega arith in ap (λ (k : ℕ). is_ok (held_snapshot held k)) same

-- ---- contexts

-- a reader's bases and baselines
abbrev with_bases : (ℕ → Option Base) → Baselines → Context
with_bases bases baselines = record { base = bases; baselines = baselines }

some_base : (x y : Base) → Some x ≡ Some y → x ≡ y
some_base x y e = cc

abbrev no_base : Option Base
no_base = None

-- a snapshot that was built is a base
snapshot_is_base : (profile : Profile) (snapshot : Snapshot) → IsSnapshot profile snapshot → IsBase profile (base_from snapshot)
snapshot_is_base profile snapshot is =
    record {
      state = is.player.state;
      normal = is.player.normal;
      entities = record { list = record { rise = is.entities.rise; few = is.few }; states = is.entities.states };
      normal_entities = is.entities.normal;
    }

-- the one snapshot under its number
abbrev only : Snapshot → ℕ → Option Base
only base number = if number == base.head.number then Some (base_from base) else None

only_there : (base : Snapshot) → only base base.head.number ≡ Some (base_from base)
only_there base = rw (eq-eqb base.head.number base.head.number refl) refl

only_is_context : (profile : Profile) (base : Snapshot) (baselines : Baselines) → IsSnapshot profile base → AreBaselines profile.entity baselines → IsContext profile (with_bases (only base) baselines)
only_is_context profile base baselines is are_baselines = record { bases = λ number found at. one number found at; baselines = are_baselines }
  where
    none_some : (found : Base) → no_base ≡ Some found → ⊥
    none_some found e = absurd cc

    one : (number : ℕ) (found : Base) → only base number ≡ Some found → IsBase profile found
    one number found at =
        elim (cases_Bool (number == base.head.number)) [
          | inl same ↦ subst (IsBase profile) (some_base (base_from base) found (sym (cond-true (number == base.head.number) (Some (base_from base)) no_base same) ∙ at)) (snapshot_is_base profile base is)
          | inr other ↦ absurd (none_some found (sym (cond-false (number == base.head.number) (Some (base_from base)) no_base other) ∙ at))
        ]

-- a number above 0 is looked up
looked_up : (context : Context) (number : ℕ) → 0 < number → held_base context number ≡ context.base number
looked_up context zero some = absurd (omega (arith, some))
looked_up context (suc number) some = let same : number + 1 ≡ suc number = omega arith in ap (λ (k : ℕ). context.base k) same

-- entities in normal form are their normal form
all_normal : (table : Layout) (entities : List EntityState) → AreNormal table entities → map (normal_entity table) entities ≡ entities
all_normal table [] normal = refl
all_normal table (entity ∷ others) normal =
    ap (λ (e : EntityState). e ∷ map (normal_entity table) others) (All-head (IsNormal table) entity others normal)
    ∙ ap (λ (rest : List EntityState). entity ∷ rest) (all_normal table others (All-tail (IsNormal table) entity others normal))

-- ---- a message that was built

-- a base that is found for a message is named by it
named_so : (context : Context) (n : ℕ) (base : Option Snapshot) → IfSome base (IsNear n) → held_base context (number_of base) ≡ option_map base_from base
    → IsNamed (held_base context (number_of base)) n (number_of base)
named_so context n None near found = refl
named_so context n (Some base) near found =
    let near_by = near.near in
    subst (λ (o : Option Base). IsNamed o n base.head.number) (sym found) (near.some, near.below, omega (arith, near_by))

-- it is a message as the program's type holds it
built_is_message : (profile : Profile) (challenge : ℕ) (context : Context) (n : ℕ) (telling : Telling) (base : Option Snapshot) (snapshot : Snapshot)
    → IsTelling profile challenge n telling → IsSnapshot profile snapshot → snapshot.head.number ≡ n
    → IfSome base (IsNear n) → held_base context (number_of base) ≡ option_map base_from base → IsMessage profile context n (message_of telling base snapshot)
built_is_message profile challenge context n telling base snapshot tells is number near found =
    let fits = is.number in
    let flags = is.flags in
    record {
      ack = tells.ack;
      few = tells.few;
      commands = tells.commands;
      section = (
        record {
          number = omega (arith, fits);
          time = is.time;
          flags = omega (arith, flags);
          area = is.area.bytes;
          short = is.area.short;
          player = is.player.state;
        },
        record { list = record { rise = is.entities.rise; few = is.few }; states = is.entities.states },
        subst (λ (k : ℕ). IsNamed (held_base context (number_of base)) k (number_of base)) (sym number) (named_so context n base near found),
      );
      number_is = number;
    }

abbrev pub Read : Type 0
Read = Result (Message × List Bool) Illegible

abbrev done : Telling → Option Snapshot → List Bool → Snapshot → Read
done telling base rest snapshot = Ok (message_of telling base snapshot, rest)

abbrev pub value_of : Read → Result Message Illegible
value_of read = read >>= λ one. Ok one.0

-- the text of a message with a snapshot
abbrev pub text : Profile → Baselines → Telling → Option Snapshot → Snapshot → List Bool
text profile baselines telling base snapshot = server_message_bits profile baselines (option_map base_from base) (message_of telling base snapshot)

module _ (profile : Profile) (challenge : ℕ) (law : WrittenIsRead) (codec : IsCodec profile) (n : ℕ) (telling : Telling) (tells : IsTelling profile challenge n telling) (baselines : Baselines) (base : Option Snapshot) (snapshot : Snapshot) (is : IsSnapshot profile snapshot) (number : snapshot.head.number ≡ n) (rest : List Bool) where
  -- where its base is found, it is read back from its text by the same baselines, with whatever follows it
  pub text_is_read : (bases : ℕ → Option Base) → IsContext profile (with_bases bases baselines) → IfSome base (IsNear n)
      → held_base (with_bases bases baselines) (number_of base) ≡ option_map base_from base
      → server_message_at profile (with_bases bases baselines) n (text profile baselines telling base snapshot ++ rest) ≡ done telling base rest snapshot
  text_is_read bases context near found =
      let head = snapshot.head in
      let entities = snapshot.entities in
      let message = message_of telling base snapshot in
      ap (λ (o : Option Base). server_message_at profile (with_bases bases baselines) n (server_message_bits profile baselines o message ++ rest)) (sym found)
      ∙ (law profile (with_bases bases baselines) n message rest codec context (built_is_message profile challenge (with_bases bases baselines) n telling base snapshot tells is number near found)
      ∙ (ap (λ (p : PlayerState). done telling base rest (record { head = record head { player = p }; entities = map (normal_entity profile.entity) entities })) is.player.normal
      ∙ ap (λ (es : List EntityState). done telling base rest (record { head = head; entities = es })) (all_normal profile.entity entities is.entities.normal)))

-- ---- what is read against all that is held

-- the message, or a skipped snapshot
abbrev pub read_so : HeldSnapshots → Message → List Bool → Read
read_so held message rest = Ok (record message { section = received held message.section }, rest)

held_or : (r : Result Snapshot NoBase) → ((snapshot : Snapshot) × (r ≡ Ok snapshot)) ⊎ ((cause : NoBase) × (r ≡ Err cause))
held_or (Ok snapshot) = inl (snapshot, refl)
held_or (Err cause) = inr (cause, refl)

-- a message with a snapshot is read so by the baselines by which it was written
pub text_is_received : (profile : Profile) (challenge : ℕ) → WrittenIsRead → ReadIsSkipped → IsCodec profile → (held : HeldSnapshots) (baselines : Baselines) (n : ℕ) (telling : Telling) (base : Option Snapshot) (snapshot : Snapshot) (rest : List Bool)
    → IsContext profile (context_of held baselines) → IsTelling profile challenge n telling → IsSnapshot profile snapshot → snapshot.head.number ≡ n → IfSome base (λ b. IsNear n b × IsSnapshot profile b × HoldsThis held b)
    → server_message_at profile (context_of held baselines) n (text profile baselines telling base snapshot ++ rest) ≡ read_so held (message_of telling base snapshot) rest
text_is_received profile challenge law skips codec held baselines n telling None snapshot rest is_context tells is number known =
    text_is_read profile challenge law codec n telling tells baselines None snapshot is number rest (context_of held baselines).base is_context tt refl
text_is_received profile challenge law skips codec held baselines n telling (Some base) snapshot rest is_context tells is number known =
    let b = base.head.number in
    let context = context_of held baselines in
    let near = known.0 in
    let at = looked_up context b near.some in
    let has = has_base_is held b near.some in
    elim (held_or (held_snapshot held b)) [
      | inl found ↦
          let viewed : view_at held b ≡ Some found.0 = ap (λ (r : Result Snapshot NoBase). result_ok r) found.1 in
          let this : found.0 ≡ base = known.2 found.0 viewed in
          let there : held_base context b ≡ Some (base_from base) = at ∙ (ap (λ (o : Option Snapshot). option_map base_from o) viewed ∙ ap (λ (s : Snapshot). some_base_of s) this) in
          let may : has_base held b ≡ true = has ∙ ap (λ (r : Result Snapshot NoBase). is_ok r) found.1 in
          rw may (text_is_read profile challenge law codec n telling tells baselines (Some base) snapshot is number rest context.base is_context near there)
      | inr missing ↦
          let viewed : view_at held b ≡ None = ap (λ (r : Result Snapshot NoBase). result_ok r) missing.1 in
          let none : held_base context b ≡ None = at ∙ ap (λ (o : Option Snapshot). option_map base_from o) viewed in
          let may : has_base held b ≡ false = has ∙ ap (λ (r : Result Snapshot NoBase). is_ok r) missing.1 in
          let alone = with_bases (only base) baselines in
          let alone_is = only_is_context profile base baselines known.1 is_context.baselines in
          let whole = text_is_read profile challenge law codec n telling tells baselines (Some base) snapshot is number rest (only base) alone_is near (looked_up alone b near.some ∙ only_there base) in
          rw may (skips profile alone context n b snapshot.head snapshot.entities (message_of telling (Some base) snapshot) (text profile baselines telling (Some base) snapshot ++ rest) rest
          codec alone_is is_context refl near.some none whole)
    ]
  where
    some_base_of : Snapshot → Option Base
    some_base_of s = Some (base_from s)

-- ---- what has the same text whatever the baselines are

-- a list in which nothing is, against one in which nothing is
nothing_alike : (words : List (List Bool)) (table : Layout) (baselines others : Baselines) → entity_list_bits words table baselines [] [] ≡ entity_list_bits words table others [] []
unfolding entity_list_bits
nothing_alike words table baselines others = refl

-- so a snapshot in which nothing is, without a base
waiting_alike : (profile : Profile) (baselines others : Baselines) (telling : Telling) (head : SnapHead)
    → text profile baselines telling None (record { head = head; entities = [] }) ≡ text profile others telling None (record { head = head; entities = [] })
unfolding server_message_bits section_bits snapshot_bits
waiting_alike profile baselines others telling head = rw (nothing_alike profile.code profile.entity baselines others) refl

-- the text of a snapshot for a client that has the baselines, or for one that doesn't play
pub text_alike : (profile : Profile) (baselines others : Baselines) (telling : Telling) (base : Option Snapshot) (snapshot : Snapshot) (under : Option ℕ) → IfSome under (λ game. others ≡ baselines)
    → (under ≡ None → (snapshot.entities ≡ []) × (base ≡ None)) → text profile baselines telling base snapshot ≡ text profile others telling base snapshot
text_alike profile baselines others telling base snapshot None same waits =
    let Alike : Option Snapshot → List EntityState → Type 0 =
    λ b entities. text profile baselines telling b (record { head = snapshot.head; entities = entities }) ≡ text profile others telling b (record { head = snapshot.head; entities = entities }) in
    subst (λ (b : Option Snapshot). Alike b snapshot.entities) (sym (waits refl).1)
    (subst (λ (entities : List EntityState). Alike None entities) (sym (waits refl).0) (waiting_alike profile baselines others telling snapshot.head))
text_alike profile baselines others telling base snapshot (Some game) same waits = ap (λ (l : Baselines). text profile l telling base snapshot) (sym same)

-- and that of a gamestate
game_alike : (profile : Profile) (baselines others : Baselines) (telling : Telling) (game : Gamestate)
    → server_message_bits profile baselines None (game_message_of telling game) ≡ server_message_bits profile others None (game_message_of telling game)
unfolding server_message_bits section_bits
game_alike profile baselines others telling game = refl

-- so a message with a gamestate is read back whatever is held, and by which baselines ever
pub game_is_received : (profile : Profile) (challenge : ℕ) → WrittenIsRead → IsCodec profile → (held : HeldSnapshots) (baselines others : Baselines) (n : ℕ) (telling : Telling) (game : Gamestate) (rest : List Bool)
    → IsContext profile (context_of held baselines) → IsTelling profile challenge n telling → IsGamestate profile game
    → server_message_at profile (context_of held baselines) n (server_message_bits profile others None (game_message_of telling game) ++ rest) ≡ read_so held (game_message_of telling game) rest
game_is_received profile challenge law codec held baselines others n telling game rest is_context tells is =
    let context = context_of held baselines in
    let message = game_message_of telling game in
    ap (λ (bits : List Bool). server_message_at profile context n (bits ++ rest)) (game_alike profile others baselines telling game)
    ∙ law profile context n message rest codec is_context
    (record { ack = tells.ack; few = tells.few; commands = tells.commands; section = is; number_is = tt })
