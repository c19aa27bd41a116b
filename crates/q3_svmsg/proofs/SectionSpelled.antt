-- A snapshot: what is read was spelled so, and what is spelled so is read.
use Rattle.std.proofs.Common.{◌≡◌, ◌⊎◌, ◌<◌, ◌^◌, ◌-◌, ◌==◌, ◌&&◌, not, nat_lt, if◌then◌else◌, ℕ, zero, suc, Bool, true, false, List, [], ◌∷◌, ◌++◌, length, Option, Some, None, IsSome, Result, Ok, refl, sym, ap, subst, ◌∙◌, append_assoc, arith, inl, inr}
use Rattle.std.proofs.lemmas.Bool.{cases_Bool}
use Rattle.std.proofs.lemmas.Bool.Decides.{nat_tests}
use Rattle.q3_bits.specs.ResultBind.{◌>>=◌, fault_as}
use Rattle.q3_bits.proofs.Binds.{bind_ok, map_err_ok}
use Rattle.q3_bits.specs.Words.{row_bits}
use Rattle.q3_bits.specs.Laws.{PutIsRead, ReadWasPut}
use Rattle.q3_strings.specs.Texts.{bytes_row}
use Rattle.q3_strings.proofs.FieldRows.{row-after, row-first}
use Rattle.q3_strings.specs.Laws.{BytesWerePut, BytesAreRead}
use Rattle.q3_player.specs.declared.state.PlayerState.{PlayerState}
use Rattle.q3_player.specs.declared.head.SnapHead.{SnapHead}
use Rattle.q3_player.specs.State.{IsState, IsNormal, zero_player}
use Rattle.q3_player.specs.Delta.{player_at}
use Rattle.q3_player.specs.Spelling.{SpellsPlayer}
use Rattle.q3_player.specs.Laws as player
use Rattle.q3_entity.specs.declared.state.EntityState.{EntityState}
use Rattle.q3_entity.specs.Entities.{AreNormal}
use Rattle.q3_entity.specs.Baselines.{Baselines, AreBaselines}
use Rattle.q3_entity.specs.Lists.{entity_list_at, list_skipped}
use Rattle.q3_entity.specs.Spelling.{SpellsList, SpellsSkipped}
use Rattle.q3_entity.specs.Laws as entity
use Rattle.q3_profile.specs.declared.profile.Profile.{Profile}
use Rattle.q3_profile.specs.Profile.{IsCodec}
use Rattle.q3_svmsg.specs.declared.error.Illegible.{Illegible}
use Rattle.q3_svmsg.specs.declared.error.Illegible.TheVariants.{Player, Entity}
use Rattle.q3_svmsg.specs.Values.{Base, base_player, base_entities, number_of_base, IsNamed, Context, Told, Snap, Skipped, HasNumber}
use Rattle.q3_svmsg.specs.Reading.{field_read, game_at, held_base, snapshot_at, snapshot_skipped, against_base, area_at, section_at}
use Rattle.q3_svmsg.specs.Spelling.{SpellsHead, SpellsSnapshot, SpellsSkippedSnapshot, SpellsSection}
use Rattle.q3_svmsg.specs.Laws.{IsHead, AreEntities, IsContext, IsReadTold}
use Rattle.q3_svmsg.proofs.Fields.{field_was}
use Rattle.q3_svmsg.proofs.AreaSpelled.{area_was_spelled, area_is_read}
use Rattle.q3_svmsg.proofs.Held.{IsFrom, held_is_normal}

-- ---- the player and the entities against a base

-- a text that spells them
pub record SpellsStates (profile : Profile) (baselines : Baselines) (against : Option Base) (to : PlayerState) (entities : List EntityState) (bits : List Bool) : Type 0 where
  pub player : List Bool
  pub list : List Bool
  pub state : IsState to
  pub of_player : SpellsPlayer profile.code profile.player.kinds (base_player against) to player
  pub of_list : SpellsList profile.code profile.entity baselines (base_entities against) entities list
  pub whole : bits ≡ player ++ list

-- a snapshot that was read
record ReadStates (profile : Profile) (baselines : Baselines) (against : Option Base) (base : ℕ) (head : SnapHead) (bits : List Bool) (found : Told × List Bool) : Type 0 where
  to : PlayerState
  entities : List EntityState
  told : found.0 ≡ Snap base (record head { player = to }) entities
  normal : IsNormal profile.player.kinds to
  are : AreEntities profile entities
  normal_entities : AreNormal profile.entity entities
  text : List Bool
  spells : SpellsStates profile baselines against to entities text
  parts : bits ≡ text ++ found.1

-- two texts, one after the other
both_parts : (bits first second left rest : List Bool) → bits ≡ first ++ left → left ≡ second ++ rest → bits ≡ (first ++ second) ++ rest
both_parts bits first second left rest a b = a ∙ ap (λ (left : List Bool). first ++ left) b ∙ sym (append_assoc first second rest)

states_were_spelled : player.ReadIsSpelled → entity.ListReadIsSpelled → (profile : Profile) (baselines : Baselines) (against : Option Base) (base : ℕ) (head : SnapHead) (bits : List Bool)
    (found : Told × List Bool) → IsCodec profile → AreBaselines profile.entity baselines → IsFrom profile against → snapshot_at profile baselines against base head bits ≡ Ok found
    → ReadStates profile baselines against base head bits found
unfolding snapshot_at
states_were_spelled player_law list_law profile baselines against base head bits found codec are_baselines from e =
    let words = profile.code in
    let player = bind_ok (fault_as Player (player_at words profile.player.kinds (base_player against) bits))
    (λ player. fault_as Entity (entity_list_at words profile.entity baselines (base_entities against) player.1) >>= λ entities. Ok (Snap base (record head { player = player.0 }) entities.0, entities.1)) found e in
    let entities = bind_ok (fault_as Entity (entity_list_at words profile.entity baselines (base_entities against) player.0.1))
    (λ entities. Ok (Snap base (record head { player = player.0.0 }) entities.0, entities.1)) found player.2 in
    let made = entities.2 in
    let told : Told = Snap base (record head { player = player.0.0 }) entities.0.0 in
    let same : (told, entities.0.1) ≡ found = cc in
    let to = player_law words profile.player.kinds (base_player against) player.0.0 bits player.0.1 codec.code codec.player.kinds from.state
    (map_err_ok Player (player_at words profile.player.kinds (base_player against) bits) player.0 player.1) in
    let list = list_law words profile.entity baselines (base_entities against) entities.0.0 player.0.1 entities.0.1 codec.code codec.entity are_baselines from.list from.states
    (map_err_ok Entity (entity_list_at words profile.entity baselines (base_entities against) player.0.1) entities.0 entities.1) in
    subst (ReadStates profile baselines against base head bits) {x = (told, entities.0.1)} same (record {
      to = player.0.0;
      entities = entities.0.0;
      told = refl;
      normal = to.1 from.normal;
      are = record { list = list.4.list; states = list.0 };
      normal_entities = list.1 from.normal_entities;
      text = to.2 ++ list.2;
      spells = record { player = to.2; list = list.2; state = to.0; of_player = to.4; of_list = list.4; whole = refl };
      parts = both_parts bits to.2 list.2 player.0.1 entities.0.1 to.3 list.3;
    })

states_are_read : player.SpelledIsRead → entity.ListSpelledIsRead → (profile : Profile) (baselines : Baselines) (against : Option Base) (base : ℕ) (head : SnapHead) (to : PlayerState)
    (entities : List EntityState) (text rest : List Bool) → IsCodec profile → AreBaselines profile.entity baselines → IsFrom profile against → SpellsStates profile baselines against to entities text
    → snapshot_at profile baselines against base head (text ++ rest) ≡ Ok (Snap base (record head { player = to }) entities, rest)
unfolding snapshot_at
states_are_read player_law list_law profile baselines against base head to entities text rest codec are_baselines from s =
    let parts : text ++ rest ≡ s.player ++ (s.list ++ rest) = ap (λ (text : List Bool). text ++ rest) s.whole ∙ append_assoc s.player s.list rest in
    let player = player_law profile.code profile.player.kinds (base_player against) to s.player (s.list ++ rest) codec.code codec.player.kinds from.state s.state s.of_player in
    let list = list_law profile.code profile.entity baselines (base_entities against) entities s.list rest codec.code codec.entity are_baselines from.list from.states s.of_list in
    rw (parts, player, list) refl

-- the same, with what follows them
texts_after : (front first second rest : List Bool) → (front ++ (first ++ second)) ++ rest ≡ front ++ (first ++ (second ++ rest))
texts_after front first second rest = simp append_assoc

-- ---- and where no base is held

-- a snapshot that was passed over
record ReadOver (profile : Profile) (bits : List Bool) (found : Unit {0} × List Bool) : Type 0 where
  to : PlayerState
  player : List Bool
  list : List Bool
  state : IsState to
  of_player : SpellsPlayer profile.code profile.player.kinds zero_player to player
  of_list : SpellsSkipped profile.code profile.entity list
  parts : bits ≡ (player ++ list) ++ found.1

over_was_spelled : player.ZeroIsNormal → player.ReadIsSpelled → entity.SkippedIsSpelled → (profile : Profile) (bits : List Bool) (found : Unit {0} × List Bool) → IsCodec profile
    → snapshot_skipped profile bits ≡ Ok found → ReadOver profile bits found
unfolding snapshot_skipped
over_was_spelled zero_is player_law list_law profile bits found codec e =
    let words = profile.code in
    let player = bind_ok (fault_as Player (player_at words profile.player.kinds zero_player bits)) (λ player. fault_as Entity (list_skipped words profile.entity player.1)) found e in
    let to = player_law words profile.player.kinds zero_player player.0.0 bits player.0.1 codec.code codec.player.kinds (zero_is profile.player.kinds codec.player.kinds).0
    (map_err_ok Player (player_at words profile.player.kinds zero_player bits) player.0 player.1) in
    let list = list_law words profile.entity player.0.1 found.1 codec.code codec.entity (map_err_ok Entity (list_skipped words profile.entity player.0.1) (tt, found.1) player.2) in
    record {
      to = player.0.0;
      player = to.2;
      list = list.0;
      state = to.0;
      of_player = to.4;
      of_list = list.2;
      parts = both_parts bits to.2 list.0 player.0.1 found.1 to.3 list.1;
    }

over_is_read : player.ZeroIsNormal → player.SpelledIsRead → entity.SpelledIsSkipped → (profile : Profile) (to : PlayerState) (player list rest : List Bool) → IsCodec profile → IsState to
    → SpellsPlayer profile.code profile.player.kinds zero_player to player → SpellsSkipped profile.code profile.entity list
    → snapshot_skipped profile (player ++ (list ++ rest)) ≡ Ok (tt, rest)
unfolding snapshot_skipped
over_is_read zero_is player_law list_law profile to player list rest codec state of_player of_list =
    let none = zero_is profile.player.kinds codec.player.kinds in
    rw (
      player_law profile.code profile.player.kinds zero_player to player (list ++ rest) codec.code codec.player.kinds none.0 state of_player,
      list_law profile.code profile.entity list rest codec.code codec.entity of_list,
    ) refl

-- ---- the section

-- a section that was read after its operation
pub record ReadSection (profile : Profile) (context : Context) (number operation : ℕ) (bits : List Bool) (found : Told × List Bool) : Type 0 where
  pub text : List Bool
  pub spells : SpellsSection profile context number found.0 text
  pub is : number < 2 ^ 32 → IsReadTold profile context found.0
  pub number_is : HasNumber number found.0
  pub parts : row_bits profile.code ((operation, 8) ∷ []) ++ bits ≡ text ++ found.1

-- what follows a head that was read
record ReadAfter (profile : Profile) (context : Context) (number distance : ℕ) (head : SnapHead) (bits : List Bool) (found : Told × List Bool) : Type 0 where
  text : List Bool
  spells : (front : List Bool) → ((to : PlayerState) → SpellsHead profile.code number distance (record head { player = to }) front)
      → SpellsSection profile context number found.0 (front ++ text)
  is : IsHead head → head.number ≡ number → IsReadTold profile context found.0
  number_is : head.number ≡ number → HasNumber number found.0
  parts : bits ≡ text ++ found.1

is_some : (o : Option Base) (base : Base) → o ≡ Some base → IsSome o
is_some o base e = subst (λ (o : Option Base). IsSome o) (sym e) refl

-- a base at no distance is none
pub none_named : (number : ℕ) → number_of_base number 0 ≡ 0
none_named number = some (nat_lt 0 number)
  where
    some : (b : Bool) → (if b && false then number - 0 else 0) ≡ 0
    some true = refl
    some false = refl

-- a base that was found at a distance is named
base_named : (context : Context) (number distance : ℕ) (against : Option Base) → distance < 256 → held_base context (number_of_base number distance) ≡ against → (distance ≡ 0) ⊎ IsSome against
    → IsNamed against number (number_of_base number distance)
base_named context number distance None near held (inl none) = ap (number_of_base number) none ∙ none_named number
base_named context number distance None near held (inr some) = absurd cc
base_named context number distance (Some base) near held may =
    elim (cases_Bool (nat_lt distance number && not (distance == 0))) [
      | inl test ↦
          let below : distance < number = grind (arith, nat_tests, test) in
          let some : 0 < distance = grind (arith, nat_tests, test) in
          rw test (omega (arith, below), omega (arith, below, some), omega (arith, near, below))
      | inr test ↦ absurd (let wrong = rw test at held in cc)
    ]

held_is_spelled : (profile : Profile) (context : Context) (number distance : ℕ) (against : Option Base) (head : SnapHead) (bits : List Bool) (found : Told × List Bool)
    → distance < 256 → held_base context (number_of_base number distance) ≡ against → (distance ≡ 0) ⊎ IsSome (held_base context (number_of_base number distance))
    → ReadStates profile context.baselines against (number_of_base number distance) head bits found → ReadAfter profile context number distance head bits found
held_is_spelled profile context number distance against head bits found near held may read =
    let base = number_of_base number distance in
    let states = subst (λ (o : Option Base). SpellsStates profile context.baselines o read.to read.entities read.text) (sym held) read.spells in
    record {
      text = read.text;
      spells = λ front of_head.
          subst (λ (told : Told). SpellsSection profile context number told (front ++ read.text)) (sym read.told) (record {
            distance = distance;
            named = refl;
            held = may;
            head = front;
            player = states.player;
            list = states.list;
            of_head = of_head read.to;
            state = states.state;
            of_player = states.of_player;
            of_list = states.of_list;
            whole = ap (λ (text : List Bool). front ++ text) states.whole ∙ sym (append_assoc front states.player states.list);
          });
      is = λ is_head under.
          subst (IsReadTold profile context) (sym read.told) (
            (
              record { number = is_head.number; time = is_head.time; flags = is_head.flags; area = is_head.area; short = is_head.short; player = states.state },
              read.are,
              subst (λ (n : ℕ). IsNamed (held_base context base) n base) (sym under) (base_named context number distance (held_base context base) near refl may),
            ),
            read.normal,
            read.normal_entities,
          );
      number_is = λ under. subst (HasNumber number) (sym read.told) under;
      parts = read.parts;
    }

after_was_spelled : player.ZeroIsNormal → player.ReadIsSpelled → entity.ListReadIsSpelled → entity.SkippedIsSpelled → (profile : Profile) (context : Context) (number distance : ℕ)
    (against : Option Base) (head : SnapHead) (bits : List Bool) (found : Told × List Bool) → distance < 256 → IsCodec profile → IsContext profile context
    → held_base context (number_of_base number distance) ≡ against → against_base profile context distance (number_of_base number distance) against head bits ≡ Ok found
    → ReadAfter profile context number distance head bits found
after_was_spelled zero_is player_law list_law skip_law profile context number distance (Some base) head bits found near codec is held e =
    held_is_spelled profile context number distance (Some base) head bits found near held (inr (is_some (held_base context (number_of_base number distance)) base held))
    (states_were_spelled player_law list_law profile context.baselines (Some base) (number_of_base number distance) head bits found codec is.baselines
    (held_is_normal profile context codec is zero_is (number_of_base number distance) (Some base) held) e)
after_was_spelled zero_is player_law list_law skip_law profile context number zero None head bits found near codec is held e =
    held_is_spelled profile context number 0 None head bits found near held (inl refl)
    (states_were_spelled player_law list_law profile context.baselines None (number_of_base number 0) head bits found codec is.baselines
    (held_is_normal profile context codec is zero_is (number_of_base number 0) None held) e)
after_was_spelled zero_is player_law list_law skip_law profile context number (suc less) None head bits found near codec is held e =
    let distance = suc less in
    let base = number_of_base number distance in
    let over = bind_ok (snapshot_skipped profile bits) (λ skipped. Ok (Skipped base, skipped.1)) found e in
    let made = over.2 in
    let same : (Skipped base, over.0.1) ≡ found = cc in
    let read = over_was_spelled zero_is player_law skip_law profile bits over.0 codec over.1 in
    subst (ReadAfter profile context number distance head bits) {x = (Skipped base, over.0.1)} same (record {
      text = read.player ++ read.list;
      spells = λ front of_head. record {
        distance = distance;
        some = omega arith;
        named = refl;
        not_held = held;
        snap = record head { player = read.to };
        head = front;
        player = read.player;
        list = read.list;
        of_head = of_head read.to;
        state = read.state;
        of_player = read.of_player;
        of_list = read.of_list;
        whole = sym (append_assoc front read.player read.list);
      };
      is = λ is_head under. held;
      number_is = λ under. tt;
      parts = read.parts;
    })

pub section_was_spelled : ReadWasPut → BytesWerePut → player.ZeroIsNormal → player.ReadIsSpelled → entity.ListReadIsSpelled → entity.SkippedIsSpelled → (profile : Profile) (context : Context) (number : ℕ)
    (bits : List Bool) (found : Told × List Bool) → IsCodec profile → IsContext profile context → section_at profile context number bits ≡ Ok found
    → ReadSection profile context number 7 bits found
unfolding section_at
section_was_spelled put bytes zero_is player_law list_law skip_law profile context number bits found codec is e =
    let words = profile.code in
    let code = codec.code in
    let head = λ (time flags : ℕ) (area : List ℕ). let h : SnapHead = record { number = number; time = time; flags = flags; area = record { items = area }; player = zero_player } in h in
    let against = λ (time distance flags : ℕ) (area : List ℕ × List Bool).
    against_base profile context distance (number_of_base number distance) (held_base context (number_of_base number distance)) (head time flags area.0) area.1 in
    let time = bind_ok (field_read words 32 bits)
    (λ time. field_read words 8 time.1 >>= λ distance. (field_read words 8 distance.1 >>= λ flags. (area_at words flags.1 >>= λ area. against time.0 distance.0 flags.0 area))) found e in
    let distance = bind_ok (field_read words 8 time.0.1)
    (λ distance. field_read words 8 distance.1 >>= λ flags. (area_at words flags.1 >>= λ area. against time.0.0 distance.0 flags.0 area)) found time.2 in
    let flags = bind_ok (field_read words 8 distance.0.1) (λ flags. area_at words flags.1 >>= λ area. against time.0.0 distance.0.0 flags.0 area) found distance.2 in
    let area = bind_ok (area_at words flags.0.1) (λ area. against time.0.0 distance.0.0 flags.0.0 area) found flags.2 in
    let time_was = field_was put words 32 bits time.0 code time.1 in
    let distance_was = field_was put words 8 time.0.1 distance.0 code distance.1 in
    let flags_was = field_was put words 8 distance.0.1 flags.0 code flags.1 in
    let area_was = area_was_spelled put bytes words code flags.0.1 area.0 area.1 in
    let snap = head time.0.0 flags.0.0 area.0.0 in
    let after = after_was_spelled zero_is player_law list_law skip_law profile context number distance.0.0 (held_base context (number_of_base number distance.0.0)) snap area.0.1 found
    distance_was.fits codec is refl area.2 in
    let count = (length area.0.0, 8) ∷ [] in
    let fields = (time.0.0, 32) ∷ (distance.0.0, 8) ∷ (flags.0.0, 8) ∷ count in
    let front = row_bits words ((7, 8) ∷ fields) ++ bytes_row words area.0.0 in
    record {
      text = front ++ after.text;
      spells = after.spells front (λ to. record {
        under = refl;
        time = time_was.fits;
        near = distance_was.fits;
        flags = flags_was.fits;
        area = area_was.each;
        short = area_was.short;
        text = refl;
      });
      is = λ low.
          after.is (record {
            number = low;
            time = time_was.fits;
            flags = flags_was.fits;
            area = area_was.each;
            short = area_was.short;
            player = (zero_is profile.player.kinds codec.player.kinds).0;
          }) refl;
      number_is = after.number_is refl;
      parts =
          ap (λ (bits : List Bool). row_bits words ((7, 8) ∷ []) ++ bits)
          (time_was.row ((distance.0.0, 8) ∷ (flags.0.0, 8) ∷ count) (bytes_row words area.0.0 ++ area.0.1)
          (distance_was.row ((flags.0.0, 8) ∷ count) (bytes_row words area.0.0 ++ area.0.1) (flags_was.row count (bytes_row words area.0.0 ++ area.0.1) area_was.parts)))
          ∙ sym (row-after words 7 8 fields (bytes_row words area.0.0 ++ area.0.1))
          ∙ sym (append_assoc (row_bits words ((7, 8) ∷ fields)) (bytes_row words area.0.0) area.0.1)
          ∙ ap (λ (left : List Bool). front ++ left) after.parts
          ∙ sym (append_assoc front after.text found.1);
    }

-- ---- a section that is spelled so is read

-- the head, and what follows it
head_is_read : PutIsRead → BytesAreRead → (profile : Profile) (context : Context) (distance base : ℕ) (snap : SnapHead) (front left : List Bool) → IsCodec profile
    → SpellsHead profile.code snap.number distance snap front → base ≡ number_of_base snap.number distance
    → (bits : List Bool) × (front ≡ row_bits profile.code ((7, 8) ∷ []) ++ bits)
    × (section_at profile context snap.number (bits ++ left)
    ≡ against_base profile context distance base (held_base context base) (record snap { player = zero_player }) left)
unfolding section_at
head_is_read put bytes profile context distance base snap front left codec s named =
    let words = profile.code in
    let code = codec.code in
    let area = bytes_row words snap.area.items in
    let count = (length snap.area.items, 8) ∷ [] in
    let fields = (snap.time, 32) ∷ (distance, 8) ∷ (snap.flags, 8) ∷ count in (
      row_bits words fields ++ area,
      s.text ∙ row-after words 7 8 fields area,
      rw (
        append_assoc (row_bits words fields) area left,
        row-first words code put snap.time 32 ((distance, 8) ∷ (snap.flags, 8) ∷ count) (area ++ left) s.time,
        row-first words code put distance 8 ((snap.flags, 8) ∷ count) (area ++ left) s.near,
        row-first words code put snap.flags 8 count (area ++ left) s.flags,
        area_is_read put bytes words code snap.area.items left s.area s.short,
        named,
      ) refl,
    )

-- a section of this operation reads so
abbrev pub ReadsSection : Profile → Context → ℕ → ℕ → List Bool → Result (Told × List Bool) Illegible → Type 0
ReadsSection profile context number operation bits read =
    ((operation ≡ 2) × (read ≡ game_at profile bits)) ⊎ ((operation ≡ 7) × (read ≡ section_at profile context number bits))

-- a section that is spelled after its operation
pub record TakenSection (profile : Profile) (context : Context) (number : ℕ) (told : Told) (text rest : List Bool) : Type 0 where
  pub operation : ℕ
  pub fits : operation < 256
  pub bits : List Bool
  pub parts : text ≡ row_bits profile.code ((operation, 8) ∷ []) ++ bits
  pub reads : ReadsSection profile context number operation (bits ++ rest) (Ok (told, rest))

-- without a base, or against one that is held, a snapshot is read
against_held : (profile : Profile) (context : Context) (distance base : ℕ) (against : Option Base) (head : SnapHead) (bits : List Bool) → (distance ≡ 0) ⊎ IsSome against
    → against_base profile context distance base against head bits ≡ snapshot_at profile context.baselines against base head bits
against_held profile context distance base (Some held) head bits may = refl
against_held profile context zero base None head bits may = refl
against_held profile context (suc near) base None head bits (inl none) = absurd (omega arith)
against_held profile context (suc near) base None head bits (inr some) = absurd cc

-- and one whose base isn't held is passed over
against_none : (profile : Profile) (context : Context) (distance base : ℕ) (against : Option Base) (head : SnapHead) (bits rest : List Bool) → 0 < distance → against ≡ None
    → snapshot_skipped profile bits ≡ Ok (tt, rest) → against_base profile context distance base against head bits ≡ Ok (Skipped base, rest)
against_none profile context distance base (Some held) head bits rest some none over = absurd cc
against_none profile context zero base None head bits rest some none over = absurd (omega (arith, some))
against_none profile context (suc near) base None head bits rest some none over = rw over refl

-- a head, and a player and a list that are read after it
after_head : PutIsRead → BytesAreRead → (profile : Profile) (context : Context) (number distance base : ℕ) (snap : SnapHead) (told : Told) (text front player list rest : List Bool) → IsCodec profile
    → SpellsHead profile.code number distance snap front → base ≡ number_of_base number distance → text ≡ front ++ player ++ list
    → against_base profile context distance base (held_base context base) (record snap { player = zero_player }) (player ++ (list ++ rest)) ≡ Ok (told, rest)
    → TakenSection profile context number told text rest
after_head put bytes profile context number distance base snap told text front player list rest codec s named whole read =
    let of_head = subst (λ (n : ℕ). SpellsHead profile.code n distance snap front) (sym s.under) s in
    let head = head_is_read put bytes profile context distance base snap front (player ++ (list ++ rest)) codec of_head (subst (λ (n : ℕ). base ≡ number_of_base n distance) (sym s.under) named) in
    record {
      operation = 7;
      fits = omega arith;
      bits = head.0 ++ (player ++ list);
      parts = whole ∙ ap (λ (front : List Bool). front ++ player ++ list) head.1 ∙ simp append_assoc;
      reads = inr (
        refl,
        sym (
            subst (λ (n : ℕ). section_at profile context n ((head.0 ++ (player ++ list)) ++ rest) ≡ Ok (told, rest)) s.under
            (ap (λ (bits : List Bool). section_at profile context snap.number bits) (texts_after head.0 player list rest) ∙ head.2 ∙ read)
            ),
      );
    }

pub snapshot_is_read : PutIsRead → BytesAreRead → player.ZeroIsNormal → player.SpelledIsRead → entity.ListSpelledIsRead → (profile : Profile) (context : Context) (number base : ℕ) (snap : SnapHead)
    (entities : List EntityState) (text rest : List Bool) → IsCodec profile → IsContext profile context → SpellsSnapshot profile context number base snap entities text
    → TakenSection profile context number (Snap base snap entities) text rest
snapshot_is_read put bytes zero_is player_law list_law profile context number base snap entities text rest codec is s =
    let against = held_base context base in
    let head = record snap { player = zero_player } in
    let states = states_are_read player_law list_law profile context.baselines against base head snap.player entities (s.player ++ s.list) rest codec is.baselines
    (held_is_normal profile context codec is zero_is base against refl)
    (record { player = s.player; list = s.list; state = s.state; of_player = s.of_player; of_list = s.of_list; whole = refl }) in
    after_head put bytes profile context number s.distance base snap (Snap base snap entities) text s.head s.player s.list rest codec s.of_head s.named s.whole
    (against_held profile context s.distance base against head (s.player ++ (s.list ++ rest)) s.held
    ∙ ap (λ (bits : List Bool). snapshot_at profile context.baselines against base head bits) (sym (append_assoc s.player s.list rest)) ∙ states)

pub skipped_is_read : PutIsRead → BytesAreRead → player.ZeroIsNormal → player.SpelledIsRead → entity.SpelledIsSkipped → (profile : Profile) (context : Context) (number base : ℕ) (text rest : List Bool)
    → IsCodec profile → SpellsSkippedSnapshot profile context number base text → TakenSection profile context number (Skipped base) text rest
skipped_is_read put bytes zero_is player_law list_law profile context number base text rest codec s =
    after_head put bytes profile context number s.distance base s.snap (Skipped base) text s.head s.player s.list rest codec s.of_head s.named s.whole
    (against_none profile context s.distance base (held_base context base) (record s.snap { player = zero_player }) (s.player ++ (s.list ++ rest)) rest s.some s.not_held
    (over_is_read zero_is player_law list_law profile s.snap.player s.player s.list rest codec s.state s.of_player s.of_list))
