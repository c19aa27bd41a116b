-- The map stays as the game handed it in.
use Rattle.std.proofs.Common.{◌≡◌, ℕ, ◌^◌, ◌<◌, true, List, [], ◌∷◌, Option, Some, None, Ok, Err, refl, sym, ap, subst, ◌∙◌, inl, inr, arith}
use Rattle.std.specs.Prelude.{◌==◌, ◌&&◌, not, nat_lt, nat_le, find, map as map_list, All, codes, option_and_then}
use Rattle.std.proofs.lemmas.Bool.{cases_Bool, cond_both, leb-true, not-false, and_parts}
use Rattle.std.proofs.lemmas.List.{get_or-set_other}
use Rattle.std.proofs.lemmas.List.Elements.{All-nil, All-cons}
use Rattle.q3_profile.specs.declared.profile.Profile.{Profile}
use Rattle.q3_profile.specs.Profile.{IsCodec}
use Rattle.q3_fields.specs.Kinds.{Layout, end_mark}
use Rattle.q3_fields.specs.States.{AreWords}
use Rattle.q3_entity.specs.declared.state.EntityState.{EntityState}
use Rattle.q3_entity.specs.Entities.{IsNormal, normal_entity}
use Rattle.q3_text.specs.Texts.{translated}
use Rattle.q3_text.specs.Info.{info_of}
use Rattle.q3_text.specs.Decimals.{info_number}
use Rattle.q3_config.specs.declared.error.ConfigError.{ConfigError}
use Rattle.q3_config.specs.declared.error.ConfigError.TheVariants.{Index}
use Rattle.q3_config.specs.Strings.{Strings, AreStrings, places, is_config_byte, no_strings, with_string, chars_fault, room_fault, set_fault, admit_fault, after_set, server_id}
use Rattle.q3_entity.specs.Baselines.{with_baseline}
use Rattle.q3_map.specs.declared.map.Late.{Late}
use Rattle.q3_map.specs.Map.{MapState, Handed, AreHeld, no_map, id_text, after_new_map, set_baseline_at, set_entity_at, remove_entity_at, with_config, begins_game}
use Rattle.q3_server.specs.Standing.{IsMap, Below}

pub none_held : (table : Layout) → AreHeld table []
none_held table = record { rise = tt; states = All-nil (λ (entity : EntityState). AreWords 64 entity.words); normal = All-nil (IsNormal table) }

-- before the first map
pub map_none : Below → (profile : Profile) → IsMap profile no_map
map_none below profile = record {
  id = omega arith;
  feed = omega arith;
  time = omega arith;
  strings = below.strings.none;
  texts = below.texts.none.each;
  pending = refl;
  tells = λ some. absurd (some refl);
  baselines = below.no_baselines profile.entity;
  entities = none_held profile.entity;
}

-- ---- the time, the entities, and a gamestate

-- another time and other entities
map_given : (profile : Profile) (map : MapState) (time : ℕ) (entities : List EntityState) → time < 2 ^ 32 → AreHeld profile.entity entities → IsMap profile map
    → IsMap profile (record map { time = time; entities = entities })
map_given profile map time entities short held is =
    record {
      id = is.id;
      feed = is.feed;
      time = short;
      strings = is.strings;
      texts = is.texts;
      pending = is.pending;
      tells = is.tells;
      baselines = is.baselines;
      entities = held;
    }

pub map_timed : (profile : Profile) (map : MapState) (time : ℕ) → time < 2 ^ 32 → IsMap profile map → IsMap profile (record map { time = time })
map_timed profile map time short is = map_given profile map time map.entities short is.entities is

-- an entity in normal form
pub map_entered : Below → (profile : Profile) (map : MapState) (state : EntityState) → IsCodec profile → state.number < end_mark profile.entity → AreWords 64 state.words → IsMap profile map
    → IsMap profile (set_entity_at profile.entity map state)
map_entered below profile map state codec le words is =
    let normal = below.entity profile.entity state codec.entity words in
    let held = below.lists.put profile.entity (normal_entity profile.entity state) map.entities le normal.0 normal.1 is.entities in
    map_given profile map map.time _ is.time held is

-- one entity less
pub map_removed : Below → (profile : Profile) (map : MapState) (number : ℕ) → IsMap profile map → IsMap profile (remove_entity_at map number)
map_removed below profile map number is = map_given profile map map.time _ is.time (below.lists.without profile.entity number map.entities is.entities) is

-- a gamestate of the map is begun
pub map_begun : (profile : Profile) (map : MapState) → IsMap profile map → IsMap profile (begins_game map)
map_begun profile map is =
    record {
      id = is.id;
      feed = is.feed;
      time = is.time;
      strings = is.strings;
      texts = is.texts;
      pending = is.pending;
      tells = is.tells;
      baselines = is.baselines;
      entities = is.entities;
    }

-- ---- a new map

pub map_new : Below → (profile : Profile) (map : MapState) (id feed : ℕ) → id < 2 ^ 31 → feed < 2 ^ 32 → IsMap profile map → IsMap profile (after_new_map map id feed)
map_new below profile map id feed least short is =
    let text = id_text id in
    let strings : AreStrings (with_string no_strings 1 text) =
    subst (λ (fault : Option ConfigError). AreStrings (after_set no_strings 1 text fault)) (below.maps.fits id least) (below.strings.set no_strings 1 text below.strings.none) in
    record {
      id = least;
      feed = short;
      time = is.time;
      strings = strings;
      texts = (below.texts.set no_strings 1 text None below.texts.none (below.maps.bytes id)).each;
      pending = refl;
      tells = λ other. below.maps.told id least;
      baselines = below.no_baselines profile.entity;
      entities = none_held profile.entity;
    }

-- ---- a baseline

pub map_baselined : Below → (profile : Profile) (map : MapState) (state : EntityState) → IsCodec profile → state.number < end_mark profile.entity → AreWords 64 state.words → IsMap profile map
    → IsMap profile (set_baseline_at profile.entity map state).map
map_baselined below profile map state codec lt words is =
    let baseline = normal_entity profile.entity state in
    let normal = below.entity profile.entity state codec.entity words in
    cond_both map.begun (record { map = map; answer = Err (record {}) }) (record { map = record map { baselines = with_baseline map.baselines baseline }; answer = Ok tt })
    (λ (h : Handed Late). IsMap profile h.map) (λ begun. is) (λ open_. record {
      id = is.id;
      feed = is.feed;
      time = is.time;
      strings = is.strings;
      texts = is.texts;
      pending = is.pending;
      tells = is.tells;
      baselines = below.baseline profile.entity map.baselines baseline is.baselines lt normal.0 normal.1;
      entities = is.entities;
    })

-- ---- a config string

abbrev some_fault : ConfigError → Option ConfigError
some_fault fault = Some fault

abbrev no_fault : Option ConfigError
no_fault = None

abbrev some_byte : ℕ → Option ℕ
some_byte byte = Some byte

abbrev no_byte : Option ℕ
no_byte = None

-- a byte that a command may carry isn't 0
carried_some : (byte : ℕ) → is_config_byte byte ≡ true → 0 < byte
carried_some byte carried =
    let least = leb-true 32 byte (and_parts (nat_le 32 byte) (nat_le byte 126) (and_parts (nat_le 32 byte && nat_le byte 126) (not (byte == 34)) carried).0).0 in
    omega (arith, least)

-- where no byte is found, none is 0
all_some : (text : List ℕ) → find (λ byte. not (is_config_byte byte)) text ≡ None → All (λ byte. 0 < byte) text
all_some [] none = All-nil (λ (byte : ℕ). 0 < byte)
all_some (byte ∷ text) none =
    elim (cases_Bool (not (is_config_byte byte))) [
      | inl bad ↦ let e : some_byte byte ≡ no_byte = rw bad at none in absurd cc
      | inr fine ↦ All-cons (λ (byte : ℕ). 0 < byte) byte text (carried_some byte (not-false (is_config_byte byte) fine)) (all_some text (rw fine at none))
    ]

-- a text that may go out as commands may be set, and has no byte 0
record MayBeSet (strings : Strings) (index : ℕ) (text : List ℕ) : Type 0 where
  some : All (λ (byte : ℕ). 0 < byte) text
  none : set_fault strings index text ≡ None

may_set : (strings : Strings) (index : ℕ) (text : List ℕ) → nat_lt index places ≡ true → room_fault strings index text ≡ None → set_fault strings index text ≡ None
unfolding set_fault
may_set strings index text within none = rw within none

may_be_set : (strings : Strings) (index : ℕ) (text : List ℕ) → admit_fault strings index text ≡ None → MayBeSet strings index text
unfolding admit_fault
may_be_set strings index text none =
    elim (cases_Bool (nat_lt index places)) [
      | inl within ↦ of_chars within (find (λ byte. not (is_config_byte byte)) text) refl (rw within at none)
      | inr past ↦ let e : some_fault Index ≡ no_fault = rw past at none in absurd cc
    ]
  where
    of_chars : nat_lt index places ≡ true → (byte : Option ℕ) → find (λ byte. not (is_config_byte byte)) text ≡ byte → chars_fault strings index text byte ≡ None → MayBeSet strings index text
    of_chars within None found fits = record { some = all_some text found; none = may_set strings index text within fits }
    of_chars within (Some byte) found fits = absurd cc

-- the id stays where another string than the server's own is set
id_stays : (strings : Strings) (index : ℕ) (text : List ℕ) → (index ≡ 1 → ⊥) → server_id (with_string strings index text) ≡ server_id strings
unfolding server_id
id_stays strings index text other =
    ap (λ (string : List ℕ). option_and_then info_number (info_of string (codes "sv_serverid"))) (get_or-set_other strings.texts index 1 (map_list translated text) [] (λ e. other (sym e)))

pub map_configured : Below → (profile : Profile) (map : MapState) (index : ℕ) (text : List ℕ) → (index ≡ 1 → ⊥) → admit_fault map.strings index text ≡ None → IsMap profile map
    → IsMap profile (with_config map index text)
map_configured below profile map index text other admitted is =
    let may = may_be_set map.strings index text admitted in
    let strings : AreStrings (with_string map.strings index text) =
    subst (λ (fault : Option ConfigError). AreStrings (after_set map.strings index text fault)) may.none (below.strings.set map.strings index text is.strings) in
    record {
      id = is.id;
      feed = is.feed;
      time = is.time;
      strings = strings;
      texts = (below.texts.set map.strings index text None (record { each = is.texts; pending = rw is.pending tt }) may.some).each;
      pending = is.pending;
      tells = λ known. id_stays map.strings index text other ∙ is.tells known;
      baselines = is.baselines;
      entities = is.entities;
    }
