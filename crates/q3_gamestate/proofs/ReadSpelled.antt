-- What is read as a gamestate is one, and was spelled so.
use Rattle.std.proofs.Common.{◌≡◌, ℕ, Bool, true, cond, List, [], ◌∷◌, ◌++◌, length, Option, Some, None, IsSome, Result, Ok, Err, refl, sym, ap, subst, ◌∙◌, append_assoc, inl, inr}
use Rattle.std.specs.Option.{is_some}
use Rattle.std.proofs.lemmas.Bool.{cases_Bool}
use Rattle.q3_bits.specs.ResultBind.{◌>>=◌}
use Rattle.q3_bits.proofs.Binds.{bind_ok}
use Rattle.q3_bits.specs.Words.{row_bits}
use Rattle.q3_strings.proofs.FieldRows.{WasField, row-none, row-after}
use Rattle.q3_entity.specs.Baselines.{Baselines, no_baselines}
use Rattle.q3_entity.specs.Laws.{NoneAreBaselines}
use Rattle.q3_config.specs.Strings.{Strings, no_strings, server_id}
use Rattle.q3_profile.specs.declared.profile.Profile.{Profile}
use Rattle.q3_profile.specs.Profile.{IsCodec}
use Rattle.q3_gamestate.specs.declared.error.GamestateError.{GamestateError}
use Rattle.q3_gamestate.specs.declared.error.GamestateError.TheVariants.{NoServerId}
use Rattle.q3_gamestate.specs.Values.{Gamestate}
use Rattle.q3_gamestate.specs.Reading.{field_read, settings_at, gamestate_at}
use Rattle.q3_gamestate.specs.Spelling.{SpellsGamestate}
use Rattle.q3_gamestate.specs.Laws.{IsGamestate, ReadIsSpelled}
use Rattle.q3_gamestate.proofs.Below.{WasRead}
use Rattle.q3_gamestate.proofs.Fields.{field_was}
use Rattle.q3_gamestate.proofs.Kept.{none_are}
use Rattle.q3_gamestate.proofs.SettingsSpelled.{over, ReadSettings, settings_were}

some_id : (id : Option ℕ) → is_some id ≡ true → IsSome id
some_id (Some id) some = refl
some_id None some = absurd cc

-- a gamestate that was read
record ReadGamestate (profile : Profile) (bits : List Bool) (found : Gamestate × List Bool) : Type 0 where
  is : IsGamestate profile found.0
  text : List Bool
  spells : SpellsGamestate profile found.0 text
  parts : row_bits profile.code ((2, 8) ∷ []) ++ bits ≡ text ++ found.1

-- its parts make it
gamestate_of_parts : NoneAreBaselines → (profile : Profile) (bits : List Bool) (command : ℕ × List Bool) (settings : (Strings × Baselines) × List Bool) (slot feed : ℕ × List Bool)
    → WasField profile.code 32 bits command → ReadSettings profile no_strings no_baselines command.1 settings → WasField profile.code 32 settings.1 slot → WasField profile.code 32 slot.1 feed
    → is_some (server_id settings.0.0) ≡ true
    → ReadGamestate profile bits (record { command = command.0; strings = settings.0.0; baselines = settings.0.1; slot = slot.0; feed = feed.0 }, feed.1)
gamestate_of_parts no_baselines_law profile bits command settings slot feed command_was were slot_was feed_was some =
    let words = profile.code in
    let first = row_bits words ((2, 8) ∷ (command.0, 32) ∷ []) in
    let last = (slot.0, 32) ∷ (feed.0, 32) ∷ [] in
    let ends : over words ++ settings.1 ≡ row_bits words ((8, 8) ∷ last) ++ feed.1 =
    ap (λ (left : List Bool). over words ++ left) (slot_was.row ((feed.0, 32) ∷ []) feed.1 (feed_was.row [] feed.1 (row-none words feed.1))) ∙ sym (row-after words 8 8 last feed.1) in
    let kept = were.kept (none_are profile.entity no_baselines_law) in
    record {
      is = record {
        command = command_was.fits;
        slot = slot_was.fits;
        feed = feed_was.fits;
        strings = kept.are;
        texts = kept.texts;
        pending = kept.pending;
        baselines = kept.baselines_are;
        id = some_id (server_id settings.0.0) some;
      };
      text = first ++ were.text ++ row_bits words ((8, 8) ∷ last);
      spells = record {
        command = command_was.fits;
        slot = slot_was.fits;
        feed = feed_was.fits;
        settings = were.settings;
        text = were.text;
        of_settings = were.spells;
        within = were.within;
        strings = were.strings_are;
        baselines = were.baselines_are;
        id = some_id (server_id settings.0.0) some;
        whole = refl;
      };
      parts =
          ap (λ (left : List Bool). row_bits words ((2, 8) ∷ []) ++ left) (command_was.row [] command.1 (row-none words command.1))
          ∙ sym (row-after words 2 8 ((command.0, 32) ∷ []) command.1)
          ∙ ap (λ (left : List Bool). first ++ left) were.parts
          ∙ ap (λ (left : List Bool). first ++ (were.text ++ left)) ends
          ∙ sym (append_assoc first were.text (row_bits words ((8, 8) ∷ last) ++ feed.1))
          ∙ sym (append_assoc (first ++ were.text) (row_bits words ((8, 8) ∷ last)) feed.1);
    }

gamestate_was_read : WasRead → (profile : Profile) (bits : List Bool) (found : Gamestate × List Bool) → IsCodec profile → gamestate_at profile bits ≡ Ok found
    → ReadGamestate profile bits found
unfolding gamestate_at
gamestate_was_read laws profile bits found codec e =
    let words = profile.code in
    let game = λ (command : ℕ) (settings : Strings × Baselines) (slot feed : ℕ).
    let g : Gamestate = record { command = command; strings = settings.0; baselines = settings.1; slot = slot; feed = feed } in g in
    let on_slot : ℕ → Strings × Baselines → List Bool → Result (Gamestate × List Bool) GamestateError = λ command settings left.
    field_read words 32 left >>= λ slot. (field_read words 32 slot.1 >>= λ feed. Ok ((game command settings slot.0 feed.0), feed.1)) in
    let on_settings : ℕ → (Strings × Baselines) × List Bool → Result (Gamestate × List Bool) GamestateError = λ command settings.
    cond (is_some (server_id settings.0.0)) (on_slot command settings.0 settings.1) (Err NoServerId) in
    let on_command : ℕ × List Bool → Result (Gamestate × List Bool) GamestateError =
    λ command. settings_at profile (length command.1) no_strings no_baselines command.1 >>= λ settings. on_settings command.0 settings in
    let command = bind_ok (field_read words 32 bits) on_command found e in
    let settings = bind_ok (settings_at profile (length command.0.1) no_strings no_baselines command.0.1) (λ settings. on_settings command.0.0 settings) found command.2 in
    elim (cases_Bool (is_some (server_id settings.0.0.0))) [
      | inr none ↦ absurd (let wrong = rw none at settings.2 in cc)
      | inl some ↦
          let slot = bind_ok (field_read words 32 settings.0.1) (λ slot. field_read words 32 slot.1 >>= λ feed. Ok ((game command.0.0 settings.0.0 slot.0 feed.0), feed.1)) found (rw some at settings.2) in
          let feed = bind_ok (field_read words 32 slot.0.1) (λ feed. Ok ((game command.0.0 settings.0.0 slot.0.0 feed.0), feed.1)) found slot.2 in
          let made = feed.2 in
          let same : ((game command.0.0 settings.0.0 slot.0.0 feed.0.0), feed.0.1) ≡ found = cc in
          subst (ReadGamestate profile bits) {x = ((game command.0.0 settings.0.0 slot.0.0 feed.0.0), feed.0.1)} same
          (gamestate_of_parts laws.no_baselines profile bits command.0 settings.0 slot.0 feed.0
          (field_was laws.put words 32 bits command.0 codec.code command.1)
          (settings_were laws profile codec (length command.0.1) no_strings no_baselines command.0.1 settings.0 settings.1)
          (field_was laws.put words 32 settings.0.1 slot.0 codec.code slot.1)
          (field_was laws.put words 32 slot.0.1 feed.0 codec.code feed.1)
          some)
    ]

pub gamestate_was_spelled : WasRead → ReadIsSpelled
gamestate_was_spelled laws profile game bits rest codec e =
    let read = gamestate_was_read laws profile bits (game, rest) codec e in
    (read.is, read.text, read.parts, read.spells)
