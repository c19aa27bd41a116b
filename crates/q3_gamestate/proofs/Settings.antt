-- The settings of a gamestate that are read one after the other.
use Rattle.std.proofs.Common.{◌≡◌, ◌+◌, ◌<◌, ◌≤◌, ◌==◌, ℕ, zero, suc, Bool, false, List, [], ◌∷◌, length, replicate, Ok, Err, refl, sym, ap, ◌∙◌, arith}
use Rattle.q3_bits.specs.Words.{IsCode, field_at}
use Rattle.q3_bits.specs.declared.reader.ReadError.{ReadError}
use Rattle.q3_bits.specs.Streams.{Reading, Reads}
use Rattle.q3_strings.specs.Turns.{HasTurned}
use Rattle.q3_strings.specs.Laws.{TurnsAreTaken}
use Rattle.q3_fields.specs.Kinds.{Layout, IsTable}
use Rattle.q3_fields.specs.States.{AreWords, normal_words}
use Rattle.q3_entity.specs.declared.state.EntityState.{EntityState}
use Rattle.q3_entity.specs.Entities.{zero_entity}
use Rattle.q3_entity.specs.Baselines.{Baselines}
use Rattle.q3_entity.specs.Laws.{ZeroIsNormal}
use Rattle.q3_config.specs.Strings.{Strings}
use Rattle.q3_profile.specs.declared.profile.Profile.{Profile}
use Rattle.q3_gamestate.specs.declared.error.GamestateError.{GamestateError}
use Rattle.q3_gamestate.specs.declared.error.GamestateError.TheVariants.{Bits, BadOp}
use Rattle.q3_gamestate.specs.Reading.{config_at, baseline_at, settings_at}

-- the words of the zero state, from which a baseline is read
pub zeros_are_words : (table : Layout) → IsTable table → ZeroIsNormal → AreWords 64 (replicate 64 0) × (normal_words table.kinds (replicate 64 0) ≡ replicate 64 0)
unfolding zero_entity
zeros_are_words table is zero_is =
    let none = zero_is table 0 is in
    (none.0, ap (λ (entity : EntityState). entity.words) none.1)

-- ---- turn by turn

-- after an operation that was read a turn less is left
pub record TakesTurn (start now got : Reading) (operation turns : ℕ) : Type 0 where
  pub words : got.words ≡ start.words
  pub place : got.place + length got.left ≡ start.place + length start.left
  pub read : Ok (operation, got.left) ≡ field_at start.words 8 now.left
  pub shorter : length got.left < length now.left
  pub left : ℕ
  pub is : turns ≡ suc left
  pub enough : length got.left ≤ left

pub takes_turn : {A : Type 0} {start now got : Reading} {answer : ℕ → List Bool → A} {whole : A} {n operation : ℕ} → TurnsAreTaken → IsCode start.words → (turned : HasTurned start now answer whole)
    → n ≡ operation → Reads {T = ℕ} {E = ReadError} now got (field_at now.words 8 now.left) (Ok n) → TakesTurn start now got operation turned.turns
takes_turn {start = start} {now = now} {got = got} {operation = operation} law code turned same reads =
    let read : Ok (operation, got.left) ≡ field_at start.words 8 now.left =
    ap (λ (m : ℕ). Ok (m, got.left)) (sym same) ∙ reads.value ∙ ap (λ (words : List (List Bool)). field_at words 8 now.left) turned.words in
    let turn = law.turn start.words now.left got.left operation turned.turns code read turned.enough in
    record {
      words = reads.words ∙ turned.words;
      place = reads.place ∙ turned.place;
      read = read;
      shorter = law.shorter start.words now.left got.left operation code (sym read);
      left = turn.left;
      is = turn.is;
      enough = turn.enough;
    }

-- a fault of bits
pub settings_fault : (profile : Profile) (strings : Strings) (baselines : Baselines) → TurnsAreTaken → IsCode profile.code → (bits : List Bool) (e : ReadError) (turns : ℕ)
    → Err e ≡ field_at profile.code 8 bits → length bits ≤ turns → settings_at profile turns strings baselines bits ≡ Err (Bits e)
unfolding settings_at
settings_fault profile strings baselines law code [] e zero read enough = ap (λ (fault : ReadError). Err (Bits fault)) (sym (law.ends profile.code e code (sym read)))
settings_fault profile strings baselines law code (b ∷ bits) e zero read enough = absurd (omega (arith, enough))
settings_fault profile strings baselines law code bits e (suc left) read enough = rw (← read) refl

module _ (profile : Profile) (strings : Strings) (baselines : Baselines) (bits : List Bool) where
  pub settings_done : (rest : List Bool) (turns left : ℕ) → Ok (8, rest) ≡ field_at profile.code 8 bits → turns ≡ suc left
      → settings_at profile turns strings baselines bits ≡ Ok ((strings, baselines), rest)
  unfolding settings_at
  settings_done rest turns left read is = rw (is, ← read) refl

  -- a config string that was read
  pub settings_config : (rest behind : List Bool) (after : Strings) (turns left : ℕ) → Ok (3, rest) ≡ field_at profile.code 8 bits → turns ≡ suc left
      → Ok (after, behind) ≡ config_at profile.code strings rest → settings_at profile turns strings baselines bits ≡ settings_at profile left after baselines behind
  unfolding settings_at
  settings_config rest behind after turns left read is config = rw (is, ← read, ← config) refl

  pub settings_config_fault : (rest : List Bool) (e : GamestateError) (turns left : ℕ) → Ok (3, rest) ≡ field_at profile.code 8 bits → turns ≡ suc left
      → Err e ≡ config_at profile.code strings rest → settings_at profile turns strings baselines bits ≡ Err e
  unfolding settings_at
  settings_config_fault rest e turns left read is config = rw (is, ← read, ← config) refl

  -- a baseline that was read
  pub settings_baseline : (rest behind : List Bool) (after : Baselines) (turns left : ℕ) → Ok (4, rest) ≡ field_at profile.code 8 bits → turns ≡ suc left
      → Ok (after, behind) ≡ baseline_at profile baselines rest → settings_at profile turns strings baselines bits ≡ settings_at profile left strings after behind
  unfolding settings_at
  settings_baseline rest behind after turns left read is baseline = rw (is, ← read, ← baseline) refl

  pub settings_baseline_fault : (rest : List Bool) (e : GamestateError) (turns left : ℕ) → Ok (4, rest) ≡ field_at profile.code 8 bits → turns ≡ suc left
      → Err e ≡ baseline_at profile baselines rest → settings_at profile turns strings baselines bits ≡ Err e
  unfolding settings_at
  settings_baseline_fault rest e turns left read is baseline = rw (is, ← read, ← baseline) refl

  pub settings_bad : (rest : List Bool) (byte turns left : ℕ) → Ok (byte, rest) ≡ field_at profile.code 8 bits → turns ≡ suc left
      → (byte == 8) ≡ false → (byte == 3) ≡ false → (byte == 4) ≡ false → settings_at profile turns strings baselines bits ≡ Err (BadOp byte)
  unfolding settings_at
  settings_bad rest byte turns left read is not_end not_config not_baseline = rw (is, ← read, not_end, not_config, not_baseline) refl
