-- Fields in a line: words of an index and a value after the letter of their array, and the entity or the player that they make.
use Rattle.std.specs.Prelude.{◌≡◌, ℕ, ◌<◌, ◌^◌, ◌+◌, ◌-◌, ◌==◌, if◌then◌else◌, List, [], ◌∷◌, ◌++◌, length, map, replicate, codes, All, Option, Some, Result, Ok, Err}
use Rattle.std.specs.Option.{option_map_or}
use Rattle.q3_fields.specs.Places.{Change, AreRising, with_changes}
use Rattle.q3_io.specs.Print.{indexed_text}
use Rattle.q3_entity.specs.declared.state.EntityState.{EntityState}
use Rattle.q3_player.specs.declared.state.PlayerState.{PlayerState}
use Rattle.q3_player.specs.State.{shorts_of}
use Rattle.q3_words.specs.declared.cause.LineCause.{LineCause}
use Rattle.q3_words.specs.declared.cause.LineCause.TheVariants as causes
use Rattle.q3_words.specs.Words.{after_prefix}
use Rattle.q3_text.specs.Cuts.{cut_at}
use Rattle.q3_text.specs.Decimals.{number_at}
use Rattle.q3_bits.specs.OptionBind.{◌>>=◌}

-- the index and the value in a word of this letter: the index is from least up to below the limit
unfoldable pub field_at : List ℕ → ℕ → ℕ → List ℕ → Option Change
field_at letter limit least word = do
  text ← after_prefix letter word
  parts ← cut_at 58 text
  index ← number_at least (limit - 1) parts.0
  value ← number_at 0 4294967295 parts.1
  Some (index, value)

-- fields, and the words after them
pub record Fields : Type 0 where
  pub fields : List Change
  pub left : List (List ℕ)

-- the leading words of this letter, by rising index from least on
unfoldable pub fields_at : List ℕ → ℕ → ℕ → List (List ℕ) → Fields
fields_at letter limit least [] = record { fields = []; left = [] }
fields_at letter limit least (word ∷ words) =
    option_map_or (λ field. (let others = fields_at letter limit (field.0 + 1) words in record { fields = field ∷ others.fields; left = others.left }))
    (field_at letter limit least word) (record { fields = []; left = word ∷ words })

-- so many values: 0 but for these fields
abbrev pub values_of : ℕ → List Change → List ℕ
values_of count fields = with_changes (replicate count 0) fields

-- the entity of its number and its fields
abbrev pub entity_of : ℕ → List Change → EntityState
entity_of number fields = record { number = number; words = values_of 64 fields }

-- the entity of this number that these words and no others spell
unfoldable pub entity_at : ℕ → List (List ℕ) → Result EntityState LineCause
entity_at number words =
    let fields = fields_at [] 64 0 words in
    if length fields.left == 0 then Ok (entity_of number fields.fields) else Err causes.Fields

-- the player of its fields and those of its arrays
abbrev pub player_of : List Change → List Change → List Change → List Change → List Change → PlayerState
player_of fields stats persistant ammo powerups = record {
  words = values_of 64 fields;
  stats = shorts_of (values_of 16 stats);
  persistant = shorts_of (values_of 16 persistant);
  ammo = shorts_of (values_of 16 ammo);
  powerups = values_of 16 powerups;
}

-- the player that these words and no others spell
unfoldable pub player_at : List (List ℕ) → Result PlayerState LineCause
player_at words =
    let fields = fields_at [] 64 0 words in
    let stats = fields_at (codes "s") 16 0 fields.left in
    let persistant = fields_at (codes "p") 16 0 stats.left in
    let ammo = fields_at (codes "a") 16 0 persistant.left in
    let powerups = fields_at (codes "u") 16 0 ammo.left in
    if length powerups.left == 0
    then Ok (player_of fields.fields stats.fields persistant.fields ammo.fields powerups.fields)
    else Err causes.Fields

-- a word for each field: its index and its value, after the letter of its array
abbrev pub field_words : List ℕ → List Change → List (List ℕ)
field_words letter fields = map (λ field. indexed_text letter field.0 field.1) fields

-- the indexes rise, from least on, and stay below a limit; the values have 32 bits
abbrev pub AreFields : ℕ → ℕ → List Change → Type 0
AreFields limit least fields = AreRising limit least fields × All (λ field. field.1 < 2 ^ 32) fields

-- an entity, but for its number: fields
pub record SpellsEntity (words : List (List ℕ)) (entity : EntityState) : Type 0 where
  pub fields : List Change
  pub are_fields : AreFields 64 0 fields
  pub whole : words ≡ field_words [] fields
  pub state : entity.words ≡ values_of 64 fields

-- a player: fields, and after them those of each array
pub record SpellsPlayer (words : List (List ℕ)) (player : PlayerState) : Type 0 where
  pub fields : List Change
  pub stats : List Change
  pub persistant : List Change
  pub ammo : List Change
  pub powerups : List Change
  pub are_fields : AreFields 64 0 fields
  pub are_stats : AreFields 16 0 stats
  pub are_persistant : AreFields 16 0 persistant
  pub are_ammo : AreFields 16 0 ammo
  pub are_powerups : AreFields 16 0 powerups
  pub whole :
      words
      ≡ field_words [] fields
      ++ field_words (codes "s") stats
      ++ field_words (codes "p") persistant
      ++ field_words (codes "a") ammo
      ++ field_words (codes "u") powerups
  pub state : player ≡ player_of fields stats persistant ammo powerups
