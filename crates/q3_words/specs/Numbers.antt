-- The numbers of a line.
use Rattle.std.specs.Prelude.{ℕ, List, Result}
use Rattle.std.specs.Option.{ok_or}
use Rattle.q3_words.specs.declared.cause.LineCause.{LineCause}
use Rattle.q3_words.specs.declared.cause.LineCause.TheVariants as causes
use Rattle.q3_text.specs.Decimals.{number_at}

-- the greatest number of an entity, by the widest table
abbrev pub last_entity : ℕ
last_entity = 4094

-- the greatest number of a client
abbrev pub last_client : ℕ
last_client = 15

-- a word that is a number from low to high
abbrev pub number_word : ℕ → ℕ → List ℕ → Result ℕ LineCause
number_word low high word = ok_or (number_at low high word) causes.Number

-- the number of an entity
abbrev pub entity_word : List ℕ → Result ℕ LineCause
entity_word word = number_word 0 last_entity word

-- the number of a client
abbrev pub client_word : List ℕ → Result ℕ LineCause
client_word word = number_word 0 last_client word
