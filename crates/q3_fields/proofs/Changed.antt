-- The spellings of a changed field, of an entity or of a player.
use Rattle.std.proofs.Common.{◌≡◌, ℕ, ◌^◌, ◌<◌, Bool, List, ◌++◌, Ok}
use Rattle.q3_bits.specs.Words.{IsCode}
use Rattle.q3_fields.specs.declared.kind.Kind.{Kind}
use Rattle.q3_fields.specs.declared.delta.StateKind.{StateKind}
use Rattle.q3_fields.specs.declared.delta.StateKind.TheVariants.{Entity, Player}
use Rattle.q3_fields.specs.Kinds.{IsKind, norm}
use Rattle.q3_fields.specs.Deltas.{changed_bits, changed_at}
use Rattle.q3_fields.specs.Spelling.{SpellsChanged}
use Rattle.q3_fields.specs.Laws.{PlayerFieldIsSpelled, EntityFieldIsSpelled, PlayerReadIsSpelled, EntityReadIsSpelled, PlayerSpelledIsRead, EntitySpelledIsRead}

-- what is written is spelled
abbrev pub ChangedIsSpelled : Type 0
ChangedIsSpelled = (state : StateKind) (words : List (List Bool)) (kind : Kind) (word : ℕ) → IsKind kind → word < 2 ^ 32
    → SpellsChanged state words kind (norm kind word) (changed_bits state words kind word)

pub changed_is_spelled : PlayerFieldIsSpelled → EntityFieldIsSpelled → ChangedIsSpelled
changed_is_spelled player entity Entity = entity
changed_is_spelled player entity Player = player

-- what is read was spelled so
abbrev pub ChangedWasSpelled : Type 0
ChangedWasSpelled = (state : StateKind) (words : List (List Bool)) (kind : Kind) (word : ℕ) (bits rest : List Bool) → IsCode words → IsKind kind
    → changed_at state words kind bits ≡ Ok (word, rest)
    → (word < 2 ^ 32) × (norm kind word ≡ word) × (text : List Bool) × (bits ≡ text ++ rest) × SpellsChanged state words kind word text

pub changed_was_spelled : PlayerReadIsSpelled → EntityReadIsSpelled → ChangedWasSpelled
changed_was_spelled player entity Entity = entity
changed_was_spelled player entity Player = player

-- what is spelled so is read
abbrev pub ChangedIsRead : Type 0
ChangedIsRead = (state : StateKind) (words : List (List Bool)) (kind : Kind) (word : ℕ) (text rest : List Bool) → IsCode words → IsKind kind
    → SpellsChanged state words kind word text → changed_at state words kind (text ++ rest) ≡ Ok (word, rest)

pub changed_is_read : PlayerSpelledIsRead → EntitySpelledIsRead → ChangedIsRead
changed_is_read player entity Entity = entity
changed_is_read player entity Player = player
