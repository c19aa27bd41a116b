-- Texts under numbers are commands.
use Rattle.std.proofs.Common.{◌≡◌, ℕ, suc, ◌+◌, ◌^◌, ◌≤◌, List, [], ◌∷◌, length, refl, ap, arith}
use Rattle.std.specs.Prelude.{All}
use Rattle.std.proofs.lemmas.List.Elements.{All-nil, All-cons, All-head, All-tail}
use Rattle.q3_text.specs.Commands.{numbered}
use Rattle.q3_text.specs.Texts.{IsText}
use Rattle.q3_strings.specs.Laws.{IsCommand, NumberedAreCommands}

are_commands : (first : ℕ) (texts : List (List ℕ)) → first + length texts ≤ 2 ^ 32 → All IsText texts → All IsCommand (numbered first texts)
unfolding numbered
are_commands first [] few are = All-nil IsCommand
are_commands first (text ∷ texts) few are =
    All-cons IsCommand (record { number = first; text = text }) (numbered (first + 1) texts)
    (record { number = omega (arith, few); text = All-head IsText text texts are })
    (are_commands (first + 1) texts (omega (arith, few)) (All-tail IsText text texts are))

as_many : (first : ℕ) (texts : List (List ℕ)) → length (numbered first texts) ≡ length texts
unfolding numbered
as_many first [] = refl
as_many first (text ∷ texts) = ap suc (as_many (first + 1) texts)

pub numbered_are_commands : NumberedAreCommands
numbered_are_commands first texts few are = (are_commands first texts few are, as_many first texts)
