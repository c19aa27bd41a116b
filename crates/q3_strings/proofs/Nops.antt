-- Commands with nops before them.
use Rattle.std.proofs.Common.{◌≡◌, ℕ, ◌+◌, zero, suc, arith, Bool, List, [], ◌∷◌, ◌++◌, replicate, refl, sym, ap, ◌∙◌, append_assoc}
use Rattle.std.proofs.lemmas.List.{append-nil}
use Rattle.std.proofs.lemmas.List.Elements.{All-head, All-tail}
use Rattle.q3_bits.specs.Words.{row_bits}
use Rattle.q3_strings.specs.Texts.{command_bits}
use Rattle.q3_strings.specs.Commands.{commands_bits, nops_bits}
use Rattle.q3_strings.proofs.FieldRows.{row-none, row-empty, row-after}
use Rattle.q3_strings.specs.Laws.{IsCommand, CommandIsSpelled, CommandsAreSpelled, NopIsSpelled, NopsAreNops}

pub commands_are_spelled : CommandIsSpelled → CommandsAreSpelled
commands_are_spelled one words operation [] each = refl
commands_are_spelled one words operation (command ∷ commands) each = (
  [],
  command_bits words command,
  commands_bits words operation commands,
  refl,
  (0, row-empty words),
  one words command (All-head IsCommand command commands each),
  commands_are_spelled one words operation commands (All-tail IsCommand command commands each),
)

-- one nop more
one_more : (words : List (List Bool)) (nops : List Bool) (count : ℕ) → nops ≡ nops_bits words count → row_bits words ((1, 8) ∷ []) ++ nops ≡ nops_bits words (suc count)
one_more words nops count is =
    ap (λ (text : List Bool). row_bits words ((1, 8) ∷ []) ++ text) (is ∙ sym (append-nil (nops_bits words count)))
    ∙ sym (row-after words 1 8 (replicate count (1, 8)) []) ∙ append-nil (nops_bits words (suc count))

pub nop_is_spelled : NopIsSpelled
nop_is_spelled words operation [] text count s = (
  [],
  suc count,
  refl,
  λ rest.
      ap (λ (text : List Bool). row_bits words ((1, 8) ∷ []) ++ (text ++ (nops_bits words count ++ rest))) s
      ∙ sym (row-after words 1 8 (replicate count (1, 8)) rest),
)
nop_is_spelled words operation (command ∷ commands) text count (nops, first, others, whole, are_nops, of_command, of_others) =
    let one = row_bits words ((1, 8) ∷ []) in (
      (one ++ nops) ++ row_bits words ((operation, 8) ∷ []) ++ first ++ others,
      count,
      (one ++ nops, first, others, refl, (suc are_nops.0, one_more words nops are_nops.0 are_nops.1), of_command, of_others),
      λ rest. ap (λ (text : List Bool). one ++ (text ++ (nops_bits words count ++ rest))) whole ∙ simp append_assoc,
    )

-- so many nops, and more after them
both : (words : List (List Bool)) (count more : ℕ) → nops_bits words count ++ nops_bits words more ≡ nops_bits words (count + more)
both words zero more =
    let same : more ≡ 0 + more = omega arith in
    sym (row-none words (nops_bits words more)) ∙ ap (λ (n : ℕ). nops_bits words n) same
both words (suc count) more =
    let same : suc (count + more) ≡ suc count + more = omega arith in
    row-after words 1 8 (replicate count (1, 8)) (nops_bits words more)
    ∙ one_more words (nops_bits words count ++ nops_bits words more) (count + more) (both words count more)
    ∙ ap (λ (n : ℕ). nops_bits words n) same

pub nops_are_nops : NopsAreNops
nops_are_nops words first second (count, is) (more, is_more) = (
  count + more,
  ap (λ (text : List Bool). text ++ second) is ∙ ap (λ (text : List Bool). nops_bits words count ++ text) is_more ∙ both words count more,
)
