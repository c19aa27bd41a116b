-- A row of operations, or an ending, that is spelled so is read.
use Rattle.std.proofs.Common.{◌≡◌, ◌≢◌, ◌+◌, ◌<◌, ◌≤◌, ℕ, zero, suc, Bool, List, [], ◌∷◌, ◌++◌, length, replicate, Ok, refl, sym, ap, ◌∙◌, append_assoc, ne_eqb, eq-eqb, arith}
use Rattle.std.proofs.lemmas.List.{append-nil, length-append}
use Rattle.q3_bits.specs.Words.{IsCode, row_bits}
use Rattle.q3_bits.specs.Laws.{PutIsRead}
use Rattle.q3_text.specs.declared.text.Command.{Command}
use Rattle.q3_strings.specs.Commands.{nops_bits, SpellsCommands}
use Rattle.q3_strings.specs.Operations.{row_at, ending_at}
use Rattle.q3_strings.proofs.FieldRows.{row-none, row-first, row-last}
use Rattle.q3_strings.specs.Laws.{CommandSpelledIsRead, TurnsAreTaken, RowSpelledIsRead, EndingSpelledIsRead}
use Rattle.q3_strings.proofs.OperationTurns.{ending_done, ending_nop, row_nop, row_done, row_command}
use Rattle.q3_strings.proofs.CommandRows.{more_is_read}

-- ---- an ending

module _ (put : PutIsRead) (turns_law : TurnsAreTaken) (words : List (List Bool)) (code : IsCode words) (end : ℕ) (not_nop : end ≢ 1) (fits : end < 256) where
  -- nops, and the end
  ending_read : (count turns : ℕ) (rest : List Bool) → length (nops_bits words count ++ (row_bits words ((end, 8) ∷ []) ++ rest)) ≤ turns
      → ending_at words end turns (nops_bits words count ++ (row_bits words ((end, 8) ∷ []) ++ rest)) ≡ Ok (tt, rest)
  ending_read zero turns rest enough =
      let bits = row_bits words ((end, 8) ∷ []) ++ rest in
      let same : nops_bits words 0 ++ bits ≡ bits = sym (row-none words bits) in
      let read = sym (row-last words code put end 8 rest fits) in
      let one = turns_law.turn words bits rest end turns code read (omega (arith, enough, ap length same)) in
      ap (λ (bits : List Bool). ending_at words end turns bits) same ∙ ending_done words end bits rest end turns one.left read one.is (eq-eqb end end refl)
  ending_read (suc count) turns rest enough =
      let behind = row_bits words ((end, 8) ∷ []) ++ rest in
      let left = nops_bits words count ++ behind in
      let bits = nops_bits words (suc count) ++ behind in
      let read = sym (row-first words code put 1 8 (replicate count (1, 8)) behind (omega arith)) in
      let one = turns_law.turn words bits left 1 turns code read enough in
      ending_nop words end bits left 1 turns one.left read one.is (ne_eqb 1 end (λ e. not_nop (sym e))) refl ∙ ending_read count one.left rest one.enough

pub ending_is_read : PutIsRead → TurnsAreTaken → EndingSpelledIsRead
ending_is_read put turns_law words end most text rest code (nops, are_nops, whole) not_nop fits enough =
    let last = row_bits words ((end, 8) ∷ []) in
    let same : text ++ rest ≡ nops_bits words are_nops.0 ++ (last ++ rest) = rw (whole, are_nops.1) (append_assoc (nops_bits words are_nops.0) last rest) in
    ap (λ (bits : List Bool). ending_at words end most bits) same
    ∙ ending_read put turns_law words code end not_nop fits are_nops.0 most rest (omega (arith, enough, ap length same))

-- ---- a row

module _ (put : PutIsRead) (turns_law : TurnsAreTaken) (command_law : CommandSpelledIsRead) (words : List (List Bool)) (code : IsCode words) (command : ℕ) (not_nop : command ≢ 1) (fits : command < 256) where
  -- the row after a text that was read
  record HasRest (turns : ℕ) (commands after : List Command) (bits rest : List Bool) : Type 0 where
    left : ℕ
    enough : length rest ≤ left
    is : row_at words command turns commands bits ≡ row_at words command left after rest

  -- nops
  nops_are_read : (count turns : ℕ) (commands : List Command) (rest : List Bool) → length (nops_bits words count ++ rest) ≤ turns
      → HasRest turns commands commands (nops_bits words count ++ rest) rest
  nops_are_read zero turns commands rest enough =
      let same : nops_bits words 0 ++ rest ≡ rest = sym (row-none words rest) in
      record { left = turns; enough = omega (arith, enough, ap length same); is = ap (λ (bits : List Bool). row_at words command turns commands bits) same }
  nops_are_read (suc count) turns commands rest enough =
      let left = nops_bits words count ++ rest in
      let bits = nops_bits words (suc count) ++ rest in
      let read = sym (row-first words code put 1 8 (replicate count (1, 8)) rest (omega arith)) in
      let one = turns_law.turn words bits left 1 turns code read enough in
      let more = nops_are_read count one.left commands rest one.enough in
      record { left = more.left; enough = more.enough; is = row_nop words command commands bits left 1 turns one.left read one.is refl ∙ more.is }

  -- commands, with nops before each
  commands_are_read : (added : List Command) (turns : ℕ) (commands : List Command) (text rest : List Bool) → SpellsCommands words command added text
      → length commands + length added ≤ 64 → length (text ++ rest) ≤ turns → HasRest turns commands (commands ++ added) (text ++ rest) rest
  commands_are_read [] turns commands text rest s few enough = record {
    left = turns;
    enough = omega (arith, enough, length-append text rest);
    is =
        ap (λ (text : List Bool). row_at words command turns commands (text ++ rest)) s
        ∙ ap (λ (all : List Command). row_at words command turns all rest) (sym (append-nil commands));
  }
  commands_are_read (first ∷ added) turns commands text rest (before, spelled, others, whole, are_nops, of_command, of_others) few enough =
      let count = are_nops.0 in
      let behind = spelled ++ (others ++ rest) in
      let bits = row_bits words ((command, 8) ∷ []) ++ behind in
      let same : text ++ rest ≡ nops_bits words count ++ bits = rw (whole, are_nops.1) (simp append_assoc) in
      let over = nops_are_read count turns commands bits (omega (arith, enough, ap length same)) in
      let read = sym (row-last words code put command 8 behind fits) in
      let one = turns_law.turn words bits behind command over.left code read over.enough in
      let after = commands ++ first ∷ [] in
      let step = row_command words command commands bits behind command over.left one.left read one.is after (others ++ rest) (ne_eqb command 1 not_nop) (eq-eqb command command refl)
      (sym (more_is_read command_law words code commands first spelled (others ++ rest) (omega (arith, few)) of_command)) in
      let more = commands_are_read added one.left after others rest of_others (omega (arith, few, length-append commands (first ∷ [])))
      (omega (arith, one.enough, length-append spelled (others ++ rest))) in
      record {
        left = more.left;
        enough = more.enough;
        is = ap (λ (bits : List Bool). row_at words command turns commands bits) same ∙ over.is ∙ step ∙ more.is
            ∙ ap (λ (all : List Command). row_at words command more.left all rest) (append_assoc commands (first ∷ []) added);
      }

pub row_is_read : PutIsRead → TurnsAreTaken → CommandSpelledIsRead → RowSpelledIsRead
row_is_read put turns_law command_law words command operation most commands added text rest code s not_nop fits few enough =
    let last = row_bits words ((operation, 8) ∷ []) ++ rest in
    let behind = nops_bits words s.of_nops.0 ++ last in
    let same : text ++ rest ≡ s.text ++ behind = rw (s.whole, s.of_nops.1) (simp append_assoc) in
    let commands_over = commands_are_read put turns_law command_law words code command not_nop fits added most commands s.text behind s.of_commands few (omega (arith, enough, ap length same)) in
    let nops_over = nops_are_read put turns_law command_law words code command not_nop fits s.of_nops.0 commands_over.left (commands ++ added) last commands_over.enough in
    let read = sym (row-last words code put operation 8 rest s.byte) in
    let one = turns_law.turn words last rest operation nops_over.left code read nops_over.enough in
    ap (λ (bits : List Bool). row_at words command most commands bits) same ∙ commands_over.is ∙ nops_over.is
    ∙ row_done words command (commands ++ added) last rest operation nops_over.left one.left read one.is (ne_eqb operation 1 s.not_nop) (ne_eqb operation command s.not_command)
