-- What is read as a row of operations, or as an ending, was spelled so.
use Rattle.std.proofs.Common.{◌≡◌, ◌≢◌, ◌<◌, ◌≤◌, ℕ, zero, suc, Bool, true, eqb, cond, List, [], ◌∷◌, ◌++◌, length, replicate, Ok, Err, refl, sym, ap, subst, ◌∙◌, append_assoc, arith, inl, inr}
use Rattle.std.specs.List.{All}
use Rattle.std.proofs.lemmas.Bool.{cases_Bool, eqb-true, eqb-false}
use Rattle.std.proofs.lemmas.List.{length-append, append-nil}
use Rattle.std.proofs.lemmas.List.Elements.{All-nil, All-cons}
use Rattle.q3_bits.specs.ResultBind.{◌>>=◌, fault_as}
use Rattle.q3_bits.proofs.Binds.{bind_ok, map_err_ok}
use Rattle.q3_bits.specs.Words.{IsCode, row_bits, field_at}
use Rattle.q3_bits.specs.Laws.{ReadWasPut}
use Rattle.q3_text.specs.declared.text.Command.{Command}
use Rattle.q3_strings.specs.declared.error.OperationError.TheVariants.{Bits, BadOp}
use Rattle.q3_strings.specs.Commands.{nops_bits, SpellsCommands}
use Rattle.q3_strings.specs.Operations.{Row, commands_at, row_at, ending_at}
use Rattle.q3_strings.proofs.FieldRows.{row-none, row-empty, field_was_put}
use Rattle.q3_strings.specs.Laws.{IsCommand, CommandReadIsSpelled, NopIsSpelled, RowReadIsSpelled, EndingReadIsSpelled}
use Rattle.q3_strings.proofs.CommandRows.{ReadMore, more_was_spelled}

-- ---- a row

-- one that was read, with its nops as a number
record ReadRow (words : List (List Bool)) (command : ℕ) (commands : List Command) (bits : List Bool) (found : Row × List Bool) : Type 0 where
  added : List Command
  text : List Bool
  count : ℕ
  all : found.0.commands ≡ commands ++ added
  few : length commands ≤ 64 → length found.0.commands ≤ 64
  each : All IsCommand added
  of_commands : SpellsCommands words command added text
  byte : found.0.operation < 256
  not_nop : found.0.operation ≢ 1
  not_command : found.0.operation ≢ command
  parts : bits ≡ text ++ (nops_bits words count ++ (row_bits words ((found.0.operation, 8) ∷ []) ++ found.1))

module _ (words : List (List Bool)) (command : ℕ) (commands : List Command) (bits left : List Bool) where
  -- another operation
  row_done : (operation : ℕ) → operation < 256 → operation ≢ 1 → operation ≢ command → bits ≡ row_bits words ((operation, 8) ∷ []) ++ left
      → ReadRow words command commands bits (record { commands = commands; operation = operation }, left)
  row_done operation fits not_nop not_command is =
      let after = row_bits words ((operation, 8) ∷ []) ++ left in
      record {
        added = [];
        text = [];
        count = 0;
        all = sym (append-nil commands);
        few = λ few. few;
        each = All-nil IsCommand;
        of_commands = refl;
        byte = fits;
        not_nop = not_nop;
        not_command = not_command;
        parts = is ∙ row-none words after;
      }

  -- a nop
  row_nop : NopIsSpelled → (found : Row × List Bool) → bits ≡ row_bits words ((1, 8) ∷ []) ++ left → ReadRow words command commands left found
      → ReadRow words command commands bits found
  row_nop law found is read =
      let before = law words command read.added read.text read.count read.of_commands in
      record {
        added = read.added;
        text = before.0;
        count = before.1;
        all = read.all;
        few = read.few;
        each = read.each;
        of_commands = before.2;
        byte = read.byte;
        not_nop = read.not_nop;
        not_command = read.not_command;
        parts = is ∙ ap (λ (left : List Bool). row_bits words ((1, 8) ∷ []) ++ left) read.parts
            ∙ before.3 (row_bits words ((found.0.operation, 8) ∷ []) ++ found.1);
      }

  -- a command
  row_command : (more : List Command × List Bool) (found : Row × List Bool) → bits ≡ row_bits words ((command, 8) ∷ []) ++ left → (one : ReadMore words commands left more)
      → ReadRow words command more.0 more.1 found → ReadRow words command commands bits found
  row_command more found is one read =
      let operation = row_bits words ((command, 8) ∷ []) in
      let others = nops_bits words read.count ++ (row_bits words ((found.0.operation, 8) ∷ []) ++ found.1) in
      let long : length more.0 ≤ 64 = omega (arith, ap length one.all, length-append commands (one.command ∷ []), one.few) in
      record {
        added = one.command ∷ read.added;
        text = operation ++ one.text ++ read.text;
        count = read.count;
        all = read.all ∙ ap (λ (all : List Command). all ++ read.added) one.all ∙ append_assoc commands (one.command ∷ []) read.added;
        few = λ few. read.few long;
        each = All-cons IsCommand one.command read.added one.is read.each;
        of_commands = ([], one.text, read.text, refl, (0, row-empty words), one.spells, read.of_commands);
        byte = read.byte;
        not_nop = read.not_nop;
        not_command = read.not_command;
        parts =
            is
            ∙ ap (λ (left : List Bool). operation ++ left) one.parts
            ∙ ap (λ (left : List Bool). operation ++ (one.text ++ left)) read.parts
            ∙ sym (append_assoc operation one.text (read.text ++ others))
            ∙ sym (append_assoc (operation ++ one.text) read.text others);
      }

module _ (put : ReadWasPut) (command_law : CommandReadIsSpelled) (nop_law : NopIsSpelled) (words : List (List Bool)) (code : IsCode words) (command : ℕ) where
  row_was : (most : ℕ) (commands : List Command) (bits : List Bool) (found : Row × List Bool) → row_at words command most commands bits ≡ Ok found
      → ReadRow words command commands bits found
  unfolding row_at
  row_was zero commands bits found e = absurd cc
  row_was (suc most) commands bits found e =
      let on_command = λ (left : List Bool). commands_at words commands left >>= λ more. row_at words command most more.0 more.1 in
      let operation = bind_ok (fault_as Bits (field_at words 8 bits))
      (λ operation. cond (eqb operation.0 1) (row_at words command most commands operation.1)
      (cond (eqb operation.0 command) (on_command operation.1) (Ok (record { commands = commands; operation = operation.0 }, operation.1)))) found e in
      let left = operation.0.1 in
      let was = field_was_put put words 8 bits operation.0 code (map_err_ok Bits (field_at words 8 bits) operation.0 operation.1) in
      let here = was.row [] left (row-none words left) in
      let front = λ (byte : ℕ) (same : eqb operation.0.0 byte ≡ true). here ∙ ap (λ (n : ℕ). row_bits words ((n, 8) ∷ []) ++ left) (eqb-true operation.0.0 byte same) in
      elim (cases_Bool (eqb operation.0.0 1)) [
        | inl nop ↦ row_nop words command commands bits left nop_law found (front 1 nop) (row_was most commands left found (rw nop at operation.2))
        | inr other ↦
            let next = rw other at operation.2 in
            elim (cases_Bool (eqb operation.0.0 command)) [
              | inl same ↦
                  let more = bind_ok (commands_at words commands left) (λ more. row_at words command most more.0 more.1) found (rw same at next) in
                  let read = more_was_spelled command_law words code commands left more.0 more.1 in
                  row_command words command commands bits left more.0 found (front command same) read (row_was most more.0.0 more.0.1 found more.2)
              | inr last ↦
                  let made = rw last at next in
                  let same : (record { commands = commands; operation = operation.0.0 }, left) ≡ found = cc in
                  subst (ReadRow words command commands bits) {x = (record { commands = commands; operation = operation.0.0 }, left)} same
                  (row_done words command commands bits left operation.0.0 was.fits (eqb-false operation.0.0 1 other) (eqb-false operation.0.0 command last) here)
            ]
      ]

pub row_was_spelled : ReadWasPut → CommandReadIsSpelled → NopIsSpelled → RowReadIsSpelled
row_was_spelled put command_law nop_law words command most commands bits row rest code e =
    let read = row_was put command_law nop_law words code command most commands bits (row, rest) e in
    let nops = nops_bits words read.count in
    let last = row_bits words ((row.operation, 8) ∷ []) in
    record {
      added = read.added;
      all = read.all;
      few = read.few;
      each = read.each;
      text = read.text ++ nops ++ last;
      spells = record {
        text = read.text;
        nops = nops;
        of_commands = read.of_commands;
        of_nops = (read.count, refl);
        byte = read.byte;
        not_nop = read.not_nop;
        not_command = read.not_command;
        whole = refl;
      };
      parts = read.parts ∙ simp append_assoc;
    }

-- ---- an ending

-- one that was read
record ReadEnding (words : List (List Bool)) (end : ℕ) (bits : List Bool) (found : Unit {0} × List Bool) : Type 0 where
  count : ℕ
  parts : bits ≡ nops_bits words count ++ (row_bits words ((end, 8) ∷ []) ++ found.1)

ending_was : ReadWasPut → (words : List (List Bool)) → IsCode words → (end most : ℕ) (bits : List Bool) (found : Unit {0} × List Bool) → ending_at words end most bits ≡ Ok found
    → ReadEnding words end bits found
unfolding ending_at
ending_was put words code end zero bits found e = absurd cc
ending_was put words code end (suc most) bits found e =
    let operation = bind_ok (fault_as Bits (field_at words 8 bits))
    (λ operation. cond (eqb operation.0 end) (Ok (tt, operation.1)) (cond (eqb operation.0 1) (ending_at words end most operation.1) (Err (BadOp operation.0)))) found e in
    let left = operation.0.1 in
    let was = field_was_put put words 8 bits operation.0 code (map_err_ok Bits (field_at words 8 bits) operation.0 operation.1) in
    elim (cases_Bool (eqb operation.0.0 end)) [
      | inl done ↦
          let made = rw done at operation.2 in
          let same : (tt, left) ≡ found = cc in
          subst (ReadEnding words end bits) {x = (tt, left)} same (record {
            count = 0;
            parts = was.row [] left (row-none words left)
                ∙ ap (λ (n : ℕ). row_bits words ((n, 8) ∷ []) ++ left) (eqb-true operation.0.0 end done)
                ∙ row-none words (row_bits words ((end, 8) ∷ []) ++ left);
          })
      | inr more ↦
          let next = rw more at operation.2 in
          elim (cases_Bool (eqb operation.0.0 1)) [
            | inl nop ↦
                let read = ending_was put words code end most left found (rw nop at next) in
                let after = row_bits words ((end, 8) ∷ []) ++ found.1 in
                record {
                  count = suc read.count;
                  parts = was.row (replicate read.count (1, 8)) after read.parts
                      ∙ ap (λ (n : ℕ). row_bits words ((n, 8) ∷ replicate read.count (1, 8)) ++ after) (eqb-true operation.0.0 1 nop);
                }
            | inr bad ↦ absurd (let wrong = rw bad at next in cc)
          ]
    ]

pub ending_was_spelled : ReadWasPut → EndingReadIsSpelled
ending_was_spelled put words end most bits rest code e =
    let read = ending_was put words code end most bits (tt, rest) e in
    let nops = nops_bits words read.count in
    let last = row_bits words ((end, 8) ∷ []) in
    (nops ++ last, read.parts ∙ sym (append_assoc nops last rest), (nops, (read.count, refl), refl))
