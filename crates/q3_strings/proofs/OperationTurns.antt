-- The operations of a message, one turn on.
use Rattle.std.proofs.Common.{◌≡◌, ◌≤◌, ◌==◌, ℕ, zero, suc, Bool, true, false, List, [], ◌∷◌, length, Ok, Err, refl, sym, ap, arith}
use Rattle.q3_bits.specs.Words.{IsCode, field_at}
use Rattle.q3_bits.specs.declared.reader.ReadError.{ReadError}
use Rattle.q3_text.specs.declared.text.Command.{Command}
use Rattle.q3_strings.specs.declared.error.OperationError.{OperationError}
use Rattle.q3_strings.specs.declared.error.OperationError.TheVariants.{Bits, BadOp}
use Rattle.q3_strings.specs.Operations.{commands_at, row_at, ending_at}
use Rattle.q3_strings.specs.Laws.{TurnsAreTaken}

-- ---- after the section

-- a fault of bits
pub ending_fault : (words : List (List Bool)) (end : ℕ) → TurnsAreTaken → IsCode words → (bits : List Bool) (e : ReadError) (turns : ℕ) → Err e ≡ field_at words 8 bits
    → length bits ≤ turns → ending_at words end turns bits ≡ Err (Bits e)
unfolding ending_at
ending_fault words end law code [] e zero read enough = ap (λ (fault : ReadError). Err (Bits fault)) (sym (law.ends words e code (sym read)))
ending_fault words end law code (b ∷ bits) e zero read enough = absurd (omega (arith, enough))
ending_fault words end law code bits e (suc left) read enough = rw (← read) refl

module _ (words : List (List Bool)) (end : ℕ) (bits rest : List Bool) (byte turns left : ℕ) (read : Ok (byte, rest) ≡ field_at words 8 bits) (is : turns ≡ suc left) where
  -- the end
  pub ending_done : (byte == end) ≡ true → ending_at words end turns bits ≡ Ok (tt, rest)
  unfolding ending_at
  ending_done here = rw (is, ← read, here) refl

  -- a nop
  pub ending_nop : (byte == end) ≡ false → (byte == 1) ≡ true → ending_at words end turns bits ≡ ending_at words end left rest
  unfolding ending_at
  ending_nop not_end nop = rw (is, ← read, not_end, nop) refl

  -- another operation
  pub ending_bad : (byte == end) ≡ false → (byte == 1) ≡ false → ending_at words end turns bits ≡ Err (BadOp byte)
  unfolding ending_at
  ending_bad not_end not_nop = rw (is, ← read, not_end, not_nop) refl

-- ---- before the section

-- a fault of bits
pub row_fault : (words : List (List Bool)) (command : ℕ) (commands : List Command) → TurnsAreTaken → IsCode words → (bits : List Bool) (e : ReadError) (turns : ℕ)
    → Err e ≡ field_at words 8 bits → length bits ≤ turns → row_at words command turns commands bits ≡ Err (Bits e)
unfolding row_at
row_fault words command commands law code [] e zero read enough = ap (λ (fault : ReadError). Err (Bits fault)) (sym (law.ends words e code (sym read)))
row_fault words command commands law code (b ∷ bits) e zero read enough = absurd (omega (arith, enough))
row_fault words command commands law code bits e (suc left) read enough = rw (← read) refl

module _ (words : List (List Bool)) (command : ℕ) (commands : List Command) (bits rest : List Bool) (byte turns left : ℕ) (read : Ok (byte, rest) ≡ field_at words 8 bits) (is : turns ≡ suc left) where
  -- a nop
  pub row_nop : (byte == 1) ≡ true → row_at words command turns commands bits ≡ row_at words command left commands rest
  unfolding row_at
  row_nop nop = rw (is, ← read, nop) refl

  -- another operation than nops and commands
  pub row_done : (byte == 1) ≡ false → (byte == command) ≡ false → row_at words command turns commands bits ≡ Ok (record { commands = commands; operation = byte }, rest)
  unfolding row_at
  row_done not_nop other = rw (is, ← read, not_nop, other) refl

  -- a command
  pub row_command : (more : List Command) (after : List Bool) → (byte == 1) ≡ false → (byte == command) ≡ true → Ok (more, after) ≡ commands_at words commands rest
      → row_at words command turns commands bits ≡ row_at words command left more after
  unfolding row_at
  row_command more after not_nop here one = rw (is, ← read, not_nop, here, ← one) refl

  pub row_command_fault : (e : OperationError) → (byte == 1) ≡ false → (byte == command) ≡ true → Err e ≡ commands_at words commands rest
      → row_at words command turns commands bits ≡ Err e
  unfolding row_at
  row_command_fault e not_nop here fault = rw (is, ← read, not_nop, here, ← fault) refl
