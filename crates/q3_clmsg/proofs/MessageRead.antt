-- A message that is spelled so is read.
use Rattle.std.proofs.Common.{◌≡◌, ◌≢◌, ◌-◌, ◌<◌, ◌≤◌, ◌&&◌, ◌^◌, ℕ, Bool, true, false, nat_le, List, [], ◌∷◌, ◌++◌, length, Ok, refl, sym, ap, ◌∙◌, append_assoc, arith}
use Rattle.std.proofs.lemmas.Bool.Decides.{nat_tests}
use Rattle.q3_bits.specs.Words.{IsCode, row_bits}
use Rattle.q3_bits.specs.Laws.{PutIsRead}
use Rattle.q3_text.specs.declared.text.Command.{Command}
use Rattle.q3_strings.specs.Commands.{commands_bits, SpellsNops, SpellsCommands}
use Rattle.q3_strings.specs.Operations.{ending_at}
use Rattle.q3_strings.proofs.FieldRows.{row-after, row-first, row-last, operations-parts}
use Rattle.q3_strings.specs.Laws.{NopsAreNops, RowSpelledIsRead, EndingSpelledIsRead}
use Rattle.q3_clmsg.specs.declared.moves.Move.{Move}
use Rattle.q3_clmsg.specs.Moves.{no_move}
use Rattle.q3_clmsg.specs.Values.{Message}
use Rattle.q3_clmsg.specs.Texts.{move_operation, move_section_bits, client_message_bits}
use Rattle.q3_clmsg.specs.Reading.{heads_at, section_at, moved_at, rest_at, operations_at, client_message_at}
use Rattle.q3_clmsg.specs.Spelling.{SpellsMoves, SpellsSection}
use Rattle.q3_clmsg.specs.Laws.{SpelledIsRead, HeadsAreRead}
use Rattle.q3_clmsg.proofs.MovesSpelled.{moves_are_read}
use Rattle.q3_clmsg.proofs.MessageSpelled.{end}

module _ (put : PutIsRead) (row_law : RowSpelledIsRead) (ending_law : EndingSpelledIsRead) (words : List (List Bool)) (code : IsCode words) (key : ℕ) where
  -- ---- the moves

  section_is_read : (moves : List Move) (text rest : List Bool) → 0 < length moves → length moves ≤ 32 → SpellsMoves words key no_move moves text
      → section_at words key (row_bits words ((length moves, 8) ∷ []) ++ (text ++ rest)) ≡ Ok (moves, rest)
  unfolding section_at
  section_is_read moves text rest some few s =
      let within : nat_le 1 (length moves) && nat_le (length moves) 32 ≡ true = grind (arith, nat_tests, some, few) in
      rw (row-last words code put (length moves) 8 (text ++ rest) (omega arith), within, moves_are_read put words code key no_move moves text rest s) refl

  -- they, and the end after them
  moved_is_read : (delta : Bool) (message : Message) (moves : List Move) (text nops rest : List Bool) → 0 < length moves → length moves ≤ 32 → SpellsMoves words key no_move moves text
      → SpellsNops words nops → moved_at words key delta message (row_bits words ((length moves, 8) ∷ []) ++ (text ++ (nops ++ (end words ++ rest))))
      ≡ Ok (record message { delta = delta; moves = moves }, rest)
  unfolding moved_at
  moved_is_read delta message moves text nops rest some few s are_nops =
      let behind = nops ++ (end words ++ rest) in
      let ending = nops ++ end words in
      let read = ending_law words 5 (length (ending ++ rest)) ending rest code (nops, are_nops, refl) (λ e. omega (arith, e)) (omega arith) (omega arith) in
      let ends : ending_at words 5 (length behind) behind ≡ Ok (tt, rest) = ap (λ (bits : List Bool). ending_at words 5 (length bits) bits) (sym (append_assoc nops (end words) rest)) ∙ read in
      rw (section_is_read moves text behind some few s, ends) refl

  -- ---- the operations

  -- commands, nops and another operation, and what follows these
  row_is_read : (message : Message) (commands : List Command) (operation : ℕ) (text nops left : List Bool) → message.commands ≡ [] → length commands ≤ 64
      → SpellsCommands words 4 commands text → SpellsNops words nops → operation < 256 → operation ≢ 1 → operation ≢ 4
      → operations_at words key message (text ++ (nops ++ (row_bits words ((operation, 8) ∷ []) ++ left))) ≡ rest_at words key operation (record message { commands = commands }) left
  unfolding operations_at
  row_is_read message commands operation text nops left none few of_commands are_nops byte not_nop not_command =
      let last = row_bits words ((operation, 8) ∷ []) in
      let spelling = text ++ nops ++ last in
      let same : text ++ (nops ++ (last ++ left)) ≡ spelling ++ left = simp append_assoc in
      let read = row_law words 4 operation (length (spelling ++ left)) message.commands commands spelling left code
      (record { text = text; nops = nops; of_commands = of_commands; of_nops = are_nops; byte = byte; not_nop = not_nop; not_command = not_command; whole = refl })
      (λ e. omega (arith, e)) (omega arith) (omega (arith, few, ap length none)) (omega arith) in
      rw (same, read) (ap (λ (before : List Command). rest_at words key operation (record message { commands = before ++ commands }) left) none)

  -- moves by either operation
  taken_is_read : (delta : Bool) (message : Message) (left : List Bool) → rest_at words key (move_operation delta) message left ≡ moved_at words key delta message left
  unfolding rest_at
  taken_is_read true message left = refl
  taken_is_read false message left = refl

  done_is_read : (message : Message) (left : List Bool) → rest_at words key 5 message left ≡ Ok (message, left)
  unfolding rest_at
  done_is_read message left = refl

  -- an operation of moves is neither a nop nor a command
  move_is_other : (delta : Bool) → (move_operation delta < 256) × (move_operation delta ≢ 1) × (move_operation delta ≢ 4)
  move_is_other true = (omega arith, λ e. omega (arith, e), λ e. omega (arith, e))
  move_is_other false = (omega arith, λ e. omega (arith, e), λ e. omega (arith, e))

  operations_are_read : NopsAreNops → (message : Message) (commands : List Command) (delta : Bool) (moves : List Move) (text nops section behind rest : List Bool) → message.commands ≡ [] → message.delta ≡ false
      → message.moves ≡ [] → length commands ≤ 64 → SpellsCommands words 4 commands text → SpellsNops words nops → SpellsSection words key delta moves section → SpellsNops words behind
      → operations_at words key message (text ++ (nops ++ (section ++ (behind ++ (end words ++ rest))))) ≡ Ok (record message { commands = commands; delta = delta; moves = moves }, rest)
  operations_are_read nops_law message commands delta [] text nops section behind rest none still no_moves few of_commands of_nops (no_delta, whole) of_after =
      let after : Message = record message { commands = commands } in
      let same : text ++ (nops ++ (section ++ (behind ++ (end words ++ rest)))) ≡ text ++ ((nops ++ behind) ++ (end words ++ rest)) =
      rw whole (ap (λ (left : List Bool). text ++ left) (sym (append_assoc nops behind (end words ++ rest)))) in
      ap (λ (bits : List Bool). operations_at words key message bits) same
      ∙ row_is_read message commands 5 text (nops ++ behind) rest none few of_commands (nops_law words nops behind of_nops of_after) (omega arith) (λ e. omega (arith, e)) (λ e. omega (arith, e))
      ∙ done_is_read after rest
      ∙ ap (λ (delta : Bool). Ok (record after { delta = delta }, rest)) (still ∙ sym no_delta)
      ∙ ap (λ (moves : List Move). Ok (record after { delta = delta; moves = moves }, rest)) no_moves
  operations_are_read nops_law message commands delta (first ∷ moves) text nops section behind rest none still no_moves few of_commands of_nops (of_moves, few_moves, s, whole) of_after =
      let after : Message = record message { commands = commands } in
      let all = first ∷ moves in
      let operation = move_operation delta in
      let other = move_is_other delta in
      let ends = behind ++ (end words ++ rest) in
      let fields : List (ℕ × ℕ) = (length all, 8) ∷ [] in
      let left = row_bits words fields ++ (of_moves ++ ends) in
      let same : section ++ ends ≡ row_bits words ((operation, 8) ∷ []) ++ left =
      ap (λ (text : List Bool). text ++ ends) whole
      ∙ append_assoc (row_bits words ((operation, 8) ∷ fields)) of_moves ends
      ∙ row-after words operation 8 fields (of_moves ++ ends) in
      ap (λ (left : List Bool). operations_at words key message (text ++ (nops ++ left))) same
      ∙ row_is_read message commands operation text nops left none few of_commands of_nops other.0 other.1 other.2
      ∙ taken_is_read delta after left
      ∙ moved_is_read delta after all of_moves behind rest (omega arith) few_moves s of_after

-- the three longs
heads_are_read : PutIsRead → (words : List (List Bool)) → IsCode words → (id acknowledged command : ℕ) (rest : List Bool) → id < 2 ^ 32 → acknowledged < 2 ^ 32 → command < 2 ^ 32
    → (bits : ℕ) × (heads_at words (row_bits words ((id, 32) ∷ (acknowledged, 32) ∷ (command, 32) ∷ []) ++ rest)
    ≡ Ok (record { id = id; acknowledged = acknowledged; command = command; bits = bits }, rest))
unfolding heads_at
heads_are_read put words code id acknowledged command rest fits fits' fits'' = (
  length (row_bits words ((id, 32) ∷ (acknowledged, 32) ∷ (command, 32) ∷ []) ++ rest) - length rest,
  rw (
    row-first words code put id 32 ((acknowledged, 32) ∷ (command, 32) ∷ []) rest fits,
    row-first words code put acknowledged 32 ((command, 32) ∷ []) rest fits',
    row-last words code put command 32 rest fits'',
  ) refl,
)

-- and those of what is written of a message
pub written_heads_are_read : PutIsRead → HeadsAreRead
unfolding client_message_bits
written_heads_are_read put words key message rest code is =
    let longs = row_bits words ((message.id, 32) ∷ (message.acknowledged, 32) ∷ (message.command, 32) ∷ []) in
    let behind = commands_bits words 4 message.commands ++ move_section_bits words key message.delta message.moves ++ row_bits words ((5, 8) ∷ []) in
    let same : client_message_bits words key message ++ rest ≡ longs ++ (behind ++ rest) = simp append_assoc in
    let heads = heads_are_read put words code message.id message.acknowledged message.command (behind ++ rest) is.id is.acknowledged is.command in
    (heads.0, rw (same, heads.1) refl)

pub message_is_read : PutIsRead → NopsAreNops → RowSpelledIsRead → EndingSpelledIsRead → SpelledIsRead
unfolding client_message_at
message_is_read put nops_law row_law ending_law words key message text rest code fits s =
    let start : Message = record { id = message.id; acknowledged = message.acknowledged; command = message.command; commands = []; delta = false; moves = [] } in
    let operations = s.of_operations in
    let behind = operations.of_ending in
    let bits = operations.text ++ (operations.nops ++ (s.section ++ (behind.0 ++ (end words ++ rest)))) in
    let longs = row_bits words ((message.id, 32) ∷ (message.acknowledged, 32) ∷ (message.command, 32) ∷ []) in
    let same : text ++ rest ≡ longs ++ bits =
    ap (λ (text : List Bool). text ++ rest) s.whole
    ∙ append_assoc longs s.operations rest
    ∙ ap (λ (left : List Bool). longs ++ left) (operations-parts words 4 5 message.commands s.section s.operations rest operations) in
    let heads = heads_are_read put words code message.id message.acknowledged message.command bits s.id s.acknowledged s.command in
    rw (same, heads.1)
    (operations_are_read put row_law ending_law words code key nops_law start message.commands message.delta message.moves operations.text operations.nops s.section behind.0 rest
    refl refl refl s.few operations.of_commands operations.of_nops s.of_section behind.1)
