-- What is written of a message spells it, and what is read as one was spelled so.
use Rattle.std.proofs.Common.{◌≡◌, ◌-◌, ◌<◌, ◌≤◌, ◌^◌, ℕ, Bool, true, false, eqb, cond, nat_le, ◌&&◌, List, [], ◌∷◌, ◌++◌, length, Ok, Err, refl, sym, ap, subst, ◌∙◌, append_assoc, arith, inl, inr}
use Rattle.std.specs.List.{All}
use Rattle.std.proofs.lemmas.Bool.{cases_Bool, eqb-true}
use Rattle.std.proofs.lemmas.Bool.Decides.{nat_tests}
use Rattle.std.proofs.lemmas.List.{append-nil}
use Rattle.std.proofs.lemmas.List.Elements.{All-nil}
use Rattle.q3_bits.specs.ResultBind.{◌>>=◌, fault_as}
use Rattle.q3_bits.proofs.Binds.{bind_ok, map_err_ok}
use Rattle.q3_bits.specs.Words.{IsCode, row_bits, field_at}
use Rattle.q3_bits.specs.Laws.{ReadWasPut}
use Rattle.q3_text.specs.declared.text.Command.{Command}
use Rattle.q3_strings.specs.Commands.{commands_bits, SpellsNops, SpellsCommands, SpellsEnding}
use Rattle.q3_strings.specs.Operations.{Row, row_at, ending_at}
use Rattle.q3_strings.proofs.FieldRows.{row-empty, row-none, row-after, field_was_put}
use Rattle.q3_strings.specs.Laws.{IsCommand, CommandsAreSpelled, WasRow, RowReadIsSpelled, EndingReadIsSpelled}
use Rattle.q3_clmsg.specs.declared.moves.Move.{Move}
use Rattle.q3_clmsg.specs.declared.heads.Heads.{Heads}
use Rattle.q3_clmsg.specs.declared.error.ClientIllegible.TheVariants.{Bits, MoveCount}
use Rattle.q3_clmsg.specs.Moves.{IsMove, no_move, moves_bits, moves_at}
use Rattle.q3_clmsg.specs.Values.{Message, empty_message}
use Rattle.q3_clmsg.specs.Texts.{move_operation, move_section_bits, client_message_bits}
use Rattle.q3_clmsg.specs.Reading.{operation_error, field_read, heads_at, section_at, moved_at, rest_at, operations_at, client_message_at}
use Rattle.q3_clmsg.specs.Spelling.{SpellsMoves, SpellsSection, SpellsMessage}
use Rattle.q3_clmsg.specs.Laws.{IsMessage, WrittenIsSpelled, ReadIsSpelled}
use Rattle.q3_clmsg.proofs.Steps.{none_is}
use Rattle.q3_clmsg.proofs.MovesSpelled.{moves_are_spelled, moves_were_spelled}

-- the end
abbrev pub end : List (List Bool) → List Bool
end words = row_bits words ((5, 8) ∷ [])

-- no moves
none_spelled : (words : List (List Bool)) (key : ℕ) (delta : Bool) (moves : List Move) → delta ≡ false → moves ≡ [] → SpellsSection words key delta moves []
none_spelled words key delta [] still none = (still, refl)
none_spelled words key delta (one ∷ moves) still none = absurd cc

-- some
some_spelled : (words : List (List Bool)) (key : ℕ) (delta : Bool) (moves : List Move) (text : List Bool) → 0 < length moves → length moves ≤ 32 → SpellsMoves words key no_move moves text
    → SpellsSection words key delta moves (row_bits words ((move_operation delta, 8) ∷ (length moves, 8) ∷ []) ++ text)
some_spelled words key delta [] text some few s = absurd (omega (arith, some))
some_spelled words key delta (one ∷ moves) text some few s = (text, few, s, refl)

-- ---- what is written

section_is_spelled : (words : List (List Bool)) (key : ℕ) (delta : Bool) (moves : List Move) → length moves ≤ 32 → All IsMove moves → (moves ≡ [] → delta ≡ false)
    → SpellsSection words key delta moves (move_section_bits words key delta moves)
section_is_spelled words key delta [] few each whole = (whole refl, refl)
section_is_spelled words key delta (one ∷ moves) few each whole =
    (moves_bits words key no_move (one ∷ moves), few, moves_are_spelled words key no_move (one ∷ moves) none_is each, refl)

pub message_is_spelled : CommandsAreSpelled → WrittenIsSpelled
unfolding client_message_bits
message_is_spelled commands_are words key message code fits is =
    let commands = commands_bits words 4 message.commands in
    let section = move_section_bits words key message.delta message.moves in
    record {
      id = is.id;
      acknowledged = is.acknowledged;
      command = is.command;
      few = is.few;
      section = section;
      operations = commands ++ [] ++ section ++ ([] ++ end words);
      of_section = section_is_spelled words key message.delta message.moves is.few_moves is.moves is.whole;
      of_operations = record {
        text = commands;
        nops = [];
        ending = [] ++ end words;
        of_commands = commands_are words 4 message.commands is.commands;
        of_nops = (0, row-empty words);
        of_ending = ([], (0, row-empty words), refl);
        whole = refl;
      };
      whole = simp (append-nil, append_assoc);
    }

-- ---- the moves that were read

record ReadSection (words : List (List Bool)) (key : ℕ) (bits : List Bool) (found : List Move × List Bool) : Type 0 where
  some : 0 < length found.0
  few : length found.0 ≤ 32
  each : All IsMove found.0
  text : List Bool
  spells : SpellsMoves words key no_move found.0 text
  parts : bits ≡ row_bits words ((length found.0, 8) ∷ []) ++ (text ++ found.1)

section_was_spelled : ReadWasPut → (words : List (List Bool)) → IsCode words → (key : ℕ) (bits : List Bool) (found : List Move × List Bool) → section_at words key bits ≡ Ok found
    → ReadSection words key bits found
unfolding section_at
section_was_spelled put words code key bits found e =
    let count = bind_ok (field_read words 8 bits)
    (λ count. cond (nat_le 1 count.0 && nat_le count.0 32) (fault_as Bits (moves_at words key count.0 no_move count.1)) (Err (MoveCount count.0))) found e in
    elim (cases_Bool (nat_le 1 count.0.0 && nat_le count.0.0 32)) [
      | inl within ↦
          let was = field_was_put put words 8 bits count.0 code (map_err_ok Bits (field_at words 8 bits) count.0 count.1) in
          let were = moves_were_spelled put words code key count.0.0 no_move count.0.1 found none_is (map_err_ok Bits (moves_at words key count.0.0 no_move count.0.1) found (rw within at count.2)) in
          let some : 0 < count.0.0 = grind (arith, nat_tests, within) in
          let few : count.0.0 ≤ 32 = grind (arith, nat_tests, within) in
          record {
            some = omega (arith, some, were.long);
            few = omega (arith, few, were.long);
            each = were.each;
            text = were.text;
            spells = were.spells;
            parts = was.row [] count.0.1 (row-none words count.0.1)
                ∙ ap (λ (n : ℕ). row_bits words ((n, 8) ∷ []) ++ count.0.1) (sym were.long)
                ∙ ap (λ (left : List Bool). row_bits words ((length found.0, 8) ∷ []) ++ left) were.parts;
          }
      | inr beyond ↦ absurd (let wrong = rw beyond at count.2 in cc)
    ]

-- ---- the operations

-- those that were read after a message's front
record ReadOperations (words : List (List Bool)) (key : ℕ) (message : Message) (bits : List Bool) (found : Message × List Bool) : Type 0 where
  added : List Command
  commands : List Bool
  nops : List Bool
  section : List Bool
  nops_after : List Bool
  id : found.0.id ≡ message.id
  acknowledged : found.0.acknowledged ≡ message.acknowledged
  command : found.0.command ≡ message.command
  all : found.0.commands ≡ message.commands ++ added
  few : length found.0.commands ≤ 64
  each : All IsCommand added
  few_moves : length found.0.moves ≤ 32
  moves : All IsMove found.0.moves
  whole : found.0.moves ≡ [] → found.0.delta ≡ false
  of_commands : SpellsCommands words 4 added commands
  of_nops : SpellsNops words nops
  of_section : SpellsSection words key found.0.delta found.0.moves section
  of_after : SpellsNops words nops_after
  parts : bits ≡ commands ++ (nops ++ (section ++ (nops_after ++ (end words ++ found.1))))

-- a message without moves
record HasNoMoves (message : Message) : Type 0 where
  delta : message.delta ≡ false
  moves : message.moves ≡ []

module _ (words : List (List Bool)) (key : ℕ) (message : Message) (bits left : List Bool) (row : Row) (few : length message.commands ≤ 64) (was : WasRow words 4 message.commands bits row left) where
  -- the row by its operation
  row_parts : (operation : ℕ) → row.operation ≡ operation → bits ≡ was.spells.text ++ (was.spells.nops ++ (row_bits words ((operation, 8) ∷ []) ++ left))
  row_parts operation is =
      let text = was.spells.text in
      let nops = was.spells.nops in
      let last = row_bits words ((row.operation, 8) ∷ []) in
      was.parts ∙ ap (λ (text : List Bool). text ++ left) was.spells.whole ∙ append_assoc (text ++ nops) last left ∙ append_assoc text nops (last ++ left)
      ∙ ap (λ (n : ℕ). text ++ (nops ++ (row_bits words ((n, 8) ∷ []) ++ left))) is

  -- the end after it
  read_end : HasNoMoves message → row.operation ≡ 5 → ReadOperations words key message bits (record message { commands = row.commands }, left)
  read_end none is = record {
    added = was.added;
    commands = was.spells.text;
    nops = was.spells.nops;
    section = [];
    nops_after = [];
    id = refl;
    acknowledged = refl;
    command = refl;
    all = was.all;
    few = was.few few;
    each = was.each;
    few_moves = omega (arith, ap length none.moves);
    moves = subst (λ (moves : List Move). All IsMove moves) (sym none.moves) (All-nil IsMove);
    whole = λ is. none.delta;
    of_commands = was.spells.of_commands;
    of_nops = was.spells.of_nops;
    of_section = none_spelled words key message.delta message.moves none.delta none.moves;
    of_after = (0, row-empty words);
    parts = row_parts 5 is;
  }

  -- moves after it, and the end after these
  read_moves : (delta : Bool) (section : List Move × List Bool) (rest : List Bool) → row.operation ≡ move_operation delta → ReadSection words key left section
      → (ending : List Bool) × (section.1 ≡ ending ++ rest) × SpellsEnding words 5 ending
      → ReadOperations words key message bits (record message { commands = row.commands; delta = delta; moves = section.0 }, rest)
  read_moves delta section rest is read (ending, parts, spelled) =
      let operation = move_operation delta in
      let fields : List (ℕ × ℕ) = (length section.0, 8) ∷ [] in
      let front = row_bits words ((operation, 8) ∷ fields) in
      let left_after = spelled.0 ++ (end words ++ rest) in
      let ends : section.1 ≡ left_after = parts ∙ ap (λ (text : List Bool). text ++ rest) spelled.2 ∙ append_assoc spelled.0 (end words) rest in
      let inner =
      ap (λ (left : List Bool). row_bits words ((operation, 8) ∷ []) ++ left) read.parts
      ∙ sym (row-after words operation 8 fields (read.text ++ section.1))
      ∙ ap (λ (left : List Bool). front ++ (read.text ++ left)) ends
      ∙ sym (append_assoc front read.text left_after) in
      record {
        added = was.added;
        commands = was.spells.text;
        nops = was.spells.nops;
        section = front ++ read.text;
        nops_after = spelled.0;
        id = refl;
        acknowledged = refl;
        command = refl;
        all = was.all;
        few = was.few few;
        each = was.each;
        few_moves = read.few;
        moves = read.each;
        whole = λ none. absurd (omega (arith, read.some, ap length none));
        of_commands = was.spells.of_commands;
        of_nops = was.spells.of_nops;
        of_section = some_spelled words key delta section.0 read.text read.some read.few read.spells;
        of_after = spelled.1;
        parts = row_parts operation is ∙ ap (λ (left : List Bool). was.spells.text ++ (was.spells.nops ++ left)) inner;
      }

  moved_was_spelled : ReadWasPut → EndingReadIsSpelled → IsCode words → (delta : Bool) (found : Message × List Bool) → row.operation ≡ move_operation delta
      → moved_at words key delta (record message { commands = row.commands }) left ≡ Ok found → ReadOperations words key message bits found
  unfolding moved_at
  moved_was_spelled put ending_law code delta found is e =
      let after : Message = record message { commands = row.commands } in
      let section = bind_ok (section_at words key left)
      (λ moves. fault_as operation_error (ending_at words 5 (length moves.1) moves.1) >>= λ ending. Ok (record after { delta = delta; moves = moves.0 }, ending.1)) found e in
      let ending = bind_ok (fault_as operation_error (ending_at words 5 (length section.0.1) section.0.1)) (λ ending. Ok (record after { delta = delta; moves = section.0.0 }, ending.1)) found section.2 in
      let made = ending.2 in
      let same : (record after { delta = delta; moves = section.0.0 }, ending.0.1) ≡ found = cc in
      let ends = map_err_ok operation_error (ending_at words 5 (length section.0.1) section.0.1) ending.0 ending.1 in
      subst (ReadOperations words key message bits) {x = (record after { delta = delta; moves = section.0.0 }, ending.0.1)} same
      (read_moves delta section.0 ending.0.1 is (section_was_spelled put words code key left section.0 section.1)
      (ending_law words 5 (length section.0.1) section.0.1 ending.0.1 code ends))

  rest_was_spelled : ReadWasPut → EndingReadIsSpelled → IsCode words → (found : Message × List Bool) → HasNoMoves message
      → rest_at words key row.operation (record message { commands = row.commands }) left ≡ Ok found → ReadOperations words key message bits found
  unfolding rest_at
  rest_was_spelled put ending_law code found none e =
      let after : Message = record message { commands = row.commands } in
      elim (cases_Bool (eqb row.operation 5)) [
        | inl done ↦
            let made = rw done at e in
            let same : (after, left) ≡ found = cc in
            subst (ReadOperations words key message bits) {x = (after, left)} same (read_end none (eqb-true row.operation 5 done))
        | inr more ↦
            let next = rw more at e in
            elim (cases_Bool (eqb row.operation 2)) [
              | inl moves ↦ moved_was_spelled put ending_law code true found (eqb-true row.operation 2 moves) (rw moves at next)
              | inr other ↦
                  let last = rw other at next in
                  elim (cases_Bool (eqb row.operation 3)) [
                    | inl moves ↦ moved_was_spelled put ending_law code false found (eqb-true row.operation 3 moves) (rw moves at last)
                    | inr bad ↦ absurd (let wrong = rw bad at last in cc)
                  ]
            ]
      ]

operations_were_spelled : ReadWasPut → RowReadIsSpelled → EndingReadIsSpelled → (words : List (List Bool)) → IsCode words → (key : ℕ) (message : Message) (bits : List Bool) (found : Message × List Bool)
    → HasNoMoves message → length message.commands ≤ 64 → operations_at words key message bits ≡ Ok found → ReadOperations words key message bits found
unfolding operations_at
operations_were_spelled put row_law ending_law words code key message bits found none few e =
    let row = bind_ok (fault_as operation_error (row_at words 4 (length bits) message.commands bits))
    (λ row. rest_at words key row.0.operation (record message { commands = row.0.commands }) row.1) found e in
    let was = row_law words 4 (length bits) message.commands bits row.0.0 row.0.1 code (map_err_ok operation_error (row_at words 4 (length bits) message.commands bits) row.0 row.1) in
    rest_was_spelled words key message bits row.0.1 row.0.0 few was put ending_law code found none row.2

-- ---- the message

-- three longs that were read
record ReadHeads (words : List (List Bool)) (bits : List Bool) (found : Heads × List Bool) : Type 0 where
  id : found.0.id < 2 ^ 32
  acknowledged : found.0.acknowledged < 2 ^ 32
  command : found.0.command < 2 ^ 32
  parts : bits ≡ row_bits words ((found.0.id, 32) ∷ (found.0.acknowledged, 32) ∷ (found.0.command, 32) ∷ []) ++ found.1

heads_were_spelled : ReadWasPut → (words : List (List Bool)) → IsCode words → (bits : List Bool) (found : Heads × List Bool) → heads_at words bits ≡ Ok found → ReadHeads words bits found
unfolding heads_at
heads_were_spelled put words code bits found e =
    let made_of = λ (id acknowledged : ℕ) (command : ℕ × List Bool).
    let heads : Heads = record { id = id; acknowledged = acknowledged; command = command.0; bits = length bits - length command.1 } in heads in
    let id = bind_ok (field_at words 32 bits)
    (λ id. field_at words 32 id.1 >>= λ acknowledged. (field_at words 32 acknowledged.1 >>= λ command. Ok (made_of id.0 acknowledged.0 command, command.1))) found e in
    let acknowledged = bind_ok (field_at words 32 id.0.1)
    (λ acknowledged. field_at words 32 acknowledged.1 >>= λ command. Ok (made_of id.0.0 acknowledged.0 command, command.1)) found id.2 in
    let command = bind_ok (field_at words 32 acknowledged.0.1) (λ command. Ok (made_of id.0.0 acknowledged.0.0 command, command.1)) found acknowledged.2 in
    let first = field_was_put put words 32 bits id.0 code id.1 in
    let second = field_was_put put words 32 id.0.1 acknowledged.0 code acknowledged.1 in
    let third = field_was_put put words 32 acknowledged.0.1 command.0 code command.1 in
    let made = command.2 in
    let same : (made_of id.0.0 acknowledged.0.0 command.0, command.0.1) ≡ found = cc in
    subst (ReadHeads words bits) {x = (made_of id.0.0 acknowledged.0.0 command.0, command.0.1)} same (record {
      id = first.fits;
      acknowledged = second.fits;
      command = third.fits;
      parts =
          first.row ((acknowledged.0.0, 32) ∷ (command.0.0, 32) ∷ []) command.0.1
          (second.row ((command.0.0, 32) ∷ []) command.0.1 (third.row [] command.0.1 (row-none words command.0.1)));
    })

-- the message with three longs
abbrev pub start_of : Heads → Message
start_of heads = record empty_message { id = heads.id; acknowledged = heads.acknowledged; command = heads.command }

message_after : (words : List (List Bool)) (key : ℕ) (message : Message) (bits rest : List Bool) (heads : Heads × List Bool) → ReadHeads words bits heads
    → ReadOperations words key (start_of heads.0) heads.1 (message, rest) → IsMessage message × (text : List Bool) × (bits ≡ text ++ rest) × SpellsMessage words key message text
message_after words key message bits rest heads were read =
    let longs = λ (id acknowledged command : ℕ). row_bits words ((id, 32) ∷ (acknowledged, 32) ∷ (command, 32) ∷ []) in
    let id = subst (λ (n : ℕ). n < 2 ^ 32) (sym read.id) were.id in
    let acknowledged = subst (λ (n : ℕ). n < 2 ^ 32) (sym read.acknowledged) were.acknowledged in
    let command = subst (λ (n : ℕ). n < 2 ^ 32) (sym read.command) were.command in
    let nops = read.nops in
    let nops_after = read.nops_after in
    let section = read.section in
    let left = read.commands ++ (nops ++ (section ++ (nops_after ++ (end words ++ rest)))) in
    let front : bits ≡ longs message.id message.acknowledged message.command ++ left =
    were.parts
    ∙ ap (λ (n : ℕ). longs n heads.0.acknowledged heads.0.command ++ heads.1) (sym read.id)
    ∙ ap (λ (n : ℕ). longs message.id n heads.0.command ++ heads.1) (sym read.acknowledged)
    ∙ ap (λ (n : ℕ). longs message.id message.acknowledged n ++ heads.1) (sym read.command)
    ∙ ap (λ (left : List Bool). longs message.id message.acknowledged message.command ++ left) read.parts in (
      record {
        id = id;
        acknowledged = acknowledged;
        command = command;
        few = read.few;
        commands = subst (λ (commands : List Command). All IsCommand commands) (sym read.all) read.each;
        few_moves = read.few_moves;
        moves = read.moves;
        whole = read.whole;
      },
      longs message.id message.acknowledged message.command ++ (read.commands ++ nops ++ section ++ (nops_after ++ end words)),
      front ∙ simp append_assoc,
      record {
        id = id;
        acknowledged = acknowledged;
        command = command;
        few = read.few;
        section = section;
        operations = read.commands ++ nops ++ section ++ (nops_after ++ end words);
        of_section = read.of_section;
        of_operations = record {
          text = read.commands;
          nops = nops;
          ending = nops_after ++ end words;
          of_commands = subst (λ (commands : List Command). SpellsCommands words 4 commands read.commands) (sym read.all) read.of_commands;
          of_nops = read.of_nops;
          of_ending = (nops_after, read.of_after, refl);
          whole = refl;
        };
        whole = refl;
      },
    )

pub message_was_spelled : ReadWasPut → RowReadIsSpelled → EndingReadIsSpelled → ReadIsSpelled
unfolding client_message_at
message_was_spelled put row_law ending_law words key message bits rest code fits e =
    let heads = bind_ok (fault_as Bits (heads_at words bits)) (λ heads. operations_at words key (start_of heads.0) heads.1) (message, rest) e in
    let were = heads_were_spelled put words code bits heads.0 (map_err_ok Bits (heads_at words bits) heads.0 heads.1) in
    let read = operations_were_spelled put row_law ending_law words code key (start_of heads.0.0) heads.0.1 (message, rest) (record { delta = refl; moves = refl }) (omega arith) heads.2 in
    message_after words key message bits rest heads.0 were read
