-- What is read as a message is well formed, and was spelled so.
use Rattle.std.proofs.Common.{◌≡◌, ◌<◌, ◌≤◌, ◌^◌, ℕ, Bool, eqb, List, [], ◌∷◌, ◌++◌, length, Ok, refl, sym, ap, subst, ◌∙◌, append_assoc, arith, inl, inr}
use Rattle.std.specs.List.{All}
use Rattle.std.proofs.lemmas.Bool.{cases_Bool, eqb-true}
use Rattle.q3_bits.specs.ResultBind.{fault_as}
use Rattle.q3_bits.proofs.Binds.{bind_ok, map_err_ok}
use Rattle.q3_bits.specs.Words.{IsCode, row_bits}
use Rattle.q3_text.specs.declared.text.Command.{Command}
use Rattle.q3_strings.specs.Commands.{SpellsNops, SpellsCommands, SpellsEnding}
use Rattle.q3_strings.specs.Operations.{Row, row_at, ending_at}
use Rattle.q3_strings.proofs.FieldRows.{row-none, row-empty}
use Rattle.q3_strings.specs.Laws.{IsCommand, WasRow}
use Rattle.q3_profile.specs.declared.profile.Profile.{Profile}
use Rattle.q3_profile.specs.Profile.{IsCodec}
use Rattle.q3_svmsg.specs.Values.{Context, Told, Nothing, Message, HasNumber}
use Rattle.q3_svmsg.specs.Reading.{operation_error, field_read, game_at, section_at, ended_at, rest_at, operations_at, server_message_at}
use Rattle.q3_svmsg.specs.Spelling.{SpellsSection}
use Rattle.q3_svmsg.specs.Laws.{IsContext, IsReadTold, ReadIsSpelled}
use Rattle.q3_svmsg.proofs.Below.{WasRead}
use Rattle.q3_svmsg.proofs.Fields.{field_was}
use Rattle.q3_svmsg.proofs.SectionSpelled.{ReadSection, section_was_spelled}
use Rattle.q3_svmsg.proofs.Games.{game_was_spelled}

-- the end
abbrev pub end : List (List Bool) → List Bool
end words = row_bits words ((8, 8) ∷ [])

-- the operations that were read after a message's front
record ReadOperations (profile : Profile) (context : Context) (number : ℕ) (message : Message) (bits : List Bool) (found : Message × List Bool) : Type 0 where
  added : List Command
  commands : List Bool
  nops : List Bool
  section : List Bool
  nops_after : List Bool
  ack : found.0.ack ≡ message.ack
  all : found.0.commands ≡ message.commands ++ added
  few : length found.0.commands ≤ 64
  each : All IsCommand added
  is : number < 2 ^ 32 → IsReadTold profile context found.0.section
  number_is : HasNumber number found.0.section
  of_commands : SpellsCommands profile.code 5 added commands
  of_nops : SpellsNops profile.code nops
  of_section : SpellsSection profile context number found.0.section section
  of_after : SpellsNops profile.code nops_after
  parts : bits ≡ commands ++ (nops ++ (section ++ (nops_after ++ (end profile.code ++ found.1))))

module _ (profile : Profile) (context : Context) (number : ℕ) (message : Message) (bits left : List Bool) (row : Row) (few : length message.commands ≤ 64) (was : WasRow profile.code 5 message.commands bits row left) where
  -- the row by its operation
  row_parts : (operation : ℕ) → row.operation ≡ operation → bits ≡ was.spells.text ++ (was.spells.nops ++ (row_bits profile.code ((operation, 8) ∷ []) ++ left))
  row_parts operation is =
      let words = profile.code in
      let text = was.spells.text in
      let nops = was.spells.nops in
      let last = row_bits words ((row.operation, 8) ∷ []) in
      was.parts ∙ ap (λ (text : List Bool). text ++ left) was.spells.whole ∙ append_assoc (text ++ nops) last left ∙ append_assoc text nops (last ++ left)
      ∙ ap (λ (n : ℕ). text ++ (nops ++ (row_bits words ((n, 8) ∷ []) ++ left))) is

  -- the end after it
  read_end : message.section ≡ Nothing → row.operation ≡ 8 → ReadOperations profile context number message bits (record message { commands = row.commands }, left)
  read_end none is = record {
    added = was.added;
    commands = was.spells.text;
    nops = was.spells.nops;
    section = [];
    nops_after = [];
    ack = refl;
    all = was.all;
    few = was.few few;
    each = was.each;
    is = λ low. subst (IsReadTold profile context) (sym none) tt;
    number_is = subst (HasNumber number) (sym none) tt;
    of_commands = was.spells.of_commands;
    of_nops = was.spells.of_nops;
    of_section = subst (λ told. SpellsSection profile context number told []) (sym none) refl;
    of_after = (0, row-empty profile.code);
    parts = row_parts 8 is;
  }

  -- a section after it, and the end after this
  read_section : (operation : ℕ) (section : Told × List Bool) (rest : List Bool) → row.operation ≡ operation → ReadSection profile context number operation left section
      → (ending : List Bool) × (section.1 ≡ ending ++ rest) × SpellsEnding profile.code 8 ending
      → ReadOperations profile context number message bits (record message { commands = row.commands; section = section.0 }, rest)
  read_section operation section rest is read (ending, parts, spelled) =
      let ends : section.1 ≡ spelled.0 ++ (end profile.code ++ rest) = parts ∙ ap (λ (text : List Bool). text ++ rest) spelled.2 ∙ append_assoc spelled.0 (end profile.code) rest in
      record {
        added = was.added;
        commands = was.spells.text;
        nops = was.spells.nops;
        section = read.text;
        nops_after = spelled.0;
        ack = refl;
        all = was.all;
        few = was.few few;
        each = was.each;
        is = read.is;
        number_is = read.number_is;
        of_commands = was.spells.of_commands;
        of_nops = was.spells.of_nops;
        of_section = read.spells;
        of_after = spelled.1;
        parts = row_parts operation is ∙ ap (λ (left : List Bool). was.spells.text ++ (was.spells.nops ++ left)) (read.parts ∙ ap (λ (left : List Bool). read.text ++ left) ends);
      }

  ended_was_spelled : WasRead → IsCode profile.code → (operation : ℕ) (section : Told × List Bool) (found : Message × List Bool) → row.operation ≡ operation
      → ReadSection profile context number operation left section → ended_at profile.code (record message { commands = row.commands }) section ≡ Ok found
      → ReadOperations profile context number message bits found
  unfolding ended_at
  ended_was_spelled laws code operation section found is read e =
      let words = profile.code in
      let after : Message = record message { commands = row.commands } in
      let ending = bind_ok (fault_as operation_error (ending_at words 8 (length section.1) section.1)) (λ ending. Ok (record after { section = section.0 }, ending.1)) found e in
      let made = ending.2 in
      let same : (record after { section = section.0 }, ending.0.1) ≡ found = cc in
      subst (ReadOperations profile context number message bits) {x = (record after { section = section.0 }, ending.0.1)} same
      (read_section operation section ending.0.1 is read
      (laws.ending words 8 (length section.1) section.1 ending.0.1 code (map_err_ok operation_error (ending_at words 8 (length section.1) section.1) ending.0 ending.1)))

  rest_was_spelled : WasRead → IsCodec profile → IsContext profile context → (found : Message × List Bool) → message.section ≡ Nothing
      → rest_at profile context number row.operation (record message { commands = row.commands }) left ≡ Ok found → ReadOperations profile context number message bits found
  unfolding rest_at
  rest_was_spelled laws codec is found none e =
      let words = profile.code in
      let after : Message = record message { commands = row.commands } in
      elim (cases_Bool (eqb row.operation 8)) [
        | inl done ↦
            let made = rw done at e in
            let same : (after, left) ≡ found = cc in
            subst (ReadOperations profile context number message bits) {x = (after, left)} same (read_end none (eqb-true row.operation 8 done))
        | inr more ↦
            let next = rw more at e in
            elim (cases_Bool (eqb row.operation 2)) [
              | inl game ↦
                  let section = bind_ok (game_at profile left) (λ section. ended_at words after section) found (rw game at next) in
                  ended_was_spelled laws codec.code 2 section.0 found (eqb-true row.operation 2 game)
                  (game_was_spelled laws.game profile context number left section.0 codec section.1) section.2
              | inr other ↦
                  let last = rw other at next in
                  elim (cases_Bool (eqb row.operation 7)) [
                    | inl snapshot ↦
                        let section = bind_ok (section_at profile context number left) (λ section. ended_at words after section) found (rw snapshot at last) in
                        ended_was_spelled laws codec.code 7 section.0 found (eqb-true row.operation 7 snapshot)
                        (section_was_spelled laws.put laws.bytes laws.no_player laws.player laws.list laws.skipped profile context number left section.0 codec is section.1) section.2
                    | inr bad ↦ absurd (let wrong = rw bad at last in cc)
                  ]
            ]
      ]

operations_were_spelled : WasRead → (profile : Profile) (context : Context) (number : ℕ) → IsCodec profile → IsContext profile context → (message : Message) (bits : List Bool) (found : Message × List Bool)
    → message.section ≡ Nothing → length message.commands ≤ 64 → operations_at profile context number message bits ≡ Ok found → ReadOperations profile context number message bits found
unfolding operations_at
operations_were_spelled laws profile context number codec is message bits found none few e =
    let words = profile.code in
    let row = bind_ok (fault_as operation_error (row_at words 5 (length bits) message.commands bits))
    (λ row. rest_at profile context number row.0.operation (record message { commands = row.0.commands }) row.1) found e in
    let was = laws.row words 5 (length bits) message.commands bits row.0.0 row.0.1 codec.code (map_err_ok operation_error (row_at words 5 (length bits) message.commands bits) row.0 row.1) in
    rest_was_spelled profile context number message bits row.0.1 row.0.0 few was laws codec is found none row.2

pub message_was_spelled : WasRead → ReadIsSpelled
unfolding server_message_at
message_was_spelled laws profile context number message bits rest codec is e =
    let words = profile.code in
    let start = λ (ack : ℕ). let m : Message = record { ack = ack; commands = []; section = Nothing } in m in
    let ack = bind_ok (field_read words 32 bits) (λ ack. operations_at profile context number (start ack.0) ack.1) (message, rest) e in
    let was = field_was laws.put words 32 bits ack.0 codec.code ack.1 in
    let read = operations_were_spelled laws profile context number codec is (start ack.0.0) ack.0.1 (message, rest) refl (omega arith) ack.2 in
    let section = read.section in
    let nops_after = read.nops_after in
    let low = subst (λ (n : ℕ). n < 2 ^ 32) (sym read.ack) was.fits in (
      λ fits. record { ack = low; few = read.few; commands = subst (All IsCommand) (sym read.all) read.each; section = read.is fits; number_is = read.number_is },
      row_bits words ((message.ack, 32) ∷ []) ++ (read.commands ++ read.nops ++ section ++ (nops_after ++ end words)),
      was.row [] ack.0.1 (row-none words ack.0.1)
          ∙ ap (λ (n : ℕ). row_bits words ((n, 32) ∷ []) ++ ack.0.1) (sym read.ack)
          ∙ ap (λ (left : List Bool). row_bits words ((message.ack, 32) ∷ []) ++ left) read.parts
          ∙ simp append_assoc,
      record {
        ack = low;
        few = read.few;
        section = section;
        operations = read.commands ++ read.nops ++ section ++ (nops_after ++ end words);
        of_section = read.of_section;
        of_operations = record {
          text = read.commands;
          nops = read.nops;
          ending = nops_after ++ end words;
          of_commands = subst (λ (commands : List Command). SpellsCommands words 5 commands read.commands) (sym read.all) read.of_commands;
          of_nops = read.of_nops;
          of_ending = (nops_after, read.of_after, refl);
          whole = refl;
        };
        whole = refl;
      },
    )
