-- A message that is spelled so is read.
use Rattle.std.proofs.Common.{◌≡◌, ◌≢◌, ◌≤◌, ◌<◌, ℕ, Bool, List, [], ◌∷◌, ◌++◌, length, Result, Ok, refl, sym, ap, ◌∙◌, append_assoc, arith, inl, inr}
use Rattle.q3_bits.specs.Words.{IsCode, row_bits}
use Rattle.q3_text.specs.declared.text.Command.{Command}
use Rattle.q3_profile.specs.declared.profile.Profile.{Profile}
use Rattle.q3_profile.specs.Profile.{IsCodec}
use Rattle.q3_svmsg.specs.declared.error.Illegible.{Illegible}
use Rattle.q3_svmsg.specs.Values.{Context, Told, Nothing, Game, Snap, Skipped, Message}
use Rattle.q3_svmsg.specs.Reading.{ended_at, rest_at, operations_at, server_message_at}
use Rattle.q3_svmsg.specs.Spelling.{SpellsSection}
use Rattle.q3_svmsg.specs.Laws.{IsContext, SpelledIsRead}
use Rattle.q3_strings.specs.Commands.{SpellsNops, SpellsCommands}
use Rattle.q3_strings.specs.Operations.{ending_at}
use Rattle.q3_strings.proofs.FieldRows.{row-last, operations-parts}
use Rattle.q3_svmsg.proofs.Below.{IsRead}
use Rattle.q3_svmsg.proofs.SectionSpelled.{ReadsSection, TakenSection, snapshot_is_read, skipped_is_read}
use Rattle.q3_svmsg.proofs.Games.{game_is_read}
use Rattle.q3_svmsg.proofs.MessageSpelled.{end}

module _ (laws : IsRead) (profile : Profile) (context : Context) (number : ℕ) (code : IsCode profile.code) where
  -- after a section nops, and the end
  ended_is_read : (message : Message) (told : Told) (nops rest : List Bool) → SpellsNops profile.code nops
      → ended_at profile.code message (told, nops ++ (end profile.code ++ rest)) ≡ Ok (record message { section = told }, rest)
  unfolding ended_at
  ended_is_read message told nops rest are_nops =
      let words = profile.code in
      let behind = nops ++ (end words ++ rest) in
      let ending = nops ++ end words in
      let read = laws.ending words 8 (length (ending ++ rest)) ending rest code (nops, are_nops, refl) (λ e. omega (arith, e)) (omega arith) (omega arith) in
      let ends : ending_at words 8 (length behind) behind ≡ Ok (tt, rest) = ap (λ (bits : List Bool). ending_at words 8 (length bits) bits) (sym (append_assoc nops (end words) rest)) ∙ read in
      rw ends refl

  -- commands, nops and another operation, and what follows these
  row_is_read : (message : Message) (commands : List Command) (operation : ℕ) (text nops left : List Bool) → message.commands ≡ [] → length commands ≤ 64
      → SpellsCommands profile.code 5 commands text → SpellsNops profile.code nops → operation < 256 → operation ≢ 1 → operation ≢ 5
      → operations_at profile context number message (text ++ (nops ++ (row_bits profile.code ((operation, 8) ∷ []) ++ left)))
      ≡ rest_at profile context number operation (record message { commands = commands }) left
  unfolding operations_at
  row_is_read message commands operation text nops left none few of_commands are_nops byte not_nop not_command =
      let words = profile.code in
      let last = row_bits words ((operation, 8) ∷ []) in
      let spelling = text ++ nops ++ last in
      let same : text ++ (nops ++ (last ++ left)) ≡ spelling ++ left = simp append_assoc in
      let read = laws.row words 5 operation (length (spelling ++ left)) message.commands commands spelling left code
      (record { text = text; nops = nops; of_commands = of_commands; of_nops = are_nops; byte = byte; not_nop = not_nop; not_command = not_command; whole = refl })
      (λ e. omega (arith, e)) (omega arith) (omega (arith, few, ap length none)) (omega arith) in
      rw (same, read) (ap (λ (before : List Command). rest_at profile context number operation (record message { commands = before ++ commands }) left) none)

  done_is_read : (message : Message) (left : List Bool) → rest_at profile context number 8 message left ≡ Ok (message, left)
  unfolding rest_at
  done_is_read message left = refl

  -- an operation of a section is neither a nop nor a command
  section_is_other : (operation : ℕ) (bits : List Bool) (read : Result (Told × List Bool) Illegible) → ReadsSection profile context number operation bits read → (operation ≢ 1) × (operation ≢ 5)
  section_is_other operation bits read (inl (game, told)) = (λ e. omega (arith, e, game), λ e. omega (arith, e, game))
  section_is_other operation bits read (inr (snapshot, told)) = (λ e. omega (arith, e, snapshot), λ e. omega (arith, e, snapshot))

  -- a section by its operation
  told_is_read : (operation : ℕ) (message : Message) (bits : List Bool) (told : Told) (behind : List Bool) → ReadsSection profile context number operation bits (Ok (told, behind))
      → rest_at profile context number operation message bits ≡ ended_at profile.code message (told, behind)
  unfolding rest_at
  told_is_read operation message bits told behind (inl (game, is)) = rw (game, ← is) refl
  told_is_read operation message bits told behind (inr (snapshot, is)) = rw (snapshot, ← is) refl

  -- a section that is there, and what follows it
  taken_is_read : (message : Message) (commands : List Command) (told : Told) (text nops section behind rest : List Bool) → message.commands ≡ [] → length commands ≤ 64
      → SpellsCommands profile.code 5 commands text → SpellsNops profile.code nops → TakenSection profile context number told section (behind ++ (end profile.code ++ rest)) → SpellsNops profile.code behind
      → operations_at profile context number message (text ++ (nops ++ (section ++ (behind ++ (end profile.code ++ rest))))) ≡ Ok (record message { commands = commands; section = told }, rest)
  taken_is_read message commands told text nops section behind rest none few of_commands of_nops took of_after =
      let words = profile.code in
      let after : Message = record message { commands = commands } in
      let ends = behind ++ (end words ++ rest) in
      let left = took.bits ++ ends in
      let operation = row_bits words ((took.operation, 8) ∷ []) in
      let same : section ++ ends ≡ operation ++ left = ap (λ (text : List Bool). text ++ ends) took.parts ∙ append_assoc operation took.bits ends in
      let other = section_is_other took.operation left (Ok (told, ends)) took.reads in
      ap (λ (left : List Bool). operations_at profile context number message (text ++ (nops ++ left))) same
      ∙ row_is_read message commands took.operation text nops left none few of_commands of_nops took.fits other.0 other.1
      ∙ told_is_read took.operation after left told ends took.reads
      ∙ ended_is_read after told behind rest of_after

  -- none, and the end
  none_is_read : (message : Message) (commands : List Command) (text nops behind rest : List Bool) → message.commands ≡ [] → length commands ≤ 64
      → SpellsCommands profile.code 5 commands text → SpellsNops profile.code nops → SpellsNops profile.code behind
      → operations_at profile context number message (text ++ (nops ++ (behind ++ (end profile.code ++ rest)))) ≡ Ok (record message { commands = commands }, rest)
  none_is_read message commands text nops behind rest none few of_commands of_nops of_after =
      let words = profile.code in
      ap (λ (left : List Bool). operations_at profile context number message (text ++ left)) (sym (append_assoc nops behind (end words ++ rest)))
      ∙ row_is_read message commands 8 text (nops ++ behind) rest none few of_commands (laws.nops words nops behind of_nops of_after) (omega arith) (λ e. omega (arith, e)) (λ e. omega (arith, e))
      ∙ done_is_read (record message { commands = commands }) rest

operations_are_read : IsRead → (profile : Profile) (context : Context) (number : ℕ) → IsCodec profile → IsContext profile context → (message : Message) (commands : List Command) (told : Told)
    (text nops section behind rest : List Bool) → message.commands ≡ [] → message.section ≡ Nothing → length commands ≤ 64 → SpellsCommands profile.code 5 commands text → SpellsNops profile.code nops
    → SpellsSection profile context number told section → SpellsNops profile.code behind
    → operations_at profile context number message (text ++ (nops ++ (section ++ (behind ++ (end profile.code ++ rest))))) ≡ Ok (record message { commands = commands; section = told }, rest)
operations_are_read laws profile context number codec is message commands Nothing text nops section behind rest no_commands none few of_commands of_nops s of_after =
    let ends = behind ++ (end profile.code ++ rest) in
    ap (λ (section : List Bool). operations_at profile context number message (text ++ (nops ++ (section ++ ends)))) s
    ∙ none_is_read laws profile context number codec.code message commands text nops behind rest no_commands few of_commands of_nops of_after
    ∙ ap (λ (told : Told). Ok (record message { commands = commands; section = told }, rest)) none
operations_are_read laws profile context number codec is message commands (Game game) text nops section behind rest no_commands none few of_commands of_nops s of_after =
    taken_is_read laws profile context number codec.code message commands (Game game) text nops section behind rest no_commands few of_commands of_nops
    (game_is_read laws.game profile context number game section (behind ++ (end profile.code ++ rest)) codec s) of_after
operations_are_read laws profile context number codec is message commands (Snap base snap entities) text nops section behind rest no_commands none few of_commands of_nops s of_after =
    taken_is_read laws profile context number codec.code message commands (Snap base snap entities) text nops section behind rest no_commands few of_commands of_nops
    (snapshot_is_read laws.put laws.bytes laws.no_player laws.player laws.list profile context number base snap entities section (behind ++ (end profile.code ++ rest)) codec is s) of_after
operations_are_read laws profile context number codec is message commands (Skipped base) text nops section behind rest no_commands none few of_commands of_nops s of_after =
    taken_is_read laws profile context number codec.code message commands (Skipped base) text nops section behind rest no_commands few of_commands of_nops
    (skipped_is_read laws.put laws.bytes laws.no_player laws.player laws.skipped profile context number base section (behind ++ (end profile.code ++ rest)) codec s) of_after

pub message_is_read : IsRead → SpelledIsRead
unfolding server_message_at
message_is_read laws profile context number message text rest codec is s =
    let words = profile.code in
    let start : Message = record { ack = message.ack; commands = []; section = Nothing } in
    let operations = s.of_operations in
    let behind = operations.of_ending in
    let bits = operations.text ++ (operations.nops ++ (s.section ++ (behind.0 ++ (end words ++ rest)))) in
    let ack = row_bits words ((message.ack, 32) ∷ []) in
    let same : text ++ rest ≡ ack ++ bits =
    ap (λ (text : List Bool). text ++ rest) s.whole
    ∙ append_assoc ack s.operations rest
    ∙ ap (λ (left : List Bool). ack ++ left) (operations-parts words 5 8 message.commands s.section s.operations rest operations) in
    rw (same, row-last words codec.code laws.put message.ack 32 bits s.ack)
    (operations_are_read laws profile context number codec is start message.commands message.section operations.text operations.nops s.section behind.0 rest
    refl refl s.few operations.of_commands operations.of_nops s.of_section behind.1)
