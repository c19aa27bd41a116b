use Rattle.std.proofs.Common.{◌≡◌, ◌∙◌, ◌+◌, ◌==◌, length, true, false, sym, ap, arith}
use Rattle.std.proofs.lemmas.Result.{err_from_is_err_and}
use Rattle.std.proofs.lemmas.Bool.Decides.{nat_tests}
use Rattle.q3_bits.specs.Streams.{Reading}
use Rattle.q3_strings.proofs.OperationTurns.{row_fault, row_nop, row_done, row_command, row_command_fault}
use Rattle.q3_strings.proofs.CommandRows.{more_shorter}
use Rattle.q3_strings.proofs.operations.read_row.Goals as goal

pub returns-in_err-operation-clause-reads : goal.returns-in_err-operation-clause-reads
returns-in_err-operation-clause-reads c =
    let p = err_from_is_err_and c.from_residual.result c.from_residual.ensures.1 in
    let h = c.loop-operation.invariant.turned in
    let words = c.args.r.now.words in
    let read = rw h.words at c.in_err-operation.ensures.reads.value in
    rw (p.1, p.2) (record {
      value = sym (row_fault words c.args.command c.loop-operation.commands c.turns_are_taken.ensures c.requires c.loop-operation.own.left c.in_err-operation.field-0.0 h.turns read h.enough) ∙ h.reads;
      words = ap (λ (reader : Reading). reader.words) c.loop-operation.invariant.same;
      place = ap (λ (reader : Reading). reader.place + length reader.left) c.loop-operation.invariant.same;
    })

pub loop-operation-preserved-then-operation-eq-NOP : goal.loop-operation-preserved-then-operation-eq-NOP
loop-operation-preserved-then-operation-eq-NOP c =
    let h = c.loop-operation.invariant.turned in
    let words = c.args.r.now.words in
    let byte = c.in_ok-operation.operation in
    let read = rw h.words at c.in_ok-operation.ensures.reads.value in
    let one = c.turns_are_taken.ensures.turn words c.loop-operation.own.left c.read_operation.new.r.left byte h.turns c.requires read h.enough in
    let nop : (byte == 1) ≡ true = grind (arith, nat_tests) in
    record {
      same = c.loop-operation.invariant.same;
      turned = record {
        words = c.in_ok-operation.ensures.reads.words ∙ h.words;
        place = c.in_ok-operation.ensures.reads.place ∙ h.place;
        turns = one.left;
        enough = one.enough;
        reads = sym (row_nop words c.args.command c.loop-operation.commands c.loop-operation.own.left c.read_operation.new.r.left byte h.turns one.left read one.is nop) ∙ h.reads;
      };
    }

pub returns-then-operation-command-clause-reads : goal.returns-then-operation-command-clause-reads
returns-then-operation-command-clause-reads c =
    let h = c.loop-operation.invariant.turned in
    let words = c.args.r.now.words in
    let byte = c.in_ok-operation.operation in
    let read = rw h.words at c.in_ok-operation.ensures.reads.value in
    let one = c.turns_are_taken.ensures.turn words c.loop-operation.own.left c.read_operation.new.r.left byte h.turns c.requires read h.enough in
    let not_nop : (byte == 1) ≡ false = grind (arith, nat_tests) in
    let other : (byte == c.args.command) ≡ false = grind (arith, nat_tests) in
    record {
      value = sym (row_done words c.args.command c.loop-operation.commands c.loop-operation.own.left c.read_operation.new.r.left byte h.turns one.left read one.is not_nop other) ∙ h.reads;
      words = c.in_ok-operation.ensures.reads.words ∙ h.words;
      place = c.in_ok-operation.ensures.reads.place ∙ h.place;
    }

pub loop-operation-smaller : goal.loop-operation-smaller
loop-operation-smaller c =
    let h = c.loop-operation.invariant.turned in
    let words = c.args.r.now.words in
    let read = rw h.words at c.in_ok-operation.ensures.reads.value in
    let one = c.turns_are_taken.ensures.shorter words c.loop-operation.own.left c.read_operation.new.r.left c.in_ok-operation.operation c.requires (sym read) in
    let same : c.read_operation.new.r.words ≡ words = c.in_ok-operation.ensures.reads.words ∙ h.words in
    let more = rw same at c.in_ok-read_next_command.ensures.value in
    let after = more_shorter c.command_read_is_spelled.ensures words c.requires c.loop-operation.commands c.read_operation.new.r.left c.read_next_command.new.commands c.read_next_command.new.r.left more in
    omega (arith, one, after)

pub loop-operation-preserved : goal.loop-operation-preserved
loop-operation-preserved c =
    let h = c.loop-operation.invariant.turned in
    let words = c.args.r.now.words in
    let byte = c.in_ok-operation.operation in
    let read = rw h.words at c.in_ok-operation.ensures.reads.value in
    let one = c.turns_are_taken.ensures.turn words c.loop-operation.own.left c.read_operation.new.r.left byte h.turns c.requires read h.enough in
    let same : c.read_operation.new.r.words ≡ words = c.in_ok-operation.ensures.reads.words ∙ h.words in
    let more = rw same at c.in_ok-read_next_command.ensures.value in
    let after = more_shorter c.command_read_is_spelled.ensures words c.requires c.loop-operation.commands c.read_operation.new.r.left c.read_next_command.new.commands c.read_next_command.new.r.left more in
    let not_nop : (byte == 1) ≡ false = grind (arith, nat_tests) in
    let here : (byte == c.args.command) ≡ true = grind (arith, nat_tests) in
    record {
      same = c.loop-operation.invariant.same;
      turned = record {
        words = c.in_ok-read_next_command.ensures.words ∙ same;
        place = c.in_ok-read_next_command.ensures.place ∙ c.in_ok-operation.ensures.reads.place ∙ h.place;
        turns = one.left;
        enough = omega (arith, one.enough, after);
        reads =
            sym (row_command words c.args.command c.loop-operation.commands c.loop-operation.own.left c.read_operation.new.r.left byte h.turns one.left read one.is
            c.read_next_command.new.commands c.read_next_command.new.r.left not_nop here more) ∙ h.reads;
      };
    }

pub returns-in_err-read_next_command-clause-reads : goal.returns-in_err-read_next_command-clause-reads
returns-in_err-read_next_command-clause-reads c =
    let p = err_from_is_err_and c.from_residual-in_err-read_next_command.result c.from_residual-in_err-read_next_command.ensures.1 in
    let h = c.loop-operation.invariant.turned in
    let words = c.args.r.now.words in
    let byte = c.in_ok-operation.operation in
    let read = rw h.words at c.in_ok-operation.ensures.reads.value in
    let one = c.turns_are_taken.ensures.turn words c.loop-operation.own.left c.read_operation.new.r.left byte h.turns c.requires read h.enough in
    let same : c.read_operation.new.r.words ≡ words = c.in_ok-operation.ensures.reads.words ∙ h.words in
    let fault = rw same at c.in_err-read_next_command.ensures.value in
    let not_nop : (byte == 1) ≡ false = grind (arith, nat_tests) in
    let here : (byte == c.args.command) ≡ true = grind (arith, nat_tests) in
    rw (p.1, p.2) (record {
      value = sym (row_command_fault words c.args.command c.loop-operation.commands c.loop-operation.own.left c.read_operation.new.r.left byte h.turns one.left read one.is _ not_nop here fault) ∙ h.reads;
      words = ap (λ (reader : Reading). reader.words) c.loop-operation.invariant.same;
      place = ap (λ (reader : Reading). reader.place + length reader.left) c.loop-operation.invariant.same;
    })
