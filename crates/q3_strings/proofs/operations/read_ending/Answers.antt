use Rattle.std.proofs.Common.{◌≡◌, ◌∙◌, ◌==◌, true, false, sym, arith}
use Rattle.std.proofs.lemmas.Result.{err_from_is_err_and}
use Rattle.std.proofs.lemmas.Bool.Decides.{nat_tests}
use Rattle.q3_strings.proofs.OperationTurns.{ending_fault, ending_done, ending_nop, ending_bad}
use Rattle.q3_strings.proofs.operations.read_ending.Goals as goal

pub returns-in_err-operation : goal.returns-in_err-operation
returns-in_err-operation c =
    let p = err_from_is_err_and c.from_residual.result c.from_residual.ensures.1 in
    let h = c.loop-operation.invariant in
    let words = c.args.r.now.words in
    let read = rw h.words at c.in_err-operation.ensures.reads.value in
    rw (p.1, p.2) (record {
      value = sym (ending_fault words c.args.end c.turns_are_taken.ensures c.requires c.loop-operation.r.left c.in_err-operation.field-0.0 h.turns read h.enough) ∙ h.reads;
      words = c.in_err-operation.ensures.reads.words ∙ h.words;
      place = c.in_err-operation.ensures.reads.place ∙ h.place;
    })

pub loop-operation-smaller : goal.loop-operation-smaller
loop-operation-smaller c =
    let h = c.loop-operation.invariant in
    let read = rw h.words at c.in_ok-operation.ensures.reads.value in
    c.turns_are_taken.ensures.shorter c.args.r.now.words c.loop-operation.r.left c.read_operation.new.r.left c.in_ok-operation.operation c.requires (sym read)

pub loop-operation-preserved : goal.loop-operation-preserved
loop-operation-preserved c =
    let h = c.loop-operation.invariant in
    let words = c.args.r.now.words in
    let byte = c.in_ok-operation.operation in
    let read = rw h.words at c.in_ok-operation.ensures.reads.value in
    let one = c.turns_are_taken.ensures.turn words c.loop-operation.r.left c.read_operation.new.r.left byte h.turns c.requires read h.enough in
    let not_end : (byte == c.args.end) ≡ false = grind (arith, nat_tests) in
    let nop : (byte == 1) ≡ true = grind (arith, nat_tests) in
    record {
      words = c.in_ok-operation.ensures.reads.words ∙ h.words;
      place = c.in_ok-operation.ensures.reads.place ∙ h.place;
      turns = one.left;
      enough = one.enough;
      reads = sym (ending_nop words c.args.end c.loop-operation.r.left c.read_operation.new.r.left byte h.turns one.left read one.is not_end nop) ∙ h.reads;
    }

pub returns-then-operation-end : goal.returns-then-operation-end
returns-then-operation-end c =
    let h = c.loop-operation.invariant in
    let words = c.args.r.now.words in
    let byte = c.in_ok-operation.operation in
    let read = rw h.words at c.in_ok-operation.ensures.reads.value in
    let one = c.turns_are_taken.ensures.turn words c.loop-operation.r.left c.read_operation.new.r.left byte h.turns c.requires read h.enough in
    let here : (byte == c.args.end) ≡ true = grind (arith, nat_tests) in
    record {
      value = sym (ending_done words c.args.end c.loop-operation.r.left c.read_operation.new.r.left byte h.turns one.left read one.is here) ∙ h.reads;
      words = c.in_ok-operation.ensures.reads.words ∙ h.words;
      place = c.in_ok-operation.ensures.reads.place ∙ h.place;
    }

pub returns-then-operation-ne-NOP : goal.returns-then-operation-ne-NOP
returns-then-operation-ne-NOP c =
    let h = c.loop-operation.invariant in
    let words = c.args.r.now.words in
    let byte = c.in_ok-operation.operation in
    let read = rw h.words at c.in_ok-operation.ensures.reads.value in
    let one = c.turns_are_taken.ensures.turn words c.loop-operation.r.left c.read_operation.new.r.left byte h.turns c.requires read h.enough in
    let not_end : (byte == c.args.end) ≡ false = grind (arith, nat_tests) in
    let not_nop : (byte == 1) ≡ false = grind (arith, nat_tests) in
    record {
      value = sym (ending_bad words c.args.end c.loop-operation.r.left c.read_operation.new.r.left byte h.turns one.left read one.is not_end not_nop) ∙ h.reads;
      words = c.in_ok-operation.ensures.reads.words ∙ h.words;
      place = c.in_ok-operation.ensures.reads.place ∙ h.place;
    }
