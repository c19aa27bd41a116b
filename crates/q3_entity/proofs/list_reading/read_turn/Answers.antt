use Rattle.std.proofs.Common.{◌^◌, ◌+◌, ap, arith}
use Rattle.q3_entity.specs.Entities.{run_of}
use Rattle.q3_entity.proofs.Risen.{rise-lower, is_taken}
use Rattle.q3_entity.proofs.list_reading.read_turn.Goals as goal

pub read_next-requires-clause-rise : goal.read_next-requires-clause-rise
read_next-requires-clause-rise c =
    let number = c.args.cursor.next in
    let later = (is_taken (2 ^ 16) number (run_of c.args.cursor.base) c.requires.rise).rise in
    let others = ap (λ (p : _). p.1) c.take_number.ensures in
    rw others (rise-lower (2 ^ 16) (number + 1) 0 _ (omega arith) later)
