use Rattle.q3_bits.specs.Words.{field_bits}
use Rattle.q3_fields.specs.Kinds.{end_mark}
use Rattle.q3_entity.proofs.list_writing.write_end.Goals as goal

pub returns : goal.returns
returns c =
    let table = c.args.table.now in
    let gone = rw c.end-end.ensures.mark at c.in_ok-write_gone.ensures.writes in
    let mark = rw (c.from.ensures, c.from-2.ensures, c.bits.ensures.bits, c.end-end.ensures.mark) at c.put.ensures.writes in
    c.texts_are_written.ensures.next (λ ws. field_bits ws table.number_bits (end_mark table)) gone mark
