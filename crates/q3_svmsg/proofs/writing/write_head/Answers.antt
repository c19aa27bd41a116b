use Rattle.q3_strings.specs.Texts.{bytes_row}
use Rattle.q3_svmsg.proofs.writing.write_head.Goals as goal

pub returns : goal.returns
returns c =
    let fields = rw (c.distance.ensures, c.from.ensures, c.len.ensures.value) at c.in_ok-put_all.ensures in
    let area = rw c.deref.ensures.0 at c.write_bytes.ensures in
    c.texts_are_written.ensures.next (λ ws. bytes_row ws c.args.head.now.area.items) fields area
