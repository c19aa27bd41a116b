use Rattle.std.proofs.Common.{◌≤◌, length, arith}
use Rattle.std.proofs.lemmas.List.{length-take, length-append}
use Rattle.q3_chan.proofs.sender.put_piece.Goals as goal

pub overflow_cast-piece : goal.overflow_cast-piece
overflow_cast-piece c = rw c.piece_of-piece.ensures (simp length-take (omega arith))

pub put_bytes-requires : goal.put_bytes-requires
put_bytes-requires c =
    let short : length c.piece_of-piece.result.now ≤ 1300 = rw c.piece_of-piece.ensures (simp length-take (omega arith)) in
    rw (c.put_short-2.ensures, c.put_short.ensures) (simp length-append (omega arith))
