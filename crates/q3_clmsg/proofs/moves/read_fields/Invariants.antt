use Rattle.std.proofs.Common.{drop}
use Rattle.q3_bits.specs.InPlace.{HasRead}
use Rattle.q3_clmsg.specs.Moves.{AreFields, move_widths, fields_at}
use Rattle.q3_clmsg.proofs.moves.read_fields.Given as goal

-- so many fields were read, and each fits
abbrev pub invariant-loop-k : goal.invariant-loop-k
invariant-loop-k l = record {
  read :
      HasRead l.fn.r l.r l.k l.fn.fields l.fields (fields_at l.fn.r.words l.key (drop l.k move_widths) (drop l.k l.fn.fields) l.r.left)
      (fields_at l.fn.r.words l.key move_widths l.fn.fields l.fn.r.left);
  fit : AreFields move_widths l.fields;
}
