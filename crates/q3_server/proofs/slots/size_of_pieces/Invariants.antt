use Rattle.std.proofs.Common.{◌≡◌, ◌*◌, ◌≤◌}
use Rattle.q3_window.specs.Outgoing.{total_of}
use Rattle.q3_server.proofs.Sizes.{texts_below}
use Rattle.q3_server.proofs.slots.size_of_pieces.Given as goal

-- the bytes of the pieces up to here were counted
abbrev pub invariant-loop-k : goal.invariant-loop-k
invariant-loop-k l = record {
  total : l.bytes ≡ total_of (texts_below l.index l.text l.k);
  few : l.bytes ≤ 1023 * l.k;
}
