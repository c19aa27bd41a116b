use Rattle.std.proofs.Common.{◌≡◌, ◌^◌, ◌<◌, take}
use Rattle.q3_player.specs.Arrays.{changes, mask_of}
use Rattle.q3_player.proofs.writing.changed_mask.Given as goal

-- the mask of so many places
abbrev pub invariant-loop-k : goal.invariant-loop-k
invariant-loop-k l = record {
  is : l.mask ≡ mask_of (changes (take l.k l.from) (take l.k l.to));
  few : l.mask < 2 ^ l.k;
}
