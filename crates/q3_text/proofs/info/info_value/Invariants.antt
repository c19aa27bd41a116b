use Rattle.std.proofs.Common.{◌≡◌, option_map}
use Rattle.q3_text.specs.Info.{parts_after, paired, value_in, info_of}
use Rattle.q3_text.proofs.Pairs.{size}
use Rattle.q3_text.proofs.info.info_value.Given as goal

-- no pair so far had the key
abbrev pub invariant-loop-left : goal.invariant-loop-left
invariant-loop-left l = value_in (paired (parts_after (option_map (λ x. x.now) l.left))) l.key ≡ info_of l.text l.key

abbrev pub decreases-loop-left : goal.decreases-loop-left
decreases-loop-left l = size (option_map (λ x. x.now) l.left)
