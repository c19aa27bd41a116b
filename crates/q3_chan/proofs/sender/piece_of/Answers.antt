use Rattle.std.proofs.Common.{◌-◌, ◌*◌, ◌∙◌, ℕ, List, length, take, drop, ap}
use Rattle.std.proofs.Math.Nat.{min_comm}
use Rattle.std.proofs.lemmas.List.{take_min, take_rest}
use Rattle.q3_chan.proofs.sender.piece_of.Goals as goal

pub returns : goal.returns
returns c =
    let after : List ℕ = take (length c.args.message.now - 1300 * c.args.index) (drop (1300 * c.args.index) c.args.message.now) in
    ap (λ (n : ℕ). take n after) (c.min.ensures ∙ min_comm (length after) 1300)
    ∙ take_min 1300 after
    ∙ ap (take 1300) (take_rest c.args.message.now (1300 * c.args.index))
