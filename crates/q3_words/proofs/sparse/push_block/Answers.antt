use Rattle.std.proofs.Common.{◌≡◌, sym, replicate}
use Rattle.std.proofs.lemmas.List.{append-nil}
use Rattle.q3_words.proofs.Placed.{changes-none}
use Rattle.q3_words.proofs.sparse.push_block.Goals as goal

pub returns-then-agree : goal.returns-then-agree
returns-then-agree c =
    let zeros : c.args.block.now ≡ replicate 8 0 = c.agree.ensures.0 c.if-agree.true in
    rw (changes-none c.args.first 8 c.args.block.now zeros) (sym (append-nil c.args.kept.now.items))
