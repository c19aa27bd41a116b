use Rattle.std.proofs.Common.{◌∙◌, ℕ, List, ap}
use Rattle.q3_chan.specs.Scrambling.{scrambled}
use Rattle.q3_chan.proofs.Keys.{repeats_scrambled}
use Rattle.q3_chan.proofs.scrambling.add_short.Goals as goal

pub returns : goal.returns
returns c =
    let all = c.copies-copies.result.items in
    c.add_text.ensures ∙ ap (λ (t : List ℕ). scrambled c.args.from c.args.start t c.args.bytes.now) c.deref.ensures.0
    ∙ repeats_scrambled c.args.from c.args.start c.args.text.now all c.args.bytes.now c.requires.some c.copies-copies.ensures
