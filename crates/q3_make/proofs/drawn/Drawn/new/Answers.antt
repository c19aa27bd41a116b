use Rattle.std.proofs.Common.{◌++◌, ap, ◌∙◌}
use Rattle.q3_make.specs.Generated.{opening, rest_of}
use Rattle.q3_make.proofs.MadeScripts.{whole_is}
use Rattle.q3_make.proofs.drawn.Drawn.new.Goals as goal

pub returns-clause-rest : goal.returns-clause-rest
returns-clause-rest c = λ number.
    ap (λ (generator : _). opening ++ rest_of number (record { drawn = 0; made = 16; generator = generator })) c.start.ensures ∙ whole_is number c.args.seed
