use Rattle.std.proofs.Common.{◌+◌, eqb}
use Rattle.std.proofs.lemmas.List.{take_rest}
use Rattle.q3_text.proofs.Places.{parts_at, one_part}
use Rattle.q3_text.proofs.info.first_part.Goals as goal

pub returns-in-Some-clause-parts : goal.returns-in-Some-clause-parts
returns-in-Some-clause-parts c = rw (take_rest c.args.text.now (c.in-Some.place + 1)) (parts_at (λ byte. eqb byte 92) c.args.text.now c.in-Some.place c.in-Some.ensures)

pub returns-in-None-clause-parts : goal.returns-in-None-clause-parts
returns-in-None-clause-parts c = one_part (λ byte. eqb byte 92) c.args.text.now c.in-None.ensures
