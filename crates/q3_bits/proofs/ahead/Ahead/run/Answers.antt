use Rattle.std.proofs.Common.{◌∙◌, ap, sym, arith}
use Rattle.q3_bits.specs.Bits.{bits_of}
use Rattle.q3_bits.proofs.CodeText.{answer}
use Rattle.q3_bits.proofs.Gathered.{drop-gathered}
use Rattle.q3_bits.proofs.Runs.{run-found, run-none}
use Rattle.q3_bits.proofs.ahead.Ahead.run.Goals as goal

pub returns-then-length-self-clause-none : goal.returns-then-length-self-clause-none
returns-then-length-self-clause-none c = λ short full.
    let a = c.args.self in
    run-none c.args.limit a.count a.bits a.rest.now a.few (omega (arith, c.min-length.ensures, c.if-length-self.true)) short full

pub returns-clause-found : goal.returns-clause-found
returns-clause-found c =
    let a = c.args.self in
    let z = c.min-zeros.result in
    let l = c.min-length.result in
    run-found c.args.limit a.count 64 a.bits z l (bits_of a.rest.now) (omega (arith, a.few)) c.min-zeros.ensures c.min-length.ensures c.if-length-self.false
    ∙ ap (answer z) (sym (drop-gathered l a.count a.bits (bits_of a.rest.now) c.if-length-self.false))
