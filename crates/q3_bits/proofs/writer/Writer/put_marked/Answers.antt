use Rattle.std.proofs.Common.{◌%◌, Bool, List, subst, arith}
use Rattle.std.proofs.lemmas.Nat.{one_shl}
use Rattle.q3_bits.specs.Streams.{Writes}
use Rattle.q3_bits.proofs.Written.{marked-put, marked-fits}
use Rattle.q3_bits.proofs.writer.Writer.put_marked.Goals as goal

pub put_words-requires-clause-fits : goal.put_words-requires-clause-fits
put_words-requires-clause-fits c =
    let raw = one_shl (c.args.width % 8) 32 (omega arith) in
    let mark = one_shl c.args.count 32 (omega (arith, c.requires.short)) in
    let fits = marked-fits c.args.mark c.args.count (c.args.width % 8) c.args.value c.requires.short (omega arith) in
    rw (raw, mark, fits.0) fits.1

pub returns-clause-writes : goal.returns-clause-writes
returns-clause-writes c =
    let s = c.args.self.now in
    let raw = one_shl (c.args.width % 8) 32 (omega arith) in
    let mark = one_shl c.args.count 32 (omega (arith, c.requires.short)) in
    let fits = marked-fits c.args.mark c.args.count (c.args.width % 8) c.args.value c.requires.short (omega arith) in
    let writes = rw (raw, mark, fits.0) at c.put_words.ensures.writes in
    subst (λ (text : List Bool). Writes s c.put_words.new.self text c.put_words.result) (marked-put s.words c.args.mark c.args.count c.args.width c.args.value (omega (arith, c.requires.short))) writes
