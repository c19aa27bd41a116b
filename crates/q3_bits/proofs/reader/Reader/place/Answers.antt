use Rattle.std.proofs.Common.{arith}
use Rattle.q3_bits.proofs.Gathered.{length-ahead}
use Rattle.q3_bits.proofs.reader.Reader.place.Goals as goal

pub overflow_sub-result : goal.overflow_sub-result
overflow_sub-result c =
    let a = c.self.inside.ahead in
    omega (arith, length-ahead a.count a.bits a.rest.now, c.self.invariant.total)

pub overflow_sub-result-2 : goal.overflow_sub-result-2
overflow_sub-result-2 c =
    let a = c.self.inside.ahead in
    omega (arith, length-ahead a.count a.bits a.rest.now, c.self.invariant.total)

pub overflow_mul-result : goal.overflow_mul-result
overflow_mul-result c =
    let a = c.self.inside.ahead in
    let place = rw (← c.self.view_is) at c.requires in
    omega (arith, place, length-ahead a.count a.bits a.rest.now, c.self.invariant.total)

pub overflow_add-result : goal.overflow_add-result
overflow_add-result c =
    let a = c.self.inside.ahead in
    let place = rw (← c.self.view_is) at c.requires in
    omega (arith, place, length-ahead a.count a.bits a.rest.now, c.self.invariant.total)

pub returns : goal.returns
returns c =
    let a = c.self.inside.ahead in
    rw (← c.self.view_is) (omega (arith, length-ahead a.count a.bits a.rest.now, c.self.invariant.total))
