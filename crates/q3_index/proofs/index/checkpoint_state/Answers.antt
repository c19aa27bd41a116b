use Rattle.std.proofs.Common.{ℕ, List, take, arith}
use Rattle.std.proofs.lemmas.List.{length-take}
use Rattle.q3_index.proofs.Places.{refused_within}
use Rattle.q3_index.proofs.index.checkpoint_state.Goals as goal

pub overflow_add-result : goal.overflow_add-result
overflow_add-result g c =
    let bytes : List ℕ = take c.in-Ok.count c.deref.result.now in
    let reads = rw c.in-Err-NotState.field-0-is at c.in-Err-NotState.ensures in
    omega (arith, refused_within c.args.profile.now bytes c.in-Err-NotState.place reads, length-take c.in-Ok.count c.deref.result.now, c.in-Ok.ensures.count, c.in_ok-bytes.ensures.len)
