use Rattle.std.proofs.Common.{refl}
use Rattle.std.proofs.lemmas.Result.{err_from_is_err_and}
use Rattle.q3_node.proofs.node.run.Goals as goal

pub returns-in_err-bind-clause-ran : goal.returns-in_err-bind-clause-ran
returns-in_err-bind-clause-ran g c =
    let p = err_from_is_err_and c.from_residual-in_err-bind.result c.from_residual-in_err-bind.ensures.1 in
    rw (c.in_err-bind.ensures.bound, p.1, p.2, c.in_err-bind.ensures.only) (tt, refl, rw c.in_err-bind.ensures.told refl)

pub returns-in_err-bind-clause-flushed : goal.returns-in_err-bind-clause-flushed
returns-in_err-bind-clause-flushed g c =
    let p = err_from_is_err_and c.from_residual-in_err-bind.result c.from_residual-in_err-bind.ensures.1 in
    rw (p.1, p.2, c.in_err-bind.ensures.only) (λ nothing. nothing)

pub returns-clause-ran : goal.returns-clause-ran
returns-clause-ran g c = rw c.run_turns.ensures.bound (rw c.in_ok-bind.ensures.told at c.run_turns.ensures.ran)
