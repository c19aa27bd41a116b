use Rattle.std.proofs.Common.{◌≡◌, ◌+◌, ◌-◌, ◌∙◌, suc, ℕ, ap, arith}
use Rattle.std.proofs.lemmas.Result.{err_from_is_err_and}
use Rattle.std.proofs.lemmas.List.{append-nil}
use Rattle.q3_clmsg.specs.Moves.{moves_at}
use Rattle.q3_clmsg.proofs.Fronts.{front_more, front_stops, front_ends}
use Rattle.q3_clmsg.proofs.MoveRows.{moves_none, moves_more, moves_fault}
use Rattle.q3_clmsg.proofs.moves.read_moves.Goals as goal

pub returns-in_err-from : goal.returns-in_err-from
returns-in_err-from c =
    let p = err_from_is_err_and c.from_residual.result c.from_residual.ensures.1 in
    let h = c.loop.invariant.reads in
    let words = c.args.r.now.words in
    let key = c.args.key in
    let from = c.loop.from in
    let one : c.args.count - c.loop.counter ≡ suc (c.args.count - (c.loop.counter + 1)) = omega arith in
    let fault = ap (λ (n : ℕ). moves_at words key n from c.loop.r.left) one ∙ moves_fault words c.loop.r.words key _ from c.loop.r.left c.in_err-from.field-0.0 h.words c.in_err-from.ensures.value in
    rw (p.1, p.2) (record {
      value = front_stops _ _ _ _ _ _ h fault;
      words = c.in_err-from.ensures.words ∙ h.words;
      place = c.in_err-from.ensures.place ∙ h.place;
    })

pub loop-preserved : goal.loop-preserved
loop-preserved c =
    let h = c.loop.invariant.reads in
    let words = c.args.r.now.words in
    let key = c.args.key in
    let from = c.loop.from in
    let one : c.args.count - c.loop.counter ≡ suc (c.args.count - (c.loop.counter + 1)) = omega arith in
    let more = ap (λ (n : ℕ). moves_at words key n from c.loop.r.left) one ∙ moves_more words c.loop.r.words key _ from c.in_ok-from.from c.loop.r.left c.read_move.new.r.left h.words c.in_ok-from.ensures.value in
    record {
      count = omega (arith, c.push.ensures.len, c.loop.invariant.count);
      reads = rw c.push.ensures.items (front_more _ _ _ _ _ _ _ _ h c.in_ok-from.ensures.words c.in_ok-from.ensures.place more);
    }

pub returns : goal.returns
returns c =
    let h = c.loop.invariant.reads in
    let words = c.args.r.now.words in
    let none : c.args.count - c.loop.counter ≡ 0 = omega arith in
    let end = ap (λ (n : ℕ). moves_at words c.args.key n c.loop.from c.loop.r.left) none ∙ moves_none words c.args.key c.loop.from c.loop.r.left in
    record {
      value = rw append-nil at (front_ends _ _ _ _ _ _ h end);
      words = h.words;
      place = h.place;
    }
