use Rattle.std.proofs.Common.{refl, ◌≡◌, ◌+◌, ◌-◌, ◌∙◌, suc, ℕ, ap, arith}
use Rattle.std.proofs.lemmas.Result.{err_from_is_err_and}
use Rattle.std.proofs.lemmas.List.{append-nil}
use Rattle.q3_strings.specs.Reading.{string_bytes_at}
use Rattle.q3_strings.proofs.Fronts.{front_more, front_stops, front_ends, bytes_none, bytes_more, bytes_fault}
use Rattle.q3_strings.proofs.reading.read_bytes.Goals as goal

pub returns-in_err-get_byte : goal.returns-in_err-get_byte
returns-in_err-get_byte g c =
    let p = err_from_is_err_and c.from_residual.result c.from_residual.ensures.1 in
    let h = c.loop.invariant.reads in
    let words = c.args.r.now.words in
    let one : c.args.count - c.loop.counter ≡ suc (c.args.count - (c.loop.counter + 1)) = omega arith in
    let fault = ap (λ (n : ℕ). string_bytes_at words n c.loop.own.left) one ∙ bytes_fault words c.loop.own.words _ c.loop.own.left c.in_err-get_byte.field-0.0 h.words c.in_err-get_byte.ensures.reads.value in
    rw (p.1, p.2) (record {
      value = front_stops _ _ _ _ _ _ h fault;
      words = refl;
      place = refl;
    })

pub loop-preserved : goal.loop-preserved
loop-preserved g c =
    let h = c.loop.invariant.reads in
    let words = c.args.r.now.words in
    let one : c.args.count - c.loop.counter ≡ suc (c.args.count - (c.loop.counter + 1)) = omega arith in
    let more = ap (λ (n : ℕ). string_bytes_at words n c.loop.own.left) one ∙ bytes_more words c.loop.own.words _ c.loop.own.left c.in_ok-get_byte.field-0 c.get_byte.new.self.left h.words c.in_ok-get_byte.ensures.reads.value in
    record {
      count = omega (arith, c.push.ensures.len, c.loop.invariant.count);
      reads = rw c.push.ensures.items (front_more _ _ _ _ _ _ _ _ h c.in_ok-get_byte.ensures.reads.words c.in_ok-get_byte.ensures.reads.place more);
    }

pub returns : goal.returns
returns g c =
    let h = c.loop.invariant.reads in
    let words = c.args.r.now.words in
    let none : c.args.count - c.loop.counter ≡ 0 = omega arith in
    let end = ap (λ (n : ℕ). string_bytes_at words n c.loop.own.left) none ∙ bytes_none words c.loop.own.left in
    record {
      value = rw append-nil at (front_ends _ _ _ _ _ _ h end);
      words = h.words;
      place = h.place;
    }
