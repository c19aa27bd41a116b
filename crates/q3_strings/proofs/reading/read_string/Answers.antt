use Rattle.std.proofs.Common.{length, ◌≡◌, ◌+◌, ◌-◌, ◌<◌, ◌==◌, true, eq-eqb, ◌∙◌, suc, ℕ, ap, arith}
use Rattle.std.proofs.lemmas.Result.{err_from_is_err_and}
use Rattle.std.proofs.lemmas.List.{append-nil}
use Rattle.std.proofs.lemmas.List.Elements.{All-push}
use Rattle.q3_bits.specs.Streams.{Reading}
use Rattle.q3_text.specs.Texts.{translated, IsTextByte}
use Rattle.q3_strings.specs.Reading.{bounded_string_at}
use Rattle.q3_strings.proofs.Fronts.{isnt_zero, translated_is_text, front_more, front_stops, front_ends, string_end, string_more, string_fault, string_long}
use Rattle.q3_strings.proofs.reading.read_string.Goals as goal

pub returns-in_err-byte-clause-reads : goal.returns-in_err-byte-clause-reads
returns-in_err-byte-clause-reads g c =
    let p = err_from_is_err_and c.from_residual.result c.from_residual.ensures.1 in
    let h = c.loop.invariant.reads in
    let words = c.args.r.now.words in
    let fault = string_fault words c.loop.own.words (g.row.N - c.loop.counter) c.loop.own.left c.in_err-byte.field-0.0 h.words c.in_err-byte.ensures.reads.value in
    rw (p.1, p.2) (record {
      value = front_stops _ _ _ _ _ _ h fault;
      words = ap (λ (reader : Reading). reader.words) c.loop.invariant.same;
      place = ap (λ (reader : Reading). reader.place + length reader.left) c.loop.invariant.same;
    })

pub returns-then-byte-eq0-clause-reads : goal.returns-then-byte-eq0-clause-reads
returns-then-byte-eq0-clause-reads g c =
    let h = c.loop.invariant.reads in
    let words = c.args.r.now.words in
    let none : (c.in_ok-byte.byte == 0) ≡ true = eq-eqb c.in_ok-byte.byte 0 c.if-byte-eq0.true in
    let end = string_end words c.loop.own.words (g.row.N - c.loop.counter) c.loop.own.left c.in_ok-byte.byte c.get_byte.new.self.left h.words c.in_ok-byte.ensures.reads.value none in
    record {
      value = rw append-nil at (front_ends _ _ _ _ _ _ h end);
      words = c.in_ok-byte.ensures.reads.words ∙ h.words;
      place = c.in_ok-byte.ensures.reads.place ∙ h.place;
    }

pub loop-preserved : goal.loop-preserved
loop-preserved g c =
    let h = c.loop.invariant.reads in
    let words = c.args.r.now.words in
    let byte = c.in_ok-byte.byte in
    let some : 0 < byte = omega (arith, c.if-byte-eq0.false) in
    let one : g.row.N - c.loop.counter ≡ suc (g.row.N - (c.loop.counter + 1)) = omega arith in
    let more = ap (λ (n : ℕ). bounded_string_at words n c.loop.own.left) one
    ∙ string_more words c.loop.own.words (g.row.N - (c.loop.counter + 1)) c.loop.own.left byte c.get_byte.new.self.left h.words c.in_ok-byte.ensures.reads.value (isnt_zero byte some) in
    record {
      same = c.loop.invariant.same;
      count = omega (arith, c.push.ensures.len, c.loop.invariant.count);
      each = rw (c.push.ensures.items, c.translate.ensures) (All-push IsTextByte c.loop.into.items (translated byte) c.loop.invariant.each (translated_is_text byte some));
      reads = rw (c.push.ensures.items, c.translate.ensures) (front_more _ _ _ _ _ _ _ _ h c.in_ok-byte.ensures.reads.words c.in_ok-byte.ensures.reads.place more);
    }

pub returns-in_err-get_byte-clause-reads : goal.returns-in_err-get_byte-clause-reads
returns-in_err-get_byte-clause-reads g c =
    let p = err_from_is_err_and c.from_residual-in_err-get_byte.result c.from_residual-in_err-get_byte.ensures.1 in
    let h = c.loop.invariant.reads in
    let words = c.args.r.now.words in
    let fault = string_fault words c.loop.own.words (g.row.N - c.loop.counter) c.loop.own.left c.in_err-get_byte.field-0.0 h.words c.in_err-get_byte.ensures.reads.value in
    rw (p.1, p.2) (record {
      value = front_stops _ _ _ _ _ _ h fault;
      words = ap (λ (reader : Reading). reader.words) c.loop.invariant.same;
      place = ap (λ (reader : Reading). reader.place + length reader.left) c.loop.invariant.same;
    })

pub returns-then-branch-ne0-clause-reads : goal.returns-then-branch-ne0-clause-reads
returns-then-branch-ne0-clause-reads g c =
    let h = c.loop.invariant.reads in
    let words = c.args.r.now.words in
    let byte = c.in_ok-get_byte.field-0 in
    let none : g.row.N - c.loop.counter ≡ 0 = omega arith in
    let some : 0 < byte = omega (arith, c.if-branch-ne0.true) in
    let long = ap (λ (n : ℕ). bounded_string_at words n c.loop.own.left) none ∙ string_long words c.loop.own.words c.loop.own.left byte c.get_byte-2.new.self.left h.words c.in_ok-get_byte.ensures.reads.value (isnt_zero byte some) in
    record {
      value = front_stops _ _ _ _ _ _ h long;
      words = ap (λ (reader : Reading). reader.words) c.loop.invariant.same;
      place = ap (λ (reader : Reading). reader.place + length reader.left) c.loop.invariant.same;
    }

pub returns-clause-reads : goal.returns-clause-reads
returns-clause-reads g c =
    let h = c.loop.invariant.reads in
    let words = c.args.r.now.words in
    let byte = c.in_ok-get_byte.field-0 in
    let zero : byte ≡ 0 = omega (arith, c.if-branch-ne0.false) in
    let end = string_end words c.loop.own.words (g.row.N - c.loop.counter) c.loop.own.left byte c.get_byte-2.new.self.left h.words c.in_ok-get_byte.ensures.reads.value (eq-eqb byte 0 zero) in
    record {
      value = rw append-nil at (front_ends _ _ _ _ _ _ h end);
      words = c.in_ok-get_byte.ensures.reads.words ∙ h.words;
      place = c.in_ok-get_byte.ensures.reads.place ∙ h.place;
    }
