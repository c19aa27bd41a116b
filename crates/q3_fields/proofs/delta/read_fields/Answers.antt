use Rattle.std.proofs.Common.{◌+◌, ◌≤◌, ◌<◌, ℕ, Bool, List, sym, ap, ◌∙◌, arith, refl}
use Rattle.std.proofs.lemmas.Result.{err_from_is_err_and}
use Rattle.q3_bits.specs.Words.{run_at}
use Rattle.q3_fields.specs.Deltas.{changed_at}
use Rattle.q3_fields.proofs.FieldsRead.{left-kept, left-changed, left-fault, marked-next, marked-fault, fields_at-end}
use Rattle.q3_fields.proofs.delta.read_fields.Goals as goal

pub returns-in_err-same : goal.returns-in_err-same
returns-in_err-same c =
    let p = err_from_is_err_and c.from_residual.result c.from_residual.ensures.1 in
    let so = c.loop-k.invariant.reads in
    let limit = c.min-limit.result in
    let e = c.in_err-same.field-0.0 in
    rw (p.1, p.2) (record {
      value = sym (c.lists_are_read.ensures.stops _ _ _ _ _ _ _ e so
          (left-fault c.marks_are_bits.ensures c.args.state c.args.r.now.words c.args.table.now.kinds c.args.count c.loop-k.k limit c.args.words.now c.loop-k.own.left e
          (omega (arith, c.min-limit.ensures, c.loop-k.invariant.most)) c.requires.in_table (omega (arith, c.requires.few)) (sym c.in_err-same.ensures.reads.value)));
      words = refl;
      place = refl;
    })

pub loop-k-preserved-then-same-limit : goal.loop-k-preserved-then-same-limit
loop-k-preserved-then-same-limit c =
    let so = c.loop-k.invariant.reads in
    let n = c.in_ok-same.field-0 in
    let within : c.loop-k.k + n ≤ c.args.count = omega (arith, c.min-limit.ensures, c.loop-k.invariant.most, c.if-same-limit.true) in
    let read = ap (λ (m : ℕ). run_at m c.loop-k.own.left) c.if-same-limit.true ∙ sym c.in_ok-same.ensures.reads.value in
    record {
      most = within;
      reads = c.lists_are_read.ensures.keep _ _ _ c.loop-k.k n _ _ _ _ _ so (omega (arith, within, c.requires.few)) c.in_ok-same.ensures.reads.words c.in_ok-same.ensures.reads.place
          (left-kept c.marks_are_bits.ensures c.args.state c.args.r.now.words c.args.table.now.kinds c.args.count c.loop-k.k n c.args.words.now c.loop-k.own.left c.get_run.new.self.left within c.requires.in_table (omega (arith, c.requires.few)) read);
    }

pub returns-in_err-words : goal.returns-in_err-words
returns-in_err-words c =
    let p = err_from_is_err_and c.from_residual-in_err-words.result c.from_residual-in_err-words.ensures.1 in
    let so = c.loop-k.invariant.reads in
    let run = c.in_ok-same.ensures.reads in
    let limit = c.min-limit.result in
    let z = c.in_ok-same.field-0 in
    let e = c.in_err-words.field-0.0 in
    let short : z < limit = omega (arith, c.in_ok-same.ensures.most, c.if-same-limit.false) in
    let within : c.loop-k.k + limit ≤ c.args.count = omega (arith, c.min-limit.ensures, c.loop-k.invariant.most) in
    let words = run.words ∙ so.words in
    let here = c.lists_are_read.ensures.keep _ _ _ c.loop-k.k z _ _ _ _ _ so (omega (arith, within, short, c.requires.few)) run.words run.place
    (left-changed c.marks_are_bits.ensures c.args.state c.args.r.now.words c.args.table.now.kinds c.args.count c.loop-k.k limit z c.args.words.now c.loop-k.own.left c.get_run.new.self.left within c.requires.in_table (omega (arith, c.requires.few)) short (sym run.value)) in
    rw (p.1, p.2) (record {
      value = sym (c.lists_are_read.ensures.stops _ _ _ _ _ _ _ e here
          (marked-fault c.args.state c.args.r.now.words c.args.table.now.kinds c.args.count (c.loop-k.k + z) c.kind_at.result c.args.words.now c.get_run.new.self.left e
          (omega (arith, within, short)) c.requires.in_table c.kind_at.ensures.kind (omega (arith, within, short, c.requires.few))
          (c.in_err-words.ensures.value ∙ ap (λ (ws : List (List Bool)). changed_at c.args.state ws c.kind_at.result c.get_run.new.self.left) words)));
      words = refl;
      place = refl;
    })

pub loop-k-preserved : goal.loop-k-preserved
loop-k-preserved c =
    let so = c.loop-k.invariant.reads in
    let run = c.in_ok-same.ensures.reads in
    let limit = c.min-limit.result in
    let z = c.in_ok-same.field-0 in
    let short : z < limit = omega (arith, c.in_ok-same.ensures.most, c.if-same-limit.false) in
    let within : c.loop-k.k + limit ≤ c.args.count = omega (arith, c.min-limit.ensures, c.loop-k.invariant.most) in
    let words = run.words ∙ so.words in
    let here = c.lists_are_read.ensures.keep _ _ _ c.loop-k.k z _ _ _ _ _ so (omega (arith, within, short, c.requires.few)) run.words run.place
    (left-changed c.marks_are_bits.ensures c.args.state c.args.r.now.words c.args.table.now.kinds c.args.count c.loop-k.k limit z c.args.words.now c.loop-k.own.left c.get_run.new.self.left within c.requires.in_table (omega (arith, c.requires.few)) short (sym run.value)) in
    record {
      most = omega (arith, within, short);
      reads = c.lists_are_read.ensures.more _ _ _ _ _ _ _ _ _ _ here (omega (arith, within, short, c.requires.few)) c.in_ok-words.ensures.words c.in_ok-words.ensures.place
          (marked-next c.args.state c.args.r.now.words c.args.table.now.kinds c.args.count (c.loop-k.k + z) c.kind_at.result c.args.words.now _ c.get_run.new.self.left _
          (omega (arith, within, short)) c.requires.in_table c.kind_at.ensures.kind (omega (arith, within, short, c.requires.few))
          (c.in_ok-words.ensures.value ∙ ap (λ (ws : List (List Bool)). changed_at c.args.state ws c.kind_at.result c.get_run.new.self.left) words));
    }

pub returns : goal.returns
returns c = record {
  value = sym (c.lists_are_read.ensures.all _ _ _ _ _ _ _ c.loop-k.invariant.reads
      (fields_at-end c.args.state c.args.r.now.words c.args.table.now.kinds c.args.count c.loop-k.k _ _ c.loop-k-test.false c.requires.in_table));
  words = c.loop-k.invariant.reads.words;
  place = c.loop-k.invariant.reads.place;
}
