use Rattle.std.proofs.Common.{sym, ◌∙◌, arith}
use Rattle.std.proofs.lemmas.Result.{err_from_is_err_and}
use Rattle.q3_clmsg.specs.Moves.{move_widths}
use Rattle.q3_clmsg.proofs.Fields.{field_fits, fields_set, fields_at-next, fields_at-fault, fields_at-end}
use Rattle.q3_clmsg.proofs.moves.read_fields.Goals as goal

pub read_field-requires-clause-fits : goal.read_field-requires-clause-fits
read_field-requires-clause-fits c = field_fits move_widths c.loop-k.fields c.loop-k.k c.loop-k.invariant.fit (omega arith) (omega arith)

pub loop-k-preserved : goal.loop-k-preserved
loop-k-preserved c =
    let law = c.lists_are_read.ensures in
    let h = c.loop-k.invariant.read in
    record {
      read = law.more _ _ _ _ _ _ _ _ _ _ h (omega arith) c.in_ok-fields.ensures.reads.words c.in_ok-fields.ensures.reads.place
          (fields_at-next c.args.r.now.words c.loop-k.r.words c.args.key move_widths c.args.fields.now c.loop-k.k _ _ _ _ h.words (omega arith) (omega arith)
          (law.here _ _ _ _ _ _ _ h) c.in_ok-fields.ensures.reads.value);
      fit = fields_set move_widths c.loop-k.fields c.loop-k.k c.in_ok-fields.field-0 c.loop-k.invariant.fit c.in_ok-fields.ensures.fits;
    }

pub returns-in_err-fields-clause-reads : goal.returns-in_err-fields-clause-reads
returns-in_err-fields-clause-reads c =
    let law = c.lists_are_read.ensures in
    let h = c.loop-k.invariant.read in
    let p = err_from_is_err_and c.from_residual.result c.from_residual.ensures.1 in
    rw (p.1, p.2) (record {
      value = sym (law.stops _ _ _ _ _ _ _ c.in_err-fields.field-0.0 h
          (fields_at-fault c.args.r.now.words c.loop-k.r.words c.args.key move_widths c.args.fields.now c.loop-k.k _ _ c.in_err-fields.field-0.0 h.words (omega arith) (omega arith)
          (law.here _ _ _ _ _ _ _ h) c.in_err-fields.ensures.reads.value));
      words = c.in_err-fields.ensures.reads.words ∙ h.words;
      place = c.in_err-fields.ensures.reads.place ∙ h.place;
    })

pub returns-clause-reads : goal.returns-clause-reads
returns-clause-reads c =
    let h = c.loop-k.invariant.read in
    record {
      value = sym (c.lists_are_read.ensures.all _ _ _ _ _ _ _ h
          (fields_at-end c.args.r.now.words c.args.key move_widths c.args.fields.now c.loop-k.k _ (omega arith) (omega arith)));
      words = h.words;
      place = h.place;
    }
