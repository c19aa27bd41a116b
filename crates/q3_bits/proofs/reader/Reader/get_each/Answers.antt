use Rattle.std.proofs.Common.{◌%◌, ◌∙◌, refl, sym, ap, length, arith}
use Rattle.std.proofs.lemmas.Result.{err_from_is_err_and}
use Rattle.q3_bits.specs.Unread.{bits_ahead}
use Rattle.q3_bits.specs.Words.{raw_at}
use Rattle.q3_bits.proofs.CodeText.{field_no_raw, field_no_bytes, field_found, field_shifted}
use Rattle.q3_bits.proofs.reader.Reader.get_each.Goals as goal

pub returns-in_err-low-clause-reads : goal.returns-in_err-low-clause-reads
returns-in_err-low-clause-reads c =
    let p = err_from_is_err_and c.from_residual.result c.from_residual.ensures.1 in
    let raw = ap (raw_at (c.args.width % 8)) (sym c.ready.ensures.bits) ∙ sym c.in_err-low.ensures.bits in
    rw (← c.self.view_is) (record {
      value = rw (p.1, p.2) (sym (field_no_raw c.self.inside.code.now c.args.width (bits_ahead c.self.inside.ahead) c.in_err-low.field-0.0 raw));
      words = refl;
      place = refl;
    })

pub returns-in_err-high-clause-reads : goal.returns-in_err-high-clause-reads
returns-in_err-high-clause-reads c =
    let p = err_from_is_err_and c.from_residual-in_err-high.result c.from_residual-in_err-high.ensures.1 in
    let raw = ap (raw_at (c.args.width % 8)) (sym c.ready.ensures.bits) ∙ sym c.in_ok-low.ensures.bits in
    rw (← c.self.view_is) (record {
      value = rw (p.1, p.2) (sym (field_no_bytes c.self.inside.code.now c.args.width (bits_ahead c.self.inside.ahead) (c.in_ok-low.low, bits_ahead c.in_ok-low.ahead) c.in_err-high.field-0.0 raw (sym c.in_err-high.ensures.bytes_at)));
      words = refl;
      place = refl;
    })

pub overflow_add-result : goal.overflow_add-result
overflow_add-result c =
    let fits = field_shifted c.in_ok-low.low c.in_ok-high.high c.args.width c.requires.most c.in_ok-low.ensures.fits c.in_ok-high.ensures.fits in
    omega (arith, fits.1, fits.2)

pub returns-clause-reads : goal.returns-clause-reads
returns-clause-reads c =
    let fits = field_shifted c.in_ok-low.low c.in_ok-high.high c.args.width c.requires.most c.in_ok-low.ensures.fits c.in_ok-high.ensures.fits in
    let raw = ap (raw_at (c.args.width % 8)) (sym c.ready.ensures.bits) ∙ sym c.in_ok-low.ensures.bits in
    rw (← c.self.view_is) (record {
      value = rw fits.0 (sym (field_found c.self.inside.code.now c.args.width (bits_ahead c.self.inside.ahead) (c.in_ok-low.low, bits_ahead c.in_ok-low.ahead) (c.in_ok-high.high, bits_ahead c.in_ok-high.ahead) raw (sym c.in_ok-high.ensures.bytes_at)));
      words = refl;
      place = omega (arith, c.self.invariant.total, ap length c.ready.ensures.bits, c.in_ok-low.ensures.most, c.in_ok-high.ensures.most);
    })

pub returns-clause-fits : goal.returns-clause-fits
returns-clause-fits c =
    (field_shifted c.in_ok-low.low c.in_ok-high.high c.args.width c.requires.most c.in_ok-low.ensures.fits c.in_ok-high.ensures.fits).1
