use Rattle.std.proofs.Common.{◌≡◌, ◌+◌, ◌*◌, ℕ, get_or, sym, ap, ◌∙◌, arith}
use Rattle.q3_bits.specs.Words.{field_bits}
use Rattle.q3_strings.specs.Texts.{bytes_row}
use Rattle.q3_strings.proofs.Rows.{four-bytes, four-front}
use Rattle.q3_strings.proofs.writing.four_at.Goals as goal

pub returns : goal.returns
returns c = λ words.
    let bytes = c.args.bytes.now in
    let place = c.args.place in
    let at : ℕ → ℕ = λ i. get_or bytes (place + i) 0 in
    let a = get_or bytes place 0 in
    let n : c.from_le_bytes.result ≡ a + 256 * at 1 + 65536 * at 2 + 16777216 * at 3 = omega (arith, c.from_le_bytes.ensures) in
    ap (field_bits words 32) n
    ∙ four-bytes words a (at 1) (at 2) (at 3) (omega (arith, c.type_inv.bytes place)) (omega (arith, c.type_inv.bytes (place + 1))) (omega (arith, c.type_inv.bytes (place + 2))) (omega (arith, c.type_inv.bytes (place + 3)))
    ∙ ap (bytes_row words) (sym (four-front bytes place c.requires))
