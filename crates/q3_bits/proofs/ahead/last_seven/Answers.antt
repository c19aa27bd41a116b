use Rattle.std.proofs.Common.{◌≡◌, ◌∙◌, List, ℕ, take, drop, ap, arith}
use Rattle.q3_bits.specs.Bits.{bits_of, number_of}
use Rattle.q3_bits.proofs.Windows.{gathered-halves, after_four}
use Rattle.q3_bits.proofs.ahead.last_seven.Goals as goal

pub returns : goal.returns
returns c =
    let xs = c.args.bytes.now in
    let high : c.first_four-high.result ≡ number_of (take 32 (bits_of (drop 4 xs))) = c.first_four-high.ensures ∙ ap (λ (l : List ℕ). number_of (take 32 (bits_of l))) (c.bytes_after.ensures ∙ ap (λ (n : ℕ). drop n xs) c.min.ensures ∙ after_four xs) in
    omega (arith, gathered-halves xs, high, c.first_four.ensures, c.from.ensures, c.from-2.ensures, c.first_four-high.type_inv, c.first_four.type_inv)
