-- Steps that did not fail.
use Rattle.std.proofs.Common.{◌≡◌, Bool, List, Result, Ok, Err, ap}
use Rattle.q3_bits.specs.declared.reader.ReadError.{ReadError}
use Rattle.q3_fields.specs.Deltas.{bits_read}

-- a read of bits that did not fail
pub bits_ok : {A : Type 0} (r : Result A ReadError) (x : A) → bits_read r ≡ Ok x → r ≡ Ok x
bits_ok (Ok y) x e = cc
bits_ok (Err d) x e = absurd cc

-- an answer of a reader
abbrev answer : {A : Type 0} → A → List Bool → Result (A × List Bool) ReadError
answer x rest = Ok (x, rest)

-- the parts of an answer
pub answer_parts : {A : Type 0} (x x' : A) (rest rest' : List Bool) → answer x rest ≡ answer x' rest' → (x ≡ x') × (rest ≡ rest')
answer_parts {A = A} x x' rest rest' e =
    let whole : (λ (p : A × List Bool). p) (x, rest) ≡ (x', rest') = cc in
    (ap (λ (p : A × List Bool). p.0) whole, ap (λ (p : A × List Bool). p.1) whole)
