-- Steps that did not fail.
use Rattle.std.proofs.Common.{◌≡◌, ℕ, ◌^◌, ◌<◌, Bool, true, false, cond, List, ◌++◌, Result, Ok, Err, refl, sym, ap, ◌∙◌, append_assoc}
use Rattle.q3_bits.specs.Words.{IsCode, field_bits, field_at}
use Rattle.q3_bits.specs.Laws.{ReadWasPut}
use Rattle.q3_bits.specs.declared.reader.ReadError.{ReadError}
use Rattle.q3_fields.specs.Deltas.{bits_read}

-- a read of bits that did not fail
pub bits_ok : {A : Type 0} (r : Result A ReadError) (x : A) → bits_read r ≡ Ok x → r ≡ Ok x
bits_ok (Ok y) x e = cc
bits_ok (Err d) x e = absurd cc

-- a test that let pass
pub guard_ok : {A E : Type 0} (b : Bool) (d : E) (r : Result A E) (y : A) → cond b (Err d) r ≡ Ok y → (b ≡ false) × (r ≡ Ok y)
guard_ok true d r y e = absurd cc
guard_ok false d r y e = (refl, e)

-- an answer of a reader
abbrev answer : {A : Type 0} → A → List Bool → Result (A × List Bool) ReadError
answer x rest = Ok (x, rest)

-- the parts of an answer
pub answer_parts : {A : Type 0} (x x' : A) (rest rest' : List Bool) → answer x rest ≡ answer x' rest' → (x ≡ x') × (rest ≡ rest')
answer_parts {A = A} x x' rest rest' e =
    let whole : (λ (p : A × List Bool). p) (x, rest) ≡ (x', rest') = cc in
    (ap (λ (p : A × List Bool). p.0) whole, ap (λ (p : A × List Bool). p.1) whole)

-- bits that are read were put
pub bits_were_put : ReadWasPut → (words : List (List Bool)) → IsCode words → (width : ℕ) (bits : List Bool) (found : ℕ × List Bool) → field_at words width bits ≡ Ok found
    → (found.0 < 2 ^ width) × (bits ≡ field_bits words width found.0 ++ found.1)
bits_were_put law words code width bits found e = law words width found.0 bits found.1 code e

-- they are the text of the value, and the rest
pub bits_were : (words : List (List Bool)) (width : ℕ) (bits : List Bool) (found : ℕ × List Bool) (value : ℕ) (rest : List Bool) → bits ≡ field_bits words width found.0 ++ found.1
    → found.0 ≡ value → found.1 ≡ rest → bits ≡ field_bits words width value ++ rest
bits_were words width bits found value rest put is left = rw (← is, ← left) put

-- a text after another, and what follows both
pub after_mark : (bits mark text left rest : List Bool) → bits ≡ mark ++ left → left ≡ text ++ rest → bits ≡ mark ++ text ++ rest
after_mark bits mark text left rest whole part = whole ∙ ap (λ (ys : List Bool). mark ++ ys) part ∙ sym (append_assoc mark text rest)
