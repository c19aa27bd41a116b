-- The spellings of a field: what is written is one of them, and a reader takes each of them and no other text.
use Rattle.std.proofs.Common.{◌≡◌, ℕ, ◌^◌, ◌≤◌, ◌<◌, ◌%◌, Bool, false, cond, eqb, List, ◌++◌, ℤ, pos, Option, Some, None, Result, Ok, refl, sym, ap, ◌∙◌, append_assoc, arith, inl, inr}
use Rattle.std.proofs.lemmas.Bool.{cases_Bool, eqb-true, eqb-false, ne_eqb}
use Rattle.std.proofs.lemmas.Nat.{mod_below, pow_pos}
use Rattle.std.proofs.Math.Pow.{pow_mono}
use Rattle.q3_bits.specs.ResultBind.{◌>>=◌}
use Rattle.q3_bits.proofs.Binds.{bind_ok}
use Rattle.q3_bits.specs.Words.{IsCode, field_bits, field_at}
use Rattle.q3_bits.specs.Laws.{ReadWasPut, PutIsRead}
use Rattle.q3_bits.specs.declared.reader.ReadError.{ReadError}
use Rattle.q3_fields.specs.declared.kind.Kind.{Kind}
use Rattle.q3_fields.specs.declared.kind.Kind.TheVariants.{Float, Unsigned, Signed}
use Rattle.q3_fields.specs.Kinds.{IsKind, norm}
use Rattle.q3_fields.specs.Floats.{pattern, small_float}
use Rattle.q3_fields.specs.Texts.{biased, unbiased, float_bits, player_field, entity_field, float_at, integer_at, player_field_at, entity_field_at}
use Rattle.q3_fields.specs.Spelling.{SpellsFloat, SpellsInteger}
use Rattle.q3_fields.specs.Laws.{IsSmall, PlayerFieldIsSpelled, EntityFieldIsSpelled, PlayerReadIsSpelled, EntityReadIsSpelled, PlayerSpelledIsRead, EntitySpelledIsRead}
use Rattle.q3_fields.proofs.Results.{answer_parts, bits_were_put, bits_were, after_mark}
use Rattle.q3_fields.proofs.FieldBits.{field_bits-cut}
use Rattle.q3_fields.proofs.SmallFloats.{pattern-fits, pattern-no_negative_zero, unbiased-small, unbiased-biased, biased-fits, small_float-some, small_float-within, small_float-negative_zero}
use Rattle.q3_fields.proofs.Normal.{norm-below, norm-twice, norm-zero, norm-float, norm-negative_zero, norm-unsigned_cut, norm-signed_cut}

-- a mark is 0 or 1
mark_is_one : (mark : ℕ) → mark < 2 → eqb mark 0 ≡ false → mark ≡ 1
mark_is_one mark below other = omega (arith, eqb-false mark 0 other)

-- ---- what is written

-- the pattern of a word's number is its normal form
norm-pattern : (word : ℕ) (k : ℤ) → small_float word ≡ Some k → norm Float word ≡ pattern k
unfolding pattern
norm-pattern word k e =
    elim (cases_Bool (eqb word 2147483648)) [
      | inl negative_zero ↦
          let is = eqb-true word 2147483648 negative_zero in
          let none : Some k ≡ Some (pos 0) = sym e ∙ ap small_float is ∙ small_float-negative_zero in
          let zero_number : k ≡ pos 0 = cc in
          rw (is, zero_number) norm-negative_zero
      | inr other ↦ norm-float word other ∙ sym (small_float-some word k (eqb-false word 2147483648 other) e).1
    ]

float_is_spelled : (words : List (List Bool)) (word : ℕ) → word < 4294967296 → SpellsFloat words (norm Float word) (float_bits words word (small_float word))
float_is_spelled words word below = go (small_float word) refl
  where
    go : (o : Option ℤ) → small_float word ≡ o → SpellsFloat words (norm Float word) (float_bits words word o)
    go (Some k) e =
        let small : IsSmall k = small_float-within word k e in
        inl (biased k, biased-fits k small, norm-pattern word k e ∙ ap pattern (sym (unbiased-biased k small)), refl)
    go None e = inr (word, below, refl, refl)

-- an integer is spelled by its low bits
unsigned_is_spelled : (words : List (List Bool)) (width word : ℕ) → SpellsInteger words (Unsigned width) width (norm (Unsigned width) word) (field_bits words width word)
unsigned_is_spelled words width word = (word % 2 ^ width, mod_below word (2 ^ width) (pow_pos width), norm-unsigned_cut width word, sym (field_bits-cut words width word))

signed_is_spelled : (words : List (List Bool)) (width word : ℕ) → SpellsInteger words (Signed width) width (norm (Signed width) word) (field_bits words width word)
signed_is_spelled words width word = (word % 2 ^ width, mod_below word (2 ^ width) (pow_pos width), norm-signed_cut width word, sym (field_bits-cut words width word))

pub player_field_spelled : PlayerFieldIsSpelled
unfolding player_field
player_field_spelled words Float word allowed below = float_is_spelled words word below
player_field_spelled words (Unsigned width) word allowed below = unsigned_is_spelled words width word
player_field_spelled words (Signed width) word allowed below = signed_is_spelled words width word

pub entity_field_spelled : PlayerFieldIsSpelled → EntityFieldIsSpelled
unfolding entity_field
entity_field_spelled player words kind word allowed below =
    elim (cases_Bool (eqb (norm kind word) 0)) [
      | inl none ↦ rw none (inl (eqb-true (norm kind word) 0 none, refl))
      | inr some ↦ rw some (inr (player_field words kind word, player words kind word allowed below, refl))
    ]

-- ---- what is read

-- a word of 32 bits in normal form, spelled by a front of the bits
abbrev WasSpelled : (Kind → ℕ → List Bool → Type 0) → Kind → ℕ → List Bool → List Bool → Type 0
WasSpelled Spells kind word bits rest = (word < 4294967296) × (norm kind word ≡ word) × (text : List Bool) × (bits ≡ text ++ rest) × Spells kind word text

-- how a float goes on after its first bit
abbrev float_after : List (List Bool) → ℕ × List Bool → Result (ℕ × List Bool) ReadError
float_after words full =
    field_at words (cond (eqb full.0 0) 13 32) full.1 >>= λ value. Ok (cond (eqb full.0 0) (pattern (unbiased value.0)) (norm Float value.0), value.1)

float_was_spelled : ReadWasPut → (words : List (List Bool)) (word : ℕ) (bits rest : List Bool) → IsCode words → float_at words bits ≡ Ok (word, rest)
    → WasSpelled (λ kind. SpellsFloat words) Float word bits rest
unfolding float_at
float_was_spelled law words word bits rest code e =
    let full = bind_ok (field_at words 1 bits) (float_after words) (word, rest) e in
    let mark = bits_were_put law words code 1 bits full.0 full.1 in
    elim (cases_Bool (eqb full.0.0 0)) [
      | inl short ↦
          let value = bind_ok (field_at words 13 full.0.1) (λ value. Ok (pattern (unbiased value.0), value.1)) (word, rest) (rw short at full.2) in
          let parts = answer_parts (pattern (unbiased value.0.0)) word value.0.1 rest value.2 in
          let put = bits_were_put law words code 13 full.0.1 value.0 value.1 in
          let small : IsSmall (unbiased value.0.0) = unbiased-small value.0.0 put.0 in
          let left : full.0.1 ≡ field_bits words 13 value.0.0 ++ rest = bits_were words 13 full.0.1 value.0 value.0.0 rest put.1 refl parts.1 in
          let first : bits ≡ field_bits words 1 0 ++ full.0.1 = bits_were words 1 bits full.0 0 full.0.1 mark.1 (eqb-true full.0.0 0 short) refl in (
            rw (← parts.0) (pattern-fits (unbiased value.0.0) small),
            rw (← parts.0) (norm-float (pattern (unbiased value.0.0)) (ne_eqb (pattern (unbiased value.0.0)) 2147483648 (pattern-no_negative_zero (unbiased value.0.0) small))),
            field_bits words 1 0 ++ field_bits words 13 value.0.0,
            after_mark bits (field_bits words 1 0) (field_bits words 13 value.0.0) full.0.1 rest first left,
            inl (value.0.0, put.0, sym parts.0, refl),
          )
      | inr long ↦
          let value = bind_ok (field_at words 32 full.0.1) (λ value. Ok (norm Float value.0, value.1)) (word, rest) (rw long at full.2) in
          let parts = answer_parts (norm Float value.0.0) word value.0.1 rest value.2 in
          let put = bits_were_put law words code 32 full.0.1 value.0 value.1 in
          let left : full.0.1 ≡ field_bits words 32 value.0.0 ++ rest = bits_were words 32 full.0.1 value.0 value.0.0 rest put.1 refl parts.1 in
          let first : bits ≡ field_bits words 1 1 ++ full.0.1 = bits_were words 1 bits full.0 1 full.0.1 mark.1 (mark_is_one full.0.0 mark.0 long) refl in (
            rw (← parts.0) (norm-below Float value.0.0 tt put.0),
            rw (← parts.0) (norm-twice Float value.0.0 tt),
            field_bits words 1 1 ++ field_bits words 32 value.0.0,
            after_mark bits (field_bits words 1 1) (field_bits words 32 value.0.0) full.0.1 rest first left,
            inr (value.0.0, put.0, sym parts.0, refl),
          )
    ]

-- an integer, whose width is at most 32
integer_was_spelled : ReadWasPut → (words : List (List Bool)) (kind : Kind) (width word : ℕ) (bits rest : List Bool) → IsCode words → IsKind kind → width ≤ 32
    → integer_at words kind width bits ≡ Ok (word, rest) → WasSpelled (λ kind. SpellsInteger words kind width) kind word bits rest
integer_was_spelled law words kind width word bits rest code allowed few e =
    let value = bind_ok (field_at words width bits) (λ value. Ok (norm kind value.0, value.1)) (word, rest) e in
    let parts = answer_parts (norm kind value.0.0) word value.0.1 rest value.2 in
    let put = bits_were_put law words code width bits value.0 value.1 in
    let most : 2 ^ width ≤ 2 ^ 32 = pow_mono few in (
      rw (← parts.0) (norm-below kind value.0.0 allowed (omega (arith, put.0))),
      rw (← parts.0) (norm-twice kind value.0.0 allowed),
      field_bits words width value.0.0,
      bits_were words width bits value.0 value.0.0 rest put.1 refl parts.1,
      (value.0.0, put.0, sym parts.0, refl),
    )

-- a signed field has at most 24 bits
signed-few : (width : ℕ) → IsKind (Signed width) → width ≤ 32
signed-few width (inl is) = omega arith
signed-few width (inr (inl is)) = omega arith
signed-few width (inr (inr is)) = omega arith

pub player_read_spelled : ReadWasPut → PlayerReadIsSpelled
unfolding player_field_at
player_read_spelled law words Float word bits rest code allowed e = float_was_spelled law words word bits rest code e
player_read_spelled law words (Unsigned width) word bits rest code allowed e = integer_was_spelled law words (Unsigned width) width word bits rest code allowed allowed.1 e
player_read_spelled law words (Signed width) word bits rest code allowed e = integer_was_spelled law words (Signed width) width word bits rest code allowed (signed-few width allowed) e

pub entity_read_spelled : ReadWasPut → PlayerReadIsSpelled → EntityReadIsSpelled
unfolding entity_field_at
entity_read_spelled law player words kind word bits rest code allowed e =
    let mark = bind_ok (field_at words 1 bits) (λ mark. cond (eqb mark.0 0) (Ok (0, mark.1)) (player_field_at words kind mark.1)) (word, rest) e in
    let put = bits_were_put law words code 1 bits mark.0 mark.1 in
    elim (cases_Bool (eqb mark.0.0 0)) [
      | inl none ↦
          let parts = answer_parts 0 word mark.0.1 rest (rw none at mark.2) in (
            rw (← parts.0) (omega arith),
            rw (← parts.0) (norm-zero kind allowed),
            field_bits words 1 0,
            bits_were words 1 bits mark.0 0 rest put.1 (eqb-true mark.0.0 0 none) parts.1,
            inl (sym parts.0, refl),
          )
      | inr some ↦
          let field = player words kind word mark.0.1 rest code allowed (rw some at mark.2) in
          let first : bits ≡ field_bits words 1 1 ++ mark.0.1 = bits_were words 1 bits mark.0 1 mark.0.1 put.1 (mark_is_one mark.0.0 put.0 some) refl in (
            field.0,
            field.1,
            field_bits words 1 1 ++ field.2,
            after_mark bits (field_bits words 1 1) field.2 mark.0.1 rest first field.3,
            inr (field.2, field.4, refl),
          )
    ]

-- ---- what is spelled

float_is_read : PutIsRead → (words : List (List Bool)) (word : ℕ) (text rest : List Bool) → IsCode words → SpellsFloat words word text
    → float_at words (text ++ rest) ≡ Ok (word, rest)
unfolding float_at
float_is_read law words word text rest code (inl (value, fits, is, whole)) =
    rw (whole, append_assoc, law words 1 0 (field_bits words 13 value ++ rest) code (omega arith), law words 13 value rest code fits, is) refl
float_is_read law words word text rest code (inr (value, fits, is, whole)) =
    rw (whole, append_assoc, law words 1 1 (field_bits words 32 value ++ rest) code (omega arith), law words 32 value rest code fits, is) refl

integer_is_read : PutIsRead → (words : List (List Bool)) (kind : Kind) (width word : ℕ) (text rest : List Bool) → IsCode words → SpellsInteger words kind width word text
    → integer_at words kind width (text ++ rest) ≡ Ok (word, rest)
integer_is_read law words kind width word text rest code (value, fits, is, whole) = rw (whole, law words width value rest code fits, is) refl

pub player_spelled_read : PutIsRead → PlayerSpelledIsRead
unfolding player_field_at
player_spelled_read law words Float word text rest code allowed s = float_is_read law words word text rest code s
player_spelled_read law words (Unsigned width) word text rest code allowed s = integer_is_read law words (Unsigned width) width word text rest code s
player_spelled_read law words (Signed width) word text rest code allowed s = integer_is_read law words (Signed width) width word text rest code s

pub entity_spelled_read : PutIsRead → PlayerSpelledIsRead → EntitySpelledIsRead
unfolding entity_field_at
entity_spelled_read law player words kind word text rest code allowed (inl (is, whole)) =
    rw (whole, law words 1 0 rest code (omega arith), is) refl
entity_spelled_read law player words kind word text rest code allowed (inr (field, spelled, whole)) =
    rw (whole, append_assoc, law words 1 1 (field ++ rest) code (omega arith)) (player words kind word field rest code allowed spelled)
