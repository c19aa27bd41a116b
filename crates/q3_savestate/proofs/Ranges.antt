-- What a field tells where it is read.
use Rattle.std.proofs.Common.{◌≡◌, ℕ, ◌-◌, ◌≤◌, Bool, true, false, List, Result, Ok, Err, refl, ap, ◌∙◌, sym, arith}
use Rattle.std.specs.Prelude.{nat_le, nat_lt, ◌&&◌, if◌then◌else◌, length, take}
use Rattle.std.specs.List.{list_all}
use Rattle.std.proofs.lemmas.List.{length-take-le}
use Rattle.std.proofs.lemmas.Bool.{and_parts, leb-true, ltb-false}
use Rattle.byteorder.specs.Endian.{little_number}
use Rattle.q3_bits.specs.ResultBind.{◌>>=◌}
use Rattle.q3_bits.proofs.Binds.{bind_ok}
use Rattle.q3_fields.specs.Kinds.{Layout, end_mark}
use Rattle.q3_entity.specs.declared.state.EntityState.{EntityState}
use Rattle.q3_savestate.specs.Cursor.{Cursor, Field, cursor_after, number_at, is_text_byte, text_at}
use Rattle.q3_savestate.specs.Entities.{state_words_at, entity_at}

-- a row stops where its first step does
pub refused : {A B : Type 0} (read : Result A ℕ) (cursor_after : A → Result B ℕ) (at : ℕ) → Err at ≡ read → (read >>= cursor_after) ≡ Err at
refused read cursor_after at e = rw (← e) refl

read_is : {A : Type 0} (x y : A × Cursor) → ◌≡◌ {A = Field A} (Ok x) (Ok y) → x ≡ y
read_is x y e = cc

picked : {A : Type 0} (cut fits : Bool) (value x : A) (at : ℕ) → (if cut then Err at else if fits then Ok value else Err at) ≡ Ok x → (fits ≡ true) × (value ≡ x) × (cut ≡ false)
picked true fits value x at e = absurd cc
picked false true value x at e = (refl, cc, refl)
picked false false value x at e = absurd cc

-- a number is in its range
pub in_range : (count least most : ℕ) (cursor next : Cursor) (number : ℕ) → number_at count least most cursor ≡ Ok (number, next) → (least ≤ number) × (number ≤ most)
in_range count least most cursor next number e =
    let value = little_number count (take count cursor.bytes) in
    let got = picked (nat_lt (length cursor.bytes) count) (nat_le least value && nat_le value most) _ (number, next) cursor.at e in
    let is : value ≡ number = ap (λ (x : ℕ × Cursor). x.0) got.1 in
    let bounds = and_parts (nat_le least value) (nat_le value most) got.0 in
    (omega (arith, leb-true least value bounds.0), omega (arith, leb-true value most bounds.1))

-- an entity's number is below the end mark
pub below_mark : (table : Layout) (least : ℕ) (cursor next : Cursor) (entity : EntityState) → entity_at table least cursor ≡ Ok (entity, next) → entity.number ≤ end_mark table - 1
unfolding entity_at
below_mark table least cursor next entity e =
    let number = bind_ok (number_at 2 least (end_mark table - 1) cursor) (λ number. state_words_at table.kinds number.1 >>= λ words. Ok (record { number = number.0; words = words.0 }, words.1)) (entity, next) e in
    let words = bind_ok (state_words_at table.kinds number.0.1) (λ words. Ok (record { number = number.0.0; words = words.0 }, words.1)) (entity, next) number.2 in
    let is : number.0.0 ≡ entity.number = ap (λ (x : EntityState × Cursor). x.0.number) (read_is (record { number = number.0.0; words = words.0.0 }, words.0.1) (entity, next) words.2) in
    omega (arith, (in_range 2 least (end_mark table - 1) cursor number.0.1 number.0.0 number.1).1)

-- a text has as many bytes, and those that a text may hold
pub text_told : (count : ℕ) (cursor next : Cursor) (text : List ℕ) → text_at count cursor ≡ Ok (text, next) → (list_all is_text_byte text ≡ true) × (length text ≡ count)
text_told count cursor next text e =
    let bytes = take count cursor.bytes in
    let got = picked (nat_lt (length cursor.bytes) count) (list_all is_text_byte bytes) (bytes, cursor_after count cursor) (text, next) cursor.at e in
    let is : bytes ≡ text = ap (λ (x : List ℕ × Cursor). x.0) got.1 in
    (ap (list_all is_text_byte) (sym is) ∙ got.0, ap length (sym is) ∙ length-take-le count cursor.bytes (omega (arith, ltb-false (length cursor.bytes) count got.2)))
