-- The arrays, read one after the other.
use Rattle.std.proofs.Common.{◌≡◌, ℕ, Bool, List, Result, Ok, Err, refl, sym, ap, ◌∙◌}
use Rattle.q3_bits.specs.ResultBind.{◌>>=◌}
use Rattle.q3_bits.proofs.Binds.{bind_ok}
use Rattle.q3_bits.specs.Streams.{with_rest, holding}
use Rattle.q3_bits.specs.InPlace.{ListRead}
use Rattle.q3_bits.specs.declared.reader.ReadError.{ReadError}
use Rattle.q3_fields.specs.declared.kind.Kind.TheVariants.{Unsigned, Signed}
use Rattle.q3_player.specs.declared.state.PlayerState.{PlayerState}
use Rattle.q3_player.specs.State.{patterns_of, shorts_of}
use Rattle.q3_player.specs.Delta.{array_at, shorts_at, arrays_at, all_arrays_at}
use Rattle.q3_player.proofs.Results.{answer_parts}
use lib.IntN.{ℤ}

-- values that were read, as their words
shorts_at-ok : (words : List (List Bool)) (from : List ℤ) (bits : List Bool) (values : List ℤ) (rest : List Bool) → Ok (values, rest) ≡ shorts_at words from bits
    → (read : List ℕ) × (array_at words (Signed 16) (patterns_of from) bits ≡ Ok (read, rest)) × (shorts_of read ≡ values)
unfolding shorts_at
shorts_at-ok words from bits values rest e =
    let whole = bind_ok (array_at words (Signed 16) (patterns_of from) bits) (λ read. Ok (shorts_of read.0, read.1)) (values, rest) (sym e) in
    let parts = answer_parts (shorts_of whole.0.0) values whole.0.1 rest whole.2 in
    (whole.0.0, whole.1 ∙ ap (λ (left : List Bool). Ok (whole.0.0, left)) parts.1, parts.0)

-- words that were read, as values
abbrev as_shorts : List ℕ × List Bool → Result (List ℤ × List Bool) ReadError
as_shorts read = Ok (shorts_of read.0, read.1)

-- a fault among them
as_shorts-err : (r : ListRead) (e : ReadError) → (r >>= as_shorts) ≡ Err e → r ≡ Err e
as_shorts-err (Ok x) e bad = absurd cc
as_shorts-err (Err d) e bad = cc

shorts_at-err : (words : List (List Bool)) (from : List ℤ) (bits : List Bool) (e : ReadError) → Err e ≡ shorts_at words from bits
    → array_at words (Signed 16) (patterns_of from) bits ≡ Err e
unfolding shorts_at
shorts_at-err words from bits e bad = as_shorts-err (array_at words (Signed 16) (patterns_of from) bits) e (sym bad)

-- a fault in the first
pub all_arrays_at-stats : (words : List (List Bool)) (from : PlayerState) (bits : List Bool) (e : ReadError) → Err e ≡ shorts_at words from.stats bits → Err e ≡ all_arrays_at words from bits
unfolding all_arrays_at arrays_at
all_arrays_at-stats words from bits e bad = rw (shorts_at-err words from.stats bits e bad) refl

-- a fault in the second
pub all_arrays_at-persistant : (words one : List (List Bool)) (from : PlayerState) (bits left : List Bool) (stats : List ℤ) (e : ReadError) → one ≡ words
    → Ok (stats, left) ≡ shorts_at words from.stats bits → Err e ≡ shorts_at one from.persistant left → Err e ≡ all_arrays_at words from bits
unfolding all_arrays_at arrays_at
all_arrays_at-persistant words one from bits left stats e same first bad =
    let a = shorts_at-ok words from.stats bits stats left first in
    rw (a.1, shorts_at-err words from.persistant left e (rw same at bad)) refl

-- a fault in the third
pub all_arrays_at-ammo : (words one two : List (List Bool)) (from : PlayerState) (bits left left' : List Bool) (stats persistant : List ℤ) (e : ReadError) → one ≡ words → two ≡ words
    → Ok (stats, left) ≡ shorts_at words from.stats bits → Ok (persistant, left') ≡ shorts_at one from.persistant left → Err e ≡ shorts_at two from.ammo left'
    → Err e ≡ all_arrays_at words from bits
unfolding all_arrays_at arrays_at
all_arrays_at-ammo words one two from bits left left' stats persistant e same same' first second bad =
    let a = shorts_at-ok words from.stats bits stats left first in
    let b = shorts_at-ok words from.persistant left persistant left' (rw same at second) in
    rw (a.1, b.1, shorts_at-err words from.ammo left' e (rw same' at bad)) refl

-- the last decides
pub all_arrays_at-powerups : (words one two three : List (List Bool)) (from : PlayerState) (bits left left' left'' end : List Bool) (stats persistant ammo : List ℤ) (powerups : List ℕ)
    (result : Result (Unit {0}) ReadError) → one ≡ words → two ≡ words → three ≡ words
    → Ok (stats, left) ≡ shorts_at words from.stats bits → Ok (persistant, left') ≡ shorts_at one from.persistant left → Ok (ammo, left'') ≡ shorts_at two from.ammo left'
    → with_rest end (holding powerups result) ≡ array_at three (Unsigned 32) from.powerups left''
    → with_rest end (holding (record { words = from.words; stats = stats; persistant = persistant; ammo = ammo; powerups = powerups }) result) ≡ all_arrays_at words from bits
unfolding all_arrays_at arrays_at
all_arrays_at-powerups words one two three from bits left left' left'' end stats persistant ammo powerups (Ok x) same same' same'' first second third last =
    let a = shorts_at-ok words from.stats bits stats left first in
    let b = shorts_at-ok words from.persistant left persistant left' (rw same at second) in
    let c = shorts_at-ok words from.ammo left' ammo left'' (rw same' at third) in
    let d : array_at words (Unsigned 32) from.powerups left'' ≡ Ok (powerups, end) = sym (rw same'' at last) in
    rw (a.1, b.1, c.1, d, a.2, b.2, c.2) refl
all_arrays_at-powerups words one two three from bits left left' left'' end stats persistant ammo powerups (Err e) same same' same'' first second third last =
    let a = shorts_at-ok words from.stats bits stats left first in
    let b = shorts_at-ok words from.persistant left persistant left' (rw same at second) in
    let c = shorts_at-ok words from.ammo left' ammo left'' (rw same' at third) in
    let d : array_at words (Unsigned 32) from.powerups left'' ≡ Err e = sym (rw same'' at last) in
    rw (a.1, b.1, c.1, d) refl
