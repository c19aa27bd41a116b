-- Bytes that are read one after the other.
use Rattle.std.proofs.Common.{◌≡◌, ◌+◌, ◌<◌, ◌==◌, ℕ, zero, suc, Bool, true, false, List, [], ◌∷◌, ◌++◌, length, Result, Ok, Err, refl, sym, ap, ◌∙◌, append_assoc, arith}
use Rattle.std.proofs.lemmas.Bool.Decides.{nat_tests}
use Rattle.q3_bits.specs.ResultBind.{◌>>=◌}
use Rattle.q3_bits.specs.Words.{field_at}
use Rattle.q3_bits.specs.Streams.{Reading}
use Rattle.q3_bits.specs.declared.reader.ReadError.{ReadError}
use Rattle.q3_text.specs.Texts.{translated, IsTextByte}
use Rattle.q3_strings.specs.declared.error.StringError.TheVariants.{Bits, Long}
use Rattle.q3_strings.specs.Reading.{string_bytes_at, bounded_string_at}

-- bytes that are read, and what follows them
abbrev pub Read : Type 0 → Type 0
Read E = Result (List ℕ × List Bool) E

-- with bytes that were read before
abbrev pub with_front : {E : Type 0} → List ℕ → Read E → Read E
with_front front read = read >>= λ x. Ok (front ++ x.0, x.1)

-- with these bytes in front, what is left reads as all did at the start
pub record HasFront {E : Type 0} (start now : Reading) (front : List ℕ) (left whole : Read E) : Type 0 where
  pub words : now.words ≡ start.words
  pub place : now.place + length now.left ≡ start.place + length start.left
  pub reads : with_front front left ≡ whole

with_none : {E : Type 0} (read : Read E) → with_front [] read ≡ read
with_none (Ok x) = refl
with_none (Err e) = refl

with_one : {E : Type 0} (front : List ℕ) (y : ℕ) (read : Read E) → with_front front (with_front (y ∷ []) read) ≡ with_front (front ++ y ∷ []) read
with_one front y (Ok x) = ap (λ (bytes : List ℕ). Ok (bytes, x.1)) (sym (append_assoc front (y ∷ []) x.0))
with_one front y (Err e) = refl

pub front_begins : {E : Type 0} (start : Reading) (whole : Read E) → HasFront start start [] whole whole
front_begins start whole = record { words = refl; place = refl; reads = with_none whole }

pub front_more : {E : Type 0} (start now next : Reading) (front : List ℕ) (left whole others : Read E) (y : ℕ) → HasFront start now front left whole
    → next.words ≡ now.words → next.place + length next.left ≡ now.place + length now.left → left ≡ with_front (y ∷ []) others
    → HasFront start next (front ++ y ∷ []) others whole
front_more {E = E} start now next front left whole others y h words place is = record {
  words = words ∙ h.words;
  place = place ∙ h.place;
  reads = sym (with_one front y others) ∙ ap (λ (read : Read E). with_front front read) (sym is) ∙ h.reads;
}

pub front_stops : {E : Type 0} (start now : Reading) (front : List ℕ) (left whole : Read E) (e : E) → HasFront start now front left whole → left ≡ Err e → Err e ≡ whole
front_stops {E = E} start now front left whole e h is = ap (λ (read : Read E). with_front front read) (sym is) ∙ h.reads

pub front_ends : {E : Type 0} (start now : Reading) (front : List ℕ) (left whole : Read E) (after : List Bool) → HasFront start now front left whole → left ≡ Ok ([], after)
    → Ok (front ++ [], after) ≡ whole
front_ends {E = E} start now front left whole after h is = ap (λ (read : Read E). with_front front read) (sym is) ∙ h.reads

-- what is read by the words that are there is read by the words of the start
by_words : (words same : List (List Bool)) (bits : List Bool) (answer : Result (ℕ × List Bool) ReadError) → same ≡ words → answer ≡ field_at same 8 bits
    → field_at words 8 bits ≡ answer
by_words words same bits answer is read = ap (λ (ws : List (List Bool)). field_at ws 8 bits) (sym is) ∙ sym read

-- ---- so many bytes

pub bytes_none : (words : List (List Bool)) (bits : List Bool) → string_bytes_at words 0 bits ≡ Ok ([], bits)
unfolding string_bytes_at
bytes_none words bits = refl

pub bytes_more : (words same : List (List Bool)) (count : ℕ) (bits : List Bool) (byte : ℕ) (rest : List Bool) → same ≡ words → Ok (byte, rest) ≡ field_at same 8 bits
    → string_bytes_at words (suc count) bits ≡ with_front (byte ∷ []) (string_bytes_at words count rest)
unfolding string_bytes_at
bytes_more words same count bits byte rest is read = rw (by_words words same bits _ is read) refl

pub bytes_fault : (words same : List (List Bool)) (count : ℕ) (bits : List Bool) (e : ReadError) → same ≡ words → Err e ≡ field_at same 8 bits
    → string_bytes_at words (suc count) bits ≡ Err e
unfolding string_bytes_at
bytes_fault words same count bits e is read = rw (by_words words same bits _ is read) refl

-- ---- a string

pub string_end : (words same : List (List Bool)) (most : ℕ) (bits : List Bool) (byte : ℕ) (rest : List Bool) → same ≡ words → Ok (byte, rest) ≡ field_at same 8 bits
    → (byte == 0) ≡ true → bounded_string_at words most bits ≡ Ok ([], rest)
unfolding bounded_string_at
string_end words same zero bits byte rest is read none = rw (by_words words same bits _ is read, none) refl
string_end words same (suc most) bits byte rest is read none = rw (by_words words same bits _ is read, none) refl

pub string_more : (words same : List (List Bool)) (most : ℕ) (bits : List Bool) (byte : ℕ) (rest : List Bool) → same ≡ words → Ok (byte, rest) ≡ field_at same 8 bits
    → (byte == 0) ≡ false → bounded_string_at words (suc most) bits ≡ with_front (translated byte ∷ []) (bounded_string_at words most rest)
unfolding bounded_string_at
string_more words same most bits byte rest is read some = rw (by_words words same bits _ is read, some) refl

pub string_fault : (words same : List (List Bool)) (most : ℕ) (bits : List Bool) (e : ReadError) → same ≡ words → Err e ≡ field_at same 8 bits
    → bounded_string_at words most bits ≡ Err (Bits e)
unfolding bounded_string_at
string_fault words same zero bits e is read = rw (by_words words same bits _ is read) refl
string_fault words same (suc most) bits e is read = rw (by_words words same bits _ is read) refl

pub string_long : (words same : List (List Bool)) (bits : List Bool) (byte : ℕ) (rest : List Bool) → same ≡ words → Ok (byte, rest) ≡ field_at same 8 bits
    → (byte == 0) ≡ false → bounded_string_at words 0 bits ≡ Err Long
unfolding bounded_string_at
string_long words same bits byte rest is read some = rw (by_words words same bits _ is read, some) refl

-- ---- bytes of a text

-- a byte above 0 isn't 0
pub isnt_zero : (byte : ℕ) → 0 < byte → (byte == 0) ≡ false
isnt_zero byte some = grind (arith, nat_tests)

-- translated, it is one that a text may hold
pub translated_is_text : (byte : ℕ) → 0 < byte → IsTextByte (translated byte)
translated_is_text byte some = grind (arith, nat_tests)
