-- A word in quotes in the steps by which it is read.
use Rattle.std.proofs.Common.{◌≡◌, ℕ, zero, suc, ◌<◌, ◌≤◌, true, false, cond, leb, List, [], ◌∷◌, ◌++◌, length, Option, Some, None, Result, Err, inl, inr, refl, sym, ap, ◌∙◌, arith, append_assoc, length-append}
use Rattle.std.specs.Prelude.{codes, option_map, option_and_then}
use Rattle.std.specs.Str.{bytes_eq}
use Rattle.std.specs.Option.{ok_or}
use Rattle.std.specs.Result.{result_ok}
use Rattle.std.proofs.lemmas.Bool.{cases_Bool, leb-false, lt-ltb, le-leb, lt-leb}
use Rattle.std.proofs.lemmas.List.{append-nil}
use Rattle.std.proofs.lemmas.Slice.Eq.{bytes_eq-Decides}
use Rattle.q3_text.specs.Texts.{most_bytes, text_fault, text_of}
use Rattle.q3_words.specs.declared.cause.LineCause.{LineCause}
use Rattle.q3_words.specs.declared.cause.LineCause.TheVariants as causes
use Rattle.q3_bits.specs.ResultBind.{◌>>=◌}
use Rattle.q3_words.specs.Words.{after_prefix}
use Rattle.q3_words.specs.Quotes.{front_at, bytes_at, unquoted_at, few_at, text_at, text_word}
use Rattle.q3_words.proofs.Unquoted.{some_bytes, no_bytes}

-- bytes with others after them, if there are such
abbrev with_front : List ℕ → Option (List ℕ) → Option (List ℕ)
with_front bytes others = option_map (λ others. bytes ++ others) others

-- how far a word was read: its first bytes, and what is left of it
pub record HasCome (bytes left : List ℕ) (whole : Option (List ℕ)) : Type 0 where
  pub most : ℕ
  pub enough : length left ≤ most
  pub goes_on : whole ≡ with_front bytes (bytes_at most left)

-- what is at most so many
abbrev few : ℕ → Option (List ℕ) → Option (List ℕ)
few limit o = option_and_then (λ bytes. cond (leb (length bytes) limit) (some_bytes bytes) no_bytes) o

-- nothing in front
nothing_before : (o : Option (List ℕ)) → o ≡ with_front [] o
nothing_before (Some bytes) = refl
nothing_before None = refl

-- after the first quote nothing was read
pub begins : (word text : List ℕ) → some_bytes text ≡ after_prefix (codes "\"") word → HasCome [] text (unquoted_at word)
unfolding unquoted_at
begins word text e = record { most = length text; enough = omega arith; goes_on = rw (← e) (nothing_before (bytes_at (length text) text)) }

-- a word without a first quote spells nothing
pub not_begun : (limit : ℕ) (word : List ℕ) → no_bytes ≡ after_prefix (codes "\"") word → no_bytes ≡ few_at limit word
unfolding unquoted_at
not_begun limit word e = rw (← e) refl

-- one turn
one_more : (bytes : List ℕ) (byte : ℕ) (o : Option (List ℕ)) → with_front bytes (option_and_then (λ others. Some (byte ∷ others)) o) ≡ with_front (bytes ++ byte ∷ []) o
one_more bytes byte (Some others) = ap (λ (x : List ℕ). Some x) (sym (append_assoc bytes (byte ∷ []) others))
one_more bytes byte None = refl

turn : (most : ℕ) (bytes left rest : List ℕ) (byte : ℕ) (whole : Option (List ℕ)) → length left ≤ most → whole ≡ with_front bytes (bytes_at most left) → bytes_eq (codes "\"") left ≡ false → Some (byte, rest) ≡ front_at left → length rest < length left → HasCome (bytes ++ byte ∷ []) rest whole
unfolding bytes_at
turn zero bytes left rest byte whole enough goes_on other front shorter = absurd (omega arith)
turn (suc most) bytes left rest byte whole enough goes_on other front shorter = record {
  most = most;
  enough = omega arith;
  goes_on = goes_on ∙ rw (other, ← front) (one_more bytes byte (bytes_at most rest));
}

-- a byte more
pub goes : {bytes left : List ℕ} {whole : Option (List ℕ)} → HasCome bytes left whole → (byte : ℕ) (rest : List ℕ) → bytes_eq (codes "\"") left ≡ false → Some (byte, rest) ≡ front_at left → length rest < length left → HasCome (bytes ++ byte ∷ []) rest whole
goes {bytes = bytes} {left = left} {whole = whole} came byte rest other front shorter = turn came.most bytes left rest byte whole came.enough came.goes_on other front shorter

-- too many bytes
many : (limit : ℕ) (bytes : List ℕ) (o : Option (List ℕ)) → limit < length bytes → no_bytes ≡ few limit (with_front bytes o)
many limit bytes (Some others) long = rw (lt-leb (length (bytes ++ others)) limit (omega (arith, length-append bytes others))) refl
many limit bytes None long = refl

-- are refused
pub fills : {bytes left : List ℕ} (limit : ℕ) (word : List ℕ) → HasCome bytes left (unquoted_at word) → (byte : ℕ) (rest : List ℕ) → bytes_eq (codes "\"") left ≡ false → Some (byte, rest) ≡ front_at left → length rest < length left → length bytes ≡ limit → no_bytes ≡ few_at limit word
fills {bytes = bytes} {left = left} limit word came byte rest other front shorter full =
    let next = goes came byte rest other front shorter in
    rw (next.goes_on) (many limit (bytes ++ byte ∷ []) (bytes_at next.most rest) (omega (arith, length-append bytes (byte ∷ []))))

-- what begins with no spelling
no_turn : (most : ℕ) (left : List ℕ) → bytes_eq (codes "\"") left ≡ false → None ≡ front_at left → bytes_at most left ≡ no_bytes
unfolding bytes_at
no_turn zero left other none = refl
no_turn (suc most) left other none = rw (other, ← none) refl

-- spells nothing
pub stops : {bytes left : List ℕ} (limit : ℕ) (word : List ℕ) → HasCome bytes left (unquoted_at word) → bytes_eq (codes "\"") left ≡ false → None ≡ front_at left → no_bytes ≡ few_at limit word
stops {bytes = bytes} {left = left} limit word came other none = rw (came.goes_on, no_turn came.most left other none) refl

-- the last quote
last_turn : (most : ℕ) (left : List ℕ) → length left ≤ most → bytes_eq (codes "\"") left ≡ true → bytes_at most left ≡ some_bytes []
unfolding bytes_at
last_turn zero left enough end = let size = ap (λ (x : List ℕ). length x) ((bytes_eq-Decides (codes "\"") left).0 end) in absurd (omega arith)
last_turn (suc most) left enough end = rw end refl

-- ends the word
pub ends : {bytes left : List ℕ} (limit : ℕ) (word : List ℕ) → HasCome bytes left (unquoted_at word) → bytes_eq (codes "\"") left ≡ true → length bytes ≤ limit → some_bytes bytes ≡ few_at limit word
ends {bytes = bytes} {left = left} limit word came end short =
    let all : bytes ++ [] ≡ bytes = append-nil bytes in
    rw (came.goes_on, last_turn came.most left came.enough end, all, le-leb (length bytes) limit short) refl

-- ---- a word of any length

-- without a first quote it spells nothing
pub nothing_begun : (word : List ℕ) → no_bytes ≡ after_prefix (codes "\"") word → no_bytes ≡ unquoted_at word
unfolding unquoted_at
nothing_begun word e = rw (← e) refl

-- nor does one that goes on with no spelling
pub nothing_stops : {bytes left : List ℕ} (word : List ℕ) → HasCome bytes left (unquoted_at word) → bytes_eq (codes "\"") left ≡ false → None ≡ front_at left → no_bytes ≡ unquoted_at word
nothing_stops {bytes = bytes} {left = left} word came other none = rw (came.goes_on, no_turn came.most left other none) refl

-- the last quote ends it
pub ends_all : {bytes left : List ℕ} (word : List ℕ) → HasCome bytes left (unquoted_at word) → bytes_eq (codes "\"") left ≡ true → some_bytes bytes ≡ unquoted_at word
ends_all {bytes = bytes} {left = left} word came end =
    let all : bytes ++ [] ≡ bytes = append-nil bytes in
    rw (came.goes_on, last_turn came.most left came.enough end, all) refl

-- ---- the text of a word

abbrev no_text : Result (List ℕ) LineCause
no_text = Err causes.Text

-- bytes that are too many are no text
too_long : (bytes : List ℕ) → most_bytes < length bytes → no_text ≡ ok_or (result_ok (text_of bytes)) causes.Text
unfolding text_of text_fault
too_long bytes long = rw (lt-ltb most_bytes (length bytes) long) refl

-- few bytes, and their text
pub text_steps : (word : List ℕ) → text_word word ≡ (ok_or (few_at most_bytes word) causes.Text >>= λ bytes. ok_or (result_ok (text_of bytes)) causes.Text)
unfolding text_at
text_steps word = of_bytes (unquoted_at word)
  where
    of_bytes : (o : Option (List ℕ)) → ok_or (option_and_then (λ bytes. result_ok (text_of bytes)) o) causes.Text ≡ (ok_or (few most_bytes o) causes.Text >>= λ bytes. ok_or (result_ok (text_of bytes)) causes.Text)
    of_bytes (Some bytes) =
        elim (cases_Bool (leb (length bytes) most_bytes)) [
          | inl enough ↦ rw enough refl
          | inr long ↦ rw long (sym (too_long bytes (leb-false (length bytes) most_bytes long)))
        ]
    of_bytes None = refl
