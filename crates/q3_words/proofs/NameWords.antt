-- Names of files against the test of a word.
use Rattle.std.proofs.Common.{◌≡◌, ℕ, ◌<◌, ◌≤◌, Result, Ok, Err, arith, true, leb, List, [], ◌∷◌, length, Some, None, inl, inr, refl, subst}
use Rattle.std.specs.Prelude.{All, ◌&&◌}
use Rattle.std.specs.List.{list_all}
use Rattle.std.proofs.lemmas.Bool.{cases_Bool, and_parts, leb-true, le-leb}
use Rattle.std.proofs.lemmas.List.Elements.{All-nil, All-cons, All-head, All-tail, All-weaker}
use Rattle.std.specs.Str.{IsUtf8}
use Rattle.std.specs.Result.{IsOk, MatchResult}
use Rattle.std.proofs.lemmas.Str.{IsUtf8-from_ascii}
use Rattle.std.proofs.lemmas.Str.Ascii.{IsAscii-from_all}
use Rattle.q3_words.specs.Names.{longest_name, IsName, is_name_byte, is_name, name_at}
use Rattle.q3_words.specs.Laws.{WasName}

abbrev IsByte : ℕ → Type 0
IsByte byte = (33 ≤ byte) × (byte ≤ 126)

-- bytes that pass one by one
bytes_are : (bytes : List ℕ) → list_all is_name_byte bytes ≡ true → All IsByte bytes
bytes_are [] e = All-nil IsByte
bytes_are (byte ∷ bytes) e =
    let parts = and_parts (is_name_byte byte) (list_all is_name_byte bytes) e in
    let here = and_parts (leb 33 byte) (leb byte 126) parts.0 in
    All-cons IsByte byte bytes (leb-true 33 byte here.0, leb-true byte 126 here.1) (bytes_are bytes parts.1)

bytes_pass : (bytes : List ℕ) → All IsByte bytes → list_all is_name_byte bytes ≡ true
bytes_pass [] each = refl
bytes_pass (byte ∷ bytes) each =
    let here = All-head IsByte byte bytes each in
    rw (le-leb 33 byte here.0, le-leb byte 126 here.1) (bytes_pass bytes (All-tail IsByte byte bytes each))

-- a word that passes is a name
pub named : (word : List ℕ) → is_name word ≡ true → IsName word
unfolding is_name
named word e =
    let parts = and_parts (leb 1 (length word) && leb (length word) longest_name) (list_all is_name_byte word) e in
    let sizes = and_parts (leb 1 (length word)) (leb (length word) longest_name) parts.0 in
    (leb-true 1 (length word) sizes.0, leb-true (length word) longest_name sizes.1, bytes_are word parts.1)

-- and a name passes
passes : (word : List ℕ) → IsName word → is_name word ≡ true
unfolding is_name
passes word is = rw (le-leb 1 (length word) is.0, le-leb (length word) longest_name is.1) (bytes_pass word is.2)

-- a word that is read as a name is that name
pub name_at-is : (word name : List ℕ) → name_at word ≡ Some name → WasName word name
unfolding name_at
name_at-is word name e =
    elim (cases_Bool (is_name word)) [
      | inl passed ↦
          let same : Some word ≡ Some name = rw passed at e in
          let same : word ≡ name = cc in
          record { same = same; is = subst IsName same (named word passed) }
      | inr failed ↦ let none : None ≡ Some name = rw failed at e in absurd cc
    ]

-- and a name is read as itself
pub name_at-again : (name : List ℕ) → IsName name → name_at name ≡ Some name
unfolding name_at
name_at-again name is = rw (passes name is) refl

-- a name is text
pub name_utf8 : (name : List ℕ) → IsName name → IsUtf8 name
name_utf8 name is =
    IsUtf8-from_ascii name (IsAscii-from_all name (All-weaker (λ (byte : ℕ). (33 ≤ byte) × (byte ≤ 126)) (λ (byte : ℕ). byte < 128)
    (λ byte within. let most = within.1 in omega (arith, most)) name is.2))

pub reads_text : {T E : Type 0} (Reads : T → Type 0) (Stops : E → Type 0) (bytes : List ℕ) (result : Result T E) → MatchResult result Reads (λ e. (IsUtf8 bytes → ⊥) × Stops e) → IsUtf8 bytes
    → IsOk result
reads_text Reads Stops bytes (Ok text) cases is = refl
reads_text Reads Stops bytes (Err e) cases is = absurd (cases.0 is)
