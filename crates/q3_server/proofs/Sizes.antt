-- How many bytes the commands of a config change have.
use Rattle.std.proofs.Common.{◌≡◌, ℕ, ◌+◌, ◌≤◌, ltb, List, length, map, Option, Some, None, inl, inr, arith}
use Rattle.std.specs.Prelude.{find, not}
use Rattle.std.specs.List.{range_with_len}
use Rattle.std.proofs.lemmas.Bool.{cases_Bool, cases_lt, lt-ltb, le-ltb, ltb-false}
use Rattle.std.proofs.lemmas.List.FromFn.{length-map-range_with_len, sum_by-map-range_with_len_more}
use Rattle.q3_config.specs.Commands.{change_text, config_piece, piece_count}
use Rattle.q3_config.specs.Laws.{piece_texts}
use Rattle.q3_config.specs.declared.error.ConfigError.{ConfigError}
use Rattle.q3_config.specs.declared.error.ConfigError.TheVariants.{Index, Chars, Long}
use Rattle.q3_config.specs.Strings.{Strings, places, longest_string, is_config_byte, chars_fault, admit_fault}
use Rattle.q3_window.specs.Outgoing.{total_of}

-- the texts of the pieces below an index
abbrev pub texts_below : ℕ → List ℕ → ℕ → List (List ℕ)
texts_below index text k = map (λ k. change_text (config_piece index text k)) (range_with_len 0 k)

-- one text more
pub total_more : (index : ℕ) (text : List ℕ) (k bytes more : ℕ) → bytes ≡ total_of (texts_below index text k) → more ≡ length (change_text (config_piece index text k))
    → bytes + more ≡ total_of (texts_below index text (k + 1))
total_more index text k bytes more is more_is =
    let one = sum_by-map-range_with_len_more length (λ k. change_text (config_piece index text k)) 0 k k (omega arith) in
    omega (arith, is, more_is, one)

-- there are at most nine
pub few_pieces : (bytes : ℕ) → bytes ≤ longest_string → piece_count bytes ≤ 9
unfolding piece_count
few_pieces bytes short = elim (cases_lt bytes 1000) [
  | inl below ↦ rw (lt-ltb bytes 1000 below) (omega arith)
  | inr above ↦ rw (le-ltb bytes 1000 above) (omega arith)
]

pub counted : (index : ℕ) (text : List ℕ) → length (piece_texts index text) ≡ piece_count (length text)
counted index text = length-map-range_with_len (λ k. change_text (config_piece index text k)) 0 (piece_count (length text))

-- ---- a change that was admitted

abbrev no_fault : Option ConfigError
no_fault = None

short_where : (strings : Strings) (index : ℕ) (text : List ℕ) (found : Option ℕ) → chars_fault strings index text found ≡ None → length text ≤ longest_string
short_where strings index text (Some byte) none = let e : Some (Chars byte) ≡ no_fault = none in absurd cc
short_where strings index text None none =
    elim (cases_Bool (ltb longest_string (length text))) [
      | inl long ↦ let e : Some Long ≡ no_fault = rw long at none in absurd cc
      | inr short ↦ ltb-false longest_string (length text) short
    ]

-- its text isn't too long
pub admitted_short : (strings : Strings) (index : ℕ) (text : List ℕ) → admit_fault strings index text ≡ None → length text ≤ longest_string
unfolding admit_fault
admitted_short strings index text none =
    elim (cases_Bool (ltb index places)) [
      | inl within ↦ short_where strings index text (find (λ byte. not (is_config_byte byte)) text) (rw within at none)
      | inr past ↦ let e : Some Index ≡ no_fault = rw past at none in absurd cc
    ]
