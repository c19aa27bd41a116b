-- Texts after a prefix: what is read was spelled so, and what is spelled so is read.
use Rattle.std.proofs.Common.{◌≡◌, ℕ, true, List, ◌++◌, length, take, drop, Option, Some, None, inl, inr, refl, sym, ◌∙◌}
use Rattle.std.specs.Str.{bytes_eq}
use Rattle.std.proofs.Math.Seq.{take-append_seam, drop-append_seam}
use Rattle.std.proofs.lemmas.Bool.{cases_Bool}
use Rattle.std.proofs.lemmas.Option.{same_Some}
use Rattle.std.proofs.lemmas.List.{take-append-drop}
use Rattle.std.proofs.lemmas.Slice.Eq.{bytes_eq-Decides}
use Rattle.q3_words.specs.Words.{after_prefix}

abbrev some_text : List ℕ → Option (List ℕ)
some_text text = Some text

abbrev no_text : Option (List ℕ)
no_text = None

-- what follows a prefix stood so
pub after_prefix-spelled : (prefix text rest : List ℕ) → after_prefix prefix text ≡ Some rest → text ≡ prefix ++ rest
unfolding after_prefix
after_prefix-spelled prefix text rest e =
    elim (cases_Bool (bytes_eq (take (length prefix) text) prefix)) [
      | inl same ↦
          let whole : some_text (drop (length prefix) text) ≡ some_text rest = rw same at e in
          let front = (bytes_eq-Decides (take (length prefix) text) prefix).0 same in
          let back = same_Some (drop (length prefix) text) rest whole in
          sym (take-append-drop (length prefix) text) ∙ rw (front, back) refl
      | inr other ↦ let nothing : no_text ≡ some_text rest = rw other at e in absurd cc
    ]

-- and what follows it is found
pub after_prefix-again : (prefix rest : List ℕ) → after_prefix prefix (prefix ++ rest) ≡ Some rest
unfolding after_prefix
after_prefix-again prefix rest =
    let front : take (length prefix) (prefix ++ rest) ≡ prefix = take-append_seam prefix rest in
    let back : drop (length prefix) (prefix ++ rest) ≡ rest = drop-append_seam prefix rest in
    let same : bytes_eq prefix prefix ≡ true = (bytes_eq-Decides prefix prefix).1 refl in
    rw (front, back, same) refl
