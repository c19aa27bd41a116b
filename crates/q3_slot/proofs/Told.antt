-- The commands of a config change are issued one after the other.
use Rattle.std.proofs.Common.{◌≡◌, ◌∙◌, ℕ, suc, ◌+◌, ◌-◌, ◌<◌, ◌≤◌, true, List, [], ◌∷◌, length, map, sym, ap, subst, arith, length-append}
use Rattle.std.specs.List.{range_with_len}
use Rattle.std.proofs.lemmas.List.{append_assoc, append-nil}
use Rattle.std.proofs.lemmas.List.Sums.{sum_by-append, sum_by-cons}
use Rattle.std.proofs.lemmas.Bool.{and_parts, and_from, leb-true, le-leb, cond-true}
use Rattle.q3_config.specs.Commands.{change_text, config_piece, piece_count}
use Rattle.q3_config.specs.Laws.{piece_texts}
use Rattle.q3_window.specs.Outgoing.{OutgoingState, Issuing, most_waiting, most_text, last_number, fits, issue_at, issued_of, total_of, with_texts}

-- what is known where so many more commands fit
record HasRoom (window : OutgoingState) (count bytes : ℕ) : Type 0 where
  few : length window.waiting + count ≤ most_waiting
  short : total_of window.waiting + bytes ≤ most_text
  numbers : issued_of window + count ≤ last_number

fits_is : (window : OutgoingState) (count bytes : ℕ) → fits window count bytes ≡ true → HasRoom window count bytes
fits_is window count bytes is =
    let outer = and_parts _ _ is in
    let inner = and_parts _ _ outer.0 in
    record { few = leb-true _ _ inner.0; short = leb-true _ _ inner.1; numbers = leb-true _ _ outer.1 }

is_fits : (window : OutgoingState) (count bytes : ℕ) → HasRoom window count bytes → fits window count bytes ≡ true
is_fits window count bytes room =
    and_from _ _ (and_from _ _ (le-leb _ _ room.few) (le-leb _ _ room.short)) (le-leb _ _ room.numbers)

-- the first of texts that fit is issued
issued_first : (window : OutgoingState) (text : List ℕ) (texts : List (List ℕ)) → fits window (length (text ∷ texts)) (total_of (text ∷ texts)) ≡ true
    → (issue_at window text).window ≡ with_texts window (text ∷ [])
issued_first window text texts fit =
    let room = fits_is window (length (text ∷ texts)) (total_of (text ∷ texts)) fit in
    let few = room.few in
    let short = room.short in
    let numbers = room.numbers in
    let counted = sum_by-cons length text texts in
    let one : fits window 1 (length text) ≡ true =
    is_fits window 1 (length text) (record { few = omega arith; short = omega arith; numbers = omega arith }) in
    ap (λ (i : Issuing). i.window) (cond-true (fits window 1 (length text)) _ _ one)

-- and the others still fit
others_fit : (window : OutgoingState) (text : List ℕ) (texts : List (List ℕ)) → fits window (length (text ∷ texts)) (total_of (text ∷ texts)) ≡ true
    → fits (with_texts window (text ∷ [])) (length texts) (total_of texts) ≡ true
others_fit window text texts fit =
    let room = fits_is window (length (text ∷ texts)) (total_of (text ∷ texts)) fit in
    let few = room.few in
    let short = room.short in
    let numbers = room.numbers in
    let counted = sum_by-cons length text texts in
    let longer = length-append window.waiting (text ∷ []) in
    let more = sum_by-append length window.waiting (text ∷ []) in
    let alone = sum_by-cons length text [] in
    is_fits (with_texts window (text ∷ [])) (length texts) (total_of texts) (record { few = omega arith; short = omega arith; numbers = omega arith })

-- the texts of the pieces from an index on
abbrev pub texts_from : ℕ → List ℕ → ℕ → List (List ℕ)
texts_from index text k = map (λ k. change_text (config_piece index text k)) (range_with_len k (piece_count (length text) - k))

more_texts : (index : ℕ) (text : List ℕ) (k : ℕ) → k < piece_count (length text)
    → texts_from index text k ≡ change_text (config_piece index text k) ∷ texts_from index text (k + 1)
more_texts index text k lt =
    let count : piece_count (length text) - k ≡ suc (piece_count (length text) - (k + 1)) = omega arith in
    ap (λ (count : ℕ). map (λ k. change_text (config_piece index text k)) (range_with_len k count)) count

no_texts : (index : ℕ) (text : List ℕ) (k : ℕ) → piece_count (length text) ≤ k → texts_from index text k ≡ []
no_texts index text k le =
    let count : piece_count (length text) - k ≡ 0 = omega arith in
    ap (λ (count : ℕ). map (λ k. change_text (config_piece index text k)) (range_with_len k count)) count

all_texts : (index : ℕ) (text : List ℕ) → texts_from index text 0 ≡ piece_texts index text
all_texts index text =
    let count : piece_count (length text) - 0 ≡ piece_count (length text) = omega arith in
    ap (λ (count : ℕ). map (λ k. change_text (config_piece index text k)) (range_with_len 0 count)) count

-- the texts of the pieces from an index on fit, and after those that were issued they are all
pub record AreLeft (start window : OutgoingState) (index : ℕ) (text : List ℕ) (k : ℕ) : Type 0 where
  pub room : fits window (length (texts_from index text k)) (total_of (texts_from index text k)) ≡ true
  pub same : with_texts window (texts_from index text k) ≡ with_texts start (piece_texts index text)

pub AreLeft-begin : (window : OutgoingState) (index : ℕ) (text : List ℕ)
    → fits window (length (piece_texts index text)) (total_of (piece_texts index text)) ≡ true → AreLeft window window index text 0
AreLeft-begin window index text fit = record {
  room = subst (λ (texts : List (List ℕ)). fits window (length texts) (total_of texts) ≡ true) (sym (all_texts index text)) fit;
  same = ap (with_texts window) (all_texts index text);
}

pub AreLeft-step : (start window new : OutgoingState) (index : ℕ) (text : List ℕ) (k : ℕ) (piece : List ℕ) → AreLeft start window index text k
    → k < piece_count (length text) → piece ≡ change_text (config_piece index text k) → (issue_at window piece).window ≡ new → AreLeft start new index text (k + 1)
AreLeft-step start window new index text k piece left lt is issued =
    let one = change_text (config_piece index text k) in
    let others = texts_from index text (k + 1) in
    let more = more_texts index text k lt in
    let fit : fits window (length (one ∷ others)) (total_of (one ∷ others)) ≡ true =
    subst (λ (texts : List (List ℕ)). fits window (length texts) (total_of texts) ≡ true) more left.room in
    let new_is : new ≡ with_texts window (one ∷ []) =
    sym issued ∙ ap (λ (piece : List ℕ). (issue_at window piece).window) is ∙ issued_first window one others fit in
    rw new_is (record {
      room = others_fit window one others fit;
      same = ap (λ (waiting : List (List ℕ)). record window { waiting = waiting }) (append_assoc window.waiting (one ∷ []) others)
          ∙ ap (with_texts window) (sym more) ∙ left.same;
    })

pub AreLeft-end : (start window : OutgoingState) (index : ℕ) (text : List ℕ) (k : ℕ) → AreLeft start window index text k → piece_count (length text) ≤ k
    → window ≡ with_texts start (piece_texts index text)
AreLeft-end start window index text k left le =
    ap (λ (waiting : List (List ℕ)). record window { waiting = waiting }) (sym (append-nil window.waiting))
    ∙ ap (with_texts window) (sym (no_texts index text k le)) ∙ left.same
