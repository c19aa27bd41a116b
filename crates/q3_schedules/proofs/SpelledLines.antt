-- Texts by their lines.
use Rattle.std.proofs.Common.{◌≡◌, ℕ, suc, Bool, true, cond, not, eqb, List, [], ◌∷◌, ◌++◌, map, count_by, refl, ap, ◌∙◌, arith, append_assoc, append-nil}
use Rattle.std.specs.List.{list_all, flat_map}
use Rattle.std.proofs.lemmas.Bool.{and_parts, not-true}
use Rattle.std.proofs.lemmas.List.Folds.{list_all-append}
use Rattle.std.proofs.lemmas.List.Sums.{sum_by-cons, sum_by-append}
use Rattle.std.proofs.lemmas.List.Concat.{flat_map-append}
use Rattle.std.proofs.lemmas.List.Splits.{slice_split_at}
use Rattle.q3_schedules.specs.ReportLines.{text_lines}
use Rattle.q3_text.specs.Cuts.{lacks}
use Rattle.q3_schedules.proofs.PlainTexts.{without}

abbrev pub ended : List ℕ → List ℕ
ended line = line ++ 10 ∷ []

abbrev pub is_plain : List ℕ → Bool
is_plain line = lacks 10 line

-- the text is these lines, each ended by the only newline in it
pub record Spelled (text : List ℕ) (lines : List (List ℕ)) : Type 0 where
  pub whole : text ≡ flat_map ended lines
  pub plain : list_all is_plain lines ≡ true

pub nothing : Spelled [] []
nothing = record { whole = refl; plain = refl }

-- what stands in front of the first line
pub in_front : (part text line : List ℕ) (lines : List (List ℕ)) → lacks 10 part ≡ true → Spelled text (line ∷ lines) → Spelled (part ++ text) ((part ++ line) ∷ lines)
in_front part text line lines plain is =
    let parts = and_parts (is_plain line) (list_all is_plain lines) is.plain in
    record {
      whole = ap (λ (t : List ℕ). part ++ t) is.whole ∙ simp append_assoc;
      plain = rw (list_all-append (λ x. not (eqb x 10)) part line, plain, parts.0, parts.1) refl;
    }

pub newline : (text : List ℕ) (lines : List (List ℕ)) → Spelled text lines → Spelled (10 ∷ text) ([] ∷ lines)
newline text lines is = record { whole = ap (λ (t : List ℕ). 10 ∷ t) is.whole; plain = is.plain }

pub join : (a b : List ℕ) (xs ys : List (List ℕ)) → Spelled a xs → Spelled b ys → Spelled (a ++ b) (xs ++ ys)
join a b xs ys is is' = record {
  whole = rw (flat_map-append ended xs ys, is.whole, is'.whole) refl;
  plain = rw (list_all-append is_plain xs ys, is.plain, is'.plain) refl;
}

pub each : {X : Type 0} (text line : X → List ℕ) → ((x : X) → Spelled (text x) (line x ∷ [])) → (xs : List X) → Spelled (flat_map text xs) (map line xs)
each text line one [] = nothing
each text line one (x ∷ xs) = join (text x) (flat_map text xs) (line x ∷ []) (map line xs) (one x) (each text line one xs)

pub last : (text : List ℕ) (lines : List (List ℕ)) → Spelled text lines → Spelled (text ++ []) lines
last text lines is = record { whole = append-nil text ∙ is.whole; plain = is.plain }

-- ---- the lines are those of the text

no_newline : (text : List ℕ) → lacks 10 text ≡ true → count_by (λ byte. eqb byte 10) text ≡ 0
no_newline [] e = refl
no_newline (x ∷ text) e =
    let parts = and_parts (not (eqb x 10)) (lacks 10 text) e in
    rw (sum_by-cons (λ byte. cond (eqb byte 10) 1 0) x text, not-true (eqb x 10) parts.0, no_newline text parts.1) refl

next_line : (line text : List ℕ) → lacks 10 line ≡ true → text_lines (line ++ 10 ∷ text) ≡ line ∷ text_lines text
next_line line text plain =
    let newlines : count_by (λ byte. eqb byte 10) (line ++ 10 ∷ text) ≡ suc (count_by (λ byte. eqb byte 10) text) =
    omega (arith, sum_by-append (λ byte. cond (eqb byte 10) 1 0) line (10 ∷ text), sum_by-cons (λ byte. cond (eqb byte 10) 1 0) 10 text, no_newline line plain) in
    rw (newlines, slice_split_at (λ byte. eqb byte 10) line 10 text (without 10 line plain) refl) refl

lines_are : (lines : List (List ℕ)) → list_all is_plain lines ≡ true → text_lines (flat_map ended lines) ≡ lines
lines_are [] plain = refl
lines_are (line ∷ lines) plain =
    let parts = and_parts (is_plain line) (list_all is_plain lines) plain in
    ap text_lines (append_assoc line (10 ∷ []) (flat_map ended lines)) ∙ next_line line (flat_map ended lines) parts.0 ∙ ap (λ (l : List (List ℕ)). line ∷ l) (lines_are lines parts.1)

pub lines_of_spelled : (text : List ℕ) (lines : List (List ℕ)) → Spelled text lines → text_lines text ≡ lines
lines_of_spelled text lines is = ap text_lines is.whole ∙ lines_are lines is.plain
