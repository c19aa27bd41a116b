-- The words of a move, part by part.
use Rattle.std.proofs.Common.{◌≡◌, ◌∙◌, List, ℕ, ℤ, [], ◌∷◌, ◌++◌, map, codes, decimal, unsigned_abs, w8, FitsSigned, to_z, of_z, sym, ap, append_assoc}
use Rattle.std.specs.Fmt.{signed_decimal}
use Rattle.std.proofs.lemmas.Int.{to_z-of_z}
use Rattle.std.proofs.lemmas.List.Concat.{flat_map-append}
use Rattle.q3_clmsg.specs.declared.moves.Move.{Move}
use Rattle.q3_clmsg.specs.Report.{move_words, spaced}

-- a number of 8 bits as it is handed on
abbrev pub passed : ℤ → ℤ
passed z = to_z w8 (of_z w8 z)

-- a signed number in two pieces
pub signed_in_pieces : (sign : List ℕ) (z : ℤ) (n magnitude : ℕ) → FitsSigned w8 z → n ≡ magnitude → magnitude ≡ unsigned_abs (passed z)
    → sign ++ decimal (unsigned_abs (passed z)) ≡ codes " " ++ signed_decimal (passed z) → sign ++ decimal n ≡ codes " " ++ signed_decimal z
signed_in_pieces sign z n magnitude fits same is e =
    ap (λ (n : ℕ). sign ++ decimal n) (same ∙ is) ∙ e ∙ ap (λ (z : ℤ). codes " " ++ signed_decimal z) (to_z-of_z w8 z fits)

-- three words, each in two pieces
pub three_in_pieces : (a a' b b' d d' first second third : List ℕ) → a ++ a' ≡ first → b ++ b' ≡ second → d ++ d' ≡ third
    → a ++ (a' ++ (b ++ (b' ++ (d ++ (d' ++ []))))) ≡ first ++ (second ++ (third ++ []))
three_in_pieces a a' b b' d d' first second third e e' e'' = rw (sym e, sym e', sym e'') (simp append_assoc)

-- the time and the angles, the three steps, and the rest
pub move_in_parts : (one : Move) → spaced (move_words one) ≡ spaced (decimal one.time ∷ map decimal one.angles)
    ++ (spaced (signed_decimal one.forward ∷ signed_decimal one.right ∷ signed_decimal one.up ∷ []) ++ spaced (decimal one.buttons ∷ decimal one.weapon ∷ []))
move_in_parts one =
    let space : List ℕ → List ℕ = λ word. codes " " ++ word in
    let first = decimal one.time ∷ map decimal one.angles in
    let steps = signed_decimal one.forward ∷ signed_decimal one.right ∷ signed_decimal one.up ∷ [] in
    let last = decimal one.buttons ∷ decimal one.weapon ∷ [] in
    flat_map-append space first (steps ++ last) ∙ ap (λ (rest : List ℕ). spaced first ++ rest) (flat_map-append space steps last)
