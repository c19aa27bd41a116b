-- Names that were given, each with its call.
use Rattle.std.proofs.Common.{◌≡◌, ℕ, Bool, List, [], ◌∷◌, ◌++◌, length, refl, ap, arith}
use Rattle.q3_io.specs.Told.{Named}
use Rattle.q3_testio.specs.FileNumbers.{named_of, call_of}

-- one more
pub named_more : (names : List (List ℕ)) (calls : List Bool) (name : List ℕ) (creates : Bool) → length calls ≡ length names
    → named_of (names ++ name ∷ []) (calls ++ creates ∷ []) ≡ named_of names calls ++ record { name = name; call = call_of creates } ∷ []
unfolding named_of
named_more [] [] name creates e = refl
named_more [] (one ∷ calls) name creates e = absurd (omega arith)
named_more (other ∷ names) [] name creates e = absurd (omega arith)
named_more (other ∷ names) (one ∷ calls) name creates e =
    ap (λ (named : List Named). record { name = other; call = call_of one } ∷ named) (named_more names calls name creates (omega arith))
