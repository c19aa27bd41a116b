-- One step after another, where each may fail: `x ← step` of a `do` is this.
use Rattle.std.specs.Prelude.{Bool, List, Result, Ok, Err}
use Rattle.std.specs.Result.{result_map_both}

infixl 10 ◌>>=◌
abbrev pub ◌>>=◌ : {A B E : Type 0} → Result A E → (A → Result B E) → Result B E
(Ok x) >>= f = f x
(Err e) >>= f = Err e

-- an answer, or its fault made another one
abbrev pub fault_as : {A E D : Type 0} → (E → D) → Result A E → Result A D
fault_as {A = A} f r = result_map_both (λ (x : A). x) f r

-- what follows an answer, or its fault
abbrev pub left_of : {A E : Type 0} → Result (A × List Bool) E → Result (List Bool) E
left_of (Ok x) = Ok x.1
left_of (Err e) = Err e
