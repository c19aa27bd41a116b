-- Answers that are values.
use Rattle.std.proofs.Common.{◌≡◌, Option, Some, None, Result, Ok, ap}
use Rattle.std.specs.Option.{ok_or}

-- an answer
abbrev pub done : {A E : Type 0} → A → Result A E
done x = Ok x

-- answers that are the same have the same value
pub ok_is : {A E : Type 0} (x y : A) → done {E = E} x ≡ done y → x ≡ y
ok_is x y e = cc

-- what a cause was not needed for
pub ok_or-ok : {A E : Type 0} (o : Option A) (cause : E) (x : A) → ok_or o cause ≡ Ok x → o ≡ Some x
ok_or-ok (Some y) cause x e = ap (λ z. Some z) (ok_is y x e)
ok_or-ok None cause x e = absurd cc
