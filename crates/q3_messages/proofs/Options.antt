-- What holds of the value of an option, if there is one.
use Rattle.std.proofs.Common.{Option, Some, None}
use Rattle.std.specs.Prelude.{IfSome}

pub if_some_then : {X : Type 0} (o : Option X) (P Q : X → Type 0) → ((x : X) → P x → Q x) → IfSome o P → IfSome o Q
if_some_then None P Q each is = tt
if_some_then (Some x) P Q each is = each x is

-- of three facts
pub three_some : {X : Type 0} (o : Option X) (P Q R : X → Type 0) → IfSome o P → IfSome o Q → IfSome o R → IfSome o (λ x. P x × Q x × R x)
three_some None P Q R p q r = tt
three_some (Some x) P Q R p q r = (p, q, r)
