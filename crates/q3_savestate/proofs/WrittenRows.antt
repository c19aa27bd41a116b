-- Rows of calls that write.
use Rattle.std.proofs.Common.{ℕ, Bool, List, [], ◌++◌, Option, sym, subst}
use Rattle.std.proofs.lemmas.List.{append-nil}
use Rattle.q3_io.specs.Written.{Written, Wrote}

-- the last of them
pub row_ends : {old new : Option Written} {text : List ℕ} {all : Bool} → Wrote old new text all → Wrote old new (text ++ []) all
row_ends {old = old} {new = new} {text = text} {all = all} wrote = subst (λ text. Wrote old new text all) (sym (append-nil text)) wrote
