-- Why the making of an index ends early: what the counts of files tell, after calls that left them.
use Rattle.std.proofs.Common.{◌≡◌, ℕ, ◌≤◌, Err, subst, ◌∙◌}
use Rattle.q3_io.specs.Faults.{Rose}
use Rattle.q3_demo.specs.declared.error.DemoError.{DemoError}
use Rattle.q3_demo.specs.declared.error.DemoError.TheVariants.{ReadFault, Truncated, BadLength, BadNumber, Message as NoMessage, NoMemory, WriteFault}
use Rattle.q3_index.specs.Running.{BuildCause, BuildWrites}

pub cause_so : (S T : Type 0) (before mid now : ℕ) (e : DemoError) → mid ≡ before → BuildCause {T = S} mid now (Err e) → BuildCause {T = T} before now (Err e)
cause_so S T before mid now ReadFault same cause = subst (λ n. (n ≤ now) × Rose n now) same cause
cause_so S T before mid now (Truncated at) same cause = cause ∙ same
cause_so S T before mid now (BadLength at) same cause = cause ∙ same
cause_so S T before mid now (BadNumber at) same cause = cause ∙ same
cause_so S T before mid now (NoMessage at why) same cause = cause ∙ same
cause_so S T before mid now NoMemory same cause = cause ∙ same
cause_so S T before mid now WriteFault same cause = cause ∙ same

pub writes_so : (S T : Type 0) (before mid now : ℕ) (e : DemoError) → mid ≡ before → BuildWrites {T = S} mid now (Err e) → BuildWrites {T = T} before now (Err e)
writes_so S T before mid now ReadFault same cause = cause ∙ same
writes_so S T before mid now (Truncated at) same cause = cause ∙ same
writes_so S T before mid now (BadLength at) same cause = cause ∙ same
writes_so S T before mid now (BadNumber at) same cause = cause ∙ same
writes_so S T before mid now (NoMessage at why) same cause = cause ∙ same
writes_so S T before mid now NoMemory same cause = cause ∙ same
writes_so S T before mid now WriteFault same cause = subst (λ n. (n ≤ now) × Rose n now) same cause
