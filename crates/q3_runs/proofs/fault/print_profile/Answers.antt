use Rattle.std.proofs.Common.{◌≡◌, sym, subst}
use Rattle.std.specs.Prelude.{is_ok}
use Rattle.q3_io.specs.Written.{Wrote}
use Rattle.q3_profile.specs.declared.error.Key.{Key}
use Rattle.q3_profile.specs.declared.error.Key.TheVariants.{File}
use Rattle.q3_profile.specs.declared.error.ProfileError.TheVariants.{Limit}
use Rattle.q3_runs.specs.Lines.{profile_line}
use Rattle.q3_runs.proofs.fault.print_profile.Goals as goal

pub returns-in-Limit-File-clause-adds : goal.returns-in-Limit-File-clause-adds
returns-in-Limit-File-clause-adds g c =
    let file : c.in-Limit-File.field-0 ≡ File = rw c.in-Limit-File.is at c.in-Limit-File.field-0-is in
    rw c.in-Limit-File.is (subst (λ (key : Key). Wrote (g.O.Sink.written c.args.out.now) (g.O.Sink.written c.print_all-in-Limit-File.new.out) (profile_line (Limit key)) (is_ok c.print_all-in-Limit-File.result)) (sym file) c.print_all-in-Limit-File.ensures.adds)
