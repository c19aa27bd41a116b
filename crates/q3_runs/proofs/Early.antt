-- A command that something from outside ends before its first line.
use Rattle.std.proofs.Common.{◌≡◌, List, [], ◌++◌, Option, Result, Ok, Err, refl, sym, subst, inl, inr}
use Rattle.std.specs.Prelude.{◌⊎◌}
use Rattle.q3_io.specs.Laws.{TextsFollow}
use Rattle.q3_io.specs.Told.{Told, Named}
use Rattle.q3_io.specs.Written.{Written}
use Rattle.q3_runs.specs.declared.fault.Fault.{Fault}
use Rattle.q3_runs.specs.declared.fault.Fault.TheVariants as faults
use Rattle.q3_runs.specs.Faults.{IsOutside}
use Rattle.q3_runs.specs.Input.{LeavesFirst}
use Rattle.q3_runs.specs.Verdict.{Verdict}
use Rattle.q3_runs.specs.Run.{Comes, Executes, PrintsAll, LeavesFiles}
use Rattle.q3_runs.proofs.Acting.{first_more}
use Rattle.q3_runs.proofs.Ending.{wants_memory, fails_reading}

-- a verdict of the command gives these names first; want of memory and a failed read may come
pub record MayEnd (Rule : Verdict → Type 0) (named : List Named) : Type 0 where
  pub verdict : Verdict
  pub is : Rule verdict
  pub memory : Comes verdict.stops.memory
  pub reads : Comes verdict.stops.reads
  pub others : List Named
  pub names : verdict.named ≡ named ++ others

pub ends_early : (follow : TextsFollow) (Rule : Verdict → Type 0) (named : List Named) (old : Option Written) (e : Fault) → MayEnd Rule named
    → (e ≡ faults.NoMemory) ⊎ (e ≡ faults.Read) → Executes Rule old old (Err e)
ends_early follow Rule named old e may early =
    elim early [
      | inl memory ↦ subst (λ (d : Fault). Executes Rule old old (Err d)) (sym memory) (wants_memory follow Rule old may.verdict may.is may.memory)
      | inr read ↦ subst (λ (d : Fault). Executes Rule old old (Err d)) (sym read) (fails_reading follow Rule old may.verdict may.is may.reads)
    ]

pub is_outside : (e : Fault) → (e ≡ faults.NoMemory) ⊎ (e ≡ faults.Read) → IsOutside e
is_outside e early = elim early [ inl memory ↦ subst IsOutside (sym memory) tt | inr read ↦ subst IsOutside (sym read) tt ]

pub leaves_early : (told now : Option Told) (Rule : Verdict → Type 0) (named : List Named) (e : Fault) → MayEnd Rule named
    → (e ≡ faults.NoMemory) ⊎ (e ≡ faults.Read) → LeavesFirst told now named [] → LeavesFiles Rule told now (Err e)
leaves_early told now Rule named e may early first = (
  may.verdict,
  may.is,
  inr (
    is_outside e early,
    subst (λ (all : List Named). LeavesFirst told now all may.verdict.acts) (sym may.names)
        (first_more told now named may.others [] may.verdict.acts first),
  ),
)

-- what a part that reads got from outside
pub outside_of : {A : Type 0} (got : Result A Fault) (e : Fault) → got ≡ Err e → (got ≡ Err faults.NoMemory) ⊎ (got ≡ Err faults.Read) → (e ≡ faults.NoMemory) ⊎ (e ≡ faults.Read)
outside_of got e is outside = elim outside [ inl memory ↦ inl (cc) | inr read ↦ inr (cc) ]

-- its text was printed, or a front of it
pub printed_so : (Rule : Verdict → Type 0) (old now : Option Written) (verdict : Verdict) (ended : Result (Unit {0}) Fault)
    → Rule verdict → verdict.ending ≡ Ok tt → PrintsAll verdict.text old now ended → Executes Rule old now ended
printed_so Rule old now verdict ended is done prints =
    elim prints [
      | inl all ↦ (verdict, is, inl (verdict.text, inl (subst (λ (e : Result (Unit {0}) Fault). ended ≡ e) (sym done) all.0, refl), all.1))
      | inr front ↦ (verdict, is, inr front)
    ]
