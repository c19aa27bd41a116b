-- How a command ends.
use Rattle.std.proofs.Common.{◌≡◌, ◌≢◌, ℕ, List, [], ◌∷◌, Option, Result, Ok, Err, refl, sym, subst, inl, inr}
use Rattle.q3_io.specs.Acts.{FileAct}
use Rattle.q3_io.specs.Laws.{TextsFollow}
use Rattle.q3_io.specs.Written.{Written}
use Rattle.q3_runs.specs.declared.fault.Fault.{Fault}
use Rattle.q3_runs.specs.declared.fault.Fault.TheVariants as faults
use Rattle.q3_runs.specs.Faults.{Gets}
use Rattle.q3_runs.specs.Input.{IsFront}
use Rattle.q3_runs.specs.Verdict.{StopPlace, Nowhere, First, Anywhere, Stops, Verdict, writes_by, settled}
use Rattle.q3_runs.specs.Run.{Comes, ComesAfter, Executes, PrintsAll}

-- ---- where something may stop a command

-- before its text
comes_first : (place : StopPlace) (text : List ℕ) → Comes place → ComesAfter place [] text
comes_first Nowhere text comes = comes
comes_first First text comes = refl
comes_first Anywhere text comes = (text, refl)

-- and anywhere at all
pub comes_after : (place : StopPlace) (printed text : List ℕ) → ComesAfter place printed text → Comes place
comes_after Nowhere printed text behind = behind
comes_after First printed text behind = tt
comes_after Anywhere printed text behind = tt

-- what is settled stops where it is said to
pub settled_memory : (stops : Stops) (names : List (List ℕ)) (answer : Result (List ℕ) Fault) → Comes stops.memory → Comes (settled stops names answer).stops.memory
settled_memory stops names (Ok text) comes = comes
settled_memory stops names (Err e) comes = comes

pub settled_reads : (stops : Stops) (names : List (List ℕ)) (answer : Result (List ℕ) Fault) → Comes stops.reads → Comes (settled stops names answer).stops.reads
settled_reads stops names (Ok text) comes = comes
settled_reads stops names (Err e) comes = comes

pub settled_writes : (stops : Stops) (names : List (List ℕ)) (answer : Result (List ℕ) Fault) → Comes (settled stops names answer).stops.writes → Comes stops.writes
settled_writes stops names (Ok text) comes = comes
settled_writes stops names (Err e) comes = comes

pub settled_wire : (stops : Stops) (names : List (List ℕ)) (answer : Result (List ℕ) Fault) → Comes (settled stops names answer).stops.wire → Comes stops.wire
settled_wire stops names (Ok text) comes = comes
settled_wire stops names (Err e) comes = comes

-- ---- a command that prints a text

-- a text of one write
pub text_executes : (Rule : Verdict → Type 0) (old now : Option Written) (stops : Stops) (names : List (List ℕ)) (text : List ℕ) (ended : Result (Unit {0}) Fault)
    → Rule (settled stops names (Ok text)) → PrintsAll text old now ended → Executes Rule old now ended
text_executes Rule old now stops names text ended is prints =
    elim prints [
      | inl all ↦ (settled stops names (Ok text), is, inl (text, inl (all.0, refl), all.1))
      | inr front ↦ (settled stops names (Ok text), is, inr front)
    ]

-- ---- a command that ends before it has printed anything

-- by its verdict
pub refused_so : (follow : TextsFollow) (Rule : Verdict → Type 0) (old : Option Written) (verdict : Verdict) (e : Fault)
    → Rule verdict → verdict.ending ≡ Err e → verdict.text ≡ [] → Executes Rule old old (Err e)
refused_so follow Rule old verdict e is ends nothing = (verdict, is, inl ([], inl (sym ends, sym nothing), follow.none))

-- its input ended it
pub refused : (follow : TextsFollow) (Rule : Verdict → Type 0) (old : Option Written) (stops : Stops) (names : List (List ℕ)) (e : Fault)
    → Rule (settled stops names (Err e)) → Executes Rule old old (Err e)
refused follow Rule old stops names e is = (settled stops names (Err e), is, inl ([], inl (refl, refl), follow.none))

-- memory ran out
pub wants_memory : (follow : TextsFollow) (Rule : Verdict → Type 0) (old : Option Written) (verdict : Verdict)
    → Rule verdict → Comes verdict.stops.memory → Executes Rule old old (Err faults.NoMemory)
wants_memory follow Rule old verdict is may =
    (verdict, is, inl ([], inr (faults.NoMemory, refl, comes_first verdict.stops.memory verdict.text may), follow.none))

-- a read failed
pub fails_reading : (follow : TextsFollow) (Rule : Verdict → Type 0) (old : Option Written) (verdict : Verdict)
    → Rule verdict → Comes verdict.stops.reads → Executes Rule old old (Err faults.Read)
fails_reading follow Rule old verdict is may =
    (verdict, is, inl ([], inr (faults.Read, refl, comes_first verdict.stops.reads verdict.text may), follow.none))

-- a file that it makes can't be written
pub fails_writing : (follow : TextsFollow) (Rule : Verdict → Type 0) (old : Option Written) (verdict : Verdict)
    → Rule verdict → Comes verdict.stops.writes → Executes Rule old old (Err faults.FileWrite)
fails_writing follow Rule old verdict is may =
    (verdict, is, inl ([], inr (faults.FileWrite, refl, comes_first verdict.stops.writes verdict.text may), follow.none))

-- a part that reads a file ended it
pub part_ended : {A : Type 0} (follow : TextsFollow) (Rule : Verdict → Type 0) (old : Option Written) (stops : Stops) (names : List (List ℕ)) (answer : Result (List ℕ) Fault)
    (said : Result A Fault) (e : Fault) → Rule (settled stops names answer) → Comes stops.memory → Comes stops.reads
    → (said ≡ Err e → answer ≡ Err e) → Gets said (Err e) → Executes Rule old old (Err e)
part_ended follow Rule old stops names answer said e is may reads so gets =
    elim gets [
      | inl by_input ↦ refused follow Rule old stops names e (subst (λ (a : Result (List ℕ) Fault). Rule (settled stops names a)) (so (sym by_input)) is)
      | inr outside ↦ elim outside [
        | inl memory ↦ (
            let so : e ≡ faults.NoMemory = cc in
            subst (λ (d : Fault). Executes Rule old old (Err d)) (sym so) (wants_memory follow Rule old (settled stops names answer) is (settled_memory stops names answer may))
            )
        | inr read ↦ (
            let so : e ≡ faults.Read = cc in
            subst (λ (d : Fault). Executes Rule old old (Err d)) (sym so) (fails_reading follow Rule old (settled stops names answer) is (settled_reads stops names answer reads))
            )
      ]
    ]

-- a file fails only where something is done to files
pub writes_some : (acts : List FileAct) (printed text : List ℕ) → acts ≢ [] → IsFront printed text → ComesAfter (writes_by acts) printed text
writes_some [] printed text some front = absurd (some refl)
writes_some (act ∷ acts) printed text some front = front
