-- How a run ends.
use Rattle.std.proofs.Common.{◌≡◌, ℕ, Bool, true, false, List, [], ◌∷◌, ◌++◌, Option, Some, None, Result, Ok, Err, refl, sym, ap, subst, ◌∙◌, inl, inr, arith}
use Rattle.std.specs.Prelude.{if◌then◌else◌}
use Rattle.std.proofs.lemmas.List.{append-nil}
use Rattle.q3_io.specs.declared.address.Address.{Address}
use Rattle.q3_io.specs.Laws.{TextsFollow}
use Rattle.q3_io.specs.Written.{Written, Wrote}
use Rattle.q3_node.specs.declared.error.NodeError.{NodeError}
use Rattle.q3_node.specs.declared.error.NodeError.TheVariants as node
use Rattle.q3_node.specs.Node.{Turn, text_of}
use Rattle.q3_runs.specs.declared.fault.Fault.{Fault}
use Rattle.q3_runs.specs.declared.fault.Fault.TheVariants as faults
use Rattle.q3_command.specs.Command.{Command}
use Rattle.q3_runs.specs.Lines.{fault_status, ending_status, ending_line}
use Rattle.q3_runs.specs.Faults.{node_fault, FileCause}
use Rattle.q3_runs.specs.Verdict.{Verdict, Outside, stops_nowhere, settled}
use Rattle.q3_runs.specs.Run.{Executes, wire_by, Left, WiredBy, FailsBy, ExecutesWired}
use Rattle.q3net.specs.Verdict.{IsVerdict}
use Rattle.q3net.specs.Run.{HandsOn, Took, Prints, Reports}

-- ---- a command that reads nothing

pub none_executes : (follow : TextsFollow) (told : Outside) (old : Option Written) → Executes (IsVerdict told None) old old (Err faults.Usage)
none_executes follow told old = (settled stops_nowhere [] (Err faults.Usage), refl, inl ([], inl (refl, refl), follow.none))

-- ---- after a sink has failed

front_nil : (xs ys : List ℕ) → xs ++ ys ≡ [] → (xs ≡ []) × (ys ≡ [])
front_nil [] ys e = (refl, e)
front_nil (x ∷ xs) ys e = absurd cc

either_nil : (all : Bool) (ys : List ℕ) → ys ≡ [] → (if all then ys else []) ≡ []
either_nil true ys e = e
either_nil false ys e = refl

-- nothing waits then, and nothing more is handed on
nothing_more : (a b c : Option Written) (text : List ℕ) (all : Bool) → Wrote a b text false → Wrote b c [] all → Wrote a c text false
nothing_more a b c text all first second = record {
  untold = λ none. second.untold (first.untold none);
  told = λ had is.
      let one = first.told had is in
      let sent = had.sent ++ one.0 in
      let two = second.told (record { sent = sent; waits = [] }) one.3 in
      let gone = front_nil two.0 two.1 two.2 in (
        one.0,
        one.1,
        one.2,
        two.3
            ∙ (ap (λ (z : List ℕ). Some (record { sent = sent ++ z; waits = if all then two.1 else [] })) gone.0
            ∙ (ap (λ (z : List ℕ). Some (record { sent = z; waits = if all then two.1 else [] })) (append-nil sent)
            ∙ ap (λ (z : List ℕ). Some (record { sent = sent; waits = z })) (either_nil all two.1 gone.1))),
      );
}

-- ---- what was printed

-- where the sink has failed the fault line adds nothing, and the status is 4
failed : (mid now : Option Written) (ended : Result (Unit {0}) Fault) (status : ℕ) → ended ≡ Err faults.Write → Took ended (ending_line ended) mid now status
    → (status ≡ 4) × ((all : Bool) × Wrote mid now [] all)
failed mid now ended status is took =
    let none : ending_line ended ≡ [] = ap ending_line is in
    elim took [
      | inl all ↦ (all.0 ∙ ap ending_status is, (true, subst (λ (z : List ℕ). Wrote mid now z true) none all.1.0))
      | inr more ↦ (more.0, (false, subst (λ (z : List ℕ). Wrote mid now z false) none more.1))
    ]

still_fails : (at : Option Address) (turns : List Turn) (told : Outside) (old mid now : Option Written) (left : Left) (all : Bool) → Wrote mid now [] all
    → FailsBy at turns told old mid left → FailsBy at turns told old now left
still_fails None turns told old mid now left all nothing fails = fails
still_fails (Some at) turns told old mid now left all nothing fails = record {
  looked = fails.looked;
  given = fails.given;
  looks = fails.looks;
  clock = fails.clock;
  ends = record {
    first = fails.ends.first;
    last = fails.ends.last;
    rest = fails.ends.rest;
    whole = fails.ends.whole;
    mid = fails.ends.mid;
    passed = fails.ends.passed;
    flushed = fails.ends.flushed;
    stops = record {
      printed = nothing_more fails.ends.mid.written mid now (text_of (fails.ends.last ∷ [])) all fails.ends.stops.printed nothing;
      wire = fails.ends.stops.wire;
      files = fails.ends.stops.files;
    };
    read = fails.ends.read;
  };
}

pub prints : (follow : TextsFollow) (command : Option Command) (told : Outside) (before after : ℕ) (old mid now : Option Written) (left : Left) (ended : Result (Unit {0}) Fault) (status : ℕ)
    → ExecutesWired (IsVerdict told command) told old mid left ended → FileCause before after ended → Took ended (ending_line ended) mid now status → Prints command told before after old now left status
prints follow command told before after old mid now left ended status executes cause took =
    let verdict = executes.0 in
    elim executes.2 [
      | inl ends ↦ (verdict, executes.1, ended, cause, inl (ends.0, mid, ends.1, ends.2, ends.3, ends.4, took))
      | inr so ↦
          let no_more = failed mid now ended status so.0 took in (
            verdict,
            executes.1,
            ended,
            cause,
            inr (so.0, no_more.0, nothing_more old mid now verdict.text no_more.1.0 so.1 no_more.1.1, still_fails verdict.at verdict.turns told old mid now left no_more.1.0 no_more.1.1 so.2),
          )
    ]

-- ---- a command that is done

none_is_done : (ended : Result (Unit {0}) Fault) → ending_status ended ≡ 0 → ended ≡ Ok tt
none_is_done (Ok x) none = refl
none_is_done (Err e) none = absurd (no_status e none)
  where
    no_status : (e : Fault) → fault_status e ≡ 0 → ⊥
    no_status faults.NoMemory none = omega (arith, none)
    no_status faults.Usage none = omega (arith, none)
    no_status faults.Read none = omega (arith, none)
    no_status faults.Write none = omega (arith, none)
    no_status faults.FileWrite none = omega (arith, none)
    no_status (faults.Profile e) none = omega (arith, none)
    no_status (faults.Script line cause) none = omega (arith, none)
    no_status faults.Wire none = omega (arith, none)
    no_status faults.Turns none = omega (arith, none)
    no_status (faults.Demo e) none = omega (arith, none)
    no_status (faults.Index e) none = omega (arith, none)
    no_status (faults.PastEnd records) none = omega (arith, none)

no_early : (e : NodeError) (ended : Result (Unit {0}) Fault) → ended ≡ Ok tt → ended ≡ Err (node_fault e) → ⊥
no_early node.NoMemory ended done is = cc
no_early node.WireFault ended done is = cc
no_early node.WriteFault ended done is = cc
no_early node.FileFault ended done is = cc
no_early node.Turns ended done is = cc

all_wired : (at : Option Address) (verdict : Verdict) (printed : List ℕ) (told : Outside) (old now : Option Written) (left : Left) → WiredBy at verdict (Ok tt) printed told old now left
    → left.wire ≡ wire_by told.wire at verdict.turns
all_wired None verdict printed told old now left by = by
all_wired (Some at) verdict printed told old now left by =
    elim by [
      | inl all ↦ all.1
      | inr early ↦ elim early [
        | inl before ↦ absurd before.0
        | inr stops ↦ absurd (no_early stops.0 (Ok tt) refl stops.1)
      ]
    ]

done_reports : (follow : TextsFollow) (command : Option Command) (told : Outside) (old mid now : Option Written) (left : Left)
    → ExecutesWired (IsVerdict told command) told old mid left (Ok tt) → HandsOn mid now [] → Reports command told old now left.wire
done_reports follow command told old mid now left executes hands =
    let verdict = executes.0 in
    elim executes.2 [
      | inl ends ↦ elim ends.1 [
        | inl said ↦ (
          verdict,
          executes.1,
          sym said.0,
          (follow.more ends.3 hands.0 (sym said.1 ∙ sym (append-nil ends.0)), hands.1),
          all_wired verdict.at verdict ends.0 told old mid left ends.2,
        )
        | inr stopped ↦ absurd (let no : Ok tt ≡ Err stopped.0 = stopped.1 in cc)
      ]
      | inr failed ↦ absurd (let no : Ok tt ≡ Err faults.Write = failed.0 in cc)
    ]

pub reports : (follow : TextsFollow) (command : Option Command) (told : Outside) (old mid now : Option Written) (left : Left) (ended : Result (Unit {0}) Fault) (status : ℕ)
    → ExecutesWired (IsVerdict told command) told old mid left ended → Took ended (ending_line ended) mid now status → status ≡ 0 → Reports command told old now left.wire
reports follow command told old mid now left ended status executes took none =
    elim took [
      | inl all ↦ (
          let done = none_is_done ended (sym all.0 ∙ none) in
          done_reports follow command told old mid now left (subst (λ (e : Result (Unit {0}) Fault). ExecutesWired (IsVerdict told command) told old mid left e) done executes)
          (subst (λ (e : Result (Unit {0}) Fault). HandsOn mid now (ending_line e)) done all.1)
          )
      | inr front ↦ absurd (omega (arith, front.0, none))
    ]
