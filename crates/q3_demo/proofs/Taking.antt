-- A step is taken: what was played, and what was printed of it.
use Rattle.std.proofs.Common.{◌≡◌, ℕ, ◌+◌, ◌≤◌, Bool, List, [], ◌∷◌, ◌++◌, drop, codes, decimal, Option, Some, None, Result, Ok, Err, refl, sym, ap, subst, ◌∙◌, arith}
use Rattle.std.specs.Prelude.{IfErr, is_ok}
use Rattle.std.specs.List.{concat}
use Rattle.std.proofs.Math.ListN.{replicate}
use Rattle.std.proofs.lemmas.List.{drop_at, length-replicate}
use Rattle.q3_io.specs.Written.{Written, Wrote}
use Rattle.q3_io.specs.Laws.{TextsFollow}
use Rattle.q3_text.specs.declared.text.Command.{Command}
use Rattle.q3_clstate.specs.declared.applied.Applied.{Applied}
use Rattle.q3_clstate.specs.State.{AppliedState}
use Rattle.q3_clstate.specs.Report.{applied_text}
use Rattle.q3_demo.specs.declared.error.DemoError.{DemoError}
use Rattle.q3_demo.specs.declared.error.DemoError.TheVariants.{ReadFault, Truncated, BadLength, BadNumber, Message as NoMessage, NoMemory, WriteFault}
use Rattle.q3_demo.specs.Records.{piece_of}
use Rattle.q3_demo.specs.Report.{state_text}
use Rattle.q3_demo.specs.Playing.{Played, Stepped, step, at_most}
use Rattle.q3_demo.specs.Player.{PlayerState, PlaysOn}
use Rattle.q3_demo.specs.Running.{Plays, WriteCause}
use Rattle.q3_demo.specs.Steps.{step_text, Leads, Fails, after_limit}
use Rattle.q3_demo.proofs.Going.{was_played, ends_limit, refuses_limit}
use Rattle.q3_demo.proofs.Refusals.{step_refused}

-- some demo has these bytes there
some_demo : (at : ℕ) (bytes : List ℕ) → (demo : List ℕ) × (drop at demo ≡ bytes)
some_demo at bytes = (replicate at 0 ++ bytes, drop_at (replicate at 0) bytes at (length-replicate at 0))

-- the next record was played so in every demo that has these bytes there
abbrev pub PlaysSo : List ℕ → PlayerState → PlayerState → Result (Option Applied) DemoError → Type 0
PlaysSo bytes was now result = (demo : List ℕ) → drop was.played.at demo ≡ bytes → PlaysOn (step demo was.played) was now result

-- ---- what a demo is refused for

-- nothing is printed then
pub refuses_step : (demo : List ℕ) (was now : PlayerState) (written : Option Written) (e : DemoError) → PlaysOn (step demo was.played) was now (Err e) → Fails (step demo was.played) was.played written written e
refuses_step demo was now written ReadFault plays = refl
refuses_step demo was now written (Truncated at) plays = (plays, refl)
refuses_step demo was now written (BadLength at) plays = (plays, refl)
refuses_step demo was now written (BadNumber at) plays = (plays, refl)
refuses_step demo was now written (NoMessage at cause) plays = (plays, refl)
refuses_step demo was now written NoMemory plays = absurd (step_refused demo was.played NoMemory plays)
refuses_step demo was now written WriteFault plays = absurd (step_refused demo was.played WriteFault plays)

pub refuses_quietly : (faults : ℕ) (bytes : List ℕ) (was now : PlayerState) (e : DemoError) → PlaysSo bytes was now (Err e) → WriteCause {T = Bool} faults faults (Err e)
refuses_quietly faults bytes was now ReadFault plays = refl
refuses_quietly faults bytes was now (Truncated at) plays = refl
refuses_quietly faults bytes was now (BadLength at) plays = refl
refuses_quietly faults bytes was now (BadNumber at) plays = refl
refuses_quietly faults bytes was now (NoMessage at cause) plays = refl
refuses_quietly faults bytes was now NoMemory plays = refl
refuses_quietly faults bytes was now WriteFault plays =
    let demo = some_demo was.played.at bytes in
    absurd (step_refused demo.0 was.played WriteFault (plays demo.0 demo.1))

-- ---- a record

-- its lines
abbrev pub lines : ℕ → ℕ → AppliedState → Applied → List Command → List ℕ
lines index number state answer heard =
    concat (codes "record " ∷ decimal index ∷ codes " number " ∷ decimal number ∷ codes "\n" ∷ applied_text state answer heard ∷ [])

stepped_text : (demo : List ℕ) (now : Played) (stepped : Stepped) → step demo now ≡ Ok (Some stepped)
    → stepped.text ≡ lines now.records stepped.played.last stepped.played.state stepped.applied.answer stepped.applied.heard
stepped_text demo now stepped is =
    subst (λ (s : Stepped). s.text ≡ lines now.records s.played.last s.played.state s.applied.answer s.applied.heard) (was_played demo now stepped is).stepped_is refl

same_lines : {index index' number number' : ℕ} {state state' : AppliedState} {answer answer' : Applied} {heard heard' : List Command}
    → index ≡ index' → number ≡ number' → state ≡ state' → answer ≡ answer' → heard ≡ heard' → lines index number state answer heard ≡ lines index' number' state' answer' heard'
same_lines a b d e f = cc

pub record_lines : (demo : List ℕ) (was now : PlayerState) (index number : ℕ) (state : AppliedState) (answer : Applied) (heard : List Command)
    → PlaysOn (step demo was.played) was now (Ok (Some answer)) → index ≡ was.played.records → number ≡ now.played.last → state ≡ now.played.state → heard ≡ now.heard
    → lines index number state answer heard ≡ step_text was.played (step demo was.played)
record_lines demo was now index number state answer heard plays index_is number_is state_is heard_is =
    let stepped : Stepped = plays.0 in
    same_lines index_is (number_is ∙ ap (λ (p : PlayerState). p.played.last) plays.2) (state_is ∙ ap (λ (p : PlayerState). p.played.state) plays.2) plays.3
    (heard_is ∙ ap (λ (p : PlayerState). p.heard) plays.2)
    ∙ sym (stepped_text demo was.played stepped plays.1) ∙ sym (ap (step_text was.played) plays.1)

pub record_leads : (step : Result (Option Stepped) DemoError) (was now : PlayerState) (answer : Applied) → PlaysOn step was now (Ok (Some answer)) → Leads step now.played
record_leads step was now answer plays =
    subst (λ (s : Result (Option Stepped) DemoError). Leads s now.played) (sym plays.1) (sym (ap (λ (p : PlayerState). p.played) plays.2))

-- at most one more is counted
pub counts_one : (bytes : List ℕ) (was now : PlayerState) (answer : Option Applied) → PlaysSo bytes was now (Ok answer) → now.played.records ≤ was.played.records + 1
counts_one bytes was now None plays =
    let demo = some_demo was.played.at bytes in
    let same = plays demo.0 demo.1 in
    omega (arith, ap (λ (p : PlayerState). p.played.records) same.1)
counts_one bytes was now (Some answer) plays =
    let demo = some_demo was.played.at bytes in
    let one = plays demo.0 demo.1 in
    let stepped : Stepped = one.0 in
    let was-one = was_played demo.0 was.played stepped one.1 in
    omega (arith, ap (λ (p : PlayerState). p.played.records) one.2, ap (λ (s : Stepped). s.played.records) was-one.stepped_is)

-- ---- after the last record that may be played

pub limit_ends : (law : TextsFollow) (bytes : List ℕ) (was now : PlayerState) (mid after : Option Written) (result : Result (Unit {0}) DemoError) → PlaysSo bytes was now (Ok None)
    → Wrote mid after (state_text now.played.state now.played.records) (is_ok result) → IfErr result (λ e. e ≡ WriteFault)
    → Plays (at_most was.played (piece_of bytes was.played.at was.played.last)) mid after result
limit_ends law bytes was now mid after result plays wrote only =
    let demo = some_demo was.played.at bytes in
    let here = plays demo.0 demo.1 in
    ends_limit law demo.0 bytes was.played mid after result demo.1 here.0
    (subst (λ (p : PlayerState). Wrote mid after (state_text p.played.state p.played.records) (is_ok result)) here.1 wrote) only

pub limit_refuses : (law : TextsFollow) (bytes : List ℕ) (was now : PlayerState) (answer : Applied) (written : Option Written) → PlaysSo bytes was now (Ok (Some answer))
    → Plays (at_most was.played (piece_of bytes was.played.at was.played.last)) written written (Err (Truncated was.played.at))
limit_refuses law bytes was now answer written plays =
    let demo = some_demo was.played.at bytes in
    let here = plays demo.0 demo.1 in
    refuses_limit law demo.0 bytes was.played written (Ok (Some here.0)) demo.1 here.1 (λ e. absurd cc)

limit_so : (law : TextsFollow) (bytes : List ℕ) (was : PlayerState) (at : ℕ) (e : DemoError) (written : Option Written) → ((demo : List ℕ) → drop was.played.at demo ≡ bytes → step demo was.played ≡ Err e)
    → at ≡ was.played.at → Plays (at_most was.played (piece_of bytes was.played.at was.played.last)) written written (Err (Truncated at))
limit_so law bytes was at e written refuses at_is =
    let demo = some_demo was.played.at bytes in
    subst (λ (n : ℕ). Plays (at_most was.played (piece_of bytes was.played.at was.played.last)) written written (Err (Truncated n))) (sym at_is)
    (refuses_limit law demo.0 bytes was.played written (Err e) demo.1 (refuses demo.0 demo.1) (λ is. absurd cc))

pub limit_fails : (law : TextsFollow) (bytes : List ℕ) (was now : PlayerState) (at : ℕ) (e : DemoError) (written : Option Written) → PlaysSo bytes was now (Err e) → at ≡ was.played.at
    → Plays (at_most was.played (piece_of bytes was.played.at was.played.last)) written written (Err (after_limit at e))
limit_fails law bytes was now at ReadFault written plays at_is = (0, law.none)
limit_fails law bytes was now at (Truncated n) written plays at_is = limit_so law bytes was at (Truncated n) written plays at_is
limit_fails law bytes was now at (BadLength n) written plays at_is = limit_so law bytes was at (BadLength n) written plays at_is
limit_fails law bytes was now at (BadNumber n) written plays at_is = limit_so law bytes was at (BadNumber n) written plays at_is
limit_fails law bytes was now at (NoMessage n cause) written plays at_is = limit_so law bytes was at (NoMessage n cause) written plays at_is
limit_fails law bytes was now at NoMemory written plays at_is = limit_so law bytes was at NoMemory written plays at_is
limit_fails law bytes was now at WriteFault written plays at_is = limit_so law bytes was at WriteFault written plays at_is
