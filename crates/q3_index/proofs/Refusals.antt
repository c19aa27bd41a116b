-- A record that is sought is refused.
use Rattle.std.proofs.Common.{◌≡◌, ℕ, List, drop, Option, Some, Result, Err, sym, ap, subst}
use Rattle.q3_bits.specs.ResultBind.{◌>>=◌, fault_as}
use Rattle.q3_io.specs.Told.{Told, contents_at}
use Rattle.q3_clstate.specs.declared.applied.Applied.{Applied}
use Rattle.q3_demo.specs.declared.error.DemoError.{DemoError}
use Rattle.q3_demo.specs.declared.error.DemoError.TheVariants.{ReadFault, Truncated, BadLength, BadNumber, Message as NoMessage, NoMemory, WriteFault}
use Rattle.q3_demo.specs.Laws.{RefusedForItsBytes}
use Rattle.q3_demo.specs.Playing.{Stepped, step, go_on}
use Rattle.q3_demo.specs.Player.{PlayerState, PlaysOn}
use Rattle.q3_demo.specs.Running.{HasFrom, ReadCause}
use Rattle.q3_index.specs.declared.error.SeekError.TheVariants.{Demo}
use Rattle.q3_index.specs.Running.{SeekCause, RefusesDemo}
use Rattle.q3_index.specs.Steps.{Answers, play_one, refused_as}
use Rattle.q3_index.proofs.Counting.{bytes_at, bytes_there}

-- ---- where the files are told

-- as the bytes that stand there say
one_refused : (step : Result (Option Stepped) DemoError) (was : PlayerState) (now : PlayerState) (e : DemoError) → PlaysOn step was now (Err e)
    → Answers {Y = Unit {0}} (λ x. now.played) (fault_as Demo (step >>= go_on was.played)) (Err (refused_as e))
one_refused step was now ReadFault plays = tt
one_refused step was now (Truncated at) plays = ap (λ (r : Result (Option Stepped) DemoError). fault_as Demo (r >>= go_on was.played)) plays
one_refused step was now (BadLength at) plays = ap (λ (r : Result (Option Stepped) DemoError). fault_as Demo (r >>= go_on was.played)) plays
one_refused step was now (BadNumber at) plays = ap (λ (r : Result (Option Stepped) DemoError). fault_as Demo (r >>= go_on was.played)) plays
one_refused step was now (NoMessage at cause) plays = ap (λ (r : Result (Option Stepped) DemoError). fault_as Demo (r >>= go_on was.played)) plays
one_refused step was now NoMemory plays = ap (λ (r : Result (Option Stepped) DemoError). fault_as Demo (r >>= go_on was.played)) plays
one_refused step was now WriteFault plays = ap (λ (r : Result (Option Stepped) DemoError). fault_as Demo (r >>= go_on was.played)) plays

-- the next record was played so in every demo that has these bytes there
abbrev PlaysSo : List ℕ → PlayerState → PlayerState → Result (Option Applied) DemoError → Type 0
PlaysSo bytes was now result = (demo : List ℕ) → drop was.played.at demo ≡ bytes → PlaysOn (step demo was.played) was now result

pub told_refused : (before : Option Told) (file : ℕ) (bytes : List ℕ) (was now : PlayerState) (e : DemoError) → HasFrom before file was.played.at bytes → PlaysSo bytes was now (Err e)
    → (told : Told) → before ≡ Some told → Answers {Y = Unit {0}} (λ x. now.played) (play_one (contents_at told file) was.played) (Err (refused_as e))
told_refused before file bytes was now e has plays told is =
    let here : bytes ≡ drop was.played.at (contents_at told file) = subst (λ (t : Option Told). HasFrom t file was.played.at bytes) is has in
    one_refused (step (contents_at told file) was.played) was now e (plays (contents_at told file) (sym here))

-- ---- whatever is told of them

pub cause_refused : (before now : ℕ) (e : DemoError) → ReadCause {T = Option Applied} before now (Err e) → SeekCause {T = Unit {0}} before now (Err (refused_as e))
cause_refused before now ReadFault cause = cause
cause_refused before now (Truncated at) cause = cause
cause_refused before now (BadLength at) cause = cause
cause_refused before now (BadNumber at) cause = cause
cause_refused before now (NoMessage at why) cause = cause
cause_refused before now NoMemory cause = cause
cause_refused before now WriteFault cause = cause

-- the demo isn't refused for what is outside of it
for_its_bytes : (law : RefusedForItsBytes) (demo : List ℕ) (was now : PlayerState) (e : DemoError) → PlaysOn (step demo was.played) was now (Err e) → RefusesDemo (refused_as e)
for_its_bytes law demo was now ReadFault plays = tt
for_its_bytes law demo was now (Truncated at) plays = tt
for_its_bytes law demo was now (BadLength at) plays = tt
for_its_bytes law demo was now (BadNumber at) plays = tt
for_its_bytes law demo was now (NoMessage at cause) plays = tt
for_its_bytes law demo was now NoMemory plays = absurd (law demo was.played NoMemory plays)
for_its_bytes law demo was now WriteFault plays = absurd (law demo was.played WriteFault plays)

pub refused_so : (law : RefusedForItsBytes) (bytes : List ℕ) (was now : PlayerState) (e : DemoError) → PlaysSo bytes was now (Err e) → RefusesDemo (refused_as e)
refused_so law bytes was now e plays =
    let demo : List ℕ = bytes_at was.played.at bytes in
    for_its_bytes law demo was now e (plays demo (bytes_there was.played.at bytes))
