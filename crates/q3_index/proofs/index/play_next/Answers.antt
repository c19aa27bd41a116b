use Rattle.q3_index.proofs.Stepping.{records_rise}
use Rattle.q3_index.proofs.Refusals.{told_refused, cause_refused, refused_so}
use Rattle.q3_index.proofs.index.play_next.Goals as goal

pub returns-in-Ok-Some-clause-records : goal.returns-in-Ok-Some-clause-records
returns-in-Ok-Some-clause-records g c =
    let plays = rw c.in-Ok-Some.field-0-is at c.in-Ok-Some.ensures.plays in
    records_rise c.args.player.now c.next.new.self plays.0 c.in-Ok-Some.field-0-0 plays.2

pub returns-in-Err-clause-plays : goal.returns-in-Err-clause-plays
returns-in-Err-clause-plays g c =
    let plays = c.in-Err.ensures.plays in
    rw c.refused_as.ensures (told_refused (g.F.Files.told c.args.files.now) c.args.demo plays.0 c.args.player.now c.next.new.self c.in-Err.error plays.1 plays.2)

pub returns-in-Err-clause-refusal : goal.returns-in-Err-clause-refusal
returns-in-Err-clause-refusal g c =
    let plays = c.in-Err.ensures.plays in
    rw c.refused_as.ensures (refused_so c.refused_for_its_bytes.ensures plays.0 c.args.player.now c.next.new.self c.in-Err.error plays.2)

pub returns-in-Err-clause-cause : goal.returns-in-Err-clause-cause
returns-in-Err-clause-cause g c = rw c.refused_as.ensures (cause_refused (g.F.Files.faults c.args.files.now) (g.F.Files.faults c.next.new.files) c.in-Err.error c.in-Err.ensures.read_cause)
