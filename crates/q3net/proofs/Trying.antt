-- How a trial ends.
use Rattle.std.proofs.Common.{◌≡◌, ℕ, List, [], ◌∷◌, Option, Result, Ok, Err, refl, sym, ap, subst, ◌∙◌}
use Rattle.q3_profile.specs.declared.profile.Profile.{Profile}
use Rattle.q3_bits.specs.ResultBind.{◌>>=◌}
use Rattle.q3_script.specs.declared.event.Event.{Event}
use Rattle.q3_io.specs.Laws.{TextsFollow}
use Rattle.q3_io.specs.Written.{Written}
use Rattle.q3_io.specs.Told.{Told}
use Rattle.q3_make.specs.Generated.{generated}
use Rattle.q3_make.specs.Printed.{script_text}
use Rattle.q3_counts.specs.declared.counts.Counts.{Counts}
use Rattle.q3_counts.specs.Counts.{counted_all, no_counts}
use Rattle.q3_world.specs.World.{opening, answers}
use Rattle.q3_command.specs.declared.command.Draws.{Draws}
use Rattle.q3_runs.specs.declared.fault.Fault.{Fault}
use Rattle.q3_runs.specs.declared.fault.Fault.TheVariants as faults
use Rattle.q3_runs.specs.Verdict.{memory_first, all_first, settled, profile_in, GetsFrom}
use Rattle.q3_runs.specs.Run.{Executes, PrintsAll}
use Rattle.q3net.specs.Summary.{summary_text}
use Rattle.q3net.specs.Verdict.{summary, tried, IsTrialVerdict, IsMakeVerdict}
use Rattle.q3_runs.proofs.Looking.{got_ok}
use Rattle.q3_runs.proofs.Ending.{part_ended, wants_memory, text_executes}

-- ---- the script is printed

pub make_ended : (follow : TextsFollow) (draws : Draws) (old : Option Written) → Executes (IsMakeVerdict draws) old old (Err faults.NoMemory)
make_ended follow draws old = wants_memory follow (IsMakeVerdict draws) old (settled memory_first [] (Ok (script_text (generated draws.number draws.seed)))) refl tt

pub make_done : (draws : Draws) (events : List Event) (old now : Option Written) (ended : Result (Unit {0}) Fault)
    → events ≡ generated draws.number draws.seed → PrintsAll (script_text events) old now ended → Executes (IsMakeVerdict draws) old now ended
make_done draws events old now ended is prints =
    text_executes (IsMakeVerdict draws) old now memory_first [] (script_text events) ended
    (ap (λ (all : List Event). settled memory_first [] (Ok (script_text all))) is) prints

-- ---- a trial

-- the profile that its input ends, or the text
not_tried : (file : Option (List ℕ)) (draws : Draws) (e : Fault) → profile_in file ≡ Err e → tried file draws ≡ Err e
not_tried file draws e is = ap (λ (says : Result Profile Fault). says >>= (λ by. Ok (summary by (generated draws.number draws.seed)))) is

all_tried : (file : Option (List ℕ)) (draws : Draws) (by : Profile) → profile_in file ≡ Ok by → tried file draws ≡ Ok (summary by (generated draws.number draws.seed))
all_tried file draws by is = ap (λ (says : Result Profile Fault). says >>= (λ by. Ok (summary by (generated draws.number draws.seed)))) is

pub trial_refused : (follow : TextsFollow) (told : Option Told) (profile : List ℕ) (draws : Draws) (old : Option Written) (e : Fault) → GetsFrom profile_in told profile (Err e)
    → Executes (IsTrialVerdict told profile draws) old old (Err e)
trial_refused follow told profile draws old e gets =
    part_ended follow (IsTrialVerdict told profile draws) old all_first (profile ∷ []) (tried gets.0 draws) (profile_in gets.0) e
    (gets.0, gets.1, refl) tt tt (not_tried gets.0 draws e) gets.2

-- the verdict of a profile that passed
verdict_of : (told : Option Told) (profile : List ℕ) (draws : Draws) (by : Profile) → GetsFrom profile_in told profile (Ok by)
    → IsTrialVerdict told profile draws (settled all_first (profile ∷ []) (Ok (summary by (generated draws.number draws.seed))))
verdict_of told profile draws by passes =
    (passes.0, passes.1, ap (settled all_first (profile ∷ [])) (sym (all_tried passes.0 draws by (got_ok (profile_in passes.0) by passes.2))))

pub trial_stopped : (follow : TextsFollow) (told : Option Told) (profile : List ℕ) (draws : Draws) (by : Profile) (old : Option Written) → GetsFrom profile_in told profile (Ok by)
    → Executes (IsTrialVerdict told profile draws) old old (Err faults.NoMemory)
trial_stopped follow told profile draws by old passes =
    wants_memory follow (IsTrialVerdict told profile draws) old (settled all_first (profile ∷ []) (Ok (summary by (generated draws.number draws.seed)))) (verdict_of told profile draws by passes) tt

-- what a new world counted of all events
pub summed : (by : Profile) (draws : Draws) (start now : Counts) → start ≡ no_counts
    → now ≡ counted_all start (answers by (opening by) (generated draws.number draws.seed)) → summary_text now ≡ summary by (generated draws.number draws.seed)
unfolding summary
summed by draws start now none is = ap summary_text (is ∙ ap (λ (c : Counts). counted_all c (answers by (opening by) (generated draws.number draws.seed))) none)

pub trial_done : (told : Option Told) (profile : List ℕ) (draws : Draws) (by : Profile) (text : List ℕ) (old now : Option Written) (ended : Result (Unit {0}) Fault)
    → GetsFrom profile_in told profile (Ok by) → text ≡ summary by (generated draws.number draws.seed) → PrintsAll text old now ended
    → Executes (IsTrialVerdict told profile draws) old now ended
trial_done told profile draws by text old now ended passes is prints =
    text_executes (IsTrialVerdict told profile draws) old now all_first (profile ∷ []) (summary by (generated draws.number draws.seed)) ended (verdict_of told profile draws by passes)
    (subst (λ (t : List ℕ). PrintsAll t old now ended) is prints)
