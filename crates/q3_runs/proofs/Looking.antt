-- Which names a run gives to the files.
use Rattle.std.proofs.Common.{◌≡◌, ℕ, List, [], ◌∷◌, ◌++◌, map, Option, Some, None, Result, Ok, Err, refl, sym, ap, subst, ◌∙◌, append_assoc, inl, inr}
use Rattle.std.specs.Prelude.{◌⊎◌}
use Rattle.std.proofs.lemmas.List.{append-nil}
use Rattle.q3_profile.specs.declared.profile.Profile.{Profile}
use Rattle.q3_io.specs.Acts.{FileAct, Extends, after_acts}
use Rattle.q3_io.specs.Told.{Told, Named}
use Rattle.q3_runs.specs.declared.fault.Fault.{Fault}
use Rattle.q3_runs.specs.declared.fault.Fault.TheVariants as faults
use Rattle.q3_runs.specs.Faults.{Gets, IsOutside}
use Rattle.q3_runs.specs.Input.{IsFront, looked_up, Leaves, LeavesTold, AreBegun, LeavesFirst, Touches, LooksUpTold, LooksUpFirst, Gives}
use Rattle.q3_runs.specs.Verdict.{Stops, settled, names_by, profile_in}
use Rattle.q3_runs.proofs.Acting.{first_more}
use Rattle.q3_bits.specs.ResultBind.{◌>>=◌}

-- no name was given
pub looks_none : (told : Option Told) → LooksUpTold told told []
unfolding after_acts
looks_none None = refl
looks_none (Some told) = (told, refl, record { files = refl; named = sym (append-nil told.named) })

-- one name, and then others
leaves_two : (told mid now : Told) (one : Named) (others : List Named) → Leaves told mid (one ∷ []) [] → Leaves mid now others [] → Leaves told now (one ∷ others) []
unfolding after_acts
leaves_two told mid now one others first second =
    record {
      files = second.files ∙ first.files;
      named = second.named ∙ (ap (λ (given : List Named). given ++ others) first.named ∙ append_assoc told.named (one ∷ []) others);
    }

pub leaves_then : (told mid now : Option Told) (one : Named) (others : List Named) → LeavesTold told mid (one ∷ []) [] → LeavesTold mid now others [] → LeavesTold told now (one ∷ others) []
leaves_then None mid now one others first second = subst (λ (m : Option Told). LeavesTold m now others []) first second
leaves_then (Some told) mid now one others first second =
    let then = subst (λ (m : Option Told). LeavesTold m now others []) first.1 second in
    (then.0, then.1, leaves_two told first.0 then.0 one others first.2 then.2)

-- of no acts none are begun
no_front : (act : FileAct) (begun : List FileAct) → IsFront (act ∷ begun) [] → ⊥
no_front act begun front = let no : act ∷ (begun ++ front.0) ≡ [] = front.1 in absurd cc

no_act : (first : List FileAct) (name bytes : List ℕ) → IsFront (first ++ Extends name bytes ∷ []) [] → ⊥
no_act [] name bytes front = no_front (Extends name bytes) [] front
no_act (act ∷ first) name bytes front = no_front act (first ++ Extends name bytes ∷ []) front

none_begun : (begun : List FileAct) → AreBegun begun [] → begun ≡ []
none_begun [] is = refl
none_begun (act ∷ begun) is = absurd (elim is [ inl front ↦ no_front act begun front | inr broken ↦ no_act broken.0 broken.1 broken.3 broken.6 ])

pub first_then : (told mid now : Option Told) (one : Named) (others : List Named) → LeavesTold told mid (one ∷ []) [] → LeavesFirst mid now others [] → LeavesFirst told now (one ∷ others) []
first_then told mid now one others first second =
    let left = subst (λ (begun : List FileAct). LeavesTold mid now second.0 begun) (none_begun second.1 second.3) second.4 in (
      one ∷ second.0,
      [],
      (second.2.0, ap (λ (names : List Named). one ∷ names) second.2.1),
      inl ([], refl),
      leaves_then told mid now one second.0 first left,
    )

-- ---- the parts of a replay

-- a part that ended well gave its name
pub gave : {A : Type 0} (x : A) (names : List (List ℕ)) (told now : Option Told) → Gives {A = A} (Ok x) names told now → LooksUpTold told now names
gave x names told now gives =
    elim gives [
      | inl all ↦ all
      | inr early ↦ absurd early.0
    ]

-- of a part that ended early, at most its first names
pub left_first : {A : Type 0} (ended : Result A Fault) (named : List Named) (acts : List FileAct) (told now : Option Told) → Touches ended named acts told now → LeavesFirst told now named acts
left_first ended named acts told now touched =
    elim touched [ inl all ↦ (named, acts, ([], append-nil named), inl ([], append-nil acts), all) | inr early ↦ early.1 ]

pub gave_first : {A : Type 0} (ended : Result A Fault) (names : List (List ℕ)) (told now : Option Told) → Gives ended names told now → LooksUpFirst told now names
gave_first ended names told now gives = left_first ended (map looked_up names) [] told now gives

-- a part that answered well answered what its input says
pub got_ok : {A : Type 0} (said : Result A Fault) (x : A) → Gets said (Ok x) → said ≡ Ok x
got_ok said x gets = elim gets [ inl is ↦ sym is | inr outside ↦ absurd (elim outside [ inl e ↦ (cc) | inr e ↦ (cc) ]) ]

-- ---- what a verdict says of files

-- one that is settled looks its names up, and does nothing to files
pub settled_touches : {A : Type 0} (ended : Result A Fault) (stops : Stops) (names : List (List ℕ)) (answer : Result (List ℕ) Fault) (told now : Option Told) → Gives ended names told now
    → Touches ended (settled stops names answer).named (settled stops names answer).acts told now
settled_touches ended stops names (Ok text) told now gives = gives
settled_touches ended stops names (Err cause) told now gives = gives

-- a part that its input didn't end
pub came_outside : {A : Type 0} (e : Fault) (got : Result A Fault) → got ≡ Err e → (got ≡ Err faults.NoMemory) ⊎ (got ≡ Err faults.Read) → IsOutside e
came_outside e got is outside =
    elim outside [
      | inl memory ↦ (let so : e ≡ faults.NoMemory = cc in subst IsOutside (sym so) tt)
      | inr read ↦ (let so : e ≡ faults.Read = cc in subst IsOutside (sym so) tt)
    ]

-- no profile was read
first_names : (says : Result Profile Fault) (profile script : List ℕ) (told now : Option Told) → LooksUpFirst told now (profile ∷ []) → LooksUpFirst told now (names_by says profile script)
first_names (Ok by) profile script told now first = first_more told now (looked_up profile ∷ []) (looked_up script ∷ []) [] [] first
first_names (Err cause) profile script told now first = first

pub profile_names : (file : Option (List ℕ)) (e : Fault) (profile script : List ℕ) (told now : Option Told) → Gets (profile_in file) (Err e)
    → Gives {A = Profile} (Err e) (profile ∷ []) told now → Gives {A = Unit {0}} (Err e) (names_by (profile_in file) profile script) told now
profile_names file e profile script told now gets gives =
    elim gets [
      | inl said ↦ subst (λ (says : Result Profile Fault). Gives {A = Unit {0}} (Err e) (names_by says profile script) told now) said gives
      | inr outside ↦ inr (
        came_outside {A = Profile} e (Err e) refl outside,
        first_names (profile_in file) profile script told now (gave_first {A = Profile} (Err e) (profile ∷ []) told now gives),
      )
    ]

-- a profile was read, and no script
pub script_names : (told mid now : Option Told) (profile script : List ℕ) (by : Profile) (e : Fault) → LooksUpTold told mid (profile ∷ []) → Gives {A = Unit {0}} (Err e) (script ∷ []) mid now
    → Gives {A = Unit {0}} (Err e) (profile ∷ script ∷ []) told now
script_names told mid now profile script by e first second =
    elim second [
      | inl all ↦ inl (leaves_then told mid now (looked_up profile) (looked_up script ∷ []) first all)
      | inr early ↦ inr (early.0, first_then told mid now (looked_up profile) (looked_up script ∷ []) first early.1)
    ]

-- both were looked up
pub both_looked : {B : Type 0} (told mid now : Option Told) (profile script : List ℕ) (by : Profile) (events : B) → Gives (Ok by) (profile ∷ []) told mid → Gives (Ok events) (script ∷ []) mid now
    → LooksUpTold told now (profile ∷ script ∷ [])
both_looked told mid now profile script by events first second =
    leaves_then told mid now (looked_up profile) (looked_up script ∷ []) (gave by (profile ∷ []) told mid first) (gave events (script ∷ []) mid now second)
