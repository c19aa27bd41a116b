-- What calls do to files, as acts.
use Rattle.std.proofs.Common.{true, false, ◌≡◌, ℕ, ◌<◌, ◌≤◌, List, [], ◌∷◌, ◌++◌, length, Option, Some, None, Result, Ok, Err, refl, sym, ap, subst, ◌∙◌, append_assoc, inl, inr, arith}
use Rattle.std.specs.Option.{is_some}
use Rattle.std.proofs.lemmas.List.{get_or_append_left}
use Rattle.std.proofs.Math.Seq.{get_or-append_seam}
use Rattle.q3_io.specs.declared.sink.Failed.{Failed}
use Rattle.q3_io.specs.Acts.{FileAct, Makes, Extends, ActsOn, BreaksOff, after_act, after_acts}
use Rattle.q3_io.specs.Faults.{HasCause}
use Rattle.q3_io.specs.Told.{Told, Create, Creates, IsGiven, name_of, after_named}
use Rattle.q3_demo.specs.Recorder.{AppendsBytes, done}
use Rattle.std.proofs.lemmas.Bool.{cond_both}
use Rattle.q3_client.specs.Client.{ClientState}
use Rattle.q3_report.specs.declared.answer.RecordRefused.{RecordRefused}
use Rattle.q3_report.specs.declared.answer.RecordRefused.TheVariants.{NoGame}
use Rattle.q3_ends.specs.Recording.{RecordingState, RecordingStep, StandsForName, WritesFiles, extends, begin_at, begin_new}

-- nothing is done
none_done : (told : Option Told) → ActsOn told told [] (Ok tt)
unfolding after_acts
none_done None = refl
none_done (Some told) = refl

pub writes_nothing : (told : Option Told) (given faults write_faults : ℕ) → WritesFiles told told given given faults faults write_faults write_faults [] (Ok tt)
writes_nothing told given faults write_faults = record {
  acts_on = none_done told;
  some = λ failed none. absurd cc;
  numbers = omega arith;
  reads = refl;
  names = λ file name lt is. is;
  cause = record { later = omega arith; failed = λ failed. absurd cc; ok = λ ok. refl };
}

-- ---- a file is made

made_on : (told now : Option Told) (name : List ℕ) (result : Result ℕ Failed) → Creates told now name result → ActsOn told now (Makes name ∷ []) (done result)
unfolding after_acts
made_on None now name (Ok file) is = is
made_on None now name (Err e) is = is
made_on (Some told) now name (Ok file) is = is.1
made_on (Some told) now name (Err e) (inl same) = ([], Makes name, [], refl, told, same, inl refl)
made_on (Some told) now name (Err e) (inr named) = ([], Makes name, [], refl, after_named told name Create, named, inr refl)

-- the numbers of before stand for what they did
named_before : (told : Told) (name other : List ℕ) (file : ℕ) → file < length told.numbers → name_of told file ≡ other → name_of (after_act told (Makes name)) file ≡ other
named_before told name other file lt is = get_or_append_left told.numbers (name ∷ []) [] file lt ∙ is

stands_made : (told now : Option Told) (given : ℕ) (name : List ℕ) (result : Result ℕ Failed) → ((t : Told) → told ≡ Some t → length t.numbers ≡ given) → Creates told now name result
    → (file : ℕ) (other : List ℕ) → file < given → StandsForName told file other → StandsForName now file other
stands_made None now given name (Ok made) numbered is file other lt stands = rw is tt
stands_made None now given name (Err e) numbered is file other lt stands = rw is tt
stands_made (Some told) now given name (Ok made) numbered is file other lt stands =
    let count = numbered told refl in
    rw is.1 (named_before told name other file (omega (arith, lt, count)) stands)
stands_made (Some told) now given name (Err e) numbered (inl same) file other lt stands = rw same stands
stands_made (Some told) now given name (Err e) numbered (inr named) file other lt stands = rw named stands

pub makes_file : (told now : Option Told) (given behind faults faults' write_faults write_faults' : ℕ) (name : List ℕ) (result : Result ℕ Failed)
    → ((t : Told) → told ≡ Some t → length t.numbers ≡ given) → IsGiven given behind result → Creates told now name result → HasCause write_faults write_faults' (done result) → faults' ≡ faults
    → WritesFiles told now given behind faults faults' write_faults write_faults' (Makes name ∷ []) (done result)
makes_file told now given behind faults faults' write_faults write_faults' name result numbered gives is cause reads = record {
  acts_on = made_on told now name result is;
  some = λ failed none. absurd cc;
  numbers = no_less result gives;
  reads = reads;
  names = stands_made told now given name result numbered is;
  cause = cause;
}
  where
    no_less : (result : Result ℕ Failed) → IsGiven given behind result → given ≤ behind
    no_less (Ok file) is = is.0
    no_less (Err e) is = omega (arith, is)

-- and its number stands for it
pub made_stands : (told now : Option Told) (file : ℕ) (name : List ℕ) → Creates told now name (Ok file) → StandsForName now file name
made_stands None now file name is = rw is tt
made_stands (Some told) now file name is = rw (is.1, is.0) (get_or-append_seam told.numbers name [] [])

-- ---- bytes are put after those of a file

extended_on : (told now : Option Told) (file : ℕ) (name bytes : List ℕ) (result : Result (Unit {0}) Failed) → StandsForName told file name → AppendsBytes told now file bytes result
    → ActsOn told now (extends name bytes) result
unfolding after_acts
extended_on told now file name [] result stands is = rw (is.1, is.0) (none_done told)
extended_on None now file name (byte ∷ bytes) result stands is = nothing_told now (extends name (byte ∷ bytes)) result is
  where
    nothing_told : (now : Option Told) (acts : List FileAct) (result : Result (Unit {0}) Failed) → now ≡ None → ActsOn None now acts result
    nothing_told now acts result is = is
extended_on (Some told) now file name (byte ∷ bytes) (Ok x) stands is =
    is.2 ∙ (ap (λ (added : List ℕ). Some (after_act told (Extends (name_of told file) added))) is.1
    ∙ ap (λ (n : List ℕ). Some (after_act told (Extends n (byte ∷ bytes)))) stands)
extended_on (Some told) now file name (byte ∷ bytes) (Err e) stands is = (
  [],
  Extends name (byte ∷ bytes),
  [],
  refl,
  after_act told (Extends name is.0),
  is.2 ∙ ap (λ (n : List ℕ). Some (after_act told (Extends n is.0))) stands,
  (is.0, is.1, refl),
)

stands_extended : (told now : Option Told) (file : ℕ) (bytes : List ℕ) (result : Result (Unit {0}) Failed) → AppendsBytes told now file bytes result
    → (other : ℕ) (name : List ℕ) → StandsForName told other name → StandsForName now other name
stands_extended told now file [] result is other name stands = rw is.0 stands
stands_extended None now file (byte ∷ bytes) result is other name stands = rw is tt
stands_extended (Some told) now file (byte ∷ bytes) (Ok x) is other name stands = rw is.2 stands
stands_extended (Some told) now file (byte ∷ bytes) (Err e) is other name stands = rw is.2 stands

some_act : (told now : Option Told) (file : ℕ) (name bytes : List ℕ) → AppendsBytes told now file bytes (Err (record {})) → extends name bytes ≡ [] → ⊥
some_act told now file name [] is none = absurd cc
some_act told now file name (byte ∷ bytes) is none = absurd cc

pub extends_file : (told now : Option Told) (given behind faults faults' write_faults write_faults' file : ℕ) (name bytes : List ℕ) (result : Result (Unit {0}) Failed)
    → StandsForName told file name → AppendsBytes told now file bytes result → behind ≡ given → HasCause write_faults write_faults' result → faults' ≡ faults
    → WritesFiles told now given behind faults faults' write_faults write_faults' (extends name bytes) result
extends_file told now given behind faults faults' write_faults write_faults' file name bytes (Ok x) stands is same cause reads = record {
  acts_on = extended_on told now file name bytes (Ok x) stands is;
  some = λ failed none. absurd cc;
  numbers = omega (arith, same);
  reads = reads;
  names = λ other n lt stands. stands_extended told now file bytes (Ok x) is other n stands;
  cause = cause;
}
extends_file told now given behind faults faults' write_faults write_faults' file name bytes (Err e) stands is same cause reads = record {
  acts_on = extended_on told now file name bytes (Err e) stands is;
  some = λ failed. some_act told now file name bytes is;
  numbers = omega (arith, same);
  reads = reads;
  names = λ other n lt stands. stands_extended told now file bytes (Err e) is other n stands;
  cause = cause;
}

-- a cause is one of the answer without its value
pub done_cause : {A : Type 0} (before now : ℕ) (result : Result A Failed) → HasCause before now result → HasCause before now (done result)
done_cause before now (Ok x) cause = record { later = cause.later; failed = cause.failed; ok = cause.ok }
done_cause before now (Err e) cause = record { later = cause.later; failed = cause.failed; ok = cause.ok }

-- ---- nothing is done to files

pub no_game : (client : ClientState) (recording : Option RecordingState) (fresh : RecordingState) → client.state.has_game ≡ false → (begin_at client recording fresh).acts ≡ []
no_game client recording fresh is = rw is refl

pub goes_already : (client : ClientState) (going fresh : RecordingState) → (begin_at client (Some going) fresh).acts ≡ []
goes_already client going fresh =
    cond_both client.state.has_game (begin_new (Some going) fresh) (record { recording = Some going; answer = Err NoGame; acts = [] })
    (λ (step : RecordingStep RecordRefused). step.acts ≡ []) (λ has. refl) (λ none. refl)

pub goes_some : (client : ClientState) (recording : Option RecordingState) (fresh : RecordingState) → is_some recording ≡ true → (begin_at client recording fresh).acts ≡ []
goes_some client None fresh is = absurd cc
goes_some client (Some going) fresh is = goes_already client going fresh

pub none_goes : (recording : Option RecordingState) → is_some recording ≡ false → recording ≡ None
none_goes None is = refl
none_goes (Some going) is = absurd cc

pub begins_new : (client : ClientState) (recording : Option RecordingState) (fresh : RecordingState) → client.state.has_game ≡ true → recording ≡ None
    → (begin_at client recording fresh).acts ≡ Makes fresh.name ∷ []
begins_new client recording fresh has none = rw (none, has) refl

-- ---- one after the other

acts_over : (told : Told) (first second : List FileAct) → after_acts told (first ++ second) ≡ after_acts (after_acts told first) second
unfolding after_acts
acts_over told [] second = refl
acts_over told (act ∷ first) second = acts_over (after_act told act) first second

pub acts_both : (told mid now : Option Told) (first second : List FileAct) (result : Result (Unit {0}) Failed) → ActsOn told mid first (Ok tt) → ActsOn mid now second result
    → ActsOn told now (first ++ second) result
acts_both None mid now first second result before behind = subst (λ (m : Option Told). ActsOn m now second result) before behind
acts_both (Some told) mid now first second (Ok x) before behind =
    let then = subst (λ (m : Option Told). ActsOn m now second (Ok x)) before behind in
    then ∙ ap (λ (t : Told). Some t) (sym (acts_over told first second))
acts_both (Some told) mid now first second (Err e) before behind =
    let then = subst (λ (m : Option Told). ActsOn m now second (Err e)) before behind in (
      first ++ then.0,
      then.1,
      then.2,
      ap (λ (acts : List FileAct). first ++ acts) then.3 ∙ sym (append_assoc first then.0 (then.1 ∷ then.2)),
      then.4,
      then.5,
      subst (λ (t : Told). BreaksOff t then.1 then.4) (sym (acts_over told first then.0)) then.6,
    )

-- what broke off breaks off what is longer
acts_more : (told now : Option Told) (acts more : List FileAct) (e : Failed) → ActsOn told now acts (Err e) → ActsOn told now (acts ++ more) (Err e)
acts_more None now acts more e is = is
acts_more (Some told) now acts more e is = (
  is.0,
  is.1,
  is.2 ++ more,
  ap (λ (a : List FileAct). a ++ more) is.3 ∙ append_assoc is.0 (is.1 ∷ is.2) more,
  is.4,
  is.5,
  is.6,
)

some_more : (acts more : List FileAct) → (acts ≡ [] → ⊥) → acts ++ more ≡ [] → ⊥
some_more [] more some none = some refl
some_more (act ∷ acts) more some none = absurd cc

some_both : (first acts : List FileAct) → (acts ≡ [] → ⊥) → first ++ acts ≡ [] → ⊥
some_both [] acts some none = some none
some_both (act ∷ first) acts some none = absurd cc

pub writes_both : {told mid now : Option Told} {given between behind faults faults' faults'' write_faults write_faults' write_faults'' : ℕ} {first second : List FileAct} {result : Result (Unit {0}) Failed}
    → WritesFiles told mid given between faults faults' write_faults write_faults' first (Ok tt) → WritesFiles mid now between behind faults' faults'' write_faults' write_faults'' second result
    → WritesFiles told now given behind faults faults'' write_faults write_faults'' (first ++ second) result
writes_both {told} {mid} {now} {given} {between} {behind} {faults} {faults'} {faults''} {write_faults} {write_faults'} {write_faults''} {first} {second} {result} before after =
    let le = before.numbers in
    let more = after.numbers in
    record {
      acts_on = acts_both told mid now first second result before.acts_on after.acts_on;
      some = λ failed. some_both first second (after.some failed);
      numbers = omega (arith, le, more);
      reads = after.reads ∙ before.reads;
      names = λ file name lt is. after.names file name (omega (arith, lt, le)) (before.names file name lt is);
      cause = subst (λ (w : ℕ). HasCause w write_faults'' result) (before.cause.ok refl) after.cause;
    }

pub writes_more : {told now : Option Told} {given behind faults faults' write_faults write_faults' : ℕ} {acts : List FileAct} {e : Failed} (more : List FileAct)
    → WritesFiles told now given behind faults faults' write_faults write_faults' acts (Err e) → WritesFiles told now given behind faults faults' write_faults write_faults' (acts ++ more) (Err e)
writes_more {told} {now} {given} {behind} {faults} {faults'} {write_faults} {write_faults'} {acts} {e} more is = record {
  acts_on = acts_more told now acts more e is.acts_on;
  some = λ failed. some_more acts more (is.some refl);
  numbers = is.numbers;
  reads = is.reads;
  names = is.names;
  cause = is.cause;
}
