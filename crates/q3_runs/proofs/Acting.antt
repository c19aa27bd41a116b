-- Acts on files, one after the other, and what they leave.
use Rattle.std.proofs.Common.{◌≡◌, ◌≢◌, ◌+◌, ◌<◌, ◌≤◌, List, [], ◌∷◌, ◌++◌, Option, Some, None, Result, Ok, Err, refl, sym, ap, subst, ◌∙◌, append_assoc, inl, inr}
use Rattle.std.proofs.lemmas.List.{append-nil}
use Rattle.q3_io.specs.declared.sink.Failed.{Failed}
use Rattle.q3_io.specs.Acts.{FileAct, Makes, Extends, held_by, after_act, after_acts, BreaksOff, ActsOn}
use Rattle.q3_io.specs.Told.{Told, File, Named, Create, with_contents}
use Rattle.q3_runs.specs.Input.{IsFront, created, Leaves, LeavesTold, AreBegun, LeavesFirst}

-- ---- acts, and then others

after_acts-append : (told : Told) (first second : List FileAct) → after_acts told (first ++ second) ≡ after_acts (after_acts told first) second
unfolding after_acts
after_acts-append told [] second = refl
after_acts-append told (act ∷ first) second = after_acts-append (after_act told act) first second

created-append : (first second : List FileAct) → created (first ++ second) ≡ created first ++ created second
unfolding created
created-append [] second = refl
created-append (Makes name ∷ first) second = ap (λ (names : List Named). record { name = name; call = Create } ∷ names) (created-append first second)
created-append (Extends name bytes ∷ first) second = created-append first second

pub none_on : (told : Option Told) → ActsOn told told [] (Ok tt)
unfolding after_acts
none_on None = refl
none_on (Some told) = refl

pub both_on : (told mid now : Option Told) (first second : List FileAct) (result : Result (Unit {0}) Failed) → ActsOn told mid first (Ok tt) → ActsOn mid now second result
    → ActsOn told now (first ++ second) result
both_on None mid now first second result one two = subst (λ (m : Option Told). ActsOn m now second result) one two
both_on (Some told) mid now first second (Ok x) one two =
    let then : now ≡ Some (after_acts (after_acts told first) second) = subst (λ (m : Option Told). ActsOn m now second (Ok x)) one two in
    then ∙ ap (λ (t : Told). Some t) (sym (after_acts-append told first second))
both_on (Some told) mid now first second (Err e) one two =
    let then = subst (λ (m : Option Told). ActsOn m now second (Err e)) one two in (
      first ++ then.0,
      then.1,
      then.2,
      ap (λ (acts : List FileAct). first ++ acts) then.3 ∙ sym (append_assoc first then.0 (then.1 ∷ then.2)),
      then.4,
      then.5,
      subst (λ (t : Told). BreaksOff t then.1 then.4) (sym (after_acts-append told first then.0)) then.6,
    )

-- ---- what they leave

acts_named : (told : Told) (acts : List FileAct) → (after_acts told acts).named ≡ told.named ++ created acts
unfolding after_acts created
acts_named told [] = sym (append-nil told.named)
acts_named told (Makes name ∷ acts) = acts_named (after_act told (Makes name)) acts ∙ append_assoc told.named (record { name = name; call = Create } ∷ []) (created acts)
acts_named told (Extends name bytes ∷ acts) = acts_named (after_act told (Extends name bytes)) acts

-- the files depend on the files alone
act_files : (a b : Told) (act : FileAct) → a.files ≡ b.files → (after_act a act).files ≡ (after_act b act).files
act_files a b (Makes name) same = ap (λ (files : List File). with_contents files name []) same
act_files a b (Extends name bytes) same = ap (λ (files : List File). with_contents files name (held_by files name ++ bytes)) same

acts_files : (a b : Told) (acts : List FileAct) → a.files ≡ b.files → (after_acts a acts).files ≡ (after_acts b acts).files
unfolding after_acts
acts_files a b [] same = same
acts_files a b (act ∷ acts) same = acts_files (after_act a act) (after_act b act) acts (act_files a b act same)

-- where names were given before
left_by : (told mid : Told) (names : List Named) (acts : List FileAct) → Leaves told mid names [] → Leaves told (after_acts mid acts) (names ++ created acts) acts
unfolding after_acts
left_by told mid names acts before = record {
  named = acts_named mid acts ∙ (ap (λ (z : List Named). z ++ created acts) before.named ∙ append_assoc told.named names (created acts));
  files = acts_files mid told acts before.files;
}

pub all_left : (told mid now : Option Told) (names : List Named) (acts : List FileAct) → LeavesTold told mid names [] → ActsOn mid now acts (Ok tt)
    → LeavesTold told now (names ++ created acts) acts
all_left None mid now names acts before done = subst (λ (m : Option Told). ActsOn m now acts (Ok tt)) before done
all_left (Some told) mid now names acts before done =
    (after_acts before.0 acts, subst (λ (m : Option Told). ActsOn m now acts (Ok tt)) before.1 done, left_by told before.0 names acts before.2)

-- ---- the first of them

front_more : {A : Type 0} (front whole more : List A) → IsFront front whole → IsFront front (whole ++ more)
front_more {A} front whole more is = (is.0 ++ more, sym (append_assoc front is.0 more) ∙ ap (λ (z : List A). z ++ more) is.1)

begun_more : (begun acts others : List FileAct) → AreBegun begun acts → AreBegun begun (acts ++ others)
begun_more begun acts others is =
    elim is [
      | inl front ↦ inl (front_more begun acts others front)
      | inr broken ↦ inr (broken.0, broken.1, broken.2, broken.3, broken.4, broken.5, front_more (broken.0 ++ Extends broken.1 broken.3 ∷ []) acts others broken.6)
    ]

-- the first of some names, and of some acts, are the first of more
pub first_more : (told now : Option Told) (named more : List Named) (acts others : List FileAct) → LeavesFirst told now named acts → LeavesFirst told now (named ++ more) (acts ++ others)
first_more told now named more acts others first = (
  first.0,
  first.1,
  front_more first.0 named more first.2,
  begun_more first.1 acts others first.3,
  first.4,
)

split_names : (names : List Named) (first second : List FileAct) → (names ++ created first) ++ created second ≡ names ++ created (first ++ second)
split_names names first second =
    append_assoc names (created first) (created second) ∙ ap (λ (z : List Named). names ++ z) (sym (created-append first second))

-- some acts were done
front_left : (told mid now : Option Told) (names : List Named) (done rest : List FileAct) → LeavesTold told mid names [] → ActsOn mid now done (Ok tt)
    → LeavesFirst told now (names ++ created (done ++ rest)) (done ++ rest)
front_left told mid now names done rest before is =
    (names ++ created done, done, (created rest, split_names names done rest), inl (rest, refl), all_left told mid now names done before is)

-- what an act that failed leaves
abbrev LeavesBroken : Told → List Named → List FileAct → Told → Type 0
LeavesBroken told named acts behind = (first : List Named) × (begun : List FileAct) × IsFront first named × AreBegun begun acts × Leaves told behind first begun

broken_left : (told mid : Told) (names : List Named) (first : List FileAct) (act : FileAct) (rest : List FileAct) (behind : Told) → Leaves told mid names []
    → BreaksOff (after_acts mid first) act behind → LeavesBroken told (names ++ created (first ++ act ∷ rest)) (first ++ act ∷ rest) behind
unfolding after_acts created
broken_left told mid names first (Makes name) rest behind before is =
    let left = left_by told mid names first before in
    elim is [
      | inl same ↦ (
        names ++ created first,
        first,
        (created (Makes name ∷ rest), split_names names first (Makes name ∷ rest)),
        inl (Makes name ∷ rest, refl),
        subst (λ (t : Told). Leaves told t (names ++ created first) first) (sym same) left,
      )
      | inr named ↦ (
        names ++ created (first ++ Makes name ∷ []),
        first,
        (created rest, split_names names (first ++ Makes name ∷ []) rest ∙ ap (λ (acts : List FileAct). names ++ created acts) (append_assoc first (Makes name ∷ []) rest)),
        inl (Makes name ∷ rest, refl),
        subst (λ (t : Told). Leaves told t (names ++ created (first ++ Makes name ∷ [])) first) (sym named) (record {
          named = ap (λ (z : List Named). z ++ record { name = name; call = Create } ∷ []) left.named
              ∙ (append_assoc told.named (names ++ created first) (record { name = name; call = Create } ∷ [])
              ∙ ap (λ (z : List Named). told.named ++ z) (split_names names first (Makes name ∷ [])));
          files = left.files;
        }),
      )
    ]
broken_left told mid names first (Extends name bytes) rest behind before is =
    let left = left_by told mid names first before in (
      names ++ created first,
      first ++ Extends name is.0 ∷ [],
      (created (Extends name bytes ∷ rest), split_names names first (Extends name bytes ∷ rest)),
      inr (first, name, is.0, bytes, refl, is.1, (rest, append_assoc first (Extends name bytes ∷ []) rest)),
      subst (λ (t : Told). Leaves told t (names ++ created first) (first ++ Extends name is.0 ∷ [])) (sym is.2) (record {
        named = left.named;
        files = act_files (after_acts mid first) (after_acts told first) (Extends name is.0) left.files
            ∙ ap (λ (t : Told). t.files) (sym (after_acts-append told first (Extends name is.0 ∷ [])));
      }),
    )

broken_first : (told mid now : Option Told) (names : List Named) (done : List FileAct) (e : Failed) → LeavesTold told mid names [] → ActsOn mid now done (Err e)
    → LeavesFirst told now (names ++ created done) done
broken_first None mid now names done e before is =
    (names ++ created done, done, ([], append-nil (names ++ created done)), inl ([], append-nil done), subst (λ (m : Option Told). ActsOn m now done (Err e)) before is)
broken_first (Some told) mid now names done e before is =
    let so = subst (λ (m : Option Told). ActsOn m now done (Err e)) before.1 is in
    let left = broken_left told before.0 names so.0 so.1 so.2 so.4 before.2 so.6 in (
      left.0,
      left.1,
      subst (λ (acts : List FileAct). IsFront left.0 (names ++ created acts)) (sym so.3) left.2,
      subst (λ (acts : List FileAct). AreBegun left.1 acts) (sym so.3) left.3,
      (so.4, so.5, left.4),
    )

-- of acts the first ones were done, or one of these failed
pub first_left : (told mid now : Option Told) (names : List Named) (acts done rest : List FileAct) (result : Result (Unit {0}) Failed) → LeavesTold told mid names []
    → ActsOn mid now done result → acts ≡ done ++ rest → LeavesFirst told now (names ++ created acts) acts
first_left told mid now names acts done rest (Ok x) before is whole =
    subst (λ (all : List FileAct). LeavesFirst told now (names ++ created all) all) (sym whole) (front_left told mid now names done rest before is)
first_left told mid now names acts done rest (Err e) before is whole =
    let more = first_more told now (names ++ created done) (created rest) done rest (broken_first told mid now names done e before is) in
    subst (λ (all : List FileAct). LeavesFirst told now (names ++ created all) all) (sym whole)
    (subst (λ (named : List Named). LeavesFirst told now named (done ++ rest)) (split_names names done rest) more)
