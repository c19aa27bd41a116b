-- Of acts that make a file at most once, the first leave a front of what all of them leave.
use Rattle.std.proofs.Common.{◌≡◌, ◌≢◌, ℕ, true≢false, subst, List, [], ◌∷◌, ◌++◌, Option, Some, sym, ap, ◌∙◌, inl, inr, append_assoc}
use Rattle.std.specs.Prelude.{◌⊎◌, unwrap_or}
use Rattle.std.specs.List.{AllByRecursion}
use Rattle.std.specs.Str.{bytes_eq}
use Rattle.std.proofs.lemmas.Bool.{cases_Bool}
use Rattle.std.proofs.lemmas.List.{append-nil}
use Rattle.std.proofs.lemmas.Slice.Eq.{bytes_eq-Decides}
use Rattle.q3_io.specs.Acts.{FileAct, Makes, Extends, BreaksOff, held_by, after_act, after_acts}
use Rattle.q3_io.specs.Told.{File, Told, contents_of}
use Rattle.q3_ends.specs.Recording.{extends}
use Rattle.q3_schedules.specs.Early.{EndsWithin, HoldsFront}
use Rattle.q3_schedules.proofs.NamedFiles.{SparesAll, same_name, others_name, spared_one}

-- ---- acts that make it at most once

-- the file of a name isn't made
abbrev pub NeverMakes : List ℕ → FileAct → Type 0
NeverMakes name (Makes n) = n ≢ name
NeverMakes name (Extends n bytes) = Unit {0}

abbrev pub NeverMade : List ℕ → List FileAct → Type 0
NeverMade name acts = AllByRecursion (NeverMakes name) acts

-- before it is made nothing is done to it, and it isn't made again
abbrev pub MadeOnce : List ℕ → List FileAct → Type 0
MadeOnce name [] = Unit {0}
MadeOnce name (Makes n ∷ acts) = ((n ≡ name) × NeverMade name acts) ⊎ ((n ≢ name) × MadeOnce name acts)
MadeOnce name (Extends n bytes ∷ acts) = (n ≢ name) × MadeOnce name acts

pub once_after : (name : List ℕ) (first second : List FileAct) → SparesAll name first → MadeOnce name second → MadeOnce name (first ++ second)
once_after name [] second spares once = once
once_after name (Makes n ∷ first) second spares once = inr (spares.0, once_after name first second spares.1 once)
once_after name (Extends n bytes ∷ first) second spares once = (spares.0, once_after name first second spares.1 once)

pub never_both : (name : List ℕ) (first second : List FileAct) → NeverMade name first → NeverMade name second → NeverMade name (first ++ second)
never_both name [] second one two = two
never_both name (act ∷ first) second one two = (one.0, never_both name first second one.1 two)

pub never_extends : (name n bytes : List ℕ) → NeverMade name (extends n bytes)
never_extends name n [] = tt
never_extends name n (byte ∷ bytes) = (tt, tt)

-- ---- it grows

pub names_are : (n name : List ℕ) → (n ≡ name) ⊎ (n ≢ name)
names_are n name = elim (cases_Bool (bytes_eq n name)) [
  | inl same ↦ inl ((bytes_eq-Decides n name).0 same)
  | inr not ↦ inr (λ same. true≢false (sym ((bytes_eq-Decides n name).1 same) ∙ not))
]

-- bytes after those that it holds
put_after : (told : Told) (name held bytes : List ℕ) → contents_of told.files name ≡ Some held → contents_of (after_act told (Extends name bytes)).files name ≡ Some (held ++ bytes)
put_after told name held bytes is = same_name told.files name (held_by told.files name ++ bytes) ∙ ap (λ (found : Option (List ℕ)). Some (unwrap_or found [] ++ bytes)) is

put_other : (told : Told) (n name bytes : List ℕ) → n ≢ name → contents_of (after_act told (Extends n bytes)).files name ≡ contents_of told.files name
put_other told n name bytes ne = others_name told.files n name (held_by told.files n ++ bytes) ne

record Grows (told : Told) (name held : List ℕ) : Type 0 where
  more : List ℕ
  is : contents_of told.files name ≡ Some (held ++ more)

stays_grown : (told : Told) (name held : List ℕ) → contents_of told.files name ≡ Some held → Grows told name held
stays_grown told name held is = record { more = []; is = is ∙ ap (λ (b : List ℕ). Some b) (sym (append-nil held)) }

act_grows : (told : Told) (name held : List ℕ) (act : FileAct) → NeverMakes name act → contents_of told.files name ≡ Some held → Grows (after_act told act) name held
act_grows told name held (Makes n) ne is = stays_grown (after_act told (Makes n)) name held (spared_one told name (Makes n) ne ∙ is)
act_grows told name held (Extends n bytes) never is = elim (names_are n name) [
  | inl same ↦
      let there : contents_of (after_act told (Extends n bytes)).files name ≡ Some (held ++ bytes) =
      ap (λ (k : List ℕ). contents_of (after_act told (Extends k bytes)).files name) same ∙ put_after told name held bytes is in
      record { more = bytes; is = there }
  | inr ne ↦ stays_grown (after_act told (Extends n bytes)) name held (put_other told n name bytes ne ∙ is)
]

grown_on : (told : Told) (name held more : List ℕ) → Grows told name (held ++ more) → Grows told name held
grown_on told name held more grows = record { more = more ++ grows.more; is = grows.is ∙ ap (λ (b : List ℕ). Some b) (append_assoc held more grows.more) }

all_grow : (told : Told) (name held : List ℕ) (acts : List FileAct) → NeverMade name acts → contents_of told.files name ≡ Some held → Grows (after_acts told acts) name held
unfolding after_acts
all_grow told name held [] never is = stays_grown told name held is
all_grow told name held (act ∷ acts) never is =
    let one = act_grows told name held act never.0 is in
    grown_on (after_acts (after_act told act) acts) name held one.more (all_grow (after_act told act) name (held ++ one.more) acts never.1 one.is)

-- ---- where acts end early

-- after none of them, within the first, or later
abbrev Within : Told → List FileAct → Told → Type 0
Within told [] now = now.files ≡ told.files
Within told (act ∷ acts) now = (now.files ≡ told.files) ⊎ (BreaksOff told act now ⊎ Within (after_act told act) acts now)

at_once : (told : Told) (acts : List FileAct) (now : Told) → now.files ≡ told.files → Within told acts now
at_once told [] now same = same
at_once told (act ∷ acts) now same = inl same

past_first : (told : Told) (first rest : List FileAct) (now : Told) → now ≡ after_acts told first → Within told (first ++ rest) now
unfolding after_acts
past_first told [] rest now is = at_once told rest now (ap (λ (t : Told). t.files) is)
past_first told (act ∷ first) rest now is = inr (inr (past_first (after_act told act) first rest now is))

within_next : (told : Told) (first : List FileAct) (act : FileAct) (rest : List FileAct) (now : Told) → BreaksOff (after_acts told first) act now → Within told (first ++ act ∷ rest) now
unfolding after_acts
within_next told [] act rest now breaks = inr (inl breaks)
within_next told (one ∷ first) act rest now breaks = inr (inr (within_next (after_act told one) first act rest now breaks))

within : (told : Told) (acts : List FileAct) (now : Told) → EndsWithin told acts now → Within told acts now
within told acts now (inl first) = subst (λ (all : List FileAct). Within told all now) (sym first.2) (past_first told first.0 first.1 now first.3)
within told acts now (inr failed) =
    let is : failed.4 ≡ now = same failed.4 now failed.5 in
    subst (λ (all : List FileAct). Within told all now) (sym failed.3)
    (within_next told failed.0 failed.1 failed.2 now (subst (BreaksOff (after_acts told failed.0) failed.1) is failed.6))
  where
    same : (after now : Told) → Some now ≡ Some after → after ≡ now
    same after now e = cc

-- ---- what the file holds then

record IsFront (now whole : Told) (name : List ℕ) : Type 0 where
  front : List ℕ
  rest : List ℕ
  early : contents_of now.files name ≡ Some front
  all : contents_of whole.files name ≡ Some (front ++ rest)

by_files : (now told : Told) (name : List ℕ) → now.files ≡ told.files → contents_of now.files name ≡ contents_of told.files name
by_files now told name same = ap (λ (files : List File). contents_of files name) same

held_front : (told now whole : Told) (name held : List ℕ) → contents_of now.files name ≡ Some held → Grows whole name held → IsFront now whole name
held_front told now whole name held is grows = record { front = held; rest = grows.more; early = is; all = grows.is }

-- it was made, and an act that follows broke off
broken_front : (told now : Told) (name held : List ℕ) (act : FileAct) (acts : List FileAct) → NeverMade name (act ∷ acts) → contents_of told.files name ≡ Some held → BreaksOff told act now
    → IsFront now (after_acts told (act ∷ acts)) name
unfolding after_acts
broken_front told now name held (Makes n) acts never is (inl same) =
    held_front told now (after_acts told (Makes n ∷ acts)) name held (ap (λ (t : Told). contents_of t.files name) same ∙ is) (all_grow told name held (Makes n ∷ acts) never is)
broken_front told now name held (Makes n) acts never is (inr named) =
    held_front told now (after_acts told (Makes n ∷ acts)) name held (ap (λ (t : Told). contents_of t.files name) named ∙ is) (all_grow told name held (Makes n ∷ acts) never is)
broken_front told now name held (Extends n bytes) acts never is broken = elim (names_are n name) [
  | inl same ↦ ours n same broken
  | inr ne ↦
      held_front told now (after_acts told (Extends n bytes ∷ acts)) name held
      (ap (λ (t : Told). contents_of t.files name) broken.2 ∙ (put_other told n name broken.0 ne ∙ is)) (all_grow told name held (Extends n bytes ∷ acts) never is)
]
  where
    ours : (n : List ℕ) → n ≡ name → BreaksOff told (Extends n bytes) now → IsFront now (after_acts told (Extends n bytes ∷ acts)) name
    ours n same broken =
        let added = broken.0 in
        let left = broken.1.0 in
        let put : contents_of (after_act told (Extends n bytes)).files name ≡ Some ((held ++ added) ++ left) =
        ap (λ (k : List ℕ). contents_of (after_act told (Extends k bytes)).files name) same
        ∙ (put_after told name held bytes is ∙ ap (λ (b : List ℕ). Some b) (ap (λ (b : List ℕ). held ++ b) (sym broken.1.1) ∙ sym (append_assoc held added left))) in
        let early : contents_of now.files name ≡ Some (held ++ added) =
        ap (λ (t : Told). contents_of t.files name) broken.2
        ∙ (ap (λ (k : List ℕ). contents_of (after_act told (Extends k added)).files name) same ∙ put_after told name held added is) in
        held_front told now (after_acts told (Extends n bytes ∷ acts)) name (held ++ added) early
        (grown_on (after_acts (after_act told (Extends n bytes)) acts) name (held ++ added) left
        (all_grow (after_act told (Extends n bytes)) name ((held ++ added) ++ left) acts never.1 put))

grown_front : (told now : Told) (name held : List ℕ) (acts : List FileAct) → NeverMade name acts → contents_of told.files name ≡ Some held → Within told acts now
    → IsFront now (after_acts told acts) name
unfolding after_acts
grown_front told now name held [] never is same = held_front told now told name held (by_files now told name same ∙ is) (stays_grown told name held is)
grown_front told now name held (act ∷ acts) never is (inl same) =
    held_front told now (after_acts told (act ∷ acts)) name held (by_files now told name same ∙ is) (all_grow told name held (act ∷ acts) never is)
grown_front told now name held (act ∷ acts) never is (inr (inl broken)) = broken_front told now name held act acts never is broken
grown_front told now name held (act ∷ acts) never is (inr (inr later)) =
    let one = act_grows told name held act never.0 is in
    grown_front (after_act told act) now name (held ++ one.more) acts never.1 one.is later

front_holds : (told now whole : Told) (name : List ℕ) → IsFront now whole name → HoldsFront name told now whole
front_holds told now whole name is = inr (is.front, is.rest, is.early, is.all)

-- before it is made it stays
stays_so : (told next now whole : Told) (name : List ℕ) → contents_of next.files name ≡ contents_of told.files name → HoldsFront name next now whole → HoldsFront name told now whole
stays_so told next now whole name same (inl held) = inl (held ∙ same)
stays_so told next now whole name same (inr front) = inr front

made_so : (told : Told) (n name : List ℕ) → n ≡ name → contents_of (after_act told (Makes n)).files name ≡ Some []
made_so told n name same = ap (λ (k : List ℕ). contents_of (after_act told (Makes k)).files name) same ∙ same_name told.files name []

once_holds : (told now : Told) (name : List ℕ) (acts : List FileAct) → MadeOnce name acts → Within told acts now → HoldsFront name told now (after_acts told acts)
unfolding after_acts
once_holds told now name [] once same = inl (by_files now told name same)
once_holds told now name (act ∷ acts) once (inl same) = inl (by_files now told name same)
once_holds told now name (Makes n ∷ acts) once (inr (inl (inl same))) = inl (ap (λ (t : Told). contents_of t.files name) same)
once_holds told now name (Makes n ∷ acts) once (inr (inl (inr named))) = inl (ap (λ (t : Told). contents_of t.files name) named)
once_holds told now name (Makes n ∷ acts) (inl makes) (inr (inr later)) =
    front_holds told now (after_acts told (Makes n ∷ acts)) name (grown_front (after_act told (Makes n)) now name [] acts makes.1 (made_so told n name makes.0) later)
once_holds told now name (Makes n ∷ acts) (inr other) (inr (inr later)) =
    stays_so told (after_act told (Makes n)) now (after_acts told (Makes n ∷ acts)) name (spared_one told name (Makes n) other.0)
    (once_holds (after_act told (Makes n)) now name acts other.1 later)
once_holds told now name (Extends n bytes ∷ acts) once (inr (inl broken)) = inl (ap (λ (t : Told). contents_of t.files name) broken.2 ∙ put_other told n name broken.0 once.0)
once_holds told now name (Extends n bytes ∷ acts) once (inr (inr later)) =
    stays_so told (after_act told (Extends n bytes)) now (after_acts told (Extends n bytes ∷ acts)) name (put_other told n name bytes once.0)
    (once_holds (after_act told (Extends n bytes)) now name acts once.1 later)

pub front_is_left : (told now : Told) (name : List ℕ) (acts : List FileAct) → MadeOnce name acts → EndsWithin told acts now → HoldsFront name told now (after_acts told acts)
front_is_left told now name acts once ends = once_holds told now name acts once (within told acts now ends)
