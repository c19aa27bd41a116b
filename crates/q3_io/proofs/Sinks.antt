-- Texts that are written to a sink, one after another, and through a line buffer.
use Rattle.std.proofs.Common.{◌≡◌, ℕ, ◌+◌, ◌<◌, Bool, true, false, List, [], ◌∷◌, ◌++◌, length, take, drop, get_or, Option, Some, None, refl, sym, ap, ◌∙◌, append_assoc}
use Rattle.std.proofs.lemmas.List.{append-nil, take_more, take-append-drop}
use Rattle.std.proofs.lemmas.List.Concat.{flat_map-append}
use Rattle.std.specs.List.{flat_map}
use Rattle.q3_io.specs.Written.{Written, Wrote}
use Rattle.q3_io.specs.Line.{with_held}

some_is : (x y : Written) → Some x ≡ Some y → x ≡ y
some_is x y e = cc

-- no text
pub nothing : {written : Option Written} → Wrote written written [] true
nothing = record { untold = λ e. e; told = λ had e. ([], had.waits, sym (append-nil had.waits), e ∙ rw append-nil refl) }

-- a text after a text
pub follow : {old mid new : Option Written} {front rest whole : List ℕ} {all : Bool}
    → Wrote old mid front true → Wrote mid new rest all → whole ≡ front ++ rest → Wrote old new whole all
follow {front} {rest} first second is = record {
  untold = λ e. second.untold (first.untold e);
  told = λ had e.
      let one = first.told had e in
      let two = second.told (record { sent = had.sent ++ one.0; waits = one.1 }) one.3 in (
        one.0 ++ two.0,
        two.1,
        append_assoc one.0 two.0 two.1 ∙ (ap (λ (z : List ℕ). one.0 ++ z) two.2 ∙ (sym (append_assoc one.0 one.1 rest) ∙ (ap (λ (z : List ℕ). z ++ rest) one.2 ∙ (append_assoc had.waits front rest ∙ ap (λ (z : List ℕ). had.waits ++ z) (sym is))))),
        two.3 ∙ rw append_assoc refl,
      );
}

-- what ended in a front of a text ended in the text
pub ends_early : {old new : Option Written} {front whole : List ℕ} (rest : List ℕ) → Wrote old new front false → whole ≡ front ++ rest → Wrote old new whole false
ends_early {front} rest wrote is = record {
  untold = wrote.untold;
  told = λ had e.
      let was = wrote.told had e in
      (was.0, was.1 ++ rest, sym (append_assoc was.0 was.1 rest) ∙ (ap (λ (z : List ℕ). z ++ rest) was.2 ∙ (append_assoc had.waits front rest ∙ ap (λ (z : List ℕ). had.waits ++ z) (sym is))), was.3);
}

-- the bytes that were held, and a text, went through the sink below
through_held : (old new : Option Written) (held text : List ℕ) (all : Bool) → Wrote old new (held ++ text) all → Wrote (with_held old held) (with_held new []) text all
through_held None new held text all wrote = rw (wrote.untold refl) (record { untold = λ e. refl; told = λ had e. absurd cc })
through_held (Some w) new held text all wrote =
    let was = wrote.told w refl in
    rw (was.3, append-nil) (record {
      untold = λ e. absurd cc;
      told = λ had e.
          let same : record w { waits = w.waits ++ held } ≡ had = some_is (record w { waits = w.waits ++ held }) had e in
          (was.0, was.1, rw (← same) (was.2 ∙ sym (append_assoc w.waits held text)), rw (← same) refl);
    })

-- the bytes that were held, or a front of them, went through the sink below, and no text was taken
pub held_lost : (old new : Option Written) (held text : List ℕ) → Wrote old new held false → Wrote (with_held old held) (with_held new []) text false
held_lost old new held text wrote = through_held old new held text false (ends_early text wrote refl)

-- the bytes that were held, and then a text, went through the sink below
pub held_passed : (old mid new : Option Written) (held text : List ℕ) (all : Bool) → Wrote old mid held true → Wrote mid new text all → Wrote (with_held old held) (with_held new []) text all
held_passed old mid new held text all first second = through_held old new held text all (follow first second refl)

-- the bytes that were held went through the sink below, and a text stands in their place
pub held_next : (old new : Option Written) (held text : List ℕ) → Wrote old new held true → Wrote (with_held old held) (with_held new text) text true
held_next None new held text wrote = rw (wrote.untold refl) (record { untold = λ e. refl; told = λ had e. absurd cc })
held_next (Some w) new held text wrote =
    let was = wrote.told w refl in
    rw was.3 (record {
      untold = λ e. absurd cc;
      told = λ had e.
          let same : record w { waits = w.waits ++ held } ≡ had = some_is (record w { waits = w.waits ++ held }) had e in
          (was.0, was.1 ++ text, rw (← same) (sym (append_assoc was.0 was.1 text) ∙ ap (λ (z : List ℕ). z ++ text) was.2 ∙ rw append_assoc refl), rw (← same) refl);
    })

-- the texts before an index and the one there
before_and_there : {X : Type 0} (text : X → List ℕ) (items : List X) (k : ℕ) (none : X) → k < length items
    → flat_map text (take (k + 1) items) ≡ flat_map text (take k items) ++ text (get_or items k none)
before_and_there text items k none within =
    ap (flat_map text) (take_more items k none within)
    ∙ (flat_map-append text (take k items) (get_or items k none ∷ []) ∙ ap (λ t. flat_map text (take k items) ++ t) (append-nil (text (get_or items k none))))

-- after the texts before an index comes the one there
pub each_follows : {X : Type 0} (text : X → List ℕ) (items : List X) (k : ℕ) (none : X) {old mid new : Option Written} → k < length items
    → Wrote old mid (flat_map text (take k items)) true → Wrote mid new (text (get_or items k none)) true → Wrote old new (flat_map text (take (k + 1) items)) true
each_follows text items k none within first second = follow first second (before_and_there text items k none within)

-- what ended in the one there ended in all of them
pub each_ends_early : {X : Type 0} (text : X → List ℕ) (items : List X) (k : ℕ) (none : X) {old mid new : Option Written} → k < length items
    → Wrote old mid (flat_map text (take k items)) true → Wrote mid new (text (get_or items k none)) false → Wrote old new (flat_map text items) false
each_ends_early text items k none within first second =
    let front = flat_map text (take k items) ++ text (get_or items k none) in
    let whole : flat_map text items ≡ front ++ flat_map text (drop (k + 1) items) =
    ap (flat_map text) (sym (take-append-drop (k + 1) items))
    ∙ (flat_map-append text (take (k + 1) items) (drop (k + 1) items) ∙ ap (λ t. t ++ flat_map text (drop (k + 1) items)) (before_and_there text items k none within)) in
    ends_early (flat_map text (drop (k + 1) items)) (follow {whole = front} first second refl) whole
