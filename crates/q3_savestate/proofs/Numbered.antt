-- The snapshots that are held, one after the other by rising number.
use Rattle.std.proofs.Common.{◌≡◌, ℕ, zero, suc, ◌+◌, ◌-◌, ◌<◌, ◌≤◌, List, [], ◌++◌, Option, None, refl, sym, ap, ◌∙◌, append_assoc, add-one, arith}
use Rattle.std.specs.List.{flat_map}
use Rattle.std.proofs.lemmas.List.{append-nil}
use Rattle.std.proofs.lemmas.List.Concat.{flat_map-append}
use Rattle.q3_rings.specs.Rings.{HeldSnapshot, HeldSnapshots}
use Rattle.q3_rings.specs.ByNumber.{held_under, one_of, held_up_to}

pub up_to-zero : (held : HeldSnapshots) → held_up_to held 0 ≡ []
unfolding held_up_to
up_to-zero held = refl

-- numbers under which nothing is held
skipped : (held : HeldSnapshots) (last more : ℕ) → ((n : ℕ) → last < n → n < last + more + 1 → held_under held n ≡ None) → held_up_to held (last + more) ≡ held_up_to held last
unfolding held_up_to
skipped held last zero none = ap (held_up_to held) (let e : last + 0 ≡ last = omega arith in e)
skipped held last (suc more) none =
    let here : held_under held (suc (last + more)) ≡ None = none (suc (last + more)) (omega arith) (omega arith) in
    ap (held_up_to held) (let e : last + suc more ≡ suc (last + more) = omega arith in e)
    ∙ ap (λ (found : Option HeldSnapshot). held_up_to held (last + more) ++ one_of found) here
    ∙ append-nil (held_up_to held (last + more))
    ∙ skipped held last more (λ n above below. none n above (omega arith))

last_one : (held : HeldSnapshots) (number : ℕ) → held_up_to held (number + 1) ≡ held_up_to held number ++ one_of (held_under held (number + 1))
unfolding held_up_to
last_one held number = ap (held_up_to held) (add-one number) ∙ ap (λ (n : ℕ). held_up_to held number ++ one_of (held_under held n)) (sym (add-one number))

-- those up to a number, and the next one under which something may be held
up_to_next : (held : HeldSnapshots) (last next : ℕ) → last < next → ((n : ℕ) → last < n → n < next → held_under held n ≡ None)
    → held_up_to held next ≡ held_up_to held last ++ one_of (held_under held next)
up_to_next held last next less none =
    let before : ℕ = next - 1 in
    let next-is : next ≡ before + 1 = omega arith in
    let here : before ≡ last + (before - last) = omega arith in
    ap (held_up_to held) next-is ∙ last_one held before
    ∙ ap (λ (list : List HeldSnapshot). list ++ one_of (held_under held (before + 1)))
    (ap (held_up_to held) here ∙ skipped held last (before - last) (λ n above below. none n above (omega arith)))
    ∙ ap (λ (n : ℕ). held_up_to held last ++ one_of (held_under held n)) (sym next-is)

pub texts_next : (text : HeldSnapshot → List ℕ) (held : HeldSnapshots) (last next : ℕ) → last < next → ((n : ℕ) → last < n → n < next → held_under held n ≡ None)
    → flat_map text (held_up_to held next) ≡ flat_map text (held_up_to held last) ++ flat_map text (one_of (held_under held next))
texts_next text held last next less none =
    ap (flat_map text) (up_to_next held last next less none) ∙ flat_map-append text (held_up_to held last) (one_of (held_under held next))

-- those up to a number, and the others
more_after : (held : HeldSnapshots) (last more : ℕ) → (rest : List HeldSnapshot) × (held_up_to held (last + more) ≡ held_up_to held last ++ rest)
more_after held last zero = ([], ap (held_up_to held) (let e : last + 0 ≡ last = omega arith in e) ∙ sym (append-nil (held_up_to held last)))
more_after held last (suc more) =
    let others = more_after held last more in
    let one : List HeldSnapshot = one_of (held_under held (last + more + 1)) in (
      others.0 ++ one,
      ap (held_up_to held) (let e : last + suc more ≡ last + more + 1 = omega arith in e) ∙ last_one held (last + more) ∙ ap (λ (list : List HeldSnapshot). list ++ one) others.1
          ∙ append_assoc (held_up_to held last) others.0 one,
    )

pub texts_after : (text : HeldSnapshot → List ℕ) (held : HeldSnapshots) (last newest : ℕ) → last ≤ newest
    → (rest : List ℕ) × (flat_map text (held_up_to held newest) ≡ flat_map text (held_up_to held last) ++ rest)
texts_after text held last newest le =
    let others = more_after held last (newest - last) in
    let is : newest ≡ last + (newest - last) = omega arith in
    (flat_map text others.0, ap (λ number. flat_map text (held_up_to held number)) is ∙ ap (flat_map text) others.1 ∙ flat_map-append text (held_up_to held last) others.0)
