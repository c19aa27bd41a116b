-- The lines of what messages left, one after the other.
use Rattle.std.proofs.Common.{◌≡◌, ℕ, zero, suc, ◌+◌, ◌-◌, ◌<◌, ◌≤◌, List, [], ◌∷◌, ◌++◌, length, take, drop, get_or, Option, Some, None, codes, decimal, refl, sym, ap, ◌∙◌, append_assoc, add-one, arith}
use Rattle.std.specs.List.{concat}
use Rattle.std.proofs.lemmas.List.{append-nil, take_more, length-take-le, take-append-drop}
use Rattle.q3_entity.specs.declared.state.EntityState.{EntityState}
use Rattle.q3_entity.specs.Report.{fields_text}
use Rattle.q3_rings.specs.Rings.{HeldSnapshot, HeldSnapshots}
use Rattle.q3_rings.specs.ByNumber.{held_under}
use Rattle.q3_demo.specs.Report.{indexed_text, config_text, configs_text, baseline_text, held_text, held_texts}

-- ---- config strings

pub config_some : (index : ℕ) (text : List ℕ) → 0 < length text → config_text index text ≡ indexed_text (codes "config") index text
config_some index [] some = absurd (omega arith)
config_some index (byte ∷ bytes) some = refl

pub configs_text-nil : configs_text 0 [] ≡ []
unfolding configs_text
configs_text-nil = refl

configs_text-append : (index : ℕ) (xs ys : List (List ℕ)) → configs_text index (xs ++ ys) ≡ configs_text index xs ++ configs_text (index + length xs) ys
unfolding configs_text
configs_text-append index [] ys = ap (λ i. configs_text i ys) (omega arith)
configs_text-append index (x ∷ xs) ys =
    ap (λ t. config_text index x ++ t) (configs_text-append (index + 1) xs ys)
    ∙ (sym (append_assoc (config_text index x) (configs_text (index + 1) xs) (configs_text (index + 1 + length xs) ys))
    ∙ ap (λ i. (config_text index x ++ configs_text (index + 1) xs) ++ configs_text i ys) (omega arith))

configs_text-push : (index : ℕ) (texts : List (List ℕ)) (text : List ℕ) → configs_text index (texts ++ text ∷ []) ≡ configs_text index texts ++ config_text (index + length texts) text
unfolding configs_text
configs_text-push index texts text =
    configs_text-append index texts (text ∷ []) ∙ ap (λ t. configs_text index texts ++ t) (append-nil (config_text (index + length texts) text))

-- the strings before an index and the string there
pub configs_text-more : (texts : List (List ℕ)) (index : ℕ) → index < length texts
    → configs_text 0 (take (index + 1) texts) ≡ configs_text 0 (take index texts) ++ config_text index (get_or texts index [])
configs_text-more texts index within =
    ap (configs_text 0) (take_more texts index [] within) ∙ (configs_text-push 0 (take index texts) (get_or texts index [])
    ∙ ap (λ i. configs_text 0 (take index texts) ++ config_text i (get_or texts index [])) (omega (arith, length-take-le index texts (omega arith))))

-- the strings after an index
abbrev pub configs_after : List (List ℕ) → ℕ → List ℕ
configs_after texts index = configs_text (0 + length (take (index + 1) texts)) (drop (index + 1) texts)

-- the strings before an index, the string there, and the others
pub configs_text-split : (texts : List (List ℕ)) (index : ℕ) → index < length texts
    → configs_text 0 texts ≡ (configs_text 0 (take index texts) ++ config_text index (get_or texts index [])) ++ configs_after texts index
configs_text-split texts index within =
    ap (configs_text 0) (sym (take-append-drop (index + 1) texts))
    ∙ (configs_text-append 0 (take (index + 1) texts) (drop (index + 1) texts) ∙ ap (λ t. t ++ configs_after texts index) (configs_text-more texts index within))

-- ---- baselines

three : (a b fields end : List ℕ) → concat (a ∷ b ∷ fields ∷ end ∷ []) ≡ concat (a ∷ b ∷ []) ++ (fields ++ end)
three a b fields end = simp (append_assoc, append-nil) refl

-- a baseline's line
pub baseline_in_parts : (state : EntityState) → baseline_text (Some state) ≡ concat (codes "+ baseline " ∷ decimal state.number ∷ []) ++ (fields_text state.words ++ codes "\n")
baseline_in_parts state = three (codes "+ baseline ") (decimal state.number) (fields_text state.words) (codes "\n")

-- ---- snapshots

pub held_texts-zero : (held : HeldSnapshots) → held_texts held 0 ≡ []
unfolding held_texts
held_texts-zero held = refl

-- numbers under which nothing is held have no line
skipped : (held : HeldSnapshots) (last more : ℕ) → ((n : ℕ) → last < n → n < last + more + 1 → held_under held n ≡ None) → held_texts held (last + more) ≡ held_texts held last
unfolding held_texts
skipped held last zero none = ap (held_texts held) (let e : last + 0 ≡ last = omega arith in e)
skipped held last (suc more) none =
    let here : held_under held (suc (last + more)) ≡ None = none (suc (last + more)) (omega arith) (omega arith) in
    ap (held_texts held) (let e : last + suc more ≡ suc (last + more) = omega arith in e)
    ∙ ap (λ (found : Option HeldSnapshot). held_texts held (last + more) ++ held_text found) here
    ∙ append-nil (held_texts held (last + more))
    ∙ skipped held last more (λ n above below. none n above (omega arith))

last_one : (held : HeldSnapshots) (number : ℕ) → held_texts held (number + 1) ≡ held_texts held number ++ held_text (held_under held (number + 1))
unfolding held_texts
last_one held number = ap (held_texts held) (add-one number) ∙ ap (λ (n : ℕ). held_texts held number ++ held_text (held_under held n)) (sym (add-one number))

-- the lines up to a number, and that of the next one under which something may be held
pub held_texts-more : (held : HeldSnapshots) (last next : ℕ) → last < next → ((n : ℕ) → last < n → n < next → held_under held n ≡ None)
    → held_texts held next ≡ held_texts held last ++ held_text (held_under held next)
held_texts-more held last next less none =
    let before : ℕ = next - 1 in
    let next-is : next ≡ before + 1 = omega arith in
    let here : before ≡ last + (before - last) = omega arith in
    ap (held_texts held) next-is ∙ last_one held before
    ∙ ap (λ (t : List ℕ). t ++ held_text (held_under held (before + 1)))
    (ap (held_texts held) here ∙ skipped held last (before - last) (λ n above below. none n above (omega arith)))
    ∙ ap (λ (n : ℕ). held_texts held last ++ held_text (held_under held n)) (sym next-is)

-- the lines up to a number, and the others
more_texts : (held : HeldSnapshots) (last more : ℕ) → (rest : List ℕ) × (held_texts held (last + more) ≡ held_texts held last ++ rest)
more_texts held last zero = ([], ap (held_texts held) (let e : last + 0 ≡ last = omega arith in e) ∙ sym (append-nil (held_texts held last)))
more_texts held last (suc more) =
    let others = more_texts held last more in
    let line : List ℕ = held_text (held_under held (last + more + 1)) in (
      others.0 ++ line,
      ap (held_texts held) (let e : last + suc more ≡ last + more + 1 = omega arith in e) ∙ last_one held (last + more) ∙ ap (λ (t : List ℕ). t ++ line) others.1 ∙ append_assoc (held_texts held last) others.0 line,
    )

pub held_texts-after : (held : HeldSnapshots) (last newest : ℕ) → last ≤ newest → (rest : List ℕ) × (held_texts held newest ≡ held_texts held last ++ rest)
held_texts-after held last newest le =
    let others = more_texts held last (newest - last) in
    let is : newest ≡ last + (newest - last) = omega arith in
    (others.0, ap (held_texts held) is ∙ others.1)

-- ---- a record

pub record_in_parts : (a b d e f lines : List ℕ) → concat (a ∷ b ∷ d ∷ e ∷ f ∷ lines ∷ []) ≡ concat (a ∷ b ∷ d ∷ e ∷ f ∷ []) ++ lines
record_in_parts a b d e f lines = simp (append_assoc, append-nil) refl

-- ---- all of it

pub state_in_parts : (a b d e f h i : List ℕ) → concat (a ∷ b ∷ d ∷ e ∷ f ∷ h ∷ i ∷ []) ≡ a ++ (b ++ (d ++ (e ++ (f ++ (h ++ i)))))
state_in_parts a b d e f h i = simp append-nil refl
