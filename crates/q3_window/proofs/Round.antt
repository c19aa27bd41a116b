-- Texts and commands that stand in the places of rising numbers.
use Rattle.std.proofs.Common.{take_all, length-drop, ◌≡◌, ◌≢◌, ℕ, zero, suc, ◌+◌, ◌-◌, ◌*◌, ◌/◌, ◌%◌, ◌<◌, ◌≤◌, List, [], ◌∷◌, ◌++◌, length, get_or, take, drop, set, refl, sym, ap, ◌∙◌, add-one, drop-cons, drop_at, get_or-set_same, get_or-set_other, arith}
use Rattle.std.proofs.Math.Nat.{mod-lt}
use Rattle.q3_text.specs.declared.text.Command.{Command}
use Rattle.q3_text.specs.Commands.{numbered}
use Rattle.std.proofs.lemmas.List.{get_or_default, take_rest, append-nil}
use Rattle.std.proofs.lemmas.List.Sums.{sum_by_push}
use Rattle.q3_window.specs.Outgoing.{total_of}
use Rattle.q3_window.specs.Cells.{places, blank, cell_at, kept_text, texts_from}

pub kept_text-cell : (cells : List Command) (number : ℕ) → 0 < number → kept_text cells number ≡ (cell_at cells number).text
kept_text-cell cells zero some = absurd (omega arith)
kept_text-cell cells (suc k) some = refl

pub length-texts_from : (cells : List Command) (first count : ℕ) → length (texts_from cells first count) ≡ count
unfolding texts_from
length-texts_from cells first zero = refl
length-texts_from cells first (suc count) = ap suc (length-texts_from cells (first + 1) count)

pub texts_from-one : (cells : List Command) (first : ℕ) → texts_from cells first 1 ≡ kept_text cells first ∷ []
unfolding texts_from
texts_from-one cells first = refl

-- the last acknowledged one and those after it
pub texts_from-cons : (cells : List Command) (first count : ℕ) → texts_from cells first (count + 1) ≡ kept_text cells first ∷ texts_from cells (first + 1) count
unfolding texts_from
texts_from-cons cells first count = ap (texts_from cells first) (add-one count)

pub texts_from-add : (cells : List Command) (first a b : ℕ) → texts_from cells first (a + b) ≡ texts_from cells first a ++ texts_from cells (first + a) b
unfolding texts_from
texts_from-add cells first zero b =
    let left : 0 + b ≡ b = omega arith in
    let right : first ≡ first + 0 = omega arith in
    ap (texts_from cells first) left ∙ ap (λ (k : ℕ). texts_from cells k b) right
texts_from-add cells first (suc a) b =
    let left : suc a + b ≡ suc (a + b) = omega arith in
    let right : first + 1 + a ≡ first + suc a = omega arith in
    ap (texts_from cells first) left ∙ ap (λ (texts : List (List ℕ)). kept_text cells first ∷ texts) (texts_from-add cells (first + 1) a b)
    ∙ ap (λ (k : ℕ). kept_text cells first ∷ (texts_from cells (first + 1) a ++ texts_from cells k b)) right

pub texts_from-split : (cells : List Command) (first count k : ℕ) → k ≤ count
    → texts_from cells first count ≡ texts_from cells first k ++ texts_from cells (first + k) (count - k)
texts_from-split cells first count k within =
    let whole : count ≡ k + (count - k) = omega arith in
    ap (texts_from cells first) whole ∙ texts_from-add cells first k (count - k)

pub drop-texts_from : (cells : List Command) (first count k : ℕ) → k ≤ count
    → drop k (texts_from cells first count) ≡ texts_from cells (first + k) (count - k)
drop-texts_from cells first count k within =
    ap (drop k) (texts_from-split cells first count k within)
    ∙ drop_at (texts_from cells first k) (texts_from cells (first + k) (count - k)) k (length-texts_from cells first k)

pub get-texts_from : (cells : List Command) (first count k : ℕ) (d : List ℕ) → k < count → get_or (texts_from cells first count) k d ≡ kept_text cells (first + k)
unfolding texts_from
get-texts_from cells first zero k d within = absurd (omega arith)
get-texts_from cells first (suc count) zero d within =
    let same : first ≡ first + 0 = omega arith in
    ap (kept_text cells) same
get-texts_from cells first (suc count) (suc k) d within =
    let same : first + 1 + k ≡ first + suc k = omega arith in
    get-texts_from cells (first + 1) count k d (omega arith) ∙ ap (kept_text cells) same

-- texts that stand in other places stay
pub same-texts_from : (cells new : List Command) (first count : ℕ)
    → ((number : ℕ) → first ≤ number → number < first + count → kept_text new number ≡ kept_text cells number)
    → texts_from new first count ≡ texts_from cells first count
unfolding texts_from
same-texts_from cells new first zero same = refl
same-texts_from cells new first (suc count) same =
    let after = same-texts_from cells new (first + 1) count (λ number least below. same number (omega arith) (omega arith)) in
    ap (λ (text : List ℕ). text ∷ texts_from new (first + 1) count) (same first (omega arith) (omega arith))
    ∙ ap (λ (texts : List (List ℕ)). kept_text cells first ∷ texts) after

-- ---- a command is put into its place

other_place : (number other : ℕ) → other < number → number < other + places → other % places ≢ number % places
other_place number other below near same = omega arith

pub cell_at-other : (cells : List Command) (number other : ℕ) (command : Command) → other < number → number < other + places
    → cell_at (set cells (number % places) command) other ≡ cell_at cells other
cell_at-other cells number other command below near =
    get_or-set_other cells (number % places) (other % places) command blank (other_place number other below near)

pub cell_at-same : (cells : List Command) (number : ℕ) (command : Command) → length cells ≡ places → cell_at (set cells (number % places) command) number ≡ command
cell_at-same cells number command count =
    let below = mod-lt number {m = places} (omega arith) in
    get_or-set_same cells (number % places) command blank (omega arith)

pub kept_text-other : (cells : List Command) (number other : ℕ) (command : Command) → other < number → number < other + places
    → kept_text (set cells (number % places) command) other ≡ kept_text cells other
kept_text-other cells number zero command below near = refl
kept_text-other cells number (suc k) command below near = ap (λ (cell : Command). cell.text) (cell_at-other cells number (suc k) command below near)

-- ---- the commands themselves, in one piece or two

unfoldable pub commands_from : List Command → ℕ → ℕ → List Command
commands_from cells first zero = []
commands_from cells first (suc count) = cell_at cells first ∷ commands_from cells (first + 1) count

commands_from-add : (cells : List Command) (first a b : ℕ) → commands_from cells first (a + b) ≡ commands_from cells first a ++ commands_from cells (first + a) b
unfolding commands_from
commands_from-add cells first zero b =
    let left : 0 + b ≡ b = omega arith in
    let right : first ≡ first + 0 = omega arith in
    ap (commands_from cells first) left ∙ ap (λ (k : ℕ). commands_from cells k b) right
commands_from-add cells first (suc a) b =
    let left : suc a + b ≡ suc (a + b) = omega arith in
    let right : first + 1 + a ≡ first + suc a = omega arith in
    ap (commands_from cells first) left ∙ ap (λ (commands : List Command). cell_at cells first ∷ commands) (commands_from-add cells (first + 1) a b)
    ∙ ap (λ (k : ℕ). cell_at cells first ∷ (commands_from cells (first + 1) a ++ commands_from cells k b)) right

-- under their numbers they are texts with numbers
commands-numbered : (cells : List Command) (first count : ℕ) → 0 < first
    → ((number : ℕ) → first ≤ number → number < first + count → (cell_at cells number).number ≡ number)
    → commands_from cells first count ≡ numbered first (texts_from cells first count)
unfolding commands_from texts_from numbered
commands-numbered cells first zero some numbers = refl
commands-numbered cells first (suc count) some numbers =
    let after = commands-numbered cells (first + 1) count (omega arith) (λ number least below. numbers number (omega arith) (omega arith)) in
    let commands : List Command = commands_from cells (first + 1) count in
    ap (λ (number : ℕ). record { number = number; text = (cell_at cells first).text } ∷ commands) (numbers first (omega arith) (omega arith))
    ∙ ap (λ (text : List ℕ). record { number = first; text = text } ∷ commands) (sym (kept_text-cell cells first some))
    ∙ ap (λ (commands : List Command). record { number = first; text = kept_text cells first } ∷ commands) after

-- as far as the last place they stand one after another
commands-within : (cells : List Command) (q place count first : ℕ) → length cells ≡ places → place + count ≤ places → first ≡ places * q + place
    → commands_from cells first count ≡ take count (drop place cells)
unfolding commands_from
commands-within cells q place zero first whole within is = refl
commands-within cells q place (suc count) first whole within is =
    let at : first % places ≡ place = omega arith in
    let after = commands-within cells q (place + 1) count (first + 1) whole (omega arith) (omega arith) in
    let here : drop place cells ≡ get_or cells place blank ∷ drop (place + 1) cells =
    drop-cons cells place blank (omega arith) ∙ ap (λ (k : ℕ). get_or cells place blank ∷ drop k cells) (sym (add-one place)) in
    ap (λ (k : ℕ). get_or cells k blank ∷ commands_from cells (first + 1) count) at
    ∙ ap (λ (commands : List Command). get_or cells place blank ∷ commands) after
    ∙ sym (ap (take (suc count)) here)

-- in one piece
pub run_within : (cells : List Command) (first count : ℕ) → length cells ≡ places → 0 < first → first % places + count ≤ places
    → ((number : ℕ) → first ≤ number → number < first + count → (cell_at cells number).number ≡ number)
    → take count (drop (first % places) cells) ≡ numbered first (texts_from cells first count)
run_within cells first count whole some within numbers =
    sym (commands-within cells (first / places) (first % places) count first whole within (omega arith)) ∙ commands-numbered cells first count some numbers

-- in two pieces
pub run_past : (cells : List Command) (first count after : ℕ) → length cells ≡ places → 0 < first → after ≡ places - first % places → after < count
    → count ≤ places
    → ((number : ℕ) → first ≤ number → number < first + count → (cell_at cells number).number ≡ number)
    → drop (first % places) cells ++ take (count - after) cells ≡ numbered first (texts_from cells first count)
run_past cells first count after whole some is past few numbers =
    let one = commands-within cells (first / places) (first % places) after first whole (omega arith) (omega arith) in
    let two = commands-within cells (first / places + 1) 0 (count - after) (first + after) whole (omega arith) (omega arith) in
    let all : after + (count - after) ≡ count = omega arith in
    let rest : take after (drop (first % places) cells) ≡ drop (first % places) cells =
    take_all after (drop (first % places) cells) (omega (arith, length-drop (first % places) cells)) in
    sym (sym (ap (commands_from cells first) all) ∙ commands_from-add cells first after (count - after)
    ∙ ap (λ (commands : List Command). commands ++ commands_from cells (first + after) (count - after)) (one ∙ rest)
    ∙ ap (λ (commands : List Command). drop (first % places) cells ++ commands) two)
    ∙ commands-numbered cells first count some numbers

-- ---- as code reads them

-- what stands in a place
pub cell_is : (cells : List Command) (number : ℕ) (cell : Command) → length cells ≡ places → cell ≡ get_or cells (number % places) cell → cell ≡ cell_at cells number
cell_is cells number cell count is =
    let below = mod-lt number {m = places} (omega arith) in
    is ∙ get_or_default cells (number % places) cell blank (omega arith)

-- the bytes of one more
pub bytes_more : (cells : List Command) (first passed : ℕ) (cell : Command) → length cells ≡ places → 0 < first
    → cell ≡ get_or cells ((first + passed) % places) cell
    → total_of (texts_from cells first passed) + length cell.text ≡ total_of (texts_from cells first (passed + 1))
bytes_more cells first passed cell count some is =
    let here : cell.text ≡ kept_text cells (first + passed) =
    ap (λ (cell : Command). cell.text) (cell_is cells (first + passed) cell count is) ∙ sym (kept_text-cell cells (first + passed) (omega arith)) in
    ap (λ (text : List ℕ). total_of (texts_from cells first passed) + length text) here
    ∙ sym (sum_by_push length (texts_from cells first passed) (kept_text cells (first + passed)))
    ∙ ap (λ (texts : List (List ℕ)). total_of (texts_from cells first passed ++ texts)) (sym (texts_from-one cells (first + passed)))
    ∙ ap total_of (sym (texts_from-add cells first passed 1))

-- what is lent in one piece, where the slice is told by an equation
pub lent_within : (cells lent : List Command) (first count : ℕ) → lent ≡ cells → length cells ≡ places → 0 < first → first % places + count ≤ places
    → ((number : ℕ) → first ≤ number → number < first + count → (cell_at cells number).number ≡ number)
    → take count (take (length lent - first % places) (drop (first % places) lent)) ++ [] ≡ numbered first (texts_from cells first count)
lent_within cells lent first count is whole some within numbers =
    append-nil (take count (take (length lent - first % places) (drop (first % places) lent)))
    ∙ ap (take count) (take_rest lent (first % places) ∙ ap (drop (first % places)) is)
    ∙ run_within cells first count whole some within numbers

-- and in two
pub lent_past : (cells lent other : List Command) (first count after : ℕ) → lent ≡ cells → other ≡ cells → length cells ≡ places → 0 < first
    → after ≡ places - first % places → after < count → count ≤ places
    → ((number : ℕ) → first ≤ number → number < first + count → (cell_at cells number).number ≡ number)
    → take (length lent - first % places) (drop (first % places) lent) ++ take (count - after) other ≡ numbered first (texts_from cells first count)
lent_past cells lent other first count after is other_is whole some rest_is past few numbers =
    ap (λ (commands : List Command). commands ++ take (count - after) other) (take_rest lent (first % places) ∙ ap (drop (first % places)) is)
    ∙ ap (λ (commands : List Command). drop (first % places) cells ++ take (count - after) commands) other_is
    ∙ run_past cells first count after whole some rest_is past few numbers
