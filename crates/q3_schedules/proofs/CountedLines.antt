-- What a replay counts are the lines of its report, by their kind.
use Rattle.std.proofs.Common.{◌≡◌, ℕ, ◌+◌, ◌-◌, ◌^◌, ◌≤◌, cond, List, [], ◌∷◌, ◌++◌, map, count_by, refl, sym, ap, ap₂, ◌∙◌, arith}
use Rattle.std.specs.List.{flat_map, sum_by}
use Rattle.std.proofs.lemmas.List.Sums.{sum_by-cons, sum_by-append}
use Rattle.q3_report.specs.Answers.{Answered}
use Rattle.q3_report.specs.AnswerLines.{lines_of}
use Rattle.q3_counts.specs.declared.counts.Counts.{Counts}
use Rattle.q3_counts.specs.Counts.{no_counts, lines_in, more, with_lines, counted, counted_all, counts_of}
use Rattle.q3_world.specs.World.{opening, answers as answers_of}
use Rattle.q3_world.specs.Report.{report}
use Rattle.q3_schedules.specs.ReportLines.{text_lines, Placed, placed, lines_by_kind, counts_in, CountsAreLines, ReplayIsCounted}
use Rattle.q3_schedules.proofs.SpelledLines.{Spelled, nothing, join, lines_of_spelled}
use Rattle.q3_schedules.proofs.PlacedLines.{Kind, Event, test_of, count_of, at, tally, placed_under, placed_first, placed_nothing, same_counts}
use Rattle.q3_schedules.proofs.AnswerLines.{answer_is}

-- how many lines of a kind these answers have
abbrev total : Kind → List Answered → ℕ
total kind answers = sum_by (λ answer. count_of kind (lines_in answer)) answers

-- the lines of a report, and how many there are of each kind, whatever stands above them
pub record ReportIs (answers : List Answered) : Type 0 where
  pub lines : List (List ℕ)
  pub spelled : Spelled (flat_map lines_of answers) lines
  pub counts : (above : List ℕ) (kind : Kind) → count_by (test_of kind) (placed above lines) ≡ total kind answers

report_is : (answers : List Answered) → ReportIs answers
report_is [] = record { lines = []; spelled = nothing; counts = λ above kind. ap (λ (l : List Placed). count_by (test_of kind) l) (placed_nothing above) }
report_is (answer ∷ answers) =
    let one = answer_is answer in
    let others = report_is answers in
    record {
      lines = one.first ∷ (one.others ++ others.lines);
      spelled = join (lines_of answer) (flat_map lines_of answers) (one.first ∷ one.others) others.lines one.spelled others.spelled;
      counts = λ above kind.
          let places : placed above (one.first ∷ (one.others ++ others.lines)) ≡ map (at one.first) (one.first ∷ one.others) ++ placed one.first others.lines =
          placed_first above one.first (one.others ++ others.lines) one.starts
          ∙ ap (λ (l : List Placed). at one.first one.first ∷ l) (placed_under one.first one.others others.lines one.under) in
          let apart : count_by (test_of kind) (map (at one.first) (one.first ∷ one.others) ++ placed one.first others.lines)
          ≡ tally kind one.first (one.first ∷ one.others) + count_by (test_of kind) (placed one.first others.lines) =
          sum_by-append (λ x. cond (test_of kind x) 1 0) (map (at one.first) (one.first ∷ one.others)) (placed one.first others.lines) in
          ap (λ (l : List Placed). count_by (test_of kind) l) places ∙ apart
          ∙ ap₂ (λ (n m : ℕ). n + m) (one.counts kind) (others.counts one.first kind)
          ∙ sym (sum_by-cons (λ answer. count_of kind (lines_in answer)) answer answers);
    }

-- ---- what is counted, kind by kind

with_is : (counts lines : Counts) (kind : Kind) → count_of kind (with_lines counts lines) ≡ more (count_of kind counts) (count_of kind lines)
with_is counts lines Event = refl
with_is counts lines kind = refl

by_kind : (lines : List Placed) (kind : Kind) → count_of kind (lines_by_kind lines) ≡ count_by (test_of kind) lines
by_kind lines Event = refl
by_kind lines kind = refl

none_is : (kind : Kind) → count_of kind no_counts ≡ 0
none_is Event = refl
none_is kind = refl

stops : (a b c : ℕ) → more (more a b) c ≡ more a (b + c)
stops a b c = omega arith

counted_is : (kind : Kind) (counts : Counts) (answers : List Answered) → count_of kind counts ≤ 2 ^ 64 - 1
    → count_of kind (counted_all counts answers) ≡ more (count_of kind counts) (total kind answers)
unfolding counted_all
counted_is kind counts [] few = omega arith
counted_is kind counts (answer ∷ answers) few =
    let next : count_of kind (counted counts answer) ≡ more (count_of kind counts) (count_of kind (lines_in answer)) = with_is counts (lines_in answer) kind in
    counted_is kind (counted counts answer) answers (omega arith)
    ∙ ap (λ (n : ℕ). more n (total kind answers)) next
    ∙ stops (count_of kind counts) (count_of kind (lines_in answer)) (total kind answers)
    ∙ ap (λ (n : ℕ). more (count_of kind counts) n) (sym (sum_by-cons (λ answer. count_of kind (lines_in answer)) answer answers))

pub counts_are_lines : CountsAreLines
counts_are_lines answers = same_counts (counts_of answers) (counts_in (flat_map lines_of answers)) same where
  same : (kind : Kind) → count_of kind (counts_of answers) ≡ count_of kind (counts_in (flat_map lines_of answers))
  same kind =
      let report = report_is answers in
      let lines : text_lines (flat_map lines_of answers) ≡ report.lines = lines_of_spelled (flat_map lines_of answers) report.lines report.spelled in
      let counts : count_by (test_of kind) (placed [] (text_lines (flat_map lines_of answers))) ≡ total kind answers =
      ap (λ (l : List (List ℕ)). count_by (test_of kind) (placed [] l)) lines ∙ report.counts [] kind in
      counted_is kind no_counts answers (omega (arith, none_is kind))
      ∙ ap (λ (n : ℕ). more (count_of kind no_counts) n) (sym (by_kind (placed [] (text_lines (flat_map lines_of answers))) kind ∙ counts))
      ∙ sym (with_is no_counts (lines_by_kind (placed [] (text_lines (flat_map lines_of answers)))) kind)

pub replay_is_counted : ReplayIsCounted
unfolding report
replay_is_counted profile events = counts_are_lines (answers_of profile (opening profile) events)
