-- The lines of an end that took bytes.
use Rattle.std.proofs.Common.{◌≡◌, ℕ, ◌+◌, Bool, true, false, List, [], ◌∷◌, ◌++◌, length, Option, Some, None, codes, decimal, bytes_eq, refl, sym, ap, ◌∙◌}
use Rattle.std.specs.Prelude.{slice_index_or}
use Rattle.std.specs.List.{list_all, flat_map}
use Rattle.q3_text.specs.declared.text.Command.{Command}
use Rattle.q3_window.specs.Report.{commands_text}
use Rattle.q3_clmsg.specs.Report.{move_text}
use Rattle.q3_clmsg.specs.Report as client_words
use Rattle.q3_svmsg.specs.Report as server_words
use Rattle.q3_clstate.specs.State.{AppliedState}
use Rattle.q3_clstate.specs.declared.applied.Applied.{Applied}
use Rattle.q3_clstate.specs.Report.{outcome_text, game_text, applied_text}
use Rattle.q3_slot.specs.declared.taking.ServerTook.{ServerTook}
use Rattle.q3_slot.specs.declared.taking.ServerTook.TheVariants as took
use Rattle.q3_client.specs.declared.client.ClientTook.{ClientTook}
use Rattle.q3_client.specs.declared.client.ClientTook.TheVariants.{Dropped, Runt, Connectionless, Old, OutOfOrder, BadCheck, BadFragment, Partial, Illegible, Applied as ClientApplied}
use Rattle.q3_report.specs.ServerLines.{heard_text, server_text, entered_text, owed_text}
use Rattle.q3_slot.specs.declared.taking.Heard.{Heard}
use Rattle.q3_report.specs.ServerLines as server_lines
use Rattle.q3_report.specs.ClientLines as client_lines
use Rattle.q3_report.specs.ClientLines.{took_text, client_text}
use Rattle.q3_report.specs.Answers.{Taking, ByClient, ByServer}
use Rattle.q3_report.specs.AnswerLines.{ended_text, taking_text}
use Rattle.q3_words.specs.Words.{words_of}
use Rattle.q3_counts.specs.declared.counts.Counts.{Counts}
use Rattle.q3_counts.specs.Counts.{no_counts, one_event, accepted_in, skipped_in, lines_of_client, lines_of_server, lines_of_taking}
use Rattle.q3_schedules.specs.ReportLines.{is_under, taken_by}
use Rattle.q3_text.specs.Cuts.{lacks}
use Rattle.q3_schedules.proofs.PlainTexts.{number}
use Rattle.q3_schedules.proofs.SpelledLines.{Spelled, in_front, newline, join, last}
use Rattle.q3_schedules.proofs.PlacedLines.{Kind, count_of, tally, plus, plus_is, plus_none, applied_counts, ran_counts}
use Rattle.q3_schedules.proofs.LineEnds.{OneLine, after_part, whole, closed, client_cause, server_cause}
use Rattle.q3_schedules.proofs.LinesUnder.{counts_each, Beneath, none_beneath, both_beneath, commands_beneath, moves_beneath, entered_beneath, owed_beneath, ended_beneath, game_beneath, outcome_beneath}

-- the third word of a line whose first two were passed
abbrev pub next_is : List ℕ → List ℕ → Bool
next_is end rest = bytes_eq end (slice_index_or (words_of rest) 0 [])

-- the rest of the first line, and the lines under it
pub record TakingLines (taking : Taking) : Type 0 where
  pub rest : List ℕ
  pub others : List (List ℕ)
  pub spelled : Spelled (taking_text taking) ((32 ∷ rest) ∷ others)
  pub under : list_all is_under others ≡ true
  pub counted : (first : List ℕ) → ((end : List ℕ) → taken_by end first ≡ next_is end rest)
      → (kind : Kind) → count_of kind one_event + tally kind first others ≡ count_of kind (lines_of_taking taking)

abbrev taking_beneath : (taking : Taking) (rest : List ℕ) (client server : Bool) (text : List ℕ) (counts : Counts)
    → next_is (codes "client") rest ≡ client → next_is (codes "server") rest ≡ server
    → (is : Beneath client server text counts) → Spelled (taking_text taking) ((32 ∷ rest) ∷ is.lines)
    → plus one_event counts ≡ lines_of_taking taking → TakingLines taking
taking_beneath taking rest client server text counts by_client by_server is spelled same = record {
  rest = rest;
  others = is.lines;
  spelled = spelled;
  under = is.under;
  counted = λ first by kind.
      ap (λ (n : ℕ). count_of kind one_event + n) (is.counted first (by (codes "client") ∙ by_client) (by (codes "server") ∙ by_server) kind)
      ∙ plus_is one_event counts kind ∙ ap (λ (c : Counts). count_of kind c) same;
}

taking_alone : (taking : Taking) (rest : List ℕ) → Spelled (taking_text taking) ((32 ∷ rest) ∷ []) → lines_of_taking taking ≡ one_event → TakingLines taking
taking_alone taking rest spelled same =
    taking_beneath taking rest (next_is (codes "client") rest) (next_is (codes "server") rest) [] no_counts refl refl
    (none_beneath (next_is (codes "client") rest) (next_is (codes "server") rest)) spelled (sym same)

-- a client's line, and one under it where its recording ended
client_alone : (c : ℕ) (took : ClientTook) (state : AppliedState) (commands : List Command) (ended : Bool) → OneLine (took_text state took commands)
    → lines_of_client took commands ≡ one_event → TakingLines (ByClient c took state commands ended)
client_alone c took state commands ended one same =
    let is = after_part (codes " client ") (decimal c ++ (took_text state took commands ++ [])) refl
    (after_part (decimal c) (took_text state took commands ++ []) (number c) (closed (took_text state took commands) one)) in
    let rest : List ℕ = codes "client " ++ (decimal c ++ one.line) in
    let by_client = next_is (codes "client") rest in
    let by_server = next_is (codes "server") rest in
    let ended_is = ended_beneath by_client by_server ended in
    taking_beneath (ByClient c took state commands ended) rest by_client by_server (ended_text ended) no_counts refl refl ended_is
    (join (client_text state c took commands) (ended_text ended) (is.line ∷ []) ended_is.lines is.spelled ended_is.spelled) (sym same)

client_illegible : (word : List ℕ) → lacks 10 word ≡ true → (n : Option ℕ) → OneLine (client_lines.illegible_text word n)
client_illegible word plain None = after_part (codes " illegible ") (word ++ codes "\n") refl (whole word plain)
client_illegible word plain (Some n) =
    after_part (codes " illegible ") (word ++ (codes " " ++ (decimal n ++ codes "\n"))) refl
    (after_part word (codes " " ++ (decimal n ++ codes "\n")) plain (after_part (codes " ") (decimal n ++ codes "\n") refl (whole (decimal n) (number n))))

client_applied : (c : ℕ) (applied : Applied) (state : AppliedState) (commands : List Command) (ended : Bool) → TakingLines (ByClient c (ClientApplied applied) state commands ended)
client_applied c applied state commands ended =
    let commands_are = commands_beneath true false commands in
    let game_is = game_beneath true false state applied.game in
    let outcome_is = outcome_beneath true false applied.number applied.snap in
    let none_is = none_beneath true false in
    let outcome_counts : Counts = record no_counts { accepted = accepted_in applied.snap; skipped = skipped_in applied.snap } in
    let command_counts : Counts = counts_each true false false false true false (length commands) in
    let is = both_beneath true false (commands_text commands) (game_text state applied.game ++ (outcome_text applied.number applied.snap ++ [])) command_counts
    (plus no_counts (plus outcome_counts no_counts)) commands_are
    (both_beneath true false (game_text state applied.game) (outcome_text applied.number applied.snap ++ []) no_counts (plus outcome_counts no_counts) game_is
    (both_beneath true false (outcome_text applied.number applied.snap) [] outcome_counts no_counts outcome_is none_is)) in
    let counts = plus command_counts (plus no_counts (plus outcome_counts no_counts)) in
    let below : List ℕ = applied_text state applied commands in
    let ended_is = ended_beneath true false ended in
    let tail : List ℕ = codes " applied " ++ (decimal applied.number ++ (10 ∷ (below ++ []))) in
    let rest : List ℕ = codes "applied " ++ (decimal applied.number ++ []) in
    let tail_is : Spelled tail ((32 ∷ rest) ∷ is.lines) =
    in_front (codes " applied ") (decimal applied.number ++ (10 ∷ (below ++ []))) (decimal applied.number ++ []) is.lines refl
    (in_front (decimal applied.number) (10 ∷ (below ++ [])) [] is.lines (number applied.number)
    (newline (below ++ []) is.lines (last below is.lines is.spelled))) in
    let line : List ℕ = codes "client " ++ (decimal c ++ (32 ∷ rest)) in
    let spelled : Spelled (client_text state c (ClientApplied applied) commands) ((32 ∷ line) ∷ is.lines) =
    in_front (codes " client ") (decimal c ++ (tail ++ [])) (decimal c ++ (32 ∷ rest)) is.lines refl
    (in_front (decimal c) (tail ++ []) (32 ∷ rest) is.lines (number c) (last tail ((32 ∷ rest) ∷ is.lines) tail_is)) in
    taking_beneath (ByClient c (ClientApplied applied) state commands ended) line true false (below ++ ended_text ended)
    (plus counts no_counts) refl refl
    (both_beneath true false below (ended_text ended) counts no_counts is ended_is)
    (join (client_text state c (ClientApplied applied) commands) (ended_text ended) ((32 ∷ line) ∷ is.lines) ended_is.lines spelled ended_is.spelled)
    (ap (λ (k : Counts). plus one_event k) (plus_none counts) ∙ applied_counts (accepted_in applied.snap) (skipped_in applied.snap) (length commands))

client_lines_are : (c : ℕ) (took : ClientTook) (state : AppliedState) (commands : List Command) (ended : Bool) → TakingLines (ByClient c took state commands ended)
client_lines_are c (Dropped cause) state commands ended = client_alone c (Dropped cause) state commands ended (whole (codes " dropped") refl) refl
client_lines_are c Runt state commands ended = client_alone c Runt state commands ended (whole (codes " runt") refl) refl
client_lines_are c Connectionless state commands ended = client_alone c Connectionless state commands ended (whole (codes " connectionless") refl) refl
client_lines_are c Old state commands ended = client_alone c Old state commands ended (whole (codes " old") refl) refl
client_lines_are c OutOfOrder state commands ended = client_alone c OutOfOrder state commands ended (whole (codes " outoforder") refl) refl
client_lines_are c BadFragment state commands ended = client_alone c BadFragment state commands ended (whole (codes " badfragment") refl) refl
client_lines_are c BadCheck state commands ended = client_alone c BadCheck state commands ended (whole (codes " badcheck") refl) refl
client_lines_are c Partial state commands ended = client_alone c Partial state commands ended (whole (codes " partial") refl) refl
client_lines_are c (Illegible cause) state commands ended =
    client_alone c (Illegible cause) state commands ended (client_illegible (server_words.cause_word cause) (server_cause cause) (server_words.cause_number cause)) refl
client_lines_are c (ClientApplied applied) state commands ended = client_applied c applied state commands ended

server_alone : (server : ServerTook) (run : Heard) (rest : List ℕ) → Spelled (server_text server run) ((32 ∷ rest) ∷ []) → lines_of_server server run ≡ one_event
    → TakingLines (ByServer server run)
server_alone server run rest spelled same = taking_alone (ByServer server run) rest spelled same

-- after the slot's number
abbrev slot_line : (slot : ℕ) (text : List ℕ) → OneLine text → OneLine (codes " server " ++ (decimal slot ++ text))
slot_line slot text one = after_part (codes " server ") (decimal slot ++ text) refl (after_part (decimal slot) text (number slot) one)

abbrev slot_word : (word : List ℕ) → lacks 10 word ≡ true → OneLine (codes " " ++ (word ++ codes "\n"))
slot_word word plain = after_part (codes " ") (word ++ codes "\n") refl (whole word plain)

abbrev pub slot_number : (word : List ℕ) (n : ℕ) → lacks 10 word ≡ true → OneLine (word ++ (decimal n ++ codes "\n"))
slot_number word n plain = after_part word (decimal n ++ codes "\n") plain (whole (decimal n) (number n))

server_illegible : (slot : ℕ) (word : List ℕ) → lacks 10 word ≡ true → (n : Option ℕ)
    → (rest : List ℕ) × Spelled (server_lines.illegible_text slot word n) ((32 ∷ rest) ∷ [])
server_illegible slot word plain None =
    let is = slot_line slot (codes " illegible " ++ (word ++ codes "\n")) (after_part (codes " illegible ") (word ++ codes "\n") refl (whole word plain)) in
    (codes "server " ++ (decimal slot ++ (codes " illegible " ++ (word ++ []))), is.spelled)
server_illegible slot word plain (Some n) =
    let is = slot_line slot (codes " illegible " ++ (word ++ (codes " " ++ (decimal n ++ codes "\n"))))
    (after_part (codes " illegible ") (word ++ (codes " " ++ (decimal n ++ codes "\n"))) refl
    (after_part word (codes " " ++ (decimal n ++ codes "\n")) plain (slot_word (decimal n) (number n)))) in
    (codes "server " ++ (decimal slot ++ (codes " illegible " ++ (word ++ (codes " " ++ (decimal n ++ []))))), is.spelled)

run_beneath : (run : Heard) → Beneath false true (heard_text run) (plus (counts_each false true false false true false (length run.commands)) (plus no_counts (plus (counts_each false true false false false true (length run.moves.items)) no_counts)))
run_beneath run =
    both_beneath false true (commands_text run.commands) (entered_text run.entered ++ (flat_map move_text run.moves.items ++ []))
    (counts_each false true false false true false (length run.commands)) (plus no_counts (plus (counts_each false true false false false true (length run.moves.items)) no_counts))
    (commands_beneath false true run.commands)
    (both_beneath false true (entered_text run.entered) (flat_map move_text run.moves.items ++ []) no_counts (plus (counts_each false true false false false true (length run.moves.items)) no_counts)
    (entered_beneath false true run.entered)
    (both_beneath false true (flat_map move_text run.moves.items) [] (counts_each false true false false false true (length run.moves.items)) no_counts
    (moves_beneath false true run.moves.items) (none_beneath false true)))

server_lines_are : (server : ServerTook) (run : Heard) → TakingLines (ByServer server run)
server_lines_are took.Runt run = server_alone took.Runt run (codes "server runt") (whole (codes " server runt") refl).spelled refl
server_lines_are took.Connectionless run = server_alone took.Connectionless run (codes "server connectionless") (whole (codes " server connectionless") refl).spelled refl
server_lines_are took.Stranger run = server_alone took.Stranger run (codes "server stranger") (whole (codes " server stranger") refl).spelled refl
server_lines_are (took.Old slot) run =
    server_alone (took.Old slot) run (codes "server " ++ (decimal slot ++ codes " old")) (slot_line slot (codes " old\n") (slot_word (codes "old") refl)).spelled refl
server_lines_are (took.OutOfOrder slot) run =
    server_alone (took.OutOfOrder slot) run (codes "server " ++ (decimal slot ++ codes " outoforder")) (slot_line slot (codes " outoforder\n") (slot_word (codes "outoforder") refl)).spelled refl
server_lines_are (took.BadFragment slot) run =
    server_alone (took.BadFragment slot) run (codes "server " ++ (decimal slot ++ codes " badfragment")) (slot_line slot (codes " badfragment\n") (slot_word (codes "badfragment") refl)).spelled refl
server_lines_are (took.BadCheck slot) run =
    server_alone (took.BadCheck slot) run (codes "server " ++ (decimal slot ++ codes " badcheck")) (slot_line slot (codes " badcheck\n") (slot_word (codes "badcheck") refl)).spelled refl
server_lines_are (took.Partial slot) run =
    server_alone (took.Partial slot) run (codes "server " ++ (decimal slot ++ codes " partial")) (slot_line slot (codes " partial\n") (slot_word (codes "partial") refl)).spelled refl
server_lines_are (took.Illegible slot cause) run =
    let is = server_illegible slot (client_words.cause_word cause) (client_cause cause) (client_words.cause_number cause) in
    server_alone (took.Illegible slot cause) run is.0 is.1 refl
server_lines_are (took.Ignored slot id) run =
    let is = slot_line slot (codes " ignored " ++ (decimal id ++ codes "\n")) (slot_number (codes " ignored ") id refl) in
    let owed_is = owed_beneath false true run.owed in
    taking_beneath (ByServer (took.Ignored slot id) run) (codes "server " ++ (decimal slot ++ (codes " ignored " ++ (decimal id ++ [])))) false true (owed_text run.owed) no_counts refl refl
    owed_is (join (server_lines.ignored_text slot id) (owed_text run.owed) (is.line ∷ []) owed_is.lines is.spelled owed_is.spelled) refl
server_lines_are (took.Gap slot n) run =
    server_alone (took.Gap slot n) run (codes "server " ++ (decimal slot ++ (codes " gap " ++ (decimal n ++ [])))) (slot_line slot (codes " gap " ++ (decimal n ++ codes "\n")) (slot_number (codes " gap ") n refl)).spelled refl
server_lines_are (took.Ran slot n) run =
    let is = slot_line slot (codes " ran " ++ (decimal n ++ codes "\n")) (slot_number (codes " ran ") n refl) in
    let run_is = run_beneath run in
    taking_beneath (ByServer (took.Ran slot n) run) (codes "server " ++ (decimal slot ++ (codes " ran " ++ (decimal n ++ [])))) false true (heard_text run)
    (plus (counts_each false true false false true false (length run.commands)) (plus no_counts (plus (counts_each false true false false false true (length run.moves.items)) no_counts)))
    refl refl run_is (join (server_lines.ran_text slot n) (heard_text run) (is.line ∷ []) run_is.lines is.spelled run_is.spelled)
    (ran_counts (length run.commands) (length run.moves.items))

pub taking_lines : (taking : Taking) → TakingLines taking
taking_lines (ByClient c took state commands ended) = client_lines_are c took state commands ended
taking_lines (ByServer server run) = server_lines_are server run
