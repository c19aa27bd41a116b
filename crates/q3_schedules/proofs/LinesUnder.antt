-- Lines that stand under another, by their kinds.
use Rattle.std.proofs.Common.{◌≡◌, ℕ, ◌+◌, Bool, true, false, cond, List, [], ◌∷◌, ◌++◌, length, map, Option, Some, None, codes, decimal, refl, ap₂, ◌∙◌, ◌&&◌}
use Rattle.std.specs.List.{list_all, flat_map}
use Rattle.std.specs.Fmt.{signed_decimal}
use Rattle.std.proofs.lemmas.Bool.{and_parts}
use Rattle.std.proofs.lemmas.List.Folds.{list_all-append}
use Rattle.q3_io.specs.Quoted.{quoted}
use Rattle.q3_text.specs.declared.text.Command.{Command}
use Rattle.q3_window.specs.Report.{command_text, commands_text}
use Rattle.q3_clmsg.specs.declared.moves.Move.{Move}
use Rattle.q3_clmsg.specs.Report.{spaced, move_words, move_text}
use Rattle.q3_clstate.specs.State.{AppliedState}
use Rattle.q3_clstate.specs.declared.applied.SnapOutcome.{SnapOutcome}
use Rattle.q3_clstate.specs.declared.applied.SnapOutcome.TheVariants.{NoSnap, Accepted, Skipped, Stale}
use Rattle.q3_clstate.specs.Report.{cause_text, outcome_text, game_text}
use Rattle.q3_report.specs.ServerLines.{entered_text, owed_text}
use Rattle.q3_report.specs.AnswerLines.{ended_text}
use Rattle.q3_counts.specs.declared.counts.Counts.{Counts}
use Rattle.q3_counts.specs.Counts.{no_counts, accepted_in, skipped_in}
use Rattle.q3_schedules.specs.ReportLines.{begins, is_under, has_datagram, taken_by}
use Rattle.q3_text.specs.Cuts.{lacks}
use Rattle.q3_schedules.proofs.PlainTexts.{lacks_both, number, signed, quote}
use Rattle.q3_schedules.proofs.SpelledLines.{Spelled, nothing, join, each}
use Rattle.q3_schedules.proofs.PlacedLines.{Kind, Event, Datagram, AcceptedSnapshot, SkippedSnapshot, ServerCommand, ClientCommand, MoveLine, test_of, count_of, at, tally, tally-append, tally-alike, plus, plus_is}
use Rattle.q3_schedules.proofs.LineEnds.{after_part, whole, base_cause}

-- what a line under another is: the kinds that these are, and no other
pub record KindsOf (line : List ℕ) (accepted skipped command move : Bool) : Type 0 where
  pub under : is_under line ≡ true
  pub no_datagram : has_datagram line ≡ false
  pub as_accepted : begins (codes "+ accepted ") line ≡ accepted
  pub as_skipped : begins (codes "+ skipped ") line ≡ skipped
  pub as_command : begins (codes "+ command ") line ≡ command
  pub as_move : begins (codes "+ move ") line ≡ move

-- a line of each kind, where the client, or the server, took bytes
abbrev pub kind_is : Bool → Bool → Bool → Bool → Bool → Bool → Kind → Bool
kind_is client server accepted skipped command move Event = false
kind_is client server accepted skipped command move Datagram = false
kind_is client server accepted skipped command move AcceptedSnapshot = accepted
kind_is client server accepted skipped command move SkippedSnapshot = skipped
kind_is client server accepted skipped command move ServerCommand = command && client
kind_is client server accepted skipped command move ClientCommand = command && server
kind_is client server accepted skipped command move MoveLine = move

abbrev pub counts_each : Bool → Bool → Bool → Bool → Bool → Bool → ℕ → Counts
counts_each client server accepted skipped command move n = record no_counts {
  accepted = cond accepted n 0;
  skipped = cond skipped n 0;
  server_commands = cond (command && client) n 0;
  client_commands = cond (command && server) n 0;
  moves = cond move n 0;
}

pub test_is : (client server accepted skipped command move : Bool) (first line : List ℕ) → KindsOf line accepted skipped command move
    → taken_by (codes "client") first ≡ client → taken_by (codes "server") first ≡ server
    → (kind : Kind) → test_of kind (at first line) ≡ kind_is client server accepted skipped command move kind
test_is client server accepted skipped command move first line kinds by_client by_server Event = rw (kinds.under) refl
test_is client server accepted skipped command move first line kinds by_client by_server Datagram = kinds.no_datagram
test_is client server accepted skipped command move first line kinds by_client by_server AcceptedSnapshot = kinds.as_accepted
test_is client server accepted skipped command move first line kinds by_client by_server SkippedSnapshot = kinds.as_skipped
test_is client server accepted skipped command move first line kinds by_client by_server ServerCommand = rw (kinds.as_command, by_client) refl
test_is client server accepted skipped command move first line kinds by_client by_server ClientCommand = rw (kinds.as_command, by_server) refl
test_is client server accepted skipped command move first line kinds by_client by_server MoveLine = kinds.as_move

pub each_is : (client server accepted skipped command move : Bool) (n : ℕ) (kind : Kind)
    → cond (kind_is client server accepted skipped command move kind) n 0 ≡ count_of kind (counts_each client server accepted skipped command move n)
each_is client server accepted skipped command move n Event = refl
each_is client server accepted skipped command move n kind = refl

-- a text of lines that stand under one of which the client, or the server, took bytes, and how many of them are of each kind
pub record Beneath (client server : Bool) (text : List ℕ) (counts : Counts) : Type 0 where
  pub lines : List (List ℕ)
  pub spelled : Spelled text lines
  pub under : list_all is_under lines ≡ true
  pub counted : (first : List ℕ) → taken_by (codes "client") first ≡ client → taken_by (codes "server") first ≡ server
      → (kind : Kind) → tally kind first lines ≡ count_of kind counts

pub no_kind : (kind : Kind) → 0 ≡ count_of kind no_counts
no_kind Event = refl
no_kind kind = refl

abbrev pub none_beneath : (client server : Bool) → Beneath client server [] no_counts
none_beneath client server = record { lines = []; spelled = nothing; under = refl; counted = λ first by_client by_server kind. no_kind kind }

abbrev pub both_beneath : (client server : Bool) (front back : List ℕ) (a b : Counts) → Beneath client server front a → Beneath client server back b
    → Beneath client server (front ++ back) (plus a b)
both_beneath client server front back a b is is' = record {
  lines = is.lines ++ is'.lines;
  spelled = join front back is.lines is'.lines is.spelled is'.spelled;
  under = rw (list_all-append is_under is.lines is'.lines, is.under, is'.under) refl;
  counted = λ first by_client by_server kind. tally-append kind first is.lines is'.lines
      ∙ ap₂ (λ (n m : ℕ). n + m) (is.counted first by_client by_server kind) (is'.counted first by_client by_server kind) ∙ plus_is a b kind;
}

pub all_under : {X : Type 0} (line : X → List ℕ) → ((x : X) → is_under (line x) ≡ true) → (xs : List X) → list_all is_under (map line xs) ≡ true
all_under line under [] = refl
all_under line under (x ∷ xs) = rw (under x) (all_under line under xs)

-- lines of one form
abbrev pub each_beneath : {X : Type 0} (client server accepted skipped command move : Bool) (text line : X → List ℕ) → ((x : X) → Spelled (text x) (line x ∷ []))
    → ((x : X) → KindsOf (line x) accepted skipped command move) → (xs : List X)
    → Beneath client server (flat_map text xs) (counts_each client server accepted skipped command move (length xs))
each_beneath client server accepted skipped command move text line spelled kinds xs = record {
  lines = map line xs;
  spelled = each text line spelled xs;
  under = all_under line (λ x. (kinds x).under) xs;
  counted = λ first by_client by_server kind.
      tally-alike kind first line (kind_is client server accepted skipped command move kind)
      (λ x. test_is client server accepted skipped command move first (line x) (kinds x) by_client by_server kind) xs
      ∙ each_is client server accepted skipped command move (length xs) kind;
}

-- and one of them
abbrev pub one_beneath : (client server accepted skipped command move : Bool) (text line : List ℕ) → Spelled text (line ∷ [])
    → KindsOf line accepted skipped command move → Beneath client server text (counts_each client server accepted skipped command move 1)
one_beneath client server accepted skipped command move text line spelled kinds = record {
  lines = line ∷ [];
  spelled = spelled;
  under = rw (kinds.under) refl;
  counted = λ first by_client by_server kind.
      tally-alike kind first (λ (x : ℕ). line) (kind_is client server accepted skipped command move kind)
      (λ x. test_is client server accepted skipped command move first line kinds by_client by_server kind) (0 ∷ [])
      ∙ each_is client server accepted skipped command move 1 kind;
}

abbrev command_line : Command → List ℕ
command_line command = codes "+ command " ++ (decimal command.number ++ (codes " " ++ (quoted command.text ++ [])))

pub commands_beneath : (client server : Bool) (commands : List Command) → Beneath client server (commands_text commands) (counts_each client server false false true false (length commands))
commands_beneath client server commands =
    each_beneath client server false false true false command_text command_line
    (λ command. (after_part (codes "+ command ") (decimal command.number ++ (codes " " ++ (quoted command.text ++ codes "\n"))) refl
    (after_part (decimal command.number) (codes " " ++ (quoted command.text ++ codes "\n")) (number command.number)
    (after_part (codes " ") (quoted command.text ++ codes "\n") refl (whole (quoted command.text) (quote command.text))))).spelled)
    (λ command. record { under = refl; no_datagram = refl; as_accepted = refl; as_skipped = refl; as_command = refl; as_move = refl })
    commands

each_spaced : (words : List (List ℕ)) → list_all (λ word. lacks 10 word) words ≡ true → lacks 10 (spaced words) ≡ true
each_spaced [] plain = refl
each_spaced (word ∷ words) plain =
    let parts = and_parts (lacks 10 word) (list_all (λ word. lacks 10 word) words) plain in
    lacks_both 10 (codes " " ++ word) (spaced words) parts.0 (each_spaced words parts.1)

numbers : (ns : List ℕ) → list_all (λ word. lacks 10 word) (map decimal ns) ≡ true
numbers [] = refl
numbers (n ∷ ns) = rw (number n) (numbers ns)

words_of_move : (one : Move) → list_all (λ word. lacks 10 word) (move_words one) ≡ true
words_of_move one =
    rw (
      number one.time,
      list_all-append (λ word. lacks 10 word) (map decimal one.angles)
          (signed_decimal one.forward ∷ signed_decimal one.right ∷ signed_decimal one.up ∷ decimal one.buttons ∷ decimal one.weapon ∷ []),
      numbers one.angles,
      signed one.forward,
      signed one.right,
      signed one.up,
      number one.buttons,
      number one.weapon,
    ) refl

abbrev move_line : Move → List ℕ
move_line one = codes "+ move" ++ (spaced (move_words one) ++ [])

pub moves_beneath : (client server : Bool) (moves : List Move) → Beneath client server (flat_map move_text moves) (counts_each client server false false false true (length moves))
moves_beneath client server moves =
    each_beneath client server false false false true move_text move_line
    (λ one. (after_part (codes "+ move") (spaced (move_words one) ++ codes "\n") refl
    (whole (spaced (move_words one)) (each_spaced (move_words one) (words_of_move one)))).spelled)
    (λ one. record { under = refl; no_datagram = refl; as_accepted = refl; as_skipped = refl; as_command = refl; as_move = refl })
    moves

-- a line of none of these kinds
abbrev pub other_beneath : (client server : Bool) (text line : List ℕ) → Spelled text (line ∷ []) → KindsOf line false false false false
    → Beneath client server text no_counts
other_beneath client server text line spelled kinds = one_beneath client server false false false false text line spelled kinds

pub entered_beneath : (client server : Bool) (entered : Option ℕ) → Beneath client server (entered_text entered) no_counts
entered_beneath client server None = none_beneath client server
entered_beneath client server (Some time) =
    let is = after_part (codes "+ entered ") (decimal time ++ codes "\n") refl (whole (decimal time) (number time)) in
    other_beneath client server (entered_text (Some time)) is.line is.spelled
    (record { under = refl; no_datagram = refl; as_accepted = refl; as_skipped = refl; as_command = refl; as_move = refl })

pub owed_beneath : (client server owed : Bool) → Beneath client server (owed_text owed) no_counts
owed_beneath client server false = none_beneath client server
owed_beneath client server true =
    let is = whole (codes "+ owed") refl in
    other_beneath client server (owed_text true) is.line is.spelled
    (record { under = refl; no_datagram = refl; as_accepted = refl; as_skipped = refl; as_command = refl; as_move = refl })

-- the recording of a client that ended by itself
pub ended_beneath : (client server ended : Bool) → Beneath client server (ended_text ended) no_counts
ended_beneath client server false = none_beneath client server
ended_beneath client server true =
    let is = whole (codes "+ recording ended") refl in
    other_beneath client server (ended_text true) is.line is.spelled
    (record { under = refl; no_datagram = refl; as_accepted = refl; as_skipped = refl; as_command = refl; as_move = refl })

pub game_beneath : (client server : Bool) (state : AppliedState) (game : Bool) → Beneath client server (game_text state game) no_counts
game_beneath client server state false = none_beneath client server
game_beneath client server state true =
    let is = after_part (codes "+ gamestate id ") (decimal state.id ++ (codes " slot " ++ (decimal state.slot ++ (codes " feed " ++ (decimal state.feed ++ codes "\n"))))) refl
    (after_part (decimal state.id) (codes " slot " ++ (decimal state.slot ++ (codes " feed " ++ (decimal state.feed ++ codes "\n")))) (number state.id)
    (after_part (codes " slot ") (decimal state.slot ++ (codes " feed " ++ (decimal state.feed ++ codes "\n"))) refl
    (after_part (decimal state.slot) (codes " feed " ++ (decimal state.feed ++ codes "\n")) (number state.slot)
    (after_part (codes " feed ") (decimal state.feed ++ codes "\n") refl (whole (decimal state.feed) (number state.feed)))))) in
    other_beneath client server (game_text state true) is.line is.spelled
    (record { under = refl; no_datagram = refl; as_accepted = refl; as_skipped = refl; as_command = refl; as_move = refl })

pub outcome_beneath : (client server : Bool) (n : ℕ) (outcome : SnapOutcome)
    → Beneath client server (outcome_text n outcome) (record no_counts { accepted = accepted_in outcome; skipped = skipped_in outcome })
outcome_beneath client server n NoSnap = none_beneath client server
outcome_beneath client server n (Accepted base) =
    let is = after_part (codes "+ accepted ") (decimal n ++ (codes " base " ++ (decimal base ++ codes "\n"))) refl
    (after_part (decimal n) (codes " base " ++ (decimal base ++ codes "\n")) (number n)
    (after_part (codes " base ") (decimal base ++ codes "\n") refl (whole (decimal base) (number base)))) in
    one_beneath client server true false false false (outcome_text n (Accepted base)) is.line is.spelled
    (record { under = refl; no_datagram = refl; as_accepted = refl; as_skipped = refl; as_command = refl; as_move = refl })
outcome_beneath client server n (Skipped base cause) =
    let is = after_part (codes "+ skipped ") (decimal n ++ (codes " base " ++ (decimal base ++ (codes " " ++ (cause_text cause ++ codes "\n"))))) refl
    (after_part (decimal n) (codes " base " ++ (decimal base ++ (codes " " ++ (cause_text cause ++ codes "\n")))) (number n)
    (after_part (codes " base ") (decimal base ++ (codes " " ++ (cause_text cause ++ codes "\n"))) refl
    (after_part (decimal base) (codes " " ++ (cause_text cause ++ codes "\n")) (number base)
    (after_part (codes " ") (cause_text cause ++ codes "\n") refl (whole (cause_text cause) (base_cause cause)))))) in
    one_beneath client server false true false false (outcome_text n (Skipped base cause)) is.line is.spelled
    (record { under = refl; no_datagram = refl; as_accepted = refl; as_skipped = refl; as_command = refl; as_move = refl })
outcome_beneath client server n Stale =
    let is = after_part (codes "+ stale ") (decimal n ++ codes "\n") refl (whole (decimal n) (number n)) in
    other_beneath client server (outcome_text n Stale) is.line is.spelled
    (record { under = refl; no_datagram = refl; as_accepted = refl; as_skipped = refl; as_command = refl; as_move = refl })
