-- The lines of each answer, and how many there are of each kind.
use Rattle.std.proofs.Common.{◌≡◌, ℕ, ◌+◌, Bool, true, false, cond, List, [], ◌∷◌, ◌++◌, length, Option, Some, None, Result, Ok, Err, codes, decimal, bytes_eq, refl, sym, ap, ap₂, subst, ◌∙◌, append_assoc, arith, append-nil}
use Rattle.std.specs.Prelude.{slice_index_or}
use Rattle.std.specs.List.{list_all, flat_map, concat}
use Rattle.q3_io.specs.Print.{hex_word, words_text}
use Rattle.q3_entity.specs.declared.state.EntityState.{EntityState}
use Rattle.q3_entity.specs.Report.{fields_text}
use Rattle.q3_player.specs.declared.head.SnapHead.{SnapHead}
use Rattle.q3_player.specs.declared.state.PlayerState.{PlayerState}
use Rattle.q3_player.specs.State.{patterns_of}
use Rattle.q3_player.specs.Report.{player_text}
use Rattle.q3_entity_ring.specs.Snapshot.{Snapshot}
use Rattle.q3_clstate.specs.Report.{start_text, entity_text, snapshot_text}
use Rattle.q3_slot.specs.declared.answer.Emitted.{Emitted}
use Rattle.q3_slot.specs.declared.answer.Emitted.TheVariants as emitted
use Rattle.q3_slot.specs.declared.answer.NoClient.{NoClient}
use Rattle.q3_client.specs.declared.client.Sent.{Sent}
use Rattle.q3_client.specs.declared.client.Sent.TheVariants as sent
use Rattle.q3_report.specs.ServerLines.{slot_error_text, not_later_text, no_client_text, config_refused_text, say_error_text, emitted_text}
use Rattle.q3_report.specs.ClientLines.{sent_text}
use Rattle.q3_report.specs.declared.answer.HandedIn.{HandedIn}
use Rattle.q3_report.specs.declared.answer.HandedIn.TheVariants as handed
use Rattle.q3_report.specs.declared.answer.Front.{Front}
use Rattle.q3_report.specs.declared.answer.Front.TheVariants as fronts
use Rattle.q3_report.specs.declared.answer.TakeRefused.{TakeRefused}
use Rattle.q3_report.specs.declared.answer.TakeRefused.TheVariants as refused
use Rattle.q3_report.specs.Answers.{Taking, Showing, ShowsNobody, ShowsNothing, ShowsNewest, Answered, Given, Served, SentOut, Took, Untaken, Shown, Bytes}
use Rattle.q3_report.specs.AnswerLines.{out_of_range_text, baseline_refused_text, type_refused_text, move_refused_text, record_refused_text, stop_refused_text, handed_lines, front_text, untaken_text, taking_text, showing_text, bytes_text, lines_of}
use Rattle.q3_words.specs.Words.{words_of}
use Rattle.q3_counts.specs.declared.counts.Counts.{Counts}
use Rattle.q3_counts.specs.Counts.{no_counts, one_event, made_served, made_sent, lines_in}
use Rattle.q3_schedules.specs.ReportLines.{is_under, has_datagram, taken_by, names_datagram}
use Rattle.q3_text.specs.Cuts.{lacks}
use Rattle.q3_schedules.proofs.PlainTexts.{lacks_both, lacks-decimal, number, hexed, indexed}
use Rattle.q3_schedules.proofs.SpelledLines.{Spelled, in_front, newline, last}
use Rattle.q3_schedules.proofs.PlacedLines.{Kind, count_of, tally, tally-append, tally_first, plus, plus_is, next_word, number_word, other_number, last_word}
use Rattle.q3_schedules.proofs.LineEnds.{OneLine, after_part, whole, closed, slot_error, no_client, not_later, out_of_range, baseline_refused, config_refused, say_error, type_refused, move_refused, record_refused, stop_refused, handed_in, issued}
use Rattle.q3_schedules.proofs.LinesUnder.{counts_each, Beneath, none_beneath, both_beneath, each_beneath, other_beneath}
use Rattle.q3_schedules.proofs.TakenLines.{next_is, slot_number, taking_lines}

-- its first line, those that stand under it, and how many there are of each kind
pub record AnswerIs (answer : Answered) : Type 0 where
  pub first : List ℕ
  pub others : List (List ℕ)
  pub spelled : Spelled (lines_of answer) (first ∷ others)
  pub starts : is_under first ≡ false
  pub under : list_all is_under others ≡ true
  pub counts : (kind : Kind) → tally kind first (first ∷ others) ≡ count_of kind (lines_in answer)

alone : (answer : Answered) (first : List ℕ) (made : Bool) → Spelled (lines_of answer) (first ∷ []) → is_under first ≡ false → has_datagram first ≡ made
    → record one_event { datagrams = cond made 1 0 } ≡ lines_in answer → AnswerIs answer
alone answer first made spelled starts named same = record {
  first = first;
  others = [];
  spelled = spelled;
  starts = starts;
  under = refl;
  counts = λ kind. tally_first first made starts named kind ∙ ap (λ (c : Counts). count_of kind c) same;
}

-- a number, and the rest of a line
abbrev counted : (n : ℕ) (text : List ℕ) → OneLine text → OneLine (decimal n ++ (text ++ []))
counted n text one = after_part (decimal n) (text ++ []) (number n) (closed text one)

-- ---- what was handed in

given_line : (given : HandedIn) (word text : List ℕ) → handed_lines given ≡ word ++ text → lacks 10 word ≡ true → OneLine text
    → ((line : List ℕ) → is_under (word ++ line) ≡ false) → ((line : List ℕ) → has_datagram (word ++ line) ≡ false) → AnswerIs (Given given)
unfolding lines_of
given_line given word text same plain one starts named =
    let spelled : Spelled (handed_lines given) ((word ++ one.line) ∷ []) =
    subst (λ (t : List ℕ). Spelled t ((word ++ one.line) ∷ [])) (sym same) (in_front word text one.line [] plain one.spelled) in
    alone (Given given) (word ++ one.line) false spelled (starts one.line) (named one.line) refl

-- a word, a number, and what came of the line
outcome_line : {given : HandedIn} {text : List ℕ} (word : List ℕ) (n : ℕ) → OneLine text → handed_lines given ≡ word ++ (decimal n ++ (text ++ [])) → lacks 10 word ≡ true
    → ((line : List ℕ) → is_under (word ++ line) ≡ false) → ((line : List ℕ) → has_datagram (word ++ line) ≡ false) → AnswerIs (Given given)
outcome_line {given} {text} word n one same plain starts named = given_line given word (decimal n ++ (text ++ [])) same plain (counted n text one) starts named

given_is : (given : HandedIn) → AnswerIs (Given given)
given_is (handed.Client c outcome) = outcome_line (codes "client ") c (handed_in slot_error_text slot_error outcome) refl refl (λ line. refl) (λ line. refl)
given_is (handed.Port c outcome) = outcome_line (codes "port ") c (handed_in no_client_text no_client outcome) refl refl (λ line. refl) (λ line. refl)
given_is (handed.Map id outcome) = outcome_line (codes "map ") id (handed_in not_later_text not_later outcome) refl refl (λ line. refl) (λ line. refl)
given_is (handed.Entity n outcome) = outcome_line (codes "entity ") n (handed_in out_of_range_text out_of_range outcome) refl refl (λ line. refl) (λ line. refl)
given_is (handed.Remove n outcome) = outcome_line (codes "remove ") n (handed_in out_of_range_text out_of_range outcome) refl refl (λ line. refl) (λ line. refl)
given_is (handed.Baseline n outcome) = outcome_line (codes "baseline ") n (handed_in baseline_refused_text baseline_refused outcome) refl refl (λ line. refl) (λ line. refl)
given_is (handed.Config index outcome) = outcome_line (codes "config ") index (handed_in config_refused_text config_refused outcome) refl refl (λ line. refl) (λ line. refl)
given_is (handed.Player c outcome) = outcome_line (codes "player ") c (handed_in no_client_text no_client outcome) refl refl (λ line. refl) (λ line. refl)
given_is (handed.Area c outcome) = outcome_line (codes "area ") c (handed_in no_client_text no_client outcome) refl refl (λ line. refl) (λ line. refl)
given_is handed.Time = given_line handed.Time (codes "time ") (codes "ok\n") refl refl (whole (codes "ok") refl) (λ line. refl) (λ line. refl)
given_is (handed.Say c outcome) = outcome_line (codes "say ") c (issued say_error_text say_error outcome) refl refl (λ line. refl) (λ line. refl)
given_is (handed.TypeText c outcome) = outcome_line (codes "type ") c (issued type_refused_text type_refused outcome) refl refl (λ line. refl) (λ line. refl)
given_is (handed.Move c outcome) = outcome_line (codes "move ") c (handed_in move_refused_text move_refused outcome) refl refl (λ line. refl) (λ line. refl)
given_is (handed.Record c outcome) = outcome_line (codes "record ") c (handed_in record_refused_text record_refused outcome) refl refl (λ line. refl) (λ line. refl)
given_is (handed.Stop c outcome) = outcome_line (codes "stop ") c (handed_in stop_refused_text stop_refused outcome) refl refl (λ line. refl) (λ line. refl)

-- ---- what was asked for a datagram

-- what follows the number, with a datagram's number or without one
pub record Making (text : List ℕ) (count : ℕ) : Type 0 where
  pub rest : List ℕ
  pub words : List (List ℕ)
  pub made : Bool
  pub spelled : Spelled text ((32 ∷ rest) ∷ [])
  pub cut : words_of rest ≡ words
  pub named : (first next : List ℕ) → bytes_eq (codes "datagram") next ≡ false → names_datagram (first ∷ next ∷ words) ≡ made
  pub is : cond made 1 0 ≡ count

making_is : (answer : Answered) (word first : List ℕ) (c : ℕ) (text : List ℕ) (count : ℕ) → lines_of answer ≡ word ++ (decimal c ++ (text ++ [])) → lacks 10 word ≡ true
    → ((line : List ℕ) → is_under (word ++ line) ≡ false) → ((line : List ℕ) → has_datagram (word ++ line) ≡ names_datagram (first ∷ words_of line))
    → Making text count → record one_event { datagrams = count } ≡ lines_in answer → AnswerIs answer
making_is answer word first c text count same plain starts named making counts =
    let line : List ℕ = decimal c ++ (32 ∷ making.rest) in
    let cut : words_of line ≡ decimal c ∷ making.words =
    next_word (decimal c) making.rest (number_word c) ∙ ap (λ (words : List (List ℕ)). decimal c ∷ words) making.cut in
    alone answer (word ++ line) making.made
    (subst (λ (t : List ℕ). Spelled t ((word ++ line) ∷ [])) (sym same)
    (in_front word (decimal c ++ (text ++ [])) line [] plain (in_front (decimal c) (text ++ []) (32 ∷ making.rest) [] (number c) (last text ((32 ∷ making.rest) ∷ []) making.spelled))))
    (starts line) (named line ∙ ap (λ (words : List (List ℕ)). names_datagram (first ∷ words)) cut ∙ making.named first (decimal c) (other_number c))
    (ap (λ (n : ℕ). record one_event { datagrams = n }) making.is ∙ counts)

-- a number, and what follows it
abbrev then_number : (word : List ℕ) (n : ℕ) (text : List ℕ) → lacks 10 word ≡ true → OneLine text → OneLine (word ++ (decimal n ++ text))
then_number word n text plain one = after_part word (decimal n ++ text) plain (after_part (decimal n) text (number n) one)

emission_is : (emission : Emitted) (datagram : ℕ) → Making (emitted_text emission datagram) (made_served emission)
emission_is emitted.NoClient datagram = record { rest = codes "noclient"; words = codes "noclient" ∷ []; made = false; spelled = (whole (codes " noclient") refl).spelled; cut = refl; named = λ first next other. other; is = refl }
emission_is (emitted.Fragment n) datagram =
    let is = then_number (codes " fragment ") n (codes " datagram " ++ (decimal datagram ++ codes "\n")) refl (slot_number (codes " datagram ") datagram refl) in
    record {
      rest = codes "fragment " ++ (decimal n ++ (codes " datagram " ++ (decimal datagram ++ [])));
      words = codes "fragment" ∷ decimal n ∷ codes "datagram" ∷ decimal datagram ∷ [];
      made = true;
      spelled = is.spelled;
      cut = rw (next_word (decimal n) (codes "datagram " ++ (decimal datagram ++ [])) (number_word n), last_word (decimal datagram) (number_word datagram)) refl;
      named = λ first next other. refl;
      is = refl;
    }
emission_is emitted.SequenceEnd datagram = record { rest = codes "sequenceend"; words = codes "sequenceend" ∷ []; made = false; spelled = (whole (codes " sequenceend") refl).spelled; cut = refl; named = λ first next other. other; is = refl }
emission_is emitted.Unclear datagram = record { rest = codes "unclear"; words = codes "unclear" ∷ []; made = false; spelled = (whole (codes " unclear") refl).spelled; cut = refl; named = λ first next other. other; is = refl }
emission_is emitted.Overlong datagram = record { rest = codes "overlong"; words = codes "overlong" ∷ []; made = false; spelled = (whole (codes " overlong") refl).spelled; cut = refl; named = λ first next other. other; is = refl }
emission_is (emitted.Game n bytes) datagram =
    let is = then_number (codes " gamestate ") n (codes " bytes " ++ (decimal bytes ++ (codes " datagram " ++ (decimal datagram ++ codes "\n")))) refl
    (then_number (codes " bytes ") bytes (codes " datagram " ++ (decimal datagram ++ codes "\n")) refl (slot_number (codes " datagram ") datagram refl)) in
    record {
      rest = codes "gamestate " ++ (decimal n ++ (codes " bytes " ++ (decimal bytes ++ (codes " datagram " ++ (decimal datagram ++ [])))));
      words = codes "gamestate" ∷ decimal n ∷ codes "bytes" ∷ decimal bytes ∷ codes "datagram" ∷ decimal datagram ∷ [];
      made = true;
      spelled = is.spelled;
      cut = rw (next_word (decimal n) (codes "bytes " ++ (decimal bytes ++ (codes " datagram " ++ (decimal datagram ++ [])))) (number_word n), next_word (decimal bytes) (codes "datagram " ++ (decimal datagram ++ [])) (number_word bytes), last_word (decimal datagram) (number_word datagram)) refl;
      named = λ first next other. refl;
      is = refl;
    }
emission_is (emitted.Snapshot n base bytes) datagram =
    let is = then_number (codes " snapshot ") n (codes " base " ++ (decimal base ++ (codes " bytes " ++ (decimal bytes ++ (codes " datagram " ++ (decimal datagram ++ codes "\n")))))) refl
    (then_number (codes " base ") base (codes " bytes " ++ (decimal bytes ++ (codes " datagram " ++ (decimal datagram ++ codes "\n")))) refl
    (then_number (codes " bytes ") bytes (codes " datagram " ++ (decimal datagram ++ codes "\n")) refl (slot_number (codes " datagram ") datagram refl))) in
    record {
      rest = codes "snapshot " ++ (decimal n ++ (codes " base " ++ (decimal base ++ (codes " bytes " ++ (decimal bytes ++ (codes " datagram " ++ (decimal datagram ++ [])))))));
      words = codes "snapshot" ∷ decimal n ∷ codes "base" ∷ decimal base ∷ codes "bytes" ∷ decimal bytes ∷ codes "datagram" ∷ decimal datagram ∷ [];
      made = true;
      spelled = is.spelled;
      cut = rw (next_word (decimal n) (codes "base " ++ (decimal base ++ (codes " bytes " ++ (decimal bytes ++ (codes " datagram " ++ (decimal datagram ++ [])))))) (number_word n), next_word (decimal base) (codes "bytes " ++ (decimal bytes ++ (codes " datagram " ++ (decimal datagram ++ [])))) (number_word base), next_word (decimal bytes) (codes "datagram " ++ (decimal datagram ++ [])) (number_word bytes), last_word (decimal datagram) (number_word datagram)) refl;
      named = λ first next other. refl;
      is = refl;
    }

sending_is : (said : Sent) (datagram : ℕ) → Making (sent_text said datagram) (made_sent said)
sending_is (sent.Dropped cause) datagram = record { rest = codes "dropped"; words = codes "dropped" ∷ []; made = false; spelled = (whole (codes " dropped") refl).spelled; cut = refl; named = λ first next other. other; is = refl }
sending_is (sent.Fragment n) datagram = emission_is (emitted.Fragment n) datagram
sending_is sent.SequenceEnd datagram = emission_is emitted.SequenceEnd datagram
sending_is sent.Unclear datagram = emission_is emitted.Unclear datagram
sending_is sent.Overlong datagram = emission_is emitted.Overlong datagram
sending_is (sent.Message n bytes) datagram =
    let is = then_number (codes " message ") n (codes " bytes " ++ (decimal bytes ++ (codes " datagram " ++ (decimal datagram ++ codes "\n")))) refl
    (then_number (codes " bytes ") bytes (codes " datagram " ++ (decimal datagram ++ codes "\n")) refl (slot_number (codes " datagram ") datagram refl)) in
    record {
      rest = codes "message " ++ (decimal n ++ (codes " bytes " ++ (decimal bytes ++ (codes " datagram " ++ (decimal datagram ++ [])))));
      words = codes "message" ∷ decimal n ∷ codes "bytes" ∷ decimal bytes ∷ codes "datagram" ∷ decimal datagram ∷ [];
      made = true;
      spelled = is.spelled;
      cut = rw (next_word (decimal n) (codes "bytes " ++ (decimal bytes ++ (codes " datagram " ++ (decimal datagram ++ [])))) (number_word n), next_word (decimal bytes) (codes "datagram " ++ (decimal datagram ++ [])) (number_word bytes), last_word (decimal datagram) (number_word datagram)) refl;
      named = λ first next other. refl;
      is = refl;
    }

not_sent : Making (codes " noclient\n") 0
not_sent = record { rest = codes "noclient"; words = codes "noclient" ∷ []; made = false; spelled = (whole (codes " noclient") refl).spelled; cut = refl; named = λ first next other. other; is = refl }

served_is : (c : ℕ) (emission : Emitted) (datagram : ℕ) → AnswerIs (Served c emission datagram)
unfolding lines_of
served_is c emission datagram =
    making_is (Served c emission datagram) (codes "serve ") (codes "serve") c (emitted_text emission datagram) (made_served emission) refl refl (λ line. refl) (λ line. refl)
    (emission_is emission datagram) refl

sent_is : (c : ℕ) (outcome : Result Sent NoClient) (datagram : ℕ) → AnswerIs (SentOut c outcome datagram)
unfolding lines_of
sent_is c (Ok said) datagram =
    making_is (SentOut c (Ok said) datagram) (codes "send ") (codes "send") c (sent_text said datagram) (made_sent said) refl refl (λ line. refl) (λ line. refl)
    (sending_is said datagram) refl
sent_is c (Err e) datagram =
    making_is (SentOut c (Err e) datagram) (codes "send ") (codes "send") c (codes " noclient\n") 0 refl refl (λ line. refl) (λ line. refl) not_sent refl

-- ---- what was taken

-- what stands in front of what an end made of bytes
pub record FrontIs (way : Front) : Type 0 where
  pub plain : lacks 10 (front_text way) ≡ true
  pub starts : (line : List ℕ) → is_under (front_text way ++ line) ≡ false
  pub named : (line : List ℕ) → has_datagram (front_text way ++ line) ≡ false
  pub taker : (rest end : List ℕ) → taken_by end (front_text way ++ (32 ∷ rest)) ≡ next_is end rest

-- a word with a number after it
numbered : (word : List ℕ) (n : ℕ) (rest : List ℕ) → concat (word ∷ decimal n ∷ []) ++ (32 ∷ rest) ≡ word ++ (decimal n ++ (32 ∷ rest))
numbered word n rest = simp (append_assoc, append-nil) refl

third : (word : List ℕ) → ((end line : List ℕ) → taken_by end (word ++ line) ≡ bytes_eq end (slice_index_or (words_of line) 1 []))
    → (n : ℕ) (rest end : List ℕ) → taken_by end (concat (word ∷ decimal n ∷ []) ++ (32 ∷ rest)) ≡ next_is end rest
third word next n rest end =
    ap (λ (line : List ℕ). taken_by end line) (numbered word n rest)
    ∙ next end (decimal n ++ (32 ∷ rest))
    ∙ ap (λ (words : List (List ℕ)). bytes_eq end (slice_index_or words 1 [])) (next_word (decimal n) rest (lacks-decimal 32 n (λ d small same. omega arith)))

word_plain : (word : List ℕ) (n : ℕ) → lacks 10 word ≡ true → lacks 10 (concat (word ∷ decimal n ∷ [])) ≡ true
word_plain word n plain = lacks_both 10 word (decimal n ++ []) plain (lacks_both 10 (decimal n) [] (number n) refl)

front_is : (way : Front) → FrontIs way
front_is (fronts.Deliver datagram) = record { plain = word_plain (codes "deliver ") datagram refl; starts = λ line. refl; named = λ line. refl; taker = third (codes "deliver ") (λ end line. refl) datagram }
front_is (fronts.Toclient c) = record { plain = word_plain (codes "toclient ") c refl; starts = λ line. refl; named = λ line. refl; taker = third (codes "toclient ") (λ end line. refl) c }
front_is (fronts.Toserver c) = record { plain = word_plain (codes "toserver ") c refl; starts = λ line. refl; named = λ line. refl; taker = third (codes "toserver ") (λ end line. refl) c }
front_is fronts.Arrive = record { plain = refl; starts = λ line. refl; named = λ line. refl; taker = λ rest end. refl }

took_is : (way : Front) (taking : Taking) → AnswerIs (Took way taking)
unfolding lines_of
took_is way taking =
    let is = front_is way in
    let lines = taking_lines taking in
    let first : List ℕ = front_text way ++ (32 ∷ lines.rest) in
    record {
      first = first;
      others = lines.others;
      spelled = in_front (front_text way) (taking_text taking) (32 ∷ lines.rest) lines.others is.plain lines.spelled;
      starts = is.starts (32 ∷ lines.rest);
      under = lines.under;
      counts = λ kind. tally-append kind first (first ∷ []) lines.others
          ∙ ap (λ (n : ℕ). n + tally kind first lines.others) (tally_first first false (is.starts (32 ∷ lines.rest)) (is.named (32 ∷ lines.rest)) kind)
          ∙ lines.counted first (is.taker lines.rest) kind;
    }

untaken : (cause : TakeRefused) → OneLine (untaken_text cause)
untaken refused.Unknown = whole (codes " unknown") refl
untaken refused.NoClient = whole (codes " noclient") refl
untaken (refused.Stranger c) = after_part (codes " client ") (decimal c ++ (codes " stranger\n" ++ [])) refl (counted c (codes " stranger\n") (whole (codes " stranger") refl))

untaken_is : (way : Front) (cause : TakeRefused) → AnswerIs (Untaken way cause)
unfolding lines_of
untaken_is way cause =
    let is = front_is way in
    let one = after_part (front_text way) (untaken_text cause) is.plain (untaken cause) in
    alone (Untaken way cause) one.line false one.spelled (is.starts (untaken cause).line) (is.named (untaken cause).line) refl

-- ---- what is shown

player_plain : (player : PlayerState) → lacks 10 (player_text player) ≡ true
unfolding player_text
player_plain player =
    lacks_both 10 (words_text [] 0 player.words)
    (words_text (codes "s") 0 (patterns_of player.stats)
    ++ (words_text (codes "p") 0 (patterns_of player.persistant) ++ (words_text (codes "a") 0 (patterns_of player.ammo) ++ (words_text (codes "u") 0 player.powerups ++ []))))
    (indexed [] refl 0 player.words)
    (lacks_both 10 (words_text (codes "s") 0 (patterns_of player.stats))
    (words_text (codes "p") 0 (patterns_of player.persistant) ++ (words_text (codes "a") 0 (patterns_of player.ammo) ++ (words_text (codes "u") 0 player.powerups ++ [])))
    (indexed (codes "s") refl 0 (patterns_of player.stats))
    (lacks_both 10 (words_text (codes "p") 0 (patterns_of player.persistant))
    (words_text (codes "a") 0 (patterns_of player.ammo) ++ (words_text (codes "u") 0 player.powerups ++ []))
    (indexed (codes "p") refl 0 (patterns_of player.persistant))
    (lacks_both 10 (words_text (codes "a") 0 (patterns_of player.ammo)) (words_text (codes "u") 0 player.powerups ++ [])
    (indexed (codes "a") refl 0 (patterns_of player.ammo))
    (lacks_both 10 (words_text (codes "u") 0 player.powerups) [] (indexed (codes "u") refl 0 player.powerups) refl))))

start_plain : (head : SnapHead) → lacks 10 (start_text head) ≡ true
start_plain head =
    lacks_both 10 (decimal head.number) (codes " time " ++ (decimal head.time ++ (codes " flags " ++ (decimal head.flags ++ codes " area ")))) (number head.number)
    (lacks_both 10 (decimal head.time) (codes " flags " ++ (decimal head.flags ++ codes " area ")) (number head.time)
    (lacks_both 10 (decimal head.flags) (codes " area ") (number head.flags) refl))

abbrev entity_line : EntityState → List ℕ
entity_line entity = codes "+ entity " ++ (decimal entity.number ++ (fields_text entity.words ++ []))

entities_beneath : (client server : Bool) (entities : List EntityState)
    → Beneath client server (flat_map entity_text entities) (counts_each client server false false false false (length entities))
entities_beneath client server entities =
    each_beneath client server false false false false entity_text entity_line
    (λ entity. (then_number (codes "+ entity ") entity.number (fields_text entity.words ++ codes "\n") refl
    (whole (fields_text entity.words) (indexed [] refl 0 entity.words))).spelled)
    (λ entity. record { under = refl; no_datagram = refl; as_accepted = refl; as_skipped = refl; as_command = refl; as_move = refl })
    entities

player_beneath : (client server : Bool) (player : PlayerState) → Beneath client server (codes "+ player" ++ (player_text player ++ codes "\n")) no_counts
player_beneath client server player =
    let is = after_part (codes "+ player") (player_text player ++ codes "\n") refl (whole (player_text player) (player_plain player)) in
    other_beneath client server (codes "+ player" ++ (player_text player ++ codes "\n")) is.line is.spelled
    (record { under = refl; no_datagram = refl; as_accepted = refl; as_skipped = refl; as_command = refl; as_move = refl })

shown_newest : (c : ℕ) (snapshot : Snapshot) → AnswerIs (Shown c (ShowsNewest snapshot))
unfolding lines_of
shown_newest c snapshot =
    let start : List ℕ = start_text snapshot.head in
    let area : List ℕ = hex_word snapshot.head.area.items in
    let player : List ℕ = player_text snapshot.head.player in
    let entities : List ℕ = flat_map entity_text snapshot.entities ++ [] in
    let below : List ℕ = (codes "+ player" ++ (player ++ codes "\n")) ++ entities in
    let line : List ℕ = decimal c ++ (start ++ (area ++ [])) in
    let first : List ℕ = codes "show " ++ line in
    let client : Bool = taken_by (codes "client") first in
    let server : Bool = taken_by (codes "server") first in
    let none : Counts = counts_each client server false false false false (length snapshot.entities) in
    let is = both_beneath client server (codes "+ player" ++ (player ++ codes "\n")) entities no_counts (plus none no_counts) (player_beneath client server snapshot.head.player)
    (both_beneath client server (flat_map entity_text snapshot.entities) [] none no_counts (entities_beneath client server snapshot.entities) (none_beneath client server)) in
    let head_is : Spelled (start ++ (area ++ (10 ∷ below))) ((start ++ (area ++ [])) ∷ is.lines) =
    in_front start (area ++ (10 ∷ below)) (area ++ []) is.lines (start_plain snapshot.head)
    (in_front area (10 ∷ below) [] is.lines (hexed snapshot.head.area.items) (newline below is.lines is.spelled)) in
    let same : start ++ (area ++ (10 ∷ below)) ≡ snapshot_text snapshot =
    text_is start area player entities in
    record {
      first = first;
      others = is.lines;
      spelled = in_front (codes "show ") (decimal c ++ (snapshot_text snapshot ++ [])) line is.lines refl
          (in_front (decimal c) (snapshot_text snapshot ++ []) (start ++ (area ++ [])) is.lines (number c)
          (last (snapshot_text snapshot) ((start ++ (area ++ [])) ∷ is.lines)
          (subst (λ (t : List ℕ). Spelled t ((start ++ (area ++ [])) ∷ is.lines)) same head_is)));
      starts = refl;
      under = is.under;
      counts = λ kind. tally-append kind first (first ∷ []) is.lines
          ∙ ap₂ (λ (n m : ℕ). n + m) (tally_first first false refl refl kind) (is.counted first refl refl kind)
          ∙ plus_is one_event (plus no_counts (plus none no_counts)) kind;
    } where
      text_is : (start area player entities : List ℕ)
          → start ++ (area ++ (10 ∷ ((codes "+ player" ++ (player ++ codes "\n")) ++ entities)))
          ≡ (start ++ (area ++ codes "\n+ player")) ++ (player ++ (10 ∷ entities))
      text_is start area player entities =
          sym (append_assoc start (area ++ codes "\n+ player") (player ++ (10 ∷ entities)) ∙ ap (λ (t : List ℕ). start ++ t) (append_assoc area (codes "\n+ player") (player ++ (10 ∷ entities))
          ∙ ap (λ (t : List ℕ). area ++ (codes "\n+ player" ++ t)) (sym (append_assoc player (codes "\n") entities))))

shown_line : (c : ℕ) (showing : Showing) → OneLine (showing_text showing) → AnswerIs (Shown c showing)
unfolding lines_of
shown_line c showing shown =
    let one = after_part (codes "show ") (decimal c ++ (showing_text showing ++ [])) refl (counted c (showing_text showing) shown) in
    alone (Shown c showing) one.line false one.spelled refl refl refl

shown_is : (c : ℕ) (showing : Showing) → AnswerIs (Shown c showing)
shown_is c ShowsNobody = shown_line c ShowsNobody (whole (codes " noclient") refl)
shown_is c ShowsNothing = shown_line c ShowsNothing (whole (codes " none") refl)
shown_is c (ShowsNewest snapshot) = shown_newest c snapshot

bytes_line : (bytes : Option (List ℕ)) → OneLine (bytes_text bytes)
bytes_line None = whole (codes " unknown") refl
bytes_line (Some bytes) = after_part (codes " ") (hex_word bytes ++ codes "\n") refl (whole (hex_word bytes) (hexed bytes))

bytes_is : (datagram : ℕ) (bytes : Option (List ℕ)) → AnswerIs (Bytes datagram bytes)
unfolding lines_of
bytes_is datagram bytes =
    let one = after_part (codes "bytes ") (decimal datagram ++ (bytes_text bytes ++ [])) refl (counted datagram (bytes_text bytes) (bytes_line bytes)) in
    alone (Bytes datagram bytes) one.line false one.spelled refl refl refl

pub answer_is : (answer : Answered) → AnswerIs answer
answer_is (Given given) = given_is given
answer_is (Served c emission datagram) = served_is c emission datagram
answer_is (SentOut c outcome datagram) = sent_is c outcome datagram
answer_is (Took way taking) = took_is way taking
answer_is (Untaken way cause) = untaken_is way cause
answer_is (Shown c showing) = shown_is c showing
answer_is (Bytes datagram bytes) = bytes_is datagram bytes
