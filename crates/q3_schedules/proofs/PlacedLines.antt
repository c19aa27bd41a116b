-- Lines by their kinds, each with the one that it stands under.
use Rattle.std.proofs.Common.{◌≡◌, ℕ, ◌+◌, Bool, true, false, cond, not, eqb, List, [], ◌∷◌, ◌++◌, length, map, codes, decimal, count_by, bytes_eq, refl, ap, ◌∙◌, arith, inl, inr, true≢false, append-nil}
use Rattle.std.specs.List.{list_all}
use Rattle.std.proofs.lemmas.Bool.{cases_Bool, and_parts, ne_eqb, not-true}
use Rattle.std.proofs.lemmas.List.{map-append}
use Rattle.std.proofs.lemmas.List.Sums.{sum_by-cons, sum_by-append}
use Rattle.std.proofs.lemmas.List.Splits.{slice_split_at, slice_split_none}
use Rattle.q3_words.specs.Words.{words_of}
use Rattle.q3_counts.specs.declared.counts.Counts.{Counts}
use Rattle.q3_counts.specs.Counts.{no_counts, one_event}
use Rattle.q3_schedules.specs.ReportLines.{begins, is_under, has_datagram, Placed, placed, is_event, is_datagram, is_accepted, is_skipped, is_server_command, is_client_command, is_move}
use Rattle.q3_text.specs.Cuts.{lacks}
use Rattle.q3_schedules.proofs.PlainTexts.{without, lacks-decimal}

-- the seven kinds of lines that are counted
pub data Kind : Type 0 where
  Event : Kind
  Datagram : Kind
  AcceptedSnapshot : Kind
  SkippedSnapshot : Kind
  ServerCommand : Kind
  ClientCommand : Kind
  MoveLine : Kind

abbrev pub test_of : Kind → Placed → Bool
test_of Event = is_event
test_of Datagram = is_datagram
test_of AcceptedSnapshot = is_accepted
test_of SkippedSnapshot = is_skipped
test_of ServerCommand = is_server_command
test_of ClientCommand = is_client_command
test_of MoveLine = is_move

abbrev pub count_of : Kind → Counts → ℕ
count_of Event counts = counts.events
count_of Datagram counts = counts.datagrams
count_of AcceptedSnapshot counts = counts.accepted
count_of SkippedSnapshot counts = counts.skipped
count_of ServerCommand counts = counts.server_commands
count_of ClientCommand counts = counts.client_commands
count_of MoveLine counts = counts.moves

-- a line under this one
abbrev pub at : List ℕ → List ℕ → Placed
at above line = record { above = above; line = line }

-- how many of these lines are of a kind, where all stand under one
abbrev pub tally : Kind → List ℕ → List (List ℕ) → ℕ
tally kind above lines = count_by (test_of kind) (map (at above) lines)

pub tally-append : (kind : Kind) (above : List ℕ) (xs ys : List (List ℕ)) → tally kind above (xs ++ ys) ≡ tally kind above xs + tally kind above ys
tally-append kind above xs ys = rw (map-append (at above) xs ys) (sum_by-append (λ x. cond (test_of kind x) 1 0) (map (at above) xs) (map (at above) ys))

-- lines of one form are all of a kind, or none is
pub tally-alike : {X : Type 0} (kind : Kind) (above : List ℕ) (line : X → List ℕ) (is : Bool)
    → ((x : X) → test_of kind (at above (line x)) ≡ is) → (xs : List X) → tally kind above (map line xs) ≡ cond is (length xs) 0
tally-alike kind above line true same [] = refl
tally-alike kind above line false same [] = refl
tally-alike kind above line true same (x ∷ xs) =
    rw (sum_by-cons (λ y. cond (test_of kind y) 1 0) (at above (line x)) (map (at above) (map line xs)), same x) (omega (arith, tally-alike kind above line true same xs))
tally-alike kind above line false same (x ∷ xs) =
    rw (sum_by-cons (λ y. cond (test_of kind y) 1 0) (at above (line x)) (map (at above) (map line xs)), same x) (omega (arith, tally-alike kind above line false same xs))

-- ---- counts by their kinds

pub same_counts : (a b : Counts) → ((kind : Kind) → count_of kind a ≡ count_of kind b) → a ≡ b
same_counts a b same =
    ap (λ (n : ℕ). record a { events = n }) (same Event)
    ∙ ap (λ (n : ℕ). record a { events = b.events; datagrams = n }) (same Datagram)
    ∙ ap (λ (n : ℕ). record a { events = b.events; datagrams = b.datagrams; accepted = n }) (same AcceptedSnapshot)
    ∙ ap (λ (n : ℕ). record b { skipped = n; server_commands = a.server_commands; client_commands = a.client_commands; moves = a.moves }) (same SkippedSnapshot)
    ∙ ap (λ (n : ℕ). record b { server_commands = n; client_commands = a.client_commands; moves = a.moves }) (same ServerCommand)
    ∙ ap (λ (n : ℕ). record b { client_commands = n; moves = a.moves }) (same ClientCommand)
    ∙ ap (λ (n : ℕ). record b { moves = n }) (same MoveLine)

-- two counts, kind by kind
abbrev pub plus : Counts → Counts → Counts
plus a b = record {
  events = a.events + b.events;
  datagrams = a.datagrams + b.datagrams;
  accepted = a.accepted + b.accepted;
  skipped = a.skipped + b.skipped;
  server_commands = a.server_commands + b.server_commands;
  client_commands = a.client_commands + b.client_commands;
  moves = a.moves + b.moves;
}

pub plus_is : (a b : Counts) (kind : Kind) → count_of kind a + count_of kind b ≡ count_of kind (plus a b)
plus_is a b Event = refl
plus_is a b kind = refl

none_more : (a : Counts) (kind : Kind) → count_of kind (plus a no_counts) ≡ count_of kind a
none_more a Event = omega arith
none_more a kind = omega arith

-- and nothing more
pub plus_none : (a : Counts) → plus a no_counts ≡ a
plus_none a = same_counts (plus a no_counts) a (none_more a)

-- what stands under a client's line, with that line
abbrev applied_plus : ℕ → ℕ → ℕ → Counts
applied_plus accepted skipped n =
    plus one_event (plus (record no_counts { server_commands = n }) (plus no_counts (plus (record no_counts { accepted = accepted; skipped = skipped }) no_counts)))

applied_kind : (accepted skipped n : ℕ) (kind : Kind)
    → count_of kind (applied_plus accepted skipped n) ≡ count_of kind (record one_event { accepted = accepted; skipped = skipped; server_commands = n })
applied_kind accepted skipped n Event = omega arith
applied_kind accepted skipped n kind = omega arith

pub applied_counts : (accepted skipped n : ℕ) → applied_plus accepted skipped n ≡ record one_event { accepted = accepted; skipped = skipped; server_commands = n }
applied_counts accepted skipped n =
    same_counts (applied_plus accepted skipped n) (record one_event { accepted = accepted; skipped = skipped; server_commands = n }) (applied_kind accepted skipped n)

-- and under the server's
abbrev ran_plus : ℕ → ℕ → Counts
ran_plus n m = plus one_event (plus (record no_counts { client_commands = n }) (plus no_counts (plus (record no_counts { moves = m }) no_counts)))

ran_kind : (n m : ℕ) (kind : Kind) → count_of kind (ran_plus n m) ≡ count_of kind (record one_event { client_commands = n; moves = m })
ran_kind n m Event = omega arith
ran_kind n m kind = omega arith

pub ran_counts : (n m : ℕ) → ran_plus n m ≡ record one_event { client_commands = n; moves = m }
ran_counts n m = same_counts (ran_plus n m) (record one_event { client_commands = n; moves = m }) (ran_kind n m)

-- ---- placing

pub placed_under : (above : List ℕ) (others lines : List (List ℕ)) → list_all is_under others ≡ true
    → placed above (others ++ lines) ≡ map (at above) others ++ placed above lines
unfolding placed
placed_under above [] lines under = refl
placed_under above (line ∷ others) lines under =
    let parts = and_parts (is_under line) (list_all is_under others) under in
    rw (parts.0) (ap (λ (l : List Placed). at above line ∷ l) (placed_under above others lines parts.1))

pub placed_first : (above first : List ℕ) (lines : List (List ℕ)) → is_under first ≡ false → placed above (first ∷ lines) ≡ at first first ∷ placed first lines
unfolding placed
placed_first above first lines starts = rw starts refl

pub placed_nothing : (above : List ℕ) → placed above [] ≡ []
unfolding placed
placed_nothing above = refl

-- ---- kinds of first lines

-- what doesn't begin with a plus and a space begins with no more that does
pub no_more : (word line : List ℕ) → is_under line ≡ false → begins (43 ∷ 32 ∷ word) line ≡ false
no_more word [] starts = refl
no_more word (x ∷ []) starts = elim (cases_Bool (eqb 43 x)) [ inl plus ↦ rw plus refl | inr other ↦ rw other refl ]
no_more word (x ∷ y ∷ line) starts =
    elim (cases_Bool (eqb 43 x)) [
      | inl plus ↦ elim (cases_Bool (eqb 32 y)) [
        | inl space ↦ absurd (true≢false (rw (plus, space) at starts))
        | inr other ↦ rw (plus, other) refl
      ]
      | inr other ↦ rw other refl
    ]

-- a first line, which names a datagram or none
pub tally_first : (first : List ℕ) (made : Bool) → is_under first ≡ false → has_datagram first ≡ made
    → (kind : Kind) → tally kind first (first ∷ []) ≡ count_of kind (record one_event { datagrams = cond made 1 0 })
tally_first first made starts named Event = rw starts refl
tally_first first true starts named Datagram = rw named refl
tally_first first false starts named Datagram = rw named refl
tally_first first made starts named AcceptedSnapshot = rw (no_more (codes "accepted ") first starts) refl
tally_first first made starts named SkippedSnapshot = rw (no_more (codes "skipped ") first starts) refl
tally_first first made starts named ServerCommand = rw (no_more (codes "command ") first starts) refl
tally_first first made starts named ClientCommand = rw (no_more (codes "command ") first starts) refl
tally_first first made starts named MoveLine = rw (no_more (codes "move ") first starts) refl

-- ---- words

pub next_word : (word line : List ℕ) → lacks 32 word ≡ true → words_of (word ++ 32 ∷ line) ≡ word ∷ words_of line
next_word word line plain = slice_split_at (λ byte. eqb byte 32) word 32 line (without 32 word plain) refl

pub last_word : (word : List ℕ) → lacks 32 word ≡ true → words_of (word ++ []) ≡ word ∷ []
last_word word plain = ap words_of (append-nil word) ∙ slice_split_none (λ byte. eqb byte 32) word (without 32 word plain)

pub number_word : (n : ℕ) → lacks 32 (decimal n) ≡ true
number_word n = lacks-decimal 32 n (λ d small same. omega arith)

-- a number isn't the word
not_a_number : (text : List ℕ) → lacks 100 text ≡ true → bytes_eq (codes "datagram") text ≡ false
not_a_number [] plain = refl
not_a_number (x ∷ text) plain =
    let other : eqb x 100 ≡ false = not-true (eqb x 100) (and_parts (not (eqb x 100)) (lacks 100 text) plain).0 in
    rw (ne_eqb 100 x (λ same. true≢false (rw (← same) at other))) refl

pub other_number : (n : ℕ) → bytes_eq (codes "datagram") (decimal n) ≡ false
other_number n = not_a_number (decimal n) (lacks-decimal 100 n (λ d small same. omega arith))
