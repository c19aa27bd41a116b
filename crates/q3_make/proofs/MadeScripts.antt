-- A script that a seed makes can be printed.
use Rattle.std.proofs.Common.{◌≡◌, ℕ, zero, suc, ◌+◌, ◌*◌, ◌^◌, ◌<◌, ◌≤◌, List, [], ◌∷◌, ◌++◌, length, map, All, refl, sym, ap, ◌∙◌, arith, length-append, append_assoc}
use Rattle.std.specs.List.{flat_map, range_with_len}
use Rattle.std.proofs.lemmas.List.Elements.{All-nil, All-cons, All-append, All-head, All-tail, All-weaker}
use Rattle.std.proofs.lemmas.List.Sums.{sum_by-append}
use Rattle.rand_pcg.specs.Lcg.{Lcg}
use Rattle.q3_script.specs.declared.event.Event.{Event}
use Rattle.q3_script.specs.declared.event.Event.TheVariants.{Client, Port, Map, Entity, Remove, Baseline, Player, Area, Time, Config, Say, TypeText, Move, Serve, Send, Deliver, RecordTo, Stop, Show, Bytes, Toclient, Toserver, At, End}
use Rattle.q3_script.specs.Grammar.{IsReplayEvent}
use Rattle.q3_make.specs.Printed.{event_line, script_text}
use Rattle.q3_make.specs.Generated.{generator_of, entity_with, still, joins, made_by, made_in, drawn_line, drawn_from, first_turns, last_turn, last_turns, opening, closing, generated, DrawnState, rest_of, IsMade}
use Rattle.q3_make.proofs.Rows.{made_more, rest_none}
use Rattle.q3_make.proofs.MadeLines.{IsGood, baseline_good, entity_good, still_good, serve_good, send_good, show_good, deliver_good, time_good, map_good, joins_good, drawn_good}
use Rattle.q3_text.specs.Laws.{TextLaws}

-- ---- lines for each number of a row

each_mapped : (f : ℕ → Event) (a n : ℕ) → ((k : ℕ) → a ≤ k → k < a + n → IsGood (f k)) → All IsGood (map f (range_with_len a n))
each_mapped f a zero each = All-nil IsGood
each_mapped f a (suc n) each =
    All-cons IsGood (f a) (map f (range_with_len (a + 1) n)) (each a (omega arith) (omega arith))
    (each_mapped f (a + 1) n (λ k low high. each k (omega arith) (omega arith)))

each_put : (f : ℕ → List Event) (a n : ℕ) → ((k : ℕ) → a ≤ k → k < a + n → All IsGood (f k)) → All IsGood (flat_map f (range_with_len a n))
each_put f a zero each = All-nil IsGood
each_put f a (suc n) each =
    All-append IsGood (f a) (flat_map f (range_with_len (a + 1) n)) (each a (omega arith) (omega arith))
    (each_put f (a + 1) n (λ k low high. each k (omega arith) (omega arith)))

-- a line in front of others
and_more : (event : Event) (events : List Event) → IsGood event → All IsGood events → All IsGood (event ∷ events)
and_more event events first others = All-cons IsGood event events first others

only : (event : Event) → IsGood event → All IsGood (event ∷ [])
only event is = and_more event [] is (All-nil IsGood)

-- ---- datagrams

pub made_by_few : (event : Event) → made_by event ≤ 1
made_by_few (Client c challenge qport dup address) = omega arith
made_by_few (Port c port) = omega arith
made_by_few (Map id feed) = omega arith
made_by_few (Entity state) = omega arith
made_by_few (Remove number) = omega arith
made_by_few (Baseline state) = omega arith
made_by_few (Player c player) = omega arith
made_by_few (Area c area) = omega arith
made_by_few (Time time) = omega arith
made_by_few (Config index text) = omega arith
made_by_few (Say c text) = omega arith
made_by_few (TypeText c text) = omega arith
made_by_few (Move c one) = omega arith
made_by_few (Serve c) = omega arith
made_by_few (Send c) = omega arith
made_by_few (Deliver datagram) = omega arith
made_by_few (RecordTo c name) = omega arith
made_by_few (Stop c) = omega arith
made_by_few (Show c) = omega arith
made_by_few (Bytes datagram) = omega arith
made_by_few (Toclient c bytes) = omega arith
made_by_few (Toserver c bytes) = omega arith
made_by_few (At ms) = omega arith
made_by_few (End ms) = omega arith

made_few : (events : List Event) → made_in events ≤ length events
made_few [] = omega arith
made_few (event ∷ events) =
    let first = made_by_few event in
    let others = made_few events in
    let e = made_more event events in
    omega arith

-- ---- the opening

first_good : (c made : ℕ) → c ≤ 15 → made ≤ 65000 → All IsGood (first_turns c made)
first_good c made few room =
    let last = Deliver (made + 4) ∷ [] in
    let eight = Send c ∷ last in
    let seven = Move c (still 1000) ∷ eight in
    let six = Deliver (made + 3) ∷ seven in
    let five = Serve c ∷ six in
    let four = Deliver (made + 2) ∷ five in
    let three = Send c ∷ four in
    let two = Deliver (made + 1) ∷ three in
    and_more (Serve c) two (serve_good c few)
    (and_more (Deliver (made + 1)) three (deliver_good (made + 1) (omega arith) (omega arith))
    (and_more (Send c) four (send_good c few)
    (and_more (Deliver (made + 2)) five (deliver_good (made + 2) (omega arith) (omega arith))
    (and_more (Serve c) six (serve_good c few)
    (and_more (Deliver (made + 3)) seven (deliver_good (made + 3) (omega arith) (omega arith))
    (and_more (Move c (still 1000)) eight (still_good c 1000 few (omega arith))
    (and_more (Send c) last (send_good c few) (only (Deliver (made + 4)) (deliver_good (made + 4) (omega arith) (omega arith))))))))))

opening_good : All IsGood opening
unfolding opening
opening_good =
    let clients = map joins (range_with_len 0 4) in
    let baselines = map (λ n. Baseline (entity_with n 1 n)) (range_with_len 1 40) in
    let entities = map (λ n. Entity (entity_with n 1 n)) (range_with_len 1 40) in
    let turns = flat_map (λ c. first_turns c (4 * c)) (range_with_len 0 4) in
    let front = clients ++ (Map 1 4242 ∷ []) in
    All-append IsGood (front ++ baselines ++ entities ++ (Time 1000 ∷ [])) turns
    (All-append IsGood (front ++ baselines ++ entities) (Time 1000 ∷ [])
    (All-append IsGood (front ++ baselines) entities
    (All-append IsGood front baselines
    (All-append IsGood clients (Map 1 4242 ∷ []) (each_mapped joins 0 4 (λ k low high. joins_good k (omega arith))) (only (Map 1 4242) map_good))
    (each_mapped (λ n. Baseline (entity_with n 1 n)) 1 40 (λ k low high. baseline_good k 1 k low (omega arith) (omega arith))))
    (each_mapped (λ n. Entity (entity_with n 1 n)) 1 40 (λ k low high. entity_good k 1 k (omega arith) (omega arith))))
    (only (Time 1000) (time_good 1000 (omega arith))))
    (each_put (λ c. first_turns c (4 * c)) 0 4 (λ k low high. first_good k (4 * k) (omega arith) (omega arith)))

pub opening_makes : made_in opening ≡ 16
unfolding opening
opening_makes = refl

pub opening_length : length opening ≡ 122
unfolding opening
opening_length = refl

regroup : (old a b c d e f : List Event) → (((((old ++ a) ++ b) ++ c) ++ d) ++ e) ++ f ≡ old ++ (((((a ++ b) ++ c) ++ d) ++ e) ++ f)
regroup old a b c d e f = simp append_assoc

-- the opening, put after others part by part
pub opening_put : (old : List Event)
    → (((((old ++ map joins (range_with_len 0 4)) ++ (Map 1 4242 ∷ [])) ++ map (λ n. Baseline (entity_with n 1 n)) (range_with_len 1 40)) ++ map (λ n. Entity (entity_with n 1 n)) (range_with_len 1 40))
    ++ (Time 1000 ∷ [])) ++ flat_map (λ c. first_turns c (4 * c)) (range_with_len 0 4) ≡ old ++ opening
unfolding opening
opening_put old =
    regroup old (map joins (range_with_len 0 4)) (Map 1 4242 ∷ []) (map (λ n. Baseline (entity_with n 1 n)) (range_with_len 1 40)) (map (λ n. Entity (entity_with n 1 n)) (range_with_len 1 40))
    (Time 1000 ∷ []) (flat_map (λ c. first_turns c (4 * c)) (range_with_len 0 4))

-- ---- drawn lines

drawn_are_good : (laws : TextLaws) (left i made : ℕ) (generator : Lcg) → 1 ≤ made → made + left ≤ 65500 → i + left ≤ 65001 → All IsGood (drawn_from left i made generator)
unfolding drawn_from
drawn_are_good laws zero i made generator some few lines = All-nil IsGood
drawn_are_good laws (suc left) i made generator some few lines =
    let line = drawn_line i made generator in
    let one = made_by_few line.0 in
    and_more line.0 _ (drawn_good laws i made generator (omega arith) some (omega arith))
    (drawn_are_good laws left (i + 1) (made + made_by line.0) line.1 (omega arith) (omega arith) (omega arith))

drawn_length : (left i made : ℕ) (generator : Lcg) → length (drawn_from left i made generator) ≡ left
unfolding drawn_from
drawn_length zero i made generator = refl
drawn_length (suc left) i made generator =
    let line = drawn_line i made generator in
    ap suc (drawn_length left (i + 1) (made + made_by line.0) line.1)

-- ---- the closing

last_good : (c made time : ℕ) → c ≤ 15 → made ≤ 65500 → time < 2 ^ 32 → All IsGood (last_turn c made time)
last_good c made time few room small =
    let last = Deliver (made + 2) ∷ [] in
    let four = Send c ∷ last in
    let three = Move c (still time) ∷ four in
    let two = Deliver (made + 1) ∷ three in
    and_more (Serve c) two (serve_good c few)
    (and_more (Deliver (made + 1)) three (deliver_good (made + 1) (omega arith) (omega arith))
    (and_more (Move c (still time)) four (still_good c time few small)
    (and_more (Send c) last (send_good c few) (only (Deliver (made + 2)) (deliver_good (made + 2) (omega arith) (omega arith))))))

turns_good : (c made : ℕ) → c ≤ 15 → made ≤ 65400 → All IsGood (last_turns c made)
turns_good c made few room =
    let turns : ℕ → List Event = λ k. last_turn c (made + 2 * k) (1000001 + k) in
    All-append IsGood (flat_map turns (range_with_len 0 20)) (Show c ∷ [])
    (each_put turns 0 20 (λ k low high. last_good c (made + 2 * k) (1000001 + k) few (omega arith) (omega arith)))
    (only (Show c) (show_good c few))

closing_good : (made : ℕ) → made ≤ 65100 → All IsGood (closing made)
unfolding closing
closing_good made room = each_put (λ c. last_turns c (made + 40 * c)) 0 4 (λ k low high. turns_good k (made + 40 * k) (omega arith) (omega arith))

pub closing_length : (made : ℕ) → length (closing made) ≡ 404
unfolding closing
closing_length made = refl

-- the closing is the last turns of four clients
pub closing_put : (old : List Event) (made n : ℕ) → n ≡ 4 → old ++ flat_map (λ c. last_turns c (made + 40 * c)) (range_with_len 0 n) ≡ old ++ closing made
unfolding closing
closing_put old made n e = ap (λ (n : ℕ). old ++ flat_map (λ c. last_turns c (made + 40 * c)) (range_with_len 0 n)) e

-- ---- the whole

text_short : (events : List Event) → All IsGood events → length (script_text events) ≤ 1000 * length events
text_short [] each = omega arith
text_short (event ∷ events) each =
    let is = All-head IsGood event events each in
    let first = is.short in
    let others = text_short events (All-tail IsGood event events each) in
    rw (length-append (event_line event) (script_text events)) (omega arith)

is_made : (number : ℕ) (events : List Event) → number ≤ 65000 → length events ≡ number + 526 → All IsGood events → IsMade number events
is_made number events few count each =
    let short = text_short events each in
    record { count = count; each = All-weaker IsGood IsReplayEvent (λ event is. is.of_replay) events each; small = omega arith }

-- how many datagrams are made before the closing
pub front_makes : (drawn : List Event) → made_in (opening ++ drawn) ≡ 16 + made_in drawn
front_makes drawn = sum_by-append made_by opening drawn ∙ ap (λ (n : ℕ). n + made_in drawn) opening_makes

pub generated_is_made : (laws : TextLaws) (number seed : ℕ) → number ≤ 65000 → IsMade number (generated number seed)
unfolding generated
generated_is_made laws number seed few =
    let drawn = drawn_from number 1 (made_in opening) (generator_of seed) in
    let front = opening ++ drawn in
    let drawn_count = drawn_length number 1 (made_in opening) (generator_of seed) in
    let some = opening_makes in
    let made = front_makes drawn in
    let made_by_drawn = made_few drawn in
    let e = length-append front (closing (made_in front)) in
    let e' = length-append opening drawn in
    let opens = opening_length in
    let closes = closing_length (made_in front) in
    is_made number (front ++ closing (made_in front)) few (omega arith)
    (All-append IsGood front (closing (made_in front))
    (All-append IsGood opening drawn opening_good (drawn_are_good laws number 1 (made_in opening) (generator_of seed) (omega arith) (omega arith) (omega arith)))
    (closing_good (made_in front) (omega arith)))

-- the opening, the drawn lines and the closing one after another
pub whole_is : (number seed : ℕ) → opening ++ rest_of number (record { drawn = 0; made = 16; generator = generator_of seed }) ≡ generated number seed
unfolding generated rest_of
whole_is number seed =
    let drawn : ℕ → List Event = λ n. drawn_from number 1 n (generator_of seed) in
    sym (append_assoc opening (drawn 16) (closing (16 + made_in (drawn 16))))
    ∙ ap (λ (m : ℕ). (opening ++ drawn 16) ++ closing m) (sym (front_makes (drawn 16)))
    ∙ ap (λ (n : ℕ). (opening ++ drawn n) ++ closing (made_in (opening ++ drawn n))) (sym opening_makes)

-- the parts are events of a replay
pub opening_each : All IsReplayEvent opening
opening_each = All-weaker IsGood IsReplayEvent (λ event is. is.of_replay) opening opening_good

pub closing_each : (made : ℕ) → made ≤ 65100 → All IsReplayEvent (closing made)
closing_each made room = All-weaker IsGood IsReplayEvent (λ event is. is.of_replay) (closing made) (closing_good made room)

-- the three parts, put one after another
pub parts_are : (number seed : ℕ) (start now : DrawnState) (made : ℕ) (first second all : List Event) → first ≡ opening → second ++ rest_of 0 now ≡ first ++ rest_of number start
    → made ≡ now.made → all ≡ second ++ closing made → ((number : ℕ) → opening ++ rest_of number start ≡ generated number seed) → all ≡ generated number seed
parts_are number seed start now made first second all begins goes makes ends whole =
    ends ∙ ap (λ (n : ℕ). second ++ closing n) makes ∙ ap (λ (events : List Event). second ++ events) (sym (rest_none now))
    ∙ goes ∙ ap (λ (events : List Event). events ++ rest_of number start) begins ∙ whole number
