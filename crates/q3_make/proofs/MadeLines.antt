-- Each line of a script that a seed makes is an event of a replay, and short.
use Rattle.std.proofs.Common.{◌≡◌, ℕ, ◌+◌, ◌-◌, ◌/◌, ◌%◌, ◌^◌, ◌<◌, ◌≤◌, ℤ, pos, true, eqb, leb, min, List, [], ◌∷◌, ◌++◌, length, set, replicate, codes, All, refl, ◌∙◌, arith, mod-lt, length-append, length-set, w32}
use Rattle.std.specs.Fmt.{decimal}
use Rattle.std.specs.Int.{cast_unsigned}
use Rattle.std.proofs.lemmas.Bool.{cond_both, and_parts, leb-true}
use Rattle.std.proofs.lemmas.Int.{ints}
use Rattle.std.proofs.lemmas.List.{length-map, length-replicate}
use Rattle.std.proofs.lemmas.List.Elements.{All-nil, All-cons, All-append, All-set, All-map, All-replicate, All-weaker}
use Rattle.std.proofs.lemmas.List.Sums.{AllPass-from_list_all}
use Rattle.rand_pcg.specs.Lcg.{Lcg}
use Rattle.rand_pcg.specs.Pcg.{pcg32}
use Rattle.q3_io.specs.Print.{words_text}
use Rattle.q3_fields.specs.States.{AreWords}
use Rattle.q3_clmsg.specs.declared.moves.Move.{Move as MoveValue}
use Rattle.q3_clmsg.specs.Moves.{IsHeldMove}
use Rattle.q3_clmsg.specs.Report.{move_words, spaced}
use Rattle.q3_entity.specs.Entities.{zero_entity}
use Rattle.q3_entity.specs.Report.{fields_text}
use Rattle.q3_player.specs.Report.{player_text}
use Rattle.q3_player.specs.State.{IsShort, AreShorts, IsState, zero_player, patterns_of}
use Rattle.q3_text.specs.Texts.{IsTextByte, IsText}
use Rattle.q3_text.specs.Decimals.{is_digit}
use Rattle.q3_script.specs.declared.event.Event.{Event}
use Rattle.q3_script.specs.declared.event.Event.TheVariants.{Client, Map, Entity, Remove, Baseline, Player, Time, Config, Say, TypeText, Move, Serve, Send, Deliver, Show}
use Rattle.q3_words.specs.Addresses.{host_of}
use Rattle.q3_script.specs.Grammar.{IsReplayEvent}
use Rattle.q3_make.specs.Printed.{number_text, event_text, event_line}
use Rattle.q3_make.specs.Generated.{draw, entity_with, player_with, walking, still, joins, time_at, entity_line, player_line, move_line, deliver_line, config_line, line_of, drawn_line}
use Rattle.q3_make.proofs.Lengths.{ten, with_newline, number_short, numbers_short, quoted_short, spaced_short, words_short, zeros_none}
use Rattle.q3_text.specs.Laws.{TextLaws}

-- an event of a replay, with a short line
pub record IsGood (event : Event) : Type 0 where
  pub of_replay : IsReplayEvent event
  pub short : length (event_line event) ≤ 1000

good : (event : Event) → IsReplayEvent event → length (event_text event) ≤ 999 → IsGood event
good event is short = record { of_replay = is; short = with_newline (event_text event) short }

-- ---- texts

text_digit : (x : ℕ) → is_digit x ≡ true → IsTextByte x
text_digit x e =
    let range = and_parts (leb 48 x) (leb x 57) e in
    let low = leb-true 48 x range.0 in
    let high = leb-true x 57 range.1 in
    record { some = omega arith; seven_bits = omega arith; no_percent = λ same. omega arith }

decimal_is_text : (laws : TextLaws) (n : ℕ) → n < 2 ^ 32 → All IsTextByte (decimal n)
decimal_is_text laws n small = All-weaker (λ x. is_digit x ≡ true) IsTextByte text_digit (decimal n) (AllPass-from_list_all is_digit (decimal n) (laws.numbers.digits n (omega arith)))

-- a short word and a number are a text of at most 16 bytes
pub record IsLabel (text : List ℕ) : Type 0 where
  pub is_text : IsText text
  pub few : length text ≤ 16

pub label : (laws : TextLaws) (word : List ℕ) (n : ℕ) → All IsTextByte word → length word ≤ 6 → n < 2 ^ 32 → IsLabel (word ++ decimal n)
label laws word n letters short small =
    let digits = ten n small in
    let e = length-append word (decimal n) in
    record {
      is_text = record { short = omega arith; each = All-append IsTextByte word (decimal n) letters (decimal_is_text laws n small) };
      few = omega arith;
    }

-- a letter, or a space
letter : (x : ℕ) (text : List ℕ) → 37 < x → x < 128 → All IsTextByte text → All IsTextByte (x ∷ text)
letter x text low high others = All-cons IsTextByte x text (record { some = omega arith; seven_bits = omega arith; no_percent = λ same. omega arith }) others

space : All IsTextByte (codes " ")
space = All-cons IsTextByte 32 [] (record { some = omega arith; seven_bits = omega arith; no_percent = λ same. omega arith }) (All-nil IsTextByte)

pub chat_letters : All IsTextByte (codes "chat ")
chat_letters = letter 99 (codes "hat ") (omega arith) (omega arith) (letter 104 (codes "at ") (omega arith) (omega arith) (letter 97 (codes "t ") (omega arith) (omega arith) (letter 116 (codes " ") (omega arith) (omega arith) space)))

pub cmd_letters : All IsTextByte (codes "cmd ")
cmd_letters = letter 99 (codes "md ") (omega arith) (omega arith) (letter 109 (codes "d ") (omega arith) (omega arith) (letter 100 (codes " ") (omega arith) (omega arith) space))

value_letters : All IsTextByte (codes "value ")
value_letters = letter 118 (codes "alue ") (omega arith) (omega arith) (letter 97 (codes "lue ") (omega arith) (omega arith) (letter 108 (codes "ue ") (omega arith) (omega arith) (letter 117 (codes "e ") (omega arith) (omega arith) (letter 101 (codes " ") (omega arith) (omega arith) space))))

-- ---- states

-- zeros, but for one small word
one_small : (places place word : ℕ) → word < 1000 → All (λ w. w < 1000) (set (replicate places 0) place word)
one_small places place word small = All-set (λ w. w < 1000) (replicate places 0) place word small (All-replicate (λ w. w < 1000) places 0 (omega arith))

one_are_words : (places place word : ℕ) → word < 1000 → AreWords places (set (replicate places 0) place word)
one_are_words places place word small = record {
  count = length-set (replicate places 0) place word ∙ length-replicate places 0;
  each = All-weaker (λ w. w < 1000) (λ w. w < 2 ^ 32) (λ w s. omega arith) (set (replicate places 0) place word) (one_small places place word small);
}

one_short : (letter : List ℕ) (places place word : ℕ) → length letter ≤ 1 → places ≤ 64 → word < 1000 → length (words_text letter 0 (set (replicate places 0) place word)) ≤ 576
one_short letter places place word short few small =
    let words = one_are_words places place word small in
    let count = words.count in
    let bound = words_short letter 0 (set (replicate places 0) place word) short (omega arith) (one_small places place word small) in
    omega arith

record HasState (number place word : ℕ) : Type 0 where
  words : AreWords 64 (entity_with number place word).words
  short : length (number_text (codes "baseline ") number ++ fields_text (entity_with number place word).words) ≤ 999

state_is : (number place word : ℕ) → number ≤ 1022 → word < 1000 → HasState number place word
unfolding zero_entity
state_is number place word few small =
    let front = number_short (codes "baseline ") number (omega arith) (omega arith) in
    let fields = one_short [] 64 place word (omega arith) (omega arith) small in
    let e = length-append (number_text (codes "baseline ") number) (fields_text (entity_with number place word).words) in
    record { words = one_are_words 64 place word small; short = omega arith }

pub baseline_good : (number place word : ℕ) → 1 ≤ number → number ≤ 1022 → word < 1000 → IsGood (Baseline (entity_with number place word))
unfolding zero_entity
baseline_good number place word some few small =
    let is = state_is number place word few small in
    good (Baseline (entity_with number place word)) (some, omega (arith, few), is.words) is.short

pub entity_good : (number place word : ℕ) → number ≤ 1022 → word < 1000 → IsGood (Entity (entity_with number place word))
unfolding zero_entity
entity_good number place word few small =
    let front = number_short (codes "entity ") number (omega arith) (omega arith) in
    let fields = one_short [] 64 place word (omega arith) (omega arith) small in
    let e = length-append (number_text (codes "entity ") number) (fields_text (entity_with number place word).words) in
    good (Entity (entity_with number place word)) (omega (arith, few), one_are_words 64 place word small) (omega arith)

-- ---- players

one_stat : (stat value : ℕ) → value < 200 → All (λ w. w < 1000) (patterns_of (set (replicate 16 (pos 0)) stat (pos value)))
one_stat stat value small =
    let P : ℤ → Type 0 = λ z. cast_unsigned w32 z < 1000 in
    All-map (λ w. w < 1000) (cast_unsigned w32) (set (replicate 16 (pos 0)) stat (pos value))
    (All-set P (replicate 16 (pos 0)) stat (pos value) (omega (arith, ints)) (All-replicate P 16 (pos 0) (omega (arith, ints))))

stats_are_shorts : (stat value : ℕ) → value < 200 → AreShorts (set (replicate 16 (pos 0)) stat (pos value))
stats_are_shorts stat value small = record {
  count = length-set (replicate 16 (pos 0)) stat (pos value) ∙ length-replicate 16 (pos 0);
  each = All-set IsShort (replicate 16 (pos 0)) stat (pos value) (omega (arith, ints), omega (arith, ints)) (All-replicate IsShort 16 (pos 0) (omega (arith, ints), omega (arith, ints)));
}

no_shorts : AreShorts (replicate 16 (pos 0))
no_shorts = record { count = refl; each = All-replicate IsShort 16 (pos 0) (omega (arith, ints), omega (arith, ints)) }

no_words : AreWords 16 (replicate 16 0)
no_words = record { count = refl; each = All-replicate (λ w. w < 2 ^ 32) 16 0 (omega arith) }

player_is : (place word stat value : ℕ) → word < 1000 → value < 200 → IsState (player_with place word stat value)
unfolding zero_player
player_is place word stat value small few = record {
  words = one_are_words 64 place word small;
  stats = stats_are_shorts stat value few;
  persistant = no_shorts;
  ammo = no_shorts;
  powerups = no_words;
}

no_more : (letter : List ℕ) → words_text letter 0 (patterns_of (replicate 16 (pos 0))) ≡ []
no_more letter = zeros_none letter 0 16

player_short : (place word stat value : ℕ) → word < 1000 → value < 200 → length (player_text (player_with place word stat value)) ≤ 900
unfolding player_text zero_player
player_short place word stat value small few =
    let stats = set (replicate 16 (pos 0)) stat (pos value) in
    let shorts = stats_are_shorts stat value few in
    let count : length (patterns_of stats) ≡ 16 = length-map stats (cast_unsigned w32) ∙ shorts.count in
    let one = one_short [] 64 place word (omega arith) (omega arith) small in
    let two = words_short (codes "s") 0 (patterns_of stats) (omega arith) (omega arith) (one_stat stat value few) in
    let first = words_text [] 0 (set (replicate 64 0) place word) in
    let second = words_text (codes "s") 0 (patterns_of stats) in
    let e : player_text (player_with place word stat value) ≡ first ++ (second ++ []) = rw (no_more (codes "p"), no_more (codes "a"), zeros_none (codes "u") 0 16) refl in
    let e' : length (first ++ (second ++ [])) ≡ length first + (length second + 0) = simp length-append in
    rw (e, e') (omega arith)

pub player_good : (c place word stat value : ℕ) → c ≤ 15 → word < 1000 → value < 200 → IsGood (Player c (player_with place word stat value))
player_good c place word stat value few small low =
    let front = number_short (codes "player ") c (omega arith) (omega arith) in
    let rest = player_short place word stat value small low in
    let e = length-append (number_text (codes "player ") c) (player_text (player_with place word stat value)) in
    good (Player c (player_with place word stat value)) (few, player_is place word stat value small low) (omega arith)

-- ---- moves

-- the move of a player who walks forward, looking up or down and around
abbrev walks : ℕ → ℕ → ℕ → ℕ → ℕ → MoveValue
walks time pitch yaw forward buttons = walking time (pitch ∷ yaw ∷ 0 ∷ []) forward buttons

record AreLow (time pitch yaw forward buttons : ℕ) : Type 0 where
  in_time : time < 2 ^ 32
  in_pitch : pitch < 65536
  in_yaw : yaw < 65536
  in_forward : forward < 128
  in_buttons : buttons < 16

is_held : (time pitch yaw forward buttons : ℕ) → AreLow time pitch yaw forward buttons → IsHeldMove (walks time pitch yaw forward buttons)
is_held time pitch yaw forward buttons low =
    let P : ℕ → Type 0 = λ angle. angle < 2 ^ 16 in
    let in_pitch = low.in_pitch in
    let in_yaw = low.in_yaw in
    let in_forward = low.in_forward in
    let in_buttons = low.in_buttons in
    record {
      time = low.in_time;
      three = refl;
      angles = All-cons P pitch (yaw ∷ 0 ∷ []) (omega arith) (All-cons P yaw (0 ∷ []) (omega arith) (All-cons P 0 [] (omega arith) (All-nil P)));
      forward = (omega (arith, ints), omega (arith, ints));
      right = (omega (arith, ints), omega (arith, ints));
      up = (omega (arith, ints), omega (arith, ints));
      buttons = omega arith;
      weapon = omega arith;
    }

-- words of at most ten bytes
low_word : (n : ℕ) (words : List (List ℕ)) → n < 2 ^ 32 → All (λ word. length word ≤ 10) words → All (λ word. length word ≤ 10) (decimal n ∷ words)
low_word n words small others = All-cons (λ (word : List ℕ). length word ≤ 10) (decimal n) words (ten n small) others

move_short : (time pitch yaw forward buttons : ℕ) → AreLow time pitch yaw forward buttons → length (spaced (move_words (walks time pitch yaw forward buttons))) ≤ 99
move_short time pitch yaw forward buttons low =
    let in_pitch = low.in_pitch in
    let in_yaw = low.in_yaw in
    let in_forward = low.in_forward in
    let in_buttons = low.in_buttons in
    let last = decimal 0 ∷ [] in
    let from_buttons = decimal buttons ∷ last in
    let from_up = decimal 0 ∷ from_buttons in
    let from_right = decimal 0 ∷ from_up in
    let from_forward = decimal forward ∷ from_right in
    let from_roll = decimal 0 ∷ from_forward in
    let from_yaw = decimal yaw ∷ from_roll in
    let from_pitch = decimal pitch ∷ from_yaw in
    spaced_short (decimal time ∷ from_pitch)
    (low_word time from_pitch low.in_time (low_word pitch from_yaw (omega arith) (low_word yaw from_roll (omega arith) (low_word 0 from_forward (omega arith) (low_word forward from_right (omega arith)
    (low_word 0 from_up (omega arith) (low_word 0 from_buttons (omega arith) (low_word buttons last (omega arith) (low_word 0 [] (omega arith) (All-nil (λ (word : List ℕ). length word ≤ 10)))))))))))

pub move_good : (c time pitch yaw forward buttons : ℕ) → c ≤ 15 → time < 2 ^ 32 → pitch < 65536 → yaw < 65536 → forward < 128 → buttons < 16 → IsGood (Move c (walks time pitch yaw forward buttons))
move_good c time pitch yaw forward buttons few in_time in_pitch in_yaw in_forward in_buttons =
    let low : AreLow time pitch yaw forward buttons = record { in_time = in_time; in_pitch = in_pitch; in_yaw = in_yaw; in_forward = in_forward; in_buttons = in_buttons } in
    let one = walks time pitch yaw forward buttons in
    let front = number_short (codes "move ") c (omega arith) (omega arith) in
    let rest = move_short time pitch yaw forward buttons low in
    let e = length-append (number_text (codes "move ") c) (spaced (move_words one)) in
    good (Move c one) (few, is_held time pitch yaw forward buttons low) (omega arith)

pub still_good : (c time : ℕ) → c ≤ 15 → time < 2 ^ 32 → IsGood (Move c (still time))
still_good c time few small = move_good c time 0 0 0 0 few small (omega arith) (omega arith) (omega arith) (omega arith)

-- ---- numbers and texts

pub serve_good : (c : ℕ) → c ≤ 15 → IsGood (Serve c)
serve_good c few = let short = number_short (codes "serve ") c (omega arith) (omega arith) in good (Serve c) few (omega arith)

pub send_good : (c : ℕ) → c ≤ 15 → IsGood (Send c)
send_good c few = let short = number_short (codes "send ") c (omega arith) (omega arith) in good (Send c) few (omega arith)

pub show_good : (c : ℕ) → c ≤ 15 → IsGood (Show c)
show_good c few = let short = number_short (codes "show ") c (omega arith) (omega arith) in good (Show c) few (omega arith)

pub deliver_good : (datagram : ℕ) → 1 ≤ datagram → datagram ≤ 65536 → IsGood (Deliver datagram)
deliver_good datagram some few = let short = number_short (codes "deliver ") datagram (omega arith) (omega arith) in good (Deliver datagram) (some, few) (omega arith)

remove_good : (number : ℕ) → number ≤ 1022 → IsGood (Remove number)
remove_good number few = let short = number_short (codes "remove ") number (omega arith) (omega arith) in good (Remove number) (omega (arith, few)) (omega arith)

pub time_good : (time : ℕ) → time < 2 ^ 32 → IsGood (Time time)
time_good time small = let short = number_short (codes "time ") time (omega arith) small in good (Time time) small (omega arith)

pub map_good : IsGood (Map 1 4242)
map_good = let short = numbers_short (codes "map ") 1 4242 (omega arith) (omega arith) (omega arith) in good (Map 1 4242) (omega arith, omega arith, omega arith) (omega arith)

say_good : (c : ℕ) (text : List ℕ) → c ≤ 15 → IsLabel text → IsGood (Say c text)
say_good c text few is = let short = quoted_short (codes "say ") c text (omega arith) (omega arith) is.few in good (Say c text) (few, is.is_text) (omega arith)

type_good : (c : ℕ) (text : List ℕ) → c ≤ 15 → IsLabel text → IsGood (TypeText c text)
type_good c text few is = let short = quoted_short (codes "type ") c text (omega arith) (omega arith) is.few in good (TypeText c text) (few, is.is_text) (omega arith)

config_good : (index : ℕ) (text : List ℕ) → index < 2 ^ 32 → IsLabel text → IsGood (Config index text)
config_good index text small is =
    let few = is.few in
    let short = quoted_short (codes "config ") index text (omega arith) small few in
    let bytes = All-weaker IsTextByte (λ byte. (0 < byte) × (byte < 256)) (λ byte b. (let low = b.seven_bits in (b.some, omega arith))) text is.is_text.each in
    good (Config index text) (small, omega arith, bytes) (omega arith)

-- a client's line
client_short : (c challenge qport dup host port : ℕ) → c < 2 ^ 32 → challenge < 2 ^ 32 → qport < 2 ^ 32 → dup < 2 ^ 32 → host < 2 ^ 32 → port < 2 ^ 32
    → length (event_text (Client c challenge qport dup (record { host = host; port = port }))) ≤ 999
client_short c challenge qport dup host port s1 s2 s3 s4 s5 s6 =
    let d1 = ten c s1 in
    let d2 = ten challenge s2 in
    let d3 = ten qport s3 in
    let d4 = ten dup s4 in
    let d5 = ten (host / 16777216) (omega arith) in
    let d6 = ten (host / 65536 % 256) (omega arith) in
    let d7 = ten (host / 256 % 256) (omega arith) in
    let d8 = ten (host % 256) (omega arith) in
    let d9 = ten port s6 in
    let e : length (event_text (Client c challenge qport dup (record { host = host; port = port })))
    ≡ 7 + (length (decimal c) + (1 + (length (decimal challenge) + (1 + (length (decimal qport) + (1 + (length (decimal dup) + (1
    + (length (decimal (host / 16777216)) + (1 + (length (decimal (host / 65536 % 256)) + (1 + (length (decimal (host / 256 % 256)) + (1 + (length (decimal (host % 256))
    + (1 + (length (decimal port) + 0))))))))))))))))) = simp length-append (omega arith) in
    rw e (omega arith)

-- each of the four clients
pub joins_good : (c : ℕ) → c ≤ 3 → IsGood (joins c)
joins_good c few =
    good (joins c) (omega arith, omega arith, omega arith, omega arith, omega arith, omega arith, omega arith)
    (client_short c (1000 + c) (5000 + c) c (host_of 10 0 0 (c + 1)) 27960 (omega arith) (omega arith) (omega arith) (omega arith) (omega arith) (omega arith))

-- ---- drawn lines

below : (n : ℕ) (generator : Lcg) → 0 < n → (draw n generator).0 < n
unfolding draw
below n generator some = mod-lt (pcg32 generator).0 some

entity_drawn : (generator : Lcg) → IsGood (entity_line generator).0
entity_drawn generator =
    let number = draw 200 generator in
    let place = draw 4 number.1 in
    let d = below 200 generator (omega arith) in
    entity_good (1 + number.0) place.0 (draw 1000 place.1).0 (omega arith) (below 1000 place.1 (omega arith))

player_drawn : (generator : Lcg) → IsGood (player_line generator).0
player_drawn generator =
    let c = draw 4 generator in
    let place = draw 4 c.1 in
    let word = draw 1000 place.1 in
    let stat = draw 16 word.1 in
    let d = below 4 generator (omega arith) in
    player_good c.0 place.0 word.0 stat.0 (draw 200 stat.1).0 (omega arith) (below 1000 place.1 (omega arith)) (below 200 stat.1 (omega arith))

move_drawn : (i : ℕ) (generator : Lcg) → time_at i < 2 ^ 32 → IsGood (move_line i generator).0
move_drawn i generator small =
    let c = draw 4 generator in
    let pitch = draw 65536 c.1 in
    let yaw = draw 65536 pitch.1 in
    let forward = draw 128 yaw.1 in
    let d = below 4 generator (omega arith) in
    move_good c.0 (time_at i) pitch.0 yaw.0 forward.0 (draw 16 forward.1).0 (omega arith) small (below 65536 c.1 (omega arith)) (below 65536 pitch.1 (omega arith)) (below 128 yaw.1 (omega arith)) (below 16 forward.1 (omega arith))

deliver_drawn : (made : ℕ) (generator : Lcg) → 1 ≤ made → made ≤ 65536 → IsGood (deliver_line made generator).0
deliver_drawn made generator some few =
    let d = below (min made 24) generator (omega arith) in
    deliver_good (made - (draw (min made 24) generator).0) (omega arith) (omega arith)

config_drawn : (laws : TextLaws) (i : ℕ) (generator : Lcg) → i < 2 ^ 32 → IsGood (config_line i generator).0
config_drawn laws i generator small =
    let d = below 40 generator (omega arith) in
    config_good (2 + (draw 40 generator).0) (codes "value " ++ decimal i) (omega arith) (label laws (codes "value ") i value_letters (omega arith) small)

-- a drawn line of a kind
of_kind : (laws : TextLaws) (kind i made : ℕ) (generator : Lcg) → i ≤ 65000 → 1 ≤ made → made ≤ 65536 → IsGood (line_of kind i made generator).0
of_kind laws kind i made generator lines some few =
    let P : Event × Lcg → Type 0 = λ line. IsGood line.0 in
    let in_time : time_at i < 2 ^ 32 = omega arith in
    let in_line : i < 2 ^ 32 = omega arith in
    let client : (g : Lcg) → (draw 4 g).0 ≤ 15 = λ g. (let d = below 4 g (omega arith) in omega arith) in
    cond_both (leb kind 1) _ _ P (λ _. entity_drawn generator)
    (λ _. cond_both (eqb kind 2) _ _ P (λ _. (let d = below 200 generator (omega arith) in remove_good (1 + (draw 200 generator).0) (omega arith)))
    (λ _. cond_both (eqb kind 3) _ _ P (λ _. player_drawn generator)
    (λ _. cond_both (eqb kind 4) _ _ P (λ _. time_good (time_at i) in_time)
    (λ _. cond_both (eqb kind 5) _ _ P (λ _. say_good (draw 4 generator).0 (codes "chat " ++ decimal i) (client generator) (label laws (codes "chat ") i chat_letters (omega arith) in_line))
    (λ _. cond_both (eqb kind 6) _ _ P (λ _. type_good (draw 4 generator).0 (codes "cmd " ++ decimal i) (client generator) (label laws (codes "cmd ") i cmd_letters (omega arith) in_line))
    (λ _. cond_both (eqb kind 7) _ _ P (λ _. move_drawn i generator in_time)
    (λ _. cond_both (leb kind 11) _ _ P (λ _. serve_good (draw 4 generator).0 (client generator))
    (λ _. cond_both (leb kind 13) _ _ P (λ _. send_good (draw 4 generator).0 (client generator))
    (λ _. cond_both (leb kind 16) _ _ P (λ _. deliver_drawn made generator some few) (λ _. config_drawn laws i generator in_line))))))))))

pub drawn_good : (laws : TextLaws) (i made : ℕ) (generator : Lcg) → i ≤ 65000 → 1 ≤ made → made ≤ 65536 → IsGood (drawn_line i made generator).0
unfolding drawn_line
drawn_good laws i made generator lines some few = of_kind laws (draw 18 generator).0 i made (draw 18 generator).1 lines some few
