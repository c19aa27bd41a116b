-- The lines of a printed script spell its events.
use Rattle.std.proofs.Common.{◌≡◌, ℕ, suc, ◌/◌, ◌%◌, ◌^◌, ◌<◌, ◌≤◌, false, eqb, List, [], ◌∷◌, ◌++◌, length, All, refl, sym, ap, subst, ◌∙◌, arith, append_assoc}
use Rattle.std.specs.Prelude.{codes, ℤ, pos, negsuc, map}
use Rattle.std.specs.Fmt.{decimal, signed_decimal}
use Rattle.std.specs.List.{concat}
use Rattle.std.proofs.lemmas.Bool.{ne_eqb}
use Rattle.std.proofs.lemmas.Int.{ints}
use mir.Syntax.{w32}
use Rattle.std.specs.Int.{cast_unsigned}
use Rattle.std.proofs.lemmas.List.{append-nil, length-map}
use Rattle.std.proofs.lemmas.List.Concat.{flat_map-append}
use Rattle.std.proofs.lemmas.List.Elements.{All-head, All-tail, All-weaker}
use Rattle.std.proofs.lemmas.List.Splits.{slice_split_at}
use Rattle.q3_io.specs.Quoted.{quoted}
use Rattle.q3_io.specs.declared.address.Address.{Address}
use Rattle.q3_clmsg.specs.declared.moves.Move.{Move as MoveValue}
use Rattle.q3_clmsg.specs.Moves.{IsSignedByte, IsHeldMove}
use Rattle.q3_clmsg.specs.Report.{move_words, spaced}
use Rattle.q3_fields.specs.States.{AreWords}
use Rattle.q3_entity.specs.Report.{fields_text}
use Rattle.q3_entity.specs.declared.state.EntityState.{EntityState}
use Rattle.q3_player.specs.Report.{player_text}
use Rattle.q3_player.specs.State.{IsState, AreShorts, patterns_of, shorts_of}
use Rattle.q3_player.specs.declared.state.PlayerState.{PlayerState}
use Rattle.q3_text.specs.Texts.{IsTextByte, IsText}
use Rattle.q3_script.specs.declared.event.Event.{Event}
use Rattle.q3_script.specs.declared.event.Event.TheVariants.{Client, Port, Map, Entity, Remove, Baseline, Player, Area, Time, Config, Say, TypeText, Move, Serve, Send, Deliver, RecordTo, Stop, Show, Bytes, Toclient, Toserver, At, End}
use Rattle.q3_script.specs.declared.cause.ScriptKind.TheVariants.{Replay}
use Rattle.q3_words.specs.Names.{IsName}
use Rattle.q3_words.specs.Words.{words_of}
use Rattle.q3_io.specs.Print.{hex_word}
use Rattle.q3_script.specs.Script.{longest_script, most_events, lines_of, is_passed_over}
use Rattle.q3_words.specs.Fields.{field_words, SpellsEntity, SpellsPlayer}
use Rattle.q3_words.specs.Addresses.{SpellsAddress}
use Rattle.q3_words.specs.Quotes.{SpellsText}
use Rattle.q3_script.specs.Grammar.{IsReplayEvent, HasWords, SpellsEvent, SpellEvents, SpellsScript}
use Rattle.q3_make.specs.Printed.{event_text, script_text}
use Rattle.q3_make.proofs.PrintedWords.{without, IsWord, word_and, decimal_word, AreLineWords, words_and, Prints, only, before, row, name_is_word, hex_text_is_word, quoted_prints, fields_are_words, HasFields, fields_of}
use Rattle.q3_text.specs.Laws.{TextLaws}
use Rattle.q3_player.specs.Laws.{ArraysAreKept}

-- a line of an event
record IsPrinted (event : Event) : Type 0 where
  words : List (List ℕ)
  prints : Prints (event_text event) words
  has : HasWords words event

-- a number in front of words
in_front : (n : ℕ) (text : List ℕ) (words : List (List ℕ)) → text ≡ spaced words → (decimal n ++ []) ++ text ≡ decimal n ++ spaced words
in_front n text words e = rw (append-nil (decimal n), e) refl

-- ---- entities

record HasState (state : EntityState) : Type 0 where
  fields : List (List ℕ)
  are : AreLineWords (decimal state.number ∷ fields)
  text : (decimal state.number ++ []) ++ fields_text state.words ≡ decimal state.number ++ spaced fields
  spelled : SpellsEntity fields state

state_is : (arrays : ArraysAreKept) (laws : TextLaws) (state : EntityState) → state.number < 2 ^ 64 → AreWords 64 state.words → HasState state
state_is arrays laws state small are =
    let found = fields_of arrays [] 64 state.words are.count are.each in
    let nothing : IsWord [] = record { no_space = refl; no_newline = refl } in
    record {
      fields = field_words [] found.fields;
      are = (decimal_word laws state.number small, fields_are_words laws [] 64 0 found.fields (omega arith) nothing found.are);
      text = in_front state.number (fields_text state.words) (field_words [] found.fields) found.text;
      spelled = record { fields = found.fields; are_fields = found.are; whole = refl; state = found.values };
    }

-- ---- players

spaced_five : (a b c d e : List (List ℕ)) → concat (spaced a ∷ spaced b ∷ spaced c ∷ spaced d ∷ spaced e ∷ []) ≡ spaced (a ++ b ++ c ++ d ++ e)
spaced_five a b c d e =
    let space : List ℕ → List ℕ = λ word. codes " " ++ word in
    rw (flat_map-append space (a ++ b ++ c ++ d) e, flat_map-append space (a ++ b ++ c) d, flat_map-append space (a ++ b) c, flat_map-append space a b) (simp (append_assoc, append-nil))

record HasPlayer (c : ℕ) (player : PlayerState) : Type 0 where
  fields : List (List ℕ)
  are : AreLineWords (decimal c ∷ fields)
  text : (decimal c ++ []) ++ player_text player ≡ decimal c ++ spaced fields
  spelled : SpellsPlayer fields player

shorts_fields : (arrays : ArraysAreKept) (letter : List ℕ) (values : List ℤ) → AreShorts values → HasFields letter 16 (patterns_of values)
shorts_fields arrays letter values are = fields_of arrays letter 16 (patterns_of values) (length-map values (cast_unsigned w32) ∙ are.count) (arrays.words values are.each)

-- a player of its parts
player_parts : (player : PlayerState) (words stats persistant ammo powerups : List ℕ) → player.words ≡ words → player.stats ≡ shorts_of stats → player.persistant ≡ shorts_of persistant → player.ammo ≡ shorts_of ammo → player.powerups ≡ powerups
    → player ≡ record { words = words; stats = shorts_of stats; persistant = shorts_of persistant; ammo = shorts_of ammo; powerups = powerups }
player_parts player _ _ _ _ _ at_words at_stats at_persistant at_ammo at_powerups = rw (sym at_words, sym at_stats, sym at_persistant, sym at_ammo, sym at_powerups) refl

-- values as signed ones again
values_again : (arrays : ArraysAreKept) (values : List ℤ) (words : List ℕ) → AreShorts values → patterns_of values ≡ words → values ≡ shorts_of words
values_again arrays values words are e = sym (arrays.back values are.each) ∙ ap shorts_of e

player_is : (arrays : ArraysAreKept) (laws : TextLaws) (c : ℕ) (player : PlayerState) → c < 2 ^ 64 → IsState player → HasPlayer c player
unfolding player_text
player_is arrays laws c player small is =
    let nothing : IsWord [] = record { no_space = refl; no_newline = refl } in
    let s : IsWord (codes "s") = record { no_space = refl; no_newline = refl } in
    let p : IsWord (codes "p") = record { no_space = refl; no_newline = refl } in
    let a : IsWord (codes "a") = record { no_space = refl; no_newline = refl } in
    let u : IsWord (codes "u") = record { no_space = refl; no_newline = refl } in
    let fields = fields_of arrays [] 64 player.words is.words.count is.words.each in
    let stats = shorts_fields arrays (codes "s") player.stats is.stats in
    let persistant = shorts_fields arrays (codes "p") player.persistant is.persistant in
    let ammo = shorts_fields arrays (codes "a") player.ammo is.ammo in
    let powerups = fields_of arrays (codes "u") 16 player.powerups is.powerups.count is.powerups.each in
    let one = field_words [] fields.fields in
    let two = field_words (codes "s") stats.fields in
    let three = field_words (codes "p") persistant.fields in
    let four = field_words (codes "a") ammo.fields in
    let five = field_words (codes "u") powerups.fields in
    let text : player_text player ≡ spaced (one ++ two ++ three ++ four ++ five) = rw (fields.text, stats.text, persistant.text, ammo.text, powerups.text) (spaced_five one two three four five) in
    record {
      fields = one ++ two ++ three ++ four ++ five;
      are = (
        decimal_word laws c small,
        words_and (one ++ two ++ three ++ four) five
            (words_and (one ++ two ++ three) four
            (words_and (one ++ two) three
            (words_and one two (fields_are_words laws [] 64 0 fields.fields (omega arith) nothing fields.are) (fields_are_words laws (codes "s") 16 0 stats.fields (omega arith) s stats.are))
            (fields_are_words laws (codes "p") 16 0 persistant.fields (omega arith) p persistant.are))
            (fields_are_words laws (codes "a") 16 0 ammo.fields (omega arith) a ammo.are))
            (fields_are_words laws (codes "u") 16 0 powerups.fields (omega arith) u powerups.are),
      );
      text = in_front c (player_text player) (one ++ two ++ three ++ four ++ five) text;
      spelled = record {
        fields = fields.fields;
        stats = stats.fields;
        persistant = persistant.fields;
        ammo = ammo.fields;
        powerups = powerups.fields;
        are_fields = fields.are;
        are_stats = stats.are;
        are_persistant = persistant.are;
        are_ammo = ammo.are;
        are_powerups = powerups.are;
        whole = refl;
        state = player_parts player _ _ _ _ _ fields.values (values_again arrays player.stats _ is.stats stats.values) (values_again arrays player.persistant _ is.persistant persistant.values) (values_again arrays player.ammo _ is.ammo ammo.values) powerups.values;
      };
    }

-- ---- moves

signed_word : (laws : TextLaws) (z : ℤ) → IsSignedByte z → IsWord (signed_decimal z)
signed_word laws (pos n) fits = decimal_word laws n (omega (arith, ints))
signed_word laws (negsuc n) fits =
    let minus : IsWord (codes "-") = record { no_space = refl; no_newline = refl } in
    word_and (codes "-") (decimal (suc n)) minus (decimal_word laws (suc n) (omega (arith, ints)))

angles_are_words : (laws : TextLaws) (angles : List ℕ) → All (λ angle. angle < 2 ^ 16) angles → AreLineWords (map decimal angles)
angles_are_words laws [] each = tt
angles_are_words laws (angle ∷ angles) each =
    let small = All-head (λ (angle : ℕ). angle < 2 ^ 16) angle angles each in
    (decimal_word laws angle (omega arith), angles_are_words laws angles (All-tail (λ (angle : ℕ). angle < 2 ^ 16) angle angles each))

move_is : (laws : TextLaws) (one : MoveValue) → IsHeldMove one → AreLineWords (move_words one)
move_is laws one held =
    let time = held.time in
    let buttons = held.buttons in
    let weapon = held.weapon in
    words_and (decimal one.time ∷ map decimal one.angles) (signed_decimal one.forward ∷ signed_decimal one.right ∷ signed_decimal one.up ∷ decimal one.buttons ∷ decimal one.weapon ∷ [])
    (decimal_word laws one.time (omega arith), angles_are_words laws one.angles held.angles)
    (signed_word laws one.forward held.forward, (signed_word laws one.right held.right, (signed_word laws one.up held.up, (decimal_word laws one.buttons (omega arith), (decimal_word laws one.weapon (omega arith), tt)))))

-- ---- lines with a last word

-- a number and bytes in hex
hex_prints : (laws : TextLaws) (c : ℕ) (bytes : List ℕ) → c < 2 ^ 64 → All (λ byte. byte < 256) bytes → Prints ((decimal c ++ (codes " " ++ [])) ++ hex_word bytes) (decimal c ∷ hex_word bytes ∷ [])
hex_prints laws c bytes small each =
    let text : (decimal c ++ (codes " " ++ [])) ++ hex_word bytes ≡ decimal c ++ 32 ∷ hex_word bytes = append_assoc (decimal c) (codes " ") (hex_word bytes) in
    rw text (before (decimal c) (hex_word bytes) (hex_word bytes ∷ []) (decimal_word laws c small) (only (hex_word bytes) (hex_text_is_word bytes each)))

-- a number and a name
name_prints : (laws : TextLaws) (c : ℕ) (name : List ℕ) → c < 2 ^ 64 → IsName name → Prints (decimal c ++ (codes " " ++ (name ++ []))) (decimal c ∷ name ∷ [])
name_prints laws c name small is =
    let text : name ++ [] ≡ name = append-nil name in
    before (decimal c) (name ++ []) (name ∷ []) (decimal_word laws c small) (rw text (only name (name_is_word name is.2)))

-- a number and bytes in quotes
quotes_print : (laws : TextLaws) (n : ℕ) (bytes : List ℕ) → n < 2 ^ 64 → All (λ byte. (0 < byte) × (byte < 256)) bytes → Prints (decimal n ++ (codes " " ++ (quoted bytes ++ []))) (decimal n ∷ words_of (quoted bytes))
quotes_print laws n bytes small each =
    let text : quoted bytes ++ [] ≡ quoted bytes = append-nil (quoted bytes) in
    before (decimal n) (quoted bytes ++ []) (words_of (quoted bytes)) (decimal_word laws n small) (rw text (quoted_prints bytes each))

text_bytes : (text : List ℕ) → IsText text → All (λ byte. (0 < byte) × (byte < 256)) text
text_bytes text is = All-weaker IsTextByte (λ byte. (0 < byte) × (byte < 256)) (λ byte b. (let few = b.seven_bits in (b.some, omega arith))) text is.each

text_spelled : (laws : TextLaws) (text : List ℕ) → IsText text → SpellsText (words_of (quoted text)) text
text_spelled laws text is = record { bytes = text; are_bytes = text_bytes text is; becomes = laws.stay text is; whole = refl }

-- ---- addresses

record HasAddress (address : Address) (text : List ℕ) : Type 0 where
  word : List ℕ
  is : IsWord word
  same : text ≡ word
  spelled : SpellsAddress word address

address_groups : (a b c d port : List ℕ) → a ++ (codes "." ++ (b ++ (codes "." ++ (c ++ (codes "." ++ (d ++ (codes ":" ++ (port ++ [])))))))) ≡ a ++ codes "." ++ b ++ codes "." ++ c ++ codes "." ++ d ++ codes ":" ++ port
address_groups a b c d port = simp (append_assoc, append-nil)

address_word : (a b c d port : List ℕ) → IsWord a → IsWord b → IsWord c → IsWord d → IsWord port → IsWord (a ++ codes "." ++ b ++ codes "." ++ c ++ codes "." ++ d ++ codes ":" ++ port)
address_word a b c d port is_a is_b is_c is_d is_port =
    let dot : IsWord (codes ".") = record { no_space = refl; no_newline = refl } in
    let colon : IsWord (codes ":") = record { no_space = refl; no_newline = refl } in
    word_and _ port (word_and _ (codes ":") (word_and _ d (word_and _ (codes ".") (word_and _ c (word_and _ (codes ".") (word_and _ b (word_and a (codes ".") is_a dot) is_b) dot) is_c) dot) is_d) colon) is_port

address_is : (laws : TextLaws) (address : Address) → address.host < 2 ^ 32 → address.port < 2 ^ 16
    → HasAddress address (decimal (address.host / 16777216) ++ (codes "." ++ (decimal (address.host / 65536 % 256) ++ (codes "." ++ (decimal (address.host / 256 % 256) ++ (codes "." ++ (decimal (address.host % 256) ++ (codes ":" ++ (decimal address.port ++ [])))))))))
address_is laws address small small' =
    let a = address.host / 16777216 in
    let b = address.host / 65536 % 256 in
    let c = address.host / 256 % 256 in
    let d = address.host % 256 in
    record {
      word = decimal a ++ codes "." ++ decimal b ++ codes "." ++ decimal c ++ codes "." ++ decimal d ++ codes ":" ++ decimal address.port;
      is = address_word (decimal a) (decimal b) (decimal c) (decimal d) (decimal address.port) (decimal_word laws a (omega arith)) (decimal_word laws b (omega arith)) (decimal_word laws c (omega arith)) (decimal_word laws d (omega arith)) (decimal_word laws address.port (omega arith));
      same = address_groups (decimal a) (decimal b) (decimal c) (decimal d) (decimal address.port);
      spelled = record { a = a; b = b; c = c; d = d; bytes = (omega arith, omega arith, omega arith, omega arith); host = omega arith; whole = refl };
    }

client_prints : (laws : TextLaws) (c challenge qport dup : ℕ) (text word : List ℕ) → c < 2 ^ 64 → challenge < 2 ^ 64 → qport < 2 ^ 64 → dup < 2 ^ 64 → text ≡ word → IsWord word
    → Prints (codes "client " ++ (decimal c ++ (codes " " ++ (decimal challenge ++ (codes " " ++ (decimal qport ++ (codes " " ++ (decimal dup ++ (codes " " ++ text))))))))) (codes "client" ∷ decimal c ∷ decimal challenge ∷ decimal qport ∷ decimal dup ∷ word ∷ [])
client_prints laws c challenge qport dup text word small small' small'' small''' same is =
    let letters : IsWord (codes "client") = record { no_space = refl; no_newline = refl } in
    rw same (before (codes "client") _ _ letters (before (decimal c) _ _ (decimal_word laws c small) (before (decimal challenge) _ _ (decimal_word laws challenge small') (before (decimal qport) _ _ (decimal_word laws qport small'')
    (before (decimal dup) _ _ (decimal_word laws dup small''') (only word is))))))

-- ---- events

-- a number after a word
number_row : (laws : TextLaws) (n : ℕ) → n < 2 ^ 64 → AreLineWords (decimal n ∷ [])
number_row laws n small = (decimal_word laws n small, tt)

is_printed : (arrays : ArraysAreKept) (laws : TextLaws) (event : Event) → IsReplayEvent event → IsPrinted event
is_printed arrays laws (Client c challenge qport dup address) is =
    let found = address_is laws address is.6 is.5 in
    record {
      words = codes "client" ∷ decimal c ∷ decimal challenge ∷ decimal qport ∷ decimal dup ∷ found.word ∷ [];
      prints = client_prints laws c challenge qport dup _ found.word (omega arith) (omega arith) (omega arith) (omega arith) found.same found.is;
      has = (found.word, found.spelled, refl);
    }
is_printed arrays laws (Port c port) is = record { words = codes "port" ∷ decimal c ∷ decimal port ∷ []; prints = row (codes "port") (decimal c ∷ decimal port ∷ []) (record { no_space = refl; no_newline = refl }) (decimal_word laws c (omega arith), (decimal_word laws port (omega arith), tt)); has = refl }
is_printed arrays laws (Map id feed) is = record { words = codes "map" ∷ decimal id ∷ decimal feed ∷ []; prints = row (codes "map") (decimal id ∷ decimal feed ∷ []) (record { no_space = refl; no_newline = refl }) (decimal_word laws id (omega arith), (decimal_word laws feed (omega arith), tt)); has = refl }
is_printed arrays laws (Entity state) is =
    let found = state_is arrays laws state (omega arith) is.1 in
    record {
      words = codes "entity" ∷ decimal state.number ∷ found.fields;
      prints = subst (λ (text : List ℕ). Prints (codes "entity " ++ text) (codes "entity" ∷ decimal state.number ∷ found.fields)) (sym found.text) (row (codes "entity") (decimal state.number ∷ found.fields) (record { no_space = refl; no_newline = refl }) found.are);
      has = (found.fields, found.spelled, refl);
    }
is_printed arrays laws (Remove number) is = record { words = codes "remove" ∷ decimal number ∷ []; prints = row (codes "remove") (decimal number ∷ []) (record { no_space = refl; no_newline = refl }) (number_row laws number (omega arith)); has = refl }
is_printed arrays laws (Baseline state) is =
    let found = state_is arrays laws state (omega arith) is.2 in
    record {
      words = codes "baseline" ∷ decimal state.number ∷ found.fields;
      prints = subst (λ (text : List ℕ). Prints (codes "baseline " ++ text) (codes "baseline" ∷ decimal state.number ∷ found.fields)) (sym found.text) (row (codes "baseline") (decimal state.number ∷ found.fields) (record { no_space = refl; no_newline = refl }) found.are);
      has = (found.fields, found.spelled, refl);
    }
is_printed arrays laws (Player c player) is =
    let found = player_is arrays laws c player (omega arith) is.1 in
    record {
      words = codes "player" ∷ decimal c ∷ found.fields;
      prints = subst (λ (text : List ℕ). Prints (codes "player " ++ text) (codes "player" ∷ decimal c ∷ found.fields)) (sym found.text) (row (codes "player") (decimal c ∷ found.fields) (record { no_space = refl; no_newline = refl }) found.are);
      has = (found.fields, found.spelled, refl);
    }
is_printed arrays laws (Area c area) is = record { words = codes "area" ∷ decimal c ∷ hex_word area.items ∷ []; prints = before (codes "area") _ _ (record { no_space = refl; no_newline = refl }) (hex_prints laws c area.items (omega arith) is.2); has = (hex_word area.items, refl, refl) }
is_printed arrays laws (Time time) is = record { words = codes "time" ∷ decimal time ∷ []; prints = row (codes "time") (decimal time ∷ []) (record { no_space = refl; no_newline = refl }) (number_row laws time (omega arith)); has = refl }
is_printed arrays laws (Config index text) is =
    record {
      words = codes "config" ∷ decimal index ∷ words_of (quoted text);
      prints = before (codes "config") _ _ (record { no_space = refl; no_newline = refl }) (quotes_print laws index text (omega arith) is.2);
      has = (words_of (quoted text), record { are_bytes = is.2; whole = refl }, refl);
    }
is_printed arrays laws (Say c text) is =
    record {
      words = codes "say" ∷ decimal c ∷ words_of (quoted text);
      prints = before (codes "say") _ _ (record { no_space = refl; no_newline = refl }) (quotes_print laws c text (omega arith) (text_bytes text is.1));
      has = (words_of (quoted text), text_spelled laws text is.1, refl);
    }
is_printed arrays laws (TypeText c text) is =
    record {
      words = codes "type" ∷ decimal c ∷ words_of (quoted text);
      prints = before (codes "type") _ _ (record { no_space = refl; no_newline = refl }) (quotes_print laws c text (omega arith) (text_bytes text is.1));
      has = (words_of (quoted text), text_spelled laws text is.1, refl);
    }
is_printed arrays laws (Move c one) is =
    let text = in_front c (spaced (move_words one)) (move_words one) refl in
    record {
      words = codes "move" ∷ decimal c ∷ move_words one;
      prints = subst (λ (text : List ℕ). Prints (codes "move " ++ text) (codes "move" ∷ decimal c ∷ move_words one)) (sym text) (row (codes "move") (decimal c ∷ move_words one) (record { no_space = refl; no_newline = refl }) (decimal_word laws c (omega arith), move_is laws one is.1));
      has = refl;
    }
is_printed arrays laws (Serve c) is = record { words = codes "serve" ∷ decimal c ∷ []; prints = row (codes "serve") (decimal c ∷ []) (record { no_space = refl; no_newline = refl }) (number_row laws c (omega arith)); has = refl }
is_printed arrays laws (Send c) is = record { words = codes "send" ∷ decimal c ∷ []; prints = row (codes "send") (decimal c ∷ []) (record { no_space = refl; no_newline = refl }) (number_row laws c (omega arith)); has = refl }
is_printed arrays laws (Deliver datagram) is = record { words = codes "deliver" ∷ decimal datagram ∷ []; prints = row (codes "deliver") (decimal datagram ∷ []) (record { no_space = refl; no_newline = refl }) (number_row laws datagram (omega arith)); has = refl }
is_printed arrays laws (RecordTo c name) is = record { words = codes "record" ∷ decimal c ∷ name ∷ []; prints = before (codes "record") _ _ (record { no_space = refl; no_newline = refl }) (name_prints laws c name (omega arith) is.1); has = refl }
is_printed arrays laws (Stop c) is = record { words = codes "stop" ∷ decimal c ∷ []; prints = row (codes "stop") (decimal c ∷ []) (record { no_space = refl; no_newline = refl }) (number_row laws c (omega arith)); has = refl }
is_printed arrays laws (Show c) is = record { words = codes "show" ∷ decimal c ∷ []; prints = row (codes "show") (decimal c ∷ []) (record { no_space = refl; no_newline = refl }) (number_row laws c (omega arith)); has = refl }
is_printed arrays laws (Bytes datagram) is = record { words = codes "bytes" ∷ decimal datagram ∷ []; prints = row (codes "bytes") (decimal datagram ∷ []) (record { no_space = refl; no_newline = refl }) (number_row laws datagram (omega arith)); has = refl }
is_printed arrays laws (Toclient c bytes) is = record { words = codes "toclient" ∷ decimal c ∷ hex_word bytes ∷ []; prints = before (codes "toclient") _ _ (record { no_space = refl; no_newline = refl }) (hex_prints laws c bytes (omega arith) is.2); has = (hex_word bytes, refl, refl) }
is_printed arrays laws (Toserver c bytes) is = record { words = codes "toserver" ∷ decimal c ∷ hex_word bytes ∷ []; prints = before (codes "toserver") _ _ (record { no_space = refl; no_newline = refl }) (hex_prints laws c bytes (omega arith) is.2); has = (hex_word bytes, refl, refl) }
is_printed arrays laws (At ms) is = absurd is
is_printed arrays laws (End ms) is = absurd is

-- a line whose first byte is no `#` isn't passed over
first_other : (text : List ℕ) (first : ℕ) (rest : List ℕ) → text ≡ first ∷ rest → eqb first 35 ≡ false → is_passed_over text ≡ false
first_other text first rest e other =
    let some : eqb (length (first ∷ rest)) 0 ≡ false = ne_eqb (length (first ∷ rest)) 0 (λ none. absurd (omega arith)) in
    rw (e, some, other) refl

-- no line of an event is passed over
is_read : (event : Event) → is_passed_over (event_text event) ≡ false
is_read (Client c challenge qport dup address) = first_other (event_text (Client c challenge qport dup address)) _ _ refl refl
is_read (Port c port) = first_other (event_text (Port c port)) _ _ refl refl
is_read (Map id feed) = first_other (event_text (Map id feed)) _ _ refl refl
is_read (Entity state) = first_other (event_text (Entity state)) _ _ refl refl
is_read (Remove number) = first_other (event_text (Remove number)) _ _ refl refl
is_read (Baseline state) = first_other (event_text (Baseline state)) _ _ refl refl
is_read (Player c player) = first_other (event_text (Player c player)) _ _ refl refl
is_read (Area c area) = first_other (event_text (Area c area)) _ _ refl refl
is_read (Time time) = first_other (event_text (Time time)) _ _ refl refl
is_read (Config index text) = first_other (event_text (Config index text)) _ _ refl refl
is_read (Say c text) = first_other (event_text (Say c text)) _ _ refl refl
is_read (TypeText c text) = first_other (event_text (TypeText c text)) _ _ refl refl
is_read (Move c one) = first_other (event_text (Move c one)) _ _ refl refl
is_read (Serve c) = first_other (event_text (Serve c)) _ _ refl refl
is_read (Send c) = first_other (event_text (Send c)) _ _ refl refl
is_read (Deliver datagram) = first_other (event_text (Deliver datagram)) _ _ refl refl
is_read (RecordTo c name) = first_other (event_text (RecordTo c name)) _ _ refl refl
is_read (Stop c) = first_other (event_text (Stop c)) _ _ refl refl
is_read (Show c) = first_other (event_text (Show c)) _ _ refl refl
is_read (Bytes datagram) = first_other (event_text (Bytes datagram)) _ _ refl refl
is_read (Toclient c bytes) = first_other (event_text (Toclient c bytes)) _ _ refl refl
is_read (Toserver c bytes) = first_other (event_text (Toserver c bytes)) _ _ refl refl
is_read (At ms) = first_other (event_text (At ms)) _ _ refl refl
is_read (End ms) = first_other (event_text (End ms)) _ _ refl refl

-- ---- lines

-- the first line, and those after it
lines_are : (event : Event) (events : List Event) → IsPrinted event → lines_of (script_text (event ∷ events)) ≡ event_text event ∷ lines_of (script_text events)
lines_are event events printed =
    ap lines_of (append_assoc (event_text event) (codes "\n") (script_text events))
    ∙ slice_split_at (λ x. eqb x 10) (event_text event) 10 (script_text events) (without 10 (event_text event) printed.prints.one_line) refl

spelled_by : (line : List ℕ) (lines : List (List ℕ)) (event : Event) (events : List Event) → is_passed_over line ≡ false → SpellsEvent Replay (words_of line) event → SpellEvents Replay lines events → SpellEvents Replay (line ∷ lines) (event ∷ events)
spelled_by line lines event events read spelled others = rw read (spelled, others)

lines_spell : (arrays : ArraysAreKept) (laws : TextLaws) (events : List Event) → All IsReplayEvent events → SpellEvents Replay (lines_of (script_text events)) events
lines_spell arrays laws [] each = refl
lines_spell arrays laws (event ∷ events) each =
    let is = All-head IsReplayEvent event events each in
    let printed = is_printed arrays laws event is in
    let others = lines_spell arrays laws events (All-tail IsReplayEvent event events each) in
    subst (λ (lines : List (List ℕ)). SpellEvents Replay lines (event ∷ events)) (sym (lines_are event events printed))
    (spelled_by (event_text event) (lines_of (script_text events)) event events (is_read event)
    (record { event_of = is; whole = subst (λ (words : List (List ℕ)). HasWords words event) (sym printed.prints.cut) printed.has }) others)

-- what is printed spells the same events
pub printed_is_spelled : (arrays : ArraysAreKept) (laws : TextLaws) (events : List Event) → All IsReplayEvent events → length events ≤ most_events → length (script_text events) ≤ longest_script → SpellsScript Replay (script_text events) events
printed_is_spelled arrays laws events each few small = record { small = small; few = few; spelled = lines_spell arrays laws events each; ordered = tt }
