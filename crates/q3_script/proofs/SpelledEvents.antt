-- The words of a line against the grammar of events: what is read was spelled so, and what is spelled so is read.
use Rattle.std.proofs.Common.{◌≡◌, ℕ, ◌^◌, ◌%◌, ◌<◌, ◌≤◌, true, eqb, List, [], ◌∷◌, length, set, replicate, slice_index_or, take, drop, Some, Result, Ok, Err, ◌⊎◌, inl, inr, refl, sym, ap, subst, ◌∙◌, arith}
use Rattle.std.specs.Prelude.{codes, All}
use Rattle.std.specs.Fmt.{decimal}
use Rattle.std.specs.List.{position_or_len}
use Rattle.std.specs.Option.{ok_or}
use Rattle.std.specs.Str.{bytes_eq}
use Rattle.std.specs.Int.{w16, cast_signed}
use mir.Val.{SFits}
use Rattle.std.proofs.Math.Facts.{sfits_to_z}
use Rattle.std.proofs.lemmas.Bool.{cases_Bool}
use Rattle.std.proofs.lemmas.Int.{ints}
use Rattle.std.proofs.lemmas.List.{length-map, length-set, length-replicate}
use Rattle.std.proofs.lemmas.List.Elements.{All-head, All-tail, All-set, All-map, All-replicate}
use Rattle.std.proofs.lemmas.Slice.Eq.{bytes_eq-Decides}
use Rattle.q3_clmsg.specs.Report.{move_words}
use Rattle.q3_fields.specs.Places.{Change, with_changes}
use Rattle.q3_fields.specs.States.{AreWords}
use Rattle.q3_player.specs.State.{IsShort, AreShorts, IsState, shorts_of}
use Rattle.q3_entity.specs.declared.state.EntityState.{EntityState}
use Rattle.q3_player.specs.declared.state.PlayerState.{PlayerState}
use Rattle.q3_io.specs.declared.address.Address.{Address}
use Rattle.q3_script.specs.declared.event.Event.{Event}
use Rattle.q3_script.specs.declared.event.Event.TheVariants.{Client, Port, Map, Entity, Remove, Baseline, Player, Area, Time, Config, Say, TypeText, Move, Serve, Send, Deliver, RecordTo, Stop, Show, Bytes, Toclient, Toserver, At, End}
use Rattle.q3_words.specs.declared.cause.LineCause.{LineCause}
use Rattle.q3_words.specs.declared.cause.LineCause.TheVariants as causes
use Rattle.q3_script.specs.declared.cause.ScriptKind.{ScriptKind}
use Rattle.q3_script.specs.declared.cause.ScriptKind.TheVariants as kinds
use Rattle.q3_bits.specs.ResultBind.{◌>>=◌}
use Rattle.q3_bits.proofs.Binds.{bind_ok}
use Rattle.q3_words.specs.Words.{words_of, words_left}
use Rattle.q3_words.specs.Addresses.{address_at, SpellsAddress}
use Rattle.q3_words.specs.Hex.{most_handed, area_at, handed_at, SpellsHex}
use Rattle.q3_words.specs.Names.{name_at}
use Rattle.q3_words.specs.Fields.{values_of, player_of, entity_at, player_at, AreFields, SpellsEntity, SpellsPlayer}
use Rattle.q3_words.specs.Numbers.{last_client, last_entity, number_word, entity_word, client_word}
use Rattle.q3_script.specs.Lines.{only_number, last_datagram, last_time, client_line, port_line, map_line, entity_line, remove_line, baseline_line, player_line, area_line, time_line, config_line, say_line, type_line, move_line, serve_line, send_line, deliver_line, record_at, record_line, stop_line, show_line, bytes_line, hand_at, toclient_line, toserver_line, at_line, end_line, Table, line_in, lines_taken, line_at}
use Rattle.q3_script.specs.Grammar.{SpellsEvent, IsInRange, IsEventOf, HasWords}
use Rattle.q3_script.proofs.SpelledLines.{IsLine}
use Rattle.q3_words.specs.Laws.{AreLeft, WordLaws}
use Rattle.q3_script.proofs.Values.{done, ok_is, ok_or-ok}
use Rattle.q3_script.proofs.SpelledCommands.{config_line-spelled, config_at-again, command_at-again, say_line-spelled, type_line-spelled}
use Rattle.q3_script.proofs.SpelledMoves.{move_line-spelled, move_line-again}

-- a refusal
abbrev refuse : LineCause → Result Event LineCause
refuse cause = Err cause

-- ---- entities and players

-- changes put over values keep their number
length-with_changes : (values : List ℕ) (changes : List Change) → length (with_changes values changes) ≡ length values
unfolding with_changes
length-with_changes values [] = refl
length-with_changes values (change ∷ others) = length-with_changes (set values change.0 change.1) others ∙ length-set values change.0 change.1

-- words of 32 bits put over such words are such words
with_changes-each : (values : List ℕ) (changes : List Change) → All (λ change. change.1 < 2 ^ 32) changes → All (λ word. word < 2 ^ 32) values → All (λ word. word < 2 ^ 32) (with_changes values changes)
unfolding with_changes
with_changes-each values [] small each = each
with_changes-each values (change ∷ others) small each =
    with_changes-each (set values change.0 change.1) others (All-tail (λ (change : Change). change.1 < 2 ^ 32) change others small)
    (All-set (λ word. word < 2 ^ 32) values change.0 change.1 (All-head (λ (change : Change). change.1 < 2 ^ 32) change others small) each)

-- so many zeros, with fields put over them
words_are : (count : ℕ) (fields : List Change) → AreFields count 0 fields → AreWords count (with_changes (replicate count 0) fields)
words_are count fields are = record {
  count = length-with_changes (replicate count 0) fields ∙ length-replicate count 0;
  each = with_changes-each (replicate count 0) fields are.1 (All-replicate (λ word. word < 2 ^ 32) count 0 (omega arith));
}

-- the words of an entity that is spelled are such words
entity_words : (words : List (List ℕ)) (entity : EntityState) → SpellsEntity words entity → AreWords 64 entity.words
entity_words words entity spelled = subst (AreWords 64) (sym spelled.state) (words_are 64 spelled.fields spelled.are_fields)

-- a word as a signed value of 16 bits
short_is : (word : ℕ) → IsShort (cast_signed w16 (word % 2 ^ 16))
short_is word =
    let fits : SFits w16 (cast_signed w16 (word % 2 ^ 16)) = sfits_to_z (omega arith) in
    (omega (arith, ints), omega (arith, ints))

-- sixteen words, as signed values
shorts_are : (words : List ℕ) → length words ≡ 16 → AreShorts (shorts_of words)
shorts_are words size = record {
  count = length-map words (λ word. cast_signed w16 (word % 2 ^ 16)) ∙ size;
  each = All-map IsShort (λ word. cast_signed w16 (word % 2 ^ 16)) words (λ k d l. short_is (slice_index_or words k d));
}

-- a player that is spelled is a state as the program's type holds it
is_state : (words : List (List ℕ)) (player : PlayerState) → SpellsPlayer words player → IsState player
is_state words player spelled =
    let state : IsState (player_of spelled.fields spelled.stats spelled.persistant spelled.ammo spelled.powerups) = record {
      words = words_are 64 spelled.fields spelled.are_fields;
      stats = shorts_are (values_of 16 spelled.stats) (length-with_changes (replicate 16 0) spelled.stats);
      persistant = shorts_are (values_of 16 spelled.persistant) (length-with_changes (replicate 16 0) spelled.persistant);
      ammo = shorts_are (values_of 16 spelled.ammo) (length-with_changes (replicate 16 0) spelled.ammo);
      powerups = words_are 16 spelled.powerups spelled.are_powerups;
    } in
    subst IsState (sym spelled.state) state

-- ---- lines

-- the host of an address that is spelled has 32 bits
host_small : (word : List ℕ) (address : Address) → SpellsAddress word address → address.host < 2 ^ 32
host_small word address spelled =
    let bytes = spelled.bytes in
    let host = spelled.host in
    let a = bytes.0 in
    let b = bytes.1 in
    let c = bytes.2 in
    let d = bytes.3 in
    omega arith

-- the five words of a client, each read
client_from : (laws : WordLaws) (c challenge qport dup last : List ℕ) (c' challenge' qport' dup' : ℕ) (address : Address) → client_word c ≡ Ok c' → number_word 0 4294967295 challenge ≡ Ok challenge' → number_word 0 65535 qport ≡ Ok qport' → number_word 0 5 dup ≡ Ok dup' → address_at last ≡ Some address
    → IsLine (codes "client" ∷ c ∷ challenge ∷ qport ∷ dup ∷ last ∷ []) (Client c' challenge' qport' dup' address)
client_from laws c challenge qport dup last c' challenge' qport' dup' address c_read challenge_read qport_read dup_read address_read =
    let c_is = laws.numbers.spelled 0 last_client c c' (omega arith) c_read in
    let challenge_is = laws.numbers.spelled 0 4294967295 challenge challenge' (omega arith) challenge_read in
    let qport_is = laws.numbers.spelled 0 65535 qport qport' (omega arith) qport_read in
    let dup_is = laws.numbers.spelled 0 5 dup dup' (omega arith) dup_read in
    let address_is = laws.addresses.spelled last address address_read in
    record {
      in_range = (omega arith, omega arith, omega arith, omega arith, address_is.least, address_is.most, host_small last address address_is.spelled);
      whole = (last, address_is.spelled, rw (c_is.2, challenge_is.2, qport_is.2, dup_is.2) refl);
    }

-- what is read of each line was spelled so
client_line-spelled : (laws : WordLaws) (words : List (List ℕ)) (event : Event) → client_line words ≡ Ok event → IsLine (codes "client" ∷ words) event
unfolding client_line
client_line-spelled laws [] event e = absurd cc
client_line-spelled laws (c ∷ []) event e = absurd cc
client_line-spelled laws (c ∷ challenge ∷ []) event e = absurd cc
client_line-spelled laws (c ∷ challenge ∷ qport ∷ []) event e = absurd cc
client_line-spelled laws (c ∷ challenge ∷ qport ∷ dup ∷ []) event e = absurd cc
client_line-spelled laws (c ∷ challenge ∷ qport ∷ dup ∷ last ∷ []) event e =
    let c' = bind_ok (client_word c) (λ c'. number_word 0 4294967295 challenge >>= λ challenge'. number_word 0 65535 qport >>= λ qport'. number_word 0 5 dup >>= λ dup'. ok_or (address_at last) causes.Address >>= λ address. Ok (Client c' challenge' qport' dup' address)) event e in
    let challenge' = bind_ok (number_word 0 4294967295 challenge) (λ challenge'. number_word 0 65535 qport >>= λ qport'. number_word 0 5 dup >>= λ dup'. ok_or (address_at last) causes.Address >>= λ address. Ok (Client c'.0 challenge' qport' dup' address)) event c'.2 in
    let qport' = bind_ok (number_word 0 65535 qport) (λ qport'. number_word 0 5 dup >>= λ dup'. ok_or (address_at last) causes.Address >>= λ address. Ok (Client c'.0 challenge'.0 qport' dup' address)) event challenge'.2 in
    let dup' = bind_ok (number_word 0 5 dup) (λ dup'. ok_or (address_at last) causes.Address >>= λ address. Ok (Client c'.0 challenge'.0 qport'.0 dup' address)) event qport'.2 in
    let address = bind_ok (ok_or (address_at last) causes.Address) (λ address. Ok (Client c'.0 challenge'.0 qport'.0 dup'.0 address)) event dup'.2 in
    subst (λ (x : Event). IsLine (codes "client" ∷ c ∷ challenge ∷ qport ∷ dup ∷ last ∷ []) x) (ok_is (Client c'.0 challenge'.0 qport'.0 dup'.0 address.0) event address.2)
    (client_from laws c challenge qport dup last c'.0 challenge'.0 qport'.0 dup'.0 address.0 c'.1 challenge'.1 qport'.1 dup'.1 (ok_or-ok (address_at last) causes.Address address.0 address.1))
client_line-spelled laws (c ∷ challenge ∷ qport ∷ dup ∷ address ∷ other ∷ others) event e = absurd cc

-- the two words of a port, each read
port_from : (laws : WordLaws) (word last : List ℕ) (c port : ℕ) → client_word word ≡ Ok c → number_word 1 65535 last ≡ Ok port → IsLine (codes "port" ∷ word ∷ last ∷ []) (Port c port)
port_from laws word last c port c_read port_read =
    let c_is = laws.numbers.spelled 0 last_client word c (omega arith) c_read in
    let port_is = laws.numbers.spelled 1 65535 last port (omega arith) port_read in
    record { in_range = (c_is.1, port_is.0, omega arith); whole = rw (c_is.2, port_is.2) refl }

port_line-spelled : (laws : WordLaws) (words : List (List ℕ)) (event : Event) → port_line words ≡ Ok event → IsLine (codes "port" ∷ words) event
unfolding port_line
port_line-spelled laws [] event e = absurd cc
port_line-spelled laws (word ∷ []) event e = absurd cc
port_line-spelled laws (word ∷ last ∷ []) event e =
    let c = bind_ok (client_word word) (λ c. number_word 1 65535 last >>= λ port. Ok (Port c port)) event e in
    let port = bind_ok (number_word 1 65535 last) (λ port. Ok (Port c.0 port)) event c.2 in
    subst (λ (x : Event). IsLine (codes "port" ∷ word ∷ last ∷ []) x) (ok_is (Port c.0 port.0) event port.2) (port_from laws word last c.0 port.0 c.1 port.1)
port_line-spelled laws (word ∷ last ∷ other ∷ others) event e = absurd cc

-- the two words of a map, each read
map_from : (laws : WordLaws) (word last : List ℕ) (id feed : ℕ) → number_word 1 2147483647 word ≡ Ok id → number_word 0 4294967295 last ≡ Ok feed → IsLine (codes "map" ∷ word ∷ last ∷ []) (Map id feed)
map_from laws word last id feed id_read feed_read =
    let id_is = laws.numbers.spelled 1 2147483647 word id (omega arith) id_read in
    let feed_is = laws.numbers.spelled 0 4294967295 last feed (omega arith) feed_read in
    record { in_range = (id_is.0, omega arith, omega arith); whole = rw (id_is.2, feed_is.2) refl }

map_line-spelled : (laws : WordLaws) (words : List (List ℕ)) (event : Event) → map_line words ≡ Ok event → IsLine (codes "map" ∷ words) event
unfolding map_line
map_line-spelled laws [] event e = absurd cc
map_line-spelled laws (word ∷ []) event e = absurd cc
map_line-spelled laws (word ∷ last ∷ []) event e =
    let id = bind_ok (number_word 1 2147483647 word) (λ id. number_word 0 4294967295 last >>= λ feed. Ok (Map id feed)) event e in
    let feed = bind_ok (number_word 0 4294967295 last) (λ feed. Ok (Map id.0 feed)) event id.2 in
    subst (λ (x : Event). IsLine (codes "map" ∷ word ∷ last ∷ []) x) (ok_is (Map id.0 feed.0) event feed.2) (map_from laws word last id.0 feed.0 id.1 feed.1)
map_line-spelled laws (word ∷ last ∷ other ∷ others) event e = absurd cc

entity_line-spelled : (laws : WordLaws) (words : List (List ℕ)) (event : Event) → entity_line words ≡ Ok event → IsLine (codes "entity" ∷ words) event
unfolding entity_line
entity_line-spelled laws [] event e = absurd cc
entity_line-spelled laws (word ∷ words) event e =
    let number = bind_ok (entity_word word) (λ number. entity_at number words >>= λ state. Ok (Entity state)) event e in
    let state = bind_ok (entity_at number.0 words) (λ state. Ok (Entity state)) event number.2 in
    let is = laws.numbers.spelled 0 last_entity word number.0 (omega arith) number.1 in
    let was = laws.entities.spelled number.0 words state.0 state.1 in
    let same = was.is in
    subst (λ (x : Event). IsLine (codes "entity" ∷ word ∷ words) x) (ok_is (Entity state.0) event state.2)
    (record { in_range = (omega arith, entity_words words state.0 was.spelled); whole = (words, was.spelled, ap (λ (w : List ℕ). codes "entity" ∷ w ∷ words) (is.2 ∙ ap decimal (sym same))) })

-- a line of one number
number_line-spelled : (laws : WordLaws) (first : List ℕ) (low high : ℕ) (make : ℕ → Event) → high < 2 ^ 64 → ((n : ℕ) → low ≤ n → n ≤ high → IsLine (first ∷ decimal n ∷ []) (make n))
    → (words : List (List ℕ)) (event : Event) → (only_number low high words >>= λ n. Ok (make n)) ≡ Ok event → IsLine (first ∷ words) event
unfolding only_number
number_line-spelled laws first low high make small line [] event e = absurd cc
number_line-spelled laws first low high make small line (word ∷ []) event e =
    let n = bind_ok (number_word low high word) (λ n. Ok (make n)) event e in
    let is = laws.numbers.spelled low high word n.0 small n.1 in
    subst (λ (x : Event). IsLine (first ∷ word ∷ []) x) (ok_is (make n.0) event n.2)
    (subst (λ (w : List ℕ). IsLine (first ∷ w ∷ []) (make n.0)) (sym is.2) (line n.0 is.0 is.1))
number_line-spelled laws first low high make small line (word ∷ other ∷ others) event e = absurd cc

remove_line-spelled : (laws : WordLaws) (words : List (List ℕ)) (event : Event) → remove_line words ≡ Ok event → IsLine (codes "remove" ∷ words) event
unfolding remove_line
remove_line-spelled laws words event e = number_line-spelled laws (codes "remove") 0 last_entity Remove (omega arith) (λ n low high. record { in_range = high; whole = refl }) words event e

baseline_line-spelled : (laws : WordLaws) (words : List (List ℕ)) (event : Event) → baseline_line words ≡ Ok event → IsLine (codes "baseline" ∷ words) event
unfolding baseline_line
baseline_line-spelled laws [] event e = absurd cc
baseline_line-spelled laws (word ∷ words) event e =
    let number = bind_ok (number_word 1 last_entity word) (λ number. entity_at number words >>= λ state. Ok (Baseline state)) event e in
    let state = bind_ok (entity_at number.0 words) (λ state. Ok (Baseline state)) event number.2 in
    let is = laws.numbers.spelled 1 last_entity word number.0 (omega arith) number.1 in
    let was = laws.entities.spelled number.0 words state.0 state.1 in
    let same = was.is in
    subst (λ (x : Event). IsLine (codes "baseline" ∷ word ∷ words) x) (ok_is (Baseline state.0) event state.2)
    (record { in_range = (omega arith, omega arith, entity_words words state.0 was.spelled); whole = (words, was.spelled, ap (λ (w : List ℕ). codes "baseline" ∷ w ∷ words) (is.2 ∙ ap decimal (sym same))) })

player_line-spelled : (laws : WordLaws) (words : List (List ℕ)) (event : Event) → player_line words ≡ Ok event → IsLine (codes "player" ∷ words) event
unfolding player_line
player_line-spelled laws [] event e = absurd cc
player_line-spelled laws (word ∷ words) event e =
    let c = bind_ok (client_word word) (λ c. player_at words >>= λ player. Ok (Player c player)) event e in
    let player = bind_ok (player_at words) (λ player. Ok (Player c.0 player)) event c.2 in
    let is = laws.numbers.spelled 0 last_client word c.0 (omega arith) c.1 in
    let spelled = laws.players.spelled words player.0 player.1 in
    subst (λ (x : Event). IsLine (codes "player" ∷ word ∷ words) x) (ok_is (Player c.0 player.0) event player.2)
    (record { in_range = (omega arith, is_state words player.0 spelled); whole = (words, spelled, ap (λ (w : List ℕ). codes "player" ∷ w ∷ words) is.2) })

area_line-spelled : (laws : WordLaws) (words : List (List ℕ)) (event : Event) → area_line words ≡ Ok event → IsLine (codes "area" ∷ words) event
unfolding area_line
area_line-spelled laws [] event e = absurd cc
area_line-spelled laws (word ∷ []) event e = absurd cc
area_line-spelled laws (word ∷ last ∷ []) event e =
    let c = bind_ok (client_word word) (λ c. ok_or (area_at last) causes.Number >>= λ area. Ok (Area c area)) event e in
    let area = bind_ok (ok_or (area_at last) causes.Number) (λ area. Ok (Area c.0 area)) event c.2 in
    let is = laws.numbers.spelled 0 last_client word c.0 (omega arith) c.1 in
    let were = laws.areas.spelled last area.0 (ok_or-ok (area_at last) causes.Number area.0 area.1) in
    subst (λ (x : Event). IsLine (codes "area" ∷ word ∷ last ∷ []) x) (ok_is (Area c.0 area.0) event area.2)
    (record { in_range = (omega arith, were.few, were.each); whole = (last, were.spelled, ap (λ (w : List ℕ). codes "area" ∷ w ∷ last ∷ []) is.2) })
area_line-spelled laws (word ∷ last ∷ other ∷ others) event e = absurd cc

time_line-spelled : (laws : WordLaws) (words : List (List ℕ)) (event : Event) → time_line words ≡ Ok event → IsLine (codes "time" ∷ words) event
unfolding time_line
time_line-spelled laws words event e = number_line-spelled laws (codes "time") 0 4294967295 Time (omega arith) (λ n low high. record { in_range = omega (arith, high); whole = refl }) words event e

serve_line-spelled : (laws : WordLaws) (words : List (List ℕ)) (event : Event) → serve_line words ≡ Ok event → IsLine (codes "serve" ∷ words) event
unfolding serve_line
serve_line-spelled laws words event e = number_line-spelled laws (codes "serve") 0 last_client Serve (omega arith) (λ n low high. record { in_range = high; whole = refl }) words event e

send_line-spelled : (laws : WordLaws) (words : List (List ℕ)) (event : Event) → send_line words ≡ Ok event → IsLine (codes "send" ∷ words) event
unfolding send_line
send_line-spelled laws words event e = number_line-spelled laws (codes "send") 0 last_client Send (omega arith) (λ n low high. record { in_range = high; whole = refl }) words event e

deliver_line-spelled : (laws : WordLaws) (words : List (List ℕ)) (event : Event) → deliver_line words ≡ Ok event → IsLine (codes "deliver" ∷ words) event
unfolding deliver_line
deliver_line-spelled laws words event e = number_line-spelled laws (codes "deliver") 1 last_datagram Deliver (omega arith) (λ n low high. record { in_range = (low, high); whole = refl }) words event e

-- the two words of a recording, each read
record_from : (laws : WordLaws) (word last : List ℕ) (c : ℕ) (name : List ℕ) → client_word word ≡ Ok c → name_at last ≡ Some name → IsLine (codes "record" ∷ word ∷ last ∷ []) (RecordTo c name)
record_from laws word last c name c_read name_read =
    let c_is = laws.numbers.spelled 0 last_client word c (omega arith) c_read in
    let was = laws.names.spelled last name name_read in
    record { in_range = (c_is.1, was.is); whole = rw (c_is.2, was.same) refl }

record_at-spelled : (laws : WordLaws) (words : List (List ℕ)) (to : ℕ × List ℕ) → record_at words ≡ Ok to → IsLine (codes "record" ∷ words) (RecordTo to.0 to.1)
unfolding record_at
record_at-spelled laws [] to e = absurd cc
record_at-spelled laws (word ∷ []) to e = absurd cc
record_at-spelled laws (word ∷ last ∷ []) to e =
    let c = bind_ok (client_word word) (λ c. ok_or (name_at last) causes.Name >>= λ name. Ok (c, name)) to e in
    let name = bind_ok (ok_or (name_at last) causes.Name) (λ name. Ok (c.0, name)) to c.2 in
    subst (λ (x : ℕ × List ℕ). IsLine (codes "record" ∷ word ∷ last ∷ []) (RecordTo x.0 x.1)) (ok_is (c.0, name.0) to name.2)
    (record_from laws word last c.0 name.0 c.1 (ok_or-ok (name_at last) causes.Name name.0 name.1))
record_at-spelled laws (word ∷ last ∷ other ∷ others) to e = absurd cc

record_line-spelled : (laws : WordLaws) (words : List (List ℕ)) (event : Event) → record_line words ≡ Ok event → IsLine (codes "record" ∷ words) event
unfolding record_line
record_line-spelled laws words event e =
    let to = bind_ok (record_at words) (λ to. Ok (RecordTo to.0 to.1)) event e in
    subst (λ (x : Event). IsLine (codes "record" ∷ words) x) (ok_is (RecordTo to.0.0 to.0.1) event to.2) (record_at-spelled laws words to.0 to.1)

stop_line-spelled : (laws : WordLaws) (words : List (List ℕ)) (event : Event) → stop_line words ≡ Ok event → IsLine (codes "stop" ∷ words) event
unfolding stop_line
stop_line-spelled laws words event e = number_line-spelled laws (codes "stop") 0 last_client Stop (omega arith) (λ n low high. record { in_range = high; whole = refl }) words event e

show_line-spelled : (laws : WordLaws) (words : List (List ℕ)) (event : Event) → show_line words ≡ Ok event → IsLine (codes "show" ∷ words) event
unfolding show_line
show_line-spelled laws words event e = number_line-spelled laws (codes "show") 0 last_client Show (omega arith) (λ n low high. record { in_range = high; whole = refl }) words event e

bytes_line-spelled : (laws : WordLaws) (words : List (List ℕ)) (event : Event) → bytes_line words ≡ Ok event → IsLine (codes "bytes" ∷ words) event
unfolding bytes_line
bytes_line-spelled laws words event e = number_line-spelled laws (codes "bytes") 1 last_datagram Bytes (omega arith) (λ n low high. record { in_range = (low, high); whole = refl }) words event e

at_line-spelled : (laws : WordLaws) (words : List (List ℕ)) (event : Event) → at_line words ≡ Ok event → IsLine (codes "at" ∷ words) event
unfolding at_line
at_line-spelled laws words event e = number_line-spelled laws (codes "at") 0 last_time At (omega arith) (λ n low high. record { in_range = high; whole = refl }) words event e

end_line-spelled : (laws : WordLaws) (words : List (List ℕ)) (event : Event) → end_line words ≡ Ok event → IsLine (codes "end" ∷ words) event
unfolding end_line
end_line-spelled laws words event e = number_line-spelled laws (codes "end") 0 last_time End (omega arith) (λ n low high. record { in_range = high; whole = refl }) words event e

-- bytes that are handed in, and whose they are
record WasHand (words : List (List ℕ)) (c : ℕ) (bytes : List ℕ) : Type 0 where
  small : c ≤ last_client
  few : length bytes ≤ most_handed
  each : All (λ byte. byte < 256) bytes
  last : List ℕ
  spelled : SpellsHex last bytes
  whole : words ≡ decimal c ∷ last ∷ []

hand_from : (laws : WordLaws) (word last : List ℕ) (c : ℕ) (bytes : List ℕ) → client_word word ≡ Ok c → handed_at last ≡ Some bytes → WasHand (word ∷ last ∷ []) c bytes
hand_from laws word last c bytes c_read bytes_read =
    let is = laws.numbers.spelled 0 last_client word c (omega arith) c_read in
    let were = laws.hex.spelled most_handed last bytes bytes_read in
    record { small = is.1; few = were.few; each = were.each; last = last; spelled = were.spelled; whole = ap (λ (w : List ℕ). w ∷ last ∷ []) is.2 }

hand_at-spelled : (laws : WordLaws) (words : List (List ℕ)) (hand : ℕ × List ℕ) → hand_at words ≡ Ok hand → WasHand words hand.0 hand.1
unfolding hand_at
hand_at-spelled laws [] hand e = absurd cc
hand_at-spelled laws (word ∷ []) hand e = absurd cc
hand_at-spelled laws (word ∷ last ∷ []) hand e =
    let c = bind_ok (client_word word) (λ c. ok_or (handed_at last) causes.Number >>= λ bytes. Ok (c, bytes)) hand e in
    let bytes = bind_ok (ok_or (handed_at last) causes.Number) (λ bytes. Ok (c.0, bytes)) hand c.2 in
    subst (λ (x : ℕ × List ℕ). WasHand (word ∷ last ∷ []) x.0 x.1) (ok_is (c.0, bytes.0) hand bytes.2) (hand_from laws word last c.0 bytes.0 c.1 (ok_or-ok (handed_at last) causes.Number bytes.0 bytes.1))
hand_at-spelled laws (word ∷ last ∷ other ∷ others) hand e = absurd cc

toclient_line-spelled : (laws : WordLaws) (words : List (List ℕ)) (event : Event) → toclient_line words ≡ Ok event → IsLine (codes "toclient" ∷ words) event
unfolding toclient_line
toclient_line-spelled laws words event e =
    let hand = bind_ok (hand_at words) (λ hand. Ok (Toclient hand.0 hand.1)) event e in
    let was = hand_at-spelled laws words hand.0 hand.1 in
    subst (λ (x : Event). IsLine (codes "toclient" ∷ words) x) (ok_is (Toclient hand.0.0 hand.0.1) event hand.2)
    (record { in_range = (was.small, was.few, was.each); whole = (was.last, was.spelled, ap (λ (others : List (List ℕ)). codes "toclient" ∷ others) was.whole) })

toserver_line-spelled : (laws : WordLaws) (words : List (List ℕ)) (event : Event) → toserver_line words ≡ Ok event → IsLine (codes "toserver" ∷ words) event
unfolding toserver_line
toserver_line-spelled laws words event e =
    let hand = bind_ok (hand_at words) (λ hand. Ok (Toserver hand.0 hand.1)) event e in
    let was = hand_at-spelled laws words hand.0 hand.1 in
    subst (λ (x : Event). IsLine (codes "toserver" ∷ words) x) (ok_is (Toserver hand.0.0 hand.0.1) event hand.2)
    (record { in_range = (was.small, was.few, was.each); whole = (was.last, was.spelled, ap (λ (others : List (List ℕ)). codes "toserver" ∷ others) was.whole) })

-- bytes to hand in that are spelled so are read
hand_at-again : (laws : WordLaws) (c : ℕ) (bytes last : List ℕ) → c ≤ last_client → length bytes ≤ most_handed → All (λ byte. byte < 256) bytes → SpellsHex last bytes → hand_at (decimal c ∷ last ∷ []) ≡ Ok (c, bytes)
unfolding hand_at
hand_at-again laws c bytes last small few each spelled = rw (laws.numbers.read 0 last_client c (omega arith) (omega arith) (omega arith), laws.hex.read most_handed last bytes spelled few each) refl

-- a word that passed the test is that word
word_is : (word text : List ℕ) (others : List (List ℕ)) (event : Event) → bytes_eq text word ≡ true → IsLine (text ∷ others) event → IsLine (word ∷ others) event
word_is word text others event same spelled = subst (λ (w : List ℕ). IsLine (w ∷ others) event) ((bytes_eq-Decides text word).0 same) spelled

-- what is left of a line, read as an event, was spelled so after the line's first word
abbrev ReadIsSpelled : List ℕ × (List (List ℕ) → Result Event LineCause) → Type 0
ReadIsSpelled line = (others : List (List ℕ)) (event : Event) → AreLeft others → line.1 others ≡ Ok event → IsLine (line.0 ∷ others) event

-- also of any other words
of_any : (word : List ℕ) (line : List (List ℕ) → Result Event LineCause) → ((words : List (List ℕ)) (event : Event) → line words ≡ Ok event → IsLine (word ∷ words) event) → ReadIsSpelled (word, line)
of_any word line each = λ others event left e. each others event e

-- a line of a table, whose entries each read what is spelled so
abbrev EachIsSpelled : Table → Type 0
EachIsSpelled [] = Unit {0}
EachIsSpelled (line ∷ lines) = ReadIsSpelled line × EachIsSpelled lines

found : (lines : Table) (word : List ℕ) (others : List (List ℕ)) (event : Event) → EachIsSpelled lines → AreLeft others → line_in lines word others ≡ Ok event → IsLine (word ∷ others) event
found [] word others event each left e = let none : refuse causes.Word ≡ done event = e in absurd cc
found (line ∷ lines) word others event each left e =
    elim (cases_Bool (bytes_eq line.0 word)) [
      | inl same ↦ word_is word line.0 others event same (each.0 others event left (rw same at e))
      | inr other ↦ found lines word others event each.1 left (rw other at e)
    ]

-- each line of a table reads what is spelled so
each_line : (laws : WordLaws) (kind : ScriptKind) → EachIsSpelled (lines_taken kind)
each_line laws kinds.Replay = (of_any (codes "client") client_line (client_line-spelled laws), (of_any (codes "port") port_line (port_line-spelled laws), (of_any (codes "toclient") toclient_line (toclient_line-spelled laws), (of_any (codes "toserver") toserver_line (toserver_line-spelled laws), (of_any (codes "map") map_line (map_line-spelled laws), (of_any (codes "entity") entity_line (entity_line-spelled laws), (of_any (codes "remove") remove_line (remove_line-spelled laws), (of_any (codes "baseline") baseline_line (baseline_line-spelled laws), (of_any (codes "player") player_line (player_line-spelled laws), (of_any (codes "area") area_line (area_line-spelled laws), (of_any (codes "time") time_line (time_line-spelled laws), ((config_line-spelled laws), ((say_line-spelled laws), (type_line-spelled laws, (of_any (codes "move") move_line (move_line-spelled laws), (of_any (codes "serve") serve_line (serve_line-spelled laws), (of_any (codes "send") send_line (send_line-spelled laws), (of_any (codes "deliver") deliver_line (deliver_line-spelled laws), (of_any (codes "record") record_line (record_line-spelled laws), (of_any (codes "stop") stop_line (stop_line-spelled laws), (of_any (codes "show") show_line (show_line-spelled laws), (of_any (codes "bytes") bytes_line (bytes_line-spelled laws), tt))))))))))))))))))))))
each_line laws kinds.Serve = (of_any (codes "client") client_line (client_line-spelled laws), (of_any (codes "map") map_line (map_line-spelled laws), (of_any (codes "entity") entity_line (entity_line-spelled laws), (of_any (codes "remove") remove_line (remove_line-spelled laws), (of_any (codes "baseline") baseline_line (baseline_line-spelled laws), (of_any (codes "player") player_line (player_line-spelled laws), (of_any (codes "area") area_line (area_line-spelled laws), (of_any (codes "time") time_line (time_line-spelled laws), ((config_line-spelled laws), ((say_line-spelled laws), (of_any (codes "serve") serve_line (serve_line-spelled laws), (of_any (codes "at") at_line (at_line-spelled laws), (of_any (codes "end") end_line (end_line-spelled laws), tt)))))))))))))
each_line laws kinds.Join = (of_any (codes "client") client_line (client_line-spelled laws), (type_line-spelled laws, (of_any (codes "move") move_line (move_line-spelled laws), (of_any (codes "send") send_line (send_line-spelled laws), (of_any (codes "record") record_line (record_line-spelled laws), (of_any (codes "stop") stop_line (stop_line-spelled laws), (of_any (codes "show") show_line (show_line-spelled laws), (of_any (codes "at") at_line (at_line-spelled laws), (of_any (codes "end") end_line (end_line-spelled laws), tt)))))))))

-- what is read of words after a first one was spelled so
others_spelled : (laws : WordLaws) (kind : ScriptKind) (word : List ℕ) (others : List (List ℕ)) (event : Event) → AreLeft others → line_at kind (word ∷ others) ≡ Ok event → IsLine (word ∷ others) event
unfolding line_at
others_spelled laws kind word others event left e = found (lines_taken kind) word others event (each_line laws kind) left e

-- ---- an event's line

-- its first word
abbrev word_of : Event → List ℕ
word_of (Client c challenge qport dup address) = codes "client"
word_of (Port c port) = codes "port"
word_of (Map id feed) = codes "map"
word_of (Entity state) = codes "entity"
word_of (Remove number) = codes "remove"
word_of (Baseline state) = codes "baseline"
word_of (Player c player) = codes "player"
word_of (Area c area) = codes "area"
word_of (Time time) = codes "time"
word_of (Config index text) = codes "config"
word_of (Say c text) = codes "say"
word_of (TypeText c text) = codes "type"
word_of (Move c one) = codes "move"
word_of (Serve c) = codes "serve"
word_of (Send c) = codes "send"
word_of (Deliver datagram) = codes "deliver"
word_of (RecordTo c name) = codes "record"
word_of (Stop c) = codes "stop"
word_of (Show c) = codes "show"
word_of (Bytes datagram) = codes "bytes"
word_of (Toclient c bytes) = codes "toclient"
word_of (Toserver c bytes) = codes "toserver"
word_of (At ms) = codes "at"
word_of (End ms) = codes "end"

-- and what reads the others
abbrev line_of : Event → List (List ℕ) → Result Event LineCause
line_of (Client c challenge qport dup address) = client_line
line_of (Port c port) = port_line
line_of (Map id feed) = map_line
line_of (Entity state) = entity_line
line_of (Remove number) = remove_line
line_of (Baseline state) = baseline_line
line_of (Player c player) = player_line
line_of (Area c area) = area_line
line_of (Time time) = time_line
line_of (Config index text) = config_line
line_of (Say c text) = say_line
line_of (TypeText c text) = type_line
line_of (Move c one) = move_line
line_of (Serve c) = serve_line
line_of (Send c) = send_line
line_of (Deliver datagram) = deliver_line
line_of (RecordTo c name) = record_line
line_of (Stop c) = stop_line
line_of (Show c) = show_line
line_of (Bytes datagram) = bytes_line
line_of (Toclient c bytes) = toclient_line
line_of (Toserver c bytes) = toserver_line
line_of (At ms) = at_line
line_of (End ms) = end_line

-- words that are such a line
record Again (words : List (List ℕ)) (event : Event) : Type 0 where
  others : List (List ℕ)
  whole : words ≡ word_of event ∷ others
  read : line_of event others ≡ Ok event

-- what is spelled so is read
again : (laws : WordLaws) (words : List (List ℕ)) (event : Event) → IsInRange event → HasWords words event → Again words event
unfolding only_number client_line port_line map_line entity_line remove_line baseline_line player_line area_line time_line config_line say_line type_line serve_line send_line deliver_line record_at record_line stop_line show_line bytes_line toclient_line toserver_line at_line end_line
again laws words (Client c challenge qport dup address) is whole = record { others = decimal c ∷ decimal challenge ∷ decimal qport ∷ decimal dup ∷ whole.0 ∷ []; whole = whole.2; read = rw (laws.numbers.read 0 last_client c (omega arith) (omega arith) (omega arith), laws.numbers.read 0 4294967295 challenge (omega arith) (omega arith) (omega arith), laws.numbers.read 0 65535 qport (omega arith) (omega arith) (omega arith), laws.numbers.read 0 5 dup (omega arith) (omega arith) is.3, laws.addresses.read whole.0 address whole.1 is.4 is.5) refl }
again laws words (Port c port) is whole = record { others = decimal c ∷ decimal port ∷ []; whole = whole; read = rw (laws.numbers.read 0 last_client c (omega arith) (omega arith) (omega arith), laws.numbers.read 1 65535 port (omega arith) is.1 (omega arith)) refl }
again laws words (Map id feed) is whole = record { others = decimal id ∷ decimal feed ∷ []; whole = whole; read = rw (laws.numbers.read 1 2147483647 id (omega arith) is.0 (omega arith), laws.numbers.read 0 4294967295 feed (omega arith) (omega arith) (omega arith)) refl }
again laws words (Entity state) is whole = record { others = decimal state.number ∷ whole.0; whole = whole.2; read = rw (laws.numbers.read 0 last_entity state.number (omega arith) (omega arith) is.0, laws.entities.read whole.0 state whole.1) refl }
again laws words (Remove number) is whole = record { others = decimal number ∷ []; whole = whole; read = rw (laws.numbers.read 0 last_entity number (omega arith) (omega arith) is) refl }
again laws words (Baseline state) is whole = record { others = decimal state.number ∷ whole.0; whole = whole.2; read = rw (laws.numbers.read 1 last_entity state.number (omega arith) is.0 is.1, laws.entities.read whole.0 state whole.1) refl }
again laws words (Player c player) is whole = record { others = decimal c ∷ whole.0; whole = whole.2; read = rw (laws.numbers.read 0 last_client c (omega arith) (omega arith) (omega arith), laws.players.read whole.0 player whole.1) refl }
again laws words (Area c area) is whole = record { others = decimal c ∷ whole.0 ∷ []; whole = whole.2; read = rw (laws.numbers.read 0 last_client c (omega arith) (omega arith) (omega arith), laws.areas.read whole.0 area whole.1 is.1 is.2) refl }
again laws words (Time time) is whole = record { others = decimal time ∷ []; whole = whole; read = rw (laws.numbers.read 0 4294967295 time (omega arith) (omega arith) (omega arith)) refl }
again laws words (Config index text) is whole = record { others = decimal index ∷ whole.0; whole = whole.2; read = rw (config_at-again laws index text whole.0 is.0 is.1 whole.1) refl }
again laws words (Say c text) is whole = record { others = decimal c ∷ whole.0; whole = whole.2; read = rw (command_at-again laws c text whole.0 is.0 whole.1) refl }
again laws words (TypeText c text) is whole = record { others = decimal c ∷ whole.0; whole = whole.2; read = rw (command_at-again laws c text whole.0 is.0 whole.1) refl }
again laws words (Move c one) is whole = record { others = decimal c ∷ move_words one; whole = whole; read = move_line-again laws c one is.0 is.1 }
again laws words (Serve c) is whole = record { others = decimal c ∷ []; whole = whole; read = rw (laws.numbers.read 0 last_client c (omega arith) (omega arith) (omega arith)) refl }
again laws words (Send c) is whole = record { others = decimal c ∷ []; whole = whole; read = rw (laws.numbers.read 0 last_client c (omega arith) (omega arith) (omega arith)) refl }
again laws words (Deliver datagram) is whole = record { others = decimal datagram ∷ []; whole = whole; read = rw (laws.numbers.read 1 last_datagram datagram (omega arith) is.0 is.1) refl }
again laws words (RecordTo c name) is whole = record { others = decimal c ∷ name ∷ []; whole = whole; read = rw (laws.numbers.read 0 last_client c (omega arith) (omega arith) (omega arith), laws.names.read name is.1) refl }
again laws words (Stop c) is whole = record { others = decimal c ∷ []; whole = whole; read = rw (laws.numbers.read 0 last_client c (omega arith) (omega arith) (omega arith)) refl }
again laws words (Show c) is whole = record { others = decimal c ∷ []; whole = whole; read = rw (laws.numbers.read 0 last_client c (omega arith) (omega arith) (omega arith)) refl }
again laws words (Bytes datagram) is whole = record { others = decimal datagram ∷ []; whole = whole; read = rw (laws.numbers.read 1 last_datagram datagram (omega arith) is.0 is.1) refl }
again laws words (Toclient c bytes) is whole = record { others = decimal c ∷ whole.0 ∷ []; whole = whole.2; read = rw (hand_at-again laws c bytes whole.0 is.0 is.1 is.2 whole.1) refl }
again laws words (Toserver c bytes) is whole = record { others = decimal c ∷ whole.0 ∷ []; whole = whole.2; read = rw (hand_at-again laws c bytes whole.0 is.0 is.1 is.2 whole.1) refl }
again laws words (At ms) is whole = record { others = decimal ms ∷ []; whole = whole; read = rw (laws.numbers.read 0 last_time ms (omega arith) (omega arith) is) refl }
again laws words (End ms) is whole = record { others = decimal ms ∷ []; whole = whole; read = rw (laws.numbers.read 0 last_time ms (omega arith) (omega arith) is) refl }

-- an event that scripts of a kind may have
record IsTaken (kind : ScriptKind) (event : Event) : Type 0 where
  is : IsInRange event → IsEventOf kind event
  was : IsEventOf kind event → IsInRange event
  reads : (others : List (List ℕ)) → line_at kind (word_of event ∷ others) ≡ line_of event others

-- and one that they can't have
record IsLacked (kind : ScriptKind) (event : Event) : Type 0 where
  never : IsEventOf kind event → ⊥
  refuses : (others : List (List ℕ)) → line_at kind (word_of event ∷ others) ≡ refuse causes.Word

sorted : (kind : ScriptKind) (event : Event) → IsTaken kind event ⊎ IsLacked kind event
unfolding line_at
sorted kinds.Replay (Client c challenge qport dup address) = inl (record { is = λ r. r; was = λ r. r; reads = λ others. refl })
sorted kinds.Replay (Port c port) = inl (record { is = λ r. r; was = λ r. r; reads = λ others. refl })
sorted kinds.Replay (Map id feed) = inl (record { is = λ r. r; was = λ r. r; reads = λ others. refl })
sorted kinds.Replay (Entity state) = inl (record { is = λ r. r; was = λ r. r; reads = λ others. refl })
sorted kinds.Replay (Remove number) = inl (record { is = λ r. r; was = λ r. r; reads = λ others. refl })
sorted kinds.Replay (Baseline state) = inl (record { is = λ r. r; was = λ r. r; reads = λ others. refl })
sorted kinds.Replay (Player c player) = inl (record { is = λ r. r; was = λ r. r; reads = λ others. refl })
sorted kinds.Replay (Area c area) = inl (record { is = λ r. r; was = λ r. r; reads = λ others. refl })
sorted kinds.Replay (Time time) = inl (record { is = λ r. r; was = λ r. r; reads = λ others. refl })
sorted kinds.Replay (Config index text) = inl (record { is = λ r. r; was = λ r. r; reads = λ others. refl })
sorted kinds.Replay (Say c text) = inl (record { is = λ r. r; was = λ r. r; reads = λ others. refl })
sorted kinds.Replay (TypeText c text) = inl (record { is = λ r. r; was = λ r. r; reads = λ others. refl })
sorted kinds.Replay (Move c one) = inl (record { is = λ r. r; was = λ r. r; reads = λ others. refl })
sorted kinds.Replay (Serve c) = inl (record { is = λ r. r; was = λ r. r; reads = λ others. refl })
sorted kinds.Replay (Send c) = inl (record { is = λ r. r; was = λ r. r; reads = λ others. refl })
sorted kinds.Replay (Deliver datagram) = inl (record { is = λ r. r; was = λ r. r; reads = λ others. refl })
sorted kinds.Replay (RecordTo c name) = inl (record { is = λ r. r; was = λ r. r; reads = λ others. refl })
sorted kinds.Replay (Stop c) = inl (record { is = λ r. r; was = λ r. r; reads = λ others. refl })
sorted kinds.Replay (Show c) = inl (record { is = λ r. r; was = λ r. r; reads = λ others. refl })
sorted kinds.Replay (Bytes datagram) = inl (record { is = λ r. r; was = λ r. r; reads = λ others. refl })
sorted kinds.Replay (Toclient c bytes) = inl (record { is = λ r. r; was = λ r. r; reads = λ others. refl })
sorted kinds.Replay (Toserver c bytes) = inl (record { is = λ r. r; was = λ r. r; reads = λ others. refl })
sorted kinds.Replay (At ms) = inr (record { never = λ r. r; refuses = λ others. refl })
sorted kinds.Replay (End ms) = inr (record { never = λ r. r; refuses = λ others. refl })
sorted kinds.Serve (Client c challenge qport dup address) = inl (record { is = λ r. r; was = λ r. r; reads = λ others. refl })
sorted kinds.Serve (Port c port) = inr (record { never = λ r. r; refuses = λ others. refl })
sorted kinds.Serve (Map id feed) = inl (record { is = λ r. r; was = λ r. r; reads = λ others. refl })
sorted kinds.Serve (Entity state) = inl (record { is = λ r. r; was = λ r. r; reads = λ others. refl })
sorted kinds.Serve (Remove number) = inl (record { is = λ r. r; was = λ r. r; reads = λ others. refl })
sorted kinds.Serve (Baseline state) = inl (record { is = λ r. r; was = λ r. r; reads = λ others. refl })
sorted kinds.Serve (Player c player) = inl (record { is = λ r. r; was = λ r. r; reads = λ others. refl })
sorted kinds.Serve (Area c area) = inl (record { is = λ r. r; was = λ r. r; reads = λ others. refl })
sorted kinds.Serve (Time time) = inl (record { is = λ r. r; was = λ r. r; reads = λ others. refl })
sorted kinds.Serve (Config index text) = inl (record { is = λ r. r; was = λ r. r; reads = λ others. refl })
sorted kinds.Serve (Say c text) = inl (record { is = λ r. r; was = λ r. r; reads = λ others. refl })
sorted kinds.Serve (TypeText c text) = inr (record { never = λ r. r; refuses = λ others. refl })
sorted kinds.Serve (Move c one) = inr (record { never = λ r. r; refuses = λ others. refl })
sorted kinds.Serve (Serve c) = inl (record { is = λ r. r; was = λ r. r; reads = λ others. refl })
sorted kinds.Serve (Send c) = inr (record { never = λ r. r; refuses = λ others. refl })
sorted kinds.Serve (Deliver datagram) = inr (record { never = λ r. r; refuses = λ others. refl })
sorted kinds.Serve (RecordTo c name) = inr (record { never = λ r. r; refuses = λ others. refl })
sorted kinds.Serve (Stop c) = inr (record { never = λ r. r; refuses = λ others. refl })
sorted kinds.Serve (Show c) = inr (record { never = λ r. r; refuses = λ others. refl })
sorted kinds.Serve (Bytes datagram) = inr (record { never = λ r. r; refuses = λ others. refl })
sorted kinds.Serve (Toclient c bytes) = inr (record { never = λ r. r; refuses = λ others. refl })
sorted kinds.Serve (Toserver c bytes) = inr (record { never = λ r. r; refuses = λ others. refl })
sorted kinds.Serve (At ms) = inl (record { is = λ r. r; was = λ r. r; reads = λ others. refl })
sorted kinds.Serve (End ms) = inl (record { is = λ r. r; was = λ r. r; reads = λ others. refl })
sorted kinds.Join (Client c challenge qport dup address) = inl (record { is = λ r. r; was = λ r. r; reads = λ others. refl })
sorted kinds.Join (Port c port) = inr (record { never = λ r. r; refuses = λ others. refl })
sorted kinds.Join (Map id feed) = inr (record { never = λ r. r; refuses = λ others. refl })
sorted kinds.Join (Entity state) = inr (record { never = λ r. r; refuses = λ others. refl })
sorted kinds.Join (Remove number) = inr (record { never = λ r. r; refuses = λ others. refl })
sorted kinds.Join (Baseline state) = inr (record { never = λ r. r; refuses = λ others. refl })
sorted kinds.Join (Player c player) = inr (record { never = λ r. r; refuses = λ others. refl })
sorted kinds.Join (Area c area) = inr (record { never = λ r. r; refuses = λ others. refl })
sorted kinds.Join (Time time) = inr (record { never = λ r. r; refuses = λ others. refl })
sorted kinds.Join (Config index text) = inr (record { never = λ r. r; refuses = λ others. refl })
sorted kinds.Join (Say c text) = inr (record { never = λ r. r; refuses = λ others. refl })
sorted kinds.Join (TypeText c text) = inl (record { is = λ r. r; was = λ r. r; reads = λ others. refl })
sorted kinds.Join (Move c one) = inl (record { is = λ r. r; was = λ r. r; reads = λ others. refl })
sorted kinds.Join (Serve c) = inr (record { never = λ r. r; refuses = λ others. refl })
sorted kinds.Join (Send c) = inl (record { is = λ r. r; was = λ r. r; reads = λ others. refl })
sorted kinds.Join (Deliver datagram) = inr (record { never = λ r. r; refuses = λ others. refl })
sorted kinds.Join (RecordTo c name) = inl (record { is = λ r. r; was = λ r. r; reads = λ others. refl })
sorted kinds.Join (Stop c) = inl (record { is = λ r. r; was = λ r. r; reads = λ others. refl })
sorted kinds.Join (Show c) = inl (record { is = λ r. r; was = λ r. r; reads = λ others. refl })
sorted kinds.Join (Bytes datagram) = inr (record { never = λ r. r; refuses = λ others. refl })
sorted kinds.Join (Toclient c bytes) = inr (record { never = λ r. r; refuses = λ others. refl })
sorted kinds.Join (Toserver c bytes) = inr (record { never = λ r. r; refuses = λ others. refl })
sorted kinds.Join (At ms) = inl (record { is = λ r. r; was = λ r. r; reads = λ others. refl })
sorted kinds.Join (End ms) = inl (record { is = λ r. r; was = λ r. r; reads = λ others. refl })

-- ---- whole lines

-- what is read of words was spelled so
words_spelled : (laws : WordLaws) (kind : ScriptKind) (words : List (List ℕ)) (event : Event) → IsLine words event → line_at kind words ≡ Ok event → SpellsEvent kind words event
words_spelled laws kind words event line e =
    elim (sorted kind event) [
      | inl taken ↦ record { event_of = taken.is line.in_range; whole = line.whole }
      | inr lacked ↦
          let is = again laws words event line.in_range line.whole in
          let none : refuse causes.Word ≡ done event = sym (lacked.refuses is.others) ∙ ap (line_at kind) (sym is.whole) ∙ e in
          absurd cc
    ]

-- what is read of a line was spelled so
pub line_at-spelled : (laws : WordLaws) (kind : ScriptKind) (line : List ℕ) (event : Event) → line_at kind (words_of line) ≡ Ok event → SpellsEvent kind (words_of line) event
line_at-spelled laws kind line event e =
    let cut = laws.lines.first line in
    let end = position_or_len (λ byte. eqb byte 32) line in
    let first = take end line in
    let rest = drop end line in
    let is = subst (λ (words : List (List ℕ)). IsLine words event) (sym cut) (others_spelled laws kind first (words_left rest) event (rest, refl) (ap (line_at kind) (sym cut) ∙ e)) in
    words_spelled laws kind (words_of line) event is e

-- and what is spelled so is read
pub line_at-again : (laws : WordLaws) (kind : ScriptKind) (words : List (List ℕ)) (event : Event) → SpellsEvent kind words event → line_at kind words ≡ Ok event
line_at-again laws kind words event spelled =
    elim (sorted kind event) [
      | inl taken ↦ let is = again laws words event (taken.was spelled.event_of) spelled.whole in ap (line_at kind) is.whole ∙ taken.reads is.others ∙ is.read
      | inr lacked ↦ absurd (lacked.never spelled.event_of)
    ]
