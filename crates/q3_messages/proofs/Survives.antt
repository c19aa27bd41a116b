-- A message survives the network: its datagrams, taken one after the other, bring it whole.
use Rattle.std.proofs.Common.{◌≡◌, is_some, cond, Bool, set, zero, suc, ◌^◌, ◌<◌, ◌≤◌, ◌==◌, true, false, List, [], ◌∷◌, ◌++◌, length, get_or, Option, Some, None, Result, Ok, refl, sym, ap, subst, ◌∙◌, add-one, arith, ℕ}
use Rattle.std.specs.Prelude.{position, IfSome}
use Rattle.std.proofs.lemmas.Bool.{and_parts, eqb-true, eq-eqb}
use Rattle.std.proofs.lemmas.List.{length-set, set-set, get_or-set_same}
use Rattle.std.proofs.lemmas.List.Folds.{position_or_len-set}
use Rattle.std.proofs.lemmas.List.Elements.{All-get_or}
use Rattle.std.proofs.lemmas.List.FromFn.{map-range_with_len_more}
use Rattle.std.proofs.lemmas.List.Quantifiers.{position-Some}
use Rattle.q3_profile.specs.declared.profile.Profile.{Profile}
use Rattle.q3_io.specs.declared.address.Address.{Address}
use Rattle.q3_chan.specs.declared.form.Form.{Form}
use Rattle.q3_chan.specs.Checks.{is_checked, check_for}
use Rattle.q3_chan.specs.declared.gatherer.Gathered.{Gathered}
use Rattle.q3_chan.specs.declared.gatherer.Gathered.TheVariants as gathered
use Rattle.q3_chan.specs.declared.qport.NoQport.{NoQport}
use Rattle.q3_chan.specs.Datagrams.{Header, server_form, client_form, server_header, client_header, last_index, datagram}
use Rattle.q3_chan.specs.Gathering.{Gathering, Took, gathered as gathered_of, gathered_all}
use Rattle.q3_chan.specs.Tags.{Came}
use Rattle.q3_chan.specs.Senders.{qport_of, QportIsTold}
use Rattle.q3_chan.specs.Laws.{PiecesComeWhole, FirstComePartial}
use Rattle.q3_svmsg.specs.declared.error.Illegible.{Illegible}
use Rattle.q3_clmsg.specs.declared.error.ClientIllegible.{ClientIllegible}
use Rattle.q3_map.specs.Map.{MapState}
use Rattle.q3_built.specs.Built.{built_bytes, plain_bytes}
use Rattle.q3_slot.specs.declared.taking.ServerTook.TheVariants.{Partial as SlotPartial}
use Rattle.q3_slot.specs.Slot.{SlotState, is_of}
use Rattle.q3_slot.specs.Taking.{came_as, said_by, run_read}
use Rattle.q3_slot.specs.Taking as by_slot
use Rattle.q3_server.specs.Server.{ServerState, slot_at, with_slot}
use Rattle.q3_server.specs.Taking.{sender_of, taken_at}
use Rattle.q3_server.specs.Taking as hears
use Rattle.q3_server.specs.Standing.{IsJoined, IsServerState}
use Rattle.q3_client.specs.declared.client.ClientTook.TheVariants.{Partial}
use Rattle.q3_client.specs.Client.{ClientState, Taken, Reception, answers, receive_message, receive_bytes, applies, applies_read, take_answer, take_gathered, take_unless, take_at}
use Rattle.q3_client.specs.Sending.{said_bytes}
use Rattle.q3_messages.specs.MessageLaws.{BuiltIsRead, SaidIsRead, first_datagrams, MayCome, client_after, BuiltSurvives, server_after, SaidSurvives}

-- what is put and passes where what it replaces does changes no position
pub put_alike : {X : Type 0} (test : X → Bool) (xs : List X) (c : ℕ) (x d : X) → test x ≡ test (get_or xs c d) → position test (set xs c x) ≡ position test xs
put_alike test xs c x d same = rw (position_or_len-set test xs c x d same, length-set xs c x) refl

-- a client takes a datagram by what its bytes do
pub taken_by_bytes : (client : ClientState) (bytes : List ℕ) (took : Took) → client.dropped ≡ None → gathered_of client.gathering bytes ≡ took
    → take_at client bytes ≡ take_gathered client took (λ n. receive_bytes client n took.message)
unfolding take_at
taken_by_bytes client bytes took legible e = ap (λ (dropped : Option Illegible). take_unless client bytes dropped) legible ∙ rw e refl

-- ---- what an end gathers

-- of so many first datagrams of a message
abbrev gathers_first : Gathering → Header → ℕ → List ℕ → ℕ → Gathering
gathers_first g header number message count = gathered_all g (first_datagrams header number message count)

gathers_push : (g : Gathering) (came : List (List ℕ)) (last : List ℕ) → gathered_all g (came ++ last ∷ []) ≡ (gathered_of (gathered_all g came) last).gathering
unfolding gathered_all
gathers_push g [] last = refl
gathers_push g (one ∷ others) last = gathers_push (gathered_of g one).gathering others last

gathers_none : (g : Gathering) (header : Header) (number : ℕ) (message : List ℕ) → gathers_first g header number message 0 ≡ g
unfolding gathered_all
gathers_none g header number message = refl

-- one datagram more
first_more : (header : Header) (number : ℕ) (message : List ℕ) (count : ℕ)
    → first_datagrams header number message (suc count) ≡ first_datagrams header number message count ++ datagram header number message count ∷ []
first_more header number message count =
    ap (first_datagrams header number message) (sym (add-one count)) ∙ map-range_with_len_more (datagram header number message) 0 count count (omega arith)

gathers_more : (g : Gathering) (header : Header) (number : ℕ) (message : List ℕ) (count : ℕ)
    → gathers_first g header number message (suc count) ≡ (gathered_of (gathers_first g header number message count) (datagram header number message count)).gathering
gathers_more g header number message count =
    ap (gathered_all g) (first_more header number message count)
    ∙ gathers_push g (first_datagrams header number message count) (datagram header number message count)

-- each datagram of a message but the last is partial, and with the last it comes whole
record Comes (g : Gathering) (header : Header) (number : ℕ) (message : List ℕ) : Type 0 where
  partial : (index : ℕ) → index < last_index message
      → (gathered_of (gathers_first g header number message index) (datagram header number message index)).answer ≡ gathered.Partial
  whole : Came (gathers_first g header number message (last_index message)) number message
      (gathered_of (gathers_first g header number message (last_index message)) (datagram header number message (last_index message)))

comes : PiecesComeWhole → FirstComePartial → (g : Gathering) (header : Header) (number : ℕ) (message : List ℕ) → g.form ≡ header.form → MayCome number message g → Comes g header number message
comes whole partial g header number message from may =
    subst (λ (f : Form). Comes g (record { form = f; qport = header.qport }) number message) from
    (record {
      partial = λ index before. partial g header.qport number index message may.newer may.none may.sent.fits may.sent.sendable before;
      whole = whole g header.qport number 0 message may.newer (omega arith) may.none may.sent.fits may.sent.sendable;
    })

-- ---- a client

client_push : (client : ClientState) (came : List (List ℕ)) (last : List ℕ) → client_after client (came ++ last ∷ []) ≡ (take_at (client_after client came) last).client
unfolding client_after
client_push client [] last = refl
client_push client (one ∷ others) last = client_push (take_at client one).client others last

-- a client that gathered takes a piece that is partial
client_piece : (client : ClientState) (g : Gathering) (bytes : List ℕ) → client.dropped ≡ None → (gathered_of g bytes).answer ≡ gathered.Partial
    → take_at (record client { gathering = g }) bytes ≡ answers (record client { gathering = (gathered_of g bytes).gathering }) Partial
client_piece client g bytes legible partial =
    let now = record client { gathering = g } in
    let took = gathered_of g bytes in
    taken_by_bytes now bytes took legible refl
    ∙ ap (λ (a : Gathered). take_answer (record client { gathering = took.gathering }) a (λ n. receive_bytes client n took.message)) partial

-- and one with which a message comes whole
client_whole : (client : ClientState) (g : Gathering) (bytes : List ℕ) (number : ℕ) (message : List ℕ) (received : Reception) → client.dropped ≡ None → Came g number message (gathered_of g bytes)
    → receive_bytes client number message ≡ Ok received
    → take_at (record client { gathering = g }) bytes ≡ applies (record client { gathering = (gathered_of g bytes).gathering }) received
client_whole client g bytes number message received legible came read =
    let now = record client { gathering = g } in
    let took = gathered_of g bytes in
    let then = record client { gathering = took.gathering } in
    taken_by_bytes now bytes took legible refl
    ∙ (ap (λ (a : Gathered). take_answer then a (λ n. receive_bytes client n took.message)) came.answer
    ∙ (ap (λ (m : List ℕ). applies_read then (receive_bytes client number m)) came.message_is ∙ ap (λ (r : Result Reception Illegible). applies_read then r) read))

-- after so many first datagrams
client_first : (client : ClientState) (header : Header) (number : ℕ) (message : List ℕ) (count : ℕ) → client.dropped ≡ None → Comes client.gathering header number message → count ≤ last_index message
    → client_after client (first_datagrams header number message count) ≡ record client { gathering = gathers_first client.gathering header number message count }
unfolding client_after gathered_all
client_first client header number message zero legible does few = refl
client_first client header number message (suc count) legible does few =
    let bytes = datagram header number message count in
    let g = gathers_first client.gathering header number message count in
    ap (client_after client) (first_more header number message count)
    ∙ (client_push client (first_datagrams header number message count) bytes
    ∙ (ap (λ (c : ClientState). (take_at c bytes).client) (client_first client header number message count legible does (omega (arith, few)))
    ∙ (ap (λ (t : Taken). t.client) (client_piece client g bytes legible (does.partial count (omega (arith, few))))
    ∙ ap (λ (x : Gathering). record client { gathering = x }) (sym (gathers_more client.gathering header number message count)))))

pub built_survives : BuiltIsRead → PiecesComeWhole → FirstComePartial → BuiltSurvives
built_survives reads whole partial profile codec client number built is_client legible may is of_profile under takes same known =
    let message = built_bytes profile built in
    let header = server_header (check_for profile.protocol client.challenge) in
    let from = is_client.hears ∙ ap (λ (p : Profile). server_form (check_for p.protocol client.challenge)) of_profile in
    let does = comes whole partial client.gathering header number message from may in
    let read = reads profile codec client number built is of_profile is_client.applied under takes same known in
    let last = last_index message in
    let bytes : ℕ → List ℕ = datagram header number message in
    let gathers : ℕ → Gathering = gathers_first client.gathering header number message in (
      λ index before. (
        (gathered_of (gathers index) (bytes index)).gathering,
        ap (λ (c : ClientState). take_at c (bytes index)) (client_first client header number message index legible does (omega (arith, before)))
            ∙ client_piece client (gathers index) (bytes index) legible (does.partial index before),
      ),
      (
        (gathered_of (gathers last) (bytes last)).gathering,
        does.whole.taken,
        ap (λ (c : ClientState). take_at c (bytes last)) (client_first client header number message last legible does (omega arith))
            ∙ client_whole client (gathers last) (bytes last) number message (receive_message client number built.message (plain_bytes profile built)) legible does.whole read,
      ),
    )

-- ---- the server

server_push : (server : ServerState) (from : Address) (came : List (List ℕ)) (last : List ℕ)
    → server_after server from (came ++ last ∷ []) ≡ (hears.take_at (server_after server from came) from last).server
unfolding server_after
server_push server from [] last = refl
server_push server from (one ∷ others) last = server_push (hears.take_at server from one).server from others last

-- the server, where the slot of a client at a place has gathered, and nothing else has changed but its address
record HasGathered (server now : ServerState) (from : Address) (qport c : ℕ) (slot : SlotState) (g : Gathering) : Type 0 where
  by : now.profile ≡ server.profile
  map : now.map ≡ server.map
  found : sender_of now from.host qport ≡ Some c
  address : Address
  there : slot_at now c ≡ Some (record slot { address = address; gathering = g })
  same : (other : SlotState) → with_slot now c other ≡ with_slot server c other

-- of a client that is found by its host and its qport, the slot is at a place and has both
record IsFound (server : ServerState) (host qport c : ℕ) (slot : SlotState) : Type 0 where
  within : c < length server.slots
  host_is : slot.address.host ≡ host
  qport_is : slot.qport ≡ qport

is_found : (server : ServerState) (host qport c : ℕ) (slot : SlotState) → sender_of server host qport ≡ Some c → slot_at server c ≡ Some slot → IsFound server host qport c slot
is_found server host qport c slot found there =
    let place = position-Some (is_of host qport) server.slots c None found in
    let passes : is_of host qport (Some slot) ≡ true = ap (is_of host qport) (sym there) ∙ place.1 in
    let both = and_parts (slot.address.host == host) (slot.qport == qport) passes in
    record { within = place.0; host_is = eqb-true slot.address.host host both.0; qport_is = eqb-true slot.qport qport both.1 }

-- it is found where its slot has another address of its host, and has gathered
found_still : (server : ServerState) (from : Address) (qport c : ℕ) (slot : SlotState) (g : Gathering) → sender_of server from.host qport ≡ Some c → slot_at server c ≡ Some slot
    → HasGathered server (with_slot server c (record slot { address = from; gathering = g })) from qport c slot g
found_still server from qport c slot g found there =
    let is = is_found server from.host qport c slot found there in
    let now = record slot { address = from; gathering = g } in
    let test = is_of from.host qport in
    let itself : test (Some now) ≡ true = rw (eq-eqb from.host from.host refl, eq-eqb slot.qport qport is.qport_is) refl in
    let before : test (get_or server.slots c None) ≡ true = (position-Some test server.slots c None found).1 in
    record {
      by = refl;
      map = refl;
      found = put_alike test server.slots c (Some now) None (itself ∙ sym before) ∙ found;
      address = from;
      there = get_or-set_same server.slots c (Some now) None is.within;
      same = λ other. ap (λ (slots : List (Option SlotState)). record server { slots = slots }) (set-set server.slots c (Some now) (Some other));
    }

-- a datagram of its client comes to the slot
comes_to : (server now : ServerState) (from : Address) (qport c : ℕ) (slot : SlotState) (g : Gathering) (bytes : List ℕ) → qport_of (is_checked server.profile.protocol) bytes ≡ Ok qport
    → (has : HasGathered server now from qport c slot g)
    → hears.take_at now from bytes ≡ taken_at server c (by_slot.take_slot server.profile server.map c from bytes (record slot { address = has.address; gathering = g }))
unfolding hears.take_at
comes_to server now from qport c slot g bytes told has =
    let before = record slot { address = has.address; gathering = g } in
    ap (λ (p : Profile). hears.take_headed now from bytes (qport_of (is_checked p.protocol) bytes)) has.by
    ∙ (ap (λ (r : Result ℕ NoQport). hears.take_headed now from bytes r) told
    ∙ (ap (λ (o : Option ℕ). hears.take_from now from bytes o) has.found
    ∙ (ap (λ (o : Option SlotState). hears.take_by now c from bytes o) has.there
    ∙ (ap (λ (p : Profile). taken_at now c (by_slot.take_slot p now.map c from bytes before)) has.by
    ∙ (ap (λ (m : MapState). taken_at now c (by_slot.take_slot server.profile m c from bytes before)) has.map
    ∙ placed (by_slot.take_slot server.profile server.map c from bytes before))))))
  where
    placed : (t : by_slot.SlotTaken) → taken_at now c t ≡ taken_at server c t
    placed t = ap (λ (s : ServerState). record { server = s; answer = t.answer; heard = t.heard }) (has.same t.slot)

-- a slot takes a piece that is partial
slot_piece : (profile : Profile) (map : MapState) (slot : SlotState) (c : ℕ) (address from : Address) (g : Gathering) (bytes : List ℕ) → (gathered_of g bytes).answer ≡ gathered.Partial
    → by_slot.take_slot profile map c from bytes (record slot { address = address; gathering = g })
    ≡ by_slot.answers (record slot { address = from; gathering = (gathered_of g bytes).gathering }) (SlotPartial c)
slot_piece profile map slot c address from g bytes partial =
    let took = gathered_of g bytes in
    ap (λ (a : Gathered). by_slot.take_answer map (record slot { address = from; gathering = took.gathering }) c a (λ n. said_by profile map slot took.message)) partial

-- and one with which a message comes whole
slot_whole : (profile : Profile) (map : MapState) (slot : SlotState) (c : ℕ) (address from : Address) (g : Gathering) (bytes : List ℕ) (number : ℕ) (message : List ℕ) (value : by_slot.Came)
    → Came g number message (gathered_of g bytes) → said_by profile map slot message ≡ Ok value
    → by_slot.take_slot profile map c from bytes (record slot { address = address; gathering = g })
    ≡ run_read map (record slot { address = from; gathering = (gathered_of g bytes).gathering }) c number (Ok value)
slot_whole profile map slot c address from g bytes number message value came read =
    let took = gathered_of g bytes in
    let then = record slot { address = from; gathering = took.gathering } in
    ap (λ (a : Gathered). by_slot.take_answer map then c a (λ n. said_by profile map slot took.message)) came.answer
    ∙ (ap (λ (m : List ℕ). run_read map then c number (said_by profile map slot m)) came.message_is
    ∙ ap (λ (r : Result by_slot.Came ClientIllegible). run_read map then c number r) read)

-- a message's datagrams tell its client's qport
abbrev AllTell : Bool → Header → ℕ → List ℕ → Type 0
AllTell checked header number message = (index : ℕ) → index ≤ last_index message → qport_of checked (datagram header number message index) ≡ Ok header.qport

-- whether each has a check is what the protocol says
pub checked_so : (checked : Bool) (challenge : ℕ) → is_some (cond checked (Some challenge) None) ≡ checked
checked_so true challenge = refl
checked_so false challenge = refl

all_tell : QportIsTold → (protocol challenge qport number : ℕ) (message : List ℕ) (g : Gathering) → qport < 2 ^ 16 → MayCome number message g
    → AllTell (is_checked protocol) (client_header (check_for protocol challenge) qport) number message
all_tell tells protocol challenge qport number message g short may =
    let header = client_header (check_for protocol challenge) qport in
    subst (λ (checked : Bool). AllTell checked header number message) (checked_so (is_checked protocol) challenge)
    (λ index within. tells header number index message refl short may.sent.fits may.sent.sendable (omega (arith, within)))

-- after so many first datagrams
server_first : (server : ServerState) (from : Address) (header : Header) (c : ℕ) (slot : SlotState) (number : ℕ) (message : List ℕ) (count : ℕ)
    → sender_of server from.host header.qport ≡ Some c → slot_at server c ≡ Some slot → AllTell (is_checked server.profile.protocol) header number message → Comes slot.gathering header number message → count ≤ last_index message
    → HasGathered server (server_after server from (first_datagrams header number message count)) from header.qport c slot (gathers_first slot.gathering header number message count)
unfolding server_after gathered_all
server_first server from header c slot number message zero found there tells does few =
    record { by = refl; map = refl; found = found; address = slot.address; there = there; same = λ other. refl }
server_first server from header c slot number message (suc count) found there tells does few =
    let bytes = datagram header number message count in
    let g = gathers_first slot.gathering header number message count in
    let now = server_after server from (first_datagrams header number message count) in
    let has = server_first server from header c slot number message count found there tells does (omega (arith, few)) in
    let took = gathered_of g bytes in
    let next = record slot { address = from; gathering = took.gathering } in
    let taken : hears.take_at now from bytes ≡ taken_at server c (by_slot.answers next (SlotPartial c)) =
    comes_to server now from header.qport c slot g bytes (tells count (omega (arith, few))) has
    ∙ ap (taken_at server c) (slot_piece server.profile server.map slot c has.address from g bytes (does.partial count (omega (arith, few)))) in
    let after : server_after server from (first_datagrams header number message (suc count)) ≡ with_slot server c next =
    ap (server_after server from) (first_more header number message count)
    ∙ (server_push server from (first_datagrams header number message count) bytes ∙ ap (λ (t : hears.Taken). t.server) taken) in
    subst (λ (s : ServerState). HasGathered server s from header.qport c slot (gathers_first slot.gathering header number message (suc count))) (sym after)
    (subst (λ (x : Gathering). HasGathered server (with_slot server c next) from header.qport c slot x) (sym (gathers_more slot.gathering header number message count))
    (found_still server from header.qport c slot took.gathering found there))

-- the form that a server's slot hears
slot_hears : (server : ServerState) (c : ℕ) (slot : SlotState) → c < length server.slots → slot_at server c ≡ Some slot → IsServerState server
    → slot.gathering.form ≡ client_form (check_for server.profile.protocol slot.challenge)
slot_hears server c slot within there is =
    let IsPlace : Option SlotState → Type 0 = λ found. IfSome found (IsJoined server.profile server.map.id) in
    let joined : IsJoined server.profile server.map.id slot = subst IsPlace there (All-get_or IsPlace server.slots c None within is.clients.each) in
    joined.hears

pub said_survives : SaidIsRead → PiecesComeWhole → FirstComePartial → QportIsTold → SaidSurvives
said_survives hears_back whole partial tells_qport profile codec server from qport c slot number said is_server by short found there may is takes same feeds =
    let message = said_bytes profile said in
    let header = client_header (check_for profile.protocol slot.challenge) qport in
    let heard = slot_hears server c slot (is_found server from.host qport c slot found there).within there is_server ∙ ap (λ (p : Profile). client_form (check_for p.protocol slot.challenge)) by in
    let does = comes whole partial slot.gathering header number message heard may in
    let tells = subst (λ (p : Profile). AllTell (is_checked p.protocol) header number message) (sym by) (all_tell tells_qport profile.protocol slot.challenge qport number message slot.gathering short may) in
    let read : said_by server.profile server.map slot message ≡ Ok (came_as server.map said.message) =
    ap (λ (p : Profile). said_by p server.map slot message) by ∙ hears_back profile codec server.map slot said is takes same feeds in
    let last = last_index message in
    let bytes : ℕ → List ℕ = datagram header number message in
    let gathers : ℕ → Gathering = gathers_first slot.gathering header number message in
    let now : ℕ → ServerState = λ index. server_after server from (first_datagrams header number message index) in
    let at_last = server_first server from header c slot number message last found there tells does (omega arith) in (
      λ index before.
          let has = server_first server from header c slot number message index found there tells does (omega (arith, before)) in (
            (gathered_of (gathers index) (bytes index)).gathering,
            comes_to server (now index) from qport c slot (gathers index) (bytes index) (tells index (omega (arith, before))) has
                ∙ ap (taken_at server c) (slot_piece server.profile server.map slot c has.address from (gathers index) (bytes index) (does.partial index before)),
          ),
      (
        (gathered_of (gathers last) (bytes last)).gathering,
        does.whole.taken,
        comes_to server (now last) from qport c slot (gathers last) (bytes last) (tells last (omega arith)) at_last
            ∙ ap (taken_at server c) (slot_whole server.profile server.map slot c at_last.address from (gathers last) (bytes last) number message (came_as server.map said.message) does.whole read),
      ),
    )
