-- What joins the ends of one client, and that it stays so.
use Rattle.std.proofs.Common.{◌≡◌, ℕ, zero, suc, ◌+◌, ◌<◌, ◌≤◌, Bool, true, false, List, [], ◌∷◌, ◌++◌, length, get_or, Option, Some, None, Result, refl, sym, ap, subst, ◌∙◌, inl, inr, arith}
use Rattle.std.specs.Prelude.{All, Contains, IfSome, ◌⊎◌, if◌then◌else◌, option_map, unwrap_or}
use Rattle.std.specs.List.{last_or}
use Rattle.std.specs.Result.{result_ok}
use Rattle.std.proofs.lemmas.List.{length_push, get_or_append_left, get_or_push}
use Rattle.std.proofs.lemmas.List.Elements.{All-nil, All-push, All-weaker, All-get_or, All-contains, All-from_get_or, Contains-push, Contains-append_left}
use Rattle.std.proofs.lemmas.Bool.{cases_lt}
use Rattle.q3_profile.specs.declared.profile.Profile.{Profile}
use Rattle.q3_io.specs.declared.address.Address.{Address}
use Rattle.q3_entity.specs.Entities.{most_entities}
use Rattle.q3_chan.specs.Checks.{check_for}
use Rattle.q3_chan.specs.Datagrams.{server_form, client_form}
use Rattle.q3_chan.specs.Gathering.{Gathering}
use Rattle.q3_chan.specs.Laws.{Gathers, EndsGather}
use Rattle.q3_clmsg.specs.declared.moves.Move.{Move}
use Rattle.q3_window.specs.Outgoing.{OutgoingState}
use Rattle.q3_entity_ring.specs.Snapshot.{Snapshot}
use Rattle.q3_rings.specs.Rings.{HeldSnapshots, accept_at, no_snapshots}
use Rattle.q3_rings.specs.declared.rings.NoBase.{NoBase}
use Rattle.q3_rings.specs.Accepted.{AcceptedFrom, newest_of, SnapshotsStandFor}
use Rattle.q3_clstate.specs.State.{AppliedState}
use Rattle.q3_client.specs.declared.moves.Issued.{Issued}
use Rattle.q3_built.specs.Built.{Built}
use Rattle.q3_slot.specs.Slot.{SlotState, new_slot, is_active, asked}
use Rattle.q3_client.specs.Client.{ClientState, new_client}
use Rattle.q3_client.specs.Sending.{Said}
use Rattle.q3_world.specs.Layers.{RingLaws}
use Rattle.q3_world.specs.StandsFor.{messages_of, messages_said, WasBuilt, Rise, WasAccepted, TakesBuilt, TakesSaid, AreAsked}
use Rattle.q3_world.proofs.Growth.{was_built_more, messages_stay, messages_said_stay}
use Rattle.q3_world.proofs.Bases.{was_built_one, was_accepted_more}
use Rattle.q3_messages.proofs.Options.{if_some_then}
use Rattle.q3_world.proofs.MoveLists.{contains_more}
use Rattle.q3_world.proofs.Clients.{BaseIs}

-- ---- what joins the ends

pub TakesBuilt-new : RingLaws → (profile : Profile) (challenge qport dup : ℕ) → EndsGather → 512 ≤ profile.parse_ring → TakesBuilt profile (new_client profile challenge qport dup) [] [] []
TakesBuilt-new laws profile challenge qport dup chan ring =
    record {
      accepted = All-nil (WasBuilt []);
      rise = λ j k d lt within. absurd (omega (arith, within));
      stands = laws.none profile.parse_ring ring;
      shows = refl;
      below = omega arith;
      most = All-nil _;
      asks = (λ asks. absurd cc, λ was. absurd (All-contains (λ (s : Snapshot). ⊥) [] was.0 (All-nil (λ (s : Snapshot). ⊥)) was.1));
      gathers = chan.begin (messages_of profile []) 0 (server_form (check_for profile.protocol challenge));
      legible = refl;
    }

pub AreAsked-new : (protocol challenge qport : ℕ) (address : Address) → AreAsked (new_slot protocol challenge qport address) [] [] []
AreAsked-new protocol challenge qport address = record { asks = All-nil _; delta = inl refl; bases = All-nil _ }

pub TakesSaid-new : (profile : Profile) (challenge qport : ℕ) (address : Address) → EndsGather → TakesSaid profile (new_slot profile.protocol challenge qport address) [] [] []
TakesSaid-new profile challenge qport address chan =
    record { gathers = chan.begin (messages_said profile []) 0 (client_form (check_for profile.protocol challenge)); ran = All-nil (Contains []) }

-- another state of the client that takes as it did
pub TakesBuilt-same : (profile : Profile) (client next : ClientState) (built : List Built) (accepted since : List Snapshot) → next.gathering ≡ client.gathering → next.state ≡ client.state
    → next.delta ≡ client.delta → next.dropped ≡ client.dropped → TakesBuilt profile client built accepted since → TakesBuilt profile next built accepted since
TakesBuilt-same profile client next built accepted since gathering state delta dropped takes =
    record {
      accepted = takes.accepted;
      rise = takes.rise;
      stands = rw state takes.stands;
      shows = rw state takes.shows;
      below = rw (gathering, state) takes.below;
      most = rw gathering takes.most;
      asks = (λ asks. rw gathering (takes.asks.0 (sym delta ∙ asks)), λ was. delta ∙ takes.asks.1 (subst (λ (g : Gathering). WasAccepted since g.taken) gathering was));
      gathers = rw gathering takes.gathers;
      legible = dropped ∙ takes.legible;
    }

-- and of the slot
pub TakesSaid-same : (profile : Profile) (slot next : SlotState) (said : List Said) (issued run : List Move) → next.gathering ≡ slot.gathering → TakesSaid profile slot said issued run
    → TakesSaid profile next said issued run
TakesSaid-same profile slot next said issued run gathering takes = record { gathers = rw gathering takes.gathers; ran = takes.ran }

-- one more message was built
pub TakesBuilt-more : (profile : Profile) (client : ClientState) (built : List Built) (accepted since : List Snapshot) (next : Built) → EndsGather
    → TakesBuilt profile client built accepted since → TakesBuilt profile client (built ++ next ∷ []) accepted since
TakesBuilt-more profile client built accepted since next chan takes =
    record {
      accepted = All-weaker (WasBuilt built) (WasBuilt (built ++ next ∷ [])) (was_built_more built (next ∷ [])) accepted takes.accepted;
      rise = takes.rise;
      stands = takes.stands;
      shows = takes.shows;
      below = takes.below;
      most = takes.most;
      asks = takes.asks;
      gathers = chan.more (messages_of profile built) (messages_of profile (built ++ next ∷ [])) (length built) (length (built ++ next ∷ []))
          client.gathering takes.gathers (omega (arith, length_push built next)) (messages_stay profile built (next ∷ []));
      legible = takes.legible;
    }

-- one more message was begun by the client
pub TakesSaid-more : (profile : Profile) (slot : SlotState) (said : List Said) (issued run : List Move) (next : Said) → EndsGather
    → TakesSaid profile slot said issued run → TakesSaid profile slot (said ++ next ∷ []) issued run
TakesSaid-more profile slot said issued run next chan takes =
    record {
      gathers = chan.more (messages_said profile said) (messages_said profile (said ++ next ∷ [])) (length said) (length (said ++ next ∷ []))
          slot.gathering takes.gathers (omega (arith, length_push said next)) (messages_said_stay profile said (next ∷ []));
      ran = takes.ran;
    }

-- one more move was issued
pub TakesSaid-issued : (profile : Profile) (slot : SlotState) (said : List Said) (issued run : List Move) (one : Move)
    → TakesSaid profile slot said issued run → TakesSaid profile slot said (issued ++ one ∷ []) run
TakesSaid-issued profile slot said issued run one takes = record { gathers = takes.gathers; ran = contains_more run issued (one ∷ []) takes.ran }

-- ---- what a client accepts

-- numbers rise where one above all comes after them
rise_more : (accepted : List Snapshot) (next : Snapshot) → Rise accepted
    → ((k : ℕ) (d : Snapshot) → k < length accepted → (get_or accepted k d).head.number < next.head.number) → Rise (accepted ++ next ∷ [])
rise_more accepted next rise above j k d lt within =
    elim (cases_lt k (length accepted)) [
      | inl inside ↦ rw (get_or_append_left accepted (next ∷ []) d k inside, get_or_append_left accepted (next ∷ []) d j (omega arith)) (rise j k d lt inside)
      | inr past ↦
          let e : length accepted ≡ k = omega (arith, length_push accepted next, within) in
          rw (get_or_push accepted next d k e, get_or_append_left accepted (next ∷ []) d j (omega arith)) (above j d (omega arith))
    ]

-- each accepted snapshot is at most the newest
at_most_from : (least : ℕ) (o : Option Snapshot) (accepted : List Snapshot) (k : ℕ) (d : Snapshot) → AcceptedFrom least accepted → k < length accepted
    → (get_or accepted k d).head.number ≤ unwrap_or (option_map (λ (s : Snapshot). s.head.number) (last_or o accepted)) 0
at_most_from least o [] k d are lt = absurd (omega (arith, lt))
at_most_from least o (first ∷ []) zero d are lt = omega arith
at_most_from least o (first ∷ []) (suc k) d are lt = absurd (omega (arith, lt))
at_most_from least o (first ∷ next ∷ others) zero d are lt =
    let after = at_most_from (first.head.number + 1) (Some first) (next ∷ others) 0 d are.2 (omega arith) in
    let more = are.2.0 in
    omega (arith, after, more)
at_most_from least o (first ∷ next ∷ others) (suc k) d are lt = at_most_from (first.head.number + 1) (Some first) (next ∷ others) k d are.2 (omega (arith, lt))

-- none that was accepted has a number above the newest
above_all : (accepted : List Snapshot) (held : HeldSnapshots) (number : ℕ) → SnapshotsStandFor accepted held → held.newest < number → WasAccepted accepted number → ⊥
above_all accepted held number stands above was =
    let most = All-from_get_or (λ (s : Snapshot). s.head.number ≤ newest_of accepted) accepted was.0 (λ k lt. at_most_from 1 None accepted k was.0 stands.accepted lt) in
    let least = All-contains (λ (s : Snapshot). s.head.number ≤ newest_of accepted) accepted was.0 most was.1 in
    let number_is = was.2 in
    let newest_is = stands.newest in
    omega (arith, least, number_is, newest_is, above)

-- the last of a list, and of one more
last_push : {X : Type 0} (o : Option X) (xs : List X) (x : X) → last_or o (xs ++ x ∷ []) ≡ Some x
last_push o [] x = refl
last_push o (y ∷ xs) x = last_push (Some y) xs x

-- more was gathered, or gathered anew, and no message came whole
pub TakesBuilt-gathered : (profile : Profile) (client : ClientState) (built : List Built) (accepted since : List Snapshot) (g : Gathering)
    → g.taken ≡ client.gathering.taken → Gathers (messages_of profile built) (length built) g
    → TakesBuilt profile client built accepted since → TakesBuilt profile (record client { gathering = g }) built accepted since
TakesBuilt-gathered profile client built accepted since g taken gathers takes =
    let below = takes.below in
    record {
      accepted = takes.accepted;
      rise = takes.rise;
      stands = takes.stands;
      shows = takes.shows;
      below = omega (arith, taken, below);
      most = rw taken takes.most;
      asks = (λ asks. rw taken (takes.asks.0 asks), λ was. takes.asks.1 (subst (WasAccepted since) taken was));
      gathers = gathers;
      legible = takes.legible;
    }

-- none that was accepted has a number above one that is above all
none_above : (accepted : List Snapshot) (most number : ℕ) → All (λ (s : Snapshot). s.head.number ≤ most) accepted → most < number → WasAccepted accepted number → ⊥
none_above accepted most number are above was =
    let least = All-contains (λ (s : Snapshot). s.head.number ≤ most) accepted was.0 are was.1 in
    let number_is = was.2 in
    omega (arith, least, number_is, above)

-- each is at most a greater number
most_rise : (accepted : List Snapshot) (most more : ℕ) → most ≤ more → All (λ (s : Snapshot). s.head.number ≤ most) accepted → All (λ (s : Snapshot). s.head.number ≤ more) accepted
most_rise accepted most more le are = All-weaker (λ (s : Snapshot). s.head.number ≤ most) (λ (s : Snapshot). s.head.number ≤ more) (λ s below. omega (arith, below, le)) accepted are

-- a newer message came whole of which no snapshot is accepted, and what is held stays
pub TakesBuilt-passed : (profile : Profile) (client : ClientState) (built : List Built) (accepted since : List Snapshot) (g : Gathering) (state : AppliedState) (message : List ℕ) (window : OutgoingState) (moves : List Issued)
    → client.gathering.taken < g.taken → Gathers (messages_of profile built) (length built) g → state.held ≡ client.state.held
    → TakesBuilt profile client built accepted since
    → TakesBuilt profile (record client { gathering = g; state = state; message = message; issued = window; delta = false; moves = moves }) built accepted since
TakesBuilt-passed profile client built accepted since g state message window moves newer gathers held takes =
    let below = takes.below in
    record {
      accepted = takes.accepted;
      rise = takes.rise;
      stands = rw held takes.stands;
      shows = rw held takes.shows;
      below = rw held (omega (arith, newer, below));
      most = most_rise accepted client.gathering.taken g.taken (omega (arith, newer)) takes.most;
      asks = (λ asks. absurd cc, λ was. absurd (above_all since client.state.held g.taken takes.stands (omega (arith, newer, below)) was));
      gathers = gathers;
      legible = takes.legible;
    }

-- a gamestate was applied: nothing is held any more
pub TakesBuilt-started : RingLaws → (profile : Profile) (client : ClientState) (built : List Built) (accepted since : List Snapshot) (g : Gathering) (state : AppliedState) (message : List ℕ) (window : OutgoingState) (moves : List Issued)
    → client.gathering.taken < g.taken → Gathers (messages_of profile built) (length built) g → 512 ≤ client.state.held.ring → state.held ≡ no_snapshots client.state.held.ring
    → TakesBuilt profile client built accepted since
    → TakesBuilt profile (record client { gathering = g; state = state; message = message; issued = window; delta = false; moves = moves }) built accepted []
TakesBuilt-started laws profile client built accepted since g state message window moves newer gathers ring held takes =
    record {
      accepted = takes.accepted;
      rise = takes.rise;
      stands = rw held (laws.none client.state.held.ring ring);
      shows = rw held refl;
      below = rw held (omega arith);
      most = most_rise accepted client.gathering.taken g.taken (omega (arith, newer)) takes.most;
      asks = (λ asks. absurd cc, λ was. absurd (All-contains (λ (s : Snapshot). ⊥) [] was.0 (All-nil (λ (s : Snapshot). ⊥)) was.1));
      gathers = gathers;
      legible = takes.legible;
    }

-- a newer snapshot that was built came whole and is accepted
pub TakesBuilt-accepted : RingLaws → (profile : Profile) (client : ClientState) (built : List Built) (accepted since : List Snapshot) (g : Gathering) (state : AppliedState) (message : List ℕ) (window : OutgoingState) (moves : List Issued) (snapshot : Snapshot)
    → g.taken ≡ snapshot.head.number → Gathers (messages_of profile built) (length built) g → length snapshot.entities ≤ most_entities
    → WasBuilt built snapshot → client.gathering.taken < snapshot.head.number → state.held ≡ accept_at client.state.held snapshot → TakesBuilt profile client built accepted since
    → TakesBuilt profile (record client { gathering = g; state = state; message = message; issued = window; delta = true; moves = moves }) built (accepted ++ snapshot ∷ []) (since ++ snapshot ∷ [])
TakesBuilt-accepted laws profile client built accepted since g state message window moves snapshot taken gathers few was newer held takes =
    let below = takes.below in
    let stands = takes.stands in
    let newest = stands.newest in
    let most = takes.most in
    record {
      accepted = All-push (WasBuilt built) accepted snapshot takes.accepted was;
      rise = rise_more accepted snapshot takes.rise (λ k d lt. let one = All-get_or (λ (s : Snapshot). s.head.number ≤ client.gathering.taken) accepted k d lt most in omega (arith, one, newer));
      stands = rw held (laws.added since client.state.held snapshot stands (omega (arith, below, newer)) few);
      shows = rw held (ap (λ (r : Result Snapshot NoBase). result_ok r) (laws.there client.state.held snapshot stands.held (omega (arith, below, newer)) few) ∙ sym (last_push None since snapshot));
      below = rw held (omega (arith, taken));
      most = All-push (λ (s : Snapshot). s.head.number ≤ g.taken) accepted snapshot (most_rise accepted client.gathering.taken g.taken (omega (arith, newer, taken)) most) (omega (arith, taken));
      asks = (λ asks. (snapshot, Contains-push since snapshot, sym taken), λ was. refl);
      gathers = gathers;
      legible = takes.legible;
    }

-- ---- what a client asks for

-- another state of the slot that writes against the same
pub AreAsked-same : (slot next : SlotState) (said : List Said) (built : List Built) (accepted : List Snapshot) → next.delta ≡ slot.delta
    → AreAsked slot said built accepted → AreAsked next said built accepted
AreAsked-same slot next said built accepted delta asked = record { asks = asked.asks; delta = rw delta asked.delta; bases = asked.bases }

-- a snapshot more was accepted
pub AreAsked-accepted : (slot : SlotState) (said : List Said) (built : List Built) (accepted : List Snapshot) (snapshot : Snapshot)
    → AreAsked slot said built accepted → AreAsked slot said built (accepted ++ snapshot ∷ [])
AreAsked-accepted slot said built accepted snapshot asked =
    let more = accepted ++ snapshot ∷ [] in
    record {
      asks = All-weaker (λ (s : Said). s.message.delta ≡ true → WasAccepted accepted s.message.acknowledged) (λ (s : Said). s.message.delta ≡ true → WasAccepted more s.message.acknowledged)
          (λ s so asks. was_accepted_more accepted (snapshot ∷ []) s.message.acknowledged (so asks)) said asked.asks;
      delta = elim asked.delta [ inl none ↦ inl none | inr was ↦ inr (was_accepted_more accepted (snapshot ∷ []) slot.delta was) ];
      bases = All-weaker (λ (b : Built). IfSome b.base (Contains accepted)) (λ (b : Built). IfSome b.base (Contains more))
          (λ b. if_some_then b.base (Contains accepted) (Contains more) (λ base. Contains-append_left accepted (snapshot ∷ []) base)) built asked.bases;
    }

-- a message more was said
pub AreAsked-said : (slot : SlotState) (said : List Said) (built : List Built) (accepted : List Snapshot) (next : Said)
    → (next.message.delta ≡ true → WasAccepted accepted next.message.acknowledged) → AreAsked slot said built accepted → AreAsked slot (said ++ next ∷ []) built accepted
AreAsked-said slot said built accepted next asks asked =
    record {
      asks = All-push (λ (s : Said). s.message.delta ≡ true → WasAccepted accepted s.message.acknowledged) said next asked.asks asks;
      delta = asked.delta;
      bases = asked.bases;
    }

-- a message was run, after which a slot writes against another
pub AreAsked-ran : (slot next : SlotState) (said : List Said) (built : List Built) (accepted : List Snapshot)
    → (next.delta ≡ 0) ⊎ WasAccepted accepted next.delta → AreAsked slot said built accepted → AreAsked next said built accepted
AreAsked-ran slot next said built accepted is asked = record { asks = asked.asks; delta = is; bases = asked.bases }

-- the snapshot that was accepted under the number of one that was built is that one
pub accepted_is_built : (built : List Built) (accepted : List Snapshot) (base : Snapshot) → All (WasBuilt built) accepted → WasBuilt built base
    → WasAccepted accepted base.head.number → Contains accepted base
accepted_is_built built accepted base were was one =
    subst (Contains accepted) (was_built_one built one.0 base one.2 (All-contains (WasBuilt built) accepted one.0 were one.1) was) one.1

-- a message more was built, against a base that was asked for
pub AreAsked-built : (slot next : SlotState) (said : List Said) (built : List Built) (accepted : List Snapshot) (n : ℕ) (message : Built) → next.delta ≡ slot.delta
    → All (WasBuilt built) accepted → IfSome message.base (BaseIs n (asked slot) built)
    → AreAsked slot said built accepted → AreAsked next said (built ++ message ∷ []) accepted
AreAsked-built slot next said built accepted n message delta were base are =
    record {
      asks = are.asks;
      delta = rw delta are.delta;
      bases = All-push (λ (b : Built). IfSome b.base (Contains accepted)) built message are.bases
          (if_some_then message.base (BaseIs n (asked slot) built) (Contains accepted) (λ b known. accepted_is_built built accepted b were known.1 (asked_for b known)) base);
    }
  where
    asked_or : (active : Bool) → ((if active then slot.delta else 0) ≡ 0) ⊎ WasAccepted accepted (if active then slot.delta else 0)
    asked_or true = are.delta
    asked_or false = inl refl

    asked_for : (b : Snapshot) → BaseIs n (asked slot) built b → WasAccepted accepted b.head.number
    asked_for b known =
        let near = known.0.some in
        let number = known.2 in
        elim (asked_or (is_active slot.stage)) [
          | inl none ↦ absurd (omega (arith, none, near, number))
          | inr was ↦ subst (WasAccepted accepted) (sym number) was
        ]
