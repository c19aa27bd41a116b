-- What each end keeps of one client, and that it stays so.
use Rattle.std.proofs.Common.{◌≡◌, ℕ, zero, suc, ◌+◌, ◌-◌, ◌^◌, ◌<◌, ◌≤◌, Bool, true, false, List, [], ◌∷◌, ◌++◌, length, get_or, Option, Some, None, refl, sym, ap, subst, ◌∙◌, inl, inr, arith}
use Rattle.std.specs.Prelude.{All, IfSome, if◌then◌else◌}
use Rattle.std.proofs.lemmas.List.{length_push, get_or_push}
use Rattle.std.proofs.lemmas.List.Elements.{All-nil, All-push, All-weaker, All-append}
use Rattle.arrayvec.specs.ArrayVec.{ArrayVec}
use Rattle.q3_profile.specs.declared.profile.Profile.{Profile}
use Rattle.q3_player.specs.State.{zero_player}
use Rattle.q3_player.specs.declared.state.PlayerState.{PlayerState}
use Rattle.q3_io.specs.declared.address.Address.{Address}
use Rattle.q3_chan.specs.Checks.{check_for}
use Rattle.q3_chan.specs.Datagrams.{server_form, client_form, server_header, client_header, sequence_end}
use Rattle.q3_chan.specs.Sending.{started, next_of}
use Rattle.q3_chan.specs.Gathering.{Gathering}
use Rattle.q3_chan.specs.Laws.{IsSendable, EndsSend}
use Rattle.q3_clmsg.specs.declared.moves.Move.{Move}
use Rattle.q3_clmsg.specs.Moves.{IsMove}
use Rattle.q3_text.specs.Texts.{IsText}
use Rattle.q3_window.specs.Outgoing.{OutgoingState, IsOutgoing}
use Rattle.q3_window.specs.Incoming.{IncomingState}
use Rattle.q3_window.specs.Laws.{StaysOutgoing}
use Rattle.q3_entity_ring.specs.Snapshot.{Snapshot}
use Rattle.q3_frames.specs.Frames.{FramesState, base_of, build_at}
use Rattle.q3_clstate.specs.State.{AppliedState, new_state}
use Rattle.q3_clstate.specs.Standing.{IsApplied}
use Rattle.q3_map.specs.Map.{MapState}
use Rattle.q3_slot.specs.declared.stage.ClientStage.{ClientStage}
use Rattle.q3_slot.specs.Slots.{changes_own}
use Rattle.q3_built.specs.Built.{Built, IsHeld, IsArea, IsNear, IsBuilt, built_bytes}
use Rattle.q3_slot.specs.Slot.{SlotState, new_slot, is_active, asked}
use Rattle.q3_slot.specs.Emitting.{played_snapshot, waiting_snapshot, next_snapshot, begun_next}
use Rattle.q3_slot.specs.Taking.{last_time, Playing}
use Rattle.q3_client.specs.Client.{ClientState, new_client, moves_after}
use Rattle.circular_buffer.specs.Buffer.{keep_last}
use Rattle.q3_client.specs.Moves.{most_moves, issue}
use Rattle.q3_client.specs.Sending.{said_bytes, Said, IsSaid, next_said}
use Rattle.q3_world.specs.Layers.{ServerLaws}
use Rattle.q3_world.specs.declared.places.Place.{Place}
use Rattle.q3_world.specs.World.{History, no_history, no_message, no_said, built_at, said_at}
use Rattle.q3_world.specs.StandsFor.{messages_of, messages_said, KeepsSlot, KeepsClient, AreEnds, IsClient, WasBuilt, HasSnapshot, AreOfBuilt, KeepsMoves, AreAsked}
use Rattle.q3_world.specs.Moves.{TimesRise, AreConsecutive}
use Rattle.q3_world.proofs.Growth.{was_built_more, each_more, messages_stay, messages_said_stay}
use Rattle.q3_world.proofs.Bases.{accepted_has, if_some, found_base}
use Rattle.q3_messages.proofs.Options.{if_some_then}
use Rattle.q3_world.proofs.BegunStays.{BeginsMessages-new, BeginsMessages-handed, BeginsMessages-started}
use Rattle.q3_world.proofs.MoveLists.{last_time-append, TimesRise-append, carried_consecutive, AreConsecutive-more, KeepsMoves-none, KeepsMoves-wiped, KeepsMoves-begun, KeepsMoves-push}

-- ---- presence

-- with no slot there is no client and no history
pub no_client : (profile : Profile) (place : Option Place) (history : History) → IsClient profile None place history → history ≡ no_history
no_client profile None history none = none
no_client profile (Some place) history none = absurd none

-- with no client there is no history
pub no_end : (profile : Profile) (slot : Option SlotState) (history : History) → IsClient profile slot None history → history ≡ no_history
no_end profile None history none = none
no_end profile (Some slot) history none = absurd none

-- with a slot there is a client
pub a_client : (profile : Profile) (slot : SlotState) (place : Option Place) (history : History) → IsClient profile (Some slot) place history
    → (found : Place) × (place ≡ Some found) × AreEnds profile slot found.client found.address history
a_client profile slot None history none = absurd none
a_client profile slot (Some place) history ends = (place, refl, ends)

-- with a client there is a slot
pub a_slot : (profile : Profile) (slot : Option SlotState) (place : Place) (history : History) → IsClient profile slot (Some place) history
    → (found : SlotState) × (slot ≡ Some found) × AreEnds profile found place.client place.address history
a_slot profile None place history none = absurd none
a_slot profile (Some slot) place history ends = (slot, refl, ends)

-- ---- what the server keeps

-- no area bytes
pub no_area : IsArea []
no_area = record { bytes = All-nil (λ (byte : ℕ). byte < 256); short = omega arith }

-- of a client that just joined
pub KeepsSlot-new : StaysOutgoing → (profile : Profile) (challenge qport : ℕ) (address : Address) → EndsSend → IsHeld profile zero_player
    → KeepsSlot profile (new_slot profile.protocol challenge qport address) qport address.host [] [] []
unfolding last_time
KeepsSlot-new stays profile challenge qport address chan first =
    record {
      qport = refl;
      host = refl;
      sending = BeginsMessages-new (server_form (check_for profile.protocol challenge)) 0 (messages_of profile []) chan;
      player = first;
      area = no_area;
      built = λ k d lt. absurd (omega (arith, lt));
      bases = All-nil _;
      from = refl;
      last = omega arith;
      rise = tt;
      window = stays.opens;
      texts = All-nil IsText;
      own = All-nil (λ (text : List ℕ). changes_own text ≡ false);
    }

module _ (profile : Profile) (slot : SlotState) (qport host : ℕ) (built : List Built) (run : List Move) (commands : List (List ℕ)) where
  -- another player and other area bytes
  pub KeepsSlot-given : (player : PlayerState) (area : ArrayVec ℕ) → IsHeld profile player → IsArea area.items → KeepsSlot profile slot qport host built run commands
      → KeepsSlot profile (record slot { player = player; area = area }) qport host built run commands
  KeepsSlot-given player area held is keeps =
      record {
        qport = keeps.qport;
        host = keeps.host;
        sending = keeps.sending;
        player = held;
        area = is;
        built = keeps.built;
        bases = keeps.bases;
        from = keeps.from;
        last = keeps.last;
        rise = keeps.rise;
        window = keeps.window;
        texts = keeps.texts;
        own = keeps.own;
      }

  -- a datagram came from its client's host
  pub KeepsSlot-came : (address : Address) (g : Gathering) → address.host ≡ host → g.form ≡ slot.gathering.form → KeepsSlot profile slot qport host built run commands
      → KeepsSlot profile (record slot { address = address; gathering = g }) qport host built run commands
  KeepsSlot-came address g from side keeps =
      record {
        qport = keeps.qport;
        host = from;
        sending = keeps.sending;
        player = keeps.player;
        area = keeps.area;
        built = keeps.built;
        bases = keeps.bases;
        from = side ∙ keeps.from;
        last = keeps.last;
        rise = keeps.rise;
        window = keeps.window;
        texts = keeps.texts;
        own = keeps.own;
      }

  -- how far its client came, what is owed to it, and what it asks for
  pub KeepsSlot-stands : (stage : ClientStage) (owed : Bool) (delta : ℕ) → KeepsSlot profile slot qport host built run commands
      → KeepsSlot profile (record slot { stage = stage; owed = owed; delta = delta }) qport host built run commands
  KeepsSlot-stands stage owed delta keeps =
      record {
        qport = keeps.qport;
        host = keeps.host;
        sending = keeps.sending;
        player = keeps.player;
        area = keeps.area;
        built = keeps.built;
        bases = keeps.bases;
        from = keeps.from;
        last = keeps.last;
        rise = keeps.rise;
        window = keeps.window;
        texts = keeps.texts;
        own = keeps.own;
      }

  -- an acknowledgement was taken, and nothing was run
  pub KeepsSlot-acknowledged : (issued : OutgoingState) (owed : Bool) → IsOutgoing issued → KeepsSlot profile slot qport host built run commands
      → KeepsSlot profile (record slot { issued = issued; owed = owed }) qport host built run commands
  KeepsSlot-acknowledged issued owed window keeps =
      record {
        qport = keeps.qport;
        host = keeps.host;
        sending = keeps.sending;
        player = keeps.player;
        area = keeps.area;
        built = keeps.built;
        bases = keeps.bases;
        from = keeps.from;
        last = keeps.last;
        rise = keeps.rise;
        window = window;
        texts = keeps.texts;
        own = keeps.own;
      }

  -- an acknowledgement was taken, and commands and moves were run
  pub KeepsSlot-ran : (issued : OutgoingState) (executed : IncomingState) (playing : Playing) → IsOutgoing issued → TimesRise 0 (run ++ playing.moves)
      → last_time 0 (run ++ playing.moves) ≤ playing.last_run → KeepsSlot profile slot qport host built run commands
      → KeepsSlot profile (record slot { stage = playing.stage; issued = issued; executed = executed; delta = playing.delta; last_run = playing.last_run }) qport host built (run ++ playing.moves) commands
  KeepsSlot-ran issued executed playing window rise last keeps =
      record {
        qport = keeps.qport;
        host = keeps.host;
        sending = keeps.sending;
        player = keeps.player;
        area = keeps.area;
        built = keeps.built;
        bases = keeps.bases;
        from = keeps.from;
        last = last;
        rise = rise;
        window = window;
        texts = keeps.texts;
        own = keeps.own;
      }

  -- commands were issued, none of which changes the map's id
  pub KeepsSlot-told : (issued : OutgoingState) (texts : List (List ℕ)) → IsOutgoing issued → All IsText texts → All (λ text. changes_own text ≡ false) texts
      → KeepsSlot profile slot qport host built run commands → KeepsSlot profile (record slot { issued = issued }) qport host built run (commands ++ texts)
  KeepsSlot-told issued texts window are own keeps =
      record {
        qport = keeps.qport;
        host = keeps.host;
        sending = keeps.sending;
        player = keeps.player;
        area = keeps.area;
        built = keeps.built;
        bases = keeps.bases;
        from = keeps.from;
        last = keeps.last;
        rise = keeps.rise;
        window = window;
        texts = All-append IsText commands texts keeps.texts are;
        own = All-append (λ (text : List ℕ). changes_own text ≡ false) commands texts keeps.own own;
      }

  -- a piece was handed out
  pub KeepsSlot-handed : EndsSend → KeepsSlot profile slot qport host built run commands
      → KeepsSlot profile (record slot { sending = (next_of slot.sending).sending }) qport host built run commands
  KeepsSlot-handed chan keeps =
      record {
        qport = keeps.qport;
        host = keeps.host;
        sending = BeginsMessages-handed (server_header (check_for profile.protocol slot.challenge)) (messages_of profile built) (length built) slot.sending chan keeps.sending;
        player = keeps.player;
        area = keeps.area;
        built = keeps.built;
        bases = keeps.bases;
        from = keeps.from;
        last = keeps.last;
        rise = keeps.rise;
        window = keeps.window;
        texts = keeps.texts;
        own = keeps.own;
      }

-- what is known of its base: it is near, it was built, and its number is the one that was asked for
abbrev pub BaseIs : ℕ → ℕ → List Built → Snapshot → Type 0
BaseIs n delta began base = IsNear n base × WasBuilt began base × (base.head.number ≡ delta)

pub next_number : (map : MapState) (slot : SlotState) → (next_snapshot map slot).head.number ≡ slot.sending.number + 1
next_number map slot = of_active (is_active slot.stage)
  where
    of_active : (active : Bool) → (if active then played_snapshot map slot else waiting_snapshot map slot).head.number ≡ slot.sending.number + 1
    of_active true = refl
    of_active false = refl

pub next_base : ServerLaws → (profile : Profile) (map : MapState) (frames : FramesState) (c : ℕ) (slot : SlotState) (began : List Built) → slot.sending.number ≡ length began
    → AreOfBuilt frames c began → (0 < asked slot → HasSnapshot began (asked slot)) → IfSome (begun_next profile map frames c slot).base (BaseIs (slot.sending.number + 1) (asked slot) began)
next_base laws profile map frames c slot began begun are has =
    let number = next_number map slot in
    if_some (begun_next profile map frames c slot).base (BaseIs (slot.sending.number + 1) (asked slot) began)
    (λ base is. subst (λ (n : ℕ). BaseIs n (asked slot) began base) number
    (found_base laws frames c (asked slot) began (next_snapshot map slot) base (omega (arith, begun, number)) are has
    (subst (λ (n : ℕ). base_of (build_at frames c (next_snapshot map slot)) c n (asked slot) ≡ Some base) (sym number) is)))

-- the snapshot that is asked for was built, if one is asked for
pub asked_has : (slot : SlotState) (said : List Said) (built : List Built) (accepted : List Snapshot) → All (WasBuilt built) accepted → AreAsked slot said built accepted
    → 0 < asked slot → HasSnapshot built (asked slot)
asked_has slot said built accepted were are = of_active (is_active slot.stage)
  where
    of_active : (active : Bool) → 0 < (if active then slot.delta else 0) → HasSnapshot built (if active then slot.delta else 0)
    of_active false some = absurd (omega (arith, some))
    of_active true some = elim are.delta [
      | inl none ↦ absurd (omega (arith, none, some))
      | inr was ↦ accepted_has built accepted slot.delta were was
    ]

-- one message more was begun, and is under way
abbrev pub slot_begun : Profile → SlotState → Built → SlotState
slot_begun profile slot built = record slot { sending = started slot.sending (built_bytes profile built) }

pub KeepsSlot-begun : (profile : Profile) (slot : SlotState) (qport host : ℕ) (built : List Built) (run : List Move) (commands : List (List ℕ)) (next : Built) → EndsSend
    → slot.sending.number + 1 < sequence_end → IsBuilt profile slot.challenge (slot.sending.number + 1) next → IsSendable (built_bytes profile next) → IfSome next.base (WasBuilt built)
    → KeepsSlot profile slot qport host built run commands → KeepsSlot profile (slot_begun profile slot next) qport host (built ++ next ∷ []) run commands
KeepsSlot-begun profile slot qport host built run commands next chan fits is sendable base keeps =
    let begun = keeps.sending.begun in
    let more = built ++ next ∷ [] in
    let longer = length_push built next in
    let last : messages_of profile more (suc (length built)) ≡ built_bytes profile next =
    let place : length built ≡ suc (length built) - 1 = omega arith in
    ap (built_bytes profile) (get_or_push built next no_message (suc (length built) - 1) place) in
    record {
      qport = keeps.qport;
      host = keeps.host;
      sending = BeginsMessages-started (server_header (check_for profile.protocol slot.challenge)) (messages_of profile built) (messages_of profile more) (length built) (length more) slot.sending (built_bytes profile next) chan
          (omega (arith, longer)) fits (messages_stay profile built (next ∷ [])) last sendable keeps.sending;
      player = keeps.player;
      area = keeps.area;
      built = each_more (λ (k : ℕ) (b : Built). IsBuilt profile slot.challenge (k + 1) b) built next keeps.built (subst (λ (k : ℕ). IsBuilt profile slot.challenge (k + 1) next) begun is);
      bases = All-push (λ (b : Built). IfSome b.base (WasBuilt more)) built next
          (All-weaker (λ (b : Built). IfSome b.base (WasBuilt built)) (λ (b : Built). IfSome b.base (WasBuilt more))
          (λ b. if_some_then b.base (WasBuilt built) (WasBuilt more) (was_built_more built (next ∷ []))) built keeps.bases)
          (if_some_then next.base (WasBuilt built) (WasBuilt more) (λ b was. was_built_more built (next ∷ []) b was) base);
      from = keeps.from;
      last = keeps.last;
      rise = keeps.rise;
      window = keeps.window;
      texts = keeps.texts;
      own = keeps.own;
    }

-- ---- what a client keeps

-- that just joined
pub KeepsClient-new : StaysOutgoing → (profile : Profile) (challenge qport dup : ℕ) → IsApplied (new_state profile) → EndsSend → qport < 2 ^ 16 → KeepsClient profile (new_client profile challenge qport dup) qport [] [] []
unfolding last_time
KeepsClient-new stays profile challenge qport dup first chan fits =
    record {
      by = refl;
      applied = first;
      ring = refl;
      from = refl;
      qport = refl;
      fits = fits;
      sending = BeginsMessages-new (client_form (check_for profile.protocol challenge)) qport (messages_said profile []) chan;
      said = λ k d lt. absurd (omega (arith, lt));
      last = refl;
      rise = tt;
      moves = KeepsMoves-none;
      carried = λ k d lt. absurd (omega (arith, lt));
      window = stays.opens;
      texts = All-nil IsText;
    }

-- one message more was begun, and is under way
abbrev pub client_begun : Profile → ClientState → ClientState
client_begun profile client = record client { sending = started client.sending (said_bytes profile (next_said client)) }

module _ (profile : Profile) (client : ClientState) (qport : ℕ) (said : List Said) (issued : List Move) (commands : List (List ℕ)) where
  -- a datagram came, and with it a message, if one did; a gamestate wipes the moves
  pub KeepsClient-took : (g : Gathering) (state : AppliedState) (message : List ℕ) (window : OutgoingState) (delta game : Bool) → IsApplied state → IsOutgoing window → g.form ≡ client.gathering.form → state.profile ≡ client.state.profile
      → state.held.ring ≡ client.state.held.ring → KeepsClient profile client qport said issued commands
      → KeepsClient profile (record client { gathering = g; state = state; message = message; issued = window; delta = delta; moves = moves_after game client.moves }) qport said issued commands
  KeepsClient-took g state message window delta game applied is side by ring keeps =
      record {
        by = by ∙ keeps.by;
        applied = applied;
        ring = ring ∙ keeps.ring;
        from = side ∙ keeps.from;
        qport = keeps.qport;
        fits = keeps.fits;
        sending = keeps.sending;
        said = keeps.said;
        last = keeps.last;
        rise = keeps.rise;
        moves = wiped game;
        carried = keeps.carried;
        window = is;
        texts = keeps.texts;
      }
    where
      wiped : (game : Bool) → KeepsMoves (moves_after game client.moves) (length said) issued
      wiped false = keeps.moves
      wiped true = KeepsMoves-wiped (length said) issued

  -- a piece was handed out
  pub KeepsClient-handed : EndsSend → KeepsClient profile client qport said issued commands
      → KeepsClient profile (record client { sending = (next_of client.sending).sending }) qport said issued commands
  KeepsClient-handed chan keeps =
      record {
        by = keeps.by;
        applied = keeps.applied;
        ring = keeps.ring;
        from = keeps.from;
        qport = keeps.qport;
        fits = keeps.fits;
        sending = BeginsMessages-handed (client_header (check_for profile.protocol client.challenge) qport) (messages_said profile said) (length said) client.sending chan keeps.sending;
        said = keeps.said;
        last = keeps.last;
        rise = keeps.rise;
        moves = keeps.moves;
        carried = keeps.carried;
        window = keeps.window;
        texts = keeps.texts;
      }

  -- a move was issued
  pub KeepsClient-issued : (one : Move) → IsMove one → client.last_time < one.time → KeepsClient profile client qport said issued commands
      → KeepsClient profile (issue client one) qport said (issued ++ one ∷ []) commands
  unfolding last_time
  KeepsClient-issued one is later keeps =
      let last = keeps.last in
      record {
        by = keeps.by;
        applied = keeps.applied;
        ring = keeps.ring;
        from = keeps.from;
        qport = keeps.qport;
        fits = keeps.fits;
        sending = keeps.sending;
        said = keeps.said;
        last = sym (last_time-append 0 issued (one ∷ []));
        rise = TimesRise-append 0 issued (one ∷ []) keeps.rise (omega (arith, later, last), tt);
        moves = subst (λ (begun : ℕ). KeepsMoves (keep_last most_moves (client.moves ++ record { begun = begun; one = one } ∷ [])) (length said) (issued ++ one ∷ []))
            (sym keeps.sending.begun) (KeepsMoves-push client.moves (length said) issued one is keeps.moves);
        carried = λ k d lt. AreConsecutive-more (get_or said k d).message.moves issued (one ∷ []) (keeps.carried k d lt);
        window = keeps.window;
        texts = keeps.texts;
      }

  -- a command was issued
  pub KeepsClient-typed : (window : OutgoingState) (text : List ℕ) → IsOutgoing window → IsText text → KeepsClient profile client qport said issued commands
      → KeepsClient profile (record client { issued = window }) qport said issued (commands ++ text ∷ [])
  KeepsClient-typed window text is_window is keeps =
      record {
        by = keeps.by;
        applied = keeps.applied;
        ring = keeps.ring;
        from = keeps.from;
        qport = keeps.qport;
        fits = keeps.fits;
        sending = keeps.sending;
        said = keeps.said;
        last = keeps.last;
        rise = keeps.rise;
        moves = keeps.moves;
        carried = keeps.carried;
        window = is_window;
        texts = All-push IsText commands text keeps.texts is;
      }

  -- a message was begun, and is under way
  pub KeepsClient-begun : EndsSend → client.sending.number + 1 < sequence_end → IsSaid profile client.challenge (next_said client) → IsSendable (said_bytes profile (next_said client))
      → KeepsClient profile client qport said issued commands → KeepsClient profile (client_begun profile client) qport (said ++ next_said client ∷ []) issued commands
  KeepsClient-begun chan fits is sendable keeps =
      let next = next_said client in
      let begun = keeps.sending.begun in
      let longer = length_push said next in
      let last : messages_said profile (said ++ next ∷ []) (suc (length said)) ≡ said_bytes profile next =
      let place : length said ≡ suc (length said) - 1 = omega arith in
      ap (said_bytes profile) (get_or_push said next no_said (suc (length said) - 1) place) in
      record {
        by = keeps.by;
        applied = keeps.applied;
        ring = keeps.ring;
        from = keeps.from;
        qport = keeps.qport;
        fits = keeps.fits;
        sending = BeginsMessages-started (client_header (check_for profile.protocol client.challenge) qport) (messages_said profile said) (messages_said profile (said ++ next ∷ [])) (length said) (length (said ++ next ∷ [])) client.sending (said_bytes profile next) chan
            (omega (arith, longer)) fits (messages_said_stay profile said (next ∷ [])) last sendable keeps.sending;
        said = each_more (λ (k : ℕ) (s : Said). IsSaid profile client.challenge s) said next keeps.said is;
        last = keeps.last;
        rise = keeps.rise;
        moves = KeepsMoves-begun client.moves (length said) (length (said ++ next ∷ [])) issued (omega (arith, longer)) keeps.moves;
        carried = each_more (λ (k : ℕ) (s : Said). AreConsecutive s.message.moves issued) said next keeps.carried
            (carried_consecutive (client.sending.number + 1) client.dup (length said) client.moves issued keeps.moves);
        window = keeps.window;
        texts = keeps.texts;
      }

-- ---- a piece is handed out

-- the bytes of the message under a number
pub at_number : (profile : Profile) (built : List Built) (number : ℕ) → 1 ≤ number → messages_of profile built number ≡ built_bytes profile (built_at built number)
at_number profile built zero some = absurd (omega (arith, some))
at_number profile built (suc number) some = refl

-- the bytes of the message under a number that the client began
pub said_number : (profile : Profile) (said : List Said) (number : ℕ) → 1 ≤ number → messages_said profile said number ≡ said_bytes profile (said_at said number)
said_number profile said zero some = absurd (omega (arith, some))
said_number profile said (suc number) some = refl
