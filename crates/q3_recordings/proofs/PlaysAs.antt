-- A recording plays as its client applied: message by message.
use Rattle.std.proofs.Common.{◌≡◌, ◌⊎◌, ℕ, ◌-◌, ◌^◌, ◌<◌, ◌≤◌, Bool, true, false, List, [], ◌∷◌, Option, None, Some, Result, Ok, inl, inr, refl, sym, ap, subst, ◌∙◌, arith}
use Rattle.std.specs.Prelude.{nat_lt, ◌==◌, ◌&&◌, if◌then◌else◌}
use Rattle.std.proofs.lemmas.Bool.{cases_lt, lt-ltb, cond_both, lt-leb, ltb-true, ltb-false, eqb-true}
use Rattle.std.specs.Result.{result_ok}
use Rattle.q3_bits.specs.Bits.{bits_of}
use Rattle.q3_bits.specs.ResultBind.{◌>>=◌}
use Rattle.q3_bits.proofs.Binds.{bind_ok}
use Rattle.q3_text.specs.declared.text.Command.{Command}
use Rattle.q3_window.specs.Incoming.{IncomingState, fresh_of, executing_all, executes, jump_at, new_incoming}
use Rattle.q3_config.specs.Strings.{Strings}
use Rattle.q3_config.specs.Changes.{after_command, without_pending}
use Rattle.q3_player.specs.declared.head.SnapHead.{SnapHead}
use Rattle.q3_entity.specs.declared.state.EntityState.{EntityState}
use Rattle.q3_entity.specs.Baselines.{Baselines}
use Rattle.q3_profile.specs.declared.profile.Profile.{Profile}
use Rattle.q3_gamestate.specs.Values.{Gamestate}
use Rattle.q3_svmsg.specs.Values.{Context, Told, Nothing, Game, Snap, Skipped, HasNumber, Message}
use Rattle.q3_svmsg.specs.declared.error.Illegible.{Illegible}
use Rattle.q3_svmsg.specs.Reading.{server_message_in}
use Rattle.q3_svmsg.specs.Laws.{IsReadTold, IsRead, ReadIsSpelled, SpelledIsRead}
use Rattle.q3_entity_ring.specs.Snapshot.{Snapshot}
use Rattle.q3_rings.specs.declared.rings.NoBase.{NoBase}
use Rattle.q3_rings.specs.Rings.{HeldSnapshot, HeldSnapshots, no_snapshots, held_snapshot, view_at, accept_at}
use Rattle.q3_clstate.specs.declared.applied.SnapOutcome.{SnapOutcome}
use Rattle.q3_clstate.specs.declared.applied.SnapOutcome.TheVariants.{NoSnap, Accepted, Skipped as SkippedFor, Stale}
use Rattle.q3_clstate.specs.State.{AppliedState, Application, new_state, context_of, passes, accepts, applies_game, is_stale, skipped_for, apply_section, Settings, settled, tells_id, after_texts, hearing, apply_read, apply_at}
use Rattle.q3_clstate.specs.Standing.{IsApplied}
use Rattle.q3_clstate.specs.Laws.{AppliedIsContext}
use Rattle.q3_demo.specs.Recording.{Noted, is_whole, is_before}
use Rattle.q3_recordings.specs.Plays.{IsNoted}
use Rattle.q3_recordings.proofs.HeldSince.{held_since, view_new, in_ring, accept_since, none_since, before_since, first_since}
use Rattle.q3_recordings.proofs.ReadAlike.{NamesSince, read_is, read_since}
use Rattle.q3_recordings.proofs.ComposedGames.{told_in}

-- what plays is as the client is, but for snapshots before the first that is recorded, for the text of the last command and for the map's id
pub record PlaysAs (when : Type 0) (first : ℕ) (client play : AppliedState) : Type 0 where
  pub profile : play.profile ≡ client.profile
  pub executed : play.executed.executed ≡ client.executed.executed
  pub strings : when → play.strings ≡ client.strings
  pub baselines : play.baselines ≡ client.baselines
  pub slot : play.slot ≡ client.slot
  pub feed : play.feed ≡ client.feed
  pub held : play.held ≡ held_since first client.held

-- the same but for snapshots
record SaysAs (when : Type 0) (client play : AppliedState) : Type 0 where
  profile : play.profile ≡ client.profile
  executed : play.executed.executed ≡ client.executed.executed
  strings : when → play.strings ≡ client.strings
  baselines : play.baselines ≡ client.baselines
  slot : play.slot ≡ client.slot
  feed : play.feed ≡ client.feed

says : {when : Type 0} → (first : ℕ) (client play : AppliedState) → PlaysAs when first client play → SaysAs when client play
says {when} first client play like = record {
  profile = like.profile;
  executed = like.executed;
  strings = like.strings;
  baselines = like.baselines;
  slot = like.slot;
  feed = like.feed;
}

-- one message more that plays as the client applied it
record DoesAs (when : Type 0) (first : ℕ) (client play : Application) : Type 0 where
  accepted : play.accepted ≡ client.accepted
  heard : play.heard ≡ client.heard
  plays : PlaysAs when first client.state play.state

-- what a message's bytes do while it plays
pub record Plays (when : Type 0) (first : ℕ) (noted : Noted) (play : AppliedState) (message : List ℕ) : Type 0 where
  pub applied : Application
  pub applies : apply_at play noted.applied.answer.number message ≡ Ok applied
  pub accepted : applied.accepted ≡ noted.applied.accepted
  pub number : applied.answer.number ≡ noted.applied.answer.number
  pub heard : applied.heard ≡ noted.applied.heard
  pub plays : PlaysAs when first noted.applied.state applied.state

-- ---- commands

after_alike : (window other : IncomingState) (commands : List Command) → other.executed ≡ window.executed → (executing_all other commands).executed ≡ (executing_all window commands).executed
unfolding executing_all
after_alike window other [] same = same
after_alike window other (command ∷ commands) same = refl

executes_alike : (window other : IncomingState) (commands : List Command) → other.executed ≡ window.executed → (executes other commands).executed ≡ (executes window commands).executed
executes_alike window other commands same =
    ap (λ (executed : ℕ). (executing_all other (fresh_of executed commands)).executed) same ∙ after_alike window other (fresh_of window.executed commands) same

texts_alike : (settings other : Settings) (commands : List Command) → other.strings ≡ settings.strings → (after_texts other commands).strings ≡ (after_texts settings commands).strings
unfolding after_texts
texts_alike settings other [] same = same
texts_alike settings other (command ∷ commands) same =
    texts_alike (settled settings.id (tells_id command.text) (after_command settings.strings command.text)) (settled other.id (tells_id command.text) (after_command other.strings command.text)) commands
    (ap (λ (strings : Strings). (after_command strings command.text).strings) same)

hearing_says : {when : Type 0} → (client play : AppliedState) (commands : List Command) → SaysAs when client play → SaysAs when (hearing client commands) (hearing play commands)
hearing_says {when} client play commands like = record {
  profile = like.profile;
  executed = executes_alike client.executed play.executed commands like.executed;
  strings = λ w.
      ap (λ (executed : ℕ). (after_texts (record { strings = play.strings; id = play.id }) (fresh_of executed commands)).strings) like.executed
      ∙ texts_alike (record { strings = client.strings; id = client.id }) (record { strings = play.strings; id = play.id }) (fresh_of client.executed.executed commands) (like.strings w);
  baselines = like.baselines;
  slot = like.slot;
  feed = like.feed;
}

-- ---- sections

-- so of which no snapshot is accepted
passes_alike : {when : Type 0} → (first : ℕ) (client play : AppliedState) (number : ℕ) (outcome other : SnapOutcome) → SaysAs when client play → play.held ≡ held_since first client.held
    → DoesAs when first (passes client number outcome) (passes play number other)
passes_alike {when} first client play number outcome other like held = record {
  accepted = refl;
  heard = refl;
  plays = record { profile = like.profile; executed = like.executed; strings = like.strings; baselines = like.baselines; slot = like.slot; feed = like.feed; held = held };
}

jumped_to : (window : IncomingState) (number : ℕ) → (jump_at window number).executed ≡ number
jumped_to window number =
    cond_both (number == window.executed) window (record { executed = number; last = [] }) (λ (window : IncomingState). window.executed ≡ number)
    (λ e. sym (eqb-true number window.executed e)) (λ e. refl)

game_alike : {when : Type 0} → (first : ℕ) (client play : AppliedState) (number : ℕ) (game : Gamestate) → SaysAs when client play → play.held ≡ held_since first client.held
    → DoesAs when first (applies_game client number game) (applies_game play number game)
game_alike {when} first client play number game like held = record {
  accepted = refl;
  heard = refl;
  plays = record {
    profile = like.profile;
    executed = jumped_to play.executed game.command ∙ sym (jumped_to client.executed game.command);
    strings = λ w. refl;
    baselines = refl;
    slot = refl;
    feed = refl;
    held = ap (λ (held : HeldSnapshots). no_snapshots held.ring) held ∙ sym (none_since first client.held.ring);
  };
}

-- and so a snapshot, whatever it was read against
accepts_alike : {when : Type 0} → (first : ℕ) (client play : AppliedState) (number base other : ℕ) (snapshot : Snapshot) → SaysAs when client play
    → accept_at play.held snapshot ≡ held_since first (accept_at client.held snapshot) → DoesAs when first (accepts client number base snapshot) (accepts play number other snapshot)
accepts_alike {when} first client play number base other snapshot like held = record {
  accepted = refl;
  heard = refl;
  plays = record { profile = like.profile; executed = like.executed; strings = like.strings; baselines = like.baselines; slot = like.slot; feed = like.feed; held = held };
}

-- which isn't stale
if_fresh : (held : HeldSnapshots) (number : ℕ) (stale fresh : Application) → held.newest < number → (if is_stale held number then stale else fresh) ≡ fresh
if_fresh held number stale fresh newer = ap (λ (b : Bool). if b then stale else fresh) (lt-leb number held.newest newer)

snap_alike : {when : Type 0} → (first : ℕ) (client play : AppliedState) (number base other : ℕ) (head : SnapHead) (entities : List EntityState) → SaysAs when client play
    → accept_at play.held (record { head = head; entities = entities }) ≡ held_since first (accept_at client.held (record { head = head; entities = entities }))
    → client.held.newest < number → play.held.newest < number
    → DoesAs when first (apply_section client number (Snap base head entities)) (apply_section play number (Snap other head entities))
snap_alike {when} first client play number base other head entities like held newer fresh =
    let snapshot : Snapshot = record { head = head; entities = entities } in
    let here = if_fresh client.held number (passes client number Stale) (accepts client number base snapshot) newer in
    let there = if_fresh play.held number (passes play number Stale) (accepts play number other snapshot) fresh in
    subst (λ (applied : Application). DoesAs when first applied (apply_section play number (Snap other head entities))) (sym here)
    (subst (DoesAs when first (accepts client number base snapshot)) (sym there) (accepts_alike first client play number base other snapshot like held))

skip_alike : {when : Type 0} → (first : ℕ) (client play : AppliedState) (number base : ℕ) → SaysAs when client play → play.held ≡ held_since first client.held
    → client.held.newest < number → play.held.newest < number
    → DoesAs when first (apply_section client number (Skipped base)) (apply_section play number (Skipped base))
skip_alike {when} first client play number base like held newer fresh =
    let outcome = SkippedFor base (skipped_for (held_snapshot client.held base)) in
    let other = SkippedFor base (skipped_for (held_snapshot play.held base)) in
    let here = if_fresh client.held number (passes client number Stale) (passes client number outcome) newer in
    let there = if_fresh play.held number (passes play number Stale) (passes play number other) fresh in
    subst (λ (applied : Application). DoesAs when first applied (apply_section play number (Skipped base))) (sym here)
    (subst (DoesAs when first (passes client number outcome)) (sym there) (passes_alike first client play number outcome other like held))

newest_as : (first : ℕ) (client play : HeldSnapshots) (number : ℕ) → play ≡ held_since first client → client.newest < number → play.newest < number
newest_as first client play number held newer =
    let same : play.newest ≡ client.newest = ap (λ (held : HeldSnapshots). held.newest) held in
    omega (arith, same, newer)

accepts_as : (first : ℕ) (client play : HeldSnapshots) (snapshot : Snapshot) → play ≡ held_since first client → first ≤ snapshot.head.number
    → accept_at play snapshot ≡ held_since first (accept_at client snapshot)
accepts_as first client play snapshot held from = ap (λ (held : HeldSnapshots). accept_at held snapshot) held ∙ sym (accept_since first client snapshot from)

section_does : {when : Type 0} → (first : ℕ) (client play : AppliedState) (number : ℕ) (section : Told) → SaysAs when client play → play.held ≡ held_since first client.held → client.held.newest < number
    → first ≤ number → HasNumber number section → DoesAs when first (apply_section client number section) (apply_section play number section)
section_does {when} first client play number Nothing like held newer from under = passes_alike first client play number NoSnap NoSnap like held
section_does {when} first client play number (Game game) like held newer from under = game_alike first client play number game like held
section_does {when} first client play number (Snap base head entities) like held newer from under =
    snap_alike first client play number base base head entities like
    (accepts_as first client.held play.held (record { head = head; entities = entities }) held (omega (arith, from, under))) newer (newest_as first client.held play.held number held newer)
section_does {when} first client play number (Skipped base) like held newer from under =
    skip_alike first client play number base like held newer (newest_as first client.held play.held number held newer)

-- ---- a message that was read

-- the commands are executed alike
heard_does : {when : Type 0} → (first : ℕ) (client play : AppliedState) (number : ℕ) (message other : Message) → other.commands ≡ message.commands → SaysAs when client play
    → DoesAs when first (apply_section (hearing client message.commands) number message.section) (apply_section (hearing play message.commands) number other.section)
    → DoesAs when first (apply_read client number message) (apply_read play number other)
heard_does {when} first client play number message other same like does =
    let under : DoesAs when first (apply_section (hearing client message.commands) number message.section) (apply_section (hearing play other.commands) number other.section) =
    subst (λ (commands : List Command). DoesAs when first (apply_section (hearing client message.commands) number message.section) (apply_section (hearing play commands) number other.section)) (sym same) does in
    record {
      accepted = under.accepted;
      heard = ap (λ (executed : ℕ). fresh_of executed other.commands) like.executed ∙ ap (fresh_of client.executed.executed) same;
      plays = under.plays;
    }

-- what was read of a message that the client applied
pub record HasRead (noted : Noted) : Type 0 where
  pub read : Message
  pub reads : server_message_in noted.before.profile (context_of noted.before.held noted.before.baselines) noted.applied.answer.number (bits_of noted.message) ≡ Ok read
  pub does : noted.applied ≡ apply_read noted.before noted.applied.answer.number read
  pub is : IsRead noted.before.profile (context_of noted.before.held noted.before.baselines) noted.applied.answer.number read

pub has_read : ReadIsSpelled → AppliedIsContext → (noted : Noted) → IsNoted noted → HasRead noted
has_read spelled context noted is =
    let number = noted.applied.answer.number in
    let before = noted.before in
    let found = bind_ok (server_message_in before.profile (context_of before.held before.baselines) number (bits_of noted.message)) (λ (read : Message). Ok (apply_read before number read)) noted.applied is.applies in
    let fits : number < 2 ^ 32 = let below = is.number in omega arith in
    let does : apply_read before number found.0 ≡ noted.applied = cc in
    record {
      read = found.0;
      reads = found.1;
      does = sym does;
      is = read_is spelled before.profile (context_of before.held before.baselines) number found.0 (bits_of noted.message) is.stands.profile (context before is.stands) fits found.1;
    }

-- what is answered has the message's number
section_answers : (state : AppliedState) (number : ℕ) (told : Told) → (apply_section state number told).answer.number ≡ number
section_answers state number Nothing = refl
section_answers state number (Game game) = refl
section_answers state number (Snap base head entities) =
    cond_both (is_stale state.held number) (passes state number Stale) (accepts state number base (record { head = head; entities = entities }))
    (λ (applied : Application). applied.answer.number ≡ number) (λ e. refl) (λ e. refl)
section_answers state number (Skipped base) =
    cond_both (is_stale state.held number) (passes state number Stale) (passes state number (SkippedFor base (skipped_for (held_snapshot state.held base))))
    (λ (applied : Application). applied.answer.number ≡ number) (λ e. refl) (λ e. refl)

-- what is read while it plays does as the client's did
plays_read : {when : Type 0} → (first : ℕ) (noted : Noted) (play : AppliedState) (message : List ℕ) (read : Message)
    → server_message_in play.profile (context_of play.held play.baselines) noted.applied.answer.number (bits_of message) ≡ Ok read
    → DoesAs when first noted.applied (apply_read play noted.applied.answer.number read) → Plays when first noted play message
plays_read {when} first noted play message read reads does = record {
  applied = apply_read play noted.applied.answer.number read;
  applies = ap (λ r. r >>= λ (read : Message). Ok (apply_read play noted.applied.answer.number read)) reads;
  accepted = does.accepted;
  number = section_answers (hearing play read.commands) noted.applied.answer.number read.section;
  heard = does.heard;
  plays = does.plays;
}

-- and so of any reading of it
pub has_read_of : ReadIsSpelled → AppliedIsContext → (noted : Noted) → IsNoted noted → (read : Message)
    → server_message_in noted.before.profile (context_of noted.before.held noted.before.baselines) noted.applied.answer.number (bits_of noted.message) ≡ Ok read
    → (has : HasRead noted) × (has.read ≡ read)
has_read_of spelled context noted is read reads =
    let has = has_read spelled context noted is in
    let e : Some has.read ≡ Some read = ap (λ (answer : Result Message Illegible). result_ok answer) (sym has.reads ∙ reads) in
    (has, cc)

newer_than : (noted : Noted) → IsNoted noted → noted.before.held.newest < noted.applied.answer.number
newer_than noted is = let newest = is.newest in let newer = is.newer in omega (arith, newest, newer)

-- ---- one that names no base below the first

not_both : (x y : Bool) → (x && y) ≡ false → x ≡ true → y ≡ false
not_both true y e first = e
not_both false y e first = absurd cc

from_named : (first base : ℕ) → is_before first (Accepted base) ≡ false → (base ≡ 0) ⊎ (first ≤ base)
from_named first base e = elim (cases_lt 0 base) [
  | inl some ↦ inr (ltb-false base first (not_both (nat_lt 0 base) (nat_lt base first) e (lt-ltb 0 base some)))
  | inr none ↦ inl (omega arith)
]

section_names : (first : ℕ) (state : AppliedState) (number : ℕ) (section : Told) → state.held.newest < number
    → is_before first (apply_section state number section).answer.snap ≡ false → NamesSince first section
section_names first state number (Snap base head entities) newer e =
    let here = if_fresh state.held number (passes state number Stale) (accepts state number base (record { head = head; entities = entities })) newer in
    from_named first base (sym (ap (λ (applied : Application). is_before first applied.answer.snap) here) ∙ e)
section_names first state number section newer e = tt

-- what plays reads what its client would, if it held only those
read_by : {when : Type 0} → (first : ℕ) (client play : AppliedState) (number : ℕ) (bits : List Bool) (read : Message) → PlaysAs when first client play
    → server_message_in client.profile (context_of (held_since first client.held) client.baselines) number bits ≡ Ok read → server_message_in play.profile (context_of play.held play.baselines) number bits ≡ Ok read
read_by {when} first client play number bits read like e =
    ap (λ (profile : Profile). server_message_in profile (context_of play.held play.baselines) number bits) like.profile
    ∙ ap (λ (held : HeldSnapshots). server_message_in client.profile (context_of held play.baselines) number bits) like.held
    ∙ ap (λ (baselines : Baselines). server_message_in client.profile (context_of (held_since first client.held) baselines) number bits) like.baselines
    ∙ e

-- it plays by its own bytes
pub plays_step : {when : Type 0} → ReadIsSpelled → SpelledIsRead → AppliedIsContext → (first : ℕ) (noted : Noted) (play : AppliedState) → PlaysAs when first noted.before play → IsNoted noted
    → first ≤ noted.applied.answer.number → is_before first noted.applied.answer.snap ≡ false → Plays when first noted play noted.message
plays_step {when} spelled is_read context first noted play like is from apart =
    let number = noted.applied.answer.number in
    let before = noted.before in
    let has = has_read spelled context noted is in
    let read = has.read in
    let newer = newer_than noted is in
    let fits : number < 2 ^ 32 = let below = is.number in omega (arith, below) in
    let named = section_names first (hearing before read.commands) number read.section newer (ap (λ (applied : Application). is_before first applied.answer.snap) (sym has.does) ∙ apart) in
    let since = read_since spelled is_read before.profile first before.held before.baselines number read (bits_of noted.message) is.stands.profile (context before is.stands) fits named has.reads in
    let does = heard_does first before play number read read refl (says first before play like)
    (section_does first (hearing before read.commands) (hearing play read.commands) number read.section (hearing_says before play read.commands (says first before play like)) like.held newer from has.is.number_is) in
    plays_read first noted play noted.message read (read_by first before play number (bits_of noted.message) read like since)
    (subst (λ (applied : Application). DoesAs when first applied (apply_read play number read)) (sym has.does) does)

-- ---- the state after a message has its number

pub section_number : (state : AppliedState) (number : ℕ) (told : Told) → (apply_section state number told).state.number ≡ number
section_number state number Nothing = refl
section_number state number (Game game) = refl
section_number state number (Snap base head entities) =
    cond_both (is_stale state.held number) (passes state number Stale) (accepts state number base (record { head = head; entities = entities }))
    (λ (applied : Application). applied.state.number ≡ number) (λ e. refl) (λ e. refl)
section_number state number (Skipped base) =
    cond_both (is_stale state.held number) (passes state number Stale) (passes state number (SkippedFor base (skipped_for (held_snapshot state.held base))))
    (λ (applied : Application). applied.state.number ≡ number) (λ e. refl) (λ e. refl)

-- ---- a snapshot that was accepted

-- what was read of it
pub record IsSnap (noted : Noted) (message : Message) (base : ℕ) : Type 0 where
  pub head : SnapHead
  pub entities : List EntityState
  pub section : message.section ≡ Snap base head entities
  pub under : head.number ≡ noted.applied.answer.number
  pub accepted : noted.applied.accepted ≡ Some (record { head = head; entities = entities })
  pub held : noted.applied.state.held ≡ accept_at noted.before.held (record { head = head; entities = entities })

-- as a section that does so
record DoesSnap (state : AppliedState) (number : ℕ) (told : Told) (base : ℕ) : Type 0 where
  head : SnapHead
  entities : List EntityState
  section : told ≡ Snap base head entities
  under : head.number ≡ number
  accepted : (apply_section state number told).accepted ≡ Some (record { head = head; entities = entities })
  held : (apply_section state number told).state.held ≡ accept_at state.held (record { head = head; entities = entities })

section_snap : (state : AppliedState) (number : ℕ) (told : Told) (base : ℕ) → state.held.newest < number → HasNumber number told
    → (apply_section state number told).answer.snap ≡ Accepted base → DoesSnap state number told base
section_snap state number Nothing base newer under e = absurd cc
section_snap state number (Game game) base newer under e = absurd cc
section_snap state number (Snap other head entities) base newer under e =
    let here = if_fresh state.held number (passes state number Stale) (accepts state number other (record { head = head; entities = entities })) newer in
    let same : other ≡ base = one_base (sym (ap (λ (applied : Application). applied.answer.snap) here) ∙ e) in
    record {
      head = head;
      entities = entities;
      section = ap (λ (base : ℕ). Snap base head entities) same;
      under = under;
      accepted = ap (λ (applied : Application). applied.accepted) here;
      held = ap (λ (applied : Application). applied.state.held) here;
    }
  where
    one_base : {one two : ℕ} → Accepted one ≡ Accepted two → one ≡ two
    one_base e = cc
section_snap state number (Skipped other) base newer under e =
    let here = if_fresh state.held number (passes state number Stale) (passes state number (SkippedFor other (skipped_for (held_snapshot state.held other)))) newer in
    absurd (never (skipped_for (held_snapshot state.held other)) (sym (ap (λ (applied : Application). applied.answer.snap) here) ∙ e))
  where
    never : (cause : NoBase) → SkippedFor other cause ≡ Accepted base → ⊥
    never cause e = absurd cc

pub is_snap : (noted : Noted) → IsNoted noted → (has : HasRead noted) (base : ℕ) → noted.applied.answer.snap ≡ Accepted base → IsSnap noted has.read base
is_snap noted is has base e =
    let number = noted.applied.answer.number in
    let does = section_snap (hearing noted.before has.read.commands) number has.read.section base (newer_than noted is) has.is.number_is (ap (λ (applied : Application). applied.answer.snap) (sym has.does) ∙ e) in
    record {
      head = does.head;
      entities = does.entities;
      section = does.section;
      under = does.under;
      accepted = ap (λ (applied : Application). applied.accepted) has.does ∙ does.accepted;
      held = ap (λ (applied : Application). applied.state.held) has.does ∙ does.held;
    }

-- which the client then holds
pub snap_view : (noted : Noted) → IsNoted noted → (has : HasRead noted) (base : ℕ) (snap : IsSnap noted has.read base)
    → view_at noted.applied.state.held noted.applied.state.number ≡ Some (record { head = snap.head; entities = snap.entities })
snap_view noted is has base snap =
    let before = noted.before in
    let number = noted.applied.answer.number in
    let snapshot : Snapshot = record { head = snap.head; entities = snap.entities } in
    let told : IsReadTold before.profile (context_of before.held before.baselines) (Snap base snap.head snap.entities) =
    subst (IsReadTold before.profile (context_of before.held before.baselines)) snap.section has.is.section in
    let few = told.0.1.list.few in
    let under = snap.under in
    let newer = newer_than noted is in
    let at : noted.applied.state.number ≡ snap.head.number =
    ap (λ (applied : Application). applied.state.number) has.does ∙ section_number (hearing before has.read.commands) number has.read.section ∙ sym under in
    ap (view_at noted.applied.state.held) at
    ∙ ap (λ (held : HeldSnapshots). view_at held snap.head.number) snap.held
    ∙ view_new before.held snapshot is.stands.held (omega (arith, under, newer)) few

-- the base of one that was accepted against one below the first
pub before_base : (first : ℕ) (snap : SnapOutcome) → is_before first snap ≡ true → (base : ℕ) × (snap ≡ Accepted base)
before_base first (Accepted base) e = (base, refl)
before_base first NoSnap e = absurd cc
before_base first (SkippedFor base cause) e = absurd cc
before_base first Stale e = absurd cc

-- and of a whole one
pub whole_base : (snap : SnapOutcome) → is_whole snap ≡ true → snap ≡ Accepted 0
whole_base (Accepted base) e = let below = ltb-true base 1 e in ap (λ (base : ℕ). Accepted base) (omega arith)
whole_base NoSnap e = absurd cc
whole_base (SkippedFor base cause) e = absurd cc
whole_base Stale e = absurd cc

-- a message with the same snapshot whole does the same
whole_does : {when : Type 0} → (first : ℕ) (client play : AppliedState) (number base : ℕ) (head : SnapHead) (entities : List EntityState) (read : Message) → read.section ≡ Snap base head entities → SaysAs when client play
    → accept_at play.held (record { head = head; entities = entities }) ≡ held_since first (accept_at client.held (record { head = head; entities = entities }))
    → client.held.newest < number → play.held.newest < number
    → DoesAs when first (apply_read client number read) (apply_read play number (record { ack = read.ack; commands = read.commands; section = Snap 0 head entities }))
whole_does {when} first client play number base head entities read section like held newer fresh =
    let whole : Message = record { ack = read.ack; commands = read.commands; section = Snap 0 head entities } in
    heard_does first client play number read whole refl like
    (subst (λ (told : Told). DoesAs when first (apply_section (hearing client read.commands) number told) (apply_section (hearing play read.commands) number (Snap 0 head entities))) (sym section)
    (snap_alike first (hearing client read.commands) (hearing play read.commands) number base 0 head entities (hearing_says client play read.commands like) held newer fresh))

-- it plays by the bytes of a message that has it whole
pub plays_whole : {when : Type 0} → ReadIsSpelled → AppliedIsContext → (first : ℕ) (noted : Noted) (play : AppliedState) (bytes : List ℕ) (read : Message) (base : ℕ) (head : SnapHead) (entities : List EntityState)
    → PlaysAs when first noted.before play → IsNoted noted → first ≤ noted.applied.answer.number
    → server_message_in noted.before.profile (context_of noted.before.held noted.before.baselines) noted.applied.answer.number (bits_of noted.message) ≡ Ok read
    → read.section ≡ Snap base head entities
    → server_message_in play.profile (context_of play.held play.baselines) noted.applied.answer.number (bits_of bytes)
    ≡ Ok (record { ack = read.ack; commands = read.commands; section = Snap 0 head entities })
    → Plays when first noted play bytes
plays_whole {when} spelled context first noted play bytes read base head entities like is from reads section there =
    let number = noted.applied.answer.number in
    let before = noted.before in
    let whole : Message = record { ack = read.ack; commands = read.commands; section = Snap 0 head entities } in
    let found = has_read_of spelled context noted is read reads in
    let newer = newer_than noted is in
    let under : HasNumber number (Snap base head entities) =
    subst (HasNumber number) section (subst (λ (read : Message). HasNumber number read.section) found.1 found.0.is.number_is) in
    let did : noted.applied ≡ apply_read before number read = found.0.does ∙ ap (apply_read before number) found.1 in
    let does = whole_does first before play number base head entities read section (says first before play like)
    (accepts_as first before.held play.held (record { head = head; entities = entities }) like.held (omega (arith, from, under))) newer (newest_as first before.held play.held number like.held newer) in
    plays_read first noted play bytes whole there (subst (λ (applied : Application). DoesAs when first applied (apply_read play number whole)) (sym did) does)

-- ---- the first

-- what is left after the gamestate that a recording begins with
abbrev pub begun_by : Noted → ℕ → AppliedState
begun_by noted first =
    (apply_read (new_state noted.before.profile) (first - 1) (record { ack = noted.issued; commands = []; section = Game (told_in noted.before) })).state

-- no long string is being put together
abbrev pub IsWhole : Noted → Type 0
IsWhole noted = noted.before.strings.pending ≡ None

whole_strings : (strings : Strings) → strings.pending ≡ None → without_pending strings ≡ strings
whole_strings strings none = ap (λ p. record strings { pending = p }) (sym none)

begun_says : (noted : Noted) (first : ℕ) → SaysAs (IsWhole noted) noted.before (begun_by noted first)
begun_says noted first = record {
  profile = refl;
  executed = jumped_to (executes new_incoming []) noted.before.executed.executed;
  strings = λ whole. whole_strings noted.before.strings whole;
  baselines = refl;
  slot = refl;
  feed = refl;
}

-- it holds what the client does from the first on: nothing
begun_context : (first : ℕ) (state : AppliedState) → IsApplied state → state.held.newest < first
    → context_of (no_snapshots state.profile.parse_ring) state.baselines ≡ context_of (held_since first state.held) state.baselines
begun_context first state is before =
    ap (λ (ring : ℕ). context_of (no_snapshots ring) state.baselines) (sym is.room)
    ∙ sym (ap (λ (places : List (Option HeldSnapshot)). context_of (in_ring state.held.ring 0 places) state.baselines) (before_since first state.held is.held before))

begun_accepts : (first : ℕ) (state : AppliedState) (snapshot : Snapshot) → IsApplied state → state.held.newest < first → snapshot.head.number ≡ first
    → accept_at (no_snapshots state.profile.parse_ring) snapshot ≡ held_since first (accept_at state.held snapshot)
begun_accepts first state snapshot is before under =
    ap (λ (ring : ℕ). accept_at (no_snapshots ring) snapshot) (sym is.room) ∙ sym (first_since first state.held snapshot is.held before under)

begun_plays : ReadIsSpelled → SpelledIsRead → AppliedIsContext → (noted : Noted) → IsNoted noted → is_whole noted.applied.answer.snap ≡ true
    → Plays (IsWhole noted) noted.applied.answer.number noted (begun_by noted noted.applied.answer.number) noted.message
begun_plays spelled is_read context noted is whole =
    let first = noted.applied.answer.number in
    let before = noted.before in
    let play = begun_by noted first in
    let has = has_read spelled context noted is in
    let read = has.read in
    let newer = newer_than noted is in
    let fits : first < 2 ^ 32 = let below = is.number in omega (arith, below) in
    let snap = is_snap noted is has 0 (whole_base noted.applied.answer.snap whole) in
    let snapshot : Snapshot = record { head = snap.head; entities = snap.entities } in
    let names : NamesSince first (Snap 0 snap.head snap.entities) = inl refl in
    let since = read_since spelled is_read before.profile first before.held before.baselines first read (bits_of noted.message) is.stands.profile (context before is.stands) fits
    (subst (NamesSince first) (sym snap.section) names) has.reads in
    let reads : server_message_in before.profile (context_of (no_snapshots before.profile.parse_ring) before.baselines) first (bits_of noted.message) ≡ Ok read =
    ap (λ (context : Context). server_message_in before.profile context first (bits_of noted.message)) (begun_context first before is.stands newer) ∙ since in
    let does = heard_does first before play first read read refl (begun_says noted first)
    (subst (λ (told : Told). DoesAs (IsWhole noted) first (apply_section (hearing before read.commands) first told) (apply_section (hearing play read.commands) first told)) (sym snap.section)
    (snap_alike first (hearing before read.commands) (hearing play read.commands) first 0 0 snap.head snap.entities (hearing_says before play read.commands (begun_says noted first))
    (begun_accepts first before snapshot is.stands newer snap.under) newer (omega (arith, newer)))) in
    plays_read first noted play noted.message read reads (subst (λ (applied : Application). DoesAs (IsWhole noted) first applied (apply_read play first read)) (sym has.does) does)

-- the first plays after that gamestate
pub plays_first : ReadIsSpelled → SpelledIsRead → AppliedIsContext → (first : ℕ) (noted : Noted) (play : AppliedState) → IsNoted noted → is_whole noted.applied.answer.snap ≡ true
    → first ≡ noted.applied.answer.number
    → play ≡ (apply_read (new_state noted.before.profile) (first - 1) (record { ack = noted.issued; commands = []; section = Game (told_in noted.before) })).state
    → Plays (IsWhole noted) first noted play noted.message
plays_first spelled is_read context first noted play is whole at begun =
    let plays = begun_plays spelled is_read context noted is whole in
    subst (λ (play : AppliedState). Plays (IsWhole noted) first noted play noted.message) (sym begun)
    (subst (λ (first : ℕ). Plays (IsWhole noted) first noted (begun_by noted first) noted.message) (sym at) plays)

-- ---- numbers

pub section_newest : (state : AppliedState) (number : ℕ) (told : Told) → state.held.newest < number → HasNumber number told → (apply_section state number told).state.held.newest ≤ number
section_newest state number Nothing newer under = omega (arith, newer)
section_newest state number (Game game) newer under = omega arith
section_newest state number (Snap base head entities) newer under =
    cond_both (is_stale state.held number) (passes state number Stale) (accepts state number base (record { head = head; entities = entities }))
    (λ (applied : Application). applied.state.held.newest ≤ number) (λ e. omega (arith, newer)) (λ e. omega (arith, under))
section_newest state number (Skipped base) newer under =
    cond_both (is_stale state.held number) (passes state number Stale) (passes state number (SkippedFor base (skipped_for (held_snapshot state.held base))))
    (λ (applied : Application). applied.state.held.newest ≤ number) (λ e. omega (arith, newer)) (λ e. omega (arith, newer))

-- the state after a message has its number, and none that is held is newer
pub newest_stays : ReadIsSpelled → AppliedIsContext → (noted : Noted) → IsNoted noted
    → (noted.applied.state.held.newest ≤ noted.applied.state.number) × (noted.applied.state.number ≡ noted.applied.answer.number)
newest_stays spelled context noted is =
    let number = noted.applied.answer.number in
    let has = has_read spelled context noted is in
    let heard = hearing noted.before has.read.commands in
    let at : noted.applied.state.number ≡ number = ap (λ (applied : Application). applied.state.number) has.does ∙ section_number heard number has.read.section in
    let newest : noted.applied.state.held.newest ≤ number =
    subst (λ (applied : Application). applied.state.held.newest ≤ number) (sym has.does) (section_newest heard number has.read.section (newer_than noted is) has.is.number_is) in
    (omega (arith, newest, at), at)
