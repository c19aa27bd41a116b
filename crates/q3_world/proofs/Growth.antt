-- What was begun only grows.
use Rattle.std.proofs.Common.{◌+◌, ◌≡◌, ℕ, zero, suc, ◌-◌, ◌<◌, ◌≤◌, List, [], ◌∷◌, ◌++◌, length, get_or, Some, refl, sym, ap, subst, ◌∙◌, inl, inr, arith}
use Rattle.std.proofs.lemmas.List.{append-nil, length-append, length_push, get_or_append_left, get_or_push, set-get_or}
use Rattle.std.proofs.lemmas.Bool.{cases_eq, cases_lt}
use Rattle.q3_profile.specs.declared.profile.Profile.{Profile}
use Rattle.q3_chan.specs.Checks.{check_for}
use Rattle.q3_chan.specs.Datagrams.{Header, server_header, client_header, piece_count, datagram}
use Rattle.q3_entity_ring.specs.Snapshot.{Snapshot}
use Rattle.q3_built.specs.Built.{Built, built_bytes}
use Rattle.q3_server.specs.Server.{places}
use Rattle.q3_client.specs.Sending.{said_bytes, Said}
use Rattle.q3_world.specs.declared.made.Direction.{Direction}
use Rattle.q3_world.specs.declared.made.Direction.TheVariants.{ToClient, ToServer}
use Rattle.q3_world.specs.World.{Tag, History, no_history, no_message, no_said, history_at, with_history, built_at, with_built, with_said}
use Rattle.q3_world.specs.StandsFor.{IsPiece, IsWay, IsSent, snapshot_in, WasBuilt, messages_of, messages_said}
use Rattle.q3_world.proofs.OnePlace.{set_there, OnlyAt-set}

-- the message under a number stays where more are built
pub built_stays : (built more : List Built) (number : ℕ) → 1 ≤ number → number ≤ length built → built_at (built ++ more) number ≡ built_at built number
built_stays built more number some few = get_or_append_left built more no_message (number - 1) (omega (arith, some, few))

-- a snapshot that was built was built
pub was_built_more : (built more : List Built) (snapshot : Snapshot) → WasBuilt built snapshot → WasBuilt (built ++ more) snapshot
was_built_more built more snapshot was = (
  was.0,
  omega (arith, length-append built more, was.1),
  ap (λ (b : Built). snapshot_in b.message.section) (built_stays built more snapshot.head.number was.0 was.1) ∙ was.2,
)

-- the bytes of a message stay where more are begun, by the server
pub messages_stay : (profile : Profile) (built more : List Built) (number : ℕ) → number ≤ length built
    → messages_of profile (built ++ more) number ≡ messages_of profile built number
messages_stay profile built more zero few = refl
messages_stay profile built more (suc number) few = ap (built_bytes profile) (built_stays built more (suc number) (omega arith) few)

-- and by the client
pub messages_said_stay : (profile : Profile) (said more : List Said) (number : ℕ) → number ≤ length said
    → messages_said profile (said ++ more) number ≡ messages_said profile said number
messages_said_stay profile said more zero few = refl
messages_said_stay profile said more (suc number) few = ap (said_bytes profile) (get_or_append_left said more no_said (suc number - 1) (omega (arith, few)))

-- ---- histories

-- of a client more may have been begun; by which qport and from which host it sends stays, once it said something, and so does its
-- challenge, once something was begun
pub record HistoryGrows (old new : History) : Type 0 where
  pub challenge : 1 ≤ length old.built + length old.said → new.challenge ≡ old.challenge
  pub qport : 1 ≤ length old.said → new.qport ≡ old.qport
  pub host : 1 ≤ length old.said → new.host ≡ old.host
  pub built : (more : List Built) × (new.built ≡ old.built ++ more)
  pub said : (more : List Said) × (new.said ≡ old.said ++ more)

pub HistoryGrows-same : (history : History) → HistoryGrows history history
HistoryGrows-same history = record { challenge = λ some. refl; qport = λ some. refl; host = λ some. refl; built = ([], sym (append-nil history.built)); said = ([], sym (append-nil history.said)) }

-- where nothing of these changes
pub HistoryGrows-beside : (old new : History) → new.challenge ≡ old.challenge → new.qport ≡ old.qport → new.host ≡ old.host → new.built ≡ old.built → new.said ≡ old.said → HistoryGrows old new
HistoryGrows-beside old new challenge qport host built said =
    record { challenge = λ some. challenge; qport = λ some. qport; host = λ some. host; built = ([], built ∙ sym (append-nil old.built)); said = ([], said ∙ sym (append-nil old.said)) }

pub HistoryGrows-built : (history : History) (built : Built) → HistoryGrows history (with_built history (Some built))
HistoryGrows-built history built = record { challenge = λ some. refl; qport = λ some. refl; host = λ some. refl; built = (built ∷ [], refl); said = ([], sym (append-nil history.said)) }

pub HistoryGrows-said : (history : History) (said : Said) → HistoryGrows history (with_said history (Some said))
HistoryGrows-said history said = record { challenge = λ some. refl; qport = λ some. refl; host = λ some. refl; built = ([], sym (append-nil history.built)); said = (said ∷ [], refl) }

-- a client that joins said nothing before
pub HistoryGrows-joined : (history new : History) → history ≡ no_history → HistoryGrows history new
HistoryGrows-joined history new is =
    subst (λ (h : History). HistoryGrows h new) (sym is)
    (record { challenge = λ some. absurd (omega (arith, some)); qport = λ some. absurd (omega (arith, some)); host = λ some. absurd (omega (arith, some)); built = (new.built, refl); said = (new.said, refl) })

-- of each client
abbrev pub Grow : List History → List History → Type 0
Grow old new = (c : ℕ) → HistoryGrows (history_at old c) (history_at new c)

-- one history is replaced by one that grew
pub Grow-at : (histories : List History) (c : ℕ) (history : History) → length histories ≡ places → c < places → HistoryGrows (history_at histories c) history
    → Grow histories (with_history histories c history)
Grow-at histories c history count lt grows k =
    let only = OnlyAt-set no_history c histories history in
    elim (cases_eq k c) [
      | inl same ↦
          subst (λ (j : ℕ). HistoryGrows (history_at histories j) (history_at (with_history histories c history) j)) (sym same)
          (rw (set_there histories c no_history history count lt) grows)
      | inr other ↦ rw (only.others k other) (HistoryGrows-same (history_at histories k))
    ]

-- the history of a client noted again changes nothing
pub noted_same : (histories : List History) (c : ℕ) → with_history histories c (history_at histories c) ≡ histories
noted_same histories c = set-get_or histories c no_history

-- ---- tags

-- a piece stays one where more messages are begun
piece_stays : (header : Header) (messages messages' : ℕ → List ℕ) (last last' : ℕ) (tag : Tag) → last ≤ last'
    → ((number : ℕ) → number ≤ last → messages' number ≡ messages number) → IsPiece header messages last tag → IsPiece header messages' last' tag
piece_stays header messages messages' last last' tag le stay is =
    let begun = is.begun in
    let same = stay tag.number begun in
    record {
      some = is.some;
      begun = omega (arith, begun, le);
      piece = subst (λ (m : List ℕ). tag.index < piece_count (length m)) (sym same) is.piece;
      bytes = is.bytes ∙ ap (λ (m : List ℕ). datagram header tag.number m tag.index) (sym same);
    }

way_stays : (profile : Profile) (old new : History) (tag : Tag) (direction : Direction) → HistoryGrows old new → IsWay profile old tag direction → IsWay profile new tag direction
way_stays profile old new tag ToClient grows is =
    let grown = grows.built in
    let first = is.some in
    let begun = is.begun in
    let header : ℕ → Header = λ challenge. server_header (check_for profile.protocol challenge) in
    subst (λ (challenge : ℕ). IsPiece (header challenge) (messages_of profile new.built) (length new.built) tag) (sym (grows.challenge (omega (arith, first, begun))))
    (subst (λ (b : List Built). IsPiece (header old.challenge) (messages_of profile b) (length b) tag) (sym grown.1)
    (piece_stays (header old.challenge) (messages_of profile old.built) (messages_of profile (old.built ++ grown.0)) (length old.built) (length (old.built ++ grown.0)) tag
    (omega (arith, length-append old.built grown.0)) (messages_stay profile old.built grown.0) is))
way_stays profile old new tag (ToServer from) grows is =
    let grown = grows.said in
    let first = is.1.some in
    let begun = is.1.begun in
    let some : 1 ≤ length old.said = omega (arith, first, begun) in
    let header : ℕ → ℕ → Header = λ challenge qport. client_header (check_for profile.protocol challenge) qport in (
      is.0 ∙ sym (grows.host some),
      subst (λ (q : ℕ). IsPiece (header new.challenge q) (messages_said profile new.said) (length new.said) tag) (sym (grows.qport some))
          (subst (λ (challenge : ℕ). IsPiece (header challenge old.qport) (messages_said profile new.said) (length new.said) tag) (sym (grows.challenge (omega (arith, some))))
          (subst (λ (s : List Said). IsPiece (header old.challenge old.qport) (messages_said profile s) (length s) tag) (sym grown.1)
          (piece_stays (header old.challenge old.qport) (messages_said profile old.said) (messages_said profile (old.said ++ grown.0)) (length old.said) (length (old.said ++ grown.0)) tag
          (omega (arith, length-append old.said grown.0)) (messages_said_stay profile old.said grown.0) is.1))),
    )

abbrev pub AllSent : Profile → List History → List Tag → Type 0
AllSent profile histories sent = (k : ℕ) (d : Tag) → k < length sent → IsSent profile histories (get_or sent k d)

-- each tag names the same message
pub all_sent_grow : (profile : Profile) (old new : List History) (sent : List Tag) → Grow old new → AllSent profile old sent → AllSent profile new sent
all_sent_grow profile old new sent grow all k d lt =
    let tag = get_or sent k d in
    let is = all k d lt in
    record { client = is.client; way = way_stays profile (history_at old tag.client) (history_at new tag.client) tag tag.direction (grow tag.client) is.way }

-- what is said of each element of a list, and of one more
pub each_more : {X : Type 0} (Says : ℕ → X → Type 0) (xs : List X) (x : X) → ((k : ℕ) (d : X) → k < length xs → Says k (get_or xs k d)) → Says (length xs) x
    → (k : ℕ) (d : X) → k < length (xs ++ x ∷ []) → Says k (get_or (xs ++ x ∷ []) k d)
each_more Says xs x all last k d lt =
    elim (cases_lt k (length xs)) [
      | inl within ↦ rw (get_or_append_left xs (x ∷ []) d k within) (all k d within)
      | inr past ↦
          let e : length xs ≡ k = omega (arith, length_push xs x, lt) in
          rw (get_or_push xs x d k e) (subst (λ (j : ℕ). Says j x) e last)
    ]
