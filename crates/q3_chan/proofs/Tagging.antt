-- What a datagram that an end sent does to an end that receives.
use Rattle.std.proofs.Common.{false, ◌≡◌, ◌+◌, ◌-◌, ◌*◌, ◌<◌, ◌≤◌, ◌∙◌, ℕ, ltb, leb, eqb, List, ◌++◌, length, take, drop, min, sym, ap, subst, inl, inr, arith}
use Rattle.std.proofs.Math.Seq.{take-add, take-length}
use Rattle.std.proofs.lemmas.Bool.{cases_Bool, cases_lt, cond-true, cond-false, or_from, eqb-true, lt-ltb, le-ltb, le-leb, lt-leb}
use Rattle.std.proofs.lemmas.List.{length-take, length-drop, length-take-le, take_all}
use Rattle.q3_chan.specs.declared.gatherer.Gathered.TheVariants.{Partial, BadFragment}
use Rattle.q3_chan.specs.Datagrams.{fragment_size, longest_message, sequence_end, piece_count, piece, header_bytes, fragment, datagram}
use Rattle.q3_chan.specs.Gathering.{Gathering, header_heard, answers, arrives, emptied, gathering_of, add_piece, take_piece, take_fragment, gathered}
use Rattle.q3_chan.specs.Tags.{tag_piece, tag_fragment, tagged}
use Rattle.q3_chan.specs.Laws.{IsSendable, HoldsFront, SentIsTagged}
use Rattle.q3_chan.proofs.Headers.{IsHeaded, IsWhole, IsFragment, whole_is, fragment_is}
use Rattle.q3_chan.proofs.Tags.{gathering_of-number, gathering_of-front, tagged-front}
use Rattle.q3_chan.proofs.Receiving.{gathered-old, gathered-whole, gathered-fragment}

-- ---- pieces

pub length-piece : (message : List ℕ) (index : ℕ) → length (piece message index) ≡ min fragment_size (length message - fragment_size * index)
length-piece message index =
    length-take fragment_size (drop (fragment_size * index) message) ∙ ap (min fragment_size) (length-drop (fragment_size * index) message)

-- the first pieces and the next are one piece more
pub front-more : (message : List ℕ) (index : ℕ) → take (fragment_size * index) message ++ piece message index ≡ take (fragment_size * (index + 1)) message
front-more message index =
    sym (take-add (fragment_size * index) fragment_size message) ∙ ap (λ (n : ℕ). take n message) (omega arith)

pub length-front : (message : List ℕ) (index : ℕ) → index < piece_count (length message) → length (take (fragment_size * index) message) ≡ fragment_size * index
length-front message index below = length-take-le (fragment_size * index) message (omega arith)

-- ---- a fragment

-- the piece where what was gathered ends
add_piece-tagged : (g : Gathering) (message : List ℕ) (index : ℕ) → g.bytes ≡ take (fragment_size * index) message → index < piece_count (length message)
    → add_piece g (piece message index) ≡ tag_piece g g.number message index
add_piece-tagged g message index front below =
    let short = length-piece message index in
    let whole : g.bytes ++ piece message index ≡ take (fragment_size * (index + 1)) message =
    ap (λ (bytes : List ℕ). bytes ++ piece message index) front ∙ front-more message index in
    elim (cases_lt (index + 1) (piece_count (length message))) [
      | inl more ↦
          cond-false (ltb (length (piece message index)) fragment_size) _ _ (le-ltb _ _ (omega arith))
          ∙ ap (λ (bytes : List ℕ). answers (record g { bytes = bytes }) Partial) whole
          ∙ sym (cond-true (ltb (index + 1) (piece_count (length message))) _ _ (lt-ltb _ _ more))
      | inr last ↦
          cond-true (ltb (length (piece message index)) fragment_size) _ _ (lt-ltb _ _ (omega arith))
          ∙ ap (arrives (emptied g) g.number) (whole ∙ take_all (fragment_size * (index + 1)) message (omega arith))
          ∙ sym (cond-false (ltb (index + 1) (piece_count (length message))) _ _ (le-ltb _ _ last))
    ]

take_piece-tagged : (g : Gathering) (message : List ℕ) (index : ℕ) → g.bytes ≡ take (fragment_size * index) message → index < piece_count (length message) → length message ≤ longest_message
    → take_piece g (length (piece message index)) (piece message index) ≡ tag_piece g g.number message index
take_piece-tagged g message index front below most =
    let short = length-piece message index in
    let there : length g.bytes ≡ fragment_size * index = ap length front ∙ length-front message index below in
    cond-false _ (answers g BadFragment) _ (or_from _ _ (or_from _ _ (le-ltb _ _ (omega arith)) (le-ltb (length (piece message index)) _ (omega arith))) (le-ltb longest_message _ (omega arith)))
    ∙ ap (add_piece g) (take-length (piece message index))
    ∙ add_piece-tagged g message index front below

take_fragment-tagged : (messages : ℕ → List ℕ) (g : Gathering) (index : ℕ) → HoldsFront messages g → index < piece_count (length (messages g.number)) → length (messages g.number) ≤ longest_message
    → take_fragment g (fragment_size * index) (length (piece (messages g.number) index)) (piece (messages g.number) index) ≡ tag_fragment g g.number (messages g.number) index
take_fragment-tagged messages g index h below most =
    let message = messages g.number in
    let ends : length g.bytes ≡ fragment_size * h.count = ap length h.front ∙ length-front message h.count h.not_all in
    let test = eqb (fragment_size * index) (length g.bytes) in
    elim (cases_Bool test) [
      | inl e ↦
          let here : index ≡ h.count = omega (arith, eqb-true _ _ e) in
          let front : g.bytes ≡ take (fragment_size * index) message = h.front ∙ ap (λ (n : ℕ). take (fragment_size * n) message) (sym here) in
          cond-true test _ _ e ∙ take_piece-tagged g message index front below most ∙ sym (cond-true test _ _ e)
      | inr e ↦ cond-false test _ _ e ∙ sym (cond-false test _ _ e)
    ]

-- ---- a datagram

old_is_tagged : (g : Gathering) (bytes : List ℕ) (number : ℕ) (message : List ℕ) (index : ℕ) → IsHeaded g.form bytes number → number ≤ g.taken → gathered g bytes ≡ tagged g number message index
unfolding tagged
old_is_tagged g bytes number message index headed old = gathered-old g bytes number headed old ∙ sym (cond-true (leb number g.taken) _ _ (le-leb _ _ old))

whole_is_tagged : (g : Gathering) (bytes : List ℕ) (number : ℕ) (message : List ℕ) (index : ℕ) → IsWhole g.form bytes number message → length message < fragment_size
    → gathered g bytes ≡ tagged g number message index
unfolding tagged
whole_is_tagged g bytes number message index whole short =
    elim (cases_lt g.taken number) [
      | inr old ↦ old_is_tagged g bytes number message index whole.headed old
      | inl newer ↦
          gathered-whole g bytes number message whole (omega arith) newer
          ∙ sym (cond-false (leb number g.taken) _ _ (lt-leb _ _ newer) ∙ cond-true (ltb (length message) fragment_size) _ _ (lt-ltb _ _ short))
    ]

-- of a newer message that was cut, a piece goes to what was gathered
pub tagged-cut : (g : Gathering) (number : ℕ) (message : List ℕ) (index : ℕ) → g.taken < number → fragment_size ≤ length message
    → tagged g number message index ≡ tag_fragment (gathering_of g number) number message index
unfolding tagged
tagged-cut g number message index newer long =
    cond-false (leb number g.taken) _ _ (lt-leb _ _ newer) ∙ cond-false (ltb (length message) fragment_size) _ _ (le-ltb _ _ long)

fragment_is_tagged : (messages : ℕ → List ℕ) (g : Gathering) (bytes : List ℕ) (number index : ℕ) → HoldsFront messages (gathering_of g number)
    → IsFragment g.form bytes number (fragment_size * index) (piece (messages number) index)
    → fragment_size ≤ length (messages number) → length (messages number) ≤ longest_message → index < piece_count (length (messages number))
    → gathered g bytes ≡ tagged g number (messages number) index
fragment_is_tagged messages g bytes number index h fragment long most below =
    let message = messages number in
    let k = gathering_of g number in
    let same : k.number ≡ number = gathering_of-number g number in
    let Q : ℕ → Type 0 = λ n. take_fragment k (fragment_size * index) (length (piece (messages n) index)) (piece (messages n) index) ≡ tag_fragment k n (messages n) index in
    let below-k : index < piece_count (length (messages k.number)) = subst (λ (n : ℕ). index < piece_count (length (messages n))) (sym same) below in
    let most-k : length (messages k.number) ≤ longest_message = subst (λ (n : ℕ). length (messages n) ≤ longest_message) (sym same) most in
    elim (cases_lt g.taken number) [
      | inr old ↦ old_is_tagged g bytes number message index fragment.headed old
      | inl newer ↦
          gathered-fragment g bytes number (fragment_size * index) (piece message index) fragment newer
          ∙ subst Q same (take_fragment-tagged messages k index h below-k most-k)
          ∙ sym (tagged-cut g number message index newer long)
    ]

-- a datagram that an end sent does what its tag does
pub datagram_is_tagged : (messages : ℕ → List ℕ) (g : Gathering) (qport number index : ℕ) → HoldsFront messages (gathering_of g number) → number < sequence_end
    → IsSendable (messages number) → index < piece_count (length (messages number)) → gathered g (datagram (header_heard g qport) number (messages number) index) ≡ tagged g number (messages number) index
unfolding datagram
datagram_is_tagged messages g qport number index h end sendable below =
    let message = messages number in
    let Q : List ℕ → Type 0 = λ bytes. gathered g bytes ≡ tagged g number message index in
    let short = length-piece message index in
    let header = header_heard g qport in
    elim (cases_lt (length message) fragment_size) [
      | inl small ↦
          subst Q (sym (cond-true (ltb (length message) fragment_size) _ _ (lt-ltb _ _ small)))
          (whole_is_tagged g (header_bytes header false number ++ message) number message index (whole_is header number message end) small)
      | inr long ↦
          let most = sendable.most in
          subst Q (sym (cond-false (ltb (length message) fragment_size) _ _ (le-ltb _ _ long)))
          (fragment_is_tagged messages g (fragment header number (fragment_size * index) (piece message index)) number index h
          (fragment_is header number (fragment_size * index) (piece message index) end (omega arith) (omega arith)) long most below)
    ]

pub sent_is_tagged : SentIsTagged
sent_is_tagged messages g qport number index h port some end sendable below =
    (datagram_is_tagged messages g qport number index (gathering_of-front messages g number h) end sendable below, tagged-front messages g number index h)
