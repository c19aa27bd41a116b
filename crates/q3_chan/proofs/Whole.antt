-- The pieces of a message, in order, make it whole.
use Rattle.std.proofs.Common.{◌≡◌, ◌+◌, ◌*◌, ◌<◌, ◌≤◌, ◌∙◌, ℕ, zero, suc, ltb, leb, eqb, List, [], ◌∷◌, ◌++◌, length, map, take, max, refl, sym, ap, subst, inl, inr, add-one, arith}
use Rattle.std.specs.List.{range_with_len}
use Rattle.std.proofs.lemmas.Bool.{cases_lt, cond-true, cond-false, cond_both, eqb-true, eqb-false, eq-eqb, lt-ltb, le-ltb, lt-leb}
use Rattle.std.proofs.lemmas.List.FromFn.{map-range_with_len_more}
use Rattle.q3_chan.specs.declared.form.Form.{Form}
use Rattle.q3_chan.specs.declared.gatherer.Gathered.TheVariants.{Partial, OutOfOrder}
use Rattle.q3_chan.specs.Datagrams.{fragment_size, sequence_end, piece_count, last_index, datagram}
use Rattle.q3_chan.specs.Gathering.{Gathering, header_heard, Took, answers, arrives, emptied, gathering_of, gathered, gathered_all}
use Rattle.q3_chan.specs.Tags.{tag_piece, tagged, tagged_all, Came}
use Rattle.q3_chan.specs.Laws.{IsSendable, HoldsFront, PiecesAreTagged, FirstArePartial, gathered_first, PiecesComeWhole, FirstComePartial}
use Rattle.q3_chan.proofs.Tags.{gathering_of-number, gathering_of-taken, gathering_of-front, tagged-front_of, tagged_does}
use Rattle.q3_chan.proofs.Tagging.{length-front, tagged-cut, datagram_is_tagged}

-- ---- by tags

-- an end that had some first pieces of a newer message, and then the first so many arrived: it has the more of both, and not all
record HoldsFirst (held came : ℕ) (g : Gathering) (number : ℕ) (message : List ℕ) : Type 0 where
  newer : g.taken < number
  count : ℕ
  is : count ≡ max held came
  not_all : count < piece_count (length message)
  front : (gathering_of g number).bytes ≡ take (fragment_size * count) message

-- of a front of the message
HoldsFirst-front : (messages : ℕ → List ℕ) (g : Gathering) (number : ℕ) (h : HoldsFront messages (gathering_of g number)) → g.taken < number → HoldsFirst h.count 0 g number (messages number)
HoldsFirst-front messages g number h newer =
    let k = gathering_of g number in
    let same = gathering_of-number g number in
    record {
      newer = newer;
      count = h.count;
      is = omega arith;
      not_all = subst (λ (n : ℕ). h.count < piece_count (length (messages n))) same h.not_all;
      front = subst (λ (n : ℕ). k.bytes ≡ take (fragment_size * h.count) (messages n)) same h.front;
    }

-- of nothing
HoldsFirst-none : (g : Gathering) (number : ℕ) (message : List ℕ) → g.taken < number → (g.number ≡ number → g.bytes ≡ []) → HoldsFirst 0 0 g number message
HoldsFirst-none g number message newer none =
    record {
      newer = newer;
      count = 0;
      is = refl;
      not_all = omega arith;
      front = cond_both (eqb number g.number) g (record g { number = number; bytes = [] }) (λ k. k.bytes ≡ []) (λ e. none (sym (eqb-true _ _ e))) (λ _. refl);
    }

-- of a gathering of the message itself
HoldsFirst-of : (held came : ℕ) (k : Gathering) (number : ℕ) (message : List ℕ) (count : ℕ) → k.number ≡ number → k.taken < number → count ≡ max held came
    → count < piece_count (length message) → k.bytes ≡ take (fragment_size * count) message → HoldsFirst held came k number message
HoldsFirst-of held came k number message count same newer is not_all front =
    record {
      newer = newer;
      count = count;
      is = is;
      not_all = not_all;
      front = ap (λ (g : Gathering). g.bytes) (cond-true (eqb number k.number) k (record k { number = number; bytes = [] }) (eq-eqb _ _ (sym same))) ∙ front;
    }

-- where what was gathered ends
front-ends : (held came : ℕ) (g : Gathering) (number : ℕ) (message : List ℕ) (h : HoldsFirst held came g number message) → length (gathering_of g number).bytes ≡ fragment_size * h.count
front-ends held came g number message h = ap length h.front ∙ length-front message h.count h.not_all

-- a piece more
HoldsFirst-more : (held : ℕ) (g : Gathering) (number : ℕ) (message : List ℕ) (index : ℕ) → HoldsFirst held index g number message → index + 1 < piece_count (length message)
    → HoldsFirst held (index + 1) (tagged g number message index).gathering number message
HoldsFirst-more held g number message index h more =
    let k = gathering_of g number in
    let same = gathering_of-number g number in
    let newer : k.taken < number = subst (λ (n : ℕ). n < number) (sym (gathering_of-taken g number)) h.newer in
    let ends = front-ends held index g number message h in
    let is = h.is in
    let P : Took → Type 0 = λ t. HoldsFirst held (index + 1) t.gathering number message in
    let grown = record k { bytes = take (fragment_size * (index + 1)) message } in
    subst P (sym (tagged-cut g number message index h.newer (omega arith)))
    (cond_both (eqb (fragment_size * index) (length k.bytes)) (tag_piece k number message index) (answers k OutOfOrder) P
    (λ here. subst P (sym (cond-true (ltb (index + 1) (piece_count (length message))) (answers grown Partial) (arrives (emptied k) number message) (lt-ltb _ _ more)))
    (HoldsFirst-of held (index + 1) grown number message (index + 1) same newer (omega (arith, eqb-true _ _ here)) more refl))
    (λ off. HoldsFirst-of held (index + 1) k number message h.count same newer (omega (arith, eqb-false _ _ off)) h.not_all h.front))

HoldsFirst-all : (held : ℕ) (g : Gathering) (number : ℕ) (message : List ℕ) (count : ℕ) → HoldsFirst held 0 g number message → count < piece_count (length message)
    → HoldsFirst held count (tagged_all g number message count) number message
unfolding tagged_all
HoldsFirst-all held g number message zero h few = h
HoldsFirst-all held g number message (suc count) h few =
    subst (λ (n : ℕ). HoldsFirst held n (tagged (tagged_all g number message count) number message count).gathering number message) (add-one count)
    (HoldsFirst-more held (tagged_all g number message count) number message count (HoldsFirst-all held g number message count h (omega arith)) (omega arith))

-- the piece where it ends
tagged-next : (held index : ℕ) (g : Gathering) (number : ℕ) (message : List ℕ) (h : HoldsFirst held index g number message) → h.count ≡ index → fragment_size ≤ length message
    → tagged g number message index ≡ tag_piece (gathering_of g number) number message index
tagged-next held index g number message h next long =
    let ends = front-ends held index g number message h in
    tagged-cut g number message index h.newer long ∙ cond-true (eqb (fragment_size * index) (length (gathering_of g number).bytes)) _ _ (eq-eqb _ _ (omega arith))

-- with the last it comes whole
comes-whole : (held : ℕ) (g : Gathering) (number : ℕ) (message : List ℕ) → held < piece_count (length message) → HoldsFirst held (last_index message) g number message
    → Came g number message (tagged g number message (last_index message))
unfolding tagged
comes-whole held g number message few h =
    let index = last_index message in
    let P : Took → Type 0 = Came g number message in
    elim (cases_lt (length message) fragment_size) [
      | inl short ↦
          subst P (sym (cond-false (leb number g.taken) _ _ (lt-leb _ _ h.newer) ∙ cond-true (ltb (length message) fragment_size) _ _ (lt-ltb _ _ short)))
          (record { newer = h.newer; answer = refl; message_is = refl; taken = refl })
      | inr long ↦
          subst P (sym (tagged-next held index g number message h (omega (arith, h.is)) long ∙ cond-false (ltb (index + 1) (piece_count (length message))) _ _ (le-ltb _ _ (omega arith))))
          (record { newer = h.newer; answer = refl; message_is = refl; taken = refl })
    ]

come_tagged : (messages : ℕ → List ℕ) (g : Gathering) (number : ℕ) → HoldsFront messages (gathering_of g number) → g.taken < number
    → Came (tagged_all g number (messages number) (last_index (messages number))) number (messages number)
    (tagged (tagged_all g number (messages number) (last_index (messages number))) number (messages number) (last_index (messages number)))
come_tagged messages g number there newer =
    let message = messages number in
    let begin = HoldsFirst-front messages g number there newer in
    comes-whole there.count (tagged_all g number message (last_index message)) number message (omega (arith, begin.is, begin.not_all))
    (HoldsFirst-all there.count g number message (last_index message) begin (omega arith))

pub pieces_are_tagged : PiecesAreTagged
pieces_are_tagged messages g number h newer = come_tagged messages g number (gathering_of-front messages g number h) newer

-- and where nothing was held, those before it are partial
pub first_are_partial : FirstArePartial
first_are_partial g number message index newer none few =
    let h = HoldsFirst-all 0 g number message index (HoldsFirst-none g number message newer none) (omega arith) in
    let t = tagged_all g number message index in
    ap (λ (took : Took). took.answer)
    (tagged-next 0 index t number message h (omega (arith, h.is)) (omega arith) ∙ cond-true (ltb (index + 1) (piece_count (length message))) _ _ (lt-ltb _ _ (omega arith)))

-- ---- by bytes

gathered_all-push : (g : Gathering) (came : List (List ℕ)) (last : List ℕ) → gathered_all g (came ++ last ∷ []) ≡ (gathered (gathered_all g came) last).gathering
unfolding gathered_all
gathered_all-push g [] last = refl
gathered_all-push g (one ∷ others) last = gathered_all-push (gathered g one).gathering others last

-- what the first datagrams do is what their tags do
record FollowsTags (messages : ℕ → List ℕ) (g : Gathering) (qport number count : ℕ) : Type 0 where
  is : gathered_first g qport number (messages number) count ≡ tagged_all g number (messages number) count
  form : (tagged_all g number (messages number) count).form ≡ g.form
  front : HoldsFront messages (gathering_of (tagged_all g number (messages number) count) number)

-- the datagram after them does what its tag does
FollowsTags-next : (messages : ℕ → List ℕ) (g : Gathering) (qport number count : ℕ) → FollowsTags messages g qport number count → number < sequence_end
    → IsSendable (messages number) → count < piece_count (length (messages number))
    → gathered (tagged_all g number (messages number) count) (datagram (header_heard g qport) number (messages number) count) ≡ tagged (tagged_all g number (messages number) count) number (messages number) count
FollowsTags-next messages g qport number count f end sendable few =
    let t = tagged_all g number (messages number) count in
    ap (λ (s : Form). gathered t (datagram (record { form = s; qport = qport }) number (messages number) count)) (sym f.form)
    ∙ datagram_is_tagged messages t qport number count f.front end sendable few

FollowsTags-all : (messages : ℕ → List ℕ) (g : Gathering) (qport number count : ℕ) → HoldsFront messages (gathering_of g number) → number < sequence_end → IsSendable (messages number)
    → count < piece_count (length (messages number)) → FollowsTags messages g qport number count
unfolding gathered_all tagged_all
FollowsTags-all messages g qport number zero h end sendable few = record { is = refl; form = refl; front = h }
FollowsTags-all messages g qport number (suc count) h end sendable few =
    let message = messages number in
    let bytes : ℕ → List ℕ = datagram (header_heard g qport) number message in
    let t = tagged_all g number message count in
    let f = FollowsTags-all messages g qport number count h end sendable (omega arith) in
    record {
      is = ap (gathered_first g qport number message) (sym (add-one count))
          ∙ ap (gathered_all g) (map-range_with_len_more bytes 0 count count (omega arith))
          ∙ gathered_all-push g (map bytes (range_with_len 0 count)) (bytes count)
          ∙ ap (λ (k : Gathering). (gathered k (bytes count)).gathering) f.is
          ∙ ap (λ (took : Took). took.gathering) (FollowsTags-next messages g qport number count f end sendable (omega arith));
      form = (tagged_does t number message count).form ∙ f.form;
      front = tagged-front_of messages t number count f.front;
    }

-- what holds of the tags holds of the bytes
FollowsTags-then : (P : Gathering → Took → Type 0) (messages : ℕ → List ℕ) (g : Gathering) (qport number index : ℕ) → HoldsFront messages (gathering_of g number) → number < sequence_end → IsSendable (messages number)
    → index < piece_count (length (messages number))
    → P (tagged_all g number (messages number) index) (tagged (tagged_all g number (messages number) index) number (messages number) index)
    → P (gathered_first g qport number (messages number) index) (gathered (gathered_first g qport number (messages number) index) (datagram (header_heard g qport) number (messages number) index))
FollowsTags-then P messages g qport number index h end sendable few holds =
    let message = messages number in
    let f = FollowsTags-all messages g qport number index h end sendable few in
    let t = tagged_all g number message index in
    let bytes = datagram (header_heard g qport) number message index in
    subst (λ (k : Gathering). P k (gathered k bytes)) (sym f.is) (subst (P t) (sym (FollowsTags-next messages g qport number index f end sendable few)) holds)

-- some first pieces of a message, where it is gathered
front_of : (g : Gathering) (number held : ℕ) (message : List ℕ) → held < piece_count (length message) → (g.number ≡ number → g.bytes ≡ take (fragment_size * held) message)
    → HoldsFront (λ n. message) (gathering_of g number)
front_of g number held message few is =
    cond_both (eqb number g.number) g (record g { number = number; bytes = [] }) (HoldsFront (λ n. message))
    (λ e. record { count = held; not_all = few; front = is (sym (eqb-true _ _ e)) })
    (λ _. record { count = 0; not_all = omega arith; front = refl })

pub pieces_come_whole : PiecesComeWhole
pieces_come_whole g qport number held message newer few is end sendable =
    let messages : ℕ → List ℕ = λ n. message in
    let there = front_of g number held message few is in
    FollowsTags-then (λ k took. Came k number message took) messages g qport number (last_index message) there end sendable (omega arith) (come_tagged messages g number there newer)

pub first_come_partial : FirstComePartial
first_come_partial g qport number index message newer none end sendable few =
    let messages : ℕ → List ℕ = λ n. message in
    FollowsTags-then (λ k took. took.answer ≡ Partial) messages g qport number index (front_of g number 0 message (omega arith) none) end sendable (omega arith)
    (first_are_partial g number message index newer none few)
