-- What each end keeps.
use Rattle.std.proofs.Common.{◌≡◌, ◌+◌, ◌*◌, ◌<◌, ◌≤◌, ◌∙◌, ℕ, ltb, List, ◌++◌, length, take, Option, Some, None, refl, sym, ap, subst, inl, inr, arith}
use Rattle.std.specs.Option.{IfSome}
use Rattle.std.proofs.lemmas.Bool.{cond_both, ltb-true}
use Rattle.q3_chan.specs.declared.gatherer.Gathered.TheVariants.{Partial}
use Rattle.q3_chan.specs.Datagrams.{fragment_size, piece_count, datagram, number_in}
use Rattle.q3_chan.specs.Sending.{Sending, UnderWay, Handed, hand_out, next_of}
use Rattle.q3_chan.specs.Gathering.{Gathering, Took, answers, arrives, emptied, gathering_of, gathered}
use Rattle.q3_chan.specs.Tags.{tagged}
use Rattle.q3_chan.specs.Laws.{Gathers, EndsGather, IsUnderWay, Sends, HandsOut, EndsSend}
use Rattle.q3_chan.proofs.Tags.{gathering_of-form, tagged-front, tagged_does}
use Rattle.q3_chan.proofs.Outcomes.{piece_in, gathered-each}
use Rattle.q3_chan.proofs.Handing.{next_of-under_way}

-- ---- an end that receives

Gathers-piece : (messages : ℕ → List ℕ) (last : ℕ) (g : Gathering) (number index : ℕ) → Gathers messages last g → number ≤ last
    → Gathers messages last (tagged g number (messages number) index).gathering
Gathers-piece messages last g number index h few =
    let does = tagged_does g number (messages number) index in
    record {
      taken = elim does.either [ inl waits ↦ omega (arith, waits.taken, h.taken) | inr came ↦ omega (arith, came.taken) ];
      number = does.below last h.number few;
      front = tagged-front messages g number index h.front;
    }

Gathers-more : (messages messages' : ℕ → List ℕ) (last last' : ℕ) (g : Gathering) → Gathers messages last g → last ≤ last'
    → ((number : ℕ) → number ≤ last → messages' number ≡ messages number) → Gathers messages' last' g
Gathers-more messages messages' last last' g h more agree =
    let same = sym (agree g.number h.number) in
    record {
      taken = omega (arith, h.taken);
      number = omega (arith, h.number);
      front = record {
        count = h.front.count;
        not_all = subst (λ (message : List ℕ). h.front.count < piece_count (length message)) same h.front.not_all;
        front = h.front.front ∙ ap (take (fragment_size * h.front.count)) same;
      };
    }

gathered-form : (g : Gathering) (bytes : List ℕ) → (gathered g bytes).gathering.form ≡ g.form
gathered-form g bytes =
    let k = gathering_of g (number_in bytes) in
    let piece = piece_in g.form bytes in
    let same = gathering_of-form g (number_in bytes) in
    gathered-each (λ (t : Took). t.gathering.form ≡ g.form) g bytes (record {
      none = λ a not. refl;
      whole = λ _ most. refl;
      gathers = λ a not. same;
      adds = λ taken. cond_both (ltb (length piece) fragment_size) (arrives (emptied k) k.number (k.bytes ++ piece)) (answers (record k { bytes = k.bytes ++ piece }) Partial)
          (λ (t : Took). t.gathering.form ≡ g.form) (λ _. same) (λ _. same);
    })

pub ends_gather : EndsGather
ends_gather =
    record {
      begin = λ messages last form. record { taken = omega arith; number = omega arith; front = record { count = 0; not_all = omega arith; front = refl } };
      piece = Gathers-piece;
      more = Gathers-more;
      stays = gathered-form;
    }

-- ---- an end that sends

Sends-hand_out : (messages : ℕ → List ℕ) (s : Sending) (left : Option UnderWay) → Sends messages s → IfSome left (IsUnderWay messages s.number) → Sends messages (hand_out s left).sending
Sends-hand_out messages s None h is = h
Sends-hand_out messages s (Some way) h is =
    let P : Option UnderWay → Type 0 = λ o. IfSome o (IsUnderWay messages s.number) in
    let same : length way.message ≡ length (messages s.number) = ap length is.message in
    record {
      under_way = cond_both (ltb (way.next + 1) (piece_count (length way.message))) (Some (record way { next = way.next + 1 })) None P
          (λ more. record { some = is.some; message = is.message; left = subst (λ (n : ℕ). way.next + 1 < piece_count n) same (ltb-true _ _ more) })
          (λ _. tt);
    }

Sends-next : (messages : ℕ → List ℕ) (s : Sending) → Sends messages s → Sends messages (next_of s).sending
unfolding next_of
Sends-next messages s h = Sends-hand_out messages s s.under_way h h.under_way

abbrev IsSame : Sending → Sending → Type 0
IsSame s now = (now.header ≡ s.header) × (now.number ≡ s.number)

hand_out-same : (s : Sending) (left : Option UnderWay) → IsSame s (hand_out s left).sending
hand_out-same s None = (refl, refl)
hand_out-same s (Some way) = (refl, refl)

next_of-same : (s : Sending) → IsSame s (next_of s).sending
unfolding next_of
next_of-same s = hand_out-same s s.under_way

HandsOut-piece : (messages : ℕ → List ℕ) (s : Sending) (way : UnderWay) → Sends messages s → s.under_way ≡ Some way → HandsOut messages s way.next
HandsOut-piece messages s way h e =
    let is : IsUnderWay messages s.number way = subst (λ (o : Option UnderWay). IfSome o (IsUnderWay messages s.number)) e h.under_way in
    record {
      some = is.some;
      left = is.left;
      bytes = ap (λ (t : Handed). t.datagram) (next_of-under_way s way e) ∙ ap (λ (message : List ℕ). datagram s.header s.number message way.next) is.message;
    }

pub ends_send : EndsSend
ends_send =
    record {
      begin = λ messages form qport. record { under_way = tt };
      start = λ messages s message is. record { under_way = record { some = omega arith; message = sym is; left = omega arith } };
      next = Sends-next;
      stays = next_of-same;
      piece = HandsOut-piece;
      one = λ messages s index h fits sendable. (s.number, index, h.some, fits, sendable, h.left, h.bytes);
    }
