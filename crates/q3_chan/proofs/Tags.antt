-- What a piece does to an end by its tag.
use Rattle.std.proofs.Common.{◌≡◌, ◌+◌, ◌*◌, ◌<◌, ℕ, ltb, leb, eqb, List, [], length, take, refl, sym, subst, inl, inr, arith}
use Rattle.std.proofs.lemmas.Bool.{cond_both, cond-true, eqb-true, ltb-true, leb-false}
use Rattle.q3_chan.specs.declared.gatherer.Gathered.TheVariants.{Partial, Old, OutOfOrder}
use Rattle.q3_chan.specs.Datagrams.{fragment_size, piece_count}
use Rattle.q3_chan.specs.Gathering.{Gathering, Took, answers, arrives, emptied, gathering_of}
use Rattle.q3_chan.specs.Tags.{tag_piece, tag_fragment, tagged, PieceDoes}
use Rattle.q3_chan.specs.Laws.{HoldsFront, TaggedDoes}

-- ---- a gathering, anew if it was of another message

-- what holds of it where it goes on, and where it starts
gathering_of-any : (P : Gathering → Type 0) (g : Gathering) (number : ℕ) → P g → P (record g { number = number; bytes = [] }) → P (gathering_of g number)
gathering_of-any P g number on anew = cond_both (eqb number g.number) g (record g { number = number; bytes = [] }) P (λ _. on) (λ _. anew)

pub gathering_of-number : (g : Gathering) (number : ℕ) → (gathering_of g number).number ≡ number
gathering_of-number g number =
    cond_both (eqb number g.number) g (record g { number = number; bytes = [] }) (λ k. k.number ≡ number) (λ e. sym (eqb-true _ _ e)) (λ _. refl)

pub gathering_of-form : (g : Gathering) (number : ℕ) → (gathering_of g number).form ≡ g.form
gathering_of-form g number = gathering_of-any (λ k. k.form ≡ g.form) g number refl refl

pub gathering_of-taken : (g : Gathering) (number : ℕ) → (gathering_of g number).taken ≡ g.taken
gathering_of-taken g number = gathering_of-any (λ k. k.taken ≡ g.taken) g number refl refl

pub gathering_of-front : (messages : ℕ → List ℕ) (g : Gathering) (number : ℕ) → HoldsFront messages g → HoldsFront messages (gathering_of g number)
gathering_of-front messages g number h = gathering_of-any (HoldsFront messages) g number h (record { count = 0; not_all = omega arith; front = refl })

-- ---- a piece

-- what holds of each outcome of a piece
record HoldsOfEach (P : Took → Type 0) (g : Gathering) (number : ℕ) (message : List ℕ) (index : ℕ) : Type 0 where
  old : P (answers g Old)
  whole : g.taken < number → P (arrives g number message)
  order : P (answers (gathering_of g number) OutOfOrder)
  more : index + 1 < piece_count (length message) → P (answers (record (gathering_of g number) { bytes = take (fragment_size * (index + 1)) message }) Partial)
  last : g.taken < number → P (arrives (emptied (gathering_of g number)) number message)

tagged-each : (P : Took → Type 0) (g : Gathering) (number : ℕ) (message : List ℕ) (index : ℕ) → HoldsOfEach P g number message index → P (tagged g number message index)
unfolding tagged
tagged-each P g number message index each =
    let k = gathering_of g number in
    let more = answers (record k { bytes = take (fragment_size * (index + 1)) message }) Partial in
    let end = arrives (emptied k) number message in
    cond_both (leb number g.taken) (answers g Old) _ P (λ _. each.old) (λ new.
    cond_both (ltb (length message) fragment_size) (arrives g number message) (tag_fragment k number message index) P (λ _. each.whole (leb-false _ _ new)) (λ _.
    cond_both (eqb (fragment_size * index) (length k.bytes)) (tag_piece k number message index) (answers k OutOfOrder) P
    (λ _. cond_both (ltb (index + 1) (piece_count (length message))) more end P (λ e. each.more (ltb-true _ _ e)) (λ _. each.last (leb-false _ _ new))) (λ _. each.order)))

pub tagged_does : TaggedDoes
tagged_does g number message index =
    let form = gathering_of-form g number in
    let taken = gathering_of-taken g number in
    let same = gathering_of-number g number in
    tagged-each (PieceDoes g number message) g number message index (record {
      old = record { form = refl; below = λ limit few fits. few; either = inl (record { quiet = tt; taken = refl }) };
      whole = λ newer. record { form = refl; below = λ limit few fits. few; either = inr (record { newer = newer; answer = refl; message_is = refl; taken = refl }) };
      order = record { form = form; below = λ limit few fits. omega arith; either = inl (record { quiet = tt; taken = taken }) };
      more = λ _. record { form = form; below = λ limit few fits. omega arith; either = inl (record { quiet = tt; taken = taken }) };
      last = λ newer. record { form = form; below = λ limit few fits. omega arith; either = inr (record { newer = newer; answer = refl; message_is = refl; taken = refl }) };
    })

-- what is gathered after a piece is a front again
pub tagged-front : (messages : ℕ → List ℕ) (g : Gathering) (number index : ℕ) → HoldsFront messages g → HoldsFront messages (tagged g number (messages number) index).gathering
tagged-front messages g number index h =
    let k = gathering_of g number in
    let there = gathering_of-front messages g number h in
    let same = sym (gathering_of-number g number) in
    tagged-each (λ t. HoldsFront messages t.gathering) g number (messages number) index (record {
      old = h;
      whole = λ _. record { count = h.count; not_all = h.not_all; front = h.front };
      order = there;
      more = λ more. record {
        count = index + 1;
        not_all = subst (λ (n : ℕ). index + 1 < piece_count (length (messages n))) same more;
        front = subst (λ (n : ℕ). take (fragment_size * (index + 1)) (messages number) ≡ take (fragment_size * (index + 1)) (messages n)) same refl;
      };
      last = λ _. record { count = 0; not_all = omega arith; front = refl };
    })

-- the same of what would be gathered of the message under a number
pub tagged-front_of : (messages : ℕ → List ℕ) (g : Gathering) (number index : ℕ) → HoldsFront messages (gathering_of g number)
    → HoldsFront messages (gathering_of (tagged g number (messages number) index).gathering number)
tagged-front_of messages g number index h =
    let k = gathering_of g number in
    let same = sym (gathering_of-number g number) in
    let again = λ (one : Gathering) (front : HoldsFront messages one). gathering_of-front messages one number front in
    tagged-each (λ t. HoldsFront messages (gathering_of t.gathering number)) g number (messages number) index (record {
      old = h;
      whole = λ _.
          let taken = record g { taken = number } in
          cond_both (eqb number g.number) taken (record taken { number = number; bytes = [] }) (HoldsFront messages)
          (λ e.
          let front = subst (HoldsFront messages) (cond-true (eqb number g.number) g (record g { number = number; bytes = [] }) e) h in
          record { count = front.count; not_all = front.not_all; front = front.front })
          (λ _. record { count = 0; not_all = omega arith; front = refl });
      order = again k h;
      more = λ more. again (record k { bytes = take (fragment_size * (index + 1)) (messages number) }) (record {
        count = index + 1;
        not_all = subst (λ (n : ℕ). index + 1 < piece_count (length (messages n))) same more;
        front = subst (λ (n : ℕ). take (fragment_size * (index + 1)) (messages number) ≡ take (fragment_size * (index + 1)) (messages n)) same refl;
      });
      last = λ _. again (record (emptied k) { taken = number }) (record { count = 0; not_all = omega arith; front = refl });
    })
