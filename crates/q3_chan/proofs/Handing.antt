-- What an end that sends hands out, and what is left after it.
use Rattle.std.proofs.Common.{◌≡◌, ◌+◌, ◌/◌, ◌∙◌, ℕ, zero, suc, true, false, ltb, cond, List, ◌∷◌, length, map, Option, Some, None, refl, sym, ap, subst, add-one, arith}
use Rattle.std.specs.Option.{option_map}
use Rattle.std.specs.List.{range_with_len}
use Rattle.std.proofs.lemmas.Bool.{cond-true, cond-false, lt-ltb, le-ltb}
use Rattle.q3_chan.specs.Datagrams.{fragment_size, piece_count, datagram, datagrams}
use Rattle.q3_chan.specs.Sending.{Sending, UnderWay, Handed, IsIdle, left_of, hand_out, next_of, started, handed_out, sending_after}
use Rattle.q3_chan.specs.Laws.{HandsOutAll}

-- what is handed out of an end with a message under way
pub next_of-under_way : (s : Sending) (left : UnderWay) → s.under_way ≡ Some left → next_of s ≡ hand_out s (Some left)
unfolding next_of
next_of-under_way s left is = ap (hand_out s) is

-- what is left after a piece, by the index of the next
pub left_of-index : (message : List ℕ) (index : ℕ) (next : Option ℕ) → next ≡ cond (ltb (index + 1) (piece_count (length message))) (Some (index + 1)) None
    → left_of (record { message = message; next = index }) ≡ option_map (λ i. record { message = message; next = i }) next
left_of-index message index next is =
    let shown : Option ℕ → Option UnderWay = option_map (λ i. record { message = message; next = i }) in
    elim (ltb (index + 1) (piece_count (length message))) as (λ b. cond b (Some (record { message = message; next = index + 1 })) None ≡ shown (cond b (Some (index + 1)) None)) [ true ↦ refl | false ↦ refl ]
    ∙ ap shown (sym is)

-- so many calls hand out the datagrams from an index on, and leave nothing
record HasHandedOut (count index : ℕ) (s : Sending) (message : List ℕ) : Type 0 where
  out : handed_out count s ≡ map (datagram s.header s.number message) (range_with_len index count)
  idle : IsIdle (sending_after count s)

HasHandedOut-next : (count index : ℕ) (s : Sending) (message : List ℕ) → s.under_way ≡ Some (record { message = message; next = index })
    → HasHandedOut count (index + 1) (record s { under_way = left_of (record { message = message; next = index }) }) message → HasHandedOut (suc count) index s message
unfolding handed_out sending_after
HasHandedOut-next count index s message is h =
    let handed = next_of-under_way s (record { message = message; next = index }) is in
    record {
      out = ap (λ (t : Handed). t.datagram ∷ handed_out count t.sending) handed ∙ ap (λ (rest : List (List ℕ)). datagram s.header s.number message index ∷ rest) h.out;
      idle = ap (λ (t : Handed). (sending_after count t.sending).under_way) handed ∙ h.idle;
    }

HasHandedOut-all : (count index : ℕ) (s : Sending) (message : List ℕ) → s.under_way ≡ Some (record { message = message; next = index }) → index + suc count ≡ piece_count (length message)
    → HasHandedOut (suc count) index s message
unfolding handed_out sending_after
HasHandedOut-all zero index s message is all =
    HasHandedOut-next zero index s message is (record {
      out = refl;
      idle = cond-false (ltb (index + 1) (piece_count (length message))) _ _ (le-ltb _ _ (omega arith));
    })
HasHandedOut-all (suc count) index s message is all =
    HasHandedOut-next (suc count) index s message is
    (HasHandedOut-all count (index + 1) _ message (cond-true (ltb (index + 1) (piece_count (length message))) _ _ (lt-ltb _ _ (omega arith))) (omega arith))

pub hands_out_all : HandsOutAll
unfolding datagrams
hands_out_all s message idle =
    let count = length message / fragment_size in
    let h = HasHandedOut-all count 0 (started s message) message refl (omega arith) in
    let P : ℕ → Type 0 = λ n. (handed_out n (started s message) ≡ map (datagram s.header (s.number + 1) message) (range_with_len 0 n)) × IsIdle (sending_after n (started s message)) in
    subst P (sym (add-one count)) (h.out, h.idle)
