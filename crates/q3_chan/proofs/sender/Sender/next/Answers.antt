use Rattle.std.proofs.Common.{◌≡◌, ◌+◌, ◌∙◌, ℕ, ltb, cond, List, length, take, Option, Some, None, sym, ap}
use Rattle.std.specs.Option.{option_map}
use Rattle.q3_chan.specs.Datagrams.{piece_count, datagram}
use Rattle.q3_chan.specs.Sending.{Sending, UnderWay, next_of}
use Rattle.q3_chan.specs.Buffers.{sending_of}
use Rattle.q3_chan.proofs.Handing.{next_of-under_way, left_of-index}
use Rattle.q3_chan.proofs.sender.Sender.next.Goals as goal

pub returns-in-Some-clause-next : goal.returns-in-Some-clause-next
returns-in-Some-clause-next c =
    let kept = c.self.inside in
    let s : Sending = sending_of kept in
    let index = c.in-Some.index in
    let message : List ℕ = take kept.count kept.buffer.items in
    let same : take kept.count c.deref.result.now ≡ message = ap (take kept.count) c.deref.ensures.value in
    let behind : Option ℕ = c.index_after-self-inside.result in
    let next : behind ≡ cond (ltb (index + 1) (piece_count (length message))) (Some (index + 1)) None =
    c.index_after-self-inside.ensures ∙ ap (λ (m : List ℕ). cond (ltb (index + 1) (piece_count (length m))) (Some (index + 1)) None) same in
    let sent : c.write_datagram.new.out.items ≡ datagram s.header s.number message index =
    c.write_datagram.ensures.bytes ∙ ap (λ (m : List ℕ). datagram s.header s.number m index) same in
    let after : Option UnderWay = option_map (λ i. record { message = message; next = i }) behind in
    ap next_of (sym c.self.view_is)
    ∙ next_of-under_way s (record { message = message; next = index }) (ap (option_map (λ i. record { message = message; next = i })) c.in-Some.is)
    ∙ ap (λ (left : Option UnderWay). record { sending = record s { under_way = left }; datagram = datagram s.header s.number message index }) (left_of-index message index behind next)
    ∙ ap (λ (bytes : List ℕ). record { sending = record s { under_way = after }; datagram = bytes }) (sym sent)
