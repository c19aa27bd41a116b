-- A message that comes whole is newer than all that were taken, and short enough.
use Rattle.std.proofs.Common.{◌≡◌, ℕ, ◌+◌, ◌^◌, ◌<◌, ◌≤◌, List, [], ◌++◌, length, take, refl, arith}
use Rattle.std.specs.Prelude.{◌==◌, ◌||◌, nat_lt, nat_le, if◌then◌else◌}
use Rattle.std.proofs.lemmas.Bool.{cond_both, eqb-true, leb-false, ltb-false, or_parts}
use Rattle.std.proofs.lemmas.List.{length-take, length-append}
use Rattle.q3_chan.specs.declared.gatherer.Gathered.{Gathered}
use Rattle.q3_chan.specs.declared.gatherer.Gathered.TheVariants as gathered
use Rattle.q3_chan.specs.Datagrams.{fragment_size, longest_message, is_fragment, number_in, length_of, has_bad_check, start_in, count_in, after_header}
use Rattle.q3_chan.specs.Gathering.{Gathering, Took, answers as gathers, arrives, emptied, gathering_of, take_whole, add_piece, take_piece, take_fragment, take_newer, is_connectionless, gathered as gathered_of}

-- the newest number taken is that of a message that came whole, which is newer and short, or the one before
abbrev pub IsDone : ℕ → Took → Gathered → Type 0
IsDone last came (gathered.Whole number count) = (came.gathering.taken ≡ number) × (last < number) × (number < 2 ^ 31) × (length came.message ≤ longest_message)
IsDone last came other = came.gathering.taken ≡ last

abbrev Done : ℕ → Took → Type 0
Done last came = IsDone last came came.answer

-- after the number taken last, a newer one is gathered
record Gathers (last : ℕ) (g : Gathering) : Type 0 where
  taken : g.taken ≡ last
  newer : last < g.number
  fits : g.number < 2 ^ 31

piece_done : (last : ℕ) (g : Gathering) (piece : List ℕ) → Gathers last g → length g.bytes + length piece ≤ longest_message → Done last (add_piece g piece)
piece_done last g piece has short =
    cond_both (nat_lt (length piece) fragment_size) (arrives (emptied g) g.number (g.bytes ++ piece)) (gathers (record g { bytes = g.bytes ++ piece }) gathered.Partial)
    (Done last) (λ e. let long = length-append g.bytes piece in let fits : length (g.bytes ++ piece) ≤ longest_message = omega (arith, short, long) in (refl, has.newer, has.fits, fits)) (λ e. has.taken)

there_done : (last : ℕ) (g : Gathering) (count : ℕ) (there : List ℕ) → Gathers last g → Done last (take_piece g count there)
there_done last g count there has =
    cond_both (nat_lt fragment_size count || nat_lt (length there) count || nat_lt longest_message (length g.bytes + count)) (gathers g gathered.BadFragment) (add_piece g (take count there))
    (Done last) (λ e. has.taken)
    (λ e. let long = nat_lt fragment_size count || nat_lt (length there) count in
    let short = ltb-false longest_message (length g.bytes + count) (or_parts long (nat_lt longest_message (length g.bytes + count)) e).1 in
    let taken = length-take count there in
    piece_done last g (take count there) has (omega (arith, short, taken)))

fragment_done : (last : ℕ) (g : Gathering) (start count : ℕ) (there : List ℕ) → Gathers last g → Done last (take_fragment g start count there)
fragment_done last g start count there has =
    cond_both (start == length g.bytes) (take_piece g count there) (gathers g gathered.OutOfOrder) (Done last)
    (λ e. there_done last g count there has) (λ e. has.taken)

newer_done : (g : Gathering) (datagram : List ℕ) → g.taken < number_in datagram → Done g.taken (take_newer g datagram)
newer_done g datagram newer =
    let n = number_in datagram in
    let fits : n < 2 ^ 31 = omega arith in
    let message = after_header g.form datagram in
    let now = gathering_of g n in
    let has : Gathers g.taken now = cond_both (n == g.number) g (record g { number = n; bytes = [] }) (Gathers g.taken)
    (λ same. let e = eqb-true n g.number same in record { taken = refl; newer = omega (arith, e, newer); fits = omega (arith, e, fits) }) (λ other. record { taken = refl; newer = newer; fits = fits }) in
    cond_both (is_fragment datagram) (take_fragment now (start_in g.form datagram) (count_in g.form datagram) message) (take_whole g n message) (Done g.taken)
    (λ e. fragment_done g.taken now (start_in g.form datagram) (count_in g.form datagram) message has)
    (λ e. cond_both (nat_lt longest_message (length message)) (gathers g gathered.BadFragment) (arrives g n message) (Done g.taken) (λ long. refl)
    (λ short. let few = ltb-false _ _ short in (refl, newer, fits, few)))

pub gathered_done : (g : Gathering) (datagram : List ℕ) → Done g.taken (gathered_of g datagram)
unfolding gathered_of
gathered_done g datagram =
    let newer : Took = if nat_le (number_in datagram) g.taken then gathers g gathered.Old else take_newer g datagram in
    let checked : Took = if has_bad_check g.form.side g.form.check datagram then gathers g gathered.BadCheck else newer in
    let headed : Took = if nat_lt (length datagram) (length_of g.form (is_fragment datagram)) then gathers g gathered.Runt else checked in
    let bare : Took = if is_connectionless datagram then gathers g gathered.Connectionless else headed in
    cond_both (nat_lt (length datagram) 4) (gathers g gathered.Runt) bare (Done g.taken) (λ e. refl)
    (λ e. cond_both (is_connectionless datagram) (gathers g gathered.Connectionless) headed (Done g.taken) (λ e. refl)
    (λ e. cond_both (nat_lt (length datagram) (length_of g.form (is_fragment datagram))) (gathers g gathered.Runt) checked (Done g.taken) (λ e. refl)
    (λ e. cond_both (has_bad_check g.form.side g.form.check datagram) (gathers g gathered.BadCheck) newer (Done g.taken) (λ e. refl)
    (λ e. cond_both (nat_le (number_in datagram) g.taken) (gathers g gathered.Old) (take_newer g datagram) (Done g.taken) (λ e. refl)
    (λ new. newer_done g datagram (leb-false _ _ new))))))
