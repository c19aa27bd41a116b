-- What a datagram may do.
use Rattle.std.proofs.Common.{◌≡◌, ◌+◌, ◌≤◌, ℕ, true, false, ltb, leb, eqb, List, ◌++◌, length, take, subst, arith}
use Rattle.std.proofs.lemmas.Bool.{cond_both, or_parts, ltb-false, eqb-true}
use Rattle.std.proofs.lemmas.List.{length-append, length-take-le}
use Rattle.q3_chan.specs.declared.form.Form.{Form}
use Rattle.q3_chan.specs.declared.gatherer.Gathered.{Gathered}
use Rattle.q3_chan.specs.declared.gatherer.Gathered.TheVariants.{Whole, Partial, Old, OutOfOrder, BadFragment, BadCheck, Runt, Connectionless}
use Rattle.q3_chan.specs.Datagrams.{fragment_size, longest_message, is_fragment, number_in, length_of, has_bad_check, start_in, count_in, after_header}
use Rattle.q3_chan.specs.Gathering.{Gathering, Took, answers, arrives, emptied, gathering_of, add_piece, take_piece, take_fragment, take_whole, take_newer, is_connectionless, gathered}

-- an answer that no message comes with
abbrev pub NotWhole : Gathered → Type 0
NotWhole (Whole number count) = ⊥
NotWhole Partial = Unit {0}
NotWhole Old = Unit {0}
NotWhole OutOfOrder = Unit {0}
NotWhole BadFragment = Unit {0}
NotWhole BadCheck = Unit {0}
NotWhole Runt = Unit {0}
NotWhole Connectionless = Unit {0}

-- the piece of a fragment
abbrev pub piece_in : Form → List ℕ → List ℕ
piece_in form bytes = take (count_in form bytes) (after_header form bytes)

-- a fragment whose piece is taken
pub record IsTaken (g : Gathering) (bytes : List ℕ) : Type 0 where
  pub fragment : is_fragment bytes ≡ true
  pub start : start_in g.form bytes ≡ length (gathering_of g (number_in bytes)).bytes
  pub size : count_in g.form bytes ≤ fragment_size
  pub count : count_in g.form bytes ≤ length (after_header g.form bytes)
  pub most : length (gathering_of g (number_in bytes)).bytes + count_in g.form bytes ≤ longest_message

-- what holds of each outcome of a datagram
pub record HoldsOfEach (P : Took → Type 0) (g : Gathering) (bytes : List ℕ) : Type 0 where
  pub none : (a : Gathered) → NotWhole a → P (answers g a)
  pub whole : is_fragment bytes ≡ false → length (after_header g.form bytes) ≤ longest_message → P (arrives g (number_in bytes) (after_header g.form bytes))
  pub gathers : (a : Gathered) → NotWhole a → P (answers (gathering_of g (number_in bytes)) a)
  pub adds : IsTaken g bytes → P (add_piece (gathering_of g (number_in bytes)) (piece_in g.form bytes))

take_fragment-each : (P : Took → Type 0) (g : Gathering) (bytes : List ℕ) → is_fragment bytes ≡ true → HoldsOfEach P g bytes
    → P (take_fragment (gathering_of g (number_in bytes)) (start_in g.form bytes) (count_in g.form bytes) (after_header g.form bytes))
take_fragment-each P g bytes fragment each =
    let k = gathering_of g (number_in bytes) in
    let start = start_in g.form bytes in
    let count = count_in g.form bytes in
    let there = after_header g.form bytes in
    cond_both (eqb start (length k.bytes)) (take_piece k count there) (answers k OutOfOrder) P
    (λ starts. cond_both _ (answers k BadFragment) (add_piece k (take count there)) P
    (λ _. each.gathers BadFragment tt)
    (λ fits. each.adds (record {
      fragment = fragment;
      start = eqb-true _ _ starts;
      size = ltb-false _ _ (or_parts _ _ (or_parts _ _ fits).0).0;
      count = ltb-false _ _ (or_parts _ _ (or_parts _ _ fits).0).1;
      most = ltb-false _ _ (or_parts _ _ fits).1;
    })))
    (λ _. each.gathers OutOfOrder tt)

take_newer-each : (P : Took → Type 0) (g : Gathering) (bytes : List ℕ) → HoldsOfEach P g bytes → P (take_newer g bytes)
take_newer-each P g bytes each =
    let after = after_header g.form bytes in
    cond_both (is_fragment bytes) _ (take_whole g (number_in bytes) after) P
    (λ fragment. take_fragment-each P g bytes fragment each)
    (λ whole. cond_both (ltb longest_message (length after)) (answers g BadFragment) (arrives g (number_in bytes) after) P (λ _. each.none BadFragment tt) (λ most. each.whole whole (ltb-false _ _ most)))

pub gathered-each : (P : Took → Type 0) (g : Gathering) (bytes : List ℕ) → HoldsOfEach P g bytes → P (gathered g bytes)
unfolding gathered
gathered-each P g bytes each =
    cond_both (ltb (length bytes) 4) (answers g Runt) _ P (λ _. each.none Runt tt) (λ _.
    cond_both (is_connectionless bytes) (answers g Connectionless) _ P (λ _. each.none Connectionless tt) (λ _.
    cond_both (ltb (length bytes) (length_of g.form (is_fragment bytes))) (answers g Runt) _ P (λ _. each.none Runt tt) (λ _.
    cond_both (has_bad_check g.form.side g.form.check bytes) (answers g BadCheck) _ P (λ _. each.none BadCheck tt) (λ _.
    cond_both (leb (number_in bytes) g.taken) (answers g Old) (take_newer g bytes) P (λ _. each.none Old tt) (λ _. take_newer-each P g bytes each)))))

-- what comes whole is within the longest message
pub whole-within : (g : Gathering) (bytes : List ℕ) (number count : ℕ) → (take_newer g bytes).answer ≡ Whole number count → count ≤ longest_message
whole-within g bytes number count =
    let P : Took → Type 0 = λ t. t.answer ≡ Whole number count → count ≤ longest_message in
    let k = gathering_of g (number_in bytes) in
    let piece = piece_in g.form bytes in
    take_newer-each P g bytes (record {
      none = λ a not e. absurd (subst NotWhole e not);
      whole = λ _ most e. let is : length (after_header g.form bytes) ≡ count = cc in omega arith;
      gathers = λ a not e. absurd (subst NotWhole e not);
      adds = λ taken. cond_both (ltb (length piece) fragment_size) (arrives (emptied k) k.number (k.bytes ++ piece)) (answers (record k { bytes = k.bytes ++ piece }) Partial) P
          (λ _ e.
          let is : length (k.bytes ++ piece) ≡ count = cc in
          omega (arith, taken.most, length-append k.bytes piece, length-take-le (count_in g.form bytes) (after_header g.form bytes) taken.count))
          (λ _ e. absurd cc);
    })
